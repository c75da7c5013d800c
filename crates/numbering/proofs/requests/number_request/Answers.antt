-- The request is read, and its entries are numbered.
use Rattle.std.proofs.Common.{List, ℕ, ◌∙◌, ap, arith}
use Rattle.std.proofs.lemmas.List.Edits.{sets}
use Rattle.request.specs.Reading.{request_of}
use Rattle.reading.proofs.Received.{received}
use Rattle.numbering.proofs.Columns.{entries_after_lem}
use Rattle.numbering.proofs.Plane.{held, lefts_back, rights_back}
use Rattle.numbering.proofs.requests.number_request.Goals as goal

pub number_entries-requires : goal.number_entries-requires
number_entries-requires c =
    let e = c.in_ok-read.ensures in
    let r = received c.args.bytes.now c.args.numbered.now.work c.read_request.new.work e.result_value e.sums_value in
    record {
      entries_in_bounds = (omega (arith, r.entries_most), omega (arith, r.entries_most), omega (arith, r.entries_most));
      held = held c.in_ok-read.read (λ i. omega (arith, c.type_inv.bytes i)) r e.places;
    }

pub returns-clause-entries_in : goal.returns-clause-entries_in
returns-clause-entries_in c = entries_after_lem (request_of c.args.bytes.now) c.args.numbered.now.work c.read_request.new.work c.in_ok-read.ensures.sums_value

pub returns-clause-begins : goal.returns-clause-begins
returns-clause-begins c =
    let e = c.in_ok-read.ensures in
    let r = received c.args.bytes.now c.args.numbered.now.work c.read_request.new.work e.result_value e.sums_value in (
      c.number_entries.ensures.begins
          ∙ ap (λ (s : List ℕ). sets c.args.numbered.now.l 0 s) (lefts_back c.in_ok-read.read (λ i. omega (arith, c.type_inv.bytes i)) r e.places),
      c.number_entries.ensures.begins_2
          ∙ ap (λ (s : List ℕ). sets c.args.numbered.now.r 0 s) (rights_back c.in_ok-read.read (λ i. omega (arith, c.type_inv.bytes i)) r e.places),
    )
