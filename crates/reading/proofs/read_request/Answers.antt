-- Work columns that were filled keep their places.
use Rattle.std.proofs.Common.{arith}
use Rattle.rules.specs.Capacities.{entry_capacity}
use Rattle.request.specs.Reading.{request_of}
use Rattle.reading.specs.Work.{Places}
use Rattle.reading.proofs.Received.{kept_places}
use Rattle.reading.proofs.read_request.Goals as goal

pub returns-else-is_err-clause-places : goal.returns-else-is_err-clause-places
returns-else-is_err-clause-places c =
    let p : Places entry_capacity c.args.work.now = record { in_ids = omega arith; in_quotas = omega arith; in_ends = omega arith; in_sums = omega arith } in
    kept_places (request_of c.args.bytes.now) c.read_parts-read.result _ _ c.if-is_err.ensures.value c.read_parts-read.ensures.result_value
    c.read_parts-read.ensures.request_in p
