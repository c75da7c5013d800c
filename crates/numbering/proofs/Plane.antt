-- The trees that a reading leaves in the work columns, and their numbers in a plane of the request's own.
use Rattle.std.proofs.Common.{◌≡◌, ℕ, List, ◌-◌, ap, sym, ◌∙◌, subst, arith}
use Rattle.rules.specs.Buffers.{Bytes}
use Rattle.rules.specs.Limits.{most_entries}
use Rattle.request.specs.Forest.{Forest}
use Rattle.request.specs.Numbering.{whole, size, lefts, rights}
use Rattle.request.specs.Reading.{request_of}
use Rattle.request.proofs.ReadLaws.{request_legal}
use Rattle.reading.specs.declared.Summary.{Summary}
use Rattle.reading.specs.declared.columns.Work.{Work}
use Rattle.reading.specs.Work.{Places}
use Rattle.reading.specs.Inside.Work.{TreesIn}
use Rattle.reading.proofs.Received.{filled_back, filled_in, Received}
use Rattle.numbering.specs.Numbered.{left_numbers, right_numbers}
use Rattle.numbering.specs.Inside.Boxed.{forest_in, Held, numbers_of}
use Rattle.numbering.proofs.NumberingLaws.{forest_back}

module _ {bytes : List ℕ} {w v : Work} (s : Summary) (b : Bytes bytes) (r : Received bytes w v s.exploded s.upright s.entries s.quota) (p : Places most_entries v) where
  abbrev t : Forest
  t = r.request.trees

  stand : TreesIn v 0 t
  stand =
      let back = filled_back w 0 t (subst (Places most_entries) r.written p) in
      subst (λ (u : Work). TreesIn u 0 t) (sym r.written) (filled_in w 0 t back (omega (arith, r.entries_are, r.entries_most)) (request_legal bytes b r.is).trees)

  forest_is : forest_in v 0 s.entries ≡ t
  forest_is = forest_back (s.entries - 0) v 0 s.entries t stand (omega (arith, r.entries_are)) (omega (arith, r.entries_are))

  pub held : Held v s.entries s.quota
  held = record { stored = rw forest_is stand; ends_at = r.entries_are ∙ sym (ap size forest_is); fits = r.quota_is ∙ sym (ap whole forest_is) }

  pub lefts_back : numbers_of lefts s.upright (forest_in v 0 s.entries) ≡ left_numbers (request_of bytes)
  lefts_back = rw (forest_is, r.is, r.direction_is)

  pub rights_back : numbers_of rights s.upright (forest_in v 0 s.entries) ≡ right_numbers (request_of bytes)
  rights_back = rw (forest_is, r.is, r.direction_is)
