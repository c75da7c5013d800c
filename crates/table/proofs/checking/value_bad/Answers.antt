-- `table::checking::value_bad` meets its contract. A range from 1 on to the greatest number has the range of q numbers from n on
-- where n is not 0 and n + q is at most the greatest number and one.
use mathlib.Core.Path.{◌≡◌, refl, ap₂, ◌∙◌}
use mathlib.Core.Bool.{Bool, true, false, not, ◌&&◌, ◌||◌}
use Prim.Native.Nat.{ℕ, ◌+◌, ◌-◌}
use native.Mathlib.Omega.{arith}
use lib.Dec.{eqb, leb, ltb}
use borrow.Author.Tests.{lt-ltb, le-ltb, lt-leb, le-leb, eq-eqb, ne_eqb}
use Rattle.rules.specs.Limits.{greatest}
use Rattle.rules.proofs.Cases.{by_lt, by_eq}
use Rattle.coordinates.specs.Coordinates.{within}
use Rattle.boxes.specs.Boxes.{contains, box_of}
use Rattle.table.specs.declared.Row.{Row}
use Rattle.table.specs.Check.{value_bad}
use Rattle.table.proofs.checking.value_bad.Goals as goal

none : (n : ℕ) → leb 1 n ≡ not (eqb n 0)
none n = by_eq n 0 (λ e. rw (eq-eqb n 0 e, lt-leb 1 n (omega arith))) (λ e. rw (ne_eqb n 0 e, le-leb 1 n (omega arith)))

past : (g n : ℕ) → leb n (1 + g) ≡ not (ltb g (n - 1))
past g n = by_lt (g + 1) n (λ h. rw (lt-ltb g (n - 1) (omega arith), lt-leb n (1 + g) (omega arith))) (λ h. rw (le-ltb g (n - 1) (omega arith), le-leb n (1 + g) (omega arith)))

in_plane : (n q : ℕ) → within 1 greatest n q ≡ (not (eqb n 0) && not (ltb greatest (n + q - 1)))
unfolding within
in_plane n q = ap₂ ◌&&◌ (none n) (past greatest (n + q))

parts : (a l r q m n : Bool) → (a || (q || not ((not l && not m) && (not r && not n)))) ≡ (a || (l || (r || (q || (m || n)))))
parts true l r q m n = refl
parts false true true true m n = refl
parts false true true false m n = refl
parts false true false true m n = refl
parts false true false false m n = refl
parts false false true true m n = refl
parts false false true false true n = refl
parts false false true false false n = refl
parts false false false true m n = refl
parts false false false false true n = refl
parts false false false false false true = refl
parts false false false false false false = refl

value_bad_lem : (w : Row) → (eqb w.id 0 || (eqb w.q 0 || not (contains (box_of 1 1 greatest) (box_of w.l w.r w.q)))) ≡ value_bad w
unfolding contains value_bad
value_bad_lem w =
    rw (in_plane w.l w.q, in_plane w.r w.q)
    (parts (eqb w.id 0) (eqb w.l 0) (eqb w.r 0) (eqb w.q 0) (ltb greatest (w.l + w.q - 1)) (ltb greatest (w.r + w.q - 1)))

pub returns : goal.returns
returns c = rw (c.contains.ensures ∙ ap₂ contains c.new-plane.ensures c.new.ensures) (value_bad_lem _)
