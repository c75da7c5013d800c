-- The columns that the reading of a request leaves: its entries' ids and quotas, and its trees.
use mathlib.Core.Path.{◌≡◌, refl, ap, ap₂, sym, ◌∙◌}
use mathlib.Core.List.{List, [], ◌∷◌, ◌++◌, map, map-append}
use mathlib.Core.Bool.{Bool}
use Prim.Native.Nat.{ℕ, suc, ◌+◌, ◌≤◌}
use native.Mathlib.Omega.{arith}
use native.Mathlib.Numerals.{add-one}
use native.Mathlib.Nat.{add-zero, add-suc, suc-add}
use lib.ListN.{length, set, drop, length-map}
use lib.Seq.{sets, sets-eq}
use borrow.Author.Tests.{le-leb}
use Rattle.rules.specs.Answers.{Answer, answer, refused}
use Rattle.rules.specs.Limits.{greatest}
use Rattle.request.specs.Entries.{Entry, quota}
use Rattle.request.specs.Forest.{Forest, none, tree, Direction, pre_l}
use Rattle.request.specs.Numbering.{whole, size}
use Rattle.request.specs.Request.{Request}
use Rattle.reading.specs.declared.columns.Work.{Work}
use Rattle.reading.specs.Work.{enter, filled, work_after}
use Rattle.reading.specs.Inside.Work.{direction_by}
use Rattle.numbering.specs.Numbered.{EntriesIn}
use Rattle.numbering.specs.Inside.Boxed.{numbers_of}
use Rattle.request.proofs.Numbering.{size_length}

sets_append : (s : List ℕ) (at : ℕ) (v w : List ℕ) → sets s at (v ++ w) ≡ sets (sets s at v) (at + length v) w
sets_append s at [] w = rw add-zero
sets_append s at (x ∷ v) w = rw (add-suc, ← suc-add) (sets_append (set s at x) (suc at) v w)

-- one of the columns, read off the work columns by `of`; `f` is what an entry has there
module _ (of : Work → List ℕ) (f : Entry → ℕ)
    (entered : (w : Work) (at : ℕ) (e : Entry) (end sum : ℕ) → of (enter w at e.id (quota e) end sum) ≡ set (of w) at (f e)) where
  filled_column : (w : Work) (at : ℕ) (t : Forest) → of (filled w at t) ≡ sets (of w) at (map f (pre_l t))
  filled_column w at none = refl
  filled_column w at (tree e c r) =
      let v = enter w at e.id (quota e) (at + 1 + size c) (quota e + whole c) in
      let n : at + 1 + size c ≡ suc at + length (map f (pre_l c)) = omega (arith, length-map (pre_l c) f, size_length c) in
      filled_column (filled v (at + 1) c) (at + 1 + size c) r
      ∙ ap₂ (λ s k. sets s k (map f (pre_l r))) (filled_column v (at + 1) c ∙ ap₂ (λ s k. sets s k (map f (pre_l c))) (entered w at e _ _) (add-one at)) n
      ∙ sym (sets_append (set (of w) at (f e)) (suc at) (map f (pre_l c)) (map f (pre_l r)))
      ∙ ap (λ s. sets (set (of w) at (f e)) (suc at) s) (sym (map-append f (pre_l c) (pre_l r)))

pub filled_ids : (w : Work) (t : Forest) → (filled w 0 t).ids ≡ sets w.ids 0 (map (λ e. e.id) (pre_l t))
filled_ids w t = filled_column (λ w. w.ids) (λ e. e.id) (λ w at e end sum. refl) w 0 t

filled_quotas : (w : Work) (t : Forest) → (filled w 0 t).quotas ≡ sets w.quotas 0 (map quota (pre_l t))
filled_quotas w t = filled_column (λ w. w.quotas) quota (λ w at e end sum. refl) w 0 t

-- the work columns after a request was read have its entries' ids and quotas
pub entries_after_lem : (found : Answer Request) (w v : Work) → v ≡ work_after found w → EntriesIn found w.ids v.ids w.quotas v.quotas
entries_after_lem (answer q) w v e = (ap (λ (u : Work). u.ids) e ∙ filled_ids w q.trees, ap (λ (u : Work). u.quotas) e ∙ filled_quotas w q.trees)
entries_after_lem (refused n) w v e = (ap (λ (u : Work). u.ids) e, ap (λ (u : Work). u.quotas) e)

-- the numbers that the walk gave out stand at the front of a column, and what it had past them stays
pub numbered : (s ys : List ℕ) (n : ℕ) (numbers : Direction → ℕ → Forest → List ℕ) (up : Bool) (t : Forest) → ys ≡ numbers (direction_by up) 0 t → whole t ≤ greatest
    → length ys ≡ n → n ≤ length s → ys ++ drop n s ≡ sets s 0 (numbers_of numbers up t)
numbered s ys n numbers up t e h k m =
    let z : n ≡ 0 + length ys = omega arith in
    rw (le-leb (whole t) greatest h, ← e) (ap (λ i. ys ++ drop i s) z ∙ sym (sets-eq ys s 0 (omega arith)))
