-- What a reading of the grant list gives from one of its items on, with a tally of the grants before it.
use mathlib.Core.Path.{◌≡◌, refl, ap}
use mathlib.Core.Bool.{true, false}
use mathlib.Core.List.{List, [], ◌∷◌}
use Prim.Native.Nat.{ℕ}
use Rattle.rules.specs.Answers.{Answer, answer, refused, then}
use Rattle.grant.specs.Grant.{Grant}
use Rattle.grant.specs.Items.{items_of}
use Rattle.grant.proofs.Items.{judged_list}
use Rattle.grant.proofs.Items as items
use Rattle.matching.specs.Matching.{window, windows, applies_to}
use Rattle.dating.specs.Inside.Tally.{count_in, counted_in}
use Rattle.decide.specs.Inside.ListReading.{list_read}
use Rattle.dating.specs.declared.Tally.{Tally}

module _ (feature l r day : ℕ) where
  abbrev with_list : Tally → Answer (List Grant) → Answer Tally
  with_list t list = then list λ gs. answer (counted_in day t (windows window (applies_to feature l r) gs))

  unfoldable pub outcome : List (Answer Grant) → Tally → Answer Tally
  outcome left t = with_list t (judged_list answer left)

  pub outcome_ends : {left : List (Answer Grant)} (t : Tally) → left ≡ [] → outcome left t ≡ answer t
  unfolding outcome judged_list windows counted_in
  outcome_ends t e = rw e

  pub outcome_refused : {left rest : List (Answer Grant)} {n : ℕ} (t : Tally) → left ≡ refused n ∷ rest → outcome left t ≡ refused n
  unfolding outcome judged_list
  outcome_refused t e = rw e

  -- a grant that applies is counted in, another one is not
  pub outcome_applies : {left rest : List (Answer Grant)} {g : Grant} (t : Tally) → left ≡ answer g ∷ rest → applies_to feature l r g ≡ true
      → outcome left t ≡ outcome rest (count_in day t (window g))
  unfolding outcome judged_list windows counted_in
  outcome_applies {rest = rest} {g} t e y = rw e (go (judged_list answer rest))
    where
      go : (list : Answer (List Grant)) → with_list t (then list λ gs. answer (g ∷ gs)) ≡ with_list (count_in day t (window g)) list
      go (answer gs) = rw y
      go (refused n) = refl

  pub outcome_other : {left rest : List (Answer Grant)} {g : Grant} (t : Tally) → left ≡ answer g ∷ rest → applies_to feature l r g ≡ false → outcome left t ≡ outcome rest t
  unfolding outcome judged_list windows counted_in
  outcome_other {rest = rest} {g} t e y = rw e (go (judged_list answer rest))
    where
      go : (list : Answer (List Grant)) → with_list t (then list λ gs. answer (g ∷ gs)) ≡ with_list t list
      go (answer gs) = rw y
      go (refused n) = refl

  -- all of them are the whole reading
  pub outcome_whole : (bytes : List ℕ) (t : Tally) → outcome (items_of bytes) t ≡ list_read feature l r day bytes t
  unfolding outcome list_read
  outcome_whole bytes t = ap (with_list t) (items.list_read bytes)
