-- A sequence from its end: post-order is the reverse of the other pre-order, and what stands before an entry there stands after it here.
use mathlib.Core.Path.{◌≡◌, refl, ap, ap₂, sym, ◌∙◌}
use mathlib.Core.Bool.{Bool, true, false}
use mathlib.Core.List.{List, [], ◌∷◌, ◌++◌, reverse, reverse-cons, reverse-append, append_assoc}
use mathlib.Core.Logic.{◌↔◌, inl, inr}
use Prim.Native.Nat.{ℕ, ◌+◌, ◌≤◌}
use native.Mathlib.Omega.{arith}
use lib.Dec.{eqb}
use Rattle.rules.proofs.Cases.{by_eq}
use Rattle.rules.proofs.Ranges.{Clear}
use Rattle.request.specs.Entries.{Entry, pick, quota, one_at, total, times, quota_of, before, Same, Positive}
use Rattle.request.specs.Forest.{Forest, none, tree, pre_l, pre_r, post_l, post_r}
use Rattle.request.proofs.Sums.{sum_append, before_left, before_right, before_here, quota_none, positive_quota, apart}

pub post_l_reverse : (t : Forest) → post_l t ≡ reverse (pre_r t)
post_l_reverse none = refl
post_l_reverse (tree w c r) =
    ap₂ (λ a b. a ++ w ∷ b) (post_l_reverse c) (post_l_reverse r)
    ∙ sym (reverse-append (pre_r r) (w ∷ pre_r c) ∙ ap (λ l. l ++ reverse (pre_r r)) (reverse-cons w (pre_r c)) ∙ append_assoc (reverse (pre_r c)) (w ∷ []) (reverse (pre_r r)))

pub post_r_reverse : (t : Forest) → post_r t ≡ reverse (pre_l t)
post_r_reverse none = refl
post_r_reverse (tree w c r) =
    ap₂ (λ a b. b ++ (a ++ w ∷ [])) (post_r_reverse c) (post_r_reverse r)
    ∙ sym (reverse-cons w (pre_l c ++ pre_l r) ∙ ap (λ l. l ++ w ∷ []) (reverse-append (pre_l c) (pre_l r)) ∙ append_assoc (reverse (pre_l r)) (reverse (pre_l c)) (w ∷ []))

-- a reversed sequence holds the entries
pub same_reverse : (s : List Entry) → Same (reverse s) s
same_reverse [] f = refl
same_reverse (e ∷ s) f = rw (reverse-cons e s) (omega (arith, sum_append f (reverse s) (e ∷ []), same_reverse s f))

-- what stands before an entry, the entry, and what stands after it
pub before_reverse : (x : ℕ) (s : List Entry) → times x s ≡ 1 → before x (reverse s) + (before x s + quota_of x s) ≡ total s
before_reverse x [] h = absurd (omega arith)
before_reverse x (e ∷ s) h = rw (reverse-cons e s) (go (before_reverse x s) (eqb x e.id) refl h)
  where
    go : (times x s ≡ 1 → before x (reverse s) + (before x s + quota_of x s) ≡ total s) → (b : Bool) → eqb x e.id ≡ b → pick b 1 0 + times x s ≡ 1
        → before x (reverse s ++ e ∷ []) + (pick b 0 (quota e + before x s) + (pick b (quota e) 0 + quota_of x s)) ≡ quota e + total s
    go ih true k h =
        let z : times x s ≡ 0 = omega arith in
        omega (arith, before_right x (reverse s) (e ∷ []) (same_reverse s (one_at x) ∙ z), before_here x e [] k, quota_none x s z, same_reverse s quota)
    go ih false k h =
        let z : times x s ≡ 1 = omega arith in
        omega (arith, before_left x (reverse s) (e ∷ []) (omega (arith, same_reverse s (one_at x))), ih z)

-- the order of two entries turns round
pub order_reverse : (x y : ℕ) (s : List Entry) → Positive s → times x s ≡ 1 → times y s ≡ 1 → before x (reverse s) ≤ before y (reverse s) ↔ before y s ≤ before x s
order_reverse x y s pos hx hy = by_eq x y (λ e. rw e (omega arith)) (λ n. go (apart x y s n hx hy))
  where
    go : Clear (before x s) (quota_of x s) (before y s) (quota_of y s) → before x (reverse s) ≤ before y (reverse s) ↔ before y s ≤ before x s
    go (inl h) = omega (arith, before_reverse x s hx, before_reverse y s hy, positive_quota x s pos, positive_quota y s pos)
    go (inr h) = omega (arith, before_reverse x s hx, before_reverse y s hy, positive_quota x s pos, positive_quota y s pos)
