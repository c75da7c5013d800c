-- Laws of sums over entries, and of the quotas before an id.
use mathlib.Core.Path.{◌≡◌, refl, sym, ◌∙◌}
use mathlib.Core.Bool.{Bool, true, false, ◌&&◌, and-false, and_comm}
use mathlib.Core.List.{List, [], ◌∷◌, ◌++◌}
use mathlib.Core.Logic.{◌≢◌, inl, inr, ◌↔◌}
use Prim.Native.Nat.{ℕ, zero, suc, ◌+◌, ◌≤◌, ◌<◌}
use native.Mathlib.Omega.{arith}
use lib.Dec.{eqb, leb}
use lib.ListN.{length}
use borrow.Author.Tests.{eqb-true, eq-eqb, le-leb, lt-leb}
use Rattle.rules.proofs.Ranges.{Clear, le_same}
use Rattle.request.specs.Entries.{Entry, pick, quota, sum, total, times, quota_of, before, Same, Distinct, Positive}

pub sum_append : (f : Entry → ℕ) (s t : List Entry) → sum f (s ++ t) ≡ sum f s + sum f t
sum_append f [] t = omega arith
sum_append f (e ∷ s) t = omega (arith, sum_append f s t)

pub length_sum : (s : List Entry) → length s ≡ sum (λ e. 1) s
length_sum [] = refl
length_sum (e ∷ s) = omega (arith, length_sum s)

pub same_length : (s t : List Entry) → Same s t → length s ≡ length t
same_length s t h = length_sum s ∙ h (λ e. 1) ∙ sym (length_sum t)

pub eqb_same : (x : ℕ) → eqb x x ≡ true
eqb_same x = eq-eqb x x refl

-- the first of some entries is one of them
pub count_head : (x : ℕ) (s : List Entry) → 1 ≤ pick (eqb x x) 1 0 + times x s
count_head x s = rw (eqb_same x) (omega arith)

-- the quotas before an id of s, in s and more entries; before an id that s does not have
pub before_left : (x : ℕ) (s t : List Entry) → 1 ≤ times x s → before x (s ++ t) ≡ before x s
before_left x [] t h = absurd (omega arith)
before_left x (e ∷ s) t h =
    (elim (eqb x e.id) as (λ b. 1 ≤ pick b 1 0 + times x s → pick b 0 (quota e + before x (s ++ t)) ≡ pick b 0 (quota e + before x s))
    [ true ↦ λ h. refl | false ↦ λ h. omega (arith, before_left x s t (omega arith)) ]) h

pub before_right : (x : ℕ) (s t : List Entry) → times x s ≡ 0 → before x (s ++ t) ≡ total s + before x t
before_right x [] t h = omega arith
before_right x (e ∷ s) t h =
    (elim (eqb x e.id) as (λ b. pick b 1 0 + times x s ≡ 0 → pick b 0 (quota e + before x (s ++ t)) ≡ quota e + total s + before x t)
    [ true ↦ λ h. omega arith | false ↦ λ h. omega (arith, before_right x s t (omega arith)) ]) h

pub before_here : (x : ℕ) (e : Entry) (s : List Entry) → eqb x e.id ≡ true → before x (e ∷ s) ≡ 0
before_here x e s h = rw h

pub before_past : (x : ℕ) (e : Entry) (s : List Entry) → eqb x e.id ≡ false → before x (e ∷ s) ≡ quota e + before x s
before_past x e s h = rw h

pub quota_total : (x : ℕ) (s : List Entry) → quota_of x s ≤ total s
quota_total x [] = omega arith
quota_total x (e ∷ s) =
    elim (eqb x e.id) as (λ b. pick b (quota e) 0 + quota_of x s ≤ quota e + total s)
    [ true ↦ omega (arith, quota_total x s) | false ↦ omega (arith, quota_total x s) ]

pub quota_none : (x : ℕ) (s : List Entry) → times x s ≡ 0 → quota_of x s ≡ 0
quota_none x [] h = refl
quota_none x (e ∷ s) h =
    (elim (eqb x e.id) as (λ b. pick b 1 0 + times x s ≡ 0 → pick b (quota e) 0 + quota_of x s ≡ 0)
    [ true ↦ λ h. absurd (omega arith) | false ↦ λ h. omega (arith, quota_none x s (omega arith)) ]) h

-- the range of x ends where the whole sequence does, or before that
pub before_within : (x : ℕ) (s : List Entry) → 1 ≤ times x s → before x s + quota_of x s ≤ total s
before_within x [] h = absurd (omega arith)
before_within x (e ∷ s) h =
    (elim (eqb x e.id) as (λ b. 1 ≤ pick b 1 0 + times x s → pick b 0 (quota e + before x s) + (pick b (quota e) 0 + quota_of x s) ≤ quota e + total s)
    [ true ↦ λ h. omega (arith, quota_total x s) | false ↦ λ h. omega (arith, before_within x s (omega arith)) ]) h

pub some_quota : (q : ℕ) → pick (eqb q 0) 1 0 ≡ 0 → 1 ≤ q
some_quota zero h = absurd (omega arith)
some_quota (suc q) h = omega arith

positive_step : (n : Bool) (q c k : ℕ) → 1 ≤ q → c ≤ k → pick n 1 0 + c ≤ pick n q 0 + k
positive_step true q c k h l = omega arith
positive_step false q c k h l = omega arith

pub positive_quota : (x : ℕ) (s : List Entry) → Positive s → times x s ≤ quota_of x s
positive_quota x [] h = omega arith
positive_quota x (e ∷ s) h =
    positive_step (eqb x e.id) (quota e) (times x s) (quota_of x s) (some_quota (quota e) (omega arith)) (positive_quota x s (omega arith))

-- two functions that agree at the entries have one sum
pub sum_at : (f g : Entry → ℕ) (s : List Entry) → ((e : Entry) → 1 ≤ times e.id s → f e ≡ g e) → sum f s ≡ sum g s
sum_at f g [] h = refl
sum_at f g (e ∷ s) h = omega (arith, h e (count_head e.id s), sum_at f g s (λ v k. h v (omega arith)))

-- where no id comes twice, the quotas at the entries' ids are the entries' own
pub own_quotas : (s : List Entry) → Distinct s → sum (λ e. quota_of e.id s) s ≡ total s
own_quotas [] d = refl
own_quotas (e ∷ s) d =
    let one : pick (eqb e.id e.id) 1 0 ≡ 1 = rw (eqb_same e.id) in
    let own : pick (eqb e.id e.id) (quota e) 0 ≡ quota e = rw (eqb_same e.id) in
    omega (arith, quota_none e.id s (omega (arith, d e.id)), sum_at (λ v. quota_of v.id (e ∷ s)) (λ v. quota_of v.id s) s other, own_quotas s (λ x. omega (arith, d x)))
  where
    other : (v : Entry) → 1 ≤ times v.id s → quota_of v.id (e ∷ s) ≡ quota_of v.id s
    other v k = go (eqb v.id e.id) (d v.id)
      where
        go : (b : Bool) → pick b 1 0 + times v.id s ≤ 1 → pick b (quota e) 0 + quota_of v.id s ≡ quota_of v.id s
        go true h = absurd (omega arith)
        go false h = omega arith

apart_step : (s t : Bool) → (s ≡ true → t ≡ true → ⊥) → (q cx bx qx cy by qy : ℕ) → (cx ≡ 0 → qx ≡ 0) → (cy ≡ 0 → qy ≡ 0)
    → (cx ≡ 1 → cy ≡ 1 → Clear bx qx by qy) → pick s 1 0 + cx ≡ 1 → pick t 1 0 + cy ≡ 1
    → Clear (pick s 0 (q + bx)) (pick s q 0 + qx) (pick t 0 (q + by)) (pick t q 0 + qy)
apart_step true true n q cx bx qx cy by qy zx zy ih hx hy = absurd (n refl refl)
apart_step true false n q cx bx qx cy by qy zx zy ih hx hy = inl (omega (arith, zx (omega arith)))
apart_step false true n q cx bx qx cy by qy zx zy ih hx hy = inr (omega (arith, zy (omega arith)))
apart_step false false n q cx bx qx cy by qy zx zy ih hx hy = go (ih (omega arith) (omega arith))
  where
    go : Clear bx qx by qy → Clear (q + bx) (0 + qx) (q + by) (0 + qy)
    go (inl h) = inl (omega arith)
    go (inr h) = inr (omega arith)

-- the ranges of two entries in a sequence
pub apart : (x y : ℕ) (s : List Entry) → x ≢ y → times x s ≡ 1 → times y s ≡ 1 → Clear (before x s) (quota_of x s) (before y s) (quota_of y s)
apart x y [] n h k = absurd (omega arith)
apart x y (e ∷ s) n h k =
    apart_step (eqb x e.id) (eqb y e.id) (λ p q. n (eqb-true x e.id p ∙ sym (eqb-true y e.id q)))
    (quota e) (times x s) (before x s) (quota_of x s) (times y s) (before y s) (quota_of y s)
    (quota_none x s) (quota_none y s) (apart x y s n) h k

-- l and r stand no later than k and s
unfoldable pub no_later : (l r k s : ℕ) → Bool
no_later l r k s = leb l k && leb r s

pub no_later_lem : {l r k s : ℕ} → l ≤ k → r ≤ s → no_later l r k s ≡ true
unfolding no_later
no_later_lem h j = rw (le-leb _ _ h, le-leb _ _ j)

pub later_l : (l r k s : ℕ) → k < l → no_later l r k s ≡ false
unfolding no_later
later_l l r k s h = rw (lt-leb _ _ h)

pub later_r : (l r k s : ℕ) → s < r → no_later l r k s ≡ false
unfolding no_later
later_r l r k s h = rw (lt-leb _ _ h) (and-false (leb l k))

pub later_iff : (l r k s l' r' k' s' : ℕ) → l ≤ k ↔ l' ≤ k' → r ≤ s ↔ r' ≤ s' → no_later l r k s ≡ no_later l' r' k' s'
unfolding no_later
later_iff l r k s l' r' k' s' f g = rw (le_same {a = l} {b = k} {c = l'} {d = k'} f.0 f.1, le_same {a = r} {b = s} {c = r'} {d = s'} g.0 g.1)

pub later_swap : (l r k s : ℕ) → no_later l r k s ≡ no_later r l s k
unfolding no_later
later_swap l r k s = and_comm (leb l k) (leb r s)
