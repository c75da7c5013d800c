-- Ids that differ: where those but the exploded one do, no entry's id is taken or comes twice; and entries' ids differ where none comes twice.
use mathlib.Core.Path.{◌≡◌, refl, ap, sym, ◌∙◌}
use mathlib.Core.Bool.{Bool, true, false, not, true≢false, and-false}
use mathlib.Core.List.{List, [], ◌∷◌, ◌++◌}
use Prim.Native.Nat.{ℕ, ◌+◌, ◌≤◌}
use native.Mathlib.Omega.{arith}
use lib.Dec.{eqb}
use borrow.Author.Tests.{eq-eqb, ne_eqb, leb-false, lt-leb, not-true}
use Rattle.rules.specs.Pick.{pick}
use Rattle.rules.proofs.Bools.{or_none, and_both}
use Rattle.rules.proofs.Cases.{by_lt, by_eq}
use Rattle.distinct.specs.Distinct.{none_is, all_differ}
use Rattle.judging.specs.Ids.{times_in, some_id}
use Rattle.judging.specs.Judging.{taken_in, twice_in}
use Rattle.judging.specs.Inside.Collecting.{others_than}

times_append : (x : ℕ) (s t : List ℕ) → times_in x (s ++ t) ≡ times_in x s + times_in x t
unfolding times_in
times_append x [] t = omega arith
times_append x (y ∷ s) t = omega (arith, times_append x s t)

times_others : (x u : ℕ) (s : List ℕ) → (x ≡ u → ⊥) → times_in x (others_than u s) ≡ times_in x s
unfolding times_in others_than
times_others x u [] n = refl
times_others x u (y ∷ s) n =
    by_eq u y
    (λ e. rw (eq-eqb u y e, ne_eqb x y (λ z. n (z ∙ sym e))) (omega (arith, times_others x u s n)))
    (λ e. rw (ne_eqb u y e) (ap (λ k. pick (eqb x y) 1 0 + k) (times_others x u s n)))

-- ids that differ come once at most
none_times : (x : ℕ) (s : List ℕ) → none_is x s ≡ true → times_in x s ≡ 0
unfolding none_is times_in
none_times x [] h = refl
none_times x (y ∷ s) h =
    let b = and_both (not (eqb x y)) (none_is x s) h in
    rw (not-true (eqb x y) b.0) (omega (arith, none_times x s b.1))

differ_times : (x : ℕ) (s : List ℕ) → all_differ s ≡ true → times_in x s ≤ 1
unfolding all_differ times_in
differ_times x [] h = omega arith
differ_times x (y ∷ s) h =
    let b = and_both (none_is y s) (all_differ s) h in
    by_eq x y
    (λ e. let n : times_in x s ≡ 0 = rw e (none_times y s b.0) in rw (eq-eqb x y e) (omega arith))
    (λ e. rw (ne_eqb x y e) (omega (arith, differ_times x s b.1)))

-- a test that fails at each id
none_some : (p : ℕ → Bool) (s : List ℕ) → ((x : ℕ) → 1 ≤ times_in x s → p x ≡ false) → some_id p s ≡ false
unfolding times_in
none_some p [] h = refl
none_some p (y ∷ s) h = rw (h y (rw (eq-eqb y y refl) (omega arith))) (none_some p s (λ x k. h x (omega arith)))

module _ (u : ℕ) (id ids : List ℕ) (h : all_differ (others_than u id ++ others_than u ids) ≡ true) where
  once : (x : ℕ) → (x ≡ u → ⊥) → times_in x id + times_in x ids ≤ 1
  once x n =
      let t = differ_times x (others_than u id ++ others_than u ids) h in
      let a = times_append x (others_than u id) (others_than u ids) in
      let f = times_others x u id n in
      let g = times_others x u ids n in
      omega arith

  pub none_taken : some_id (taken_in u id) ids ≡ false
  none_taken =
      none_some (taken_in u id) ids
      (λ x k. by_eq x u (λ e. rw (eq-eqb x u e)) (λ n. rw (ne_eqb x u n, lt-leb 1 (times_in x id) (omega (arith, once x n)))))

  pub none_twice : some_id (twice_in u ids) ids ≡ false
  none_twice =
      none_some (twice_in u ids) ids
      (λ x k. by_eq x u (λ e. rw (eq-eqb x u e)) (λ n. rw (ne_eqb x u n, lt-leb 2 (times_in x ids) (omega (arith, once x n)))))

-- a test that holds of none
some_none : (p : ℕ → Bool) (s : List ℕ) (x : ℕ) → some_id p s ≡ false → 1 ≤ times_in x s → p x ≡ false
unfolding times_in
some_none p [] x h k = absurd (omega arith)
some_none p (y ∷ s) x h k =
    let b = or_none (p y) (some_id p s) h in
    by_eq x y (λ e. ap p e ∙ b.0) (λ e. some_none p s x b.1 (omega (arith, rw (ne_eqb x y e) at k)))

-- ids that come once at most differ
times_none : (x : ℕ) (s : List ℕ) → times_in x s ≡ 0 → none_is x s ≡ true
unfolding none_is times_in
times_none x [] h = refl
times_none x (y ∷ s) h =
    by_eq x y
    (λ e. absurd (omega (arith, rw (eq-eqb x y e) at h)))
    (λ e. rw (ne_eqb x y e) (times_none x s (omega (arith, rw (ne_eqb x y e) at h))))

times_differ : (s : List ℕ) → ((x : ℕ) → times_in x s ≤ 1) → all_differ s ≡ true
unfolding all_differ times_in
times_differ [] h = refl
times_differ (y ∷ s) h =
    rw (times_none y s (omega (arith, rw (eq-eqb y y refl) at (h y)))) (times_differ s (λ x. omega (arith, h x)))

-- 26, where the exploded id u comes once
pub twice_is : (u : ℕ) (ids : List ℕ) → times_in u ids ≡ 1 → some_id (twice_in u ids) ids ≡ not (all_differ ids)
twice_is u ids one = go (all_differ ids) refl (some_id (twice_in u ids) ids) refl
  where
    single : some_id (twice_in u ids) ids ≡ false → (x : ℕ) → times_in x ids ≤ 1
    single e x =
        by_eq x u
        (λ z. rw z (omega arith))
        (λ n. by_lt (times_in x ids) 1 (λ k. omega arith) (λ k. omega (arith, leb-false 2 (times_in x ids) (rw (ne_eqb x u n) at (some_none (twice_in u ids) ids x e k)))))

    go : (a : Bool) → all_differ ids ≡ a → (b : Bool) → some_id (twice_in u ids) ids ≡ b → b ≡ not a
    go true d b e = sym e ∙ none_some (twice_in u ids) ids (λ x k. rw (lt-leb 2 (times_in x ids) (omega (arith, differ_times x ids d))) (and-false (not (eqb x u))))
    go false d true e = refl
    go false d false e = absurd (true≢false (sym (times_differ ids (single e)) ∙ d))
