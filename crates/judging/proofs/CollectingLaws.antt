-- Collecting ids: the array while it is filled, and what it then holds.
use mathlib.Core.Bool.{true, false, cond}
use mathlib.Core.Path.{◌≡◌, refl, ap, sym, ◌∙◌}
use mathlib.Core.List.{List, [], ◌∷◌, ◌++◌}
use Prim.Native.Nat.{ℕ, suc, ◌+◌, ◌≤◌, ◌<◌}
use native.Mathlib.Omega.{arith}
use native.Mathlib.Numerals.{add-one}
use lib.Dec.{eqb}
use lib.ListN.{length, get_or, set, take, drop, length-append, drop_of_length-le}
use lib.Seq.{sets, sets-eq, length-sets, length-take-le, take-append_seam}
use borrow.Author.Tests.{eq-eqb, ne_eqb}
use Rattle.judging.specs.Inside.Collecting.{others_than, Collects}
use Rattle.judging.proofs.Ids.{ids_step}

-- what is left to put, from index i on, makes the whole
pub record Filling (ids : List ℕ) (x n : ℕ) (all₀ all : List ℕ) (m i : ℕ) : Type 0 where
  pub inside : i ≤ length ids
  pub most : m ≤ n + i
  pub end : m + length (others_than x (drop i ids)) ≡ n + length (others_than x ids)
  pub whole : sets all m (others_than x (drop i ids)) ≡ sets all₀ n (others_than x ids)

pub begins : (ids : List ℕ) (x n : ℕ) (all : List ℕ) → Filling ids x n all all n 0
begins ids x n all = record { inside = omega arith; most = omega arith; end = refl; whole = refl }

-- the first of the ids that are left is one of the others, or it is not
module _ (ids : List ℕ) (x i : ℕ) (h : i < length ids) where
  pub others_here : (get_or ids i 0 ≡ x → ⊥) → others_than x (drop i ids) ≡ get_or ids i 0 ∷ others_than x (drop (i + 1) ids)
  unfolding others_than
  others_here e = ap (others_than x) (ids_step ids i h) ∙ rw (ne_eqb x (get_or ids i 0) (λ z. e (sym z)))

  pub others_past : get_or ids i 0 ≡ x → others_than x (drop i ids) ≡ others_than x (drop (i + 1) ids)
  unfolding others_than
  others_past e = ap (others_than x) (ids_step ids i h) ∙ rw (eq-eqb x (get_or ids i 0) (sym e))

pub sets_more : (s : List ℕ) (n v : ℕ) (vs : List ℕ) → sets s n (v ∷ vs) ≡ sets (set s n v) (n + 1) vs
sets_more s n v vs = rw (add-one n)

module _ {ids : List ℕ} {x n : ℕ} {all₀ all : List ℕ} {m i : ℕ} (f : Filling ids x n all₀ all m i) where
  pub done : length ids ≤ i → Collects (others_than x ids) n all₀ all m
  unfolding others_than
  done h =
      let o : others_than x (drop i ids) ≡ [] = ap (others_than x) (drop_of_length-le ids {i = i} h) in
      record { end = omega (arith, ap length o, f.end); are = rw o at f.whole }

-- what was written to the front of a column
pub front_sets : (s vs : List ℕ) (n : ℕ) → length vs ≡ n → n ≤ length s → take n (sets s 0 vs) ≡ vs
front_sets s vs n e h =
    ap (take n) (sets-eq vs s 0 (omega arith)) ∙ ap (λ m. take m (vs ++ drop (0 + length vs) s)) (sym e) ∙ take-append_seam vs (drop (0 + length vs) s)

-- no more than there are ids
pub others_most : (u : ℕ) (s : List ℕ) → length (others_than u s) ≤ length s
unfolding others_than
others_most u [] = omega arith
others_most u (x ∷ s) =
    elim (eqb u x) as (λ b. length (cond b (others_than u s) (x ∷ others_than u s)) ≤ suc (length s)) [ true ↦ omega (arith, others_most u s) | false ↦ omega (arith, others_most u s) ]

-- the array keeps its length
pub collected_length : {a s t : List ℕ} {n m : ℕ} → Collects a n s t m → length t ≡ length s
collected_length {a} {s} {t} {n} f = ap length f.are ∙ length-sets s n a

-- two collections, one behind the other
pub collected : {a b s t w : List ℕ} {n m : ℕ} → Collects a 0 s t n → Collects b n t w m → m ≤ length s → take m w ≡ a ++ b
collected {a} {b} {s} {t} {w} {n} {m} f g h =
    let lt = collected_length f in
    let front : take n t ≡ a = ap (take n) f.are ∙ front_sets s a n (omega (arith, f.end)) (omega (arith, f.end, g.end)) in
    let all : w ≡ (a ++ b) ++ drop (n + length b) t = g.are ∙ sets-eq b t n (omega (arith, g.end)) ∙ ap (λ y. (y ++ b) ++ drop (n + length b) t) front in
    let k : m ≡ length (a ++ b) = omega (arith, length-append a b, f.end, g.end) in
    ap (take m) all ∙ ap (λ j. take j ((a ++ b) ++ drop (n + length b) t)) k ∙ take-append_seam (a ++ b) (drop (n + length b) t)

pub front_whole : (s : List ℕ) (m : ℕ) → m ≤ length s → m ≡ length (take m s)
front_whole s m h = sym (length-take-le m s h)
