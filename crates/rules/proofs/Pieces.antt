-- Bytes written piece by piece into a buffer: the bytes of a list's members one after another (`flat_map`), and the four parts of a row.
use mathlib.Core.Path.{◌≡◌, refl, ap, sym, ◌∙◌}
use mathlib.Core.List.{List, [], ◌∷◌, ◌++◌, flat_map, append-nil, append_assoc}
use Prim.Native.Nat.{ℕ, zero, suc, ◌+◌, ◌*◌, ◌-◌, ◌<◌, ◌≤◌}
use native.Mathlib.Nat.{mul-suc}
use native.Mathlib.Omega.{arith}
use lib.ListN.{length, length-append}
use Rattle.rules.specs.Buffers.{after}
use Rattle.rules.proofs.Buffers.{after_same, after_none, after_then}

-- ## The bytes of a list's members

module _ {A : Type 0} (f : A → List ℕ) where
  pub flat_append : (s t : List A) → flat_map f (s ++ t) ≡ flat_map f s ++ flat_map f t
  unfolding flat_map
  flat_append [] t = refl
  flat_append (x ∷ s) t = ap (λ (u : List ℕ). f x ++ u) (flat_append s t) ∙ sym (append_assoc (f x) (flat_map f s) (flat_map f t))

  -- one member more at the end
  pub flat_more : (s : List A) (x : A) → flat_map f (s ++ (x ∷ [])) ≡ flat_map f s ++ f x
  unfolding flat_map
  flat_more s x = flat_append s (x ∷ []) ∙ ap (λ (u : List ℕ). flat_map f s ++ u) (append-nil (f x))

  -- at most so many bytes for each
  pub flat_most : (most : ℕ) → ((x : A) → length (f x) ≤ most) → (s : List A) → length (flat_map f s) ≤ most * length s
  unfolding flat_map
  flat_most most h [] = omega arith
  flat_most most h (x ∷ s) = omega (arith, length-append (f x) (flat_map f s), h x, flat_most most h s, mul-suc most (length s))

-- ## Pieces, by their index

-- `whole i` is the bytes of the first i pieces
module _ (whole piece : ℕ → List ℕ) (more : (i : ℕ) → whole (i + 1) ≡ whole i ++ piece i) where
  pub length_more : (i : ℕ) → length (whole (i + 1)) ≡ length (whole i) + length (piece i)
  length_more i = ap length (more i) ∙ length-append (whole i) (piece i)

  length_less : (i n : ℕ) → length (whole i) ≤ length (whole (i + n))
  length_less i zero = let e : i + 0 ≡ i = omega arith in rw e (omega arith)
  length_less i (suc n) =
      let e : i + suc n ≡ i + n + 1 = omega arith in
      rw e (omega (arith, length_less i n, length_more (i + n)))

  pub length_within : (i n : ℕ) → i ≤ n → length (whole i) ≤ length (whole n)
  length_within i n h = let e : i + (n - i) ≡ n = omega arith in rw e at (length_less i (n - i))

-- the first i of `count` pieces stand in the buffer from `at` on, and p is the position after them
pub record Wrote (whole : ℕ → List ℕ) (count : ℕ) (buffer₀ : List ℕ) (at : ℕ) (buffer : List ℕ) (p i : ℕ) : Type 0 where
  pub within : i ≤ count
  pub room : at + length (whole count) ≤ length buffer₀
  pub same : length buffer ≡ length buffer₀
  pub here : p ≡ at + length (whole i)
  pub wrote : buffer ≡ after buffer₀ at (whole i)

module _ (whole piece : ℕ → List ℕ) (more : (i : ℕ) → whole (i + 1) ≡ whole i ++ piece i) {count : ℕ} {buffer₀ : List ℕ} {at : ℕ} where
  pub wrote_none : whole 0 ≡ [] → at + length (whole count) ≤ length buffer₀ → Wrote whole count buffer₀ at buffer₀ at 0
  wrote_none e h =
      record { within = omega arith; room = h; same = refl; here = rw e (omega arith); wrote = rw e (sym (after_none buffer₀ at (omega arith))) }

  module _ {buffer : List ℕ} {p i : ℕ} (w : Wrote whole count buffer₀ at buffer p i) where
    -- there is room for the next piece
    pub piece_room : i < count → p + length (piece i) ≤ length buffer
    piece_room less =
        omega (arith, w.room, w.same, w.here, length_more whole piece more i, length_within whole piece more (i + 1) count (omega arith))

    pub wrote_more : {next : List ℕ} {n : ℕ} → i < count → n ≡ p + length (piece i) → next ≡ after buffer p (piece i) → Wrote whole count buffer₀ at next n (i + 1)
    wrote_more {next} {n} less e f =
        let h = w.here in
        let r = w.room in
        let k = length_more whole piece more i in
        let l = length_within whole piece more (i + 1) count (omega arith) in
        record {
          within = omega arith;
          room = r;
          same = ap length f ∙ after_same buffer p (piece i) (piece_room less) ∙ w.same;
          here = omega arith;
          wrote = after_then buffer₀ at (whole i) (piece i) (omega arith) w.wrote h f ∙ ap (after buffer₀ at) (sym (more i));
        }

    -- all pieces
    pub wrote_all : count ≤ i → (p ≡ at + length (whole count)) × (buffer ≡ after buffer₀ at (whole count))
    wrote_all h = let e : i ≡ count = omega (arith, w.within) in (rw e at w.here, rw e at w.wrote)

-- ## The four parts of a row

module _ (a b d e : List ℕ) where
  pub length_four : length (a ++ (b ++ (d ++ e))) ≡ length a + length b + length d + length e
  length_four = simp length-append (omega arith)
