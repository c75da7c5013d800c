-- The bytes of rows, one row after another, counted and written as the rows come.
use mathlib.Core.Path.{◌≡◌, refl, ap, sym, ◌∙◌}
use mathlib.Core.List.{List, [], ◌∷◌, ◌++◌, flat_map}
use Prim.Native.Nat.{ℕ, ◌+◌, ◌≤◌}
use native.Mathlib.Omega.{arith}
use lib.ListN.{length, length-append}
use Rattle.std.specs.List.{sum_by}
use Rattle.std.proofs.lemmas.List.Concat.{length-flat_map}
use Rattle.rules.specs.Buffers.{after}
use Rattle.rules.proofs.Buffers.{after_same, after_none, after_then}
use Rattle.table.specs.declared.Row.{Row}

-- the rest of the bytes has room from p on in a buffer, and written there it makes the buffer that all of them written into the old one make
pub record Rest (old : List ℕ) (at : ℕ) (all buffer : List ℕ) (p : ℕ) (rest : List ℕ) : Type 0 where
  pub room : p + length rest ≤ length buffer
  pub same : length buffer ≡ length old
  pub wrote : after buffer p rest ≡ after old at all

module _ (bytes : Row → List ℕ) where
  -- the bytes of one row, and those of the rows after it
  pub next_bytes : {s t : List Row} {w : Row} → s ≡ w ∷ t → flat_map bytes s ≡ bytes w ++ flat_map bytes t
  unfolding flat_map
  next_bytes e = rw e

  pub next_length : {s t : List Row} {w : Row} → s ≡ w ∷ t → length (flat_map bytes s) ≡ length (bytes w) + length (flat_map bytes t)
  next_length {s} {t} {w} e = ap length (next_bytes e) ∙ length-append (bytes w) (flat_map bytes t)

  pub no_bytes : {s : List Row} → s ≡ [] → flat_map bytes s ≡ []
  unfolding flat_map
  no_bytes e = rw e

  -- how many bytes the rows have, row by row
  pub sum_bytes : (s : List Row) → sum_by (λ w. length (bytes w)) s ≡ length (flat_map bytes s)
  unfolding flat_map
  sum_bytes s = sym (length-flat_map bytes s)

  module _ {old : List ℕ} {at : ℕ} {all : List ℕ} where
    pub rest_all : (s : List Row) → flat_map bytes s ≡ all → at + length all ≤ length old → Rest old at all old at (flat_map bytes s)
    rest_all s e h = record { room = rw e h; same = refl; wrote = ap (after old at) e }

    module _ {buffer : List ℕ} {p : ℕ} {s : List Row} (r : Rest old at all buffer p (flat_map bytes s)) where
      -- one row's bytes have room, and the others after them
      module _ {t : List Row} {w : Row} (e : s ≡ w ∷ t) where
        pub rest_room : p + length (bytes w) ≤ length buffer
        rest_room = omega (arith, r.room, next_length e)

        pub rest_next : {new : List ℕ} {n : ℕ} → n ≡ p + length (bytes w) → new ≡ after buffer p (bytes w) → Rest old at all new n (flat_map bytes t)
        rest_next {new} {n} g f =
            let k = next_length e in
            let room = r.room in
            let same = ap length f ∙ after_same buffer p (bytes w) (omega arith) in
            record {
              room = omega arith;
              same = same ∙ r.same;
              wrote =
                  after_then buffer p (bytes w) (flat_map bytes t) (omega arith) f g refl
                  ∙ ap (after buffer p) (sym (next_bytes e))
                  ∙ r.wrote;
            }

      pub rest_none : s ≡ [] → buffer ≡ after old at all
      rest_none e =
          let room = r.room in
          sym (after_none buffer p (omega arith)) ∙ ap (after buffer p) (sym (no_bytes e)) ∙ r.wrote
