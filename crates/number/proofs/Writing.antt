-- The bytes of a number, written one after another: what is left to write, from here on, still makes the whole buffer.
use mathlib.Core.Path.{◌≡◌, refl, ap, sym, ◌∙◌}
use mathlib.Core.List.{List}
use Prim.Native.Nat.{ℕ, zero, suc, ◌+◌, ◌/◌, ◌%◌, ◌<◌, ◌≤◌}
use native.Mathlib.Omega.{arith}
use native.Mathlib.Numerals.{add-one}
use lib.ListN.{length, set, length-set}
use lib.Seq.{sets}
use Rattle.rules.specs.Buffers.{after}
use Rattle.rules.proofs.Cases.{by_lt}
use Rattle.rules.proofs.Buffers.{after_all}
use Rattle.number.specs.Number.{bit_groups_of, bytes_of}
use Rattle.number.proofs.Groups.{one_group, more_groups, cap}
use Rattle.number.proofs.Laws.{groups_count}

-- with `left` to write at i, the buffer will be what it is to be
pub record Writes (buffer₀ : List ℕ) (at value : ℕ) (buffer : List ℕ) (i left : ℕ) : Type 0 where
  pub more : ℕ
  pub small : left < cap more
  pub same : length buffer ≡ length buffer₀
  pub stop : i + length (bit_groups_of more left) ≡ at + length (bytes_of value)
  pub room : at + length (bytes_of value) ≤ length buffer₀
  pub whole : sets buffer i (bit_groups_of more left) ≡ sets buffer₀ at (bytes_of value)

module _ {buffer₀ : List ℕ} {at value : ℕ} where
  pub begins : value < 4294967296 → at + length (bytes_of value) ≤ length buffer₀ → Writes buffer₀ at value buffer₀ at value
  unfolding bytes_of
  begins h r = record { more = 4; small = h; same = refl; stop = refl; room = r; whole = refl }

  -- there is a place to write to
  pub inside : {buffer : List ℕ} {i left : ℕ} → Writes buffer₀ at value buffer i left → i < length buffer
  inside {left = left} w = omega (arith, groups_count w.more left)

  -- another byte follows where the groups don't end there; at the last place one group is left
  pub another : {buffer : List ℕ} {i left : ℕ} → Writes buffer₀ at value buffer i left → i + 1 < at + length (bytes_of value) → 128 ≤ left
  another {i = i} {left = left} w h =
      by_lt left 128
      (λ l. let one = ap length (one_group w.more left l) in absurd (omega (arith, w.stop)))
      (λ l. l)

  pub no_other : {buffer : List ℕ} {i left : ℕ} → Writes buffer₀ at value buffer i left → i + 1 ≡ at + length (bytes_of value) → left < 128
  no_other {left = left} w h =
      by_lt left 128
      (λ l. l)
      (λ l. absurd (two w.more w.small l (omega (arith, w.stop))))
    where
      two : (k : ℕ) → left < cap k → 128 ≤ left → length (bit_groups_of k left) ≡ 1 → ⊥
      two zero s l e = omega arith
      two (suc k) s l e = let n = ap length (more_groups k left l) in omega (arith, groups_count k (left / 128))

  goes : (buffer : List ℕ) (i left k : ℕ) → left < cap k → length buffer ≡ length buffer₀ → i + length (bit_groups_of k left) ≡ at + length (bytes_of value)
      → at + length (bytes_of value) ≤ length buffer₀ → sets buffer i (bit_groups_of k left) ≡ sets buffer₀ at (bytes_of value) → 128 ≤ left
      → Writes buffer₀ at value (set buffer i (left % 128 + 128)) (i + 1) (left / 128)
  goes buffer i left zero f s t r d h = absurd (omega arith)
  goes buffer i left (suc k) f s t r d h =
      let b = more_groups k left h in
      let t' = rw b at t in
      record {
        more = k;
        small = omega arith;
        same = length-set buffer i (left % 128 + 128) ∙ s;
        stop = omega arith;
        room = r;
        whole = rw add-one (rw b at d);
      }

  pub goes_on : {buffer : List ℕ} {i left : ℕ} → Writes buffer₀ at value buffer i left → 128 ≤ left
      → Writes buffer₀ at value (set buffer i (left % 128 + 128)) (i + 1) (left / 128)
  goes_on {buffer} {i} {left} w h = goes buffer i left w.more w.small w.same w.stop w.room w.whole h

  pub ends : {buffer : List ℕ} {i left : ℕ} → Writes buffer₀ at value buffer i left → left < 128 → set buffer i left ≡ after buffer₀ at (bytes_of value)
  ends {left = left} w h = rw (one_group w.more left h) at w.whole ∙ sym (after_all buffer₀ at (bytes_of value) w.room)
