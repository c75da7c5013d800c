-- A number that is read is at most the greatest, whatever stands in the bytes.
use mathlib.Core.Path.{◌≡◌, refl, ap}
use mathlib.Core.Bool.{Bool, true, false, cond, not, ◌&&◌}
use mathlib.Core.List.{List}
use Prim.Native.Nat.{ℕ, zero, suc, ◌+◌, ◌*◌, ◌%◌, ◌<◌, ◌≤◌}
use native.Mathlib.Omega.{arith}
use lib.Dec.{eqb, ltb, leb}
use lib.ListN.{length, get_or}
use borrow.Author.Tests.{ltb-true, ltb-false}
use Rattle.rules.specs.Answers.{Answer, answer}
use Rattle.rules.specs.Limits.{greatest}
use Rattle.rules.proofs.Answers.{same_answer, peel, then_answer}
use Rattle.number.specs.declared.Number.{Number}
use Rattle.number.specs.Number.{last_byte, added_to, followed, bit_groups_at, number_at}
use Rattle.number.proofs.Groups.{cap, cap_pos}
use Rattle.request.specs.Legal.{LegalNumber}
use Rattle.request.specs.Reading.{positive_at}
use Rattle.request.proofs.ReadLaws.{positive_some}

last_is : (only : Bool) (byte at : ℕ) {n : Number} → last_byte only byte at ≡ answer n → byte ≡ n.value
unfolding last_byte
last_is only byte at e = ap (λ (n : Number). n.value) (same_answer (peel (not only && eqb byte 0) _ _ e).1)

followed_is : (byte : ℕ) (rest : Answer Number) {n : Number} → followed byte rest ≡ answer n → (m : Number) × (rest ≡ answer m) × (byte % 128 + 128 * m.value ≡ n.value)
unfolding followed added_to
followed_is byte rest e = let a = then_answer rest _ e in (a.0, a.1, ap (λ (n : Number). n.value) (same_answer a.2))

-- a byte, and the number that stands after it
byte_most : (k : ℕ) (only : Bool) (byte at : ℕ) (rest : Answer Number) {n : Number} → ((m : Number) → rest ≡ answer m → m.value < cap k) → (b : Bool)
    → ltb byte 128 ≡ b → cond b (last_byte only byte at) (followed byte rest) ≡ answer n → n.value < 128 * cap k
byte_most k only byte at rest below true l e = omega (arith, ltb-true byte 128 l, last_is only byte at e, cap_pos k)
byte_most k only byte at rest below false l e = let f = followed_is byte rest e in omega (arith, f.2, below f.0 f.1)

groups_most : (k : ℕ) (only : Bool) (bytes : List ℕ) (at : ℕ) {n : Number} → bit_groups_at k only bytes at ≡ answer n → n.value < cap k
unfolding bit_groups_at
groups_most zero only bytes at e =
    let a = peel (leb (length bytes) at) _ _ e in
    let b = peel (ltb 15 (get_or bytes at 0)) _ _ a.1 in
    omega (arith, ltb-false 15 (get_or bytes at 0) b.0, last_is only (get_or bytes at 0) at b.1)
groups_most (suc k) only bytes at e =
    byte_most k only (get_or bytes at 0) at (bit_groups_at k false bytes (at + 1)) (λ m f. groups_most k false bytes (at + 1) f) (ltb (get_or bytes at 0) 128) refl
    (peel (leb (length bytes) at) _ _ e).1

pub number_most : (bytes : List ℕ) (at : ℕ) {n : Number} → number_at bytes at ≡ answer n → n.value ≤ greatest
unfolding number_at
number_most bytes at e = omega (arith, groups_most 4 true bytes at e)

pub positive_legal : (bytes : List ℕ) (at : ℕ) {n : Number} → positive_at bytes at ≡ answer n → LegalNumber n.value
unfolding positive_at
positive_legal bytes at e =
    let a = then_answer (number_at bytes at) _ e in
    let f = ap (λ (n : Number). n.value) (same_answer (peel (eqb a.0.value 0) _ _ a.2).1) in
    (positive_some bytes at e, omega (arith, f, number_most bytes at a.1))
