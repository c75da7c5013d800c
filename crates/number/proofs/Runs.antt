-- Numbers that stand one after another in bytes: the bytes of some values read back as those values, and what reads as some values is their bytes.
use mathlib.Core.Path.{◌≡◌, ap, sym, ◌∙◌}
use mathlib.Core.List.{List, [], ◌∷◌, ◌++◌, flat_map, append_assoc}
use Prim.Native.Nat.{ℕ, ◌+◌, ◌≤◌}
use native.Mathlib.Omega.{arith}
use lib.ListN.{length, take, drop, length-append}
use lib.Seq.{length-take-le, drop_at}
use Rattle.rules.specs.Limits.{greatest}
use Rattle.rules.specs.Buffers.{Bytes}
use Rattle.number.specs.Number.{found, number_at, bytes_of}
use Rattle.number.proofs.Laws.{number_back, number_stands, number_ends}

-- from position `at` on, the bytes read as these values, and `next` is the position after them
abbrev pub Run : List ℕ → ℕ → List ℕ → ℕ → Type 0
Run bytes at [] next = at ≡ next
Run bytes at (v ∷ vs) next = (mid : ℕ) × (number_at bytes at ≡ found v mid) × Run bytes mid vs next

abbrev pub AllSmall : List ℕ → Type 0
AllSmall [] = Unit {0}
AllSmall (v ∷ vs) = (v ≤ greatest) × AllSmall vs

-- ## Written, then read: the bytes of some values, in the middle of longer bytes

pub run_back : (vs before after : List ℕ) → AllSmall vs
    → Run (before ++ (flat_map bytes_of vs ++ after)) (length before) vs (length before + length (flat_map bytes_of vs))
unfolding flat_map
run_back [] before after f = omega arith
run_back (v ∷ vs) before after f =
    let rest = flat_map bytes_of vs in
    let whole : before ++ ((bytes_of v ++ rest) ++ after) ≡ (before ++ bytes_of v) ++ (rest ++ after) = simp append_assoc in
    let n : length before + length (bytes_of v ++ rest) ≡ length (before ++ bytes_of v) + length rest = simp length-append (omega arith) in
    let later : Run (before ++ ((bytes_of v ++ rest) ++ after)) (length (before ++ bytes_of v)) vs (length before + length (bytes_of v ++ rest)) =
    rw (whole, n) (run_back vs (before ++ bytes_of v) after f.1) in
    (length (before ++ bytes_of v), rw append_assoc (rw length-append (number_back v before (rest ++ after) f.0)), later)

-- ## Read, then written

-- a part stands at a position, and the next position is after it
pub record Stands (bytes : List ℕ) (at next : ℕ) (part : List ℕ) : Type 0 where
  pub ends : next ≡ at + length part
  pub stands : drop at bytes ≡ part ++ drop next bytes

pub both_stand : {bytes : List ℕ} {at mid next : ℕ} {a b : List ℕ} → Stands bytes at mid a → Stands bytes mid next b → Stands bytes at next (a ++ b)
both_stand {bytes} {at} {mid} {next} {a} {b} s t =
    record {
      ends = omega (arith, s.ends, t.ends, length-append a b);
      stands = s.stands ∙ ap (λ (r : List ℕ). a ++ r) t.stands ∙ sym (append_assoc a b (drop next bytes));
    }

pub one_stands : {bytes : List ℕ} {at v next : ℕ} → Bytes bytes → number_at bytes at ≡ found v next → Stands bytes at next (bytes_of v)
one_stands {bytes} {at} bs e =
    let s = number_stands bytes at bs e in
    let i = number_ends bytes at e in
    record {
      ends = s.0;
      stands = ap (drop at) s.1 ∙ drop_at (take at bytes) _ at (length-take-le at bytes (omega arith));
    }

pub run_stands : {bytes : List ℕ} (at : ℕ) (vs : List ℕ) {next : ℕ} → Bytes bytes → Run bytes at vs next → Stands bytes at next (flat_map bytes_of vs)
unfolding flat_map
run_stands {bytes} at [] {next} bs r = record { ends = omega arith; stands = ap (λ (n : ℕ). drop n bytes) r }
run_stands at (v ∷ vs) bs r = both_stand (one_stands bs r.1) (run_stands r.0 vs bs r.2)
