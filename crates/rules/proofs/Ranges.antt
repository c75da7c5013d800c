-- Two ranges that lie apart, and two comparisons that say the same.
use mathlib.Core.Path.{◌≡◌, sym, ◌∙◌}
use mathlib.Core.Logic.{◌⊎◌}
use Prim.Native.Nat.{ℕ, ◌+◌, ◌≤◌}
use native.Mathlib.Omega.{arith}
use lib.Dec.{leb}
use borrow.Author.Tests.{le-leb, lt-leb}
use Rattle.rules.proofs.Cases.{by_lt}

-- one of two ranges ends before the other begins
abbrev pub Clear : (a q b p : ℕ) → Type 0
Clear a q b p = (a + q ≤ b) ⊎ (b + p ≤ a)

pub le_same : {a b c d : ℕ} → (a ≤ b → c ≤ d) → (c ≤ d → a ≤ b) → leb a b ≡ leb c d
le_same {a} {b} {c} {d} f g =
    by_lt b a
    (λ h. lt-leb a b h ∙ sym (lt-leb c d (by_lt d c (λ k. k) (λ k. absurd (omega (arith, g k))))))
    (λ h. le-leb a b h ∙ sym (le-leb c d (f h)))
