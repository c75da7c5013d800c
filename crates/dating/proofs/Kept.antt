-- Days that are kept, if any is: the lesser of one and another, and the test "reaches".
use mathlib.Core.Path.{◌≡◌, refl, sym}
use mathlib.Core.Bool.{true, false, true≢false}
use Prim.Native.Nat.{ℕ, ◌+◌, min, ◌<◌, ◌≤◌}
use native.Mathlib.Omega.{arith}
use borrow.Author.Tests.{lt-leb, leb-true, leb-false}
use Rattle.std.specs.Prelude.{Option, Some, None, IfSome, IsSomeAnd}
use Rattle.rules.proofs.Cases.{by_lt}
use Rattle.unbroken.specs.Inside.Run.{earlier, follows_from, reaches}

-- what is there, with what holds of it
pub with_some : {A C : Type 0} (P Q : A → Type 0) (o : Option A) → IsSomeAnd o P → IfSome o Q → ((x : A) → P x → Q x → C) → C
with_some P Q None p q f = absurd p
with_some P Q (Some x) p q f = f x p q

pub if_some : {A : Type 0} (P Q : A → Type 0) (o : Option A) → ((x : A) → P x → Q x) → IfSome o P → IfSome o Q
if_some P Q None f p = p
if_some P Q (Some x) f p = f x p

-- the lesser of the day that is kept, if one is, and another is one of them
pub earlier_one : (P : ℕ → Type 0) (known : Option ℕ) (day : ℕ) → IfSome known P → P day → P (earlier known day)
unfolding earlier
earlier_one P None day k p = p
earlier_one P (Some known) day k p =
    by_lt known day
    (λ h. let m : min known day ≡ known = omega arith in rw m k)
    (λ h. let m : min known day ≡ day = omega arith in rw m p)

-- and no later than either
pub earlier_day : (known : Option ℕ) (day : ℕ) → earlier known day ≤ day
unfolding earlier
earlier_day None day = omega arith
earlier_day (Some known) day = omega arith

pub earlier_known : (known : Option ℕ) (day x : ℕ) → IsSomeAnd known (λ k. k ≤ x) → earlier known day ≤ x
unfolding earlier
earlier_known None day x k = absurd k
earlier_known (Some known) day x k = omega (arith, k)

-- what the test "reaches" says
pub reaches_true : (u : ℕ) (o : Option ℕ) → reaches u o ≡ true → IsSomeAnd o (λ d. d ≤ u + 1)
unfolding reaches follows_from
reaches_true u None e = absurd (true≢false (sym e))
reaches_true u (Some d) e = leb-true _ _ e

pub reaches_false : (u : ℕ) (o : Option ℕ) → reaches u o ≡ false → IfSome o (λ d. u + 1 < d)
unfolding reaches follows_from
reaches_false u None e = tt
reaches_false u (Some d) e = leb-false _ _ e

pub reaches_past : (u : ℕ) (o : Option ℕ) → IfSome o (λ d. u + 1 < d) → reaches u o ≡ false
unfolding reaches follows_from
reaches_past u None h = refl
reaches_past u (Some d) h = lt-leb _ _ h
