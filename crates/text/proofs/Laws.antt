-- The digits of a number: one, or those of its tenth and one more. A decimal number has 1 to 10 bytes.
use mathlib.Core.Path.{◌≡◌, refl, ap, ◌∙◌}
use mathlib.Core.List.{[], ◌∷◌, ◌++◌}
use Prim.Native.Nat.{ℕ, zero, suc, ◌+◌, ◌*◌, ◌^◌, ◌/◌, ◌%◌, ◌<◌, ◌≤◌, max}
use native.Mathlib.Omega.{arith}
use native.Mathlib.Nat.{pow-succ'}
use lib.ListN.{length, length-append}
use borrow.Author.Tests.{lt-ltb, le-ltb}
use Rattle.rules.proofs.Cases.{by_lt}
use Rattle.text.specs.Decimal.{digits, decimal}

pub one_digit : (k n : ℕ) → n < 10 → digits k n ≡ (n + 48) ∷ []
unfolding digits
one_digit zero n h = refl
one_digit (suc k) n h = rw (lt-ltb _ _ h)

pub more_digits : (k n : ℕ) → 10 ≤ n → digits (suc k) n ≡ digits k (n / 10) ++ ((n % 10 + 48) ∷ [])
unfolding digits
more_digits k n h = rw (le-ltb _ _ h)

pub last_digit : (n : ℕ) → digits 0 n ≡ (n + 48) ∷ []
unfolding digits
last_digit n = refl

-- numbers below this have at most k digits before their last
abbrev pub cap : ℕ → ℕ
cap zero = 10
cap (suc k) = 10 * cap k

pub more_count : (k n : ℕ) → 10 ≤ n → length (digits (suc k) n) ≡ length (digits k (n / 10)) + 1
more_count k n h = ap length (more_digits k n h) ∙ length-append (digits k (n / 10)) ((n % 10 + 48) ∷ [])

pub digits_count : (k n : ℕ) → (1 ≤ length (digits k n)) × (length (digits k n) ≤ suc k)
digits_count zero n = rw (last_digit n) (omega arith)
digits_count (suc k) n =
    by_lt n 10
    (λ h. rw (one_digit (suc k) n h) (omega arith))
    (λ h. omega (arith, more_count k n h, digits_count k (n / 10)))

power_some : (e : ℕ) → 1 ≤ 10 ^ e
power_some zero = omega arith
power_some (suc e) = omega (arith, pow-succ' 10 e, power_some e)

-- as many as the greatest power of ten that is not above the number
digits_power : (k e n : ℕ) → e ≤ k → 10 ^ e ≤ n → n < 10 * 10 ^ e → length (digits k n) ≡ e + 1
digits_power k zero n l a b = rw (one_digit k n (omega arith)) (omega arith)
digits_power zero (suc e) n l a b = absurd (omega arith)
digits_power (suc k) (suc e) n l a b =
    let p = pow-succ' 10 e in
    let q = power_some e in
    omega (arith, more_count k n (omega arith), digits_power k e (n / 10) (omega arith) (omega arith) (omega arith))

pub decimal_power : (n e m : ℕ) → m ≡ max n 1 → 10 ^ e ≤ m → m < 10 * 10 ^ e → e < 10 → e + 1 ≡ length (decimal n)
unfolding decimal
decimal_power zero e m k a b l = let u : length (digits 9 1) ≡ 1 = ap length (one_digit 9 1 (omega arith)) in
    let z : length (digits 9 0) ≡ 1 = ap length (one_digit 9 0 (omega arith)) in
    omega (arith, digits_power 9 e 1 (omega arith) (omega arith) (omega arith))
decimal_power (suc n) e m k a b l = omega (arith, digits_power 9 e (suc n) (omega arith) (omega arith) (omega arith))

-- a number below 10 is its one digit
pub one_below_ten : (n : ℕ) → n < 10 → decimal n ≡ (n + 48) ∷ []
unfolding decimal
one_below_ten n h = one_digit 9 n h

-- 1 to 10 bytes
pub decimal_count : (n : ℕ) → (1 ≤ length (decimal n)) × (length (decimal n) ≤ 10)
unfolding decimal
decimal_count n = digits_count 9 n
