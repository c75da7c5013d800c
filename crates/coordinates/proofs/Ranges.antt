-- The cases of the definitions, with a difference in the place of each sum, which may not fit.
use Rattle.std.proofs.Common.{◌≡◌, ℕ, ◌+◌, ◌-◌, ◌<◌, ◌≤◌, Bool, true, false, cond, ◌||◌, ltb, leb, List, set, sym, ◌∙◌, inl, inr, mod-eq_of_lt, arith, ltb-false, le-ltb, lt-ltb, le-leb, leb-true}
use borrow.Author.Tests.{lt-leb}
use Rattle.rules.specs.Limits.{greatest}
use Rattle.rules.proofs.Bools.{or_none}
use Rattle.rules.proofs.Cases.{by_lt}
use Rattle.rules.proofs.Ranges.{Clear, le_same}
use Rattle.coordinates.specs.Coordinates.{column_with, within, apart, past, onward}

-- a coordinate is past 64 bits, with a difference in the place of the sum
pub lt_past : (a n : ℕ) → a ≤ 18446744073709551615 → ltb (18446744073709551615 - a) n ≡ past (a + n)
lt_past a n h =
    by_lt (18446744073709551615 - a) n
    (λ k. rw (lt-ltb _ _ k, lt-ltb 18446744073709551615 (a + n) (omega arith)))
    (λ k. rw (le-ltb _ _ k, le-ltb 18446744073709551615 (a + n) (omega arith)))

-- neither of two coordinates is
pub not_past : {a b : ℕ} {s t : Bool} → s ≡ past a → t ≡ past b → (s || t) ≡ false → (a ≤ 18446744073709551615) × (b ≤ 18446744073709551615)
not_past e f g = let h = or_none _ _ g in (ltb-false _ _ (sym e ∙ h.0), ltb-false _ _ (sym f ∙ h.1))

-- a coordinate that is not past 64 bits is reached
pub reached : (a n : ℕ) → a + n ≤ 18446744073709551615 → onward a n ≡ a + n
reached a n h = mod-eq_of_lt (omega arith)

module _ (a q b p : ℕ) where
  pub apart_clear : apart a q b p ≡ true → Clear a q b p
  unfolding apart
  apart_clear h = go (leb a b) h
    where
      go : (c : Bool) → cond c (leb (a + q) b) (leb (b + p) a) ≡ true → Clear a q b p
      go true h = inl (leb-true _ _ h)
      go false h = inr (leb-true _ _ h)

  pub clear_apart : 1 ≤ q → 1 ≤ p → Clear a q b p → apart a q b p ≡ true
  unfolding apart
  clear_apart some other (inl h) = rw (le-leb a b (omega arith), le-leb (a + q) b h)
  clear_apart some other (inr h) = rw (lt-leb a b (omega arith), le-leb (b + p) a h)

module _ (a q b p : ℕ) where
  pub apart_up : a ≤ b → leb q (b - a) ≡ apart a q b p
  unfolding apart
  apart_up h = rw (le-leb _ _ h) (le_same {a = q} {b = b - a} {c = a + q} {d = b} (λ k. omega arith) (λ k. omega arith))

  pub apart_down : b < a → leb p (a - b) ≡ apart a q b p
  unfolding apart
  apart_down h = rw (lt-leb _ _ h) (le_same {a = p} {b = a - b} {c = b + p} {d = a} (λ k. omega arith) (λ k. omega arith))

  pub within_in : a ≤ b → b - a ≤ q → leb p (q - (b - a)) ≡ within a q b p
  unfolding within
  within_in h k = rw (le-leb _ _ h) (le_same {a = p} {b = q - (b - a)} {c = b + p} {d = a + q} (λ m. omega arith) (λ m. omega arith))

  pub within_past : a ≤ b → q < b - a → false ≡ within a q b p
  unfolding within
  within_past h k = rw (le-leb _ _ h, lt-leb (b + p) (a + q) (omega arith))

  pub within_before : b < a → false ≡ within a q b p
  unfolding within
  within_before h = rw (lt-leb _ _ h)

-- a coordinate that has 32 bits is written
pub writes : (column : List ℕ) (i n : ℕ) → n ≤ greatest → column_with column i n ≡ set column i n
unfolding column_with
writes column i n h = rw (le-leb _ _ h)
