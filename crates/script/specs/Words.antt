-- The words and numbers of a script's line, with one space between them: its tokens.
use Rattle.std.specs.Prelude.{ℕ, ◌+◌, ◌-◌, ◌*◌, ◌%◌, ◌^◌, cond, List, [], ◌∷◌, ◌==◌, nat_le, Option, None, Some}
use Rattle.script.specs.declared.Run.{Run}
use Rattle.script.specs.declared.Run.TheVariants.{One, To, Times}
use Rattle.script.specs.declared.Numeral.{Numeral}
use Rattle.script.specs.declared.Token.{Token}
use Rattle.script.specs.declared.Token.TheVariants.{Letters, Digits}
use Rattle.script.specs.declared.Tokens.{Tokens}

-- the value of a digit, 0 to 9 and A to F
unfoldable pub digit_of : ℕ → Option ℕ
digit_of c = cond (nat_le 48 c) (cond (nat_le c 57) (Some (c - 48)) (cond (nat_le 65 c) (cond (nat_le c 70) (Some (c - 65 + 10)) None) None)) None

-- a number with a digit more, in 64 bits; a longer one stays as it is
unfoldable pub longer : ℕ → ℕ → ℕ
longer n d = cond (nat_le n 1844674407370955161) ((n * 10 + d) % 2 ^ 64) n

abbrev pub numeral_with : Numeral → ℕ → Numeral
numeral_with n d = record { run = n.run; value = longer n.value d; byte = n.byte % 16 * 16 + d }

-- by the sign after a number: `-` or `*`
unfoldable pub run_at : ℕ → ℕ → Run
run_at c first = cond (c == 45) (To first) (cond (c == 42) (Times first) One)

-- a token with a byte more: a digit, the sign after a number, or the first letter of a word
abbrev pub more_digits : Token → ℕ → Token
more_digits (Digits n) d = Digits (numeral_with n d)
more_digits (Letters word) d = Digits (record { run = One; value = d; byte = d })

-- the first letter of a word; 00 begins a number, and 01 leaves a token with nothing
abbrev pub first_letter : ℕ → Token
first_letter c = cond (c == 0) (Digits (record { run = One; value = 0; byte = 0 })) (cond (c == 1) (Letters None) (Letters (Some c)))

abbrev pub more_letters : Token → ℕ → Token
more_letters (Digits n) c = Digits (record { run = run_at c n.value; value = 0; byte = n.byte })
more_letters (Letters None) c = first_letter c
more_letters (Letters (Some word)) c = Letters (Some word)

abbrev pub with_digit_or : Token → ℕ → Option ℕ → Token
with_digit_or t c (Some d) = more_digits t d
with_digit_or t c None = more_letters t c

unfoldable pub token_with : Token → ℕ → Token
token_with t c = with_digit_or t c (digit_of c)

-- a token as far as it has come, if one has begun, and the bytes that follow: a space ends it
abbrev pub begun : Option Token → Token
begun None = Letters None
begun (Some t) = t

unfoldable pub tokens_from : Option Token → List ℕ → List Token
tokens_from None [] = []
tokens_from (Some t) [] = t ∷ []
tokens_from o (c ∷ bytes) = cond (c == 32) (begun o ∷ tokens_from None bytes) (tokens_from (Some (token_with (begun o) c)) bytes)

abbrev pub tokens_of : List ℕ → List Token
tokens_of line = tokens_from None line

abbrev pub tokens_left : Tokens → List Token
tokens_left s = tokens_of s.rest.now
