-- The items of a script's line: its words, and the numbers that its tokens stand for.
use Rattle.std.specs.Prelude.{ℕ, zero, suc, ◌+◌, ◌-◌, ◌%◌, ◌^◌, Bool, false, cond, List, [], ◌∷◌, ◌==◌, nat_le, nat_lt, Option, None, Some}
use Rattle.script.specs.Words.{tokens_of, tokens_left}
use Rattle.script.specs.declared.Run.{Run}
use Rattle.script.specs.declared.Run.TheVariants.{One, To, Times}
use Rattle.script.specs.declared.Numeral.{Numeral}
use Rattle.script.specs.declared.Token.{Token}
use Rattle.script.specs.declared.Token.TheVariants.{Letters, Digits}
use Rattle.script.specs.declared.Member.{Member}
use Rattle.script.specs.declared.Item.{Item}
use Rattle.script.specs.declared.Item.TheVariants.{Word, Number}
use Rattle.script.specs.declared.Items.{Items}

-- the first number that a token stands for: of `a-b`, up or down; of `a*n`; or of itself
abbrev pub member_of : ℕ → ℕ → ℕ → ℕ → Member
member_of value byte left step = record { value = value; byte = byte; left = left; step = step }

abbrev pub member_in : Run → ℕ → ℕ → Member
member_in One b byte = member_of b byte 0 0
member_in (To a) b byte = cond (nat_le a b) (member_of a byte (b - a) 1) (member_of a byte (a - b) 18446744073709551615)
member_in (Times a) b byte = cond (nat_lt b 1) (member_of 0 byte 0 0) (member_of a byte (b - 1) 0)

unfoldable pub first_member : Numeral → Member
first_member n = member_in n.run n.value n.byte

-- and the one after a number
abbrev pub member_after : Member → Member
member_after m = record { value = (m.value + m.step) % 2 ^ 64; byte = m.byte; left = m.left - 1; step = m.step }

abbrev pub number_of : Option ℕ → Member → Item
number_of section m = Number section m.value m.byte

-- a word that begins with 02 ends a line's items
abbrev pub ends : Option ℕ → Bool
ends None = false
ends (Some c) = c == 2

-- the items after a number or a word, so many at most, until they end or the line does
unfoldable pub items_from : ℕ → Option ℕ → Member → List Token → List Item
items_from zero section m tokens = []
items_from (suc k) section m [] = cond (nat_lt 0 m.left) (number_of section (member_after m) ∷ items_from k section (member_after m) []) []
items_from (suc k) section m (Digits n ∷ tokens) =
    cond (nat_lt 0 m.left)
    (number_of section (member_after m) ∷ items_from k section (member_after m) (Digits n ∷ tokens))
    (number_of section (first_member n) ∷ items_from k section (first_member n) tokens)
items_from (suc k) section m (Letters word ∷ tokens) =
    cond (nat_lt 0 m.left)
    (number_of section (member_after m) ∷ items_from k section (member_after m) (Letters word ∷ tokens))
    (cond (ends word) [] (Word word ∷ items_from k word m tokens))

abbrev pub items_left : Items → List Item
items_left s = items_from s.turns s.section s.member (tokens_left s.tokens)

-- a line's items, at most `most` of them
abbrev pub items_up_to : ℕ → List ℕ → List Item
items_up_to most line = items_from most None (member_of 0 0 0 0) (tokens_of line)

abbrev pub items_of : List ℕ → List Item
items_of line = items_up_to 131072 line

-- the letter of the word that a line begins with
abbrev pub word_first : List Token → Option ℕ
word_first [] = None
word_first (Letters word ∷ tokens) = word
word_first (Digits n ∷ tokens) = None

abbrev pub command_of : List ℕ → Option ℕ
command_of line = word_first (tokens_of line)

-- the number with so many numbers before it; 0 where there is none
unfoldable pub given_from : List Token → ℕ → ℕ
given_from [] before = 0
given_from (Letters word ∷ tokens) before = given_from tokens before
given_from (Digits n ∷ tokens) before = cond (before == 0) n.value (given_from tokens (before - 1))

abbrev pub given_of : List ℕ → ℕ → ℕ
given_of line before = given_from (tokens_of line) before
