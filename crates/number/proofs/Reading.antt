-- The groups of a number, read one after another: what is left, from here on, still makes the whole number.
use mathlib.Core.Path.{◌≡◌, refl, ap, sym, ◌∙◌}
use mathlib.Core.Bool.{false}
use mathlib.Core.List.{List}
use Prim.Native.Nat.{ℕ, zero, suc, ◌+◌, ◌-◌, ◌*◌, ◌%◌, ◌<◌, ◌≤◌}
use native.Mathlib.Nat.{mul-add, mul_assoc, mul_comm, mul-le-mul_right}
use native.Mathlib.Omega.{arith}
use lib.ListN.{length, get_or}
use Rattle.rules.specs.Answers.{Answer, answer, refused}
use Rattle.number.specs.declared.Number.{Number}
use Rattle.number.specs.Number.{found, last_byte, added_to, followed, bit_groups_at}
use Rattle.number.proofs.Groups.{short, last, more, fifth, fifth_above, last_zero, last_positive}

-- what a group counts for that k others may follow
abbrev unit_of : ℕ → ℕ
unit_of zero = 268435456
unit_of (suc zero) = 2097152
unit_of (suc (suc zero)) = 16384
unit_of (suc (suc (suc k))) = 128

added_to_found : (low unit value next : ℕ) → added_to low unit (found value next) ≡ found (low + value * unit) next
unfolding added_to
added_to_found low unit value next = ap (λ p. found (low + p) next) (mul_comm unit value)

added_to_refused : (low unit n : ℕ) → added_to low unit (refused n) ≡ refused n
unfolding added_to
added_to_refused low unit n = refl

-- a group taken from what follows
added_to_followed : (low unit b : ℕ) (rest : Answer Number) → 128 ≤ b → b < 256 → added_to low unit (followed b rest) ≡ added_to (low + (b - 128) * unit) (unit * 128) rest
unfolding added_to followed
added_to_followed low unit b (refused n) h l = refl
added_to_followed low unit b (answer r) h l =
    let group : b % 128 ≡ b - 128 = omega arith in
    let whole : unit * (b % 128 + 128 * r.value) ≡ (b - 128) * unit + unit * 128 * r.value =
    rw (mul-add unit (b % 128) (128 * r.value), group, mul_comm unit (b - 128), mul_assoc unit 128 r.value) in
    ap (λ v. found v r.next) (omega arith)

-- from position i on, `sum` of the number is known, and the group at i counts for `unit`
pub record Later (bytes : List ℕ) (at low i unit sum : ℕ) : Type 0 where
  pub more : ℕ
  pub most : more ≤ 3
  pub place : i + more ≡ at + 3
  pub counts : unit ≡ unit_of more
  pub small : sum < unit
  pub whole : added_to sum unit (bit_groups_at more false bytes i) ≡ added_to low 128 (bit_groups_at 3 false bytes at)

-- a group after which one more may come
record Inner (more unit : ℕ) : Type 0 where
  rest : ℕ
  one_more : more ≡ suc rest
  counts : unit * 128 ≡ unit_of rest
  low : unit ≤ 2097152

inner : (more unit : ℕ) → more ≤ 3 → unit ≡ unit_of more → 1 ≤ more → Inner more unit
inner zero unit m e h = absurd (omega arith)
inner (suc zero) unit m e h = record { rest = 0; one_more = refl; counts = omega arith; low = omega arith }
inner (suc (suc zero)) unit m e h = record { rest = 1; one_more = refl; counts = omega arith; low = omega arith }
inner (suc (suc (suc zero))) unit m e h = record { rest = 2; one_more = refl; counts = omega arith; low = omega arith }
inner (suc (suc (suc (suc k)))) unit m e h = absurd (omega arith)

outer : (more unit : ℕ) → more ≤ 3 → unit ≡ unit_of more → 268435456 ≤ unit → more ≡ 0
outer zero unit m e h = refl
outer (suc zero) unit m e h = omega arith
outer (suc (suc zero)) unit m e h = omega arith
outer (suc (suc (suc k))) unit m e h = omega arith

pub begins : {bytes : List ℕ} {at low : ℕ} → low < 128 → Later bytes at low at 128 low
begins h = record { more = 3; most = omega arith; place = refl; counts = refl; small = h; whole = refl }

-- a group's worth, with those below it, and that of the next group
abbrev pub Worth : ℕ → ℕ → ℕ → Type 0
Worth b unit sum = (b * unit ≤ 266338304) × (sum + b * unit < unit * 128) × (unit * 128 ≤ 268435456)

pub worth : {b unit sum : ℕ} → b < 128 → sum < unit → unit ≤ 2097152 → Worth b unit sum
worth {b} {unit} h s l =
    let p : b * unit ≤ 127 * unit = mul-le-mul_right unit (omega arith) in
    (omega arith, omega arith, omega arith)

module _ {bytes : List ℕ} {at low i unit sum : ℕ} (l : Later bytes at low i unit sum) (h : i < at + 3) where
  inside : Inner l.more unit
  inside = inner l.more unit l.most l.counts (omega (arith, l.place))

  pub unit_low : unit ≤ 2097152
  unit_low = inside.low

  whole_inside : added_to sum unit (bit_groups_at (suc inside.rest) false bytes i) ≡ added_to low 128 (bit_groups_at 3 false bytes at)
  whole_inside = rw inside.one_more at l.whole

  pub cut : length bytes ≤ i → refused 1 ≡ added_to low 128 (bit_groups_at 3 false bytes at)
  cut n = sym (ap (added_to sum unit) (short bytes i (suc inside.rest) false n) ∙ added_to_refused sum unit 1) ∙ whole_inside

  pub zero_last : i < length bytes → get_or bytes i 0 ≡ 0 → refused 2 ≡ added_to low 128 (bit_groups_at 3 false bytes at)
  zero_last n z =
      sym (ap (added_to sum unit) (last bytes i inside.rest false n (omega arith) ∙ ap (λ b. last_byte false b i) z ∙ last_zero i) ∙ added_to_refused sum unit 2)
      ∙ whole_inside

  pub ends : i < length bytes → get_or bytes i 0 < 128 → (get_or bytes i 0 ≡ 0 → ⊥)
      → found (sum + get_or bytes i 0 * unit) (i + 1) ≡ added_to low 128 (bit_groups_at 3 false bytes at)
  ends n b z =
      sym (ap (added_to sum unit) (last bytes i inside.rest false n b ∙ last_positive false (get_or bytes i 0) i z) ∙ added_to_found sum unit (get_or bytes i 0) (i + 1))
      ∙ whole_inside

  pub goes_on : i < length bytes → 128 ≤ get_or bytes i 0 → get_or bytes i 0 < 256
      → Later bytes at low (i + 1) (unit * 128) (sum + (get_or bytes i 0 - 128) * unit)
  goes_on n b f =
      let w = worth {b = get_or bytes i 0 - 128} (omega arith) l.small unit_low in
      let lower = l.most in
      let one = inside.one_more in
      record {
        more = inside.rest;
        most = omega arith;
        place = omega (arith, l.place);
        counts = inside.counts;
        small = w.1;
        whole = sym (added_to_followed sum unit (get_or bytes i 0) (bit_groups_at inside.rest false bytes (i + 1)) b f)
            ∙ sym (ap (added_to sum unit) (more bytes i inside.rest false n b)) ∙ whole_inside;
      }

-- what counts for no less than the fifth group does is the fifth
module _ {bytes : List ℕ} {at low i unit sum : ℕ} (l : Later bytes at low i unit sum) (h : 268435456 ≤ unit) where
  at_fifth : l.more ≡ 0
  at_fifth = outer l.more unit l.most l.counts h

  unit_fifth : unit ≡ 268435456
  unit_fifth = l.counts ∙ ap unit_of at_fifth

  pub fifth_small : sum < 268435456
  fifth_small = omega (arith, l.small, unit_fifth)

  pub fifth_whole : added_to sum 268435456 (bit_groups_at 0 false bytes i) ≡ added_to low 128 (bit_groups_at 3 false bytes at)
  fifth_whole = rw (unit_fifth, at_fifth) at l.whole

module _ (bytes : List ℕ) (at low : ℕ) where
  pub fifth_cut : length bytes ≤ at → refused 1 ≡ added_to low 268435456 (bit_groups_at 0 false bytes at)
  fifth_cut n = sym (ap (added_to low 268435456) (short bytes at 0 false n) ∙ added_to_refused low 268435456 1)

  pub fifth_great : at < length bytes → 15 < get_or bytes at 0 → refused 2 ≡ added_to low 268435456 (bit_groups_at 0 false bytes at)
  fifth_great n b = sym (ap (added_to low 268435456) (fifth_above bytes at false n b) ∙ added_to_refused low 268435456 2)

  pub fifth_zero : at < length bytes → get_or bytes at 0 ≡ 0 → refused 2 ≡ added_to low 268435456 (bit_groups_at 0 false bytes at)
  fifth_zero n z =
      sym (ap (added_to low 268435456) (fifth bytes at false n (omega arith) ∙ ap (λ b. last_byte false b at) z ∙ last_zero at) ∙ added_to_refused low 268435456 2)

  pub fifth_ends : at < length bytes → get_or bytes at 0 ≤ 15 → (get_or bytes at 0 ≡ 0 → ⊥)
      → found (low + get_or bytes at 0 * 268435456) (at + 1) ≡ added_to low 268435456 (bit_groups_at 0 false bytes at)
  fifth_ends n b z =
      sym (ap (added_to low 268435456) (fifth bytes at false n b ∙ last_positive false (get_or bytes at 0) at z) ∙ added_to_found low 268435456 (get_or bytes at 0) (at + 1))
