-- The laws of stored numbers, for a number in the middle of longer bytes. Callers use these and never look into the definitions.
use mathlib.Core.Path.{◌≡◌, refl, ap, ap₂, sym, ◌∙◌}
use mathlib.Core.Bool.{Bool, true, false}
use mathlib.Core.List.{List, [], ◌∷◌, ◌++◌}
use Prim.Native.Nat.{ℕ, zero, suc, ◌+◌, ◌*◌, ◌/◌, ◌%◌, ◌<◌, ◌≤◌}
use native.Mathlib.Omega.{arith}
use native.Mathlib.Numerals.{add-one}
use lib.ListN.{length, get_or, take, drop, length-append, take-append-drop}
use lib.Seq.{get_or-append_seam, append_snoc, drop-cons, take-append_seam, drop-append_seam, drop-append-add, take_at}
use Rattle.rules.specs.Answers.{Answer, answer, refused}
use Rattle.rules.specs.Limits.{greatest}
use Rattle.rules.specs.Buffers.{Bytes}
use Rattle.rules.proofs.Cases.{by_lt, by_eq}
use Rattle.rules.proofs.Answers.{same_answer, never_refused}
use Rattle.number.specs.declared.Number.{Number}
use Rattle.number.specs.Number.{found, last_byte, followed, bit_groups_at, number_at, bit_groups_of, bytes_of}
use Rattle.number.proofs.Groups.{short, last, more, fifth, fifth_above, last_only, last_zero, last_positive, followed_found, followed_refused, one_group, more_groups, last_groups, cap, cap_pos}

-- ## Writing, then reading

seam_in : (before : List ℕ) (b : ℕ) (after : List ℕ) → length before < length (before ++ (b ∷ after))
seam_in before b after = rw length-append (omega arith)

-- a last byte in front of any bytes
last_back : (only : Bool) (value : ℕ) (before : List ℕ) → (only ≡ false → 1 ≤ value)
    → last_byte only value (length before) ≡ found value (length before + 1)
last_back true value before positive = last_only value (length before)
last_back false value before positive = last_positive false value (length before) (λ e. omega (arith, positive refl))

-- a byte that another follows, in front of groups that read back
more_back : (k value : ℕ) (only : Bool) (before after : List ℕ) → 128 ≤ value
    → bit_groups_at k false (before ++ ((value % 128 + 128) ∷ (bit_groups_of k (value / 128) ++ after))) (length before + 1)
    ≡ found (value / 128) (length before + 1 + length (bit_groups_of k (value / 128)))
    → bit_groups_at (suc k) only (before ++ ((value % 128 + 128) ∷ (bit_groups_of k (value / 128) ++ after))) (length before)
    ≡ found value (length before + suc (length (bit_groups_of k (value / 128))))
more_back k value only before after h e =
    let rest = bit_groups_of k (value / 128) ++ after in
    let b = value % 128 + 128 in
    let here = get_or-append_seam before b rest 0 in
    more (before ++ (b ∷ rest)) (length before) k only (seam_in before b rest) (rw here (omega arith))
    ∙ rw (here, e) (followed_found b (value / 128) _ ∙ ap₂ found (omega arith) (omega arith))

back : (k value : ℕ) (only : Bool) (before after : List ℕ) → value < cap k → (only ≡ false → 1 ≤ value)
    → bit_groups_at k only (before ++ (bit_groups_of k value ++ after)) (length before) ≡ found value (length before + length (bit_groups_of k value))
back zero value only before after small positive =
    let here = get_or-append_seam before value after 0 in
    rw (last_groups value)
    (fifth (before ++ (value ∷ after)) (length before) only (seam_in before value after) (rw here (omega arith)) ∙ rw here (last_back only value before positive))
back (suc k) value only before after small positive =
    by_lt value 128
    (λ h.
    let here = get_or-append_seam before value after 0 in
    rw (one_group (suc k) value h)
    (last (before ++ (value ∷ after)) (length before) k only (seam_in before value after) (rw here h) ∙ rw here (last_back only value before positive)))
    (λ h. rw (more_groups k value h)
    (more_back k value only before after h
    (simp (append_snoc, length-append) at (back k (value / 128) false (before ++ ((value % 128 + 128) ∷ [])) after (omega arith) (λ _. omega arith)))))

-- writing then reading gives the number and the position after it
pub number_back : (value : ℕ) (before after : List ℕ) → value ≤ greatest
    → number_at (before ++ (bytes_of value ++ after)) (length before) ≡ found value (length before + length (bytes_of value))
unfolding number_at bytes_of
number_back value before after h = back 4 value true before after (omega arith) (λ e. let z : ◌≡◌ {A = ℕ} 0 1 = cc in omega arith)

-- ## Reading, then writing

-- what reads as a number at a position: the value's groups stand there, and the next position is after them
record Stands (k : ℕ) (only : Bool) (bytes : List ℕ) (at value next : ℕ) : Type 0 where
  small : value < cap k
  positive : only ≡ false → 1 ≤ value
  ends : next ≡ at + length (bit_groups_of k value)
  groups : drop at bytes ≡ bit_groups_of k value ++ drop next bytes

same_found : {v n value next : ℕ} → found v n ≡ found value next → (v ≡ value) × (n ≡ next)
same_found e = let f = same_answer e in (ap (λ (m : Number). m.value) f, ap (λ (m : Number). m.next) f)

-- a last byte
last_stands : (k : ℕ) (only : Bool) (bytes : List ℕ) (at : ℕ) {value next : ℕ} → at < length bytes → get_or bytes at 0 < cap k → get_or bytes at 0 < 128
    → last_byte only (get_or bytes at 0) at ≡ found value next → Stands k only bytes at value next
last_stands k only bytes at {value} {next} h small low e = go only e
  where
    stands_here : (o : Bool) → (o ≡ false → 1 ≤ get_or bytes at 0) → found (get_or bytes at 0) (at + 1) ≡ found value next → Stands k o bytes at value next
    stands_here o positive f =
        let ev = (same_found f).0 in
        let en = (same_found f).1 in
        let one : bit_groups_of k value ≡ value ∷ [] = rw ev at (one_group k (get_or bytes at 0) low) in
        let n : next ≡ suc at = omega arith in
        record {
          small = omega arith;
          positive = λ o. omega (arith, positive o);
          ends = rw one (omega arith);
          groups = rw (one, n, ← ev) (drop-cons bytes at 0 h);
        }

    go : (o : Bool) → last_byte o (get_or bytes at 0) at ≡ found value next → Stands k o bytes at value next
    go true e = stands_here true (λ o. let z : ◌≡◌ {A = ℕ} 0 1 = cc in let f : ⊥ = omega arith in absurd f) (sym (last_only _ _) ∙ e)
    go false e =
        by_eq (get_or bytes at 0) 0
        (λ z. never_refused (sym (last_zero at) ∙ sym (ap (λ b. last_byte false b at) z) ∙ e))
        (λ z. stands_here false (λ _. omega arith) (sym (last_positive false _ _ z) ∙ e))

-- a byte that another follows
more_stands : (k : ℕ) (only : Bool) (bytes : List ℕ) (at : ℕ) {value next : ℕ} → Bytes bytes → at < length bytes → 128 ≤ get_or bytes at 0
    → (rest : Answer Number) → ((v m : ℕ) → rest ≡ found v m → Stands k false bytes (at + 1) v m)
    → followed (get_or bytes at 0) rest ≡ found value next → Stands (suc k) only bytes at value next
more_stands k only bytes at bs h l (refused n) ih e = never_refused (sym (followed_refused _ n) ∙ e)
more_stands k only bytes at {value} {next} bs h l (answer r) ih e =
    let i = ih r.value r.next refl in
    let b = get_or bytes at 0 in
    let f : found (b % 128 + 128 * r.value) r.next ≡ found value next = sym (followed_found b r.value r.next) ∙ e in
    let ev = (same_found f).0 in
    let en = (same_found f).1 in
    let byte = bs at in
    let some = i.positive refl in
    let low : value % 128 + 128 ≡ b = omega arith in
    let high : value / 128 ≡ r.value = omega arith in
    let all : bit_groups_of (suc k) value ≡ b ∷ bit_groups_of k r.value = more_groups k value (omega arith) ∙ rw (low, high) in
    record {
      small = omega (arith, i.small);
      positive = λ _. omega arith;
      ends = rw all (omega (arith, i.ends));
      groups = rw (all, ← en) (drop-cons bytes at 0 h ∙ ap (λ (t : List ℕ). b ∷ t) (rw add-one at i.groups));
    }

stands : (k : ℕ) (only : Bool) (bytes : List ℕ) (at : ℕ) {value next : ℕ} → Bytes bytes → bit_groups_at k only bytes at ≡ found value next → Stands k only bytes at value next
stands zero only bytes at bs e =
    by_lt at (length bytes)
    (λ h. by_lt 15 (get_or bytes at 0)
    (λ l. never_refused (sym (fifth_above bytes at only h l) ∙ e))
    (λ l. last_stands zero only bytes at h (omega arith) (omega arith) (sym (fifth bytes at only h l) ∙ e)))
    (λ h. never_refused (sym (short bytes at 0 only h) ∙ e))
stands (suc k) only bytes at bs e =
    by_lt at (length bytes)
    (λ h. by_lt (get_or bytes at 0) 128
    (λ l. last_stands (suc k) only bytes at h (omega (arith, cap_pos k)) l (sym (last bytes at k only h l) ∙ e))
    (λ l. more_stands k only bytes at bs h l (bit_groups_at k false bytes (at + 1)) (λ v m f. stands k false bytes (at + 1) bs f) (sym (more bytes at k only h l) ∙ e)))
    (λ h. never_refused (sym (short bytes at (suc k) only h) ∙ e))

-- a value that reads in is at most the greatest
pub number_fits : (bytes : List ℕ) (at : ℕ) {value next : ℕ} → Bytes bytes → number_at bytes at ≡ found value next → value ≤ greatest
unfolding number_at
number_fits bytes at bs e = omega (arith, (stands 4 true bytes at bs e).small)

-- bytes that read in as a value have the value's bytes there
pub number_stands : (bytes : List ℕ) (at : ℕ) {value next : ℕ} → Bytes bytes → number_at bytes at ≡ found value next
    → (next ≡ at + length (bytes_of value)) × (bytes ≡ take at bytes ++ (bytes_of value ++ drop next bytes))
unfolding number_at bytes_of
number_stands bytes at bs e =
    let s = stands 4 true bytes at bs e in
    (s.ends, sym (take-append-drop at bytes) ∙ ap (λ (t : List ℕ). take at bytes ++ t) s.groups)

-- bytes that read in as a value are exactly the value's bytes
pub number_only : (before bytes after : List ℕ) (value : ℕ) → Bytes (before ++ (bytes ++ after))
    → number_at (before ++ (bytes ++ after)) (length before) ≡ found value (length before + length bytes) → bytes ≡ bytes_of value
unfolding number_at bytes_of
number_only before bytes after value bs e =
    let s = stands 4 true (before ++ (bytes ++ after)) (length before) bs e in
    let n : length (bytes_of value) ≡ length bytes = omega (arith, s.ends) in
    sym (take-append_seam bytes after)
    ∙ ap (take (length bytes)) (simp (drop-append_seam, drop-append-add) at s.groups)
    ∙ take_at (bytes_of value) after (length bytes) n

-- ## Where a number ends

last_in : (only : Bool) (b length at : ℕ) {value next : ℕ} → at < length → last_byte only b at ≡ found value next → (at < next) × (next ≤ length)
last_in true b length at h e = let f = same_found (sym (last_only b at) ∙ e) in omega (arith, f.1)
last_in false b length at h e =
    by_eq b 0
    (λ z. never_refused (sym (last_zero at) ∙ sym (ap (λ b. last_byte false b at) z) ∙ e))
    (λ z. let f = same_found (sym (last_positive false b at z) ∙ e) in omega (arith, f.1))

more_in : (b length at : ℕ) {value next : ℕ} (rest : Answer Number) → ((v m : ℕ) → rest ≡ found v m → (at + 1 < m) × (m ≤ length))
    → followed b rest ≡ found value next → (at < next) × (next ≤ length)
more_in b length at (refused n) ih e = never_refused (sym (followed_refused b n) ∙ e)
more_in b length at (answer r) ih e =
    let f = same_found (sym (followed_found b r.value r.next) ∙ e) in
    omega (arith, f.1, ih r.value r.next refl)

ends_in : (k : ℕ) (only : Bool) (bytes : List ℕ) (at : ℕ) {value next : ℕ} → bit_groups_at k only bytes at ≡ found value next → (at < next) × (next ≤ length bytes)
ends_in zero only bytes at e =
    by_lt at (length bytes)
    (λ h. by_lt 15 (get_or bytes at 0)
    (λ l. never_refused (sym (fifth_above bytes at only h l) ∙ e))
    (λ l. last_in only _ (length bytes) at h (sym (fifth bytes at only h l) ∙ e)))
    (λ h. never_refused (sym (short bytes at 0 only h) ∙ e))
ends_in (suc k) only bytes at e =
    by_lt at (length bytes)
    (λ h. by_lt (get_or bytes at 0) 128
    (λ l. last_in only _ (length bytes) at h (sym (last bytes at k only h l) ∙ e))
    (λ l. more_in (get_or bytes at 0) (length bytes) at (bit_groups_at k false bytes (at + 1)) (λ v m f. ends_in k false bytes (at + 1) f) (sym (more bytes at k only h l) ∙ e)))
    (λ h. never_refused (sym (short bytes at (suc k) only h) ∙ e))

-- a number ends after the position where it starts, and within the bytes
pub number_ends : (bytes : List ℕ) (at : ℕ) {value next : ℕ} → number_at bytes at ≡ found value next → (at < next) × (next ≤ length bytes)
unfolding number_at
number_ends bytes at e = ends_in 4 true bytes at e

-- ## The bytes of a number

pub groups_count : (k value : ℕ) → (1 ≤ length (bit_groups_of k value)) × (length (bit_groups_of k value) ≤ suc k)
groups_count zero value = rw (last_groups value) (omega arith)
groups_count (suc k) value =
    by_lt value 128
    (λ h. rw (one_group (suc k) value h) (omega arith))
    (λ h. rw (more_groups k value h) (omega (arith, groups_count k (value / 128))))

-- a number has 1 to 5 bytes
pub number_count : (value : ℕ) → (1 ≤ length (bytes_of value)) × (length (bytes_of value) ≤ 5)
unfolding bytes_of
number_count value = groups_count 4 value

one_byte : (b : ℕ) → b < 256 → Bytes (b ∷ [])
one_byte b h zero = h
one_byte b h (suc i) = omega arith

more_bytes : (b : ℕ) (bytes : List ℕ) → b < 256 → Bytes bytes → Bytes (b ∷ bytes)
more_bytes b bytes h bs zero = h
more_bytes b bytes h bs (suc i) = bs i

groups_bytes : (k value : ℕ) → value < cap k → Bytes (bit_groups_of k value)
groups_bytes zero value h = rw (last_groups value) (one_byte value (omega arith))
groups_bytes (suc k) value h =
    by_lt value 128
    (λ l. rw (one_group (suc k) value l) (one_byte value (omega arith)))
    (λ l. rw (more_groups k value l) (more_bytes (value % 128 + 128) (bit_groups_of k (value / 128)) (omega arith) (groups_bytes k (value / 128) (omega arith))))

-- each value up to the greatest has bytes
pub number_bytes : (value : ℕ) → value ≤ greatest → Bytes (bytes_of value)
unfolding bytes_of
number_bytes value h = groups_bytes 4 value (omega arith)
