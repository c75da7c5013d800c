-- A line's fields, written one after another.
use mathlib.Core.Path.{◌≡◌, refl, ap, sym, ◌∙◌, subst}
use mathlib.Core.Bool.{Bool, true, false, cond, not, ◌&&◌, ◌||◌}
use mathlib.Core.List.{List, [], ◌∷◌, ◌++◌, append-nil, append_assoc}
use Prim.Native.Nat.{ℕ, zero, suc, ◌+◌, ◌-◌, ◌≤◌}
use native.Mathlib.Omega.{arith}
use lib.Dec.{eqb, leb, ltb}
use lib.ListN.{length, take, replicate, length-append, length-replicate}
use borrow.Author.Tests.{ne_eqb, ltb-false}
use Rattle.rules.specs.Answers.{answer, refused}
use Rattle.rules.specs.Buffers.{written, after}
use Rattle.rules.proofs.Bools.{or_none}
use Rattle.rules.proofs.Pieces.{length_four}
use Rattle.writer.specs.declared.Writer.{Writer}
use Rattle.writer.specs.Writing.{Wrote, WroteAll}
use Rattle.writer.proofs.Writing.{wrote_all, wrote_then, wrote_both, wrote_nothing, whole_short, whole_wrote}
use Rattle.text.specs.Decimal.{decimal}
use Rattle.text.specs.Letters.{letters}
use Rattle.text.proofs.Laws.{decimal_count}
use Rattle.calendar.specs.declared.Date.{Date}
use Rattle.calendar.specs.Calendar.{date_of, last_dated}
use Rattle.dates.specs.Dates.{date_text, dated_text}
use Rattle.dates.proofs.Writing.{date_count, dated_is}
use Rattle.grant.specs.Grant.{Grant}
use Rattle.matching.specs.Matching.{Window, window}
use Rattle.renewals.specs.Dating.{is_open, runs, has_ended}
use Rattle.board.specs.Board.{right_in, left_in, last_text, state_text, field, grant_line, undated, dated_line, line_answer, line_buffer}

-- a field's text, and then one byte
pub field_written : {old mid new : Writer} {text : List ℕ} {last : ℕ} → Wrote old mid text → Wrote mid new (last ∷ []) → old.at + (length text + 1) ≤ length old.buffer.now
    → WroteAll old new (field text last)
unfolding field
field_written {text = text} {last} w v h = wrote_then w (wrote_all v) (omega (arith, length-append text (last ∷ [])))

field_count : (text : List ℕ) (last : ℕ) → length (field text last) ≡ length text + 1
unfolding field
field_count text last = length-append text (last ∷ [])

-- ## The feature

pub some_blanks : (k n : ℕ) → k ≤ n → take k (replicate {A = ℕ} n 32) ≡ replicate k 32
some_blanks zero n h = refl
some_blanks (suc k) zero h = absurd (omega arith)
some_blanks (suc k) (suc n) h = ap (λ t. 32 ∷ t) (some_blanks k n (omega arith))

-- ten columns
feature_count : (n : ℕ) → length (right_in 10 (decimal n)) ≡ 10
unfolding right_in
feature_count n = simp (length-append, length-replicate) (omega (arith, decimal_count n))

pub feature_length : (n : ℕ) → length (field (right_in 10 (decimal n)) 32) ≡ 11
feature_length n = omega (arith, field_count (right_in 10 (decimal n)) 32, feature_count n)

-- blanks, digits, and a space
pub feature_written : {old first second new : Writer} (n : ℕ) {blanks : List ℕ} → old.at + 11 ≤ length old.buffer.now → blanks ≡ replicate (10 - length (decimal n)) 32
    → Wrote old first blanks → Wrote first second (decimal n) → Wrote second new (32 ∷ []) → WroteAll old new (field (right_in 10 (decimal n)) 32)
unfolding right_in field
feature_written {old} {first} n {blanks} h e w v u =
    let c = feature_count n in
    let b : length blanks ≡ 10 - length (decimal n) = ap length e ∙ length-replicate {A = ℕ} (10 - length (decimal n)) 32 in
    let l = length-append (decimal n) (32 ∷ []) in
    let d = decimal_count n in
    let all : WroteAll old _ (blanks ++ (decimal n ++ (32 ∷ []))) = wrote_then w (wrote_then v (wrote_all u)) (omega (arith, length-append blanks (decimal n ++ (32 ∷ [])))) in
    subst (WroteAll old _) (ap (λ (s : List ℕ). s ++ (decimal n ++ (32 ∷ []))) e ∙ sym (append_assoc (replicate (10 - length (decimal n)) 32) (decimal n) (32 ∷ []))) all

-- ## The dates

-- a date fills its ten columns
date_fills : (t : Date) → left_in 10 (date_text t) ≡ date_text t
unfolding left_in
date_fills t = rw (date_count t) (append-nil (date_text t))

pub date_written : {old mid new : Writer} (day : ℕ) → day ≤ last_dated → old.at + 11 ≤ length old.buffer.now → Wrote old mid (dated_text day) → Wrote mid new (32 ∷ [])
    → WroteAll old new (field (left_in 10 (date_text (date_of day))) 32)
date_written {old} {mid} day d h w v =
    let t = date_of day in
    let w' : Wrote old mid (date_text t) = subst (Wrote old mid) (dated_is day d) w in
    rw (date_fills t) (field_written w' v (omega (arith, date_count t)))

pub last_open : (111 ∷ 112 ∷ 101 ∷ 110 ∷ 32 ∷ 32 ∷ 32 ∷ 32 ∷ 32 ∷ 32 ∷ 32 ∷ []) ≡ field (left_in 10 (last_text 0)) 32
unfolding field left_in last_text
last_open = refl

pub last_dated_lem : (last : ℕ) → (last ≡ 0 → ⊥) → last_text last ≡ date_text (date_of last)
unfolding last_text
last_dated_lem last h = rw (ne_eqb last 0 h)

last_count : (last : ℕ) → length (left_in 10 (last_text last)) ≡ 10
unfolding last_text left_in
last_count last = go (eqb last 0)
  where
    go : (b : Bool) → length (left_in 10 (cond b (letters "open") (date_text (date_of last)))) ≡ 10
    go true = refl
    go false = ap length (date_fills (date_of last)) ∙ date_count (date_of last)

-- ## The state

module _ (day : ℕ) (w : Window) where
  pub state_on : (leb w.first day && (eqb w.last 0 || leb day w.last)) ≡ true
      → (111 ∷ 110 ∷ 32 ∷ 32 ∷ 32 ∷ 32 ∷ 32 ∷ 10 ∷ []) ≡ field (left_in 7 (state_text day w)) 10
  unfolding field left_in state_text runs is_open
  state_on e = rw e

  pub state_ended : (leb w.first day && (eqb w.last 0 || leb day w.last)) ≡ false → (not (eqb w.last 0) && ltb w.last day) ≡ true
      → (101 ∷ 110 ∷ 100 ∷ 101 ∷ 100 ∷ 32 ∷ 32 ∷ 10 ∷ []) ≡ field (left_in 7 (state_text day w)) 10
  unfolding field left_in state_text runs has_ended is_open
  state_ended e f = rw (e, f)

  pub state_ahead : (leb w.first day && (eqb w.last 0 || leb day w.last)) ≡ false → (not (eqb w.last 0) && ltb w.last day) ≡ false
      → (97 ∷ 104 ∷ 101 ∷ 97 ∷ 100 ∷ 32 ∷ 32 ∷ 10 ∷ []) ≡ field (left_in 7 (state_text day w)) 10
  unfolding field left_in state_text runs has_ended is_open
  state_ahead e f = rw (e, f)

  state_count : length (left_in 7 (state_text day w)) ≡ 7
  unfolding state_text left_in
  state_count = go (runs day w) (has_ended day w)
    where
      go : (a b : Bool) → length (left_in 7 (cond a (letters "on") (cond b (letters "ended") (letters "ahead")))) ≡ 7
      go true b = refl
      go false true = refl
      go false false = refl

-- ## The line

module _ (day : ℕ) (g : Grant) where
  abbrev feature_part : List ℕ
  feature_part = field (right_in 10 (decimal g.feature)) 32

  abbrev first_part : List ℕ
  first_part = field (left_in 10 (date_text (date_of g.first))) 32

  abbrev last_part : List ℕ
  last_part = field (left_in 10 (last_text g.last)) 32

  abbrev state_part : List ℕ
  state_part = field (left_in 7 (state_text day (window g))) 10

  pub first_length : length first_part ≡ 11
  first_length =
      omega (arith, field_count (left_in 10 (date_text (date_of g.first))) 32, ap length (date_fills (date_of g.first)), date_count (date_of g.first))

  pub last_length : length last_part ≡ 11
  last_length = omega (arith, field_count (left_in 10 (last_text g.last)) 32, last_count g.last)

  state_length : length state_part ≡ 8
  state_length = omega (arith, field_count (left_in 7 (state_text day (window g))) 10, state_count day (window g))

  -- 41 bytes
  pub line_count : length (grant_line day g) ≡ 41
  unfolding grant_line
  line_count =
      omega (arith, length_four feature_part first_part last_part state_part, feature_length g.feature, first_length, last_length, state_length)

  -- the four fields, one after another
  pub fields_written : {p q r s t : Writer} → p.at + 41 ≤ length p.buffer.now
      → WroteAll p q feature_part → WroteAll q r first_part → WroteAll r s last_part → WroteAll s t state_part → WroteAll p t (grant_line day g)
  unfolding grant_line
  fields_written h a b c d =
      let n = feature_length g.feature in
      let f = first_length in
      let l = last_length in
      let k = state_length in
      let cd = wrote_both c d (omega (arith, a.place, b.place, a.same_length, b.same_length)) in
      let x = length-append last_part state_part in
      let bcd = wrote_both b cd (omega (arith, a.place, a.same_length)) in
      let y = length-append first_part (last_part ++ state_part) in
      wrote_both a bcd (omega arith)

  -- ## Its writer

  -- neither day is above the last that has a date
  pub in_time : undated g ≡ false → (g.first ≤ last_dated) × (g.last ≤ last_dated)
  unfolding undated
  in_time e = let h = or_none (ltb last_dated g.first) _ e in (ltb-false _ _ h.0, ltb-false _ _ h.1)

  module _ (w : Writer) where
    pub line_undated : undated g ≡ true → (refused 31 ≡ line_answer w.buffer.now w.at day g) × (w.buffer.now ≡ line_buffer w.buffer.now w.at day g) × Wrote w w (dated_line day g)
    unfolding line_answer line_buffer dated_line
    line_undated e = (rw e, rw e, rw e (wrote_nothing w))

    module _ (good : undated g ≡ false) where
      line_good : (written w.buffer.now w.at (grant_line day g) ≡ line_answer w.buffer.now w.at day g) × (after w.buffer.now w.at (grant_line day g) ≡ line_buffer w.buffer.now w.at day g)
          × (grant_line day g ≡ dated_line day g)
      unfolding line_answer line_buffer dated_line
      line_good = (rw good, rw good, rw good)

      pub line_short : ltb (length w.buffer.now) (w.at + 41) ≡ true
          → (refused 30 ≡ line_answer w.buffer.now w.at day g) × (w.buffer.now ≡ line_buffer w.buffer.now w.at day g) × Wrote w w (dated_line day g)
      line_short h =
          let k = whole_short w (grant_line day g) (sym line_count) h in
          (k.0 ∙ line_good.0, k.1.buffer ∙ line_good.1, subst (Wrote w w) line_good.2 k.1)

      pub line_written : {new : Writer} → ltb (length w.buffer.now) (w.at + 41) ≡ false → WroteAll w new (grant_line day g)
          → (answer 41 ≡ line_answer w.buffer.now w.at day g) × (new.buffer.now ≡ line_buffer w.buffer.now w.at day g) × Wrote w new (dated_line day g)
      line_written {new} h e =
          let k = whole_wrote w (grant_line day g) (sym line_count) h e in
          (k.0 ∙ line_good.0, k.1.buffer ∙ line_good.1, subst (Wrote w new) line_good.2 k.1)
