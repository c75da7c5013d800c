-- Writing in parts: from a writer as it was to one as it is, with bytes that are left of the whole, for which there is room.
use Rattle.std.proofs.Common.{◌≡◌, ◌∙◌, List, [], ◌++◌, ℕ, ◌+◌, length, ap, arith, length-append}
use Rattle.writer.specs.Writing.{Wrote, WroteAll, HasRoom}
use Rattle.writer.specs.declared.Writer.{Writer}
use Rattle.writer.proofs.Writing.{wrote_all, wrote_both, wrote_none}

pub record Left (old now : Writer) (whole left : List ℕ) : Type 0 where
  pub room : HasRoom now (length left)
  pub then : (last : Writer) → WroteAll now last left → WroteAll old last whole

pub left_all : (w : Writer) (whole : List ℕ) → HasRoom w (length whole) → Left w w whole whole
left_all w whole fits = record { room = fits; then = λ last v. v }

module _ {old now : Writer} {whole : List ℕ} where
  -- a part, and what comes after it
  pub left_room : {left : List ℕ} (x y : List ℕ) → left ≡ x ++ y → Left old now whole left → HasRoom now (length x)
  left_room x y e l = omega (arith, l.room, ap length e, length-append x y)

  pub left_next : {left x y : List ℕ} {next : Writer} → left ≡ x ++ y → Left old now whole left → WroteAll now next x → Left old next whole y
  left_next {left} {x} {y} {next} e l w =
      let n = length-append x y in
      let r = l.room in
      let m = ap length e in
      record {
        room = omega (arith, w.place, w.same_length);
        then = λ last v. l.then last (rw e (wrote_both w v (omega arith)));
      }

  -- written where there is room
  pub left_write : {left x y : List ℕ} {next : Writer} → left ≡ x ++ y → Left old now whole left → Wrote now next x → Left old next whole y
  left_write {left} {x} {y} e l w = left_next e l (wrote_all w (left_room x y e l))

  pub left_last : {left x : List ℕ} {next : Writer} → x ≡ left → Left old now whole left → WroteAll now next x → WroteAll old next whole
  left_last {left} {x} {next} e l w = l.then next (rw e at w)

  pub left_none : {left : List ℕ} → left ≡ [] → Left old now whole left → WroteAll old now whole
  left_none e l = l.then now (rw e (wrote_none now (omega (arith, l.room))))

-- how many bytes the two parts have
pub both_count : {left : List ℕ} (x y : List ℕ) → left ≡ x ++ y → length left ≡ length x + length y
both_count x y e = ap length e ∙ length-append x y
