-- A date's numbers, written one after another.
use mathlib.Core.Path.{◌≡◌, refl, ap, sym, ◌∙◌, subst}
use mathlib.Core.List.{List, []}
use Prim.Native.Nat.{ℕ, ◌+◌, ◌<◌, ◌≤◌}
use native.Mathlib.Omega.{arith}
use lib.ListN.{length}
use borrow.Author.Tests.{lt-ltb, le-ltb}
use Rattle.rules.specs.Answers.{refused}
use Rattle.rules.specs.Buffers.{written, after}
use Rattle.writer.proofs.Writing.{wrote_nothing}
use Rattle.writer.specs.declared.Writer.{Writer}
use Rattle.writer.specs.Writing.{Wrote}
use Rattle.calendar.specs.declared.Date.{Date}
use Rattle.calendar.specs.Calendar.{date_of, last_dated}
use Rattle.dates.specs.Dates.{two, date_text, dated_text, date_answer, date_buffer}

pub date_count : (t : Date) → length (date_text t) ≡ 10
unfolding date_text two
date_count t = refl

-- ## The writer of a day's date

module _ (buffer : List ℕ) (at day : ℕ) where
  pub answer_undated : last_dated < day → refused 31 ≡ date_answer buffer at day
  unfolding date_answer
  answer_undated h = rw (lt-ltb _ _ h)

  pub buffer_undated : last_dated < day → buffer ≡ date_buffer buffer at day
  unfolding date_buffer
  buffer_undated h = rw (lt-ltb _ _ h)

  pub answer_dated : {t : Date} {text : List ℕ} → day ≤ last_dated → t ≡ date_of day → text ≡ date_text t → written buffer at text ≡ date_answer buffer at day
  unfolding date_answer
  answer_dated h e f = rw (le-ltb _ _ h, f, e)

  pub buffer_dated : {t : Date} {text : List ℕ} → day ≤ last_dated → t ≡ date_of day → text ≡ date_text t → after buffer at text ≡ date_buffer buffer at day
  unfolding date_buffer
  buffer_dated h e f = rw (le-ltb _ _ h, f, e)

-- nothing is written where the day is above 36525
pub wrote_undated : (w : Writer) (day : ℕ) → last_dated < day → Wrote w w (dated_text day)
unfolding dated_text
wrote_undated w day h = rw (lt-ltb _ _ h) (wrote_nothing w)

pub dated_is : (day : ℕ) → day ≤ last_dated → dated_text day ≡ date_text (date_of day)
unfolding dated_text
dated_is day h = rw (le-ltb _ _ h)

pub wrote_dated : (old new : Writer) (day : ℕ) {t : Date} {text : List ℕ} → day ≤ last_dated → t ≡ date_of day → text ≡ date_text t → Wrote old new text → Wrote old new (dated_text day)
wrote_dated old new day h e f w = subst (Wrote old new) (f ∙ ap date_text e ∙ sym (dated_is day h)) w
