use Rattle.std.proofs.Common.{refl, sym, ◌∙◌}
use Rattle.calendar.specs.Calendar.{date_of}
use Rattle.writer.proofs.Writing.{whole_short}
use Rattle.dates.specs.Dates.{date_text}
use Rattle.dates.proofs.Searching.{writable}
use Rattle.dates.proofs.Writing.{date_count, answer_dated, buffer_dated, wrote_undated, wrote_dated}
use Rattle.dates.proofs.write_date.Goals as goal

pub returns-then-day-gt-LAST_DATED-clause-wrote : goal.returns-then-day-gt-LAST_DATED-clause-wrote
returns-then-day-gt-LAST_DATED-clause-wrote c = wrote_undated _ _ c.if-day-gt-LAST_DATED.true

pub returns-then-too_short : goal.returns-then-too_short
returns-then-too_short c =
    let h = c.if-day-gt-LAST_DATED.false in
    let s = whole_short c.args.writer.now (date_text (date_of c.args.day)) (sym (date_count (date_of c.args.day))) (sym c.too_short.ensures ∙ c.if-too_short.true) in
    record {
      result_value = s.0 ∙ answer_dated _ _ _ h refl refl;
      buffer_value = s.1.buffer ∙ buffer_dated _ _ _ h refl refl;
      wrote = wrote_dated _ _ _ h refl refl s.1;
    }

pub date_text-requires : goal.date_text-requires
date_text-requires c = rw c.date_of.ensures (writable _ c.if-day-gt-LAST_DATED.false)

pub returns : goal.returns
returns c =
    let h = c.if-day-gt-LAST_DATED.false in
    record {
      result_value = c.bytes.ensures.value ∙ answer_dated _ _ _ h c.date_of.ensures c.date_text.ensures;
      buffer_value = c.bytes.ensures.wrote.buffer ∙ buffer_dated _ _ _ h c.date_of.ensures c.date_text.ensures;
      wrote = wrote_dated _ _ _ h c.date_of.ensures c.date_text.ensures c.bytes.ensures.wrote;
    }
