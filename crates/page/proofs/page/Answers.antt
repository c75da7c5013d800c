-- `page::page` meets its contract: 15, the list's refusals, 30, then the lines.
use mathlib.Core.Path.{ap, sym, ◌∙◌}
use borrow.Author.Rules.{rules}
use Rattle.std.proofs.lemmas.Result.{err_from_is_err_and}
use Rattle.page.proofs.Writing.{page_bad, page_refused, page_short, page_fits, page_written}
use Rattle.page.proofs.page.Goals as goal

pub returns-then-pass_bad : goal.returns-then-pass_bad
returns-then-pass_bad c =
    let p = page_bad _ _ _ _ _ (sym c.pass_bad.ensures ∙ c.if-pass_bad.true) in record { result_value = p.0; buffer_value = p.1 }

pub returns-in_err-lines : goal.returns-in_err-lines
returns-in_err-lines c =
    let f = err_from_is_err_and c.from_residual.result c.from_residual.ensures.1 in
    let p = page_refused _ _ _ _ _ (sym c.pass_bad.ensures ∙ c.if-pass_bad.false) (sym (rw c.new-pass.ensures at c.in_err-lines.ensures)) in
    rw (f.1, f.2) (record { result_value = p.0; buffer_value = p.1 })

pub returns-then-buffer-lines : goal.returns-then-buffer-lines
returns-then-buffer-lines c =
    let p = page_short _ _ _ _ _ (sym c.pass_bad.ensures ∙ c.if-pass_bad.false) (sym (rw c.new-pass.ensures at c.in_ok-lines.ensures)) c.if-buffer-lines.true in
    record { result_value = p.0; buffer_value = p.1 }

pub write_lines-requires : goal.write_lines-requires
write_lines-requires c =
    rw c.new-pass.ensures
    (page_fits _ _ _ _ _ (sym c.pass_bad.ensures ∙ c.if-pass_bad.false) (sym (rw c.new-pass.ensures at c.in_ok-lines.ensures)) _ c.new-writer.ensures.1
    (ap (λ b. b.now) c.new-writer.ensures.0) c.if-buffer-lines.false)

pub returns : goal.returns
returns c =
    let n = c.new-writer.ensures in
    let w = rw (n.0, n.1, c.new-pass.ensures) at c.write_lines.ensures.buffer in
    let p = page_written _ _ _ _ _ (sym c.pass_bad.ensures ∙ c.if-pass_bad.false) (sym (rw c.new-pass.ensures at c.in_ok-lines.ensures)) c.if-buffer-lines.false w in
    record { result_value = p.0; buffer_value = rw (← p.1) (search rules) }
