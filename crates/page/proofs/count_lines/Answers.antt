use mathlib.Core.Path.{◌≡◌, ap, sym, ◌∙◌}
use native.Mathlib.Omega.{arith}
use lib.ListN.{length}
use Rattle.std.proofs.lemmas.Result.{err_from_is_err_and}
use borrow.Author.Rules.{rules}
use mathlib.Core.Bool.{true, false}
use Rattle.grant.specs.Says.{grant_of}
use Rattle.grant.proofs.Items.{items_count}
use Rattle.board.specs.Board.{undated}
use Rattle.page.proofs.Listing.{lines_end, lines_refused, lines_undated, lines_applies, lines_other, lines_whole}
use Rattle.page.proofs.count_lines.Goals as goal

pub loop-item-init : goal.loop-item-init
loop-item-init c =
    rw (c.into_iter-item-iterator.ensures.into_iter_gives, c.new-item-items.ensures)
    (record { few = omega (arith, items_count (length c.args.grants.now) c.args.grants.now 0); all = lines_whole _ _ _ })

pub returns-in_err-grant : goal.returns-in_err-grant
returns-in_err-grant c =
    let p = err_from_is_err_and c.from_residual.result c.from_residual.ensures.1 in
    rw (p.1, p.2) (sym (lines_refused _ _ c.loop-item.lines (rw c.in_err-grant.was at c.in-Some.ensures.steps)) ∙ c.loop-item.invariant.all)

pub returns-then-undated : goal.returns-then-undated
returns-then-undated c =
    let late : undated (grant_of c.in_ok-grant.grant) ≡ true = search rules in
    sym (lines_undated _ _ c.loop-item.lines (rw c.in_ok-grant.was at c.in-Some.ensures.steps) late) ∙ c.loop-item.invariant.all

pub loop-item-preserved-then-covered_by : goal.loop-item-preserved-then-covered_by
loop-item-preserved-then-covered_by c =
    let e = rw c.in_ok-grant.was at c.in-Some.ensures.steps in
    let no : undated (grant_of c.in_ok-grant.grant) ≡ false = search rules in
    record {
      few = omega (arith, c.loop-item.invariant.few, ap length e);
      all = sym (lines_applies _ _ c.loop-item.lines e no (sym c.covered_by.ensures ∙ c.if-covered_by.true)) ∙ c.loop-item.invariant.all;
    }

pub loop-item-preserved : goal.loop-item-preserved
loop-item-preserved c =
    let e = rw c.in_ok-grant.was at c.in-Some.ensures.steps in
    let no : undated (grant_of c.in_ok-grant.grant) ≡ false = search rules in
    record {
      few = omega (arith, c.loop-item.invariant.few, ap length e);
      all = sym (lines_other _ _ c.loop-item.lines e no (sym c.covered_by.ensures ∙ c.if-covered_by.false)) ∙ c.loop-item.invariant.all;
    }

pub returns : goal.returns
returns c = sym (lines_end _ _ c.loop-item.lines c.in-None.ensures.steps.0) ∙ c.loop-item.invariant.all
