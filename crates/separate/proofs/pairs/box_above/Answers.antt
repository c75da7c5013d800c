use Rattle.std.proofs.Common.{sym, ◌∙◌, ap₂, true≢false, arith, below_more}
use Rattle.boxes.specs.Boxes.{disjoint}
use Rattle.separate.proofs.pairs.box_above.Goals as goal

pub loop-j-init : goal.loop-j-init
loop-j-init c = (c.new-own.ensures, λ k h. absurd (omega arith))

pub returns-then-not-disjoint : goal.returns-then-not-disjoint
returns-then-not-disjoint c =
    record {
      meets = λ _. (c.loop-j.j, c.loop-j-test.true, sym (c.disjoint.ensures ∙ ap₂ disjoint c.new.ensures c.loop-j.invariant.0) ∙ c.if-not-disjoint.true);
      clear = λ e. absurd (true≢false e);
    }

pub loop-j-preserved : goal.loop-j-preserved
loop-j-preserved c =
    (c.loop-j.invariant.0, below_more _ _ c.loop-j.invariant.1 (sym (c.disjoint.ensures ∙ ap₂ disjoint c.new.ensures c.loop-j.invariant.0) ∙ c.if-not-disjoint.false))

pub returns : goal.returns
returns c = record { meets = λ e. absurd (true≢false (sym e)); clear = λ _ j h. c.loop-j.invariant.1 j (omega arith) }
