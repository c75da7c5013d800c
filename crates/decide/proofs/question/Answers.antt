-- `decide::question` draws its four numbers within the bytes.
use mathlib.Core.Path.{ap, ◌∙◌}
use native.Mathlib.Omega.{arith}
use Rattle.decide.proofs.Deciding.{draw_within}
use Rattle.decide.proofs.question.Goals as goal

pub slice_bounds-decide-count : goal.slice_bounds-decide-count
slice_bounds-decide-count c =
    draw_within _ (ap (λ b. b.now) (c.draw-3.ensures.same ∙ c.draw-2.ensures.same ∙ c.draw.ensures.same ∙ c.new-reader.ensures.0)) c.draw-4.ensures.place

pub slice_bounds-decide-start : goal.slice_bounds-decide-start
slice_bounds-decide-start c =
    let e = draw_within _ (ap (λ b. b.now) (c.draw-3.ensures.same ∙ c.draw-2.ensures.same ∙ c.draw.ensures.same ∙ c.new-reader.ensures.0)) c.draw-4.ensures.place in
    omega (arith, e)
