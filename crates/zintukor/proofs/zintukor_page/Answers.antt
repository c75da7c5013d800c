-- `zintukor::zintukor_page` meets its contract: the engine's answer on as much of the buffer as 32 bits reach, encoded.
use mathlib.Core.Path.{ap, ap₂, ◌∙◌}
use mathlib.Core.List.{◌++◌}
use Rattle.rules.specs.Limits.{greatest}
use Rattle.page.specs.Page.{page_of, page_answer, page_buffer}
use Rattle.codes.specs.Codes.{count_code}
use Rattle.zintukor.proofs.Bounds.{page_small, used_count, used, unused, used_most}
use Rattle.zintukor.proofs.zintukor_page.Goals as goal

pub slice_bounds-page-end-2 : goal.slice_bounds-page-end-2
slice_bounds-page-end-2 c = used_count _ greatest c.min-room.ensures

pub answer_code-requires : goal.answer_code-requires
answer_code-requires c = rw c.page.ensures.result_value (page_small _ _ _ _ _ (used_most _ greatest c.min-room.ensures))

pub returns : goal.returns
returns c =
    let u = used c.args.buffer.now greatest c.min-room.ensures in record {
      value = c.answer_code.ensures ∙ ap count_code (c.page.ensures.result_value ∙ ap (page_answer c.args.l c.args.r c.args.day c.args.grants.now) u);
      buffer_value = ap₂ ◌++◌ (c.page.ensures.buffer_value ∙ ap (page_buffer (page_of c.args.l c.args.r c.args.day c.args.grants.now)) u) (unused c.args.buffer.now greatest c.min-room.ensures);
    }
