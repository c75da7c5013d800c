-- Blanks, digits, and then one byte.
use Rattle.std.proofs.Common.{◌-◌, ◌≤◌, replicate, ap, ◌∙◌, arith}
use Rattle.text.proofs.Laws.{decimal_count}
use Rattle.board.proofs.Laws.{some_blanks, feature_written}
use Rattle.board.proofs.fields.write_feature.Goals as goal

pub overflow_sub-blank : goal.overflow_sub-blank
overflow_sub-blank c = omega (arith, decimal_count c.args.feature)

pub returns : goal.returns
returns c =
    let few : 10 - c.decimal_length-blank.result ≤ 10 = omega arith in
    feature_written c.args.feature c.requires (some_blanks _ 10 few ∙ ap (λ n. replicate (10 - n) 32) c.decimal_length-blank.ensures)
    c.bytes.ensures.wrote c.write_decimal.ensures.wrote c.byte.ensures.wrote
