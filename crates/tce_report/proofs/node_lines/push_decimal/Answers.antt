use Rattle.std.proofs.Common.{length, ap, ◌∙◌, arith, ◌++◌}
use Rattle.tce_report.proofs.node_lines.push_decimal.Goals as goal

pub push_str-requires : goal.push_str-requires
push_str-requires c = (omega arith, omega (arith, c.requires, ap length (c.as_str.ensures.value ∙ c.decimal_text.ensures.bytes)))

pub returns : goal.returns
returns c = c.push_str.ensures.bytes ∙ ap (λ digits. c.args.line.now.bytes ++ digits) (c.as_str.ensures.value ∙ c.decimal_text.ensures.bytes)
