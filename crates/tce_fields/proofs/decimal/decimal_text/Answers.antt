use Rattle.std.proofs.Common.{arith, ap, length, length-append}
use Rattle.std.specs.Fmt.{decimal}
use Rattle.tce_fields.proofs.Digits.{length_wide}
use Rattle.tce_fields.proofs.decimal.decimal_text.Goals as goal

pub push_decimal-requires : goal.push_decimal-requires
push_decimal-requires c = omega (arith, ap length c.new-text.ensures, length_wide c.args.number (omega arith))

pub returns-clause-short : goal.returns-clause-short
returns-clause-short c = omega (arith, ap length c.push_decimal.ensures, ap length c.new-text.ensures, length-append c.new-text.result.bytes (decimal c.args.number), length_wide c.args.number (omega arith))
