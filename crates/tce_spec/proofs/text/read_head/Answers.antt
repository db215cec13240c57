use Rattle.std.proofs.Common.{◌^◌, length}
use Rattle.std.proofs.lemmas.Bool.{le-ltb}
use Rattle.tce_spec.proofs.Readings.{answers, read_has_names, read_says}
use Rattle.tce_spec.proofs.text.read_head.Goals as goal

pub returns-clause-answers : goal.returns-clause-answers
returns-clause-answers c = λ found is.
    answers found c.args.text.now c.read_lines.result (le-ltb (2 ^ 16) (length c.args.text.now) c.if-text-gt-MAX_SPEC_BYTES.false) is c.read_lines.ensures.head c.read_lines.ensures.fault

pub returns-clause-names : goal.returns-clause-names
returns-clause-names c = read_has_names c.args.text.now c.read_lines.result c.read_lines.ensures.head

pub returns-clause-said : goal.returns-clause-said
returns-clause-said c = read_says c.args.text.now c.read_lines.result c.read_lines.ensures.head
