use Rattle.std.proofs.Common.{Some, codes}
use Rattle.std.proofs.lemmas.Bool.Decides.{Decides-eqb}
use Rattle.std.proofs.lemmas.Slice.Eq.{strip_prefix_is}
use Rattle.tce_nesting.proofs.Classes.{iff_trans}
use Rattle.tce_cert.proofs.Stated.{table_stated}
use Rattle.tce_cert.proofs.forms.read_table_line.Goals as goal

pub returns-in-Some : goal.returns-in-Some
returns-in-Some c =
    let behind = strip_prefix_is Decides-eqb c.args.line.now (codes "table ") (Some c.in-Some.numbers) c.in-Some.ensures.cases in
    λ value. iff_trans (c.read_numbers.ensures value) (table_stated c.args.line.now c.in-Some.numbers.now behind value.0 value.1)
