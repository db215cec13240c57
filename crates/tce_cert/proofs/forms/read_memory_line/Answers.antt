use Rattle.std.proofs.Common.{Some, codes}
use Rattle.std.proofs.lemmas.Bool.Decides.{Decides-eqb}
use Rattle.std.proofs.lemmas.Slice.Eq.{strip_prefix_is}
use Rattle.tce_nesting.proofs.Classes.{iff_trans}
use Rattle.tce_cert.proofs.Stated.{memory_stated}
use Rattle.tce_cert.proofs.forms.read_memory_line.Goals as goal

pub returns-in-Some : goal.returns-in-Some
returns-in-Some c =
    let behind = strip_prefix_is Decides-eqb c.args.line.now (codes "memory ") (Some c.in-Some.number) c.in-Some.ensures.cases in
    λ value. iff_trans (c.read_number.ensures value) (memory_stated c.args.line.now c.in-Some.number.now behind value)
