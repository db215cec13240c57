use Rattle.tce_grammar.specs.Code.{names, formula}
use Rattle.tce_batch.proofs.Kept.{kept}
use Rattle.tce_batch.proofs.line.contraction_of.Goals as goal

pub returns-clause-kept : goal.returns-clause-kept
returns-clause-kept c =
    kept c.args.line c.args.declarations.now c.args.name.now (names c.args.indexes.now) (formula c.args.written.now) c.read_formula.result c.space-space.ensures.limits
    c.read_formula.ensures.expr c.read_formula.ensures.tree c.read_formula.ensures.measured c.read_formula.ensures.rules c.read_formula.ensures.ok
