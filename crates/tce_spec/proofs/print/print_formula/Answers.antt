use Rattle.tce_spec.proofs.Declared.{fitting_below}
use Rattle.tce_spec.proofs.print.print_formula.Goals as goal

pub push_reference-requires-clause-indexes : goal.push_reference-requires-clause-indexes
push_reference-requires-clause-indexes c =
    fitting_below c.args.declarations.now c.args.computed.now.tensor c.args.computed.now.indexes.items c.requires.rules c.requires.contraction.result_fits
