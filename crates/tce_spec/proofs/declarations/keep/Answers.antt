use Rattle.std.proofs.Common.{◌∙◌}
use Rattle.tce_space.proofs.Declarations.{entered, distinct_names}
use Rattle.tce_spec.proofs.declarations.keep.Goals as goal

pub returns-in-Ok-clause-kept : goal.returns-in-Ok-clause-kept
returns-in-Ok-clause-kept c = c.in-Ok.ensures.entries ∙ entered c.args.tensors.now.entries c.args.tensor.name c.args.tensor c.requires

pub returns-in-Ok-clause-apart : goal.returns-in-Ok-clause-apart
returns-in-Ok-clause-apart c = distinct_names c.insert.new.self.entries c.insert.ensures.unique
