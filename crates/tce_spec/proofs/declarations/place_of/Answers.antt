use Rattle.std.proofs.Common.{◌∙◌}
use Rattle.tce_space.proofs.Declarations.{key_number}
use Rattle.tce_spec.proofs.declarations.place_of.Goals as goal

pub returns-clause-place : goal.returns-clause-place
returns-clause-place c = c.get_index_of.ensures.index ∙ key_number c.args.tensors.now.entries c.args.name.now
