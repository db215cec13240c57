use Rattle.std.proofs.Common.{◌∙◌}
use Rattle.tce_space.proofs.Declarations.{key_number}
use Rattle.tce_space.proofs.space.number_of.Goals as goal

pub returns : goal.returns
returns g c = record { number = c.get_index_of.ensures.index ∙ key_number c.args.entries.now.entries c.args.name.now }
