use Rattle.tce_fields.proofs.Named.{name_utf8, index_found}
use Rattle.tce_fields.proofs.indexes.index_named.Goals as goal

pub returns-in_default : goal.returns-in_default
returns-in_default c = absurd (c.in_default.ensures.cases.0 (name_utf8 c.args.name.now c.requires))

pub returns : goal.returns
returns c = index_found c.args.space.now c.args.name.now c.in-Ok.text.now c.index_named.result c.index_named.ensures.limits c.in-Ok.ensures.cases.0 c.index_named.ensures.number
