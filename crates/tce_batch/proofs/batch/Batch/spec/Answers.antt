use Rattle.std.proofs.Common.{◌∙◌}
use Rattle.tce_batch.proofs.Specs.{spec_read}
use Rattle.tce_batch.proofs.batch.Batch.spec.Goals as goal

pub returns-in-Ok : goal.returns-in-Ok
returns-in-Ok c =
    spec_read c.self.inside.declarations c.self.inside.contractions.items c.args.number c.index.result.now c.in-Ok.spec c.args.self.now c.as_slice.result.now
    c.self.invariant c.self.view_is c.requires c.index.ensures (c.as_slice.ensures.value ∙ c.in_ok-text.ensures) c.in-Ok.ensures.answers
