use Rattle.std.proofs.Common.{◌∙◌, ◌+◌, ap, refl, Some, length}
use Rattle.tce_outside.specs.Files.{with_part, bytes_before, bytes_from}
use Rattle.tce_outside.proofs.Files.{before_stays, behind_stays}
use Rattle.tce_outside.proofs.memory.MemDiskDisk.write_at.Goals as goal

pub returns-clause-before : goal.returns-clause-before
returns-clause-before c =
    ap (λ f. bytes_before c.args.name.now c.args.at (Some f)) (c.set_part.ensures.part ∙ ap (λ f. with_part f c.args.name.now c.args.at c.args.bytes.now) c.self.view_is)
    ∙ before_stays c.args.self.now c.args.name.now c.args.bytes.now c.args.at (c.requires c.args.self.now refl)

pub returns-clause-behind : goal.returns-clause-behind
returns-clause-behind c =
    ap (λ f. bytes_from c.args.name.now (c.args.at + length c.args.bytes.now) (Some f))
    (c.set_part.ensures.part ∙ ap (λ f. with_part f c.args.name.now c.args.at c.args.bytes.now) c.self.view_is)
    ∙ behind_stays c.args.self.now c.args.name.now c.args.bytes.now c.args.at (c.requires c.args.self.now refl)
