use Rattle.std.proofs.Common.{length, ◌<◌, inl, inr, sym}
use Rattle.std.proofs.lemmas.Bool.{cases_lt}
use Rattle.tce_space.proofs.Declarations.{too_long}
use Rattle.tce_spec.proofs.declarations.named.Goals as goal

pub returns-in_default : goal.returns-in_default
returns-in_default c =
    let long : 16 < length c.args.name.now =
    elim (cases_lt 16 (length c.args.name.now)) [ inl l ↦ l | inr l ↦ cc (c.in_default.ensures.variant.1 l) ] in
    sym (too_long c.args.tensors.now.entries c.args.name.now c.requires.short long)
