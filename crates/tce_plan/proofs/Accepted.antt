-- What is accepted is least.
use Rattle.std.proofs.Common.{subst}
use Rattle.tce_fusion.specs.Cover.{Covers}
use Rattle.tce_fusion.proofs.Covers.{least_by_cover}
use Rattle.tce_plan.specs.VerificationLaws.{AcceptedIsLeast}

pub accepted_is_least : AcceptedIsLeast
accepted_is_least files spec cert can =
    let space = can.specification.declarations.space in
    let tree = can.specification.tree in
    least_by_cover space tree can.plan.fusion.0.items can.plan.tables can.certifies.fits.fusion can.accepted.0.0.0.0.0
    (subst (Covers space tree can.plan.tables) can.accepted.0.0.1 (record { nodes = can.accepted.0.1; root = can.accepted.1 }))
