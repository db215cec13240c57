use Rattle.std.proofs.Common.{refl}
use Rattle.tce_fusion.proofs.Tops.{top_above, top_itself}
use Rattle.tce_fusion.proofs.scopes.top_of.Goals as goal

pub returns-in-Some : goal.returns-in-Some
returns-in-Some c =
    top_above c.args.tree.now c.args.fusion.now.0.items c.args.i c.args.v c.in-Some.p _ c.in-Some.ensures.some
    (c.requires.above c.in-Some.p c.in-Some.ensures.some.above c.in-Some.ensures.some.inside)

pub returns-in-None : goal.returns-in-None
returns-in-None c = top_itself c.args.tree.now c.args.fusion.now.0.items c.args.i c.args.v c.requires.inside (c.in-None.ensures.none refl)
