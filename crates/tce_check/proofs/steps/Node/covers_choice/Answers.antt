use Rattle.std.proofs.Common.{◌+◌, subst, sym}
use Rattle.std.specs.List.{Any}
use Rattle.std.proofs.lemmas.Bool.{both_ways}
use Rattle.tce_fusion.specs.Relation.{above}
use Rattle.tce_fusion.specs.Row.{Row, StandsFor}
use Rattle.tce_nesting.specs.Classes.{restricted, AllowsSet}
use Rattle.tce_check.proofs.steps.Node.covers_choice.Goals as goal

pub returns-then-stands_for_all : goal.returns-then-stands_for_all
returns-then-stands_for_all c h allows =
    let node = c.args.self.now in
    let state = above (restricted c.args.joint.now.classes c.args.choice.now.fused) in
    subst (λ (r : Row). Any (StandsFor node.outer state (r.cost + c.args.choice.now.size)) node.rows.now) c.joint.view_is (c.stands_for_all.ensures c.if-stands_for_all.true state)

pub returns-then-not-allowed : goal.returns-then-not-allowed
returns-then-not-allowed c h allows =
    let seen = subst (λ (r : Row). AllowsSet (above r.classes) c.args.choice.now.fused) (sym c.joint.view_is) allows in
    absurd (both_ways c.allowed.result c.if-not-allowed.true (c.allowed.ensures.1 seen))
