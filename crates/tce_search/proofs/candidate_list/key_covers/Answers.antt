use Rattle.std.proofs.Common.{ap, arith}
use Rattle.std.proofs.lemmas.Bool.{false≢true}
use Rattle.tce_fusion.specs.Relation.{above}
use Rattle.tce_fusion.specs.Row.{Row}
use Rattle.tce_search.specs.Groups.{group_of}
use Rattle.tce_search.proofs.Grouping.{none_stands}
use Rattle.tce_search.proofs.candidate_list.key_covers.Goals as goal

pub returns-then-state-least : goal.returns-then-state-least
returns-then-state-least c =
    let sought = c.args.sought.now in
    let state = sought.state.now in (
      λ h. absurd (false≢true h),
      λ found. absurd (none_stands sought.outer (above state.classes) state.cost sought.marks c.args.candidates.now (group_of c.args.groups.now c.args.key) c.least_of-least.result c.least_of-least.ensures
          (omega (arith, c.if-state-least.true, ap (λ (s : Row). s.cost) c.state.view_is)) found),
    )
