use Rattle.std.proofs.Common.{◌<◌, ◌^◌, length}
use Rattle.std.specs.List.{All}
use Rattle.tce_fusion.specs.Row.{Row}
use Rattle.tce_fusion.specs.Cover.{StepsCovered}
use Rattle.tce_check.specs.Verdict.{WhereJoined}
use Rattle.tce_check.proofs.Covering.{OfEachPair}
use Rattle.tce_check.proofs.steps.Node.covers.Given as goal

abbrev pub invariant-loop-rest : goal.invariant-loop-rest
invariant-loop-rest l =
    let Holds = WhereJoined l.self.tree.now l.self.number (StepsCovered l.self.space.now l.self.tree.now l.self.outer l.self.number l.self.rows.now) in
    record {
      limit : All (λ (row : Row). row.cost < 2 ^ 96) l.rest;
      enough : OfEachPair Holds l.lefts l.rest → OfEachPair Holds l.lefts l.rights;
    }

abbrev pub decreases-loop-rest : goal.decreases-loop-rest
decreases-loop-rest l = length l.rest
