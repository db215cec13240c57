use Rattle.std.proofs.Common.{◌≡◌, ℕ, ◌<◌, ◌^◌, List, ◌++◌, All, sym, subst, take, drop}
use Rattle.std.proofs.lemmas.List.{take-append-drop}
use Rattle.std.proofs.lemmas.List.Elements.{All-drop}
use Rattle.tce_fusion.specs.Row.{Row}
use Rattle.tce_fusion.specs.Cover.{StepsCovered}
use Rattle.tce_check.specs.Verdict.{WhereJoined}
use Rattle.tce_check.proofs.Covering.{with_more}
use Rattle.tce_check.proofs.steps.Node.covers.Goals as goal

parts : (rest : List Row) (mid : ℕ) (few later : List Row) → few ≡ take mid rest → later ≡ drop mid rest → rest ≡ few ++ later
parts rest mid few later front back = rw front (rw back (sym (take-append-drop mid rest)))

pub loop-rest-preserved : goal.loop-rest-preserved
loop-rest-preserved c =
    let node = c.args.self.now in
    let Holds = WhereJoined node.tree.now node.number (StepsCovered node.space.now node.tree.now node.outer node.number node.rows.now) in
    let rest = c.loop-rest.rest.now in
    let mid = c.min.result in
    let small = λ (row : Row). row.cost < 2 ^ 96 in
    record {
      limit = subst (All small) (sym c.split_at.ensures.back) (All-drop small mid rest c.loop-rest.invariant.limit);
      enough = λ later. c.loop-rest.invariant.enough (with_more Holds c.args.lefts.now c.split_at.result.0.now c.split_at.result.1.now rest
          (parts rest mid c.split_at.result.0.now c.split_at.result.1.now c.split_at.ensures.front c.split_at.ensures.back)
          (c.covers_few.ensures c.if-not-covers_few.false) later);
    }
