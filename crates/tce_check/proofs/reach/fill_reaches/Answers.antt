use Rattle.std.proofs.Common.{[]}
use Rattle.std.proofs.lemmas.List.Elements.{All-nil}
use Rattle.tce_check.specs.declared.parts.PartCost.{PartCost}
use Rattle.tce_check.specs.Reach.{IsFloor}
use Rattle.tce_check.proofs.Reaches.{reached_by}
use Rattle.tce_check.proofs.reach.fill_reaches.Goals as goal

pub returns-then-rows-lt-FEW : goal.returns-then-rows-lt-FEW
returns-then-rows-lt-FEW c =
    reached_by c.args.outer c.args.rows.now [] c.fill.new.reaches c.args.choices.now (All-nil (λ (f : PartCost). IsFloor c.args.outer c.args.rows.now f.part f.cost)) c.fill.ensures
