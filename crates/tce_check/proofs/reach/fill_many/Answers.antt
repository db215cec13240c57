use Rattle.tce_check.proofs.Reaches.{reached_by}
use Rattle.tce_check.proofs.reach.fill_many.Goals as goal

pub returns : goal.returns
returns c = reached_by c.args.outer c.args.rows.now c.floors_of-floors.result c.fill.new.reaches c.args.choices.now c.floors_of-floors.ensures c.fill.ensures
