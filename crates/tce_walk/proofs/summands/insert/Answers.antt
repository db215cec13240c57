use Rattle.std.proofs.Common.{take, drop, sym}
use Rattle.std.proofs.lemmas.List.{take-append-drop}
use Rattle.tce_walk.proofs.TermSums.{inserted_middle}
use Rattle.tce_walk.proofs.summands.insert.Goals as goal

pub returns : goal.returns
returns c = λ t.
    inserted_middle c.args.summand (take c.loop-at.at c.args.summands.now.items) (drop c.loop-at.at c.args.summands.now.items) c.args.summands.now.items c.insert.new.self.items
    (sym (take-append-drop c.loop-at.at c.args.summands.now.items)) c.insert.ensures.items
