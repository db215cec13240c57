use Rattle.std.proofs.Common.{arith}
use Rattle.tce_einsum.proofs.Items.{read_halves, no_halves}
use Rattle.tce_einsum.proofs.path.read_item.Goals as goal

pub returns-in-Some : goal.returns-in-Some
returns-in-Some c =
    read_halves c.args.count c.args.text.now c.in-Some.first.now c.in-Some.second.now c.read_two.result (omega arith) c.in-Some.ensures.halves c.read_two.ensures

pub returns-in-None-read_position : goal.returns-in-None-read_position
returns-in-None-read_position c =
    no_halves c.args.count c.args.text.now (omega arith) c.in-None.ensures.halves c.in-None-read_position.ensures
