use Rattle.std.proofs.Common.{ap}
use Rattle.tce_base.specs.Word.{wrapping_mul}
use Rattle.tce_block.proofs.Innermost.{made_once}
use Rattle.tce_exec.proofs.scaling.scale_once.Goals as goal

pub returns : goal.returns
unfolding wrapping_mul
returns c =
    made_once (λ w xs. wrapping_mul c.args.factor w) c.args.out (wrapping_mul c.args.factor c.get.result) c.args.words.now c.put.new.self c.requires c.put.ensures
    (ap (wrapping_mul c.args.factor) c.get.ensures)
