use Rattle.std.proofs.Common.{ap₂, ap}
use Rattle.tce_base.specs.Word.{wrapping_add, wrapping_mul}
use Rattle.tce_block.proofs.runs.grown_by_four.Goals as goal

pub returns : goal.returns
unfolding wrapping_add wrapping_mul
returns c =
    ap₂ wrapping_add (ap₂ wrapping_add (ap₂ wrapping_add (ap (wrapping_add c.args.word)
    (ap₂ wrapping_mul c.get.ensures c.get-2.ensures)) (ap₂ wrapping_mul c.get-3.ensures c.get-4.ensures))
    (ap₂ wrapping_mul c.get-5.ensures c.get-6.ensures)) (ap₂ wrapping_mul c.get-7.ensures c.get-8.ensures)
