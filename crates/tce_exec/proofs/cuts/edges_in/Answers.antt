use Rattle.std.proofs.Common.{◌<◌, ap, ◌∙◌, arith}
use Rattle.std.proofs.lemmas.List.{take_all}
use Rattle.arrayvec.specs.ArrayVec.{array_vec_len}
use Rattle.tce_block.specs.Cuts.{edges_of}
use Rattle.tce_exec.proofs.cuts.edges_in.Goals as goal

pub push-requires : goal.push-requires
push-requires c =
    let few : array_vec_len c.loop-cut.edges < 10 = omega (arith, c.loop-cut.invariant.count, c.loop-cut-test.true, c.requires) in
    (omega arith, few)

pub returns : goal.returns
returns c = c.loop-cut.invariant.edges_are ∙ ap edges_of (take_all c.loop-cut.cut-index c.args.cuts.now c.loop-cut-test.false)
