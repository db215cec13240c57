use Rattle.std.proofs.Common.{ap, arith}
use Rattle.tce_walk.specs.Touches.{block_count}
use Rattle.tce_walk.proofs.CountedLoops.{touches_first}
use Rattle.tce_walk.proofs.combination.+touches_of.Goals as goal

pub returns-in_ok-others-in-len1-up : goal.returns-in_ok-others-in-len1-up
returns-in_ok-others-in-len1-up t c =
    let all = touches_first c.args.space.now c.args.terms.now c.first-item.result c.in-len1-up.len_at_least in
    let same = ap (block_count c.args.space.now) c.as_slice-in-len1-up.ensures.value in
    grind (arith, all, same, c.in_ok-blocks-in-len1-up.ensures, c.in_ok-others-in-len1-up.ensures, c.checked_add.ensures, c.first-item.is)
