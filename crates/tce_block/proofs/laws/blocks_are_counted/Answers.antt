use Rattle.tce_block.proofs.Cover.{least_counts, length-blocks}
use Rattle.tce_block.proofs.Worked.{range, rectangle, point}
use Rattle.tce_block.proofs.laws.blocks_are_counted.Goals as goal

-- the worked boxes stand here, since only lemmas that are cited are checked
pub returns : goal.returns
returns c ns es a =
    let first = range in
    let second = rectangle in
    let third = point in
    (least_counts ns es a.same_rank a.positive, length-blocks ns es)
