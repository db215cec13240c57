use Rattle.std.proofs.Common.{arith}
use Rattle.tce_sym.proofs.FullCells.{pair_placed}
use Rattle.tce_sym.proofs.rows.stored_walk.Goals as goal

pub overflow_mul-before : goal.overflow_mul-before
overflow_mul-before c = omega (arith, (pair_placed c.args.triangles.now c.args.row.now.pair c.requires.triangles c.requires.among c.requires.stored).before, c.requires.triangles.small)

pub pairs-requires : goal.pairs-requires
pairs-requires c = (pair_placed c.args.triangles.now c.args.row.now.pair c.requires.triangles c.requires.among c.requires.stored).second

pub overflow_add-result : goal.overflow_add-result
overflow_add-result c = omega (arith, c.pairs.ensures, (pair_placed c.args.triangles.now c.args.row.now.pair c.requires.triangles c.requires.among c.requires.stored).within, c.requires.triangles.small)

pub overflow_add-result-2 : goal.overflow_add-result-2
overflow_add-result-2 c = omega (arith, c.pairs.ensures, (pair_placed c.args.triangles.now c.args.row.now.pair c.requires.triangles c.requires.among c.requires.stored).within, c.requires.triangles.small)
