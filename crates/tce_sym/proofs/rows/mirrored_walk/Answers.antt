use Rattle.std.proofs.Common.{arith}
use Rattle.tce_sym.proofs.Walked.{mirrored_placed}
use Rattle.tce_sym.proofs.rows.mirrored_walk.Goals as goal

pub overflow_mul-before : goal.overflow_mul-before
overflow_mul-before c = omega (arith, (mirrored_placed c.args.triangles.now c.args.row.now.pair c.requires.triangles c.requires.among c.requires.mirrored).before, c.requires.triangles.small)

pub pairs-requires : goal.pairs-requires
pairs-requires c = omega (arith, c.requires.among.first, c.requires.triangles.extent)

pub overflow_add-result : goal.overflow_add-result
overflow_add-result c = omega (arith, c.pairs.ensures, (mirrored_placed c.args.triangles.now c.args.row.now.pair c.requires.triangles c.requires.among c.requires.mirrored).within, c.requires.triangles.small)

pub overflow_add-result-2 : goal.overflow_add-result-2
overflow_add-result-2 c = omega (arith, c.pairs.ensures, (mirrored_placed c.args.triangles.now c.args.row.now.pair c.requires.triangles c.requires.among c.requires.mirrored).within, c.requires.triangles.small)
