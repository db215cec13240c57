use Rattle.std.proofs.Common.{sym, refl}
use Rattle.tce_code.specs.declared.op.Op.TheVariants.{Open}
use Rattle.tce_walk.proofs.Searching.{single-alone, single-none, other-none}
use Rattle.tce_walk.proofs.search.find_operations.Goals as goal

pub returns-in-Open : goal.returns-in-Open
returns-in-Open c = other-none c.args.tree.now c.args.ops.now c.args.at (Open 0) _ c.requires.within refl c.requires.no_loop c.in-Open.is

pub returns-then-not-is_end : goal.returns-then-not-is_end
returns-then-not-is_end c = single-none c.args.tree.now c.args.ops.now c.args.at c.in-Add.v (Open 0) c.requires.within c.in-Add.is (sym c.if-not-is_end.ensures)

pub returns-else-not-is_end : goal.returns-else-not-is_end
returns-else-not-is_end c =
    single-alone c.args.tree.now c.args.ops.now c.args.at c.in-Add.v (Open 0) c.requires.within c.in-Add.is c.requires.shaped (sym c.if-not-is_end.ensures)
