use Rattle.std.proofs.Common.{◌+◌, arith}
use Rattle.tce_sym.proofs.Grids.{grid_fits}
use Rattle.tce_sym.proofs.slots.grid_of.Goals as goal

pub returns-clause-grid : goal.returns-clause-grid
returns-clause-grid c = record {
  apart = omega arith;
  fits = grid_fits c.args.room (c.args.slots + 8) _ (omega arith) c.requires.room (omega arith);
  some = omega arith;
  short = omega arith;
}
