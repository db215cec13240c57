use Rattle.std.proofs.Common.{◌≡◌, ◌+◌, ◌-◌, ◌<◌, ℕ, List, length, drop, ap, sym, arith}
use Rattle.std.proofs.lemmas.List.{drop_all}
use Rattle.tce_space.specs.Box.{product}
use Rattle.tce_space.specs.Tiling.{tile_counts}
use Rattle.tce_space.proofs.Counts.{length-counts_along}
use Rattle.tce_tools.proofs.band.last_dimension.Goals as goal

none_behind : (ns : List ℕ) (n : ℕ) → 0 < n → n ≡ length ns → 1 ≡ product (drop (n - 1 + 1) ns)
none_behind ns n some is = sym (ap product (drop_all (n - 1 + 1) ns (omega arith)))

pub returns-clause-behind : goal.returns-clause-behind
returns-clause-behind c =
    let n : ℕ = length c.extents.result.now in
    let is : n ≡ length c.args.shape.now.extents = ap length c.extents.ensures.items in
    let some : 0 < n = omega (arith, c.requires, is) in
    record {
      dimension = omega (arith, c.requires, is);
      elements = none_behind c.args.shape.now.extents n some is;
      tiles = none_behind (tile_counts c.args.shape.now) n some (omega (arith, is, length-counts_along c.args.shape.now.extents c.args.shape.now.edges c.extents.ensures.limits.same_rank));
      words = none_behind c.args.shape.now.edges n some (omega (arith, is, c.extents.ensures.limits.same_rank));
      fits = omega arith;
    }
