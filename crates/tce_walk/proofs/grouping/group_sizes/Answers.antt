use Rattle.std.proofs.Common.{◌∙◌, ℕ, ◌*◌, ◌<◌, ◌≤◌, ◌^◌, [], ◌∷◌, map, get_or, sym, ap, subst, arith}
use Rattle.std.specs.Int.{div_ceil}
use Rattle.std.specs.List.{All}
use Rattle.std.proofs.lemmas.List.{take_all, map-append}
use Rattle.std.proofs.lemmas.List.Elements.{All-append, All-cons, All-nil}
use Rattle.std.proofs.Math.Nat.{mul-le-mul_left}
use Rattle.tce_block.proofs.Beginning.{counts_are, counts_of, one_cut_more, some_count}
use Rattle.tce_block.proofs.Cover.{least}
use Rattle.tce_block.specs.Cuts.{IsCut, extents_of}
use Rattle.tce_block.specs.declared.cut.Cut.{Cut}
use Rattle.tce_walk.proofs.grouping.group_sizes.Goals as goal

count_limit : (n e : ℕ) → 0 < e → div_ceil n e ≤ n
count_limit n e some =
    let more : n * 1 ≤ n * e = mul-le-mul_left n some in
    least n e n some (omega (arith, more))

small_count : (n e : ℕ) → 0 < e → n < 2 ^ 32 → div_ceil n e < 2 ^ 32
small_count n e some low = omega (arith, count_limit n e some, low)

pub size_along-size-requires : goal.size_along-size-requires
size_along-size-requires c =
    let cut = c.requires.cuts c.loop-d.d (record { index = 0; extent = 0; edge = 0 }) c.loop-d-test.true in
    subst (λ n. 0 < n) (sym c.div_ceil-count.ensures) (some_count _ _ cut.edge_some (omega (arith, cut.edge_some, cut.edge_limit)))

pub loop-d-preserved : goal.loop-d-preserved
loop-d-preserved c =
    let cut = c.requires.cuts c.loop-d.d (record { index = 0; extent = 0; edge = 0 }) c.loop-d-test.true in
    let size : Cut = record { index = (get_or c.args.cuts.now c.loop-d.d (record { index = 0; extent = 0; edge = 0 })).index; extent = c.div_ceil-count.result; edge = c.size_along-size.result } in
    record {
      cuts =
          subst (All IsCut) (sym c.push.ensures.items)
          (All-append IsCut c.loop-d.sizes.items (size ∷ []) c.loop-d.invariant.cuts
          (All-cons IsCut size [] (record {
            limit = subst (λ n. n < 2 ^ 32) (sym c.div_ceil-count.ensures) (small_count _ _ cut.edge_some cut.limit);
            edge_some = c.size_along-size.ensures.some;
            edge_limit = c.size_along-size.ensures.limit;
          }) (All-nil IsCut)));
      counts =
          ap (map (λ (k : Cut). k.extent)) c.push.ensures.items ∙ map-append (λ (k : Cut). k.extent) c.loop-d.sizes.items (size ∷ [])
          ∙ one_cut_more (λ (k : Cut). div_ceil k.extent k.edge) c.args.cuts.now (extents_of c.loop-d.sizes.items) c.loop-d.d c.div_ceil-count.result (record { index = 0; extent = 0; edge = 0 })
          c.loop-d.invariant.counts c.loop-d-test.true c.div_ceil-count.ensures;
      long = omega arith;
    }

pub returns-clause-counts : goal.returns-clause-counts
returns-clause-counts c = c.loop-d.invariant.counts ∙ ap counts_of (take_all c.loop-d.d c.args.cuts.now (omega arith)) ∙ counts_are c.args.cuts.now
