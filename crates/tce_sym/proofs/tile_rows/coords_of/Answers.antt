use Rattle.std.proofs.Common.{◌≡◌, ◌∙◌, ℕ, ◌+◌, ◌-◌, ◌*◌, ◌/◌, ◌%◌, List, [], ◌++◌, length, set, drop, get_or, sym, ap, subst, arith}
use Rattle.std.specs.Int.{div_ceil}
use Rattle.std.proofs.lemmas.List.{length-set}
use Rattle.arrayvec.specs.ArrayVec.{with_items}
use Rattle.arrayvec.proofs.ArrayVecLemmas.{items-with_items}
use Rattle.tce_space.specs.Tiling.{tile_words}
use Rattle.tce_sym.proofs.WordCoords.{IsTail, dim_at, digit_small, tail_first, tail_step, tail_end}
use Rattle.tce_sym.proofs.tile_rows.coords_of.Goals as goal

pub loop-done-init : goal.loop-done-init
loop-done-init c =
    let none : c.new-coords.result.items ≡ [] = c.new-coords.ensures in
    let len : length c.push_all.new.list.items ≡ length c.extents-extents.result.now = ap length (c.push_all.ensures.items ∙ ap (λ l. l ++ c.extents-extents.result.now) none) in
    record {
      len = len;
      tail = tail_first c.extents-extents.result.now c.edges-edges.result.now c.push_all.new.list.items (length c.extents-extents.result.now - 0) _ _ _ _ (omega arith)
          (omega (arith, ap length c.extents-extents.ensures.items, ap length c.edges-edges.ensures.items, c.extents-extents.ensures.limits.same_rank)) len
          (ap (λ n. c.args.word % n) c.tile_words-2.ensures.words) (ap (λ n. c.args.word / n) c.tile_words.ensures.words);
    }

pub div_ceil-count-requires : goal.div_ceil-count-requires
div_ceil-count-requires c =
    (dim_at c.args.shape.now c.extents-extents.result.now c.edges-edges.result.now (length c.extents-extents.result.now - 1 - c.loop-done.done) c.extents-extents.ensures.limits c.extents-extents.ensures.items c.edges-edges.ensures.items
    (omega (arith, c.loop-done-test.true))).positive

pub nonzero_rem-inner-in-loop-done : goal.nonzero_rem-inner-in-loop-done
nonzero_rem-inner-in-loop-done c =
    (dim_at c.args.shape.now c.extents-extents.result.now c.edges-edges.result.now (length c.extents-extents.result.now - 1 - c.loop-done.done) c.extents-extents.ensures.limits c.extents-extents.ensures.items c.edges-edges.ensures.items
    (omega (arith, c.loop-done-test.true))).positive

pub nonzero_div-inner : goal.nonzero_div-inner
nonzero_div-inner c =
    (dim_at c.args.shape.now c.extents-extents.result.now c.edges-edges.result.now (length c.extents-extents.result.now - 1 - c.loop-done.done) c.extents-extents.ensures.limits c.extents-extents.ensures.items c.edges-edges.ensures.items
    (omega (arith, c.loop-done-test.true))).positive

pub overflow_mul-tile : goal.overflow_mul-tile
overflow_mul-tile c =
    let d : ℕ = length c.extents-extents.result.now - 1 - c.loop-done.done in
    let n : ℕ = get_or c.extents-extents.result.now d 0 in
    let e : ℕ = get_or c.edges-edges.result.now d 0 in
    let dim = dim_at c.args.shape.now c.extents-extents.result.now c.edges-edges.result.now d c.extents-extents.ensures.limits c.extents-extents.ensures.items c.edges-edges.ensures.items (omega (arith, c.loop-done-test.true)) in
    let is : c.loop-done.tile % c.div_ceil-count.result * e ≡ c.loop-done.tile % div_ceil n e * e = ap (λ k. c.loop-done.tile % k * e) c.div_ceil-count.ensures in
    omega (arith, is, digit_small n e c.loop-done.tile c.loop-done.inner dim)

pub overflow_add-tile : goal.overflow_add-tile
overflow_add-tile c =
    let d : ℕ = length c.extents-extents.result.now - 1 - c.loop-done.done in
    let n : ℕ = get_or c.extents-extents.result.now d 0 in
    let e : ℕ = get_or c.edges-edges.result.now d 0 in
    let dim = dim_at c.args.shape.now c.extents-extents.result.now c.edges-edges.result.now d c.extents-extents.ensures.limits c.extents-extents.ensures.items c.edges-edges.ensures.items (omega (arith, c.loop-done-test.true)) in
    let is : c.loop-done.tile % c.div_ceil-count.result * e ≡ c.loop-done.tile % div_ceil n e * e = ap (λ k. c.loop-done.tile % k * e) c.div_ceil-count.ensures in
    omega (arith, is, digit_small n e c.loop-done.tile c.loop-done.inner dim)

pub loop-done-preserved : goal.loop-done-preserved
loop-done-preserved c =
    let ns : List ℕ = c.extents-extents.result.now in
    let es : List ℕ = c.edges-edges.result.now in
    let d : ℕ = length ns - 1 - c.loop-done.done in
    let v : ℕ = c.loop-done.tile % c.div_ceil-count.result * get_or es d 0 + c.loop-done.inner % get_or es d 0 in
    let dim = dim_at c.args.shape.now ns es d c.extents-extents.ensures.limits c.extents-extents.ensures.items c.edges-edges.ensures.items (omega (arith, c.loop-done-test.true)) in
    let size : length (set c.deref_mut.result.now d v) ≡ length c.loop-done.coords.items = length-set c.deref_mut.result.now d v ∙ ap length c.deref_mut.ensures.value in
    let items : (with_items c.loop-done.coords (set c.deref_mut.result.now d v)).items ≡ set c.loop-done.coords.items d v =
    items-with_items c.loop-done.coords (set c.deref_mut.result.now d v) size ∙ ap (λ l. set l d v) c.deref_mut.ensures.value in
    record {
      len = ap length items ∙ length-set c.loop-done.coords.items d v ∙ c.loop-done.invariant.len;
      tail = subst (λ (l : List ℕ). IsTail (drop (length ns - (c.loop-done.done + 1)) ns) (drop (length ns - (c.loop-done.done + 1)) es) (drop (length ns - (c.loop-done.done + 1)) l) (c.loop-done.inner / get_or es d 0)
          (c.loop-done.tile / c.div_ceil-count.result) (c.args.word % tile_words c.args.shape.now) (c.args.word / tile_words c.args.shape.now)) (sym items)
          (tail_step ns es c.loop-done.coords.items d (length ns - (c.loop-done.done + 1)) (length ns - c.loop-done.done) c.loop-done.inner c.loop-done.tile _ _ c.div_ceil-count.result (omega (arith, c.loop-done-test.true))
          (omega (arith, ap length c.extents-extents.ensures.items, ap length c.edges-edges.ensures.items, c.extents-extents.ensures.limits.same_rank)) c.loop-done.invariant.len (omega (arith, c.loop-done-test.true))
          (omega (arith, c.loop-done-test.true)) dim c.div_ceil-count.ensures c.loop-done.invariant.tail);
    }

pub returns : goal.returns
returns c =
    tail_end c.args.shape.now c.args.word c.extents-extents.result.now c.edges-edges.result.now c.loop-done.coords.items (length c.extents-extents.result.now - c.loop-done.done) c.loop-done.inner c.loop-done.tile
    c.extents-extents.ensures.limits c.requires c.extents-extents.ensures.items c.edges-edges.ensures.items (omega (arith, c.loop-done-test.false)) c.loop-done.invariant.tail
