use Rattle.std.proofs.Common.{◌≡◌, ◌∙◌, ◌-◌, ◌+◌, ◌<◌, ◌%◌, ℕ, List, length, get_or, refl, ap, sym, arith}
use Rattle.tce_space.specs.Tiling.{Tiling, word_number}
use Rattle.tce_tools.proofs.Rows.{row_is_run}
use Rattle.tce_tools.proofs.run.run_at.Goals as goal

pub overflow_sub-last : goal.overflow_sub-last
overflow_sub-last c =
    let rank : 1 < length c.args.shape.now.extents = c.if-is_row_major.ensures.no refl in
    omega (arith, rank, ap length c.extents.ensures.items)

pub steps_left-row-requires-clause-dimension : goal.steps_left-row-requires-clause-dimension
steps_left-row-requires-clause-dimension c =
    let rank : 1 < length c.args.shape.now.extents = c.if-is_row_major.ensures.no refl in
    omega (arith, rank, ap length c.extents.ensures.items)

pub returns-clause-run : goal.returns-clause-run
returns-clause-run c =
    let s : Tiling = c.args.shape.now in
    let d : ℕ = length c.extents.result.now - 1 in
    let coords : List ℕ = c.coords_at-coords.result.items in
    let rank : 1 < length c.args.shape.now.extents = c.if-is_row_major.ensures.no refl in
    let is : d + 1 ≡ length s.extents = omega (arith, rank, ap length c.extents.ensures.items) in
    let x : get_or c.as_slice.result.now d 0 ≡ get_or coords d 0 = ap (λ l. get_or l d 0) c.as_slice.ensures.value in
    let left : get_or c.as_slice.result.now d 0 % get_or s.edges d 0 ≡ get_or coords d 0 % get_or s.edges d 0 = ap (λ y. y % get_or s.edges d 0) x in
    let word : word_number s coords ≡ c.word_number.result = sym (c.word_number.ensures ∙ ap (word_number s) c.as_slice-2.ensures.value) in
    row_is_run s coords _ d c.extents.ensures.limits c.coords_at-coords.ensures.few c.coords_at-coords.ensures.inside is c.coords_at-coords.ensures.place word
    (omega (arith, c.steps_left-row.ensures.some, c.min.ensures)) (omega (arith, c.min.ensures))
    (omega (arith, x, c.steps_left-row.ensures.in_array, c.min.ensures)) (omega (arith, left, c.steps_left-row.ensures.in_tile, c.min.ensures))
