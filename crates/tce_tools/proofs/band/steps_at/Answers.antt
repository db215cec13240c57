use Rattle.std.proofs.Common.{◌≡◌, ◌∙◌, ◌*◌, ◌/◌, ◌%◌, ◌<◌, ◌≤◌, ℕ, List, get_or, min, ap, refl, arith}
use Rattle.tce_space.specs.Tiling.{Tiling, IsTiling, word_number}
use Rattle.tce_tools.specs.declared.band.Behind.{Behind}
use Rattle.tce_tools.specs.Bands.{IsBehind}
use Rattle.tce_tools.proofs.Bands.{IsShort, step, times_some, some_step, short_steps, steps_are_band}
use Rattle.tce_tools.proofs.band.steps_at.Goals as goal

-- the steps are some, and fit
few_steps : (s : Tiling) (behind : Behind) (left steps : ℕ) → IsTiling s → IsBehind s behind → 0 < left → steps ≡ min left (32768 / (behind.tiles * behind.words)) → (0 < steps) × (steps ≤ 32768 / (behind.tiles * behind.words))
few_steps s behind left steps t b some is =
    let one = step s behind t b in
    let most = some_step (behind.tiles * behind.words) (times_some behind.tiles behind.words one.some_tiles one.some_words) b.fits in
    (omega (arith, some, is, most), omega (arith, is))

sizes : (s : Tiling) (behind : Behind) (left steps : ℕ) → IsTiling s → IsBehind s behind → 0 < left → steps ≡ min left (32768 / (behind.tiles * behind.words)) → IsShort behind.elements behind.tiles behind.words steps
sizes s behind left steps t b some is =
    let one = step s behind t b in
    let few = few_steps s behind left steps t b some is in
    short_steps behind.elements behind.tiles behind.words steps one.some_elements one.some_tiles one.few few.0 (times_some behind.tiles behind.words one.some_tiles one.some_words) few.1

pub nonzero_div-in_band : goal.nonzero_div-in_band
nonzero_div-in_band c =
    let one = step c.args.shape.now c.args.behind c.coords_at-coords.ensures.limits c.requires.behind in
    times_some c.args.behind.tiles c.args.behind.words one.some_tiles one.some_words

pub overflow_mul-result : goal.overflow_mul-result
overflow_mul-result c =
    let all = sizes c.args.shape.now c.args.behind c.steps_left.result c.min-steps.result c.coords_at-coords.ensures.limits c.requires.behind c.steps_left.ensures.some c.min-steps.ensures in
    omega (arith, all.len)

pub overflow_mul-result-2 : goal.overflow_mul-result-2
overflow_mul-result-2 c =
    let all = sizes c.args.shape.now c.args.behind c.steps_left.result c.min-steps.result c.coords_at-coords.ensures.limits c.requires.behind c.steps_left.ensures.some c.min-steps.ensures in
    omega (arith, all.piece_len)

pub returns-clause-band : goal.returns-clause-band
returns-clause-band c =
    let s : Tiling = c.args.shape.now in
    let few = few_steps s c.args.behind c.steps_left.result c.min-steps.result c.coords_at-coords.ensures.limits c.requires.behind c.steps_left.ensures.some c.min-steps.ensures in
    let coords : List ℕ = c.coords_at-coords.result.items in
    let d : ℕ = c.args.behind.dimension in
    let same : get_or c.as_slice.result.now d 0 ≡ get_or coords d 0 = ap (λ l. get_or l d 0) c.as_slice.ensures.value in
    let left : get_or c.as_slice.result.now d 0 % get_or s.edges d 0 ≡ get_or coords d 0 % get_or s.edges d 0 = ap (λ x. x % get_or s.edges d 0) same in
    steps_are_band s c.args.behind coords _ c.min-steps.result c.coords_at-coords.ensures.limits c.coords_at-coords.ensures.few c.requires.behind c.coords_at-coords.ensures.inside
    c.coords_at-coords.ensures.place c.requires.first few.0 few.1
    (omega (arith, same, c.steps_left.ensures.in_array, c.min-steps.ensures)) (omega (arith, left, c.steps_left.ensures.in_tile, c.min-steps.ensures))
    refl (c.word_number.ensures ∙ ap (word_number s) c.as_slice-2.ensures.value) refl refl c.tile_words.ensures.words
