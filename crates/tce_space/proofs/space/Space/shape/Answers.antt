use Rattle.std.proofs.Common.{◌≡◌, ◌+◌, ◌<◌, ◌≤◌, ◌↔◌, ◌^◌, Err, ℕ, List, [], ◌∷◌, ◌++◌, All, get_or, length, map, take, IfOk, ap, sym, subst, ◌∙◌, arith}
use Rattle.std.proofs.lemmas.List.{length-map, take_all, take_more, map-append, length-take-le}
use Rattle.std.proofs.lemmas.List.Elements.{All-push}
use Rattle.tce_space.specs.Space.{range_at, tiling_of}
use Rattle.tce_space.specs.Tiling.{Tiling, ArePositive, tile_words, padded_words}
use Rattle.tce_space.specs.declared.shape.ShapeFault.TheVariants.{TileWords, ArrayWords}
use Rattle.tce_space.proofs.Products.{positive_push}
use Rattle.tce_space.proofs.space.Space.shape.Goals as goal

-- one entry more
map_more : (f : ℕ → ℕ) (xs : List ℕ) (i : ℕ) (ys : List ℕ) (y : ℕ) (pushed : List ℕ) → i < length xs → ys ≡ map f (take i xs) → y ≡ f (get_or xs i 0) → pushed ≡ ys ++ y ∷ []
    → pushed ≡ map f (take (i + 1) xs)
map_more f xs i ys y pushed l before here is =
    is
    ∙ ap (λ zs. zs ++ y ∷ []) before
    ∙ ap (λ z. map f (take i xs) ++ z ∷ []) here
    ∙ sym (map-append f (take i xs) (get_or xs i 0 ∷ []))
    ∙ ap (map f) (sym (take_more xs i 0 l))

-- the shape that was put together
abbrev tiling : goal.After-shape_of → Tiling
tiling c = record { extents = c.loop-range.extents.items; edges = c.loop-range.edges.items }

is : (c : goal.After-shape_of) → tiling c ≡ tiling_of c.args.self.now c.args.ranges.now.items
is c =
    let all : take c.loop-range.range-index c.as_slice-range-items.result.now ≡ c.args.ranges.now.items =
    take_all _ _ (omega (arith, c.loop-range-test.false)) ∙ c.as_slice-range-items.ensures.value in
    let extents = c.loop-range.invariant.extents ∙ ap (map (λ r. (range_at c.args.self.now r).extent)) all in
    let edges = c.loop-range.invariant.edges ∙ ap (map (λ r. (range_at c.args.self.now r).edge)) all in
    λ i. record { extents = extents i; edges = edges i }

pub loop-range-preserved : goal.loop-range-preserved
loop-range-preserved c = record {
  extents = map_more (λ r. (range_at c.args.self.now r).extent) c.as_slice-range-items.result.now c.loop-range.range-index c.loop-range.extents.items c.range_extent.result c.push.new.self.items
      c.loop-range-test.true c.loop-range.invariant.extents c.range_extent.ensures.extent c.push.ensures.items;
  edges = map_more (λ r. (range_at c.args.self.now r).edge) c.as_slice-range-items.result.now c.loop-range.range-index c.loop-range.edges.items c.range_edge.result c.push-in-loop-range.new.self.items
      c.loop-range-test.true c.loop-range.invariant.edges c.range_edge.ensures.edge c.push-in-loop-range.ensures.items;
  sizes = subst (All (λ n. (0 < n) × (n < 2 ^ 32))) (sym c.push.ensures.items)
      (All-push (λ n. (0 < n) × (n < 2 ^ 32)) c.loop-range.extents.items c.range_extent.result c.loop-range.invariant.sizes (c.range_extent.ensures.positive, c.range_extent.ensures.small));
  positive = subst ArePositive (sym c.push-in-loop-range.ensures.items)
      (positive_push c.loop-range.edges.items c.range_edge.result c.loop-range.invariant.positive c.range_edge.ensures.positive);
}

pub returns-clause-made : goal.returns-clause-made
returns-clause-made c = subst (λ (s : Tiling). IfOk c.shape_of.result (λ shape. shape ≡ s)) (is c) c.shape_of.ensures.made

pub returns-clause-tile_words : goal.returns-clause-tile_words
returns-clause-tile_words c = subst (λ (s : Tiling). (c.shape_of.result ≡ Err TileWords) ↔ (2 ^ 20 < tile_words s)) (is c) c.shape_of.ensures.tile_words

pub returns-clause-array_words : goal.returns-clause-array_words
returns-clause-array_words c =
    subst (λ (s : Tiling). (c.shape_of.result ≡ Err ArrayWords) ↔ ((tile_words s ≤ 2 ^ 20) × (2 ^ 48 < padded_words s))) (is c) c.shape_of.ensures.array_words

pub shape_of-requires-clause-same_rank : goal.shape_of-requires-clause-same_rank
shape_of-requires-clause-same_rank c =
    let taken : List ℕ = take c.loop-range.range-index c.as_slice-range-items.result.now in
    ap length c.loop-range.invariant.edges ∙ length-map taken (λ (r : ℕ). (range_at c.args.self.now r).edge)
    ∙ sym (ap length c.loop-range.invariant.extents ∙ length-map taken (λ (r : ℕ). (range_at c.args.self.now r).extent))

pub shape_of-requires-clause-sizes : goal.shape_of-requires-clause-sizes
shape_of-requires-clause-sizes c = c.loop-range.invariant.sizes

pub shape_of-requires-clause-positive : goal.shape_of-requires-clause-positive
shape_of-requires-clause-positive c = c.loop-range.invariant.positive

-- an entry for each range so far, and there is room for one more
few : (f : ℕ → ℕ) (xs ys : List ℕ) (i n : ℕ) → ys ≡ map f (take i xs) → i < length xs → length xs ≤ n → length ys < n
few f xs ys i n are low room = omega (arith, ap length are, length-map (take i xs) f, length-take-le i xs (omega (arith, low)), low, room)

pub push-requires : goal.push-requires
push-requires c = (
  omega arith,
  few (λ (r : ℕ). (range_at c.args.self.now r).extent) c.as_slice-range-items.result.now c.loop-range.extents.items c.loop-range.range-index 8 c.loop-range.invariant.extents c.loop-range-test.true
      c.as_slice-range-items.ensures.fits,
)

pub push-requires-in-loop-range : goal.push-requires-in-loop-range
push-requires-in-loop-range c = (
  omega arith,
  few (λ (r : ℕ). (range_at c.args.self.now r).edge) c.as_slice-range-items.result.now c.loop-range.edges.items c.loop-range.range-index 8 c.loop-range.invariant.edges c.loop-range-test.true
      c.as_slice-range-items.ensures.fits,
)
