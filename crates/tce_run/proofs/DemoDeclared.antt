-- The declarations of a demonstration keep their rules.
use Rattle.std.proofs.Common.{◌≡◌, ℕ, zero, suc, ◌*◌, ◌/◌, ◌<◌, ◌≤◌, ◌&&◌, min, not, Bool, true, false, IsTrue, List, [], ◌∷◌, length, map, All, refl, arith, codes, mul-le-mul}
use Rattle.std.specs.Int.{div_ceil}
use Rattle.std.specs.List.{IsDistinct, AllByRecursion, list_all}
use Rattle.std.specs.Str.{bytes_eq}
use Rattle.std.proofs.lemmas.List.Elements.{All-from_recursion}
use Rattle.std.proofs.lemmas.Bool.{not-true, and_parts}
use Rattle.tce_space.specs.Name.{is_name}
use Rattle.tce_space.specs.Box.{product}
use Rattle.tce_space.specs.Tiling.{tile_words, tiles, padded_words}
use Rattle.tce_space.proofs.Products.{le_times}
use Rattle.tce_space.specs.Space.{Range, Index, IsRange, IsSpace, range_at, tiling_of}
use Rattle.tce_spec.specs.Declarations.{Tensor, IsTensor, IsDeclarations, HaveNames}
use Rattle.tce_run.specs.DemoSpecification.{IsExtent, range_of, demo_space, demo_tensors, demo_declarations}

-- different names, by a test
is_distinct : List (List ℕ) → Bool
is_distinct [] = true
is_distinct (x ∷ xs) = list_all (λ y. not (bytes_eq x y)) xs && is_distinct xs

all_apart : (x : List ℕ) (xs : List (List ℕ)) → list_all (λ y. not (bytes_eq x y)) xs ≡ true → AllByRecursion (λ y. bytes_eq x y ≡ false) xs
all_apart x [] e = tt
all_apart x (y ∷ ys) e =
    let parts = and_parts (not (bytes_eq x y)) (list_all (λ z. not (bytes_eq x z)) ys) e in
    (not-true (bytes_eq x y) parts.0, all_apart x ys parts.1)

distinct : (xs : List (List ℕ)) → is_distinct xs ≡ true → IsDistinct bytes_eq xs
unfolding is_distinct IsDistinct
distinct [] e = tt
distinct (x ∷ xs) e =
    let parts = and_parts (list_all (λ y. not (bytes_eq x y)) xs) (is_distinct xs) e in
    (all_apart x xs parts.0, distinct xs parts.1)

ranges_named : (IsTrue (is_name (codes "V"))) × (IsTrue (is_name (codes "O")))
unfolding is_name
ranges_named = (refl, refl)

range_fits : (name : List ℕ) (n : ℕ) → IsTrue (is_name name) → IsExtent n → IsRange (range_of name n)
range_fits name n named h = record {
  named = named;
  some = omega (arith, h.0);
  limit = omega (arith, h.1);
  edge_some = omega (arith, h.0);
  edge_limit = omega arith;
}

ranges_fit : (v o : ℕ) → IsExtent v → IsExtent o → All IsRange (demo_space v o).ranges
ranges_fit v o hv ho = All-from_recursion IsRange (demo_space v o).ranges (range_fits (codes "V") v ranges_named.0 hv, (range_fits (codes "O") o ranges_named.1 ho, tt))

indexes_fit : (v o : ℕ) → AllByRecursion (λ (i : Index). IsTrue (is_name i.name) × (i.of_range < length (demo_space v o).ranges)) (demo_space v o).indexes
unfolding is_name
indexes_fit v o =
    let first : 0 < 2 = omega arith in
    let second : 1 < 2 = omega arith in
    ((refl, first), ((refl, first), ((refl, first), ((refl, first), ((refl, first), ((refl, first), ((refl, second), ((refl, second), ((refl, second), ((refl, second), tt))))))))))

range_names : (v o : ℕ) → IsDistinct bytes_eq (map (λ (r : Range). r.name) (demo_space v o).ranges)
unfolding is_distinct
range_names v o = distinct (codes "V" ∷ codes "O" ∷ []) refl

index_names : (v o : ℕ) → IsDistinct bytes_eq (map (λ (i : Index). i.name) (demo_space v o).indexes)
unfolding is_distinct
index_names v o = distinct (map (λ (i : Index). i.name) (demo_space v o).indexes) refl

tensor_names : IsDistinct bytes_eq (map (λ (t : Tensor). t.name) demo_tensors)
unfolding is_distinct
tensor_names = distinct (map (λ (t : Tensor). t.name) demo_tensors) refl

space_fits : (v o : ℕ) → IsExtent v → IsExtent o → IsSpace (demo_space v o)
space_fits v o hv ho = record {
  range_limit = omega arith;
  index_limit = omega arith;
  ranges = ranges_fit v o hv ho;
  indexes = All-from_recursion (λ (i : Index). IsTrue (is_name i.name) × (i.of_range < length (demo_space v o).ranges)) (demo_space v o).indexes (indexes_fit v o);
  range_names = range_names v o;
  index_names = index_names v o;
}

-- the products of four numbers with bounds
product_le : (a b c d m : ℕ) → a ≤ m → b ≤ m → c ≤ m → d ≤ m → product (a ∷ b ∷ c ∷ d ∷ []) ≤ m * (m * (m * (m * 1)))
product_le a b c d m ha hb hc hd = mul-le-mul ha (mul-le-mul hb (mul-le-mul hc (mul-le-mul hd one)))
  where
    one : 1 ≤ 1
    one = omega arith

tiles_le : (n e : ℕ) → n ≤ 32 → 1 ≤ e → div_ceil n e ≤ 32
tiles_le n e h some = omega (arith, le_times e (n / e) some)

edge_le : (n : ℕ) → min n 4 ≤ 4
edge_le n = omega arith

edge_some : (n : ℕ) → IsExtent n → 1 ≤ min n 4
edge_some n h = omega (arith, h.0)

edge_at_most : (v o r : ℕ) → r < 2 → (range_at (demo_space v o) r).edge ≤ 4
edge_at_most v o zero h = edge_le v
edge_at_most v o (suc zero) h = edge_le o
edge_at_most v o (suc (suc r)) h = absurd (omega arith)

tiles_along : (v o : ℕ) → IsExtent v → IsExtent o → (r : ℕ) → r < 2 → div_ceil (range_at (demo_space v o) r).extent (range_at (demo_space v o) r).edge ≤ 32
tiles_along v o hv ho zero h = tiles_le v (min v 4) hv.1 (edge_some v hv)
tiles_along v o hv ho (suc zero) h = tiles_le o (min o 4) ho.1 (edge_some o ho)
tiles_along v o hv ho (suc (suc r)) h = absurd (omega arith)

-- a tile of four dimensions has at most 256 words
pub tile_le : (v o a b c d : ℕ) → a < 2 → b < 2 → c < 2 → d < 2 → tile_words (tiling_of (demo_space v o) (a ∷ b ∷ c ∷ d ∷ [])) ≤ 256
tile_le v o a b c d ha hb hc hd = product_le _ _ _ _ 4 (edge_at_most v o a ha) (edge_at_most v o b hb) (edge_at_most v o c hc) (edge_at_most v o d hd)

-- a tensor of four dimensions
tensor_fits : (v o : ℕ) → IsExtent v → IsExtent o → (name : List ℕ) (a b c d : ℕ) → length name ≤ 16 → a < 2 → b < 2 → c < 2 → d < 2
    → IsTensor (demo_space v o) (record { name = name; ranges = a ∷ b ∷ c ∷ d ∷ [] })
tensor_fits v o hv ho name a b c d short ha hb hc hd =
    let tile : tile_words (tiling_of (demo_space v o) (a ∷ b ∷ c ∷ d ∷ [])) ≤ 256 = tile_le v o a b c d ha hb hc hd in
    let count : tiles (tiling_of (demo_space v o) (a ∷ b ∷ c ∷ d ∷ [])) ≤ 32 * (32 * (32 * (32 * 1))) =
    product_le _ _ _ _ 32 (tiles_along v o hv ho a ha) (tiles_along v o hv ho b hb) (tiles_along v o hv ho c hc) (tiles_along v o hv ho d hd) in
    let words : padded_words (tiling_of (demo_space v o) (a ∷ b ∷ c ∷ d ∷ [])) ≤ 256 * (32 * (32 * (32 * (32 * 1)))) = mul-le-mul tile count in
    record {
      short = short;
      rank = omega arith;
      declared = All-from_recursion (λ r. r < 2) (a ∷ b ∷ c ∷ d ∷ []) (ha, (hb, (hc, (hd, tt))));
      tile_room = omega (arith, tile);
      room = omega (arith, words);
    }

tensors_fit : (v o : ℕ) → IsExtent v → IsExtent o → All (IsTensor (demo_space v o)) demo_tensors
tensors_fit v o hv ho =
    let short : 5 ≤ 16 = omega arith in
    let first : 0 < 2 = omega arith in
    let second : 1 < 2 = omega arith in
    let fits = λ (name : List ℕ) (a b c d : ℕ). tensor_fits v o hv ho name a b c d in
    All-from_recursion (IsTensor (demo_space v o)) demo_tensors (
      fits (codes "demoA") 0 0 1 1 short first first second second,
      (
        fits (codes "demoB") 0 0 0 1 short first first first second,
        (
          fits (codes "demoC") 0 0 1 1 short first first second second,
          (
            fits (codes "demoD") 0 0 0 1 short first first first second,
            (fits (codes "demoS") 0 0 1 1 short first first second second, tt),
          ),
        ),
      ),
    )

pub declarations_fit : (v o : ℕ) → IsExtent v → IsExtent o → IsDeclarations (demo_declarations v o)
declarations_fit v o hv ho = record {
  space = space_fits v o hv ho;
  tensor_limit = omega arith;
  tensors = tensors_fit v o hv ho;
  tensor_names = tensor_names;
}

have_names : AllByRecursion (λ (t : Tensor). IsTrue (is_name t.name)) demo_tensors
unfolding is_name
have_names = (refl, (refl, (refl, (refl, (refl, tt)))))

pub names_fit : HaveNames demo_tensors
names_fit = All-from_recursion (λ (t : Tensor). IsTrue (is_name t.name)) demo_tensors have_names
