-- The shapes of declared tensors.
use Rattle.std.proofs.Common.{ℕ, suc, ◌<◌, ◌^◌, List, [], ◌∷◌, All, length, map, get_or, sym, ◌∙◌, arith}
use Rattle.std.proofs.lemmas.List.{length-map}
use Rattle.std.proofs.lemmas.List.Elements.{All-map}
use Rattle.tce_space.specs.Space.{IndexSpace, IsRange, no_range, range_at}
use Rattle.tce_space.specs.Tiling.{IsTiling, ArePositive}
use Rattle.tce_spec.specs.Declarations.{IsDeclarations, no_tensor}
use Rattle.tce_spec.specs.Specification.{Specification}
use Rattle.tce_spec.specs.Operands.{shape_of}
use Rattle.tce_job.specs.ResultLaws.{IsTensorOf}

edges_positive : (space : IndexSpace) (ranges : List ℕ) → All IsRange space.ranges → All (λ r. r < length space.ranges) ranges → ArePositive (map (λ r. (range_at space r).edge) ranges)
edges_positive space [] kept declared = tt
edges_positive space (r ∷ ranges) kept declared =
    let first = kept r no_range (declared 0 0 (omega arith)) in
    (first.edge_some, edges_positive space ranges kept (λ k d h. declared (suc k) d (omega arith)))

pub shapes_are_tilings : (s : Specification) (t : ℕ) → IsDeclarations s.declarations → IsTensorOf s t → IsTiling (shape_of s t)
shapes_are_tilings s t d h =
    let tensor = d.tensors t no_tensor h in
    let space : IndexSpace = s.declarations.space in
    let ranges : List ℕ = (get_or s.declarations.tensors t no_tensor).ranges in
    let extents = length-map ranges (λ r. (range_at space r).extent) in
    let edges = length-map ranges (λ r. (range_at space r).edge) in
    record {
      same_rank = edges ∙ sym extents;
      rank = omega (arith, extents, tensor.rank);
      sizes = All-map (λ n. (0 < n) × (n < 2 ^ 32)) (λ r. (range_at space r).extent) ranges (λ k e within.
          let range = d.space.ranges (get_or ranges k e) no_range (tensor.declared k e within) in
          (range.some, range.limit));
      positive = edges_positive space ranges d.space.ranges tensor.declared;
      tile_room = tensor.tile_room;
      room = tensor.room;
    }
