-- What the limits of shapes say of stored elements.
use Rattle.std.proofs.Common.{◌≡◌, ◌∙◌, ℕ, zero, suc, ◌*◌, ◌/◌, ◌^◌, ◌<◌, ◌≤◌, List, length, ap, arith}
use Rattle.std.proofs.Math.Nat.{mul-le-mul_left, mul-div_cancel}
use Rattle.std.proofs.lemmas.List.Elements.{All-get_or}
use Rattle.tce_space.specs.Box.{product, IsInside}
use Rattle.tce_space.specs.Tiling.{Tiling, IsTiling}
use Rattle.tce_space.proofs.Boxes.{length_inside}
use Rattle.tce_space.proofs.Counts.{elements_le}
use Rattle.tce_sym.specs.declared.symmetry.Symmetry.{Symmetry}
use Rattle.tce_sym.specs.Storage.{AreRight, IsPair, at_first, at_second, at_others, pairs, stored_place, stored_count}
use Rattle.tce_sym.proofs.Triangles.{pairs_few}
use Rattle.tce_sym.proofs.StoredPlaces.{placed, within, few, elements_are}

pub record AreSmall (shape : Tiling) (s : Symmetry) : Type 0 where
  pub extent : 0 < at_first s shape.extents
  pub below : at_first s shape.extents < 2 ^ 32
  pub elements : product shape.extents ≤ 2 ^ 48
  pub others : product (at_others s shape.extents) ≤ 2 ^ 48
  pub pairs : pairs s.negated (at_first s shape.extents) ≤ at_first s shape.extents * at_first s shape.extents
  pub count : stored_count shape.extents s ≤ 2 ^ 48
  pub quotient : product shape.extents / (at_first s shape.extents * at_first s shape.extents) ≡ product (at_others s shape.extents)

less : (e m : ℕ) → 0 < m → e ≤ e * (m * m)
less e zero h = absurd (omega arith)
less e (suc m) h = omega (arith, mul-le-mul_left e (square m))
  where
    square : (m : ℕ) → 1 ≤ suc m * suc m
    square m = omega arith

square_some : (m : ℕ) → 0 < m → 0 < m * m
square_some zero h = absurd (omega arith)
square_some (suc m) h = omega arith

pub are_small : (shape : Tiling) (s : Symmetry) → IsTiling shape → AreRight shape.extents s → AreSmall shape s
are_small shape s t r =
    let m : ℕ = at_first s shape.extents in
    let size : (0 < at_first s shape.extents) × (at_first s shape.extents < 2 ^ 32) = All-get_or (λ n. (0 < n) × (n < 2 ^ 32)) shape.extents s.first 0 (omega (arith, r.ordered, r.inside)) t.sizes in
    let all : product shape.extents ≤ 2 ^ 48 = omega (arith, elements_le shape.extents shape.edges t.same_rank t.positive, t.room) in
    let is = elements_are shape.extents s r in
    record {
      extent = size.0;
      below = size.1;
      elements = all;
      others = omega (arith, less (product (at_others s shape.extents)) m size.0, is, all);
      pairs = pairs_few s.negated m;
      count = omega (arith, few shape.extents s r, all);
      quotient = ap (λ n. n / (m * m)) is ∙ mul-div_cancel (product (at_others s shape.extents)) (square_some m size.0);
    }

-- what a place needs
pub record CanPlace (shape : Tiling) (s : Symmetry) (xs : List ℕ) : Type 0 where
  pub long : s.second < length xs
  pub short : length xs ≤ 8
  pub inside : IsInside (at_others s shape.extents) (at_others s xs)
  pub within : stored_place shape.extents s xs < stored_count shape.extents s
  pub small : stored_count shape.extents s ≤ 2 ^ 48
  pub second : at_second s xs < 2 ^ 32
  pub first : at_first s xs < 2 ^ 32

pub can_place : (shape : Tiling) (s : Symmetry) (xs : List ℕ) → IsTiling shape → AreRight shape.extents s → IsInside shape.extents xs → IsPair s.negated (at_first s xs) (at_second s xs) → CanPlace shape s xs
can_place shape s xs t r inside pair =
    let small = are_small shape s t r in
    let p = placed shape.extents s xs r inside pair in
    let same = length_inside shape.extents xs inside in
    record {
      long = omega (arith, r.inside, same);
      short = omega (arith, t.rank, same);
      inside = p.others;
      within = within shape.extents s xs p;
      small = small.count;
      second = omega (arith, p.second, small.below);
      first = omega (arith, p.first, small.below);
    }
