-- One dimension of a block.
use Rattle.std.proofs.Common.{◌≡◌, ℕ, zero, suc, ◌+◌, ◌-◌, ◌*◌, ◌<◌, ◌≤◌, ◌^◌, min, List, [], ◌∷◌, length, refl, ap, inl, inr, arith, get_or}
use Rattle.std.specs.Int.{div_ceil}
use Rattle.std.proofs.lemmas.Bool.{cases_lt}
use Rattle.tce_space.specs.Box.{IsInside}
use Rattle.tce_space.specs.Tiling.{counts_along}
use Rattle.tce_block.specs.Parts.{beginnings, lengths}
use Rattle.tce_block.specs.Numbers.{AreWithin}
use Rattle.tce_block.proofs.Cover.{least}

-- a part with a number below their count begins inside the extent
pub begins_inside : (n e b : ℕ) → 0 < e → b < div_ceil n e → b * e < n
begins_inside n e b some h =
    elim (cases_lt (b * e) n) [
      | inl below ↦ below
      | inr above ↦ absurd (let few = least n e b some above in omega arith)
    ]

pub record IsDimension (ns es bs : List ℕ) (i : ℕ) : Type 0 where
  pub extent_limit : get_or ns i 0 < 2 ^ 32
  pub edge_limit : get_or es i 0 ≤ get_or ns i 0
  pub inside : get_or bs i 0 * get_or es i 0 < get_or ns i 0
  pub beginning : get_or (beginnings es bs) i 0 ≡ get_or bs i 0 * get_or es i 0
  pub len : get_or (lengths ns es bs) i 0 ≡ min (get_or bs i 0 * get_or es i 0 + get_or es i 0) (get_or ns i 0) - get_or bs i 0 * get_or es i 0

pub dimension : (ns es bs : List ℕ) (i : ℕ) → AreWithin ns es → IsInside (counts_along ns es) bs → i < length bs → IsDimension ns es bs i
dimension [] [] [] i w h l = absurd (omega arith)
dimension [] [] (b ∷ bs) i w h l = absurd h
dimension [] (e ∷ es) bs i w h l = absurd w
dimension (n ∷ ns) [] bs i w h l = absurd w
dimension (n ∷ ns) (e ∷ es) [] i w h l = absurd h
dimension (n ∷ ns) (e ∷ es) (b ∷ bs) zero w h l = record {
  extent_limit = w.0;
  edge_limit = w.2;
  inside = begins_inside n e b w.1 h.0;
  beginning = refl;
  len = let next : (b + 1) * e ≡ b * e + e = omega arith in ap (λ x. min x n - b * e) next;
}
dimension (n ∷ ns) (e ∷ es) (b ∷ bs) (suc i) w h l =
    let rest = dimension ns es bs i w.3 h.1 (omega arith) in
    record { extent_limit = rest.extent_limit; edge_limit = rest.edge_limit; inside = rest.inside; beginning = rest.beginning; len = rest.len }

-- as many dimensions everywhere
pub record AreAsMany (ns es bs : List ℕ) : Type 0 where
  pub edges : length es ≡ length bs
  pub extents : length ns ≡ length bs
  pub beginnings_len : length (beginnings es bs) ≡ length bs
  pub lengths_len : length (lengths ns es bs) ≡ length bs

pub as_many : (ns es bs : List ℕ) → AreWithin ns es → IsInside (counts_along ns es) bs → AreAsMany ns es bs
as_many [] [] [] w h = record { edges = refl; extents = refl; beginnings_len = refl; lengths_len = refl }
as_many [] [] (b ∷ bs) w h = absurd h
as_many [] (e ∷ es) bs w h = absurd w
as_many (n ∷ ns) [] bs w h = absurd w
as_many (n ∷ ns) (e ∷ es) [] w h = absurd h
as_many (n ∷ ns) (e ∷ es) (b ∷ bs) w h =
    let rest = as_many ns es bs w.3 h.1 in
    record { edges = ap suc rest.edges; extents = ap suc rest.extents; beginnings_len = ap suc rest.beginnings_len; lengths_len = ap suc rest.lengths_len }
