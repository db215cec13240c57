-- Each place of a box is in one block.
use Rattle.std.proofs.Common.{◌≡◌, ◌∙◌, ℕ, suc, inl, inr, ◌+◌, ◌-◌, ◌*◌, ◌/◌, ◌<◌, ◌≤◌, min, List, [], ◌∷◌, length, sym, refl, ap, subst, arith, get_or, Some}
use Rattle.std.specs.Prelude.{slice_get}
use Rattle.std.specs.Int.{div_ceil}
use Rattle.std.proofs.lemmas.Bool.{cases_lt}
use Rattle.std.proofs.lemmas.Grind.{div_ceil_times}
use Rattle.std.proofs.lemmas.Nat.{mod_below, div-add-mod', div-mul-add}
use Rattle.std.proofs.lemmas.List.{length-map, get_or-map}
use Rattle.std.proofs.lemmas.Option.{slice_get_within, get_or_from_slice_get, slice_get-get_or}
use Rattle.std.proofs.Math.Nat.{min-le_left, min-le_right, le-min, mul-le-mul_left}
use Rattle.tce_space.specs.Box.{product, place, places, IsInside}
use Rattle.tce_space.specs.Tiling.{ArePositive, counts_along, divided}
use Rattle.tce_space.proofs.Boxes.{length-places, get-places, place-lt, places_every}
use Rattle.tce_space.proofs.Tilings.{divided_inside}
use Rattle.tce_block.specs.Parts.{Part, IsIn, block, blocks}
use Rattle.tce_block.specs.Laws.{AreEdges, Covers, AreLeastCounts}

-- one dimension: the end of the part with number b
pub end_is : (n e b : ℕ) → b * e ≤ n → b * e + (min ((b + 1) * e) n - b * e) ≡ min ((b + 1) * e) n
end_is n e b h = let low : b * e ≤ min ((b + 1) * e) n = le-min (omega arith) h in omega arith

-- a number is in the part of its quotient
pub in_part : (n e x : ℕ) → 0 < e → x < n → (x / e * e ≤ x) × (x < x / e * e + (min ((x / e + 1) * e) n - x / e * e))
in_part n e x some h =
    let whole = div-add-mod' x e in
    let rest = mod_below x e some in
    let end = end_is n e (x / e) (omega arith) in
    let low : suc x ≤ min ((x / e + 1) * e) n = le-min (omega arith) (omega arith) in
    (omega arith, omega arith)

-- and in no other part
pub part_of_number : (n e b x : ℕ) → 0 < e → b * e ≤ x → x < b * e + (min ((b + 1) * e) n - b * e) → (x < n) × (x / e ≡ b)
part_of_number n e b x some low high =
    let first : min ((b + 1) * e) n ≤ (b + 1) * e = min-le_left _ _ in
    let second : min ((b + 1) * e) n ≤ n = min-le_right _ _ in
    let r : ℕ = x - b * e in
    let is : b * e + r ≡ x = omega arith in
    (omega arith, ap (λ y. y / e) (sym is) ∙ div-mul-add b e r (omega arith))

-- the part with these numbers has the places whose quotients they are
pub in_block : (ns es xs : List ℕ) → length es ≡ length ns → ArePositive es → IsInside ns xs → IsIn (block ns es (divided es xs)) xs
in_block [] [] [] l p h = tt
in_block [] [] (x ∷ xs) l p h = absurd h
in_block [] (e ∷ es) xs l p h = absurd (omega arith)
in_block (n ∷ ns) [] xs l p h = absurd (omega arith)
in_block (n ∷ ns) (e ∷ es) [] l p h = absurd h
in_block (n ∷ ns) (e ∷ es) (x ∷ xs) l p h =
    let here = in_part n e x p.0 h.0 in
    (here.0, here.1, in_block ns es xs (omega arith) p.1 h.1)

pub block_of : (ns es bs xs : List ℕ) → length es ≡ length ns → ArePositive es → IsInside (counts_along ns es) bs → IsIn (block ns es bs) xs → IsInside ns xs × (divided es xs ≡ bs)
block_of [] [] [] [] l p h k = (tt, refl)
block_of [] [] [] (x ∷ xs) l p h k = absurd k
block_of [] [] (b ∷ bs) xs l p h k = absurd h
block_of [] (e ∷ es) bs xs l p h k = absurd (omega arith)
block_of (n ∷ ns) [] bs xs l p h k = absurd (omega arith)
block_of (n ∷ ns) (e ∷ es) [] xs l p h k = absurd h
block_of (n ∷ ns) (e ∷ es) (b ∷ bs) [] l p h k = absurd k
block_of (n ∷ ns) (e ∷ es) (b ∷ bs) (x ∷ xs) l p h k =
    let here = part_of_number n e b x p.0 k.0 k.1 in
    let rest = block_of ns es bs xs (omega arith) p.1 h.1 k.2 in
    ((here.0, rest.0), ap (λ q. q ∷ divided es xs) here.1 ∙ ap (λ qs. b ∷ qs) rest.1)

-- the blocks by their numbers
pub length-blocks : (ns es : List ℕ) → length (blocks ns es) ≡ product (counts_along ns es)
unfolding blocks
length-blocks ns es = length-map (places (counts_along ns es)) (block ns es) ∙ length-places (counts_along ns es)

pub record HasNumbers (ns es : List ℕ) (k : ℕ) (part : Part) : Type 0 where
  pub numbers : List ℕ
  pub inside : IsInside (counts_along ns es) numbers
  pub number : place (counts_along ns es) numbers ≡ k
  pub part_is : part ≡ block ns es numbers

pub get_or-blocks : (ns es : List ℕ) (k : ℕ) (d : Part) → k < product (counts_along ns es) → get_or (blocks ns es) k d ≡ block ns es (get_or (places (counts_along ns es)) k [])
unfolding blocks
get_or-blocks ns es k d h = get_or-map (block ns es) (places (counts_along ns es)) k [] d (rw length-places h)

pub block_numbers : (ns es : List ℕ) (k : ℕ) (part : Part) → slice_get (blocks ns es) k ≡ Some part → HasNumbers ns es k part
block_numbers ns es k part h =
    let low : k < product (counts_along ns es) = rw length-blocks at (slice_get_within (blocks ns es) k part h) in
    let at = places_every (counts_along ns es) k low in
    record {
      numbers = get_or (places (counts_along ns es)) k [];
      inside = at.0;
      number = at.1;
      part_is = sym (get_or_from_slice_get (blocks ns es) k part part h) ∙ get_or-blocks ns es k part low;
    }

-- the block with these numbers
pub get-blocks : (ns es bs : List ℕ) → IsInside (counts_along ns es) bs → slice_get (blocks ns es) (place (counts_along ns es) bs) ≡ Some (block ns es bs)
get-blocks ns es bs h =
    let low : place (counts_along ns es) bs < product (counts_along ns es) = place-lt (counts_along ns es) bs h in
    let within : place (counts_along ns es) bs < length (blocks ns es) = rw length-blocks low in
    slice_get-get_or (blocks ns es) (place (counts_along ns es) bs) (block ns es bs) within
    ∙ ap Some (get_or-blocks ns es (place (counts_along ns es) bs) (block ns es bs) low ∙ ap (block ns es) (get-places (counts_along ns es) bs h))

pub covers : (ns es : List ℕ) → AreEdges ns es → Covers ns es
covers ns es a = record {
  some = λ xs h.
      let bs : List ℕ = divided es xs in
      let inside : IsInside (counts_along ns es) bs = divided_inside ns es xs a.same_rank a.positive h in
      (place (counts_along ns es) bs, block ns es bs, get-blocks ns es bs inside, in_block ns es xs a.same_rank a.positive h);
  one = λ xs j k p q hp hq inp inq.
      let np = block_numbers ns es j p hp in
      let nq = block_numbers ns es k q hq in
      let bp = block_of ns es np.numbers xs a.same_rank a.positive np.inside (subst (λ (part : Part). IsIn part xs) np.part_is inp) in
      let bq = block_of ns es nq.numbers xs a.same_rank a.positive nq.inside (subst (λ (part : Part). IsIn part xs) nq.part_is inq) in
      sym np.number ∙ ap (place (counts_along ns es)) (sym bp.1 ∙ bq.1) ∙ nq.number;
  inside = λ xs k p hp inp.
      let np = block_numbers ns es k p hp in
      (block_of ns es np.numbers xs a.same_rank a.positive np.inside (subst (λ (part : Part). IsIn part xs) np.part_is inp)).0;
}

-- all places of a block have its numbers as their quotients
pub between_edges : (ns es : List ℕ) → AreEdges ns es → (k : ℕ) (part : Part) → slice_get (blocks ns es) k ≡ Some part → (xs ys : List ℕ) → IsIn part xs → IsIn part ys → divided es xs ≡ divided es ys
between_edges ns es a k part h xs ys inx iny =
    let n = block_numbers ns es k part h in
    let bx = block_of ns es n.numbers xs a.same_rank a.positive n.inside (subst (λ (p : Part). IsIn p xs) n.part_is inx) in
    let by = block_of ns es n.numbers ys a.same_rank a.positive n.inside (subst (λ (p : Part). IsIn p ys) n.part_is iny) in
    bx.1 ∙ sym by.1

-- the least number of edges that cover an extent
pub least : (n e t : ℕ) → 0 < e → n ≤ t * e → div_ceil n e ≤ t
least n e t some h =
    let all : div_ceil n e * e < n + e = (div_ceil_times n e some).1 in
    elim (cases_lt t (div_ceil n e)) [
      | inl below ↦
          let next : suc t ≤ div_ceil n e = omega arith in
          let more : e * suc t ≤ e * div_ceil n e = mul-le-mul_left e next in
          absurd (omega arith)
      | inr above ↦ omega arith
    ]

pub least_counts : (ns es : List ℕ) → length es ≡ length ns → ArePositive es → AreLeastCounts ns es (counts_along ns es)
least_counts [] [] l p = tt
least_counts [] (e ∷ es) l p = absurd (omega arith)
least_counts (n ∷ ns) [] l p = absurd (omega arith)
least_counts (n ∷ ns) (e ∷ es) l p = ((div_ceil_times n e p.0).0, (λ t h. least n e t p.0 h), least_counts ns es (omega arith) p.1)
