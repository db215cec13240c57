-- The first block of a list of cuts.
use Rattle.std.proofs.Common.{◌≡◌, ◌∙◌, ℕ, suc, ◌+◌, ◌*◌, ◌<◌, List, [], ◌∷◌, ◌++◌, length, take, drop, map, sym, refl, ap, ap₂, subst, inl, inr, arith, get_or}
use Rattle.std.specs.List.{All}
use Rattle.std.specs.Prelude.{replicate}
use Rattle.std.specs.Int.{div_ceil}
use Rattle.std.proofs.lemmas.Bool.{cases_lt}
use Rattle.std.proofs.lemmas.Grind.{div_ceil_times}
use Rattle.std.proofs.lemmas.List.{take_more, map-append, length-map, length-replicate}
use Rattle.arrayvec.specs.ArrayVec.{ArrayVec, with_items}
use Rattle.arrayvec.proofs.ArrayVecLemmas.{items-with_items}
use Rattle.tce_space.specs.Box.{place, IsInside}
use Rattle.tce_space.specs.Tiling.{counts_along}
use Rattle.tce_block.specs.Parts.{blocks}
use Rattle.tce_block.specs.Cuts.{IsCut, extents_of, edges_of}
use Rattle.tce_block.specs.Numbers.{AreWithin}
use Rattle.tce_block.specs.declared.cut.Cut.{Cut}
use Rattle.tce_space.proofs.Boxes.{length_inside}

-- how many edges cover the extent of each cut
abbrev pub counts_of : List Cut → List ℕ
counts_of cuts = map (λ (c : Cut). div_ceil c.extent c.edge) cuts

abbrev pub zeros_of : List Cut → List ℕ
zeros_of cuts = map (λ (c : Cut). 0) cuts

pub counts_are : (cuts : List Cut) → counts_of cuts ≡ counts_along (extents_of cuts) (edges_of cuts)
counts_are [] = refl
counts_are (c ∷ cs) = ap (λ ns. div_ceil c.extent c.edge ∷ ns) (counts_are cs)

pub some_count : (n e : ℕ) → 0 < e → 0 < n → 0 < div_ceil n e
some_count n e some h =
    elim (cases_lt 0 (div_ceil n e)) [
      | inl below ↦ below
      | inr none ↦
          let all = (div_ceil_times n e some).0 in
          let zero_is : div_ceil n e ≡ 0 = omega arith in
          let empty : div_ceil n e * e ≡ 0 = ap (λ t. t * e) zero_is ∙ (let z : 0 * e ≡ 0 = omega arith in z) in
          absurd (omega arith)
    ]

pub within_limits : (cuts : List Cut) → All IsCut cuts → AreWithin (extents_of cuts) (edges_of cuts)
within_limits [] h = tt
within_limits (c ∷ cs) h =
    let first : IsCut c = h 0 c (omega arith) in
    (first.limit, first.edge_some, first.edge_limit, within_limits cs (λ k d l. h (suc k) d (omega arith)))

pub zeros_inside : (cuts : List Cut) → All IsCut cuts → IsInside (counts_of cuts) (zeros_of cuts)
zeros_inside [] h = tt
zeros_inside (c ∷ cs) h =
    let first : IsCut c = h 0 c (omega arith) in
    (some_count c.extent c.edge first.edge_some (omega (arith, first.edge_some, first.edge_limit)), zeros_inside cs (λ k d l. h (suc k) d (omega arith)))

pub zeros_first : (cuts : List Cut) (ns : List ℕ) → place ns (zeros_of cuts) ≡ 0
zeros_first [] [] = refl
zeros_first [] (n ∷ ns) = refl
zeros_first (c ∷ cs) [] = refl
zeros_first (c ∷ cs) (n ∷ ns) = let rest = zeros_first cs ns in omega arith

-- one cut more
pub one_cut_more : (f : Cut → ℕ) (cuts : List Cut) (xs : List ℕ) (i x : ℕ) (c : Cut) → xs ≡ map f (take i cuts) → i < length cuts → x ≡ f (get_or cuts i c) → xs ++ x ∷ [] ≡ map f (take (i + 1) cuts)
one_cut_more f cuts xs i x c h l e =
    ap (λ ys. ys ++ x ∷ []) h
    ∙ ap (λ y. map f (take i cuts) ++ y ∷ []) e
    ∙ sym (map-append f (take i cuts) (get_or cuts i c ∷ []))
    ∙ ap (map f) (sym (take_more cuts i c l))

-- what the program has made of all cuts
pub record IsBegun (cuts : List Cut) (extents edges counts numbers : List ℕ) : Type 0 where
  pub counts_is : counts ≡ counts_along extents edges
  pub inside : IsInside counts numbers
  pub within : AreWithin extents edges
  pub first : drop (place (counts_along extents edges) numbers) (blocks extents edges) ≡ blocks (extents_of cuts) (edges_of cuts)

pub rightly_begun : (cuts : List Cut) (extents edges counts numbers : List ℕ) → All IsCut cuts → extents ≡ extents_of cuts → edges ≡ edges_of cuts → counts ≡ counts_of cuts → numbers ≡ zeros_of cuts
    → IsBegun cuts extents edges counts numbers
rightly_begun cuts extents edges counts numbers h a b c d =
    let along : counts_of cuts ≡ counts_along extents edges = counts_are cuts ∙ ap₂ counts_along (sym a) (sym b) in
    record {
      counts_is = c ∙ along;
      inside = subst (λ cs. IsInside cs numbers) (sym c) (subst (λ ns. IsInside (counts_of cuts) ns) (sym d) (zeros_inside cuts h));
      within = subst (λ ns. AreWithin ns edges) (sym a) (subst (λ es. AreWithin (extents_of cuts) es) (sym b) (within_limits cuts h));
      first = ap (λ k. drop k (blocks extents edges)) (ap (place (counts_along extents edges)) d ∙ zeros_first cuts (counts_along extents edges)) ∙ ap₂ blocks a b;
    }

zeros_are : (cuts : List Cut) (n : ℕ) → n ≡ length cuts → replicate n 0 ≡ zeros_of cuts
zeros_are [] n is = ap (λ k. replicate k 0) is
zeros_are (c ∷ cs) n is = ap (λ k. replicate k 0) is ∙ ap (λ ns. 0 ∷ ns) (zeros_are cs (length cs) refl)

-- what it makes of lists that were those of the same cuts before: the numbers are cleared through a slice
pub begun_anew : (cuts : List Cut) (extents edges counts slice new : List ℕ) (numbers : ArrayVec ℕ) → All IsCut cuts → extents ≡ extents_of cuts → edges ≡ edges_of cuts
    → counts ≡ counts_along extents edges → IsInside counts numbers.items → slice ≡ numbers.items → new ≡ replicate (length slice) 0
    → IsBegun cuts extents edges counts (with_items numbers new).items
begun_anew cuts extents edges counts slice new numbers h a b along inside whole cleared =
    let counts_is : counts ≡ counts_of cuts = along ∙ ap₂ counts_along a b ∙ sym (counts_are cuts) in
    let as_many : length slice ≡ length cuts = ap length whole ∙ length_inside counts numbers.items inside ∙ ap length counts_is ∙ length-map cuts (λ (c : Cut). div_ceil c.extent c.edge) in
    let same : length new ≡ length numbers.items = ap length cleared ∙ length-replicate (length slice) 0 ∙ ap length whole in
    rightly_begun cuts extents edges counts (with_items numbers new).items h a b counts_is (items-with_items numbers new same ∙ cleared ∙ zeros_are cuts (length slice) as_many)
