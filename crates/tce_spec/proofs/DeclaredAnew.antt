-- Declarations that are made anew, one after the other.
use Rattle.std.proofs.Common.{◌≡◌, ℕ, zero, suc, ◌+◌, ◌<◌, ◌≤◌, List, [], ◌∷◌, ◌++◌, length, map, take, get_or, Option, Some, None, refl, sym, ap, ap₂, ◌∙◌, arith}
use Rattle.std.specs.List.{IsDistinct, AllByRecursion}
use Rattle.std.specs.Str.{bytes_eq}
use Rattle.std.proofs.lemmas.Bool.{false≢true}
use Rattle.std.proofs.lemmas.List.{map-append, take_more, take_all, length-map, length-take, get_or-map, get_or-take}
use Rattle.std.proofs.lemmas.List.Quantifiers.{position-Some}
use Rattle.std.proofs.lemmas.Map.Keys.{apart_from_distinct}
use Rattle.tce_space.specs.Space.{IndexSpace}
use Rattle.tce_spec.specs.Declarations.{Declarations, Tensor, tensor_number, no_tensor}
use Rattle.tce_spec.specs.Specification.{Specification}
use Rattle.tce_spec.specs.PieceSpecification.{source}

-- the first ranges, and the first indexes over all ranges
abbrev pub first_ranges : IndexSpace → ℕ → IndexSpace
first_ranges space k = record { ranges = take k space.ranges; indexes = [] }

abbrev pub first_indexes : IndexSpace → ℕ → IndexSpace
first_indexes space k = record { ranges = space.ranges; indexes = take k space.indexes }

-- ---- tensors

-- a name that differs from all others is none of those before it
pub unnamed_before : (s : Specification) (us : List ℕ) (k : ℕ) → k < length us → IsDistinct bytes_eq (map (λ u. (source s u).name) us)
    → tensor_number (map (source s) (take k us)) (source s (get_or us k 0)).name ≡ None
unnamed_before s us k inside once = by_case (tensor_number before name) refl
  where
    before : List Tensor
    before = map (source s) (take k us)

    name : List ℕ
    name = (source s (get_or us k 0)).name

    by_case : (o : Option ℕ) → tensor_number (map (source s) (take k us)) (source s (get_or us k 0)).name ≡ o → tensor_number (map (source s) (take k us)) (source s (get_or us k 0)).name ≡ None
    by_case None e = e
    by_case (Some i) e =
        let found = position-Some (λ (t : Tensor). bytes_eq t.name (source s (get_or us k 0)).name) (map (source s) (take k us)) i no_tensor e in
        let i_low : i < k = omega (arith, found.0, length-map (take k us) (source s), length-take k us) in
        let names : List (List ℕ) = map (λ u. (source s u).name) us in
        let apart = apart_from_distinct bytes_eq names i k [] once i_low (omega (arith, inside, length-map us (λ u. (source s u).name))) in
        let at_i : get_or names i [] ≡ (source s (get_or us i 0)).name = get_or-map (λ u. (source s u).name) us i 0 [] (omega arith) in
        let at_k : get_or names k [] ≡ (source s (get_or us k 0)).name = get_or-map (λ u. (source s u).name) us k 0 [] inside in
        let here : get_or (map (source s) (take k us)) i no_tensor ≡ source s (get_or us i 0) =
        get_or-map (source s) (take k us) i 0 no_tensor (omega (arith, found.0, length-map (take k us) (source s))) ∙ ap (source s) (get_or-take k us i 0 i_low) in
        absurd (false≢true (sym apart ∙ ap₂ bytes_eq at_i at_k ∙ ap (λ (t : Tensor). bytes_eq t.name (source s (get_or us k 0)).name) (sym here) ∙ found.1))

pub each_at : (p : ℕ → Type 0) (us : List ℕ) (k : ℕ) → k < length us → AllByRecursion p us → p (get_or us k 0)
each_at p [] k inside all = absurd (omega arith)
each_at p (u ∷ us) zero inside all = all.0
each_at p (u ∷ us) (suc k) inside all = each_at p us k (omega arith) all.1

pub tensor_more : (s : Specification) (us : List ℕ) (k : ℕ) (before after : Declarations) (t : Tensor) → k < length us → before ≡ record { space = s.declarations.space; tensors = map (source s) (take k us) }
    → after ≡ record { space = before.space; tensors = before.tensors ++ t ∷ [] } → t ≡ source s (get_or us k 0)
    → after ≡ record { space = s.declarations.space; tensors = map (source s) (take (k + 1) us) }
tensor_more s us k before after t inside so_far is tensor =
    is ∙ ap₂ (λ (d : Declarations) (x : Tensor). record { space = d.space; tensors = d.tensors ++ x ∷ [] }) so_far tensor
    ∙ ap (λ (ts : List Tensor). record { space = s.declarations.space; tensors = ts }) (sym (map-append (source s) (take k us) (get_or us k 0 ∷ [])) ∙ ap (map (source s)) (sym (take_more us k 0 inside)))

pub room_before : (s : Specification) (us : List ℕ) (k : ℕ) (before : Declarations) → k < length us → length us ≤ 32 → before ≡ record { space = s.declarations.space; tensors = map (source s) (take k us) }
    → length before.tensors < 32
room_before s us k before inside few so_far =
    omega (arith, inside, few, ap (λ (d : Declarations). length d.tensors) so_far, length-map (take k us) (source s), length-take k us)

pub all_tensors : (s : Specification) (us : List ℕ) (k : ℕ) (all : Declarations) → length us ≤ k → all ≡ record { space = s.declarations.space; tensors = map (source s) (take k us) }
    → all ≡ record { space = s.declarations.space; tensors = map (source s) us }
all_tensors s us k all past so_far = so_far ∙ ap (λ (vs : List ℕ). record { space = s.declarations.space; tensors = map (source s) vs }) (take_all k us past)
