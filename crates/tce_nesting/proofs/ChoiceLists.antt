-- Choices of the first sets of a list.
use Rattle.std.proofs.Common.{◌≡◌, ℕ, ◌+◌, ◌<◌, List, [], ◌∷◌, ◌++◌, length, map, get_or, take, sym, ap, ap₂, ◌∙◌}
use Rattle.std.proofs.lemmas.List.{map-append, take_more}
use Rattle.tce_nesting.specs.declared.choice.Choice.{Choice}

-- one more choice
pub fused_further : (old new : List Choice) (last : Choice) (sets : List ℕ) (k x : ℕ) → new ≡ old ++ last ∷ [] → last.fused ≡ x → k < length sets → x ≡ get_or sets k x
    → map (λ (choice : Choice). choice.fused) old ≡ take k sets → map (λ (choice : Choice). choice.fused) new ≡ take (k + 1) sets
fused_further old new last sets k x grown fused low is before =
    ap (map (λ (choice : Choice). choice.fused)) grown
    ∙ map-append (λ (choice : Choice). choice.fused) old (last ∷ [])
    ∙ ap₂ (λ (xs : List ℕ) y. xs ++ y ∷ []) before (fused ∙ is)
    ∙ sym (take_more sets k x low)
