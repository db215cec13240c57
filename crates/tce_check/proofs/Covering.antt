-- Pairs of rows that are covered part by part.
use Rattle.std.proofs.Common.{◌≡◌, List, ◌++◌, All, get_or, sym, subst}
use Rattle.std.proofs.lemmas.List.Elements.{All-append}
use Rattle.tce_fusion.specs.Row.{Row}

-- something holds of each left row with each right one
abbrev pub OfEachPair : (Row → Row → Type 0) → List Row → List Row → Type 0
OfEachPair Holds lefts rights = All (λ left. All (Holds left) rights) lefts

pub with_more : (Holds : Row → Row → Type 0) (lefts few later rights : List Row) → rights ≡ few ++ later → OfEachPair Holds lefts few → OfEachPair Holds lefts later → OfEachPair Holds lefts rights
with_more Holds lefts few later rights parts here there k d low =
    subst (All (Holds (get_or lefts k d))) (sym parts) (All-append (Holds (get_or lefts k d)) few later (here k d low) (there k d low))
