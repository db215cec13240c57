-- Lists of lists, as functions of the elements of another list show them.
use Rattle.std.proofs.Common.{◌≡◌, ℕ, ◌+◌, ◌<◌, List, [], ◌∷◌, ◌++◌, ap₂, replicate, map, get_or, set, length, ◌∙◌, sym, ap, inl, inr, arith, All, subst}
use Rattle.std.proofs.lemmas.List.{map-set, get_or-map, map-append, replicate_more, length-replicate, get_or-replicate, get_or_past}
use Rattle.std.proofs.Math.Seq.{map-set_same}
use Rattle.std.proofs.lemmas.Bool.{cases_lt}
use Rattle.tce_fusion.specs.Row.{Row, rows_at}
use Rattle.tce_nesting.specs.Plan.{RowFits}

-- an element is replaced by one that shows the same
pub unchanged_at : {X Y : Type 0} (l : List X) (f : X → Y) (i : ℕ) (old new : X) → old ≡ get_or l i old → f new ≡ f old → map f (set l i new) ≡ map f l
unchanged_at l f i old new is same = map-set_same f l i new old (same ∙ ap f is)

-- an element is replaced by one that shows more
pub appended_at : {X Y : Type 0} (l : List X) (f : X → List Y) (i : ℕ) (old new : X) (more : List Y) → i < length l → old ≡ get_or l i old → f new ≡ f old ++ more
    → map f (set l i new) ≡ set (map f l) i (get_or (map f l) i [] ++ more)
appended_at l f i old new more low is grown =
    map-set f l i new ∙ ap (set (map f l) i) (grown ∙ ap (λ xs. xs ++ more) (ap f is ∙ sym (get_or-map f l i old [] low)))

-- one more element that shows nothing
pub empty_further : {X Y : Type 0} (old new : List X) (last : X) (f : X → List Y) (n : ℕ) → new ≡ old ++ last ∷ [] → f last ≡ [] → map f old ≡ replicate {A = List Y} n []
    → map f new ≡ replicate {A = List Y} (n + 1) []
empty_further {X} {Y} old new last f n grown none before =
    ap (map f) grown ∙ map-append f old (last ∷ []) ∙ ap₂ (λ (xs : List (List Y)) x. xs ++ x ∷ []) before none ∙ replicate_more n []

-- lists without rows
pub no_rows : (count v : ℕ) → rows_at (replicate count []) v ≡ []
no_rows count v =
    elim (cases_lt v count) [
      | inl less ↦ get_or-replicate count v [] [] less
      | inr past ↦ get_or_past (replicate count []) v [] (omega (arith, past, length-replicate {A = List Row} count []))
    ]

pub empty_fits : (dims : ℕ) (rows : List Row) → rows ≡ [] → All (RowFits dims) rows
empty_fits dims rows none = subst (All (RowFits dims)) (sym none) (λ k d less. absurd (omega (arith, less)))
