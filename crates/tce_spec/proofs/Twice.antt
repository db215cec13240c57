-- Names that stand twice in a list, one place at a time.
use Rattle.std.proofs.Common.{◌≡◌, ℕ, suc, ◌+◌, ◌<◌, List, [], ◌∷◌, ◌++◌, length, take, drop, get_or, true, false, ◌||◌, Some, Bor, refl, ap, ◌∙◌, cond, add-one, drop-cons}
use Rattle.std.proofs.Math.Seq.{take-suc}
use Rattle.std.proofs.lemmas.List.{map-append}
use Rattle.std.specs.List.{list_any}
use Rattle.std.specs.Str.{bytes_eq}
use Rattle.tce_grammar.specs.Code.{names}
use Rattle.tce_spec.specs.DeclarationLines.{twice_after}

any_names : (n : List ℕ) (xs : List (Bor (List ℕ))) → list_any (bytes_eq n) (names xs) ≡ list_any (λ (other : Bor (List ℕ)). bytes_eq n other.now) xs
any_names n [] = refl
any_names n (x ∷ xs) = ap (λ b. bytes_eq n x.now || b) (any_names n xs)

-- whether the name at a place stands before it
pub twice_at : (xs : List (Bor (List ℕ))) (k : ℕ) (d : Bor (List ℕ)) → k < length xs
    → twice_after (names (take k xs)) (names (drop k xs))
    ≡ cond (list_any (λ (other : Bor (List ℕ)). bytes_eq (get_or xs k d).now other.now) (take k xs)) (Some (get_or xs k d).now)
    (twice_after (names (take (k + 1) xs)) (names (drop (k + 1) xs)))
twice_at xs k d lt =
    rw (drop-cons xs k d lt, add-one, take-suc xs k d lt, map-append)
    (ap (λ b. cond b (Some (get_or xs k d).now) (twice_after (names (take k xs) ++ (get_or xs k d).now ∷ []) (names (drop (suc k) xs)))) (any_names (get_or xs k d).now (take k xs)))

pub found_twice : (xs : List (Bor (List ℕ))) (k : ℕ) (d : Bor (List ℕ)) → k < length xs
    → twice_after [] (names xs) ≡ twice_after (names (take k xs)) (names (drop k xs))
    → list_any (λ (other : Bor (List ℕ)). bytes_eq (get_or xs k d).now other.now) (take k xs) ≡ true
    → twice_after [] (names xs) ≡ Some (get_or xs k d).now
found_twice xs k d lt so_far stands =
    so_far ∙ twice_at xs k d lt ∙ ap (λ b. cond b (Some (get_or xs k d).now) (twice_after (names (take (k + 1) xs)) (names (drop (k + 1) xs)))) stands

pub not_yet_twice : (xs : List (Bor (List ℕ))) (k : ℕ) (d : Bor (List ℕ)) → k < length xs
    → twice_after [] (names xs) ≡ twice_after (names (take k xs)) (names (drop k xs))
    → list_any (λ (other : Bor (List ℕ)). bytes_eq (get_or xs k d).now other.now) (take k xs) ≡ false
    → twice_after [] (names xs) ≡ twice_after (names (take (k + 1) xs)) (names (drop (k + 1) xs))
not_yet_twice xs k d lt so_far stands =
    so_far ∙ twice_at xs k d lt ∙ ap (λ b. cond b (Some (get_or xs k d).now) (twice_after (names (take (k + 1) xs)) (names (drop (k + 1) xs)))) stands
