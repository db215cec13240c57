-- Lists of names as they are pushed.
use Rattle.std.proofs.Common.{◌≡◌, ℕ, ◌+◌, ◌<◌, List, [], ◌∷◌, ◌++◌, length, get_or, take, refl, ap, sym, ◌∙◌, append_assoc, length-append}
use Rattle.std.specs.List.{join_with_byte}
use Rattle.std.proofs.lemmas.List.{take_more, map-append}
use Rattle.tce_space.specs.Space.{IndexSpace, index_at}
use Rattle.tce_report.specs.Names.{names_of, index_list}

pub join_push : (c : ℕ) (x : List ℕ) (xs : List (List ℕ)) (y : List ℕ) → join_with_byte c (x ∷ (xs ++ y ∷ [])) ≡ join_with_byte c (x ∷ xs) ++ c ∷ y
join_push c x [] y = refl
join_push c x (z ∷ zs) y = ap (λ t. x ++ (c ∷ t)) (join_push c z zs y) ∙ sym (append_assoc x (c ∷ join_with_byte c (z ∷ zs)) (c ∷ y))

-- one more index behind those that are listed
list_more : (space : IndexSpace) (x : ℕ) (rest : List ℕ) (i d : ℕ) → i < length rest
    → index_list space (x ∷ take i rest) ++ 44 ∷ (index_at space (get_or rest i d)).name ≡ index_list space (x ∷ take (i + 1) rest)
list_more space x rest i d l =
    sym (join_push 44 (index_at space x).name (names_of space (take i rest)) (index_at space (get_or rest i d)).name)
    ∙ ap (λ ns. join_with_byte 44 ((index_at space x).name ∷ ns))
    (sym (map-append (λ j. (index_at space j).name) (take i rest) (get_or rest i d ∷ [])) ∙ ap (names_of space) (sym (take_more rest i d l)))

-- a comma and the next name behind the indexes that are listed
pub name_pushed : (space : IndexSpace) (x : ℕ) (rest : List ℕ) (i d : ℕ) (old line comma new : List ℕ) → i < length rest
    → line ≡ old ++ index_list space (x ∷ take i rest) → comma ≡ line ++ 44 ∷ [] → new ≡ comma ++ (index_at space (get_or rest i d)).name
    → new ≡ old ++ index_list space (x ∷ take (i + 1) rest)
name_pushed space x rest i d old line comma new l is_line is_comma is_new =
    is_new
    ∙ ap (λ t. t ++ (index_at space (get_or rest i d)).name) is_comma
    ∙ append_assoc line (44 ∷ []) ((index_at space (get_or rest i d)).name)
    ∙ ap (λ t. t ++ 44 ∷ (index_at space (get_or rest i d)).name) is_line
    ∙ append_assoc old (index_list space (x ∷ take i rest)) (44 ∷ (index_at space (get_or rest i d)).name)
    ∙ ap (λ t. old ++ t) (list_more space x rest i d l)

pub longer_by_one : (line new : List ℕ) (b : ℕ) → new ≡ line ++ b ∷ [] → length new ≡ length line + 1
longer_by_one line new b is = ap length is ∙ length-append line (b ∷ [])
