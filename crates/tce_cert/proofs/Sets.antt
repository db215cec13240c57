-- Sets of indexes as they are pushed.
use Rattle.std.proofs.Common.{◌≡◌, ℕ, suc, ◌+◌, ◌<◌, ◌≤◌, List, [], ◌∷◌, ◌++◌, length, get_or, take, map, ap, sym, subst, ◌∙◌, append_assoc, arith}
use Rattle.std.specs.List.{join_with_byte, range_with_len, All}
use Rattle.std.proofs.lemmas.List.{map_more}
use Rattle.std.proofs.lemmas.List.Elements.{filter_passes}
use Rattle.tce_space.specs.IndexSet.{has, members}
use Rattle.tce_space.specs.Space.{IndexSpace, IsDeclared}
use Rattle.tce_report.specs.NodeLine.{set_text}
use Rattle.tce_report.proofs.Lists.{join_push}
use Rattle.tce_tree.specs.ContractionTree.{ContractionTree, operations}
use Rattle.tce_tree.specs.WellFormed.{IsDeclaredTree}
use Rattle.tce_tree.proofs.NamedIndexes.{node_dims_declared}
use Rattle.tce_fusion.specs.Row.{Row, rows_at}
use Rattle.tce_nesting.specs.Plan.{RowsFit}
use Rattle.tce_cert.specs.Lines.{classes_text}

pub members_declared : (space : IndexSpace) (set : ℕ) → IsDeclared space set → All (λ i. i < length space.indexes) (members set)
unfolding members
members_declared space set declared k d inside =
    declared (get_or (members set) k d) (filter_passes (has set) (range_with_len 0 24) k d inside)

-- one more class behind those that are listed
classes_more : (space : IndexSpace) (x : ℕ) (rest : List ℕ) (i d : ℕ) → i < length rest
    → classes_text space (x ∷ take i rest) ++ 47 ∷ set_text space (get_or rest i d) ≡ classes_text space (x ∷ take (i + 1) rest)
classes_more space x rest i d inside =
    sym (join_push 47 (set_text space x) (map (set_text space) (take i rest)) (set_text space (get_or rest i d)))
    ∙ ap (λ ts. join_with_byte 47 (set_text space x ∷ ts)) (sym (map_more (set_text space) rest i d inside))

-- a slash and the next class behind the classes that are listed
pub class_pushed : (space : IndexSpace) (x : ℕ) (rest : List ℕ) (i class : ℕ) (old text slash new : List ℕ) → i < length rest → class ≡ get_or rest i class
    → text ≡ old ++ classes_text space (x ∷ take i rest) → slash ≡ text ++ 47 ∷ [] → new ≡ slash ++ set_text space class
    → new ≡ old ++ classes_text space (x ∷ take (i + 1) rest)
class_pushed space x rest i class old text slash new inside is_class is_text is_slash is_new =
    is_new
    ∙ ap (λ t. t ++ set_text space class) is_slash
    ∙ append_assoc text (47 ∷ []) (set_text space class)
    ∙ ap (λ t. t ++ 47 ∷ set_text space class) is_text
    ∙ append_assoc old (classes_text space (x ∷ take i rest)) (47 ∷ set_text space class)
    ∙ ap (λ k. old ++ (classes_text space (x ∷ take i rest) ++ 47 ∷ set_text space k)) is_class
    ∙ ap (λ t. old ++ t) (classes_more space x rest i class inside)

-- what holds of each element of a list holds of those behind the first
pub holds_of_tail : {A : Type 0} (P : A → Type 0) (xs : List A) (y : A) (ys : List A) → xs ≡ y ∷ ys → All P xs → (k : ℕ) (d : A) → k < length ys → P (get_or ys k d)
holds_of_tail P xs y ys is all k d inside = subst (All P) is all (suc k) d (omega arith)

-- the classes of rows that fit have declared indexes alone
pub rows_declared : (space : IndexSpace) (tree : ContractionTree) (tables : List (List Row)) → length space.indexes ≤ 24 → IsDeclaredTree space tree → length tables + 1 ≡ operations tree → RowsFit tree tables
    → (v : ℕ) → v < length tables → All (λ row. All (IsDeclared space) row.classes) (rows_at tables v)
rows_declared space tree tables few declared each fit v inside k d at m e in_classes i member =
    node_dims_declared space tree v (omega arith) few declared i ((fit v inside k d at).classes m e in_classes i member)
