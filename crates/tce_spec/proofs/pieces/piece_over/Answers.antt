use Rattle.std.proofs.Common.{◌≡◌, ℕ, ◌≤◌, true, List, [], ◌∷◌, ◌++◌, length, map, nat_lt, IfOk, sym, ap, ap₂, ◌∙◌, subst, arith}
use Rattle.std.specs.List.{list_all}
use Rattle.tce_space.specs.IndexSet.{has}
use Rattle.tce_tree.specs.Expr.{tree_of}
use Rattle.tce_tree.specs.ContractionTree.{ContractionTree, operations}
use Rattle.tce_tree.specs.WellFormed.{sums_distinct}
use Rattle.tce_spec.specs.Declarations.{Tensor}
use Rattle.tce_spec.specs.Specification.{Specification, ConstantsAreWords}
use Rattle.tce_spec.specs.Operands.{references, each_once}
use Rattle.tce_spec.specs.PieceSpecification.{source, sources, place_in, renumbered, piece_of}
use Rattle.tce_spec.specs.PieceCode.{CanDeclare, target_number}
use Rattle.tce_spec.proofs.PieceRules.{IsPiece, read_below, few_read, can_declare, declared_are, few_nodes, sums_once, words, is_contraction}
use Rattle.tce_spec.proofs.PieceMade.{room_for_target, is_made, contraction_made}
use Rattle.tce_spec.proofs.pieces.piece_over.Goals as goal

pub sources_of-numbers-requires : goal.sources_of-numbers-requires
sources_of-numbers-requires c =
    let s = c.args.spec.now in
    let cut = has c.args.cuts in
    let v = c.args.root in
    let is : IsPiece s cut v = record { rules = c.space-rules.ensures.rules; names = c.requires.names; few = c.requires.few; can = c.requires.cuts } in
    subst (λ (t : ContractionTree). list_all (λ t. nat_lt t 64) (references t) ≡ true) (sym c.requires.rest) (read_below s cut v is)

pub push-requires : goal.push-requires
push-requires c =
    let s = c.args.spec.now in
    let cut = has c.args.cuts in
    let v = c.args.root in
    let is : IsPiece s cut v = record { rules = c.space-rules.ensures.rules; names = c.requires.names; few = c.requires.few; can = c.requires.cuts } in
    let us_is : c.sources_of-numbers.result.items ≡ sources s cut v = c.sources_of-numbers.ensures ∙ ap (λ (t : ContractionTree). each_once (references t)) c.requires.rest in
    (omega arith, room_for_target c.sources_of-numbers.result.items (sources s cut v) us_is (few_read s cut v is))

pub declared-requires : goal.declared-requires
declared-requires c =
    let s = c.args.spec.now in
    let cut = has c.args.cuts in
    let v = c.args.root in
    let is : IsPiece s cut v = record { rules = c.space-rules.ensures.rules; names = c.requires.names; few = c.requires.few; can = c.requires.cuts } in
    let us_is : c.sources_of-numbers.result.items ≡ sources s cut v = c.sources_of-numbers.ensures ∙ ap (λ (t : ContractionTree). each_once (references t)) c.requires.rest in
    let numbers_are : c.as_slice-2.result.now ≡ sources s cut v ++ target_number s v ∷ [] =
    c.as_slice-2.ensures.value ∙ c.push.ensures.items ∙ ap₂ (λ (xs : List ℕ) (t : ℕ). xs ++ t ∷ []) us_is c.target_of.ensures in
    subst (CanDeclare s) (sym numbers_are) (can_declare s cut v is)

pub specified-requires-clause-few : goal.specified-requires-clause-few
specified-requires-clause-few c =
    let s = c.args.spec.now in
    let cut = has c.args.cuts in
    let v = c.args.root in
    let is : IsPiece s cut v = record { rules = c.space-rules.ensures.rules; names = c.requires.names; few = c.requires.few; can = c.requires.cuts } in
    let us_is : c.sources_of-numbers.result.items ≡ sources s cut v = c.sources_of-numbers.ensures ∙ ap (λ (t : ContractionTree). each_once (references t)) c.requires.rest in
    let expr_is : tree_of c.in_ok-expr.expr ≡ (piece_of s cut v).tree =
    c.in_ok-expr.ensures ∙ ap₂ (λ (xs : List ℕ) (t : ContractionTree). renumbered (place_in xs) t) (c.as_slice.ensures.value ∙ us_is) c.requires.rest in
    subst (λ (t : ContractionTree). operations t ≤ 32) (sym expr_is) (few_nodes s cut v is)

pub specified-requires-clause-distinct : goal.specified-requires-clause-distinct
specified-requires-clause-distinct c =
    let s = c.args.spec.now in
    let cut = has c.args.cuts in
    let v = c.args.root in
    let is : IsPiece s cut v = record { rules = c.space-rules.ensures.rules; names = c.requires.names; few = c.requires.few; can = c.requires.cuts } in
    let us_is : c.sources_of-numbers.result.items ≡ sources s cut v = c.sources_of-numbers.ensures ∙ ap (λ (t : ContractionTree). each_once (references t)) c.requires.rest in
    let expr_is : tree_of c.in_ok-expr.expr ≡ (piece_of s cut v).tree =
    c.in_ok-expr.ensures ∙ ap₂ (λ (xs : List ℕ) (t : ContractionTree). renumbered (place_in xs) t) (c.as_slice.ensures.value ∙ us_is) c.requires.rest in
    subst (λ (t : ContractionTree). sums_distinct t ≡ true) (sym expr_is) (sums_once s cut v is)

pub specified-requires-clause-words : goal.specified-requires-clause-words
specified-requires-clause-words c =
    let s = c.args.spec.now in
    let cut = has c.args.cuts in
    let v = c.args.root in
    let is : IsPiece s cut v = record { rules = c.space-rules.ensures.rules; names = c.requires.names; few = c.requires.few; can = c.requires.cuts } in
    let us_is : c.sources_of-numbers.result.items ≡ sources s cut v = c.sources_of-numbers.ensures ∙ ap (λ (t : ContractionTree). each_once (references t)) c.requires.rest in
    let expr_is : tree_of c.in_ok-expr.expr ≡ (piece_of s cut v).tree =
    c.in_ok-expr.ensures ∙ ap₂ (λ (xs : List ℕ) (t : ContractionTree). renumbered (place_in xs) t) (c.as_slice.ensures.value ∙ us_is) c.requires.rest in
    subst ConstantsAreWords (sym expr_is) (words s cut v is)

pub specified-requires-clause-contraction : goal.specified-requires-clause-contraction
specified-requires-clause-contraction c =
    let s = c.args.spec.now in
    let cut = has c.args.cuts in
    let v = c.args.root in
    let is : IsPiece s cut v = record { rules = c.space-rules.ensures.rules; names = c.requires.names; few = c.requires.few; can = c.requires.cuts } in
    let us_is : c.sources_of-numbers.result.items ≡ sources s cut v = c.sources_of-numbers.ensures ∙ ap (λ (t : ContractionTree). each_once (references t)) c.requires.rest in
    let numbers_are : c.as_slice-2.result.now ≡ sources s cut v ++ target_number s v ∷ [] =
    c.as_slice-2.ensures.value ∙ c.push.ensures.items ∙ ap₂ (λ (xs : List ℕ) (t : ℕ). xs ++ t ∷ []) us_is c.target_of.ensures in
    let expr_is : tree_of c.in_ok-expr.expr ≡ (piece_of s cut v).tree =
    c.in_ok-expr.ensures ∙ ap₂ (λ (xs : List ℕ) (t : ContractionTree). renumbered (place_in xs) t) (c.as_slice.ensures.value ∙ us_is) c.requires.rest in
    let count_is : c.len.result ≡ (piece_of s cut v).result = c.len.ensures.value ∙ ap length us_is in
    let declarations_are : c.in-Ok.declarations ≡ (piece_of s cut v).declarations =
    c.in-Ok.ensures ∙ ap (λ (ts : List Tensor). record { space = s.declarations.space; tensors = ts }) (ap (map (source s)) numbers_are ∙ declared_are s cut v is) in
    contraction_made (piece_of s cut v) _ _ _ _ declarations_are count_is c.in_ok-target_indexes.ensures expr_is (is_contraction s cut v is)

pub returns-in-Ok : goal.returns-in-Ok
returns-in-Ok c =
    let s = c.args.spec.now in
    let cut = has c.args.cuts in
    let v = c.args.root in
    let is : IsPiece s cut v = record { rules = c.space-rules.ensures.rules; names = c.requires.names; few = c.requires.few; can = c.requires.cuts } in
    let us_is : c.sources_of-numbers.result.items ≡ sources s cut v = c.sources_of-numbers.ensures ∙ ap (λ (t : ContractionTree). each_once (references t)) c.requires.rest in
    let numbers_are : c.as_slice-2.result.now ≡ sources s cut v ++ target_number s v ∷ [] =
    c.as_slice-2.ensures.value ∙ c.push.ensures.items ∙ ap₂ (λ (xs : List ℕ) (t : ℕ). xs ++ t ∷ []) us_is c.target_of.ensures in
    let expr_is : tree_of c.in_ok-expr.expr ≡ (piece_of s cut v).tree =
    c.in_ok-expr.ensures ∙ ap₂ (λ (xs : List ℕ) (t : ContractionTree). renumbered (place_in xs) t) (c.as_slice.ensures.value ∙ us_is) c.requires.rest in
    let count_is : c.len.result ≡ (piece_of s cut v).result = c.len.ensures.value ∙ ap length us_is in
    let declarations_are : c.in-Ok.declarations ≡ (piece_of s cut v).declarations =
    c.in-Ok.ensures ∙ ap (λ (ts : List Tensor). record { space = s.declarations.space; tensors = ts }) (ap (map (source s)) numbers_are ∙ declared_are s cut v is) in
    subst (λ (p : Specification). IfOk c.specified.result (λ own. own ≡ p)) (is_made (piece_of s cut v) _ _ _ _ declarations_are count_is c.in_ok-target_indexes.ensures expr_is) c.specified.ensures
