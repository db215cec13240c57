-- The value of the specification of a piece is that of the piece.
use Rattle.std.proofs.Common.{◌≡◌, ℕ, ◌<◌, List, [], ◌∷◌, length, map, get_or, eqb, true, refl, ap, ap₂, ◌∙◌}
use Rattle.std.specs.List.{list_any, AllByRecursion}
use Rattle.tce_base.specs.Word.{word}
use Rattle.tce_tree.specs.ContractionTree.{ContractionTree, leaf, constant, binary, sum}
use Rattle.tce_tree.specs.Value.{Assignment, with_number, Elements, arithmetic, sum_below, sum_over, value}
use Rattle.tce_tree.proofs.Values.{sum_below-same}
use Rattle.tce_spec.specs.Pieces.{Cuts, piece}
use Rattle.tce_spec.proofs.CutValues.{piece_has_value}
use Rattle.tce_spec.specs.Specification.{Specification}
use Rattle.tce_spec.specs.Operands.{references}
use Rattle.tce_spec.specs.PieceSpecification.{sources, place_in, renumbered, piece_of}
use Rattle.tce_spec.specs.PieceLaws.{HaveSources, PieceSpecificationHasValue}
use Rattle.tce_spec.proofs.PieceSources.{place_is, once_has, each_left, each_right}

same_sums : (f g : ℕ → ℕ) (is : List ℕ) (x y : Assignment → ℕ) → ((i : ℕ) → f i ≡ g i) → ((a : Assignment) → x a ≡ y a) → (a : Assignment) → sum_over f is x a ≡ sum_over g is y a
same_sums f g [] x y extents same a = same a
same_sums f g (i ∷ is) x y extents same a =
    ap (λ n. sum_below n (λ k. sum_over f is x (with_number a i k))) (extents i)
    ∙ sum_below-same (g i) (λ k. sum_over f is x (with_number a i k)) (λ k. sum_over g is y (with_number a i k)) (λ k low. same_sums f g is x y extents same (with_number a i k))

renumbered_value : (own files : Elements) (us : List ℕ) → ((i : ℕ) → own.extent i ≡ files.extent i)
    → ((k : ℕ) (coords : List ℕ) → k < length us → own.cell k coords ≡ files.cell (get_or us k 0) coords)
    → (c : ContractionTree) → AllByRecursion (λ t. list_any (eqb t) us ≡ true) (references c) → (a : Assignment) → value own (renumbered (place_in us) c) a ≡ value files c a
renumbered_value own files us extents cells (leaf t is) among a =
    let place = place_is us t among.0 in
    ap word (cells (place_in us t) (map a is) place.inside ∙ ap (λ u. files.cell u (map a is)) (place.holds 0))
renumbered_value own files us extents cells (constant k) among a = refl
renumbered_value own files us extents cells (binary op l r) among a =
    ap₂ (arithmetic op) (renumbered_value own files us extents cells l (each_left _ (references l) (references r) among) a)
    (renumbered_value own files us extents cells r (each_right _ (references l) (references r) among) a)
renumbered_value own files us extents cells (sum is x) among a =
    same_sums own.extent files.extent is (value own (renumbered (place_in us) x)) (value files x) extents (renumbered_value own files us extents cells x among) a

of_piece : (own files : Elements) (s : Specification) (cut : Cuts) (v : ℕ) (a : Assignment) → HaveSources own files s cut v
    → value own (piece_of s cut v).tree a ≡ value files (piece s.tree cut v) a
of_piece own files s cut v a have =
    renumbered_value own files (sources s cut v) have.extents have.cells (piece s.tree cut v) (once_has (references (piece s.tree cut v))) a

pub piece_specification_has_value : PieceSpecificationHasValue
piece_specification_has_value = record {
  of_piece = of_piece;
  of_node = λ own files e s cut v a have named few hold inside extents.
      of_piece own files s cut v a have ∙ piece_has_value files e s.tree cut v a named few hold inside extents;
}
