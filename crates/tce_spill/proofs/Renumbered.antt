-- Other numbers for the tensors of a tree change none of its fusions.
use Rattle.std.proofs.Common.{◌≡◌, ℕ, zero, suc, ◌+◌, ◌-◌, ◌<◌, Bool, not, ◌||◌, ◌&&◌, leb, ltb, List, [], ◌∷◌, ◌++◌, map, get_or, Option, Some, None, refl, sym, ap, ap₂, ◌∙◌, subst, arith}
use Rattle.std.specs.Prelude.{◌⊎◌, IsTrue, IfNone}
use Rattle.std.specs.List.{sum_by, list_all, range_with_len}
use mathlib.Core.Path.{fun_ext}
use Rattle.std.proofs.lemmas.List.{map-append}
use Rattle.tce_space.specs.IndexSet.{has, IsWithin, union, minus, set_of}
use Rattle.tce_space.specs.Space.{IndexSpace, volume_of}
use Rattle.tce_tree.specs.ContractionTree.{ContractionTree, leaf, constant, binary, sum, dims, loops, operations, nodes, node, node_dims, node_loops, in_subtree}
use Rattle.tce_tree.specs.Fusion.{fused_at, kept_dims, FusionFits}
use Rattle.tce_tree.specs.Memory.{size_at, size_before, memory}
use Rattle.tce_fusion.specs.Scope.{differ, on_path, scope, IsSubset, AreDisjoint, IsLegal}
use Rattle.tce_spec.specs.Pieces.{Cuts, piece}
use Rattle.tce_nesting.specs.declared.plan.Plan.{Plan}
use Rattle.tce_search.specs.LeastPlan.{IsLeastPlan, IsExceeded}
use Rattle.tce_spec.specs.Specification.{Specification}
use Rattle.tce_spec.specs.PieceSpecification.{renumbered, sources, place_in, piece_of}
use Rattle.tce_spill.specs.Laws.{HaveSameFusions}
use Rattle.tce_spill.specs.Planned.{IsAbove}
use Rattle.tce_spill.specs.CutRefusals.{HasLeastMemory}

-- ---- trees whose nodes have the same indexes

record AreAlike (a b : ContractionTree) : Type 0 where
  count : operations a ≡ operations b
  dims_are : node_dims a ≡ node_dims b
  loops_are : node_loops a ≡ node_loops b
  subtrees : in_subtree a ≡ in_subtree b

swapped : (a b : ContractionTree) → AreAlike a b → AreAlike b a
swapped a b h = record { count = sym h.count; dims_are = sym h.dims_are; loops_are = sym h.loops_are; subtrees = sym h.subtrees }

fits_too : (a b : ContractionTree) (fusion : List ℕ) → AreAlike a b → FusionFits a fusion → FusionFits b fusion
fits_too a b fusion h fits = record {
  each = fits.each ∙ h.count;
  within = λ v v_in. subst (λ d. IsWithin (fused_at fusion v) d) (ap (λ (f : ℕ → ℕ). f v) h.dims_are) (fits.within v (omega (arith, h.count, v_in)));
  root = ap (λ n. fused_at fusion (n - 1)) (sym h.count) ∙ fits.root;
}

same_scope : (a b : ContractionTree) (fusion : List ℕ) → AreAlike a b → scope a fusion ≡ scope b fusion
unfolding scope on_path
same_scope a b fusion h =
    let scopes : (ℕ → ℕ → Bool) → ℕ → ℕ → ℕ → ℕ → Bool =
    λ below n i v w. list_all (λ u. not (differ (below u v) (below u w)) || has (fused_at fusion u) i) (range_with_len 0 (n - 1)) in
    ap₂ scopes h.subtrees h.count

-- legality by the number of nodes, their loops and the scopes
abbrev IsLegalFor : ℕ → (ℕ → ℕ) → (ℕ → ℕ → ℕ → Bool) → Type 0
IsLegalFor count loops scopes =
    (v w i j : ℕ) → v < count → w < count → IsTrue (has (loops v) i) → IsTrue (has (loops w) j)
    → AreDisjoint count (scopes i v) (scopes j w) ⊎ (IsSubset count (scopes i v) (scopes j w) ⊎ IsSubset count (scopes j w) (scopes i v))

legal_too : (a b : ContractionTree) (fusion : List ℕ) → AreAlike a b → IsLegal a fusion → IsLegal b fusion
legal_too a b fusion h legal =
    subst (λ n. IsLegalFor n (node_loops b) (scope b fusion)) h.count
    (subst (λ l. IsLegalFor (operations a) l (scope b fusion)) h.loops_are
    (subst (λ s. IsLegalFor (operations a) (node_loops a) s) (same_scope a b fusion h) legal))

same_memory : (space : IndexSpace) (a b : ContractionTree) (fusion : List ℕ) → AreAlike a b → memory space a fusion ≡ memory space b fusion
unfolding memory size_before size_at kept_dims
same_memory space a b fusion h =
    let words : (ℕ → ℕ) → ℕ → ℕ = λ d n. sum_by (λ v. volume_of space (minus (d v) (fused_at fusion v))) (range_with_len 0 (n - 1)) in
    ap₂ words h.dims_are h.count

-- ---- renumbered trees

module _ (number : ℕ → ℕ) where
  abbrev other : ContractionTree → ContractionTree
  other = renumbered number

  same_count : (tree : ContractionTree) → operations (other tree) ≡ operations tree
  same_count (leaf tensor indexes) = refl
  same_count (constant n) = refl
  same_count (binary op left right) = ap₂ (λ a b. a + b + 1) (same_count left) (same_count right)
  same_count (sum indexes operand) = ap (λ a. a + 1) (same_count operand)

  same_dims : (tree : ContractionTree) → dims (other tree) ≡ dims tree
  same_dims (leaf tensor indexes) = refl
  same_dims (constant n) = refl
  same_dims (binary op left right) = ap₂ union (same_dims left) (same_dims right)
  same_dims (sum indexes operand) = ap (λ d. minus d (set_of indexes)) (same_dims operand)

  same_loops : (tree : ContractionTree) → loops (other tree) ≡ loops tree
  same_loops (leaf tensor indexes) = refl
  same_loops (constant n) = refl
  same_loops (binary op left right) = ap₂ union (same_dims left) (same_dims right)
  same_loops (sum indexes operand) = same_dims operand

  other_nodes : (tree : ContractionTree) → nodes (other tree) ≡ map other (nodes tree)
  other_nodes (leaf tensor indexes) = refl
  other_nodes (constant n) = refl
  other_nodes (binary op left right) =
      ap₂ (λ xs ys. xs ++ (ys ++ other (binary op left right) ∷ [])) (other_nodes left) (other_nodes right)
      ∙ ap (λ ys. map other (nodes left) ++ ys) (sym (map-append other (nodes right) (binary op left right ∷ [])))
      ∙ sym (map-append other (nodes left) (nodes right ++ binary op left right ∷ []))
  other_nodes (sum indexes operand) =
      ap (λ xs. xs ++ other (sum indexes operand) ∷ []) (other_nodes operand) ∙ sym (map-append other (nodes operand) (sum indexes operand ∷ []))

  get_or_other : (trees : List ContractionTree) (v : ℕ) (past : ContractionTree) → get_or (map other trees) v (other past) ≡ other (get_or trees v past)
  get_or_other [] v past = refl
  get_or_other (t ∷ trees) zero past = refl
  get_or_other (t ∷ trees) (suc v) past = get_or_other trees v past

  other_node : (tree : ContractionTree) (v : ℕ) → node (other tree) v ≡ other (node tree v)
  unfolding node
  other_node tree v = ap (λ xs. get_or xs v (other tree)) (other_nodes tree) ∙ get_or_other (nodes tree) v tree

  alike : (tree : ContractionTree) → AreAlike (other tree) tree
  unfolding node_dims node_loops in_subtree
  alike tree = record {
    count = same_count tree;
    dims_are = fun_ext (λ v. ap dims (other_node tree v) ∙ same_dims (node tree v));
    loops_are = fun_ext (λ v. ap loops (other_node tree v) ∙ same_loops (node tree v));
    subtrees = fun_ext (λ u. fun_ext (λ v. ap (λ n. leb v u && ltb u (v + n)) (ap operations (other_node tree u) ∙ same_count (node tree u))));
  }

  pub same_fusions : (space : IndexSpace) (tree : ContractionTree) → HaveSameFusions space (renumbered number tree) tree
  same_fusions space tree =
      let there = alike tree in
      let back = swapped (other tree) tree there in
      record {
        fits = λ fusion. (fits_too (other tree) tree fusion there, fits_too tree (other tree) fusion back);
        legal = λ fusion. (legal_too (other tree) tree fusion there, legal_too tree (other tree) fusion back);
        memory_is = λ fusion. same_memory space (other tree) tree fusion there;
      }

pub renumbered_is_alike : (space : IndexSpace) (tree : ContractionTree) (number : ℕ → ℕ) → HaveSameFusions space (renumbered number tree) tree
renumbered_is_alike space tree number = same_fusions number space tree

-- trees with the same fusions have the same least memory
pub least_too : (space : IndexSpace) (a b : ContractionTree) (n : ℕ) → HaveSameFusions space a b → HasLeastMemory space a n → HasLeastMemory space b n
least_too space a b n h least = record {
  fusion = least.fusion;
  is_least = record {
    fits = (h.fits least.fusion).0 least.is_least.fits;
    legal = (h.legal least.fusion).0 least.is_least.legal;
    least = λ other fits legal.
        let low = least.is_least.least other ((h.fits other).1 fits) ((h.legal other).1 legal) in
        omega (arith, low, h.memory_is least.fusion, h.memory_is other);
  };
  memory_is = sym (h.memory_is least.fusion) ∙ least.memory_is;
}

-- a least plan of the specification of a piece has the least memory of the piece
pub plan_is_least : (s : Specification) (cut : Cuts) (v : ℕ) (plan : Plan) → IsLeastPlan (piece_of s cut v).declarations.space (piece_of s cut v).tree plan
    → HasLeastMemory s.declarations.space (piece s.tree cut v) plan.memory
plan_is_least s cut v plan least =
    least_too s.declarations.space (renumbered (place_in (sources s cut v)) (piece s.tree cut v)) (piece s.tree cut v) plan.memory
    (renumbered_is_alike s.declarations.space (piece s.tree cut v) (place_in (sources s cut v)))
    (record { fusion = plan.fusion.0.items; is_least = least.least; memory_is = sym least.memory_is })

-- where each fusion of that specification takes more than a limit, each of the piece does
pub piece_is_above : (s p : Specification) (cut : Cuts) (v limit : ℕ) (found : Option Plan) → p ≡ piece_of s cut v → IfNone found (IsExceeded p.declarations.space p.tree limit)
    → IfNone found (IsAbove s cut v limit)
piece_is_above s p cut v limit (Some plan) is more = tt
piece_is_above s p cut v limit None is more = λ f.
    let alike = renumbered_is_alike s.declarations.space (piece s.tree cut v) (place_in (sources s cut v)) in
    let high : IsExceeded s.declarations.space (renumbered (place_in (sources s cut v)) (piece s.tree cut v)) limit =
    subst (λ (q : Specification). IsExceeded q.declarations.space q.tree limit) is more in
    let above = high f.fusion ((alike.fits f.fusion).1 f.fits) ((alike.legal f.fusion).1 f.legal) in
    omega (arith, above, alike.memory_is f.fusion, f.cheap)
