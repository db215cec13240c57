-- What a piece reads: operands of the whole, and arrays of cut nodes in front of its root.
use Rattle.std.proofs.Common.{◌≡◌, ◌⊎◌, ℕ, ◌+◌, ◌-◌, ◌<◌, ◌≤◌, true, not, eqb, eq-eqb, refl, sym, ap, ◌∙◌, inl, inr, arith}
use Rattle.std.specs.List.{AllByRecursion}
use Rattle.std.proofs.lemmas.Bool.{cases_Bool, and_parts, or_left, or_right, false≢true}
use Rattle.tce_tree.specs.ContractionTree.{ContractionTree, leaf, constant, binary, sum, operations, node}
use Rattle.tce_tree.specs.FlatTree.{first_number_of}
use Rattle.tce_tree.proofs.Nodes.{size_bounds}
use Rattle.tce_spec.specs.Contraction.{has_tensor}
use Rattle.tce_spec.specs.Pieces.{Cuts, stored, unless_cut, rest_of, except, piece}
use Rattle.tce_spec.specs.Specification.{Specification}
use Rattle.tce_spec.specs.Operands.{references}
use Rattle.tce_spec.specs.PieceSpecification.{sources}
use Rattle.tce_spec.proofs.PieceSources.{each_of_once, LeavesAre, references_are, absent_node}

abbrev pub IsReadOf : Specification → Cuts → ℕ → ℕ → Type 0
IsReadOf s cut v t = (has_tensor t s.tree ≡ true) ⊎ ((32 ≤ t) × (t - 32 < v) × (cut (t - 32) ≡ true))

cut_is_read : (s : Specification) (cut : Cuts) (v u : ℕ) → u ≤ v → except cut v u ≡ true → IsReadOf s cut v (stored u)
cut_is_read s cut v u low is_cut =
    let both = and_parts (cut u) (not (eqb u v)) is_cut in
    let number : stored u - 32 ≡ u = omega arith in
    let other : u ≡ v → ⊥ = λ q. false≢true (sym (ap not (eq-eqb u v q)) ∙ both.1) in
    inr (omega arith, omega (arith, low, other), ap cut number ∙ both.0)

unless_read : (s : Specification) (cut : Cuts) (v u : ℕ) (c rest : ContractionTree) → u ≤ v → LeavesAre (λ t is. IsReadOf s cut v t) rest → LeavesAre (λ t is. IsReadOf s cut v t) (unless_cut (except cut v) u c rest)
unless_read s cut v u c rest low more = elim (cases_Bool (except cut v u)) [ inl t ↦ rw t (cut_is_read s cut v u low t) | inr f ↦ rw f more ]

leaves_read : (s : Specification) (cut : Cuts) (v first : ℕ) (c : ContractionTree) → ((t : ℕ) → has_tensor t c ≡ true → has_tensor t s.tree ≡ true) → first + operations c ≤ v + 1
    → LeavesAre (λ t is. IsReadOf s cut v t) (rest_of (except cut v) first c)
leaves_read s cut v first (leaf t is) whole within = inl (whole t (eq-eqb t t refl))
leaves_read s cut v first (constant k) whole within = tt
leaves_read s cut v first (binary op l r) whole within =
    let a = leaves_read s cut v first l (λ t h. whole t (or_left (has_tensor t l) (has_tensor t r) h)) (omega (arith, within)) in
    let b = leaves_read s cut v (first + operations l) r (λ t h. whole t (or_right (has_tensor t l) (has_tensor t r) h)) (omega (arith, within)) in
    unless_read s cut v (first + operations l + operations r) (binary op l r) (binary op (rest_of (except cut v) first l) (rest_of (except cut v) (first + operations l) r)) (omega (arith, within)) (a, b)
leaves_read s cut v first (sum is x) whole within =
    unless_read s cut v (first + operations x) (sum is x) (sum is (rest_of (except cut v) first x)) (omega (arith, within)) (leaves_read s cut v first x whole (omega (arith, within)))

in_whole : (tree : ContractionTree) (v t : ℕ) → v < operations tree → has_tensor t (node tree v) ≡ true → has_tensor t tree ≡ true
in_whole tree v t inside h = elim (cases_Bool (has_tensor t tree)) [ inl is ↦ is | inr none ↦ absurd (false≢true (sym (absent_node t tree v inside none) ∙ h)) ]

pub reads : (s : Specification) (cut : Cuts) (v : ℕ) → v < operations s.tree → AllByRecursion (IsReadOf s cut v) (sources s cut v)
unfolding piece first_number_of
reads s cut v inside =
    let sizes = size_bounds s.tree v inside in
    each_of_once (IsReadOf s cut v) (references (piece s.tree cut v))
    (references_are (λ t is. IsReadOf s cut v t) (IsReadOf s cut v) (λ t is h. h) (piece s.tree cut v)
    (leaves_read s cut v (first_number_of s.tree v) (node s.tree v) (λ t h. in_whole s.tree v t inside h) (omega (arith, sizes))))
