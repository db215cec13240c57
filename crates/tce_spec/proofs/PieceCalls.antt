-- What the calls for a piece rest on.
use Rattle.std.proofs.Common.{◌≡◌, ℕ, ◌+◌, ◌-◌, ◌<◌, ◌≤◌, ◌^◌, List, sym, ap, ap₂, ◌∙◌, subst, arith}
use Rattle.std.specs.Prelude.{min}
use Rattle.tce_tree.specs.ContractionTree.{ContractionTree, operations, node}
use Rattle.tce_tree.specs.FlatTree.{first_number_of}
use Rattle.tce_tree.proofs.Nodes.{size_bounds}
use Rattle.tce_space.specs.Space.{IndexSpace}
use Rattle.tce_spec.specs.Declarations.{Tensor, IsTensor}
use Rattle.tce_spec.specs.Pieces.{Cuts, except, piece, rest_of}

pub is_node : (e tree part : ContractionTree) (w v : ℕ) → part ≡ node e w → e ≡ tree → w ≡ v → part ≡ node tree v
is_node e tree part w v p q r = p ∙ ap₂ node q r

-- how many nodes stand in a node
pub node_size : (tree c : ContractionTree) (v n : ℕ) → v < operations tree → operations tree ≤ 32 → c ≡ node tree v → n ≡ min (operations c) (2 ^ 64 - 1)
    → (n ≡ operations c) × ((0 < n) × ((n ≤ v + 1) × (n ≤ 32)))
node_size tree c v n inside few is count =
    let sizes = size_bounds tree v inside in
    let same = ap operations is in
    let number : n ≡ operations c = omega (arith, count, sizes, same, inside, few) in
    (number, (omega (arith, number, sizes, same), (omega (arith, number, sizes, same), omega (arith, number, sizes, same, inside, few))))

-- a piece is what is left of its node
pub piece_is : (tree part : ContractionTree) (cut : Cuts) (v first : ℕ) → part ≡ node tree v → first ≡ v + 1 - operations part → rest_of (except cut v) first part ≡ piece tree cut v
unfolding piece first_number_of
piece_is tree part cut v first is number = ap₂ (rest_of (except cut v)) (number ∙ ap (λ (c : ContractionTree). v + 1 - operations c) is) is

pub tensor_is : (t : Tensor) (name ranges : List ℕ) → name ≡ t.name → ranges ≡ t.ranges → record { name = name; ranges = ranges } ≡ t
tensor_is t name ranges a b = λ i. record { name = a i; ranges = b i }

pub tensor_fits : (space own : IndexSpace) (t u : Tensor) → own ≡ space → t ≡ u → IsTensor space u → IsTensor own t
tensor_fits space own t u p q h = subst (λ x. IsTensor x t) (sym p) (subst (IsTensor space) (sym q) h)
