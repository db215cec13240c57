-- Parts of a tree, as the program goes through them.
use Rattle.std.proofs.Common.{◌≡◌, ℕ, ◌+◌, ◌-◌, ◌<◌, ◌≤◌, true, false, cond, List, length, take, sym, ap, ap₂, ◌∙◌, subst, arith}
use Rattle.std.specs.Prelude.{codes}
use Rattle.std.specs.Fmt.{decimal}
use Rattle.std.proofs.lemmas.Fmt.{length-decimal-le}
use Rattle.std.proofs.lemmas.List.{length-take}
use Rattle.tce_space.specs.IndexSet.{members, count}
use Rattle.tce_tree.specs.ContractionTree.{ContractionTree, Arithmetic, leaf, constant, binary, sum, operations, node}
use Rattle.tce_tree.specs.FlatTree.{first_number_of}
use Rattle.tce_tree.proofs.Nodes.{node-root, node-right_at, size_bounds}
use Rattle.tce_tree.proofs.Operands.{Stands, stands-node, stands-left, stands-right, stands-operand}
use Rattle.tce_spec.specs.Pieces.{Cuts, reference_to, unless_cut, rest_of}
use Rattle.tce_spec.specs.PieceSpecification.{renumbered}
use Rattle.tce_spec.specs.PieceCode.{StandsAt, with_operands}

parts_stand : (tree : ContractionTree) (first : ℕ) (c : ContractionTree) → Stands tree first c → StandsAt tree first c
parts_stand tree first (leaf t is) st = tt
parts_stand tree first (constant k) st = tt
parts_stand tree first (binary op l r) st =
    let last : first + operations l + operations r ≡ first + (operations l + operations r) = omega arith in (
      ap (node tree) last ∙ st.same (operations l + operations r) (omega arith) ∙ node-root (binary op l r) (operations l + operations r) (omega arith),
      (parts_stand tree first l (stands-left tree first op l r st), parts_stand tree (first + operations l) r (stands-right tree first op l r st)),
    )
parts_stand tree first (sum is x) st =
    (st.same (operations x) (omega arith) ∙ node-root (sum is x) (operations x) (omega arith), parts_stand tree first x (stands-operand tree first is x st))

pub node_stands : (tree c : ContractionTree) (v first : ℕ) → v < operations tree → c ≡ node tree v → first + operations c ≡ v + 1 → StandsAt tree first c
unfolding first_number_of
node_stands tree c v first inside is number =
    let sizes = size_bounds tree v inside in
    let count = ap operations is in
    let same : first_number_of tree v ≡ first = omega (arith, count, sizes, number) in
    subst (λ t. StandsAt tree first t) (sym is) (subst (λ k. StandsAt tree k (node tree v)) same (parts_stand tree (first_number_of tree v) (node tree v) (stands-node tree v inside)))

-- the last node of a part
pub last_node : (tree : ContractionTree) (first : ℕ) (c : ContractionTree) (v : ℕ) → StandsAt tree first c → 0 < operations c → v + 1 ≡ first + operations c → node tree v ≡ c
last_node tree first (leaf t is) v st some number = absurd (omega arith)
last_node tree first (constant k) v st some number = absurd (omega arith)
last_node tree first (binary op l r) v st some number = let last : v ≡ first + operations l + operations r = omega arith in ap (node tree) last ∙ st.0
last_node tree first (sum is x) v st some number = let last : v ≡ first + operations x = omega arith in ap (node tree) last ∙ st.0

unless_true : (cut : Cuts) (u v : ℕ) (c rest : ContractionTree) → u ≡ v → cut v ≡ true → unless_cut cut u c rest ≡ reference_to v c
unless_true cut u v c rest same t = ap (λ k. unless_cut cut k c rest) same ∙ ap (λ b. cond b (reference_to v c) rest) t

unless_false : (cut : Cuts) (u v : ℕ) (c rest : ContractionTree) → u ≡ v → cut v ≡ false → unless_cut cut u c rest ≡ rest
unless_false cut u v c rest same f = ap (λ k. unless_cut cut k c rest) same ∙ ap (λ b. cond b (reference_to v c) rest) f

-- what is left where the last node of a part is cut
pub rest_cut : (cut : Cuts) (first : ℕ) (c : ContractionTree) (v : ℕ) → v + 1 ≡ first + operations c → 0 < operations c → cut v ≡ true → rest_of cut first c ≡ reference_to v c
rest_cut cut first (leaf t is) v number some h = absurd (omega arith)
rest_cut cut first (constant k) v number some h = absurd (omega arith)
rest_cut cut first (binary op l r) v number some h =
    unless_true cut (first + operations l + operations r) v (binary op l r) (binary op (rest_of cut first l) (rest_of cut (first + operations l) r)) (omega arith) h
rest_cut cut first (sum is x) v number some h = unless_true cut (first + operations x) v (sum is x) (sum is (rest_of cut first x)) (omega arith) h

-- and where it is not
pub rest_binary : (cut : Cuts) (first k : ℕ) (op : Arithmetic) (l r : ContractionTree) (v : ℕ) → v + 1 ≡ first + (operations l + operations r + 1) → k ≡ first + operations l → cut v ≡ false
    → rest_of cut first (binary op l r) ≡ binary op (rest_of cut first l) (rest_of cut k r)
rest_binary cut first k op l r v number behind h =
    unless_false cut (first + operations l + operations r) v (binary op l r) (binary op (rest_of cut first l) (rest_of cut (first + operations l) r)) (omega arith) h
    ∙ ap (λ n. binary op (rest_of cut first l) (rest_of cut n r)) (sym behind)

pub rest_sum : (cut : Cuts) (first : ℕ) (is : List ℕ) (x : ContractionTree) (v : ℕ) → v + 1 ≡ first + (operations x + 1) → cut v ≡ false
    → rest_of cut first (sum is x) ≡ sum is (rest_of cut first x)
rest_sum cut first is x v number h = unless_false cut (first + operations x) v (sum is x) (sum is (rest_of cut first x)) (omega arith) h

-- a node whose operands are as they are left, or renumbered
pub rest_operands : (cut : Cuts) (first k : ℕ) (op : Arithmetic) (own c l r left right : ContractionTree) (v : ℕ) → own ≡ with_operands c left right → c ≡ binary op l r
    → left ≡ rest_of cut first l → right ≡ rest_of cut k r → v + 1 ≡ first + (operations l + operations r + 1) → k ≡ first + operations l → cut v ≡ false → own ≡ rest_of cut first c
rest_operands cut first k op own c l r left right v made is left_is right_is number behind h =
    made ∙ ap (λ t. with_operands t left right) is ∙ ap₂ (binary op) left_is right_is ∙ sym (ap (rest_of cut first) is ∙ rest_binary cut first k op l r v number behind h)

pub renumbered_operands : (place : ℕ → ℕ) (op : Arithmetic) (own c l r left right : ContractionTree) → own ≡ with_operands c left right → c ≡ binary op l r
    → left ≡ renumbered place l → right ≡ renumbered place r → own ≡ renumbered place c
renumbered_operands place op own c l r left right made is left_is right_is =
    made ∙ ap (λ t. with_operands t left right) is ∙ ap₂ (binary op) left_is right_is ∙ sym (ap (renumbered place) is)

-- nodes of parts
pub in_right : (op : Arithmetic) (l r : ContractionTree) (v k : ℕ) → operations l ≤ v → v < operations l + operations r → k ≡ v - operations l → node (binary op l r) v ≡ node r k
in_right op l r v k low high is = node-right_at op l r v low high ∙ ap (node r) (sym is)

-- room for a further index
pub rank_room : (xs all : List ℕ) (k set : ℕ) → xs ≡ take k (members set) → k < length all → all ≡ members set → count set ≤ 8 → length xs < 8
unfolding count
rank_room xs all k set so_far inside is rank = omega (arith, ap length so_far, length-take k (members set), ap length is, inside, rank)

-- room for the number of a node
pub name_room : (before digits : List ℕ) (v : ℕ) → v < 32 → before ≡ codes "spill-" → digits ≡ decimal v → length before + length digits ≤ 16
name_room before digits v low is_before is_digits =
    let few : length (decimal v) ≤ 2 = length-decimal-le 2 v (omega arith) (omega (arith, low)) (omega (arith, low)) in
    let six : length before ≡ 6 = ap length is_before in
    omega (arith, few, six, ap length is_digits)
