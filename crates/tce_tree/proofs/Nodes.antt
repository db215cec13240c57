-- Nodes in postorder: where a node of an operand stands in the whole tree, and subtrees as intervals of numbers.
use Rattle.std.proofs.Common.{◌≡◌, ℕ, zero, suc, ◌+◌, ◌-◌, ◌<◌, ◌≤◌, List, [], ◌∷◌, ◌++◌, length, get_or, refl, sym, ap, ◌∙◌, inl, inr, arith, length-append, append_assoc, false, true}
use Rattle.std.proofs.lemmas.List.{get_or_append_left, get_or-append_right, get_or_default}
use Rattle.std.proofs.lemmas.Bool.{cases_lt, false≢true, true≢false}
use Rattle.tce_tree.specs.ContractionTree.{ContractionTree, Arithmetic, leaf, constant, binary, sum, operations, nodes, node, is_leaf}

pub length-nodes : (tree : ContractionTree) → length (nodes tree) ≡ operations tree
length-nodes (leaf t is) = refl
length-nodes (constant n) = refl
length-nodes (binary op l r) =
    omega (arith, length-append (nodes l) (nodes r ++ binary op l r ∷ []), length-append (nodes r) (binary op l r ∷ []), length-nodes l, length-nodes r)
length-nodes (sum is e) = omega (arith, length-append (nodes e) (sum is e ∷ []), length-nodes e)

pub node-left : (op : Arithmetic) (l r : ContractionTree) (v : ℕ) → v < operations l → node (binary op l r) v ≡ node l v
unfolding node
node-left op l r v h =
    let m : v < length (nodes l) = omega (arith, length-nodes l) in
    get_or_append_left (nodes l) (nodes r ++ binary op l r ∷ []) (binary op l r) v m ∙ get_or_default (nodes l) v (binary op l r) l m

pub node-right : (op : Arithmetic) (l r : ContractionTree) (v : ℕ) → v < operations r → node (binary op l r) (operations l + v) ≡ node r v
unfolding node
node-right op l r v h =
    let m : v < length (nodes r) = omega (arith, length-nodes r) in
    get_or-append_right (nodes l) (nodes r ++ binary op l r ∷ []) (operations l) (operations l + v) (binary op l r) (length-nodes l) (omega arith)
    ∙ ap (λ k. get_or (nodes r ++ binary op l r ∷ []) k (binary op l r)) back
    ∙ get_or_append_left (nodes r) (binary op l r ∷ []) (binary op l r) v m ∙ get_or_default (nodes r) v (binary op l r) r m
  where
    back : operations l + v - operations l ≡ v
    back = omega arith

pub node-right_at : (op : Arithmetic) (l r : ContractionTree) (v : ℕ) → operations l ≤ v → v < operations l + operations r → node (binary op l r) v ≡ node r (v - operations l)
node-right_at op l r v g h = ap (λ k. node (binary op l r) k) split ∙ node-right op l r (v - operations l) (omega arith)
  where
    split : v ≡ operations l + (v - operations l)
    split = omega arith

pub node-operand : (is : List ℕ) (e : ContractionTree) (v : ℕ) → v < operations e → node (sum is e) v ≡ node e v
unfolding node
node-operand is e v h =
    let m : v < length (nodes e) = omega (arith, length-nodes e) in
    get_or_append_left (nodes e) (sum is e ∷ []) (sum is e) v m ∙ get_or_default (nodes e) v (sum is e) e m

-- the last node is the whole tree, and so is what stands for a number past the nodes
last_or_past : {A : Type 0} (xs : List A) (d : A) (v : ℕ) → length xs ≤ v → get_or (xs ++ d ∷ []) v d ≡ d
last_or_past xs d v h =
    get_or-append_right xs (d ∷ []) (length xs) v d refl h ∙ one_or_past (v - length xs)
  where
    one_or_past : (k : ℕ) → get_or (d ∷ []) k d ≡ d
    one_or_past zero = refl
    one_or_past (suc k) = refl

pub node-root : (tree : ContractionTree) (v : ℕ) → operations tree ≤ v + 1 → node tree v ≡ tree
unfolding node
node-root (leaf t is) v h = refl
node-root (constant n) v h = refl
node-root (binary op l r) v h =
    ap (λ xs. get_or xs v (binary op l r)) (sym (append_assoc (nodes l) (nodes r) (binary op l r ∷ [])))
    ∙ last_or_past (nodes l ++ nodes r) (binary op l r) v (omega (arith, length-append (nodes l) (nodes r), length-nodes l, length-nodes r))
node-root (sum is e) v h = last_or_past (nodes e) (sum is e) v (omega (arith, length-nodes e))

-- how many nodes the subtree of node `v` has
abbrev pub size : ContractionTree → ℕ → ℕ
size tree v = operations (node tree v)

pub size-left : (op : Arithmetic) (l r : ContractionTree) (v : ℕ) → v < operations l → size (binary op l r) v ≡ size l v
size-left op l r v h = ap operations (node-left op l r v h)

pub size-right : (op : Arithmetic) (l r : ContractionTree) (v : ℕ) → operations l ≤ v → v < operations l + operations r → size (binary op l r) v ≡ size r (v - operations l)
size-right op l r v g h =
    ap (λ k. size (binary op l r) k) split ∙ ap operations (node-right op l r (v - operations l) (omega arith))
  where
    split : v ≡ operations l + (v - operations l)
    split = omega arith

pub size-operand : (is : List ℕ) (e : ContractionTree) (v : ℕ) → v < operations e → size (sum is e) v ≡ size e v
size-operand is e v h = ap operations (node-operand is e v h)

pub size-root : (tree : ContractionTree) (v : ℕ) → operations tree ≤ v + 1 → size tree v ≡ operations tree
size-root tree v h = ap operations (node-root tree v h)

-- where a number stands in a product
pub data Part (l r : ContractionTree) (v : ℕ) : Type 0 where
  in_left : v < operations l → Part l r v
  in_right : operations l ≤ v → v < operations l + operations r → Part l r v
  at_root : v ≡ operations l + operations r → Part l r v

pub part : (l r : ContractionTree) (v : ℕ) → v < operations l + operations r + 1 → Part l r v
part l r v h =
    elim (cases_lt v (operations l)) [
      | inl a ↦ in_left a
      | inr a ↦ elim (cases_lt v (operations l + operations r)) [ inl b ↦ in_right a b | inr b ↦ at_root (omega arith) ]
    ]

-- a subtree has its node, and fits below it
pub size_bounds : (tree : ContractionTree) (v : ℕ) → v < operations tree → (0 < size tree v) × (size tree v ≤ v + 1)
size_bounds (leaf t is) v h = absurd (omega arith)
size_bounds (constant n) v h = absurd (omega arith)
size_bounds (binary op l r) v h =
    elim (part l r v h) [
      | in_left a ↦ rw (size-left op l r v a) (size_bounds l v a)
      | in_right a b ↦ rw (size-right op l r v a b) (omega (arith, size_bounds r (v - operations l) (omega arith)))
      | at_root e ↦ rw (size-root (binary op l r) v (omega arith)) (omega arith)
    ]
size_bounds (sum is e) v h =
    elim (cases_lt v (operations e)) [
      | inl a ↦ rw (size-operand is e v a) (size_bounds e v a)
      | inr a ↦ rw (size-root (sum is e) v (omega arith)) (omega arith)
    ]

-- the subtree of a node in the subtree of `w` begins no earlier
pub size_nested : (tree : ContractionTree) (u w : ℕ) → u ≤ w → w < operations tree → w < u + size tree w → w + size tree u ≤ u + size tree w
size_nested (leaf t is) u w le h s = absurd (omega arith)
size_nested (constant n) u w le h s = absurd (omega arith)
size_nested (binary op l r) u w le h s =
    elim (part l r w h) [
      | in_left a ↦
          let p = size-left op l r w a in
          let q = size-left op l r u (omega arith) in
          omega (arith, p, q, size_nested l u w le a (omega (arith, p)))
      | in_right a b ↦
          let p = size-right op l r w a b in
          let room = size_bounds r (w - operations l) (omega arith) in
          let c : operations l ≤ u = omega (arith, p, room) in
          let q = size-right op l r u c (omega arith) in
          omega (arith, p, q, size_nested r (u - operations l) (w - operations l) (omega arith) (omega arith) (omega (arith, p)))
      | at_root e ↦
          omega (arith, size-root (binary op l r) w (omega arith), size_bounds (binary op l r) u (omega arith))
    ]
size_nested (sum is e) u w le h s =
    elim (cases_lt w (operations e)) [
      | inl a ↦
          let p = size-operand is e w a in
          let q = size-operand is e u (omega arith) in
          omega (arith, p, q, size_nested e u w le a (omega (arith, p)))
      | inr a ↦
          omega (arith, size-root (sum is e) w (omega arith), size_bounds (sum is e) u (omega arith))
    ]

pub node_of_some : (t : ContractionTree) → 0 < operations t → is_leaf t ≡ false
node_of_some (leaf tensor indexes) h = absurd (omega arith)
node_of_some (constant number) h = absurd (omega arith)
node_of_some (binary op l r) h = refl
node_of_some (sum indexes e) h = refl

pub operations-leaf : (t : ContractionTree) → is_leaf t ≡ true → operations t ≡ 0
operations-leaf (leaf tensor indexes) h = refl
operations-leaf (constant number) h = refl
operations-leaf (binary op l r) h = absurd (false≢true h)
operations-leaf (sum indexes e) h = absurd (false≢true h)

pub node-positive : (tree : ContractionTree) → is_leaf tree ≡ false → 0 < operations tree
node-positive (leaf tensor indexes) h = absurd (true≢false h)
node-positive (constant number) h = absurd (true≢false h)
node-positive (binary op left right) h = omega arith
node-positive (sum indexes operand) h = omega arith
