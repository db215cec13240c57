-- What the value of a node is the sum of, and the terms that add up to it.
use Rattle.std.proofs.Common.{◌≡◌, ℕ, ◌+◌, ◌-◌, ◌*◌, ◌%◌, ◌^◌, ◌<◌, ◌≤◌, Some, List, [], ◌∷◌, ◌++◌, length, take, get_or, refl, sym, ap, ap₂, ◌∙◌, subst, arith, mod-lt, lit<}
use Rattle.std.proofs.Math.Nat.{mul_assoc, mul-add, add-mod-mod, mod-add-mod, add-mul-mod_self_left}
use Rattle.std.proofs.lemmas.Nat.{mul-mod_first, mul-mod_second}
use Rattle.std.proofs.lemmas.List.{take_more, take_all}
use Rattle.std.proofs.lemmas.List.Sums.{fold-append}
use Rattle.std.specs.List.{fold}
use Rattle.tce_base.proofs.Words.{plus_comm, plus_assoc, plus-zero, zero-plus, plus-lt, times_comm}
use Rattle.tce_base.specs.Word.{word, wrapping_add, wrapping_sub, wrapping_mul}
use Rattle.tce_tree.proofs.Nodes.{size_bounds}
use Rattle.tce_tree.proofs.Operands.{operand_number}
use Rattle.tce_tree.proofs.Values.{value-lt}
use Rattle.tce_tree.specs.ContractionTree.{Arithmetic, ContractionTree, leaf, constant, binary, sum, multiply, add, subtract, operations, node, left_tree, right_tree}
use Rattle.tce_tree.specs.FlatTree.{operand_of, left_operand, right_operand, left_of, right_of, first_number_of, kind_of}
use Rattle.tce_tree.specs.Value.{Assignment, Elements, sum_over, value}
use Rattle.tce_tree.specs.declared.node.Kind.TheVariants.{Product as ProductKind, Sum as SumKind, Add as AddKind, Sub as SubKind}
use Rattle.tce_tree.specs.declared.node.Operand.TheVariants.{Constant as ConstantOperand, Node as NodeOperand}
use Rattle.tce_walk.proofs.LeftValues.{left_stands, right_stands}
use Rattle.tce_walk.specs.FoundTerms.{AddsTimes, AddUpTo, AddUpToValue, AreSummed, IsInserted, summand_value, total}
use Rattle.tce_walk.specs.Terms.{operand_tree, with_term, term_sum}
use Rattle.tce_walk.specs.declared.summands.Summand.{Summand}
use Rattle.tce_walk.specs.declared.terms.Term.{Term}
use Rattle.tce_walk.specs.declared.terms.TermOperand.{TermOperand}

-- ---- products of words

times_inside : (x y z : ℕ) → wrapping_mul x (wrapping_mul y z) ≡ wrapping_mul (wrapping_mul x y) z
unfolding wrapping_mul
times_inside x y z = mul-mod_second x (y * z) (2 ^ 64) ∙ ap (λ n. n % 2 ^ 64) (sym (mul_assoc x y z)) ∙ sym (mul-mod_first (x * y) z (2 ^ 64))

pub times_zero : (x : ℕ) → wrapping_mul x 0 ≡ 0
unfolding wrapping_mul
times_zero x = omega arith

pub one_times : (x : ℕ) → x < 2 ^ 64 → wrapping_mul 1 x ≡ x
unfolding wrapping_mul
one_times x h = omega arith

pub times_is : (x y : ℕ) → x * y % 2 ^ 64 ≡ wrapping_mul x y
unfolding wrapping_mul
times_is x y = refl

pub minus_is : (x : ℕ) → (0 + (2 ^ 64 - x)) % 2 ^ 64 ≡ wrapping_sub 0 x
unfolding wrapping_sub
minus_is x = refl

times_word : (x n : ℕ) → wrapping_mul x (word n) ≡ wrapping_mul x n
unfolding wrapping_mul word
times_word x n = mul-mod_second x n (2 ^ 64)

times_sum : (x y z : ℕ) → wrapping_mul x (wrapping_add y z) ≡ wrapping_add (wrapping_mul x y) (wrapping_mul x z)
unfolding wrapping_mul wrapping_add
times_sum x y z =
    mul-mod_second x (y + z) (2 ^ 64) ∙ ap (λ n. n % 2 ^ 64) (mul-add x y z)
    ∙ sym (mod-add-mod (x * y) (2 ^ 64) (x * z % 2 ^ 64) ∙ add-mod-mod (x * y) (x * z) (2 ^ 64))

-- a factor's and a word's distance to 2 ^ 64
crossed : (f g y z m : ℕ) → f + g ≡ m → y + z ≡ m → f * z + m * y ≡ g * y + m * f
crossed f g y z m e h =
    let left : f * z + (f + g) * y ≡ g * y + (y + z) * f = omega arith in
    ap (λ n. f * z + n * y) (sym e) ∙ left ∙ ap (λ n. g * y + n * f) h

times_difference : (x y z : ℕ) → x < 2 ^ 64 → z < 2 ^ 64 → wrapping_mul x (wrapping_sub y z) ≡ wrapping_add (wrapping_mul x y) (wrapping_mul (wrapping_sub 0 x) z)
unfolding wrapping_mul wrapping_sub wrapping_add
times_difference x y z h k =
    mul-mod_second x (y + (2 ^ 64 - z)) (2 ^ 64) ∙ ap (λ n. n % 2 ^ 64) (mul-add x y (2 ^ 64 - z))
    ∙ sym (add-mod-mod (x * y) (x * (2 ^ 64 - z)) (2 ^ 64))
    ∙ ap (λ n. (x * y + n) % 2 ^ 64) (negated ∙ sym (mul-mod_first (0 + (2 ^ 64 - x)) z (2 ^ 64)))
    ∙ sym (mod-add-mod (x * y) (2 ^ 64) ((0 + (2 ^ 64 - x)) % 2 ^ 64 * z % 2 ^ 64))
  where
    none : 0 + (2 ^ 64 - x) ≡ 2 ^ 64 - x
    none = omega arith

    negated : x * (2 ^ 64 - z) % 2 ^ 64 ≡ (0 + (2 ^ 64 - x)) * z % 2 ^ 64
    negated =
        sym (add-mul-mod_self_left (x * (2 ^ 64 - z)) (2 ^ 64) z)
        ∙ ap (λ n. n % 2 ^ 64) (crossed x (2 ^ 64 - x) z (2 ^ 64 - z) (2 ^ 64) (omega arith) (omega arith))
        ∙ add-mul-mod_self_left ((2 ^ 64 - x) * z) (2 ^ 64) x
        ∙ ap (λ n. n * z % 2 ^ 64) (sym none)

-- ---- summands

total_lt : (e : Elements) (tree : ContractionTree) (a : Assignment) (xs : List Summand) → total e tree a xs < 2 ^ 64
total_lt e tree a [] = omega arith
total_lt e tree a (x ∷ xs) = plus-lt (summand_value e tree a x) (total e tree a xs)

total-append : (e : Elements) (tree : ContractionTree) (a : Assignment) (xs ys : List Summand)
    → total e tree a (xs ++ ys) ≡ wrapping_add (total e tree a xs) (total e tree a ys)
total-append e tree a [] ys = sym (zero-plus (total e tree a ys) (total_lt e tree a ys))
total-append e tree a (x ∷ xs) ys =
    ap (wrapping_add (summand_value e tree a x)) (total-append e tree a xs ys)
    ∙ sym (plus_assoc (summand_value e tree a x) (total e tree a xs) (total e tree a ys))

value_low : (e : Elements) (tree : ContractionTree) (a : Assignment) (x : Summand) → summand_value e tree a x < 2 ^ 64
unfolding wrapping_mul
value_low e tree a x = mod-lt (x.factor * sum_over e.extent x.loops.0.items (value e (operand_tree tree x.operand)) a) (lit< tt)

total-one : (e : Elements) (tree : ContractionTree) (a : Assignment) (x : Summand) → total e tree a (x ∷ []) ≡ summand_value e tree a x
total-one e tree a x = plus-zero (summand_value e tree a x) (value_low e tree a x)

-- one that is put in the middle
pub inserted_middle : (x : Summand) (xs ys before now : List Summand) → before ≡ xs ++ ys → now ≡ xs ++ x ∷ ys → IsInserted x before now
inserted_middle x xs ys before now is then e tree a =
    ap (total e tree a) then
    ∙ total-append e tree a xs (x ∷ ys)
    ∙ ap (wrapping_add (total e tree a xs)) (plus_comm (summand_value e tree a x) (total e tree a ys))
    ∙ sym (plus_assoc (total e tree a xs) (total e tree a ys) (summand_value e tree a x))
    ∙ ap (λ n. wrapping_add n (summand_value e tree a x)) (sym (total-append e tree a xs ys) ∙ ap (total e tree a) (sym is))

-- ---- nodes

sum_of_kind : (c : ContractionTree) → kind_of c ≡ SumKind → 0 < operations c → (is : List ℕ) × (x : ContractionTree) × (c ≡ sum is x)
sum_of_kind (leaf t is) k some = absurd (omega (arith, some))
sum_of_kind (constant n) k some = absurd (omega (arith, some))
sum_of_kind (binary multiply l r) k some = absurd (let h : ⊥ = cc in h)
sum_of_kind (binary add l r) k some = absurd (let h : ⊥ = cc in h)
sum_of_kind (binary subtract l r) k some = absurd (let h : ⊥ = cc in h)
sum_of_kind (sum is x) k some = (is, x, refl)

-- an operand that is a node
left_number : (tree c : ContractionTree) (v u : ℕ) → v < operations tree → node tree v ≡ c → left_operand (v + 1 - operations c) c ≡ NodeOperand u
    → (u < operations tree) × (node tree u ≡ left_tree c)
left_number tree (leaf t is) v u l at e = absurd (let h : ⊥ = cc in h)
left_number tree (constant n) v u l at e = absurd (let h : ⊥ = cc in h)
left_number tree (binary op x y) v u l at e =
    let number = operand_number (v + 1 - operations (binary op x y)) x u e in
    let low = (size_bounds tree v l).1 in
    let size = ap operations at in
    let same : v - 1 - operations y ≡ u = omega (arith, number.0, number.1, low, size) in
    subst (λ w. (w < operations tree) × (node tree w ≡ x)) same (left_stands tree (binary op x y) v l at number.0)
left_number tree (sum is x) v u l at e =
    let number = operand_number (v + 1 - operations (sum is x)) x u e in
    let low = (size_bounds tree v l).1 in
    let size = ap operations at in
    let same : v - 1 - 0 ≡ u = omega (arith, number.0, number.1, low, size) in
    subst (λ w. (w < operations tree) × (node tree w ≡ x)) same (left_stands tree (sum is x) v l at number.0)

pub left_node : (tree : ContractionTree) (v u : ℕ) → v < operations tree → NodeOperand u ≡ left_of tree v → (u < operations tree) × (node tree u ≡ left_tree (node tree v))
unfolding left_of first_number_of
left_node tree v u l e = left_number tree (node tree v) v u l refl (sym e)

right_number : (tree c : ContractionTree) (v u : ℕ) → v < operations tree → node tree v ≡ c → right_operand (v + 1 - operations c) c ≡ Some (NodeOperand u)
    → (u < operations tree) × (node tree u ≡ right_tree c)
right_number tree (leaf t is) v u l at e = absurd (let h : ⊥ = cc in h)
right_number tree (constant n) v u l at e = absurd (let h : ⊥ = cc in h)
right_number tree (binary op x y) v u l at e =
    let own : operand_of (v + 1 - operations (binary op x y) + operations x) y ≡ NodeOperand u = cc in
    let number = operand_number (v + 1 - operations (binary op x y) + operations x) y u own in
    let low = (size_bounds tree v l).1 in
    let size = ap operations at in
    let same : v - 1 ≡ u = omega (arith, number.0, number.1, low, size) in
    subst (λ w. (w < operations tree) × (node tree w ≡ y)) same (right_stands tree (binary op x y) v l at number.0)
right_number tree (sum is x) v u l at e = absurd (let h : ⊥ = cc in h)

pub right_node : (tree : ContractionTree) (v u : ℕ) → v < operations tree → Some (NodeOperand u) ≡ right_of tree v → (u < operations tree) × (node tree u ≡ right_tree (node tree v))
unfolding right_of first_number_of
right_node tree v u l e = right_number tree (node tree v) v u l refl (sym e)

-- an operand that is a constant
left_constant_in : (first n : ℕ) (c : ContractionTree) → 0 < operations c → left_operand first c ≡ ConstantOperand n → left_tree c ≡ constant n
left_constant_in first n (leaf t is) some e = absurd (omega (arith, some))
left_constant_in first n (constant m) some e = absurd (omega (arith, some))
left_constant_in first n (binary op x y) some e = named x e
  where
    named : (d : ContractionTree) → operand_of first d ≡ ConstantOperand n → d ≡ constant n
    named (leaf t is) q = absurd (let h : ⊥ = cc in h)
    named (constant m) q = let same : m ≡ n = cc in ap constant same
    named (binary o l r) q = absurd (let h : ⊥ = cc in h)
    named (sum is d) q = absurd (let h : ⊥ = cc in h)
left_constant_in first n (sum is x) some e = named x e
  where
    named : (d : ContractionTree) → operand_of first d ≡ ConstantOperand n → d ≡ constant n
    named (leaf t is) q = absurd (let h : ⊥ = cc in h)
    named (constant m) q = let same : m ≡ n = cc in ap constant same
    named (binary o l r) q = absurd (let h : ⊥ = cc in h)
    named (sum is d) q = absurd (let h : ⊥ = cc in h)

pub left_is_constant : (tree : ContractionTree) (v n : ℕ) → v < operations tree → left_of tree v ≡ ConstantOperand n → left_tree (node tree v) ≡ constant n
unfolding left_of first_number_of
left_is_constant tree v n l e = left_constant_in (v + 1 - operations (node tree v)) n (node tree v) (size_bounds tree v l).0 e

right_constant_in : (first n : ℕ) (c : ContractionTree) → right_operand first c ≡ Some (ConstantOperand n) → right_tree c ≡ constant n
right_constant_in first n (leaf t is) e = absurd (let h : ⊥ = cc in h)
right_constant_in first n (constant m) e = absurd (let h : ⊥ = cc in h)
right_constant_in first n (binary op x y) e = named (first + operations x) y (let q : operand_of (first + operations x) y ≡ ConstantOperand n = cc in q)
  where
    named : (k : ℕ) (d : ContractionTree) → operand_of k d ≡ ConstantOperand n → d ≡ constant n
    named k (leaf t is) q = absurd (let h : ⊥ = cc in h)
    named k (constant m) q = let same : m ≡ n = cc in ap constant same
    named k (binary o l r) q = absurd (let h : ⊥ = cc in h)
    named k (sum is d) q = absurd (let h : ⊥ = cc in h)
right_constant_in first n (sum is x) e = absurd (let h : ⊥ = cc in h)

pub right_is_constant : (tree : ContractionTree) (v n : ℕ) → right_of tree v ≡ Some (ConstantOperand n) → right_tree (node tree v) ≡ constant n
unfolding right_of first_number_of
right_is_constant tree v n e = right_constant_in (v + 1 - operations (node tree v)) n (node tree v) e

-- ---- what is added

pub adds_operand : (factor : ℕ) (operand : TermOperand) (x : Summand) (before now : List Summand) (tree : ContractionTree) → x.factor ≡ factor → x.loops.0.items ≡ [] → x.operand ≡ operand
    → IsInserted x before now → AddsTimes tree (operand_tree tree operand) factor before now
adds_operand factor operand x before now tree f l o h e a =
    h e tree a
    ∙ ap (wrapping_add (total e tree a before))
    (ap₂ wrapping_mul f (ap (λ is. sum_over e.extent is (value e (operand_tree tree x.operand)) a) l ∙ ap (λ p. value e (operand_tree tree p) a) o))

pub adds_sum : (tree : ContractionTree) (v factor : ℕ) (x : Summand) (before now : List Summand) → v < operations tree → kind_of (node tree v) ≡ SumKind → x.factor ≡ factor
    → AreSummed tree v x.loops.0.items → operand_tree tree x.operand ≡ left_tree (node tree v) → IsInserted x before now → AddsTimes tree (node tree v) factor before now
adds_sum tree v factor x before now l kind f summed is h e a =
    let parts = sum_of_kind (node tree v) kind (size_bounds tree v l).0 in
    h e tree a
    ∙ ap (wrapping_add (total e tree a before))
    (ap₂ wrapping_mul f
    (ap (λ c. sum_over e.extent x.loops.0.items (value e c) a) (is ∙ ap left_tree parts.2)
    ∙ summed parts.0 parts.1 e.extent (value e parts.1) a parts.2 ∙ ap (λ c. value e c a) (sym parts.2)))

pub adds_node : (tree c : ContractionTree) (u factor : ℕ) (before now : List Summand) → node tree u ≡ c → AddsTimes tree (node tree u) factor before now → AddsTimes tree c factor before now
adds_node tree c u factor before now e h = subst (λ d. AddsTimes tree d factor before now) e h

binary_of_kind : (c : ContractionTree) (op : Arithmetic) → 0 < operations c → kind_of c ≡ kind_of (binary op (constant 0) (constant 0)) → c ≡ binary op (left_tree c) (right_tree c)
binary_of_kind (leaf t is) op some k = absurd (omega (arith, some))
binary_of_kind (constant n) op some k = absurd (omega (arith, some))
binary_of_kind (binary multiply l r) multiply some k = refl
binary_of_kind (binary multiply l r) add some k = absurd (let h : ⊥ = cc in h)
binary_of_kind (binary multiply l r) subtract some k = absurd (let h : ⊥ = cc in h)
binary_of_kind (binary add l r) multiply some k = absurd (let h : ⊥ = cc in h)
binary_of_kind (binary add l r) add some k = refl
binary_of_kind (binary add l r) subtract some k = absurd (let h : ⊥ = cc in h)
binary_of_kind (binary subtract l r) multiply some k = absurd (let h : ⊥ = cc in h)
binary_of_kind (binary subtract l r) add some k = absurd (let h : ⊥ = cc in h)
binary_of_kind (binary subtract l r) subtract some k = refl
binary_of_kind (sum is x) multiply some k = absurd (let h : ⊥ = cc in h)
binary_of_kind (sum is x) add some k = absurd (let h : ⊥ = cc in h)
binary_of_kind (sum is x) subtract some k = absurd (let h : ⊥ = cc in h)

pub adds_both : (tree : ContractionTree) (v factor : ℕ) (before mid now : List Summand) → v < operations tree → kind_of (node tree v) ≡ AddKind
    → AddsTimes tree (left_tree (node tree v)) factor before mid → AddsTimes tree (right_tree (node tree v)) factor mid now → AddsTimes tree (node tree v) factor before now
adds_both tree v factor before mid now l kind g h e a =
    let is = binary_of_kind (node tree v) add (size_bounds tree v l).0 kind in
    let x : ℕ = value e (left_tree (node tree v)) a in
    let y : ℕ = value e (right_tree (node tree v)) a in
    h e a ∙ ap (λ n. wrapping_add n (wrapping_mul factor y)) (g e a)
    ∙ plus_assoc (total e tree a before) (wrapping_mul factor x) (wrapping_mul factor y)
    ∙ ap (wrapping_add (total e tree a before)) (sym (times_sum factor x y) ∙ ap (λ c. wrapping_mul factor (value e c a)) (sym is))

pub adds_difference : (tree : ContractionTree) (v factor negated : ℕ) (before mid now : List Summand) → v < operations tree → kind_of (node tree v) ≡ SubKind → factor < 2 ^ 64
    → negated ≡ wrapping_sub 0 factor
    → AddsTimes tree (left_tree (node tree v)) factor before mid → AddsTimes tree (right_tree (node tree v)) negated mid now → AddsTimes tree (node tree v) factor before now
adds_difference tree v factor negated before mid now l kind low n g h e a =
    let is = binary_of_kind (node tree v) subtract (size_bounds tree v l).0 kind in
    let x : ℕ = value e (left_tree (node tree v)) a in
    let y : ℕ = value e (right_tree (node tree v)) a in
    h e a ∙ ap₂ (λ k f. wrapping_add k (wrapping_mul f y)) (g e a) n
    ∙ plus_assoc (total e tree a before) (wrapping_mul factor x) (wrapping_mul (wrapping_sub 0 factor) y)
    ∙ ap (wrapping_add (total e tree a before))
    (sym (times_difference factor x y low (value-lt e (right_tree (node tree v)) a)) ∙ ap (λ c. wrapping_mul factor (value e c a)) (sym is))

-- a constant is a factor
pub adds_left_times : (tree : ContractionTree) (v factor number product : ℕ) (before now : List Summand) → v < operations tree → kind_of (node tree v) ≡ ProductKind
    → left_tree (node tree v) ≡ constant number → product ≡ wrapping_mul factor number
    → AddsTimes tree (right_tree (node tree v)) product before now → AddsTimes tree (node tree v) factor before now
adds_left_times tree v factor number product before now l kind left p h e a =
    let is = binary_of_kind (node tree v) multiply (size_bounds tree v l).0 kind in
    let y : ℕ = value e (right_tree (node tree v)) a in
    h e a
    ∙ ap (wrapping_add (total e tree a before))
    (ap (λ f. wrapping_mul f y) (p ∙ sym (times_word factor number)) ∙ sym (times_inside factor (word number) y)
    ∙ ap (λ c. wrapping_mul factor (wrapping_mul (value e c a) y)) (sym left) ∙ ap (λ c. wrapping_mul factor (value e c a)) (sym is))

pub adds_right_times : (tree : ContractionTree) (v factor number product : ℕ) (before now : List Summand) → v < operations tree → kind_of (node tree v) ≡ ProductKind
    → right_tree (node tree v) ≡ constant number → product ≡ wrapping_mul factor number
    → AddsTimes tree (left_tree (node tree v)) product before now → AddsTimes tree (node tree v) factor before now
adds_right_times tree v factor number product before now l kind right p h e a =
    let is = binary_of_kind (node tree v) multiply (size_bounds tree v l).0 kind in
    let x : ℕ = value e (left_tree (node tree v)) a in
    h e a
    ∙ ap (wrapping_add (total e tree a before))
    (ap (λ f. wrapping_mul f x) (p ∙ sym (times_word factor number)) ∙ sym (times_inside factor (word number) x)
    ∙ ap (wrapping_mul factor) (times_comm (word number) x ∙ ap (λ c. wrapping_mul x (value e c a)) (sym right)) ∙ ap (λ c. wrapping_mul factor (value e c a)) (sym is))

-- ---- terms

pub no_terms : (tree : ContractionTree) (summands : List Summand) (terms : List Term) (scale : ℕ) → terms ≡ [] → AddUpTo tree (take 0 summands) terms scale
no_terms tree summands terms scale none e a = ap (λ ts. wrapping_mul scale (fold (with_term e tree a) 0 ts)) none ∙ times_zero scale

pub one_term_more : (tree : ContractionTree) (summands : List Summand) (terms now : List Term) (scale at : ℕ) (term : Term) (x d : Summand) → at < length summands → get_or summands at d ≡ x
    → now ≡ terms ++ term ∷ [] → wrapping_mul term.scale x.factor ≡ scale → term.loops.0.items ≡ x.loops.0.items → term.operand ≡ x.operand
    → AddUpTo tree (take at summands) terms scale → AddUpTo tree (take (at + 1) summands) now x.factor
one_term_more tree summands terms now scale at term x d l is then r loops operand h e a =
    let before : ℕ = fold (with_term e tree a) 0 terms in
    let own : ℕ = term_sum e tree term a in
    ap (λ ts. wrapping_mul x.factor (fold (with_term e tree a) 0 ts)) then
    ∙ ap (wrapping_mul x.factor) (fold-append (with_term e tree a) 0 terms (term ∷ []))
    ∙ times_sum x.factor (wrapping_mul term.scale before) own
    ∙ ap₂ wrapping_add
    (times_inside x.factor term.scale before ∙ ap (λ n. wrapping_mul n before) (times_comm x.factor term.scale ∙ r) ∙ h e a)
    (ap (wrapping_mul x.factor) (ap₂ (λ is p. sum_over e.extent is (value e (operand_tree tree p)) a) loops operand))
    ∙ ap (wrapping_add (total e tree a (take at summands))) (sym (total-one e tree a x))
    ∙ sym (total-append e tree a (take at summands) (x ∷ []))
    ∙ ap (total e tree a) (ap (λ y. take at summands ++ y ∷ []) (sym is) ∙ sym (take_more summands at d l))

pub all_terms : (tree : ContractionTree) (summands : List Summand) (terms : List Term) (scale at : ℕ) → length summands ≤ at → AddUpTo tree (take at summands) terms scale
    → AddUpTo tree summands terms scale
all_terms tree summands terms scale at past h = subst (λ xs. AddUpTo tree xs terms scale) (take_all at summands past) h

pub adds_up_to_value : (tree : ContractionTree) (v : ℕ) (before summands : List Summand) (terms : List Term) (scale : ℕ) → before ≡ [] → AddsTimes tree (node tree v) 1 before summands
    → AddUpTo tree summands terms scale → AddUpToValue tree v terms scale
adds_up_to_value tree v before summands terms scale none g h e a =
    let x : ℕ = value e (node tree v) a in
    h e a ∙ g e a ∙ ap₂ (λ xs n. wrapping_add (total e tree a xs) n) none (one_times x (value-lt e (node tree v) a)) ∙ zero-plus x (value-lt e (node tree v) a)
