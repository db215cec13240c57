-- Trees as values that a model may have: a tree is stored as its tokens in postfix order.
use Rattle.std.specs.Prelude.{◌≡◌, ℕ, zero, suc, List, [], ◌∷◌, ◌++◌}
use Rattle.std.specs.Coded.{Coded, code_by, coded_list, coded×, coded_ℕ}
use Rattle.std.proofs.Common.{refl, sym, ap, ◌∙◌, append_assoc, append-nil}
use Rattle.tce_tree.specs.ContractionTree.{ContractionTree, Arithmetic, multiply, add, subtract, leaf, constant, binary, sum}

-- a kind, a number and a list: a leaf with its tensor and indexes is of kind 0, a constant with its number of kind 1, a tree of two operands with the number of its arithmetic of kind 2, and a sum with its indexes of kind 3
abbrev pub Token : Type 0
Token = ℕ × (ℕ × List ℕ)

abbrev pub number_of : Arithmetic → ℕ
number_of multiply = 0
number_of add = 1
number_of subtract = 2

abbrev pub arithmetic_numbered : ℕ → Arithmetic
arithmetic_numbered zero = multiply
arithmetic_numbered (suc zero) = add
arithmetic_numbered (suc (suc number)) = subtract

abbrev pub tokens : ContractionTree → List Token
tokens (leaf tensor indexes) = (0, (tensor, indexes)) ∷ []
tokens (constant number) = (1, (number, [])) ∷ []
tokens (binary op left right) = tokens left ++ (tokens right ++ (2, (number_of op, [])) ∷ [])
tokens (sum indexes operand) = tokens operand ++ (3, (0, indexes)) ∷ []

-- the tree on top of a stack, and the trees below it
abbrev pub top : List ContractionTree → ContractionTree
top [] = leaf 0 []
top (tree ∷ trees) = tree

abbrev pub below : List ContractionTree → List ContractionTree
below [] = []
below (tree ∷ trees) = trees

abbrev pub put : ℕ → ℕ → List ℕ → List ContractionTree → List ContractionTree
put zero number indexes stack = leaf number indexes ∷ stack
put (suc zero) number indexes stack = constant number ∷ stack
put (suc (suc zero)) number indexes stack = binary (arithmetic_numbered number) (top (below stack)) (top stack) ∷ below (below stack)
put (suc (suc (suc kind))) number indexes stack = sum indexes (top stack) ∷ below stack

abbrev pub read_tokens : List Token → List ContractionTree → List ContractionTree
read_tokens [] stack = stack
read_tokens (token ∷ rest) stack = read_tokens rest (put token.0 token.1.0 token.1.1 stack)

numbered_back : (op : Arithmetic) → arithmetic_numbered (number_of op) ≡ op
numbered_back multiply = refl
numbered_back add = refl
numbered_back subtract = refl

pub read_tokens-tokens : (tree : ContractionTree) (rest : List Token) (stack : List ContractionTree)
    → read_tokens (tokens tree ++ rest) stack ≡ read_tokens rest (tree ∷ stack)
read_tokens-tokens (leaf t is) rest stack = refl
read_tokens-tokens (constant n) rest stack = refl
read_tokens-tokens (binary op l r) rest stack =
    ap (λ xs. read_tokens xs stack) (append_assoc (tokens l) (tokens r ++ (2, (number_of op, [])) ∷ []) rest)
    ∙ read_tokens-tokens l ((tokens r ++ (2, (number_of op, [])) ∷ []) ++ rest) stack
    ∙ ap (λ xs. read_tokens xs (l ∷ stack)) (append_assoc (tokens r) ((2, (number_of op, [])) ∷ []) rest)
    ∙ read_tokens-tokens r ((2, (number_of op, [])) ∷ rest) (l ∷ stack)
    ∙ ap (λ o. read_tokens rest (binary o l r ∷ stack)) (numbered_back op)
read_tokens-tokens (sum is e) rest stack =
    ap (λ xs. read_tokens xs stack) (append_assoc (tokens e) ((3, (0, is)) ∷ []) rest)
    ∙ read_tokens-tokens e ((3, (0, is)) ∷ rest) stack

pub read_back : (tree : ContractionTree) → top (read_tokens (tokens tree) []) ≡ tree
read_back tree = ap (λ xs. top (read_tokens xs [])) (sym (append-nil (tokens tree))) ∙ ap top (read_tokens-tokens tree [] [])

abbrev pub tree_code : Coded ContractionTree
tree_code = code_by (List Token) (coded_list (coded× coded_ℕ (coded× coded_ℕ (coded_list coded_ℕ)))) tokens (λ xs. top (read_tokens xs [])) read_back
