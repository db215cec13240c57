-- Tasks of a stack, and what they print.
use Rattle.std.proofs.Common.{◌≡◌, ℕ, zero, suc, ◌+◌, ◌<◌, ◌≤◌, true, false, nat_lt, nat_le, List, [], ◌∷◌, ◌++◌, codes, length, get_or, take, drop, refl, sym, ap, subst, ◌∙◌, arith, append_assoc}
use Rattle.std.proofs.lemmas.Bool.Decides.{nat_tests}
use Rattle.std.proofs.lemmas.List.{length-append, length-take-le, take-append-drop, append-nil}
use Rattle.std.proofs.lemmas.List.Sums.{fold-append}
use Rattle.std.proofs.lemmas.List.Elements.{All-push}
use Rattle.tce_tree.specs.ContractionTree.{ContractionTree, leaf, binary, sum, multiply, operations}
use Rattle.tce_grammar.specs.Tokens.{Token, word, symbol}
use Rattle.tce_grammar.specs.Grammar.{Written, joined, spelling, level, listed, bracketed}
use Rattle.tce_grammar.specs.Canonical.{written_of, grouped_if}
use Rattle.tce_grammar.specs.Printed.{Printing, with_token, with_tokens}
use Rattle.tce_einsum.specs.Text as text
use Rattle.tce_einsum.specs.Entries.{entry_at}
use Rattle.tce_einsum.specs.EntriesCode.{tree_of_node, trees_of, IsBehind, AreOrdered}
use Rattle.tce_einsum.specs.Produced.{formula_of, label_names, operand_name}
use Rattle.tce_einsum.specs.ProducedCode.{tree_at, written_at, task_tokens, pending, IsTask, AreTasks, weight, stack_weight}
use Rattle.tce_einsum.specs.declared.entries.Node.{Node}
use Rattle.tce_einsum.specs.declared.entries.Node.TheVariants.{Operand, Product, Sum}
use Rattle.tce_einsum.specs.declared.formula.Task.{Task}
use Rattle.tce_einsum.specs.declared.formula.Task.TheVariants.{Whole, RightOperand, Symbol}
use Rattle.tce_einsum.proofs.Nodes.{stays, newest}

-- the trees of the nodes in front of others
prefix_tree : (front back : List Node) (k : ℕ) → k < length front → entry_at (trees_of (front ++ back)) k ≡ entry_at (trees_of front) k
prefix_tree front [] k inside = ap (λ ns. entry_at (trees_of ns) k) (append-nil front)
prefix_tree front (n ∷ ns) k inside =
    let longer = length-append front (n ∷ []) in
    ap (λ (ms : List Node). entry_at (trees_of ms) k) (sym (append_assoc front (n ∷ []) ns))
    ∙ prefix_tree (front ++ n ∷ []) ns k (omega (arith, longer, inside))
    ∙ stays front n k inside

split_at : (nodes : List Node) (k : ℕ) (n d : Node) → k < length nodes → get_or nodes k d ≡ n → nodes ≡ take k nodes ++ n ∷ drop (suc k) nodes
split_at [] k n d inside e = absurd (omega (arith, inside))
split_at (m ∷ ms) zero n d inside e = ap (λ (x : Node). x ∷ ms) e
split_at (m ∷ ms) (suc k) n d inside e = ap (λ (xs : List Node). m ∷ xs) (split_at ms k n d (omega (arith, inside)) e)

-- the tree of a place is that of its node
place_tree : (nodes : List Node) (k : ℕ) (n d : Node) → k < length nodes → get_or nodes k d ≡ n → tree_at nodes k ≡ tree_of_node (trees_of (take k nodes)) n
place_tree nodes k n d inside e =
    let front : List Node = take k nodes in
    let back : List Node = drop (suc k) nodes in
    let long : length front ≡ k = length-take-le k nodes (omega (arith, inside)) in
    let longer = length-append front (n ∷ []) in
    ap (λ (ns : List Node). entry_at (trees_of ns) k) (split_at nodes k n d inside e ∙ sym (append_assoc front (n ∷ []) back))
    ∙ prefix_tree (front ++ n ∷ []) back k (omega (arith, longer, long))
    ∙ ap (entry_at (trees_of (front ++ n ∷ []))) (sym long)
    ∙ newest front n

in_front : (nodes : List Node) (k j : ℕ) → k < length nodes → j < k → entry_at (trees_of (take k nodes)) j ≡ tree_at nodes j
in_front nodes k j inside before =
    let long : length (take k nodes) ≡ k = length-take-le k nodes (omega (arith, inside)) in
    sym (prefix_tree (take k nodes) (drop k nodes) j (omega (arith, long, before))) ∙ ap (λ (ns : List Node). entry_at (trees_of ns) j) (take-append-drop k nodes)

behind_of : (nodes : List Node) (k : ℕ) (n d : Node) → AreOrdered nodes → k < length nodes → get_or nodes k d ≡ n → IsBehind k n
behind_of nodes k n d ordered inside e = subst (IsBehind k) e (ordered k d inside)

product_tree : (nodes : List Node) (k l r : ℕ) (d : Node) → AreOrdered nodes → k < length nodes → get_or nodes k d ≡ Product l r
    → tree_at nodes k ≡ binary multiply (tree_at nodes l) (tree_at nodes r)
product_tree nodes k l r d ordered inside e =
    let behind = behind_of nodes k (Product l r) d ordered inside e in
    place_tree nodes k (Product l r) d inside e ∙ (λ i. binary multiply (in_front nodes k l inside behind.0 i) (in_front nodes k r inside behind.1 i))

-- what a place is written as binds no looser than a product
node_there : (nodes : List Node) (k : ℕ) → k < length nodes → (n : Node) × (get_or nodes k n ≡ n)
node_there [] k inside = absurd (omega (arith, inside))
node_there (m ∷ ms) zero inside = (m, refl)
node_there (m ∷ ms) (suc k) inside = node_there ms k (omega (arith, inside))

node_level : (ss : List text.Size) (ts : List ContractionTree) (n : Node) → 2 ≤ level (written_of (formula_of ss (tree_of_node ts n)))
node_level ss ts (Operand number labels) = omega arith
node_level ss ts (Product left right) = omega arith
node_level ss ts (Sum labels operand) = omega arith

place_level : (ss : List text.Size) (nodes : List Node) (k : ℕ) → k < length nodes → nat_lt (level (written_at ss nodes k)) 2 ≡ false
place_level ss nodes k inside =
    let there = node_there nodes k inside in
    ap (λ t. nat_lt (level (written_of (formula_of ss t))) 2) (place_tree nodes k there.0 there.0 inside there.1)
    ∙ high (level (written_of (formula_of ss (tree_of_node (trees_of (take k nodes)) there.0)))) (node_level ss (trees_of (take k nodes)) there.0)
  where
    high : (n : ℕ) → 2 ≤ n → nat_lt n 2 ≡ false
    high n h = grind (arith, nat_tests)

pub is_product_of : (ss : List text.Size) (nodes : List Node) (k l r : ℕ) (d : Node) → k < length nodes → get_or nodes k d ≡ Product l r → true ≡ nat_le (level (written_at ss nodes k)) 2
is_product_of ss nodes k l r d inside e =
    sym (ap (λ t. nat_le (level (written_of (formula_of ss t))) 2) (place_tree nodes k (Product l r) d inside e))

pub not_product_of : (ss : List text.Size) (nodes : List Node) (k : ℕ) (n d : Node) → k < length nodes → get_or nodes k d ≡ n → ((l r : ℕ) → n ≡ Product l r → ⊥)
    → false ≡ nat_le (level (written_at ss nodes k)) 2
not_product_of ss nodes k (Operand number labels) d inside e apart =
    sym (ap (λ t. nat_le (level (written_of (formula_of ss t))) 2) (place_tree nodes k (Operand number labels) d inside e))
not_product_of ss nodes k (Product l r) d inside e apart = absurd (apart l r refl)
not_product_of ss nodes k (Sum labels operand) d inside e apart =
    sym (ap (λ t. nat_le (level (written_of (formula_of ss t))) 2) (place_tree nodes k (Sum labels operand) d inside e))

-- what a task leaves: what it printed and the stack print what it and the stack before it do
pub record IsDone (ss : List text.Size) (nodes : List Node) (before after : List Task) (p p1 : Printing) (tokens : List Token) (w : ℕ) : Type 0 where
  pub printed : with_tokens p1 (pending ss nodes after) ≡ with_tokens p (tokens ++ pending ss nodes before)
  pub tasks : AreTasks nodes after
  pub less : stack_weight nodes after < stack_weight nodes before + w

pending_pushed : (ss : List text.Size) (nodes : List Node) (stack : List Task) (t : Task) → pending ss nodes (stack ++ t ∷ []) ≡ task_tokens ss nodes t ++ pending ss nodes stack
pending_pushed ss nodes stack t = fold-append (λ behind task. task_tokens ss nodes task ++ behind) [] stack (t ∷ [])

weight_pushed : (nodes : List Node) (stack : List Task) (t : Task) → stack_weight nodes (stack ++ t ∷ []) ≡ stack_weight nodes stack + weight nodes t
weight_pushed nodes stack t = fold-append (λ all task. all + weight nodes task) 0 stack (t ∷ [])

pub operand_done : (ss : List text.Size) (nodes : List Node) (stack : List Task) (p p1 : Printing) (k : ℕ) (n d : Node) (operand : ℕ) (labels : List ℕ) → k < length nodes → get_or nodes k d ≡ n
    → ((ts : List ContractionTree) → tree_of_node ts n ≡ leaf operand labels) → AreTasks nodes stack
    → p1 ≡ with_tokens p (bracketed (operand_name operand) (label_names ss labels))
    → IsDone ss nodes stack stack p p1 (spelling (written_at ss nodes k)) (weight nodes (Whole k))
operand_done ss nodes stack p p1 k n d operand labels inside e is tasks e1 =
    let tree : tree_at nodes k ≡ leaf operand labels = place_tree nodes k n d inside e ∙ is (trees_of (take k nodes)) in
    record {
      printed = ap (λ q. with_tokens q (pending ss nodes stack)) e1
          ∙ sym (fold-append with_token p (bracketed (operand_name operand) (label_names ss labels)) (pending ss nodes stack))
          ∙ ap (λ t. with_tokens p (spelling (written_of (formula_of ss t)) ++ pending ss nodes stack)) (sym tree);
      tasks = tasks;
      less = omega arith;
    }

pub product_done : (ss : List text.Size) (nodes : List Node) (stack after : List Task) (p : Printing) (k l r : ℕ) (d : Node) → AreOrdered nodes → k < length nodes
    → get_or nodes k d ≡ Product l r → AreTasks nodes stack → after ≡ ((stack ++ RightOperand r ∷ []) ++ Symbol 42 ∷ []) ++ Whole l ∷ []
    → IsDone ss nodes stack after p p (spelling (written_at ss nodes k)) (weight nodes (Whole k))
product_done ss nodes stack after p k l r d ordered inside e tasks pushed =
    let behind = behind_of nodes k (Product l r) d ordered inside e in
    let in_l : l < length nodes = omega (arith, behind.0, inside) in
    let in_r : r < length nodes = omega (arith, behind.1, inside) in
    let tree = product_tree nodes k l r d ordered inside e in
    let wl : Written = written_at ss nodes l in
    let gr : Written = grouped_if (nat_le (level (written_at ss nodes r)) 2) (written_at ss nodes r) in
    let written : written_at ss nodes k ≡ joined multiply wl gr =
    ap (λ t. written_of (formula_of ss t)) tree ∙ ap (λ b. joined multiply (grouped_if b wl) gr) (place_level ss nodes l in_l) in
    let rest : List Token = pending ss nodes stack in
    let one : List Task = stack ++ RightOperand r ∷ [] in
    let two : List Task = one ++ Symbol 42 ∷ [] in
    let left_over : pending ss nodes (two ++ Whole l ∷ []) ≡ (spelling wl ++ (symbol 42 ∷ spelling gr)) ++ rest =
    pending_pushed ss nodes two (Whole l)
    ∙ ap (λ (ts : List Token). spelling wl ++ ts) (pending_pushed ss nodes one (Symbol 42) ∙ ap (λ (ts : List Token). symbol 42 ∷ ts) (pending_pushed ss nodes stack (RightOperand r)))
    ∙ sym (append_assoc (spelling wl) (symbol 42 ∷ spelling gr) rest) in
    let w3 = weight_pushed nodes two (Whole l) in
    let w2 = weight_pushed nodes one (Symbol 42) in
    let w1 = weight_pushed nodes stack (RightOperand r) in
    let w0 : operations (tree_at nodes k) ≡ operations (tree_at nodes l) + operations (tree_at nodes r) + 1 = ap operations tree in
    let w : stack_weight nodes after ≡ stack_weight nodes (two ++ Whole l ∷ []) = ap (stack_weight nodes) pushed in
    record {
      printed = ap (λ (ts : List Task). with_tokens p (pending ss nodes ts)) pushed ∙ ap (with_tokens p) left_over ∙ ap (λ x. with_tokens p (spelling x ++ rest)) (sym written);
      tasks = subst (AreTasks nodes) (sym pushed)
          (All-push (IsTask nodes) two (Whole l) (All-push (IsTask nodes) one (Symbol 42) (All-push (IsTask nodes) stack (RightOperand r) tasks in_r) tt) in_l);
      less = omega (arith, w, w3, w2, w1, w0);
    }

summed_tokens : (p : Printing) (L so rest : List Token) (a b c : Token)
    → with_tokens (with_tokens p (L ++ a ∷ b ∷ [])) (so ++ (c ∷ rest)) ≡ with_tokens p ((L ++ (a ∷ b ∷ (so ++ c ∷ []))) ++ rest)
summed_tokens p L so rest a b c =
    sym (fold-append with_token p (L ++ a ∷ b ∷ []) (so ++ (c ∷ rest)))
    ∙ ap (with_tokens p)
    (append_assoc L (a ∷ b ∷ []) (so ++ (c ∷ rest))
    ∙ ap (λ (ts : List Token). L ++ (a ∷ b ∷ ts)) (sym (append_assoc so (c ∷ []) rest))
    ∙ sym (append_assoc L (a ∷ b ∷ (so ++ c ∷ [])) rest))

pub sum_done : (ss : List text.Size) (nodes : List Node) (stack after : List Task) (p p1 : Printing) (k o : ℕ) (n d : Node) (labels : List ℕ) → AreOrdered nodes → k < length nodes
    → get_or nodes k d ≡ n → (IsBehind k n → o < k) → ((ts : List ContractionTree) → tree_of_node ts n ≡ sum labels (entry_at ts o)) → AreTasks nodes stack
    → p1 ≡ with_tokens p (word (codes "sum") ∷ symbol 123 ∷ (listed (label_names ss labels) ++ symbol 125 ∷ symbol 40 ∷ []))
    → after ≡ (stack ++ Symbol 41 ∷ []) ++ Whole o ∷ []
    → IsDone ss nodes stack after p p1 (spelling (written_at ss nodes k)) (weight nodes (Whole k))
sum_done ss nodes stack after p p1 k o n d labels ordered inside e bound is tasks e1 pushed =
    let before : o < k = bound (behind_of nodes k n d ordered inside e) in
    let in_o : o < length nodes = omega (arith, before, inside) in
    let tree : tree_at nodes k ≡ sum labels (tree_at nodes o) = place_tree nodes k n d inside e ∙ is (trees_of (take k nodes)) ∙ ap (sum labels) (in_front nodes k o inside before) in
    let so : List Token = spelling (written_at ss nodes o) in
    let rest : List Token = pending ss nodes stack in
    let one : List Task = stack ++ Symbol 41 ∷ [] in
    let left_over : pending ss nodes (one ++ Whole o ∷ []) ≡ so ++ (symbol 41 ∷ rest) =
    pending_pushed ss nodes one (Whole o) ∙ ap (λ (ts : List Token). so ++ ts) (pending_pushed ss nodes stack (Symbol 41)) in
    let w2 = weight_pushed nodes one (Whole o) in
    let w1 = weight_pushed nodes stack (Symbol 41) in
    let w0 : operations (tree_at nodes k) ≡ operations (tree_at nodes o) + 1 = ap operations tree in
    let w : stack_weight nodes after ≡ stack_weight nodes (one ++ Whole o ∷ []) = ap (stack_weight nodes) pushed in
    record {
      printed = ap (λ (ts : List Task). with_tokens p1 (pending ss nodes ts)) pushed ∙ ap (with_tokens p1) left_over
          ∙ ap (λ q. with_tokens q (so ++ (symbol 41 ∷ rest))) e1
          ∙ summed_tokens p (word (codes "sum") ∷ symbol 123 ∷ listed (label_names ss labels)) so rest (symbol 125) (symbol 40) (symbol 41)
          ∙ ap (λ t. with_tokens p (spelling (written_of (formula_of ss t)) ++ rest)) (sym tree);
      tasks = subst (AreTasks nodes) (sym pushed) (All-push (IsTask nodes) one (Whole o) (All-push (IsTask nodes) stack (Symbol 41) tasks tt) in_o);
      less = omega (arith, w, w2, w1, w0);
    }

-- an operand on the right that is no product, and one that is
pub plain_done : (ss : List text.Size) (nodes : List Node) (stack after : List Task) (p : Printing) (k : ℕ) → k < length nodes → AreTasks nodes stack → after ≡ stack ++ Whole k ∷ []
    → false ≡ nat_le (level (written_at ss nodes k)) 2 → IsDone ss nodes stack after p p (task_tokens ss nodes (RightOperand k)) (weight nodes (RightOperand k))
plain_done ss nodes stack after p k inside tasks pushed loose =
    let w1 = weight_pushed nodes stack (Whole k) in
    let w : stack_weight nodes after ≡ stack_weight nodes (stack ++ Whole k ∷ []) = ap (stack_weight nodes) pushed in
    record {
      printed = ap (λ (ts : List Task). with_tokens p (pending ss nodes ts)) pushed ∙ ap (with_tokens p) (pending_pushed ss nodes stack (Whole k))
          ∙ ap (λ b. with_tokens p (spelling (grouped_if b (written_at ss nodes k)) ++ pending ss nodes stack)) loose;
      tasks = subst (AreTasks nodes) (sym pushed) (All-push (IsTask nodes) stack (Whole k) tasks inside);
      less = omega (arith, w, w1);
    }

pub grouped_done : (ss : List text.Size) (nodes : List Node) (stack after : List Task) (p p1 : Printing) (k : ℕ) → k < length nodes → AreTasks nodes stack
    → p1 ≡ with_token p (symbol 40) → after ≡ (stack ++ Symbol 41 ∷ []) ++ Whole k ∷ [] → true ≡ nat_le (level (written_at ss nodes k)) 2
    → IsDone ss nodes stack after p p1 (task_tokens ss nodes (RightOperand k)) (weight nodes (RightOperand k))
grouped_done ss nodes stack after p p1 k inside tasks e1 pushed tight =
    let so : List Token = spelling (written_at ss nodes k) in
    let rest : List Token = pending ss nodes stack in
    let one : List Task = stack ++ Symbol 41 ∷ [] in
    let left_over : pending ss nodes (one ++ Whole k ∷ []) ≡ so ++ (symbol 41 ∷ rest) =
    pending_pushed ss nodes one (Whole k) ∙ ap (λ (ts : List Token). so ++ ts) (pending_pushed ss nodes stack (Symbol 41)) in
    let w2 = weight_pushed nodes one (Whole k) in
    let w1 = weight_pushed nodes stack (Symbol 41) in
    let w : stack_weight nodes after ≡ stack_weight nodes (one ++ Whole k ∷ []) = ap (stack_weight nodes) pushed in
    record {
      printed = ap (λ (ts : List Task). with_tokens p1 (pending ss nodes ts)) pushed ∙ ap (with_tokens p1) left_over
          ∙ ap (λ q. with_tokens q (so ++ (symbol 41 ∷ rest))) e1
          ∙ ap (λ (ts : List Token). with_tokens p (symbol 40 ∷ ts)) (sym (append_assoc so (symbol 41 ∷ []) rest))
          ∙ ap (λ b. with_tokens p (spelling (grouped_if b (written_at ss nodes k)) ++ rest)) tight;
      tasks = subst (AreTasks nodes) (sym pushed) (All-push (IsTask nodes) one (Whole k) (All-push (IsTask nodes) stack (Symbol 41) tasks tt) inside);
      less = omega (arith, w, w2, w1);
    }
