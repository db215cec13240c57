-- Nodes behind others, and the entries that they leave.
use Rattle.std.proofs.Common.{◌≡◌, ℕ, zero, suc, ◌+◌, ◌<◌, ◌&&◌, ◌||◌, not, Bool, true, false, nat_lt, cond, List, [], ◌∷◌, ◌++◌, map, length, get_or, fold, filter, take, drop, remove, All, refl, sym, ap, ap₂, subst, ◌∙◌, arith}
use Rattle.std.specs.List.{list_any, AllByRecursion, range_with_len}
use Rattle.std.proofs.lemmas.Bool.{ltb-true, ltb-false}
use Rattle.std.proofs.lemmas.List.{length-append, get_or_append_left, get_or-map, map-append}
use Rattle.std.proofs.lemmas.List.Sums.{fold-append}
use Rattle.std.proofs.lemmas.List.Elements.{recursion_from_All, All-append, All-take, All-drop, All-push}
use Rattle.std.proofs.Math.Seq.{get_or-append_seam}
use Rattle.tce_space.specs.IndexSet.{has}
use Rattle.tce_tree.specs.ContractionTree.{ContractionTree, leaf, constant, binary, sum, multiply}
use Rattle.tce_tree.specs.WellFormed.{among}
use Rattle.tce_einsum.specs.declared.entries.Node.{Node}
use Rattle.tce_einsum.specs.declared.entries.Node.TheVariants.{Product}
use Rattle.tce_einsum.specs.declared.entries.Entry.{Entry}
use Rattle.tce_einsum.specs.Entries as list
use Rattle.tce_einsum.specs.Entries.{Labels, is_free, entry_at, labels_to_sum}
use Rattle.tce_einsum.specs.EntriesCode.{tree_of_node, with_node, trees_of, tree_in, IsEntry, IsBehind, AreOrdered, Keeps}
use Rattle.tce_einsum.proofs.Contractions.{filtered_same}

pub trees_long : (ts : List ContractionTree) (nodes : List Node) → length (fold with_node ts nodes) ≡ length ts + length nodes
trees_long ts [] = omega arith
trees_long ts (n ∷ ns) =
    let rest = trees_long (with_node ts n) ns in
    let one = length-append ts (tree_of_node ts n ∷ []) in
    omega arith

pub trees_pushed : (nodes : List Node) (n : Node) → trees_of (nodes ++ n ∷ []) ≡ with_node (trees_of nodes) n
trees_pushed nodes n = fold-append with_node [] nodes (n ∷ [])

pub stays : (nodes : List Node) (n : Node) (k : ℕ) → k < length nodes → entry_at (trees_of (nodes ++ n ∷ [])) k ≡ entry_at (trees_of nodes) k
stays nodes n k inside =
    let long = trees_long [] nodes in
    ap (λ ts. entry_at ts k) (trees_pushed nodes n) ∙ get_or_append_left (trees_of nodes) (tree_of_node (trees_of nodes) n ∷ []) (constant 0) k (omega arith)

pub newest : (nodes : List Node) (n : Node) → entry_at (trees_of (nodes ++ n ∷ [])) (length nodes) ≡ tree_of_node (trees_of nodes) n
newest nodes n =
    let long : length nodes ≡ length (trees_of nodes) = omega (arith, trees_long [] nodes) in
    ap (λ ts. entry_at ts (length nodes)) (trees_pushed nodes n) ∙ ap (entry_at (with_node (trees_of nodes) n)) long
    ∙ get_or-append_seam (trees_of nodes) (tree_of_node (trees_of nodes) n) [] (constant 0)

pub ordered_pushed : (nodes : List Node) (n : Node) → AreOrdered nodes → IsBehind (length nodes) n → AreOrdered (nodes ++ n ∷ [])
ordered_pushed nodes n ordered behind k d inside = by_place (nat_lt k (length nodes)) refl
  where
    by_place : (b : Bool) → nat_lt k (length nodes) ≡ b → IsBehind k (get_or (nodes ++ n ∷ []) k d)
    by_place true e =
        let front : k < length nodes = ltb-true k (length nodes) e in
        subst (IsBehind k) (sym (get_or_append_left nodes (n ∷ []) d k front)) (ordered k d front)
    by_place false e =
        let last : length nodes ≡ k = omega (arith, ltb-false k (length nodes) e, inside, length-append nodes (n ∷ [])) in
        subst (λ j. IsBehind j (get_or (nodes ++ n ∷ []) j d)) last (subst (IsBehind (length nodes)) (sym (get_or-append_seam nodes n [] d)) behind)

pub keeps_pushed : (nodes after : List Node) (n : Node) → IsBehind (length nodes) n → after ≡ nodes ++ n ∷ [] → Keeps nodes after
keeps_pushed nodes after n behind e = record {
  entries = λ entry is.
      subst (λ ns. IsEntry ns entry × (tree_in ns entry ≡ tree_in nodes entry)) (sym e) (
        record { inside = omega (arith, is.inside, length-append nodes (n ∷ [])); free = λ i. is.free i ∙ ap (λ t. is_free t i) (sym (stays nodes n entry.node is.inside)) },
        stays nodes n entry.node is.inside,
      );
  ordered = λ ordered. subst AreOrdered (sym e) (ordered_pushed nodes n ordered behind);
}

-- the entry of a new node
tree_pushed : (nodes after : List Node) (n : Node) (entry : Entry) → after ≡ nodes ++ n ∷ [] → entry.node ≡ length nodes → tree_in after entry ≡ tree_of_node (trees_of nodes) n
tree_pushed nodes after n entry e at = ap (λ ns. entry_at (trees_of ns) entry.node) e ∙ ap (entry_at (trees_of (nodes ++ n ∷ []))) at ∙ newest nodes n

entry_pushed : (nodes after : List Node) (n : Node) (entry : Entry) → after ≡ nodes ++ n ∷ [] → entry.node ≡ length nodes
    → ((i : ℕ) → has entry.free.bits i ≡ is_free (tree_of_node (trees_of nodes) n) i) → IsEntry after entry
entry_pushed nodes after n entry e at free = record {
  inside = let long : length after ≡ length nodes + 1 = ap length e ∙ length-append nodes (n ∷ []) in omega (arith, long, at);
  free = λ i. free i ∙ ap (λ t. is_free t i) (sym (tree_pushed nodes after n entry e at));
}

pub record IsMade (nodes after : List Node) (entry : Entry) (tree : ContractionTree) : Type 0 where
  pub tree_is : tree_in after entry ≡ tree
  pub is : IsEntry after entry
  pub keeps : Keeps nodes after

pub product_made : (nodes after : List Node) (left right entry : Entry) → IsEntry nodes left → IsEntry nodes right → after ≡ nodes ++ Product left.node right.node ∷ []
    → entry.node ≡ length nodes → ((i : ℕ) → has entry.free.bits i ≡ (has left.free.bits i || has right.free.bits i))
    → IsMade nodes after entry (binary multiply (tree_in nodes left) (tree_in nodes right))
product_made nodes after left right entry is_left is_right e at free = record {
  tree_is = tree_pushed nodes after (Product left.node right.node) entry e at;
  is = entry_pushed nodes after (Product left.node right.node) entry e at (λ i. free i ∙ ap₂ (λ x y. x || y) (is_left.free i) (is_right.free i));
  keeps = keeps_pushed nodes after (Product left.node right.node) (is_left.inside, is_right.inside) e;
}

mapped_remove : {X Y : Type 0} (f : X → Y) (xs : List X) (i : ℕ) → map f (remove xs i) ≡ remove (map f xs) i
mapped_remove f [] zero = refl
mapped_remove f [] (suc i) = refl
mapped_remove f (x ∷ xs) zero = refl
mapped_remove f (x ∷ xs) (suc i) = ap (λ ys. f x ∷ ys) (mapped_remove f xs i)

all_remove : {X : Type 0} (P : X → Type 0) (xs : List X) (i : ℕ) → All P xs → All P (remove xs i)
all_remove P xs i all = All-append P (take i xs) (drop (suc i) xs) (All-take P i xs all) (All-drop P (suc i) xs all)

mapped_keeps : (nodes after : List Node) (es : List Entry) → Keeps nodes after → AllByRecursion (IsEntry nodes) es → map (tree_in after) es ≡ map (tree_in nodes) es
mapped_keeps nodes after [] keeps are = refl
mapped_keeps nodes after (e ∷ es) keeps are = ap₂ (λ t ts. t ∷ ts) (keeps.entries e are.0).1 (mapped_keeps nodes after es keeps are.1)

all_kept : (nodes after : List Node) (es : List Entry) → Keeps nodes after → All (IsEntry nodes) es → All (IsEntry after) es
all_kept nodes after es keeps are = λ k d inside. (keeps.entries (get_or es k d) (are k d inside)).0

free_by_entries : (nodes : List Node) (es : List Entry) (i : ℕ) → AllByRecursion (IsEntry nodes) es
    → list_any (λ (e : Entry). has e.free.bits i) es ≡ list_any (λ t. is_free t i) (map (tree_in nodes) es)
free_by_entries nodes [] i are = refl
free_by_entries nodes (e ∷ es) i are = ap₂ (λ x y. x || y) (are.0.free i) (free_by_entries nodes es i are.1)

summed_some : (labels : List ℕ) (t : ContractionTree) → 0 < length labels → list.summed labels t ≡ sum labels t
summed_some [] t some = absurd (omega arith)
summed_some (i ∷ is) t some = refl

-- an entry in a sum over labels; `items` are those of the node
pub summed_made : (nodes after : List Node) (made entry : Entry) (node : Node) (labels : List ℕ) → IsEntry nodes made → 0 < length labels
    → tree_of_node (trees_of nodes) node ≡ sum labels (tree_in nodes made) → IsBehind (length nodes) node → after ≡ nodes ++ node ∷ [] → entry.node ≡ length nodes
    → ((i : ℕ) → has entry.free.bits i ≡ (has made.free.bits i && not (among labels i)))
    → IsMade nodes after entry (list.summed labels (tree_in nodes made))
summed_made nodes after made entry node labels is some of_node behind e at free = record {
  tree_is = tree_pushed nodes after node entry e at ∙ of_node ∙ sym (summed_some labels (tree_in nodes made) some);
  is = entry_pushed nodes after node entry e at (λ i. free i ∙ ap (λ x. x && not (among labels i)) (is.free i) ∙ ap (λ t. is_free t i) (sym of_node));
  keeps = keeps_pushed nodes after node behind e;
}

-- what an item takes out
pub entry_read : (nodes : List Node) (es : List Entry) (p : ℕ) (e : Entry) → p < length es → e ≡ get_or es p e → tree_in nodes e ≡ entry_at (map (tree_in nodes) es) p
entry_read nodes es p e inside is = ap (tree_in nodes) is ∙ sym (get_or-map (tree_in nodes) es p e (constant 0) inside)

pub one_left : (nodes : List Node) (es left : List Entry) (p : ℕ) → left ≡ remove es p → All (IsEntry nodes) es
    → (map (tree_in nodes) left ≡ remove (map (tree_in nodes) es) p) × All (IsEntry nodes) left
one_left nodes es left p e are =
    (ap (map (tree_in nodes)) e ∙ mapped_remove (tree_in nodes) es p, subst (All (IsEntry nodes)) (sym e) (all_remove (IsEntry nodes) es p are))

pub two_left : (nodes after : List Node) (es left : List Entry) (p q : ℕ) → left ≡ cond (nat_lt p q) (remove (remove es q) p) (remove (remove es p) q)
    → Keeps nodes after → All (IsEntry nodes) es
    → (map (tree_in after) left ≡ cond (nat_lt p q) (remove (remove (map (tree_in nodes) es) q) p) (remove (remove (map (tree_in nodes) es) p) q)) × All (IsEntry after) left
two_left nodes after es left p q e keeps are =
    let there : All (IsEntry nodes) left = subst (All (IsEntry nodes)) (sym e) (either (nat_lt p q)) in
    (mapped_keeps nodes after left keeps (recursion_from_All (IsEntry nodes) left there) ∙ ap (map (tree_in nodes)) e ∙ mapped (nat_lt p q), all_kept nodes after left keeps there)
  where
    both : (p q : ℕ) → All (IsEntry nodes) (remove (remove es p) q)
    both p q = all_remove (IsEntry nodes) (remove es p) q (all_remove (IsEntry nodes) es p are)

    either : (d : Bool) → All (IsEntry nodes) (cond d (remove (remove es q) p) (remove (remove es p) q))
    either true = both q p
    either false = both p q

    mapped_both : (p q : ℕ) → map (tree_in nodes) (remove (remove es p) q) ≡ remove (remove (map (tree_in nodes) es) p) q
    mapped_both p q = mapped_remove (tree_in nodes) (remove es p) q ∙ ap (λ ts. remove ts q) (mapped_remove (tree_in nodes) es p)

    mapped : (d : Bool) → map (tree_in nodes) (cond d (remove (remove es q) p) (remove (remove es p) q))
        ≡ cond d (remove (remove (map (tree_in nodes) es) q) p) (remove (remove (map (tree_in nodes) es) p) q)
    mapped true = mapped_both q p
    mapped false = mapped_both p q

-- the entry that is appended
pub labels_are : (nodes : List Node) (es : List Entry) (made : Entry) (ls : Labels) (bits inner output others count : ℕ) (labels : List ℕ) → All (IsEntry nodes) es → IsEntry nodes made
    → ls.all ≡ range_with_len 0 count → ((i : ℕ) → has output i ≡ among ls.output i)
    → ((i : ℕ) → has inner i ≡ (has made.free.bits i && not (has output i)))
    → ((i : ℕ) → has inner i ≡ true → has others i ≡ list_any (λ (e : Entry). has e.free.bits i) es)
    → ((i : ℕ) → has bits i ≡ (has inner i && not (has others i)))
    → labels ≡ filter (has bits) (range_with_len 0 count) → labels ≡ labels_to_sum ls (map (tree_in nodes) es) (tree_in nodes made)
labels_are nodes es made ls bits inner output others count labels are is all out within any test e =
    e ∙ filtered_same (has bits) wanted (range_with_len 0 count) (λ i m. tests i) ∙ ap (filter wanted) (sym all)
  where
    wanted : ℕ → Bool
    wanted i = is_free (tree_in nodes made) i && not (among ls.output i || list_any (λ other. is_free other i) (map (tree_in nodes) es))

    anywhere : ℕ → Bool
    anywhere i = list_any (λ (e : Entry). has e.free.bits i) es

    -- by f, o, h and a: whether a label is free in the entry, in the output, found, and free in another entry
    by_tests : (f o h a : Bool) → ((f && not o) ≡ true → h ≡ a) → ((f && not o) && not h) ≡ (f && not (o || a))
    by_tests true true h a found = refl
    by_tests true false h a found = ap not (found refl)
    by_tests false o h a found = refl

    tests : (i : ℕ) → has bits i ≡ wanted i
    tests i =
        test i ∙ ap (λ x. x && not (has others i)) (within i)
        ∙ by_tests (has made.free.bits i) (has output i) (has others i) (anywhere i) (λ inside. any i (within i ∙ inside))
        ∙ ap₂ (λ x y. x && not y) (is.free i)
        (ap₂ (λ x y. x || y) (out i) (free_by_entries nodes es i (recursion_from_All (IsEntry nodes) es are)))

pub entry_added : (nodes after : List Node) (es now : List Entry) (entry : Entry) (tree : ContractionTree) → All (IsEntry nodes) es → Keeps nodes after → IsEntry after entry
    → tree_in after entry ≡ tree → now ≡ es ++ entry ∷ []
    → (map (tree_in after) now ≡ map (tree_in nodes) es ++ tree ∷ []) × All (IsEntry after) now
entry_added nodes after es now entry tree are keeps is of_tree e = (
  ap (map (tree_in after)) e ∙ map-append (tree_in after) es (entry ∷ [])
      ∙ ap₂ (λ ts t. ts ++ t ∷ []) (mapped_keeps nodes after es keeps (recursion_from_All (IsEntry nodes) es are)) of_tree,
  subst (All (IsEntry after)) (sym e) (All-push (IsEntry after) es entry (all_kept nodes after es keeps are) is),
)

-- the entry of an operand
pub operand_made : (nodes after : List Node) (entry : Entry) (node : Node) (number : ℕ) (labels : List ℕ)
    → tree_of_node (trees_of nodes) node ≡ leaf number labels → IsBehind (length nodes) node → after ≡ nodes ++ node ∷ [] → entry.node ≡ length nodes
    → ((i : ℕ) → has entry.free.bits i ≡ among labels i) → IsMade nodes after entry (leaf number labels)
operand_made nodes after entry node number labels of_node behind e at free = record {
  tree_is = tree_pushed nodes after node entry e at ∙ of_node;
  is = entry_pushed nodes after node entry e at (λ i. free i ∙ ap (λ t. is_free t i) (sym of_node));
  keeps = keeps_pushed nodes after node behind e;
}
