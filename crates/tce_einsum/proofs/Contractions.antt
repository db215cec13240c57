-- Each item of a path keeps the value of all entries together.
use Rattle.std.proofs.Common.{◌≡◌, ◌≢◌, ℕ, suc, ◌+◌, ◌-◌, ◌<◌, ◌≤◌, Bool, true, false, not, ◌&&◌, ◌||◌, nat_lt, cond, List, [], ◌∷◌, ◌++◌, map, length, remove, filter, IsPermutation, refl, sym, ap, ap₂, subst, ◌∙◌, arith, inl, inr, eqb}
use Rattle.std.specs.List.{list_any}
use Rattle.std.proofs.lemmas.Bool.{cases_Bool, cases_eq, and_parts, and_from, or_left, or_right, or_parts, or_from, ltb-true, ltb-false, true≢false, not_from_false, not-true, eq-eqb, ne_eqb}
use Rattle.std.proofs.lemmas.List.{length-append, get_or_default}
use Rattle.std.proofs.lemmas.List.Edits.{length-remove, get_or-remove_below}
use Rattle.std.proofs.lemmas.List.Sorted.{IsPermutation-remove, IsPermutation-map, IsPermutation-cons, IsPermutation-trans, IsPermutation-middle, IsPermutation-to_front, list_any-IsPermutation}
use Rattle.tce_base.specs.Word.{word, wrapping_mul}
use Rattle.tce_tree.specs.ContractionTree.{ContractionTree, multiply, leaf, constant, binary, sum}
use Rattle.tce_tree.specs.WellFormed.{among, is_distinct}
use Rattle.tce_tree.specs.Value.{Assignment, with_number, Elements, arithmetic, sum_over, value}
use Rattle.tce_tree.proofs.Values.{map-same, value-lt, sum_over-depends}
use Rattle.tce_tree.proofs.Lists.{among_first, among_later, distinct_first, distinct_later, distinct_from}
use Rattle.tce_tree.proofs.Permutations.{distinct-filter}
use Rattle.tce_tree.proofs.Sums.{sum_over_permuted}
use Rattle.tce_einsum.specs.Path.{Item, one, two, Fits, left_by, Leave}
use Rattle.tce_einsum.specs.Entries.{Labels, AreUsed, numbered, leaves, is_free, labels_to_sum, summed, entry_at, made, others, with_entry, contracted, entries_after}
use Rattle.tce_einsum.specs.EinsumValue.{product, elements, einsum_value}
use Rattle.tce_einsum.specs.ContractionLaws.{PathsLeaveTheirEntries, EveryPathHasTheValue}
use Rattle.tce_einsum.proofs.ValueLaws.{mul_grouped, sum_over_times, sum_over-same, sum_over_joined}
use Rattle.tce_einsum.proofs.Products.{products_have_no_order, mul_one}

-- the product of all entries, and whether a label is free in one
abbrev pub together : Elements → List ContractionTree → Assignment → ℕ
together e entries a = product (map (λ t. value e t a) entries)

abbrev pub any_free : List ContractionTree → ℕ → Bool
any_free entries i = list_any (λ t. is_free t i) entries

-- the labels that are still to be summed
abbrev pub is_open : Labels → List ContractionTree → ℕ → Bool
is_open ls entries i = not (among ls.output i) && any_free entries i

abbrev pub open_labels : Labels → List ContractionTree → List ℕ
open_labels ls entries = filter (is_open ls entries) ls.all

-- what all entries stand for together
abbrev total : Elements → Labels → List ContractionTree → Assignment → ℕ
total e ls entries a = sum_over e.extent (open_labels ls entries) (together e entries) a

-- lists that are filtered
pub among-filtered : (p : ℕ → Bool) (xs : List ℕ) (i : ℕ) → among (filter p xs) i ≡ (p i && among xs i)
among-filtered p [] i = elim (cases_Bool (p i)) [ inl e ↦ rw e refl | inr e ↦ rw e refl ]
among-filtered p (x ∷ xs) i =
    elim (cases_eq x i) [
      | inl at_i ↦ elim (cases_Bool (p i)) [
        | inl here ↦ rw (ap p at_i ∙ here, here, eq-eqb x i at_i) refl
        | inr lacks ↦ rw (ap p at_i ∙ lacks, lacks) (among-filtered p xs i ∙ rw lacks refl)
      ]
      | inr apart ↦ elim (cases_Bool (p x)) [
        | inl here ↦ rw (here, ne_eqb x i apart) (among-filtered p xs i)
        | inr lacks ↦ rw (lacks, ne_eqb x i apart) (among-filtered p xs i)
      ]
    ]

pub filtered_same : (p q : ℕ → Bool) (xs : List ℕ) → ((i : ℕ) → among xs i ≡ true → p i ≡ q i) → filter p xs ≡ filter q xs
filtered_same p q [] same = refl
filtered_same p q (x ∷ xs) same =
    rw (same x (among_first x xs)) (ap (λ (ys : List ℕ). cond (q x) (x ∷ ys) ys) (filtered_same p q xs (λ i m. same i (among_later x xs i m))))

filtered_none : (p : ℕ → Bool) (xs : List ℕ) → ((i : ℕ) → among xs i ≡ true → p i ≡ false) → filter p xs ≡ []
filtered_none p [] none = refl
filtered_none p (x ∷ xs) none = rw (none x (among_first x xs)) (filtered_none p xs (λ i m. none i (among_later x xs i m)))

among-joined : (xs ys : List ℕ) (i : ℕ) → among (xs ++ ys) i ≡ (among xs i || among ys i)
among-joined [] ys i = refl
among-joined (x ∷ xs) ys i = elim (cases_Bool (eqb x i)) [ inl e ↦ rw e refl | inr e ↦ rw e (among-joined xs ys i) ]

distinct-joined : (xs ys : List ℕ) → is_distinct xs ≡ true → is_distinct ys ≡ true → ((i : ℕ) → among xs i ≡ true → among ys i ≡ false) → is_distinct (xs ++ ys) ≡ true
distinct-joined [] ys dx dy apart = dy
distinct-joined (x ∷ xs) ys dx dy apart =
    distinct_from x (xs ++ ys)
    (among-joined xs ys x ∙ or_from (among xs x) (among ys x) (distinct_first x xs dx) (apart x (among_first x xs)))
    (distinct-joined xs ys (distinct_later x xs dx) dy (λ i m. apart i (among_later x xs i m)))

-- a value changes with the numbers of its free labels alone
value_by_free : (e : Elements) (t : ContractionTree) (a b : Assignment) → ((i : ℕ) → is_free t i ≡ true → a i ≡ b i) → value e t a ≡ value e t b
value_by_free e (leaf k is) a b same = ap (λ at. word (e.cell k at)) (map-same is a b same)
value_by_free e (constant n) a b same = refl
value_by_free e (binary op l r) a b same =
    ap₂ (arithmetic op)
    (value_by_free e l a b (λ i m. same i (or_left (is_free l i) (is_free r i) m)))
    (value_by_free e r a b (λ i m. same i (or_right (is_free l i) (is_free r i) m)))
value_by_free e (sum is t) a b same =
    sum_over-depends e.extent is (value e t) (is_free t) (λ c d k. value_by_free e t c d k) a b
    (λ i f m. same i (and_from (is_free t i) (not (among is i)) f (not_from_false (among is i) m)))

together_by_free : (e : Elements) (ts : List ContractionTree) (a b : Assignment) → ((i : ℕ) → any_free ts i ≡ true → a i ≡ b i) → together e ts a ≡ together e ts b
together_by_free e [] a b same = refl
together_by_free e (t ∷ ts) a b same =
    ap₂ wrapping_mul (value_by_free e t a b (λ i m. same i (or_left (is_free t i) (any_free ts i) m)))
    (together_by_free e ts a b (λ i m. same i (or_right (is_free t i) (any_free ts i) m)))

-- the entry that is made and the others, for the entries that were there
pub record Replaces (entries rest : List ContractionTree) (entry : ContractionTree) : Type 0 where
  pub worth : (e : Elements) (a : Assignment) → together e entries a ≡ wrapping_mul (value e entry a) (together e rest a)
  pub free : (i : ℕ) → any_free entries i ≡ (is_free entry i || any_free rest i)

together_permuted : (e : Elements) (xs ys : List ContractionTree) (a : Assignment) → IsPermutation xs ys → together e xs a ≡ together e ys a
together_permuted e xs ys a same =
    products_have_no_order (map (λ t. value e t a) xs) (map (λ t. value e t a) ys) (IsPermutation-map (λ t. value e t a) xs ys same)

any_free_permuted : (xs ys : List ContractionTree) (i : ℕ) → IsPermutation xs ys → any_free xs i ≡ any_free ys i
any_free_permuted xs ys i same = list_any-IsPermutation (λ t. is_free t i) xs ys same

replaces_one : (xs rest : List ContractionTree) (t : ContractionTree) → IsPermutation xs (t ∷ rest) → Replaces xs rest t
replaces_one xs rest t same = record {
  worth = λ e a. together_permuted e xs (t ∷ rest) a same;
  free = λ i. any_free_permuted xs (t ∷ rest) i same;
}

replaces_two : (xs rest : List ContractionTree) (t u : ContractionTree) → IsPermutation xs (t ∷ u ∷ rest) → Replaces xs rest (binary multiply t u)
replaces_two xs rest t u same = record {
  worth = λ e a. together_permuted e xs (t ∷ u ∷ rest) a same ∙ sym (mul_grouped (value e t a) (value e u a) (together e rest a));
  free = λ i. any_free_permuted xs (t ∷ u ∷ rest) i same ∙ grouped (is_free t i) (is_free u i) (any_free rest i);
}
  where
    grouped : (a b c : Bool) → (a || (b || c)) ≡ ((a || b) || c)
    grouped true b c = refl
    grouped false b c = refl

-- an item takes the entry that it makes out of the list
pub taken : (es : List ContractionTree) (p : ℕ) → p < length es → IsPermutation es (entry_at es p ∷ remove es p)
taken es p inside = IsPermutation-remove es p (entry_at es p) inside (get_or_default es p (constant 0) (entry_at es p) inside)

-- two of them, of which the first stands in front of the second
both_taken : (es : List ContractionTree) (p q : ℕ) → p < q → q < length es → IsPermutation es (entry_at es q ∷ entry_at es p ∷ remove (remove es q) p)
both_taken es p q less inside =
    let shorter = length-remove es q inside in
    IsPermutation-trans es (entry_at es q ∷ remove es q) (entry_at es q ∷ entry_at es p ∷ remove (remove es q) p) (taken es q inside)
    (IsPermutation-cons (entry_at es q) (remove es q) (entry_at es p ∷ remove (remove es q) p)
    (subst (λ t. IsPermutation (remove es q) (t ∷ remove (remove es q) p)) (get_or-remove_below es q (constant 0) p less inside)
    (taken (remove es q) p (omega arith))))

pub either_taken : (es : List ContractionTree) (p q : ℕ) → p < length es → q < length es → p ≢ q → IsPermutation es (entry_at es p ∷ entry_at es q ∷ others es (two p q))
either_taken es p q inside_p inside_q apart = by_order (nat_lt p q) refl
  where
    ne_lt : (p q : ℕ) → p ≢ q → q ≤ p → q < p
    ne_lt p q apart least = grind arith

    by_order : (d : Bool) → nat_lt p q ≡ d → IsPermutation es (entry_at es p ∷ entry_at es q ∷ others es (two p q))
    by_order true e = rw e
        (IsPermutation-trans es (entry_at es q ∷ entry_at es p ∷ remove (remove es q) p) (entry_at es p ∷ entry_at es q ∷ remove (remove es q) p)
        (both_taken es p q (ltb-true p q e) inside_q) (IsPermutation-middle (entry_at es q ∷ []) (entry_at es p) (remove (remove es q) p)))
    by_order false e =
        let less = ltb-false p q e in
        let other = ne_lt p q apart less in
        rw e (both_taken es q p other inside_p)

pub replaced : (es : List ContractionTree) (item : Item) → Fits (length es) item → Replaces es (others es item) (made es item)
replaced es (one p) fits = replaces_one es (remove es p) (entry_at es p) (taken es p fits)
replaced es (two p q) fits = replaces_two es (others es (two p q)) (entry_at es p) (entry_at es q) (either_taken es p q fits.0 fits.1 fits.2)

-- what is summed is summed of all
with_sum : (is : List ℕ) (e : Elements) (t : ContractionTree) (a : Assignment) → value e (summed is t) a ≡ sum_over e.extent is (value e t) a
with_sum [] e t a = refl
with_sum (i ∷ is) e t a = refl

pub free_of_sum : (is : List ℕ) (t : ContractionTree) (i : ℕ) → is_free (summed is t) i ≡ (is_free t i && not (among is i))
free_of_sum [] t i = elim (cases_Bool (is_free t i)) [ inl e ↦ rw e refl | inr e ↦ rw e refl ]
free_of_sum (j ∷ is) t i = refl

with_entry_worth : (e : Elements) (ls : Labels) (rest : List ContractionTree) (t : ContractionTree) (a : Assignment)
    → together e (with_entry ls rest t) a ≡ sum_over e.extent (labels_to_sum ls rest t) (λ b. wrapping_mul (value e t b) (together e rest b)) a
with_entry_worth e ls rest t a =
    let new : List ℕ = labels_to_sum ls rest t in
    together_permuted e (with_entry ls rest t) (summed new t ∷ rest) a (IsPermutation-to_front rest (summed new t))
    ∙ ap (λ n. wrapping_mul n (together e rest a)) (with_sum new e t a)
    ∙ sum_over_times e.extent new (value e t) (together e rest) a (λ b i x m. together_by_free e rest (with_number b i x) b (λ j f. kept j i x b f m))
  where
    kept : (j i x : ℕ) (b : Assignment) → any_free rest j ≡ true → among (labels_to_sum ls rest t) i ≡ true → with_number b i x j ≡ b j
    kept j i x b f m =
        elim (cases_eq j i) [
          | inl at_i ↦ absurd (true≢false (sym f ∙ ap (any_free rest) at_i ∙ lacking i m))
          | inr apart ↦ rw (ne_eqb j i apart) refl
        ]
      where
        lacking : (i : ℕ) → among (labels_to_sum ls rest t) i ≡ true → any_free rest i ≡ false
        lacking i m = (or_parts (among ls.output i) (any_free rest i) (not-true (among ls.output i || any_free rest i)
            (and_parts (is_free t i) (not (among ls.output i || any_free rest i))
            (and_parts (is_free t i && not (among ls.output i || any_free rest i)) (among ls.all i)
            (sym (among-filtered (λ k. is_free t k && not (among ls.output k || any_free rest k)) ls.all i) ∙ m)).0).1)).1

pub with_entry_free : (ls : Labels) (rest : List ContractionTree) (t : ContractionTree) (i : ℕ)
    → any_free (with_entry ls rest t) i ≡ ((is_free t i && not (among (labels_to_sum ls rest t) i)) || any_free rest i)
with_entry_free ls rest t i =
    any_free_permuted (with_entry ls rest t) (summed (labels_to_sum ls rest t) t ∷ rest) i (IsPermutation-to_front rest (summed (labels_to_sum ls rest t) t))
    ∙ ap (λ b. b || any_free rest i) (free_of_sum (labels_to_sum ls rest t) t i)

-- by o, f, r and m: whether a label stands in the output, in the entry, in another entry, and at all
joined_tests : (o f r m : Bool) → (((not o && ((f && not ((f && not (o || r)) && m)) || r)) && m) || ((f && not (o || r)) && m)) ≡ ((not o && (f || r)) && m)
joined_tests true true true true = refl
joined_tests true true true false = refl
joined_tests true true false true = refl
joined_tests true true false false = refl
joined_tests true false true true = refl
joined_tests true false true false = refl
joined_tests true false false true = refl
joined_tests true false false false = refl
joined_tests false true true true = refl
joined_tests false true true false = refl
joined_tests false true false true = refl
joined_tests false true false false = refl
joined_tests false false true true = refl
joined_tests false false true false = refl
joined_tests false false false true = refl
joined_tests false false false false = refl

apart_tests : (o f r m : Bool) → ((not o && ((f && not ((f && not (o || r)) && m)) || r)) && m) ≡ true → ((f && not (o || r)) && m) ≡ false
apart_tests o false r m e = refl
apart_tests true true r m e = refl
apart_tests false true true m e = refl
apart_tests false true false true e = absurd (true≢false (sym e))
apart_tests false true false false e = refl

closed_tests : (o f : Bool) → (not o && ((f && not ((f && not (o || false)) && true)) || false)) ≡ false
closed_tests true f = refl
closed_tests false true = refl
closed_tests false false = refl

-- an item keeps what all entries stand for together
keeps_total : (e : Elements) (ls : Labels) (es rest : List ContractionTree) (t : ContractionTree) (a : Assignment) → is_distinct ls.all ≡ true → Replaces es rest t
    → total e ls (with_entry ls rest t) a ≡ total e ls es a
keeps_total e ls es rest t a distinct r =
    let new : List ℕ = labels_to_sum ls rest t in
    let left : List ℕ = open_labels ls (with_entry ls rest t) in
    sum_over-same e.extent left (together e (with_entry ls rest t)) (sum_over e.extent new (together e es)) a
    (λ b. with_entry_worth e ls rest t b
    ∙ sum_over-same e.extent new (λ c. wrapping_mul (value e t c) (together e rest c)) (together e es) b (λ c. sym (r.worth e c)))
    ∙ sum_over_joined e.extent left new (together e es) a
    ∙ sum_over_permuted e.extent (left ++ new) (open_labels ls es) (together e es) a
    (distinct-joined left new (distinct-filter (is_open ls (with_entry ls rest t)) ls.all distinct)
    (distinct-filter (λ i. is_free t i && not (among ls.output i || any_free rest i)) ls.all distinct) apart)
    (distinct-filter (is_open ls es) ls.all distinct) same
  where
    new_test : (i : ℕ) → among (labels_to_sum ls rest t) i ≡ ((is_free t i && not (among ls.output i || any_free rest i)) && among ls.all i)
    new_test i = among-filtered (λ k. is_free t k && not (among ls.output k || any_free rest k)) ls.all i

    left_test : (i : ℕ) → among (open_labels ls (with_entry ls rest t)) i
        ≡ ((not (among ls.output i)
        && ((is_free t i && not ((is_free t i && not (among ls.output i || any_free rest i)) && among ls.all i)) || any_free rest i)) && among ls.all i)
    left_test i =
        among-filtered (is_open ls (with_entry ls rest t)) ls.all i
        ∙ ap (λ d. (not (among ls.output i) && d) && among ls.all i)
        (with_entry_free ls rest t i ∙ ap (λ d. (is_free t i && not d) || any_free rest i) (new_test i))

    same : (i : ℕ) → among (open_labels ls (with_entry ls rest t) ++ labels_to_sum ls rest t) i ≡ among (open_labels ls es) i
    same i =
        among-joined (open_labels ls (with_entry ls rest t)) (labels_to_sum ls rest t) i
        ∙ ap₂ (λ c d. c || d) (left_test i) (new_test i)
        ∙ joined_tests (among ls.output i) (is_free t i) (any_free rest i) (among ls.all i)
        ∙ ap (λ d. (not (among ls.output i) && d) && among ls.all i) (sym (r.free i))
        ∙ sym (among-filtered (is_open ls es) ls.all i)

    apart : (i : ℕ) → among (open_labels ls (with_entry ls rest t)) i ≡ true → among (labels_to_sum ls rest t) i ≡ false
    apart i m = new_test i ∙ apart_tests (among ls.output i) (is_free t i) (any_free rest i) (among ls.all i) (sym (left_test i) ∙ m)

-- an entry alone has no label that is still to be summed
settled : (ls : Labels) (t : ContractionTree) → open_labels ls (with_entry ls [] t) ≡ []
settled ls t = filtered_none (is_open ls (with_entry ls [] t)) ls.all closed
  where
    closed : (i : ℕ) → among ls.all i ≡ true → is_open ls (with_entry ls [] t) i ≡ false
    closed i m =
        ap (λ d. not (among ls.output i) && d)
        (with_entry_free ls [] t i
        ∙ ap (λ d. (is_free t i && not d) || false) (among-filtered (λ k. is_free t k && not (among ls.output k || false)) ls.all i ∙ ap (λ d. (is_free t i && not (among ls.output i || false)) && d) m))
        ∙ closed_tests (among ls.output i) (is_free t i)

settled_alone : (ls : Labels) (rest : List ContractionTree) (t u : ContractionTree) → with_entry ls rest t ≡ u ∷ [] → open_labels ls (with_entry ls rest t) ≡ []
settled_alone ls [] t u alone = settled ls t
settled_alone ls (x ∷ xs) t u alone =
    let long : length (xs ++ summed (labels_to_sum ls (x ∷ xs) t) t ∷ []) + 1 ≡ 1 = omega (arith, ap length alone) in
    absurd (omega (arith, length-append xs (summed (labels_to_sum ls (x ∷ xs) t) t ∷ [])))

-- how many entries an item leaves
pub others_left : (es : List ContractionTree) (item : Item) → Fits (length es) item → length (others es item) + 1 ≡ left_by (length es) item
others_left es (one p) fits = length-remove es p fits
others_left es (two p q) fits = by_order (nat_lt p q) refl
  where
    ne_lt : (p q : ℕ) → p ≢ q → q ≤ p → q < p
    ne_lt p q apart least = grind arith

    by_order : (d : Bool) → nat_lt p q ≡ d → length (others es (two p q)) + 1 ≡ length es - 1
    by_order true e =
        let less = ltb-true p q e in
        let first = length-remove es q fits.1 in
        let second = length-remove (remove es q) p (omega arith) in
        rw e (omega arith)
    by_order false e =
        let less = ne_lt p q fits.2 (ltb-false p q e) in
        let first = length-remove es p fits.0 in
        let second = length-remove (remove es p) q (omega arith) in
        rw e (omega arith)

pub contracted_left : (ls : Labels) (es : List ContractionTree) (item : Item) → Fits (length es) item → length (contracted ls es item) ≡ left_by (length es) item
contracted_left ls es item fits = length-append (others es item) (summed (labels_to_sum ls (others es item) (made es item)) (made es item) ∷ []) ∙ others_left es item fits

-- the one entry that a path leaves
path_keeps : (e : Elements) (ls : Labels) (es : List ContractionTree) (items : List Item) (a : Assignment) → is_distinct ls.all ≡ true → Leave (length es) items 1
    → ((t : ContractionTree) → es ≡ t ∷ [] → open_labels ls es ≡ []) → value e (entry_at (entries_after ls es items) 0) a ≡ total e ls es a
path_keeps e ls [] [] a distinct leave closed = absurd (omega (arith, leave))
path_keeps e ls (t ∷ []) [] a distinct leave closed =
    sym (mul_one (value e t a) (value-lt e t a)) ∙ ap (λ (is : List ℕ). sum_over e.extent is (together e (t ∷ [])) a) (sym (closed t refl))
path_keeps e ls (t ∷ u ∷ ts) [] a distinct leave closed = absurd (omega (arith, leave))
path_keeps e ls es (i ∷ items) a distinct leave closed =
    path_keeps e ls (contracted ls es i) items a distinct (subst (λ n. Leave n items 1) (sym (contracted_left ls es i leave.0)) leave.1)
    (λ t alone. settled_alone ls (others es i) (made es i) t alone)
    ∙ keeps_total e ls es (others es i) (made es i) a distinct (replaced es i leave.0)

-- the operands
free_in_leaves : (k : ℕ) (os : List (List ℕ)) (i : ℕ) → any_free (numbered leaf k os) i ≡ list_any (λ labels. among labels i) os
free_in_leaves k [] i = refl
free_in_leaves k (o ∷ os) i = ap (λ d. among o i || d) (free_in_leaves (k + 1) os i)

leaves_together : (e : Elements) (k : ℕ) (os : List (List ℕ)) (a : Assignment) → together e (numbered leaf k os) a ≡ product (numbered (λ j labels. word (e.cell j (map a labels))) k os)
leaves_together e k [] a = refl
leaves_together e k (o ∷ os) a = ap (wrapping_mul (word (e.cell k (map a o)))) (leaves_together e (k + 1) os a)

total_of_leaves : (e : Elements) (ls : Labels) (os : List (List ℕ)) (a : Assignment) → AreUsed ls os → total e ls (leaves os) a ≡ einsum_value e ls os a
total_of_leaves e ls os a used =
    sum_over-same e.extent (open_labels ls (leaves os)) (together e (leaves os)) (λ b. product (elements e os b)) a (leaves_together e 0 os)
    ∙ ap (λ (is : List ℕ). sum_over e.extent is (λ b. product (elements e os b)) a)
    (filtered_same (is_open ls (leaves os)) (λ i. not (among ls.output i)) ls.all (λ i m. by_use (among ls.output i) (any_free (leaves os) i)
    (ap (λ d. among ls.output i || d) (free_in_leaves 0 os i) ∙ used.stand i m)))
  where
    by_use : (o f : Bool) → (o || f) ≡ true → (not o && f) ≡ not o
    by_use true f e = refl
    by_use false f e = e

pub as_many_leaves : (k : ℕ) (os : List (List ℕ)) → length (numbered leaf k os) ≡ length os
as_many_leaves k [] = refl
as_many_leaves k (o ∷ os) = ap suc (as_many_leaves (k + 1) os)

entries_left : (ls : Labels) (es : List ContractionTree) (items : List Item) (m : ℕ) → Leave (length es) items m → length (entries_after ls es items) ≡ m
entries_left ls es [] m leave = leave
entries_left ls es (i ∷ items) m leave = entries_left ls (contracted ls es i) items m (subst (λ n. Leave n items m) (sym (contracted_left ls es i leave.0)) leave.1)

pub paths_leave_their_entries : PathsLeaveTheirEntries
paths_leave_their_entries ls os items m leave = entries_left ls (leaves os) items m (subst (λ n. Leave n items m) (sym (as_many_leaves 0 os)) leave)

pub every_path_has_the_value : EveryPathHasTheValue
every_path_has_the_value e ls os i items a used leave =
    path_keeps e ls (contracted ls (leaves os) i) items a used.once (subst (λ n. Leave n items 1) (sym (contracted_left ls (leaves os) i all_leave.0)) all_leave.1)
    (λ t alone. settled_alone ls (others (leaves os) i) (made (leaves os) i) t alone)
    ∙ keeps_total e ls (leaves os) (others (leaves os) i) (made (leaves os) i) a used.once (replaced (leaves os) i all_leave.0)
    ∙ total_of_leaves e ls os a used
  where
    all_leave : Leave (length (leaves os)) (i ∷ items) 1
    all_leave = subst (λ n. Leave n (i ∷ items) 1) (sym (as_many_leaves 0 os)) leave

-- a list of one entry
pub only_entry : (es : List ContractionTree) → length es ≡ 1 → es ≡ entry_at es 0 ∷ []
only_entry [] long = absurd (omega arith)
only_entry (t ∷ []) long = refl
only_entry (t ∷ u ∷ ts) long = absurd (omega arith)
