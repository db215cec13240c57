-- What the trees of a path refer to, and how many operations they have.
use Rattle.std.proofs.Common.{◌≡◌, ◌≢◌, ℕ, zero, suc, ◌+◌, ◌<◌, ◌≤◌, ◌^◌, Bool, true, false, not, ◌&&◌, ◌||◌, nat_lt, cond, List, [], ◌∷◌, ◌++◌, length, take, drop, remove, filter, refl, sym, ap, subst, ◌∙◌, arith, length-append}
use Rattle.std.specs.List.{AllByRecursion, list_any, range_with_len, sum_by}
use Rattle.std.proofs.lemmas.List.Sums.{sum_by-cons}
use Rattle.std.proofs.lemmas.List.Sorted.{sum_by-IsPermutation, IsPermutation-to_front}
use Rattle.std.proofs.lemmas.List.FromFn.{length-range_with_len}
use Rattle.tce_grammar.proofs.CanonicalLines.{all_joined}
use Rattle.tce_tree.specs.ContractionTree.{ContractionTree, leaf, constant, binary, sum, operations}
use Rattle.tce_tree.specs.WellFormed.{among}
use Rattle.tce_tree.proofs.Lists.{among_first, among_later}
use Rattle.tce_einsum.specs.Path.{Item, one, two, Fits, Leave}
use Rattle.tce_einsum.specs.Entries.{Labels, numbered, leaves, is_free, labels_to_sum, summed, entry_at, made, others, with_entry, contracted, entries_after, contraction}
use Rattle.tce_einsum.proofs.Contractions.{any_free, is_open, open_labels, Replaces, replaced, among-filtered, with_entry_free, taken, either_taken, others_left, contracted_left, as_many_leaves, only_entry, paths_leave_their_entries}

-- operands below `n` and labels below `m`, and a label in each sum
abbrev pub IsOver : ℕ → ℕ → ContractionTree → Type 0
IsOver n m (leaf k labels) = (k < n) × AllByRecursion (λ i. i < m) labels
IsOver n m (constant number) = number < 2 ^ 64
IsOver n m (binary op left right) = IsOver n m left × IsOver n m right
IsOver n m (sum labels operand) = (labels ≢ []) × AllByRecursion (λ i. i < m) labels × IsOver n m operand

abbrev AreOver : ℕ → ℕ → List ContractionTree → Type 0
AreOver n m ts = AllByRecursion (IsOver n m) ts

-- parts of lists

kept_front : {A : Type 0} (P : A → Type 0) (xs : List A) (i : ℕ) → AllByRecursion P xs → AllByRecursion P (take i xs)
kept_front P [] zero all = tt
kept_front P [] (suc i) all = tt
kept_front P (x ∷ xs) zero all = tt
kept_front P (x ∷ xs) (suc i) all = (all.0, kept_front P xs i all.1)

kept_back : {A : Type 0} (P : A → Type 0) (xs : List A) (i : ℕ) → AllByRecursion P xs → AllByRecursion P (drop i xs)
kept_back P [] zero all = tt
kept_back P [] (suc i) all = tt
kept_back P (x ∷ xs) zero all = all
kept_back P (x ∷ xs) (suc i) all = kept_back P xs i all.1

without : {A : Type 0} (P : A → Type 0) (xs : List A) (i : ℕ) → AllByRecursion P xs → AllByRecursion P (remove xs i)
without P xs i all = all_joined P (take i xs) (drop (suc i) xs) (kept_front P xs i all) (kept_back P xs (suc i) all)

filtered : {A : Type 0} (P : A → Type 0) (test : A → Bool) (xs : List A) → AllByRecursion P xs → AllByRecursion P (filter test xs)
filtered P test [] all = tt
filtered P test (x ∷ xs) all = by_test (test x) (filtered P test xs all.1)
  where
    by_test : (d : Bool) → AllByRecursion P (filter test xs) → AllByRecursion P (cond d (x ∷ filter test xs) (filter test xs))
    by_test true rest = (all.0, rest)
    by_test false rest = rest

-- the entries of a path

entry_over : (n m : ℕ) (es : List ContractionTree) (p : ℕ) → AreOver n m es → IsOver n m (entry_at es p)
entry_over n m [] zero all = omega arith
entry_over n m [] (suc p) all = omega arith
entry_over n m (t ∷ ts) zero all = all.0
entry_over n m (t ∷ ts) (suc p) all = entry_over n m ts p all.1

made_over : (n m : ℕ) (es : List ContractionTree) (item : Item) → AreOver n m es → IsOver n m (made es item)
made_over n m es (one p) all = entry_over n m es p all
made_over n m es (two p q) all = (entry_over n m es p all, entry_over n m es q all)

others_over : (n m : ℕ) (es : List ContractionTree) (item : Item) → AreOver n m es → AreOver n m (others es item)
others_over n m es (one p) all = without (IsOver n m) es p all
others_over n m es (two p q) all = by_order (nat_lt p q)
  where
    by_order : (d : Bool) → AreOver n m (cond d (remove (remove es q) p) (remove (remove es p) q))
    by_order true = without (IsOver n m) (remove es q) p (without (IsOver n m) es q all)
    by_order false = without (IsOver n m) (remove es p) q (without (IsOver n m) es p all)

summed_over : (n m : ℕ) (labels : List ℕ) (t : ContractionTree) → AllByRecursion (λ i. i < m) labels → IsOver n m t → IsOver n m (summed labels t)
summed_over n m [] t all is = is
summed_over n m (i ∷ labels) t all is = (λ e. cc, all, is)

contracted_over : (n m : ℕ) (ls : Labels) (es : List ContractionTree) (item : Item) → AllByRecursion (λ i. i < m) ls.all → AreOver n m es → AreOver n m (contracted ls es item)
contracted_over n m ls es item labels all =
    let rest : List ContractionTree = others es item in
    let t : ContractionTree = made es item in
    all_joined (IsOver n m) rest (summed (labels_to_sum ls rest t) t ∷ []) (others_over n m es item all) (
      summed_over n m (labels_to_sum ls rest t) t
          (filtered (λ i. i < m) (λ i. is_free t i && not (among ls.output i || list_any (λ other. is_free other i) rest)) ls.all labels)
          (made_over n m es item all),
      tt,
    )

after_over : (n m : ℕ) (ls : Labels) (es : List ContractionTree) (items : List Item) → AllByRecursion (λ i. i < m) ls.all → AreOver n m es → AreOver n m (entries_after ls es items)
after_over n m ls es [] labels all = all
after_over n m ls es (i ∷ items) labels all = after_over n m ls (contracted ls es i) items labels (contracted_over n m ls es i labels all)

leaves_over : (n m k : ℕ) (os : List (List ℕ)) → k + length os ≤ n → AllByRecursion (AllByRecursion (λ i. i < m)) os → AreOver n m (numbered leaf k os)
leaves_over n m k [] few all = tt
leaves_over n m k (o ∷ os) few all = ((omega (arith, few), all.0), leaves_over n m (k + 1) os (omega (arith, few)) all.1)

range_below : (m a n : ℕ) → a + n ≤ m → AllByRecursion (λ i. i < m) (range_with_len a n)
range_below m a zero few = tt
range_below m a (suc n) few = (omega (arith, few), range_below m (a + 1) n (omega (arith, few)))

pub contraction_over : (m : ℕ) (output : List ℕ) (os : List (List ℕ)) (items : List Item) → AllByRecursion (AllByRecursion (λ i. i < m)) os
    → IsOver (length os) m (contraction (record { all = range_with_len 0 m; output = output }) os items)
contraction_over m output os items all =
    let ls : Labels = record { all = range_with_len 0 m; output = output } in
    entry_over (length os) m (entries_after ls (leaves os) items) 0
    (after_over (length os) m ls (leaves os) items (range_below m 0 m (omega arith)) (leaves_over (length os) m 0 os (omega arith) all))

-- how many operations there are

abbrev one_if : Bool → ℕ
one_if b = cond b 1 0

abbrev work : List ContractionTree → ℕ
work ts = sum_by operations ts

-- the operations, entries and open labels of a list of entries
abbrev measure : Labels → List ContractionTree → ℕ
measure ls es = work es + length es + length (open_labels ls es)

spent : (es : List ContractionTree) (item : Item) → Fits (length es) item → operations (made es item) + work (others es item) + length (others es item) + 1 ≡ work es + length es
spent es (one p) fits =
    let rest : List ContractionTree = remove es p in
    let t : ContractionTree = entry_at es p in
    let same = sum_by-IsPermutation operations es (t ∷ rest) (taken es p fits) in
    omega (arith, same, sum_by-cons operations t rest, others_left es (one p) fits)
spent es (two p q) fits =
    let rest : List ContractionTree = others es (two p q) in
    let t : ContractionTree = entry_at es p in
    let u : ContractionTree = entry_at es q in
    let same = sum_by-IsPermutation operations es (t ∷ u ∷ rest) (either_taken es p q fits.0 fits.1 fits.2) in
    omega (arith, same, sum_by-cons operations t (u ∷ rest), sum_by-cons operations u rest, others_left es (two p q) fits, fits.0)

sum_costs : (labels : List ℕ) (t : ContractionTree) → operations (summed labels t) ≤ operations t + length labels
sum_costs [] t = omega arith
sum_costs (i ∷ labels) t = omega arith

filter_more : (d : Bool) (x : ℕ) (xs : List ℕ) → length (cond d (x ∷ xs) xs) ≡ one_if d + length xs
filter_more true x xs = omega arith
filter_more false x xs = omega arith

filters_split : (p q r : ℕ → Bool) (xs : List ℕ) → ((i : ℕ) → among xs i ≡ true → one_if (q i) + one_if (r i) ≡ one_if (p i))
    → length (filter q xs) + length (filter r xs) ≡ length (filter p xs)
filters_split p q r [] split = refl
filters_split p q r (x ∷ xs) split =
    omega (
      arith,
      split x (among_first x xs),
      filters_split p q r xs (λ i m. split i (among_later x xs i m)),
      filter_more (p x) x (filter p xs),
      filter_more (q x) x (filter q xs),
      filter_more (r x) x (filter r xs),
    )

-- by o, f and r: whether a label stands in the output, in the entry that is made, and in another entry
open_tests : (o f r : Bool) → one_if (not o && ((f && not ((f && not (o || r)) && true)) || r)) + one_if (f && not (o || r)) ≡ one_if (not o && (f || r))
open_tests true true true = refl
open_tests true true false = refl
open_tests true false true = refl
open_tests true false false = refl
open_tests false true true = refl
open_tests false true false = refl
open_tests false false true = refl
open_tests false false false = refl

-- labels that are summed are open no more
closed : (ls : Labels) (es rest : List ContractionTree) (t : ContractionTree) → Replaces es rest t
    → length (open_labels ls (with_entry ls rest t)) + length (labels_to_sum ls rest t) ≡ length (open_labels ls es)
closed ls es rest t r = filters_split (is_open ls es) (is_open ls (with_entry ls rest t)) new ls.all tests
  where
    new : ℕ → Bool
    new i = is_free t i && not (among ls.output i || any_free rest i)

    after : (i : ℕ) → among ls.all i ≡ true → any_free (with_entry ls rest t) i ≡ ((is_free t i && not (new i && true)) || any_free rest i)
    after i m =
        with_entry_free ls rest t i
        ∙ ap (λ d. (is_free t i && not d) || any_free rest i) (among-filtered new ls.all i ∙ ap (λ d. new i && d) m)

    tests : (i : ℕ) → among ls.all i ≡ true → one_if (is_open ls (with_entry ls rest t) i) + one_if (new i) ≡ one_if (is_open ls es i)
    tests i m =
        ap (λ d. one_if (not (among ls.output i) && d) + one_if (new i)) (after i m)
        ∙ open_tests (among ls.output i) (is_free t i) (any_free rest i)
        ∙ ap (λ d. one_if (not (among ls.output i) && d)) (sym (r.free i))

step : (ls : Labels) (es : List ContractionTree) (item : Item) → Fits (length es) item → measure ls (contracted ls es item) ≤ measure ls es
step ls es item fits =
    let rest : List ContractionTree = others es item in
    let t : ContractionTree = made es item in
    let new : List ℕ = labels_to_sum ls rest t in
    let s : ContractionTree = summed new t in
    let first = sum_by-IsPermutation operations (rest ++ s ∷ []) (s ∷ rest) (IsPermutation-to_front rest s) in
    omega (
      arith,
      first,
      sum_by-cons operations s rest,
      length-append rest (s ∷ []),
      sum_costs new t,
      closed ls es rest t (replaced es item fits),
      spent es item fits,
    )

steps : (ls : Labels) (es : List ContractionTree) (items : List Item) (m : ℕ) → Leave (length es) items m → measure ls (entries_after ls es items) ≤ measure ls es
steps ls es [] m leave = omega arith
steps ls es (i ∷ items) m leave =
    let rest = steps ls (contracted ls es i) items m (subst (λ n. Leave n items m) (sym (contracted_left ls es i leave.0)) leave.1) in
    omega (arith, rest, step ls es i leave.0)

filter_short : (p : ℕ → Bool) (xs : List ℕ) → length (filter p xs) ≤ length xs
filter_short p [] = omega arith
filter_short p (x ∷ xs) = omega (arith, filter_more (p x) x (filter p xs), filter_short p xs, small (p x))
  where
    small : (d : Bool) → one_if d ≤ 1
    small true = omega arith
    small false = omega arith

leaves_work : (k : ℕ) (os : List (List ℕ)) → work (numbered leaf k os) ≡ 0
leaves_work k [] = refl
leaves_work k (o ∷ os) = omega (arith, sum_by-cons operations (leaf k o) (numbered leaf (k + 1) os), leaves_work (k + 1) os)

-- at most one for each operand but one, and one for each label
pub contraction_work : (m : ℕ) (output : List ℕ) (os : List (List ℕ)) (items : List Item) → Leave (length os) items 1
    → operations (contraction (record { all = range_with_len 0 m; output = output }) os items) + 1 ≤ length os + m
contraction_work m output os items leave =
    let ls : Labels = record { all = range_with_len 0 m; output = output } in
    let es : List ContractionTree = entries_after ls (leaves os) items in
    let leaves_leave : Leave (length (leaves os)) items 1 = subst (λ n. Leave n items 1) (sym (as_many_leaves 0 os)) leave in
    let alone : length es ≡ 1 = paths_leave_their_entries ls os items 1 leave in
    let single : work es ≡ work (entry_at es 0 ∷ []) = ap work (only_entry es alone) in
    omega (
      arith,
      alone,
      single,
      sum_by-cons operations (entry_at es 0) [],
      steps ls (leaves os) items 1 leaves_leave,
      leaves_work 0 os,
      as_many_leaves 0 os,
      filter_short (is_open ls (leaves os)) ls.all,
      length-range_with_len 0 m,
    )
