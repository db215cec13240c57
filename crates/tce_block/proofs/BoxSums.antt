-- A sum over a box is the sum of those over its blocks.
use Rattle.std.proofs.Common.{◌≡◌, ◌∙◌, ℕ, ◌+◌, ◌-◌, ◌*◌, ◌<◌, ◌≤◌, ◌^◌, min, true, false, eqb, List, [], ◌∷◌, map, refl, sym, ap, inl, inr, zero-add}
use Rattle.std.specs.Int.{div_ceil}
use Rattle.std.proofs.lemmas.Bool.{true≢false, ne_eqb, cases_eq, eq-eqb, or_left}
use Rattle.std.proofs.lemmas.Grind.{div_ceil_times}
use Rattle.std.proofs.lemmas.Simd.{map-map}
use Rattle.std.proofs.Math.Nat.{min-eq_left}
use Rattle.std.specs.Prelude.{IsTrue}
use Rattle.std.specs.List.Sorted.{IsPermutation}
use Rattle.tce_base.specs.Word.{wrapping_add, wrapping_sum}
use Rattle.tce_base.proofs.Words.{plus-zero}
use mathlib.Core.Path.{fun_ext}
use Rattle.tce_space.specs.Box.{places}
use Rattle.tce_space.specs.Tiling.{ArePositive, counts_along}
use Rattle.tce_tree.specs.WellFormed.{among, is_distinct}
use Rattle.tce_tree.specs.Value.{Assignment, with_number, assignment, sum_below, sum_over}
use Rattle.tce_tree.proofs.Lists.{among_first, among_later, distinct_first, distinct_later}
use Rattle.tce_tree.proofs.Values.{sum_below-same, sum_over-lt}
use Rattle.tce_tree.proofs.Permutations.{distinct-permutation, among-permutation}
use Rattle.tce_tree.proofs.Assignments.{with-same, with-other, with_number_comm}
use Rattle.tce_tree.proofs.Sums.{sum_over_permuted}
use Rattle.tce_block.specs.Parts.{Part, beginnings, lengths, block, blocks}
use Rattle.tce_block.specs.Sums.{moved, part_sum}
use Rattle.tce_block.proofs.Words.{sum_below-parts, total, total-cons, total-nil, total-same, total-flat, total-sum_below}

pub with_number_twice : (a : Assignment) (i x y : ℕ) → with_number (with_number a i x) i y ≡ with_number a i y
with_number_twice a i x y = fun_ext (λ k. elim (cases_eq k i) [ inl p ↦ rw (eq-eqb k i p) refl | inr p ↦ rw (ne_eqb k i p) refl ])

-- the numbers that are given to indexes
pub assignment-absent : (is xs : List ℕ) (j : ℕ) → among is j ≡ false → assignment is xs j ≡ 0
assignment-absent [] xs j h = refl
assignment-absent (i ∷ is) [] j h = refl
assignment-absent (i ∷ is) (x ∷ xs) j h =
    elim (cases_eq j i) [
      | inl q ↦ absurd (true≢false (sym (or_left (eqb i j) (among is j) (eq-eqb i j (sym q))) ∙ h))
      | inr q ↦ with-other (assignment is xs) i x j q ∙ assignment-absent is xs j (rw (ne_eqb i j (λ r. q (sym r))) at h)
    ]

-- one index of a part: its beginning is added to its number
pub moved_first : (i : ℕ) (rest from : List ℕ) (s : ℕ) (b : Assignment) → among rest i ≡ false → moved (i ∷ rest) (s ∷ from) b ≡ moved rest from (with_number b i (s + b i))
moved_first i rest from s b out = fun_ext (λ j.
    elim (cases_eq j i) [
      | inl q ↦ rw (eq-eqb j i q) (ap (λ k. s + b k) q ∙ sym (zero-add (s + b i)) ∙ ap (λ n. n + (s + b i)) (sym (assignment-absent rest from j (ap (among rest) q ∙ out))))
      | inr q ↦ rw (ne_eqb j i q) refl
    ])

sum_over_moved : (extent len : ℕ → ℕ) (rest : List ℕ) (g : Assignment → ℕ) (i s : ℕ) (u : Assignment) → among rest i ≡ false → ((j : ℕ) → among rest j ≡ true → extent j ≡ len j)
    → sum_over extent rest (λ b. g (with_number b i (s + b i))) u ≡ sum_over len rest g (with_number u i (s + u i))
sum_over_moved extent len [] g i s u out same = refl
sum_over_moved extent len (j ∷ rest) g i s u out same =
    elim (cases_eq i j) [
      | inl q ↦ absurd (true≢false (sym (or_left (eqb j i) (among rest i) (eq-eqb j i (sym q))) ∙ out))
      | inr q ↦
          ap (λ n. sum_below n (λ x. sum_over extent rest (λ b. g (with_number b i (s + b i))) (with_number u j x))) (same j (among_first j rest))
          ∙ sum_below-same (len j) _ (λ x. sum_over len rest g (with_number (with_number u i (s + u i)) j x)) (λ x l.
          sum_over_moved extent len rest g i s (with_number u j x) (rw (ne_eqb j i (λ r. q (sym r))) at out) (λ k m. same k (among_later j rest k m))
          ∙ ap (λ n. sum_over len rest g (with_number (with_number u j x) i (s + n))) (with-other u j x i q)
          ∙ ap (sum_over len rest g) (with_number_comm u j x i (s + u i) (λ r. q (sym r))))
    ]

-- the sum over a part, its first loop outermost
part_sum_first : (i : ℕ) (rest : List ℕ) (f : Assignment → ℕ) (a : Assignment) (s l : ℕ) (from len : List ℕ) → among rest i ≡ false
    → part_sum (i ∷ rest) (i ∷ rest) f a (record { from = s ∷ from; len = l ∷ len }) ≡ sum_below l (λ y. part_sum rest rest f (with_number a i (s + y)) (record { from = from; len = len }))
part_sum_first i rest f a s l from len out =
    let lens : ℕ → ℕ = assignment (i ∷ rest) (l ∷ len) in
    let moves : Assignment → ℕ = λ b. f (moved rest from b) in
    let same : (λ (b : Assignment). f (moved (i ∷ rest) (s ∷ from) b)) ≡ (λ (b : Assignment). moves (with_number b i (s + b i))) = fun_ext (λ b. ap f (moved_first i rest from s b out)) in
    ap (λ n. sum_below n (λ y. sum_over lens rest (λ b. f (moved (i ∷ rest) (s ∷ from) b)) (with_number a i y))) (with-same (assignment rest len) i l)
    ∙ sum_below-same l _ (λ y. part_sum rest rest f (with_number a i (s + y)) (record { from = from; len = len })) (λ y low.
    ap (λ g. sum_over lens rest g (with_number a i y)) same
    ∙ sum_over_moved lens (assignment rest len) rest moves i s (with_number a i y) out
    (λ j m. with-other (assignment rest len) i l j (λ q. true≢false (sym m ∙ ap (among rest) q ∙ out)))
    ∙ ap (λ n. sum_over (assignment rest len) rest moves (with_number (with_number a i y) i (s + n))) (with-same a i y)
    ∙ ap (sum_over (assignment rest len) rest moves) (with_number_twice a i y (s + y)))

total-map : {X Y : Type 0} (g : Y → ℕ) (k : X → Y) (xs : List X) → total g (map k xs) ≡ total (λ x. g (k x)) xs
unfolding total
total-map g k xs = ap wrapping_sum (map-map g k xs)

pub box_total : (extent edge : ℕ → ℕ) (indexes : List ℕ) (f : Assignment → ℕ) (a : Assignment) → is_distinct indexes ≡ true → ArePositive (map edge indexes) → ((b : Assignment) → f b < 2 ^ 64)
    → sum_over extent indexes f a ≡ total (part_sum indexes indexes f a) (blocks (map extent indexes) (map edge indexes))
unfolding blocks
box_total extent edge [] f a d p low =
    let same : moved [] [] a ≡ a = fun_ext (λ j. zero-add (a j)) in
    let g : Part → ℕ = part_sum [] [] f a in
    ap f (sym same)
    ∙ sym (total-cons g (block [] [] []) [] (low (moved [] [] a)) ∙ ap (wrapping_add (f (moved [] [] a))) (total-nil g) ∙ plus-zero (f (moved [] [] a)) (low (moved [] [] a)))
box_total extent edge (i ∷ rest) f a d p low =
    let n : ℕ = extent i in
    let e : ℕ = edge i in
    let c : ℕ = div_ceil n e in
    let ns : List ℕ = map extent rest in
    let es : List ℕ = map edge rest in
    let cs : List ℕ = counts_along ns es in
    let out : among rest i ≡ false = distinct_first i rest d in
    let all : n ≤ c * e = (div_ceil_times n e p.0).0 in
    let whole : n ≡ min n (c * e) = sym (min-eq_left all) in
    let inner : ℕ → ℕ → List ℕ → ℕ = λ t y ts. part_sum rest rest f (with_number a i (t * e + y)) (block ns es ts) in
    let outer : List ℕ → ℕ = λ bs. part_sum (i ∷ rest) (i ∷ rest) f a (block (n ∷ ns) (e ∷ es) bs) in
    ap (λ k. sum_below k (λ x. sum_over extent rest f (with_number a i x))) whole
    ∙ sum_below-parts n e c (λ x. sum_over extent rest f (with_number a i x))
    ∙ sum_below-same c _ (λ t. total outer (map (λ ts. t ∷ ts) (places cs))) (λ t low_t.
    sum_below-same (min ((t + 1) * e) n - t * e) _ (λ y. total (inner t y) (places cs)) (λ y low_y.
    box_total extent edge rest f (with_number a i (t * e + y)) (distinct_later i rest d) p.1 low
    ∙ total-map (part_sum rest rest f (with_number a i (t * e + y))) (block ns es) (places cs))
    ∙ total-sum_below (min ((t + 1) * e) n - t * e) (inner t) (places cs) (λ y ts. sum_over-lt _ rest _ _ (λ b. low _))
    ∙ total-same _ (λ ts. outer (t ∷ ts)) (λ ts. sym (part_sum_first i rest f a (t * e) (min ((t + 1) * e) n - t * e) (beginnings es ts) (lengths ns es ts) out)) (places cs)
    ∙ sym (total-map outer (λ ts. t ∷ ts) (places cs)))
    ∙ sum_below-same c _ (λ t. total outer (map (λ ts. (0 + t) ∷ ts) (places cs))) (λ t low_t. ap (λ k. total outer (map (λ ts. k ∷ ts) (places cs))) (sym (zero-add t)))
    ∙ sym (total-flat outer (λ t. map (λ ts. t ∷ ts) (places cs)) 0 c)
    ∙ sym (total-map (part_sum (i ∷ rest) (i ∷ rest) f a) (block (n ∷ ns) (e ∷ es)) (places (c ∷ cs)))

-- in any orders of the loops
pub blocks_total : (extent edge : ℕ → ℕ) (order indexes inner : List ℕ) (f : Assignment → ℕ) (a : Assignment)
    → IsTrue (is_distinct indexes) → IsPermutation indexes order → IsPermutation indexes inner → ArePositive (map edge indexes) → ((b : Assignment) → f b < 2 ^ 64)
    → sum_over extent order f a ≡ wrapping_sum (map (part_sum indexes inner f a) (blocks (map extent indexes) (map edge indexes)))
unfolding total
blocks_total extent edge order indexes inner f a d outer_same inner_same p low =
    sym (sum_over_permuted extent indexes order f a d (distinct-permutation indexes order d outer_same) (λ i. among-permutation indexes order i outer_same))
    ∙ box_total extent edge indexes f a d p low
    ∙ total-same (part_sum indexes indexes f a) (part_sum indexes inner f a)
    (λ part. sum_over_permuted (assignment indexes part.len) indexes inner (λ b. f (moved indexes part.from b)) a d (distinct-permutation indexes inner d inner_same) (λ i. among-permutation indexes inner i inner_same))
    (blocks (map extent indexes) (map edge indexes))
