-- Values are words, and depend on the numbers of the dims alone.
use Rattle.std.proofs.Common.{◌≡◌, ℕ, zero, suc, ◌<◌, ◌^◌, Bool, true, false, not, List, [], ◌∷◌, map, refl, sym, ap, ap₂, ◌∙◌, inl, inr, arith, mod-lt, ltb, lit<}
use Rattle.std.specs.List.{list_all}
use Rattle.std.proofs.lemmas.Bool.{ne_eqb, cases_eq, eq-eqb, or_left, or_right, and_parts, and_from, not_from_false}
use Rattle.tce_base.specs.Word.{word, wrapping_add, wrapping_sub, wrapping_mul}
use Rattle.tce_base.proofs.Words.{plus-lt}
use Rattle.tce_space.specs.IndexSet.{has, set_of}
use Rattle.tce_space.proofs.IndexSetLaws.{has-union, has-minus}
use Rattle.tce_tree.specs.ContractionTree.{ContractionTree, Arithmetic, multiply, add, subtract, leaf, constant, binary, sum, dims}
use Rattle.tce_tree.specs.WellFormed.{among, indexes_below}
use Rattle.tce_tree.specs.Value.{Assignment, with_number, Elements, arithmetic, sum_below, sum_over, value}
use Rattle.tce_tree.proofs.Lists.{among_first, among_later}
use Rattle.tce_tree.proofs.NamedIndexes.{has-set_of_list}

word-lt : (n : ℕ) → word n < 2 ^ 64
unfolding word
word-lt n = mod-lt n (lit< tt)

pub arithmetic-lt : (op : Arithmetic) (x y : ℕ) → arithmetic op x y < 2 ^ 64
unfolding wrapping_mul wrapping_sub
arithmetic-lt multiply x y = mod-lt _ (lit< tt)
arithmetic-lt add x y = plus-lt x y
arithmetic-lt subtract x y = mod-lt _ (lit< tt)

pub sum_below-lt : (n : ℕ) (f : ℕ → ℕ) → sum_below n f < 2 ^ 64
sum_below-lt zero f = omega arith
sum_below-lt (suc n) f = plus-lt (sum_below n f) (f n)

pub sum_over-lt : (extent : ℕ → ℕ) (indexes : List ℕ) (f : Assignment → ℕ) (a : Assignment) → ((b : Assignment) → f b < 2 ^ 64) → sum_over extent indexes f a < 2 ^ 64
sum_over-lt extent [] f a h = h a
sum_over-lt extent (i ∷ rest) f a h = sum_below-lt (extent i) (λ x. sum_over extent rest f (with_number a i x))

pub value-lt : (e : Elements) (tree : ContractionTree) (a : Assignment) → value e tree a < 2 ^ 64
value-lt e (leaf t is) a = word-lt (e.cell t (map a is))
value-lt e (constant n) a = word-lt n
value-lt e (binary op l r) a = arithmetic-lt op (value e l a) (value e r a)
value-lt e (sum is x) a = sum_over-lt e.extent is (value e x) a (λ b. value-lt e x b)

pub sum_below-same : (n : ℕ) (f g : ℕ → ℕ) → ((x : ℕ) → x < n → f x ≡ g x) → sum_below n f ≡ sum_below n g
sum_below-same zero f g h = refl
sum_below-same (suc n) f g h = ap₂ wrapping_add (sum_below-same n f g (λ x l. h x (omega arith))) (h n (omega arith))

pub map-same : (xs : List ℕ) (a b : Assignment) → ((i : ℕ) → among xs i ≡ true → a i ≡ b i) → map a xs ≡ map b xs
map-same [] a b h = refl
map-same (x ∷ xs) a b h = ap₂ (λ k ks. k ∷ ks) (h x (among_first x xs)) (map-same xs a b (λ i m. h i (among_later x xs i m)))

pub with-both : (a b : Assignment) (i x j : ℕ) → ((j ≡ i → ⊥) → a j ≡ b j) → with_number a i x j ≡ with_number b i x j
with-both a b i x j h =
    elim (cases_eq j i) [
      | inl q ↦ rw (eq-eqb j i q) refl
      | inr q ↦ rw (ne_eqb j i q) (h q)
    ]

pub sum_over-depends : (extent : ℕ → ℕ) (indexes : List ℕ) (f : Assignment → ℕ) (test : ℕ → Bool)
    → ((a b : Assignment) → ((i : ℕ) → test i ≡ true → a i ≡ b i) → f a ≡ f b)
    → (a b : Assignment) → ((i : ℕ) → test i ≡ true → among indexes i ≡ false → a i ≡ b i)
    → sum_over extent indexes f a ≡ sum_over extent indexes f b
sum_over-depends extent [] f test depends a b h = depends a b (λ i t. h i t refl)
sum_over-depends extent (j ∷ rest) f test depends a b h =
    sum_below-same (extent j) _ (λ x. sum_over extent rest f (with_number b j x)) (λ x l.
    sum_over-depends extent rest f test depends (with_number a j x) (with_number b j x)
    (λ i t m. with-both a b j x i (λ ne. h i t (rw (ne_eqb j i (λ q. ne (sym q))) m))))

pub value-depends : (e : Elements) (tree : ContractionTree) (a b : Assignment) → indexes_below 24 tree ≡ true
    → ((i : ℕ) → has (dims tree) i ≡ true → a i ≡ b i) → value e tree a ≡ value e tree b
value-depends e (leaf t is) a b w h =
    ap (λ at. word (e.cell t at)) (map-same is a b (λ i m. h i (has-set_of_list is i w ∙ m)))
value-depends e (constant n) a b w h = refl
value-depends e (binary op l r) a b w h =
    let parts = and_parts (indexes_below 24 l) (indexes_below 24 r) w in
    ap₂ (arithmetic op)
    (value-depends e l a b parts.0 (λ i m. h i (has-union (dims l) (dims r) i ∙ or_left (has (dims l) i) (has (dims r) i) m)))
    (value-depends e r a b parts.1 (λ i m. h i (has-union (dims l) (dims r) i ∙ or_right (has (dims l) i) (has (dims r) i) m)))
value-depends e (sum is x) a b w h =
    let parts = and_parts (list_all (λ i. ltb i 24) is) (indexes_below 24 x) w in
    sum_over-depends e.extent is (value e x) (has (dims x)) (λ c d k. value-depends e x c d parts.1 k) a b
    (λ i t m. h i (has-minus (dims x) (set_of is) i
    ∙ and_from (has (dims x) i) (not (has (set_of is) i)) t (not_from_false (has (set_of is) i) (has-set_of_list is i parts.0 ∙ m))))
