-- The last block that has an assignment with given numbers.
use Rattle.std.proofs.Common.{◌≡◌, ◌∙◌, ℕ, zero, suc, ◌+◌, ◌-◌, ◌*◌, ◌/◌, ◌<◌, ◌≤◌, min, Bool, true, false, not, ◌&&◌, ◌||◌, eqb, nat_le, nat_lt, if◌then◌else◌, List, [], ◌∷◌, length, map, refl, sym, ap, ap₂, subst, inl, inr, arith, get_or, zero-add, Option, Some, None}
use Rattle.std.specs.List.{flat_map, range_with_len, fold, list_all}
use Rattle.std.specs.Int.{div_ceil}
use Rattle.std.proofs.lemmas.Bool.{cases_Bool, cases_eq, eq-eqb, ne_eqb, true≢false, false≢true, eqb-true, and_parts, and_from}
use Rattle.std.proofs.lemmas.Grind.{div_ceil_times}
use Rattle.std.proofs.lemmas.List.Sums.{fold-append}
use Rattle.std.proofs.lemmas.Nat.{div_below}
use Rattle.std.specs.Prelude.{IsTrue}
use mathlib.Core.Path.{fun_ext}
use Rattle.tce_space.specs.Box.{product, places, IsInside}
use Rattle.tce_space.specs.Tiling.{ArePositive, counts_along}
use Rattle.tce_space.proofs.Boxes.{length-places, places_every}
use Rattle.tce_tree.specs.WellFormed.{among, is_distinct}
use Rattle.tce_tree.specs.Value.{Assignment, assignment}
use Rattle.tce_tree.proofs.Lists.{among_first, among_later, among_cases, distinct_first, distinct_later, same_truth}
use Rattle.tce_tree.proofs.Assignments.{with-same, with-other}
use Rattle.tce_block.proofs.Beginning.{some_count}
use Rattle.tce_block.specs.Parts.{beginnings, lengths, block, blocks}
use Rattle.tce_block.specs.Last.{meets, last_of_part, last_of_box}
use Rattle.tce_block.proofs.Cover.{end_is, in_part, part_of_number}
use Rattle.tce_block.proofs.Dimensions.{begins_inside}

-- folds over lists that are made of others
fold-map : {X Y W : Type 0} (step : W → Y → W) (k : X → Y) (w : W) (xs : List X) → fold step w (map k xs) ≡ fold (λ v x. step v (k x)) w xs
fold-map step k w [] = refl
fold-map step k w (x ∷ xs) = fold-map step k (step w (k x)) xs

fold-flat : {X Y W : Type 0} (step : W → Y → W) (h : X → List Y) (w : W) (xs : List X) → fold step w (flat_map h xs) ≡ fold (λ v x. fold step v (h x)) w xs
fold-flat step h w [] = refl
fold-flat step h w (x ∷ xs) = fold-append step w (h x) (flat_map h xs) ∙ fold-flat step h (fold step w (h x)) xs

fold-same : {X W : Type 0} (f g : W → X → W) (d : X) (w : W) (xs : List X) → ((k : ℕ) (v : W) → k < length xs → f v (get_or xs k d) ≡ g v (get_or xs k d)) → fold f w xs ≡ fold g w xs
fold-same f g d w [] same = refl
fold-same f g d w (x ∷ xs) same = ap (λ v. fold f v xs) (same 0 w (omega arith)) ∙ fold-same f g d (g w x) xs (λ k v l. same (suc k) v (omega arith))

fold-every : {X W : Type 0} (f g : W → X → W) → ((v : W) (x : X) → f v x ≡ g v x) → (w : W) (xs : List X) → fold f w xs ≡ fold g w xs
fold-every f g same w [] = refl
fold-every f g same w (x ∷ xs) = ap (λ v. fold f v xs) (same w x) ∙ fold-every f g same (g w x) xs

fold-idle : {X W : Type 0} (w : W) (xs : List X) → fold (λ v x. v) w xs ≡ w
fold-idle w [] = refl
fold-idle w (x ∷ xs) = fold-idle w xs

-- a word that is set at each number of a range, or at one
last_set : (g : ℕ → ℕ) (a n w : ℕ) → 0 < n → fold (λ v x. g x) w (range_with_len a n) ≡ g (a + (n - 1))
last_set g a zero w some = absurd (omega arith)
last_set g a (suc zero) w some = let here : a ≡ a + (1 - 1) = omega arith in ap g here
last_set g a (suc (suc n)) w some = last_set g (a + 1) (suc n) (g a) (omega arith) ∙ (let there : a + 1 + (suc n - 1) ≡ a + (suc (suc n) - 1) = omega arith in ap g there)

not_set : (g : ℕ → ℕ) (t a n w : ℕ) → t < a → fold (λ v x. if eqb x t then g x else v) w (range_with_len a n) ≡ w
not_set g t a zero w h = refl
not_set g t a (suc n) w h =
    let other : eqb a t ≡ false = ne_eqb a t (λ e. omega arith) in
    ap (λ b. fold (λ v x. if eqb x t then g x else v) (if b then g a else w) (range_with_len (a + 1) n)) other ∙ not_set g t (a + 1) n w (omega arith)

one_set : (g : ℕ → ℕ) (t a n w : ℕ) → a ≤ t → t < a + n → fold (λ v x. if eqb x t then g x else v) w (range_with_len a n) ≡ g t
one_set g t a zero w h l = absurd (omega arith)
one_set g t a (suc n) w h l =
    elim (cases_eq a t) [
      | inl e ↦
          ap (λ b. fold (λ v x. if eqb x t then g x else v) (if b then g a else w) (range_with_len (a + 1) n)) (eq-eqb a t e)
          ∙ not_set g t (a + 1) n (g a) (omega arith)
          ∙ ap g e
      | inr e ↦
          ap (λ b. fold (λ v x. if eqb x t then g x else v) (if b then g a else w) (range_with_len (a + 1) n)) (ne_eqb a t e)
          ∙ one_set g t (a + 1) n w (omega arith) (omega arith)
    ]

-- places of which some numbers are given
abbrev pub agrees : List (Option ℕ) → List ℕ → Bool
agrees [] bs = true
agrees (o ∷ os) [] = true
agrees (None ∷ os) (b ∷ bs) = agrees os bs
agrees (Some t ∷ os) (b ∷ bs) = eqb b t && agrees os bs

abbrev pub last_place : List ℕ → List (Option ℕ) → List ℕ
last_place [] os = []
last_place (c ∷ cs) [] = []
last_place (c ∷ cs) (None ∷ os) = (c - 1) ∷ last_place cs os
last_place (c ∷ cs) (Some t ∷ os) = t ∷ last_place cs os

abbrev pub AreGiven : List ℕ → List (Option ℕ) → Type 0
AreGiven [] [] = Unit {0}
AreGiven [] (o ∷ os) = ⊥
AreGiven (c ∷ cs) [] = ⊥
AreGiven (c ∷ cs) (None ∷ os) = (0 < c) × AreGiven cs os
AreGiven (c ∷ cs) (Some t ∷ os) = (t < c) × AreGiven cs os

pub last_agreeing : (cs : List ℕ) (os : List (Option ℕ)) (g : List ℕ → ℕ) (w : ℕ) → AreGiven cs os → fold (λ v bs. if agrees os bs then g bs else v) w (places cs) ≡ g (last_place cs os)
last_agreeing [] [] g w h = refl
last_agreeing [] (o ∷ os) g w h = absurd h
last_agreeing (c ∷ cs) [] g w h = absurd h
last_agreeing (c ∷ cs) (None ∷ os) g w h =
    let step : ℕ → List ℕ → ℕ = λ v bs. if agrees (None ∷ os) bs then g bs else v in
    fold-flat step (λ x. map (λ ts. x ∷ ts) (places cs)) w (range_with_len 0 c)
    ∙ fold-every (λ v x. fold step v (map (λ ts. x ∷ ts) (places cs))) (λ v x. g (x ∷ last_place cs os)) (λ v x.
    fold-map step (λ ts. x ∷ ts) v (places cs) ∙ last_agreeing cs os (λ ts. g (x ∷ ts)) v h.1) w (range_with_len 0 c)
    ∙ last_set (λ x. g (x ∷ last_place cs os)) 0 c w h.0
    ∙ ap (λ x. g (x ∷ last_place cs os)) (zero-add (c - 1))
last_agreeing (c ∷ cs) (Some t ∷ os) g w h =
    let step : ℕ → List ℕ → ℕ = λ v bs. if agrees (Some t ∷ os) bs then g bs else v in
    fold-flat step (λ x. map (λ ts. x ∷ ts) (places cs)) w (range_with_len 0 c)
    ∙ fold-every (λ v x. fold step v (map (λ ts. x ∷ ts) (places cs))) (λ v x. if eqb x t then g (x ∷ last_place cs os) else v) (λ v x.
    fold-map step (λ ts. x ∷ ts) v (places cs)
    ∙ elim (cases_Bool (eqb x t)) [
      | inl yes_it ↦ rw yes_it (last_agreeing cs os (λ ts. g (x ∷ ts)) v h.1)
      | inr no_it ↦ rw no_it (fold-idle v (places cs))
    ]) w (range_with_len 0 c)
    ∙ one_set (λ x. g (x ∷ last_place cs os)) t 0 c w (omega arith) (omega (arith, h.0))

-- the numbers of the blocks that have the given numbers at the fixed indexes
abbrev pub given : (ℕ → ℕ) → (ℕ → Bool) → Assignment → List ℕ → List (Option ℕ)
given edge fixed b indexes = map (λ i. if fixed i then Some (b i / edge i) else None) indexes

abbrev pub AreInside : (ℕ → ℕ) → (ℕ → Bool) → Assignment → List ℕ → Type 0
AreInside extent fixed b indexes = (i : ℕ) → among indexes i ≡ true → fixed i ≡ true → b i < extent i

pub are_given : (extent edge : ℕ → ℕ) (fixed : ℕ → Bool) (b : Assignment) (indexes : List ℕ) → ArePositive (map extent indexes) → ArePositive (map edge indexes) → AreInside extent fixed b indexes
    → AreGiven (counts_along (map extent indexes) (map edge indexes)) (given edge fixed b indexes)
are_given extent edge fixed b [] p q h = tt
are_given extent edge fixed b (i ∷ rest) p q h =
    let all : extent i ≤ div_ceil (extent i) (edge i) * edge i = (div_ceil_times (extent i) (edge i) q.0).0 in
    let later : AreGiven (counts_along (map extent rest) (map edge rest)) (given edge fixed b rest) = are_given extent edge fixed b rest p.1 q.1 (λ j m. h j (among_later i rest j m)) in
    elim (cases_Bool (fixed i)) [
      | inl t ↦ rw t (div_below (b i) (edge i) (div_ceil (extent i) (edge i)) q.0 (omega (arith, h i (among_first i rest) t)), later)
      | inr t ↦ rw t (some_count (extent i) (edge i) q.0 p.0, later)
    ]

-- one dimension of a block
in_dimension : (n e t x : ℕ) → 0 < e → x < n → (nat_le (t * e) x && nat_lt x (t * e + (min ((t + 1) * e) n - t * e))) ≡ eqb t (x / e)
in_dimension n e t x some low = same_truth _ _
    (λ h.
    let parts = and_parts (nat_le (t * e) x) (nat_lt x (t * e + (min ((t + 1) * e) n - t * e))) h in
    let first : t * e ≤ x = grind (arith, parts.0) in
    let second : x < t * e + (min ((t + 1) * e) n - t * e) = grind (arith, parts.1) in
    eq-eqb t (x / e) (sym (part_of_number n e t x some first second).1))
    (λ h.
    let same : x / e ≡ t = sym (eqb-true t (x / e) h) in
    let here = subst (λ k. (k * e ≤ x) × (x < k * e + (min ((k + 1) * e) n - k * e))) same (in_part n e x some low) in
    let first : nat_le (t * e) x ≡ true = grind (arith, here.0) in
    let second : nat_lt x (t * e + (min ((t + 1) * e) n - t * e)) ≡ true = grind (arith, here.1) in
    and_from _ _ first second)

list_all-same : (p q : ℕ → Bool) (xs : List ℕ) → ((j : ℕ) → among xs j ≡ true → p j ≡ q j) → list_all p xs ≡ list_all q xs
list_all-same p q [] h = refl
list_all-same p q (x ∷ xs) h = ap₂ (λ a b. a && b) (h x (among_first x xs)) (list_all-same p q xs (λ j m. h j (among_later x xs j m)))

between : (ℕ → Bool) → Assignment → List ℕ → List ℕ → List ℕ → ℕ → Bool
between fixed b indexes from len i = not (fixed i) || (nat_le (assignment indexes from i) (b i) && nat_lt (b i) (assignment indexes from i + assignment indexes len i))

pub meets_is : (extent edge : ℕ → ℕ) (fixed : ℕ → Bool) (b : Assignment) (indexes bs : List ℕ) → is_distinct indexes ≡ true → ArePositive (map edge indexes) → AreInside extent fixed b indexes
    → IsInside (counts_along (map extent indexes) (map edge indexes)) bs → meets fixed b indexes (block (map extent indexes) (map edge indexes) bs) ≡ agrees (given edge fixed b indexes) bs
unfolding between
meets_is extent edge fixed b [] bs d q h k = refl
meets_is extent edge fixed b (i ∷ rest) [] d q h k = absurd k
meets_is extent edge fixed b (i ∷ rest) (t ∷ bs) d q h k =
    let ns : List ℕ = map extent rest in
    let es : List ℕ = map edge rest in
    let s : ℕ = t * edge i in
    let l : ℕ = min ((t + 1) * edge i) (extent i) - t * edge i in
    let later : list_all (between fixed b (i ∷ rest) (s ∷ beginnings es bs) (l ∷ lengths ns es bs)) rest ≡ agrees (given edge fixed b rest) bs =
    list_all-same _ (between fixed b rest (beginnings es bs) (lengths ns es bs)) rest (λ j m.
    let other : j ≡ i → ⊥ = λ e. true≢false (sym m ∙ ap (among rest) e ∙ distinct_first i rest d) in
    ap₂ (λ x y. not (fixed j) || (nat_le x (b j) && nat_lt (b j) (x + y))) (with-other (assignment rest (beginnings es bs)) i s j other) (with-other (assignment rest (lengths ns es bs)) i l j other))
    ∙ meets_is extent edge fixed b rest bs (distinct_later i rest d) q.1 (λ j m. h j (among_later i rest j m)) k.1 in
    ap₂ (λ x y. (not (fixed i) || (nat_le x (b i) && nat_lt (b i) (x + y))) && list_all (between fixed b (i ∷ rest) (s ∷ beginnings es bs) (l ∷ lengths ns es bs)) rest)
    (with-same (assignment rest (beginnings es bs)) i s) (with-same (assignment rest (lengths ns es bs)) i l)
    ∙ ap (λ y. (not (fixed i) || (nat_le s (b i) && nat_lt (b i) (s + l))) && y) later
    ∙ elim (cases_Bool (fixed i)) [
      | inl yes_it ↦ rw yes_it (ap (λ y. y && agrees (given edge fixed b rest) bs) (in_dimension (extent i) (edge i) t (b i) q.0 (h i (among_first i rest) yes_it)))
      | inr no_it ↦ rw no_it refl
    ]

-- the end of the last block in one dimension is the extent
last_end : (n e : ℕ) → 0 < e → 0 < n → (div_ceil n e - 1) * e + (min ((div_ceil n e - 1 + 1) * e) n - (div_ceil n e - 1) * e) ≡ n
last_end n e some low =
    let c : ℕ = div_ceil n e in
    let positive : 0 < c = some_count n e some low in
    let begins : (c - 1) * e < n = begins_inside n e (c - 1) some (omega arith) in
    let all : n ≤ c * e = (div_ceil_times n e some).0 in
    let back : c - 1 + 1 ≡ c = omega arith in
    let whole : min ((c - 1 + 1) * e) n ≡ n = ap (λ k. min (k * e) n) back ∙ (let short : min (c * e) n ≡ n = omega arith in short) in
    end_is n e (c - 1) (omega arith) ∙ whole

-- where a part ends at an index
ends_at : List ℕ → List ℕ → List ℕ → List ℕ → ℕ → ℕ
ends_at indexes extents edges numbers j = assignment indexes (beginnings edges numbers) j + assignment indexes (lengths extents edges numbers) j

first_end : (i : ℕ) (rest : List ℕ) (n e : ℕ) (ns es cs : List ℕ) (o : Option ℕ) (os : List (Option ℕ)) → o ≡ None → 0 < e → 0 < n
    → ends_at (i ∷ rest) (n ∷ ns) (e ∷ es) (last_place (div_ceil n e ∷ cs) (o ∷ os)) i ≡ n
unfolding ends_at
first_end i rest n e ns es cs (Some t) os free some low = absurd (let k : ⊥ = cc in k)
first_end i rest n e ns es cs None os free some low = ap₂ ◌+◌ (with-same (assignment rest (beginnings es (last_place cs os))) i _) (with-same (assignment rest (lengths ns es (last_place cs os))) i _) ∙ last_end n e some low

later_end : (i : ℕ) (rest : List ℕ) (n e c : ℕ) (ns es cs : List ℕ) (o : Option ℕ) (os : List (Option ℕ)) (j : ℕ) → (j ≡ i → ⊥)
    → ends_at (i ∷ rest) (n ∷ ns) (e ∷ es) (last_place (c ∷ cs) (o ∷ os)) j ≡ ends_at rest ns es (last_place cs os) j
unfolding ends_at
later_end i rest n e c ns es cs (Some t) os j ne = ap₂ ◌+◌ (with-other (assignment rest (beginnings es (last_place cs os))) i _ j ne) (with-other (assignment rest (lengths ns es (last_place cs os))) i (min ((t + 1) * e) n - t * e) j ne)
later_end i rest n e c ns es cs None os j ne = ap₂ ◌+◌ (with-other (assignment rest (beginnings es (last_place cs os))) i _ j ne) (with-other (assignment rest (lengths ns es (last_place cs os))) i (min ((c - 1 + 1) * e) n - (c - 1) * e) j ne)

reaches : (extent edge : ℕ → ℕ) (fixed : ℕ → Bool) (b : Assignment) (indexes : List ℕ) (j : ℕ) → ArePositive (map extent indexes) → ArePositive (map edge indexes) → among indexes j ≡ true → fixed j ≡ false
    → ends_at indexes (map extent indexes) (map edge indexes) (last_place (counts_along (map extent indexes) (map edge indexes)) (given edge fixed b indexes)) j ≡ extent j
reaches extent edge fixed b [] j p q m free = absurd (false≢true m)
reaches extent edge fixed b (i ∷ rest) j p q m free =
    elim (cases_eq j i) [
      | inl e ↦
          let none : (if fixed i then Some (b i / edge i) else None) ≡ None = ap (λ t. if t then Some (b i / edge i) else None) (ap fixed (sym e) ∙ free) in
          ap (ends_at (i ∷ rest) (map extent (i ∷ rest)) (map edge (i ∷ rest)) (last_place (counts_along (map extent (i ∷ rest)) (map edge (i ∷ rest))) (given edge fixed b (i ∷ rest)))) e
          ∙ first_end i rest (extent i) (edge i) (map extent rest) (map edge rest) (counts_along (map extent rest) (map edge rest)) (if fixed i then Some (b i / edge i) else None) (given edge fixed b rest) none q.0 p.0
          ∙ ap extent (sym e)
      | inr ne ↦
          later_end i rest (extent i) (edge i) (div_ceil (extent i) (edge i)) (map extent rest) (map edge rest) (counts_along (map extent rest) (map edge rest)) (if fixed i then Some (b i / edge i) else None) (given edge fixed b rest) j ne
          ∙ reaches extent edge fixed b rest j p.1 q.1 (elim (among_cases i rest j m) [ inl e ↦ absurd (ne (sym e)) | inr later ↦ later ]) free
    ]

same_last : (extent edge : ℕ → ℕ) (fixed : ℕ → Bool) (b a : Assignment) (indexes : List ℕ) → ArePositive (map extent indexes) → ArePositive (map edge indexes)
    → last_of_part fixed b indexes a (block (map extent indexes) (map edge indexes) (last_place (counts_along (map extent indexes) (map edge indexes)) (given edge fixed b indexes))) ≡ last_of_box extent fixed b indexes a
unfolding ends_at
same_last extent edge fixed b a indexes p q = fun_ext (λ j.
    elim (cases_Bool (among indexes j)) [
      | inl m ↦ rw m (elim (cases_Bool (fixed j)) [
        | inl t ↦ rw t refl
        | inr t ↦ rw t (ap (λ k. k - 1) (reaches extent edge fixed b indexes j p q m t))
      ])
      | inr m ↦ rw m refl
    ])

pub last_block : (extent edge : ℕ → ℕ) (indexes : List ℕ) (fixed : ℕ → Bool) (b : Assignment) (f : Assignment → ℕ) (a : Assignment) (old : ℕ)
    → IsTrue (is_distinct indexes) → ArePositive (map extent indexes) → ArePositive (map edge indexes)
    → ((i : ℕ) → IsTrue (among indexes i) → fixed i ≡ true → b i < extent i)
    → fold (λ word part. if meets fixed b indexes part then f (last_of_part fixed b indexes a part) else word) old (blocks (map extent indexes) (map edge indexes))
    ≡ f (last_of_box extent fixed b indexes a)
unfolding blocks
last_block extent edge indexes fixed b f a old d p q h =
    let ns : List ℕ = map extent indexes in
    let es : List ℕ = map edge indexes in
    let cs : List ℕ = counts_along ns es in
    let os : List (Option ℕ) = given edge fixed b indexes in
    let word_at : List ℕ → ℕ = λ bs. f (last_of_part fixed b indexes a (block ns es bs)) in
    fold-map (λ word part. if meets fixed b indexes part then f (last_of_part fixed b indexes a part) else word) (block ns es) old (places cs)
    ∙ fold-same (λ word bs. if meets fixed b indexes (block ns es bs) then word_at bs else word) (λ word bs. if agrees os bs then word_at bs else word) [] old (places cs) (λ k v l.
    let low : k < product cs = rw length-places at l in
    ap (λ t. if t then word_at (get_or (places cs) k []) else v) (meets_is extent edge fixed b indexes (get_or (places cs) k []) d q h (places_every cs k low).0))
    ∙ last_agreeing cs os word_at old (are_given extent edge fixed b indexes p q h)
    ∙ ap f (same_last extent edge fixed b a indexes p q)
