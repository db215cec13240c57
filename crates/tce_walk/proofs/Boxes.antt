-- Turns of loops that may be exchanged: a box of them goes block by block as well.
use Rattle.std.proofs.Common.{◌≡◌, ℕ, zero, suc, ◌+◌, ◌-◌, ◌*◌, ◌<◌, ◌≤◌, min, List, [], ◌∷◌, map, length, refl, sym, ap, ap₂, ◌∙◌, subst, inl, inr, arith, add-one}
use mathlib.Core.Path.{fun_ext}
use Rattle.std.specs.Int.{div_ceil}
use Rattle.std.proofs.lemmas.Bool.{cases_lt}
use Rattle.std.specs.List.{fold, flat_map, range_with_len}
use Rattle.std.proofs.lemmas.Grind.{div_ceil_times}
use Rattle.std.proofs.lemmas.List.Sums.{fold-append}
use Rattle.tce_space.specs.Box.{places, IsInside}
use Rattle.tce_space.specs.Tiling.{ArePositive, counts_along}
use Rattle.tce_block.proofs.Beginning.{some_count}
use Rattle.tce_block.proofs.Cover.{end_is}
use Rattle.tce_block.proofs.Dimensions.{begins_inside}
use Rattle.tce_block.proofs.Folds.{flat_more}
use Rattle.tce_block.specs.Grouped.{shifted}
use Rattle.tce_block.specs.Parts.{Part, block, blocks, beginnings, lengths}
use Rattle.tce_code.specs.Execution.{repeated}

-- values that count as the same: each as itself, and on from one to the next
pub record IsSame (X : Type 0) (Same : X → X → Type 0) : Type 0 where
  pub own : (x : X) → Same x x
  pub on : (x y z : X) → Same x y → Same y z → Same x z

abbrev pub Steady : {X : Type 0} → (X → X → Type 0) → (X → X) → Type 0
Steady {X} Same h = (x y : X) → Same x y → Same (h x) (h y)

-- one after the other, in either sequence
abbrev pub Exchange : {X : Type 0} → (X → X → Type 0) → (X → X) → (X → X) → Type 0
Exchange {X} Same h k = (x : X) → Same (h (k x)) (k (h x))

-- one turn for each place of a box, the last coordinate running fastest
abbrev pub box : {X : Type 0} → (List ℕ → X → X) → List ℕ → X → X
box turn [] x = turn [] x
box turn (n ∷ ns) x = repeated n (λ i y. box (λ xs. turn (i ∷ xs)) ns y) x

-- the turns of one block
abbrev pub in_block : {X : Type 0} → (List ℕ → X → X) → List ℕ → List ℕ → List ℕ → X → X
in_block turn ns es bs x = box (λ xs. turn (shifted (beginnings es bs) xs)) (lengths ns es bs) x

steady_turns : {X : Type 0} (Same : X → X → Type 0) (n : ℕ) (f : ℕ → X → X) → IsSame X Same → ((i : ℕ) → Steady Same (f i)) → Steady Same (repeated n f)
steady_turns Same zero f same steady x y h = h
steady_turns Same (suc n) f same steady x y h = steady n (repeated n f x) (repeated n f y) (steady_turns Same n f same steady x y h)

-- a turn goes past turns
past_turns : {X : Type 0} (Same : X → X → Type 0) (h : X → X) (n : ℕ) (f : ℕ → X → X) → IsSame X Same → ((i : ℕ) → Steady Same (f i)) → ((i : ℕ) → Exchange Same h (f i))
    → Exchange Same h (repeated n f)
past_turns Same h zero f same steady exchange x = same.own (h x)
past_turns Same h (suc n) f same steady exchange x =
    same.on (h (f n (repeated n f x))) (f n (h (repeated n f x))) (f n (repeated n f (h x))) (exchange n (repeated n f x))
    (steady n (h (repeated n f x)) (repeated n f (h x)) (past_turns Same h n f same steady exchange x))

turns_past : {X : Type 0} (Same : X → X → Type 0) (h : X → X) (n : ℕ) (f : ℕ → X → X) → IsSame X Same → ((i : ℕ) → Steady Same (f i)) → ((i : ℕ) → Exchange Same (f i) h)
    → Exchange Same (repeated n f) h
turns_past Same h zero f same steady exchange x = same.own (h x)
turns_past Same h (suc n) f same steady exchange x =
    same.on (f n (repeated n f (h x))) (f n (h (repeated n f x))) (h (f n (repeated n f x)))
    (steady n (repeated n f (h x)) (h (repeated n f x)) (turns_past Same h n f same steady exchange x)) (exchange n (repeated n f x))

-- turns of two kinds, pair by pair
paired : {X : Type 0} (Same : X → X → Type 0) (n : ℕ) (f g : ℕ → X → X) → IsSame X Same → ((i : ℕ) → Steady Same (f i)) → ((i : ℕ) → Steady Same (g i))
    → ((i j : ℕ) → Exchange Same (g i) (f j)) → (x : X) → Same (repeated n g (repeated n f x)) (repeated n (λ i y. g i (f i y)) x)
paired Same zero f g same fs gs exchange x = same.own x
paired Same (suc n) f g same fs gs exchange x =
    gs n (repeated n g (f n (repeated n f x))) (f n (repeated n (λ i y. g i (f i y)) x))
    (same.on (repeated n g (f n (repeated n f x))) (f n (repeated n g (repeated n f x))) (f n (repeated n (λ i y. g i (f i y)) x))
    (turns_past Same (f n) n g same gs (λ i. exchange i n) (repeated n f x))
    (fs n (repeated n g (repeated n f x)) (repeated n (λ i y. g i (f i y)) x) (paired Same n f g same fs gs exchange x)))

no_turns : {X : Type 0} (n : ℕ) (x : X) → repeated n (λ i y. y) x ≡ x
no_turns zero x = refl
no_turns (suc n) x = no_turns n x

same_turns : {X : Type 0} (Same : X → X → Type 0) (n : ℕ) (f g : ℕ → X → X) → IsSame X Same → ((i : ℕ) → Steady Same (g i)) → ((i : ℕ) (y : X) → Same (f i y) (g i y))
    → (x : X) → Same (repeated n f x) (repeated n g x)
same_turns Same zero f g same steady h x = same.own x
same_turns Same (suc n) f g same steady h x =
    same.on (f n (repeated n f x)) (g n (repeated n f x)) (g n (repeated n g x)) (h n (repeated n f x))
    (steady n (repeated n f x) (repeated n g x) (same_turns Same n f g same steady h x))

-- two loops in either sequence
swapped : {X : Type 0} (Same : X → X → Type 0) (c n : ℕ) (g : ℕ → ℕ → X → X) → IsSame X Same → ((y i : ℕ) → Steady Same (g y i))
    → ((y i z j : ℕ) → Exchange Same (g y i) (g z j))
    → (x : X) → Same (repeated c (λ y. repeated n (g y)) x) (repeated n (λ i. repeated c (λ y. g y i)) x)
swapped {X} Same zero n g same steady exchange x = subst (λ y. Same x y) (sym (no_turns n x)) (same.own x)
swapped {X} Same (suc c) n g same steady exchange x =
    same.on (repeated n (g c) (repeated c (λ y. repeated n (g y)) x)) (repeated n (g c) (repeated n inner x)) (repeated n (λ i y. g c i (inner i y)) x)
    (steady_turns Same n (g c) same (steady c) (repeated c (λ y. repeated n (g y)) x) (repeated n inner x) (swapped Same c n g same steady exchange x))
    (paired Same n inner (g c) same (λ i. steady_turns Same c (λ y. g y i) same (λ y. steady y i)) (steady c)
    (λ i j. past_turns Same (g c i) c (λ y. g y j) same (λ y. steady y j) (λ y. exchange c i y j)) x)
  where
    inner : ℕ → X → X
    inner i = repeated c (λ y. g y i)

pub steady_box : {X : Type 0} (Same : X → X → Type 0) (turn : List ℕ → X → X) (ns : List ℕ) → IsSame X Same → ((xs : List ℕ) → Steady Same (turn xs)) → Steady Same (box turn ns)
steady_box Same turn [] same steady = steady []
steady_box Same turn (n ∷ ns) same steady =
    steady_turns Same n (λ i y. box (λ xs. turn (i ∷ xs)) ns y) same (λ i. steady_box Same (λ xs. turn (i ∷ xs)) ns same (λ xs. steady (i ∷ xs)))

past_box : {X : Type 0} (Same : X → X → Type 0) (h : X → X) (turn : List ℕ → X → X) (ns : List ℕ) → IsSame X Same → ((xs : List ℕ) → Steady Same (turn xs))
    → ((xs : List ℕ) → Exchange Same h (turn xs)) → Exchange Same h (box turn ns)
past_box Same h turn [] same steady exchange = exchange []
past_box Same h turn (n ∷ ns) same steady exchange =
    past_turns Same h n (λ i y. box (λ xs. turn (i ∷ xs)) ns y) same (λ i. steady_box Same (λ xs. turn (i ∷ xs)) ns same (λ xs. steady (i ∷ xs)))
    (λ i. past_box Same h (λ xs. turn (i ∷ xs)) ns same (λ xs. steady (i ∷ xs)) (λ xs. exchange (i ∷ xs)))

box_past : {X : Type 0} (Same : X → X → Type 0) (h : X → X) (turn : List ℕ → X → X) (ns : List ℕ) → IsSame X Same → ((xs : List ℕ) → Steady Same (turn xs))
    → ((xs : List ℕ) → Exchange Same (turn xs) h) → Exchange Same (box turn ns) h
box_past Same h turn [] same steady exchange = exchange []
box_past Same h turn (n ∷ ns) same steady exchange =
    turns_past Same h n (λ i y. box (λ xs. turn (i ∷ xs)) ns y) same (λ i. steady_box Same (λ xs. turn (i ∷ xs)) ns same (λ xs. steady (i ∷ xs)))
    (λ i. box_past Same h (λ xs. turn (i ∷ xs)) ns same (λ xs. steady (i ∷ xs)) (λ xs. exchange (i ∷ xs)))

-- two boxes
pub boxes_past : {X : Type 0} (Same : X → X → Type 0) (turn other : List ℕ → X → X) (ns ms : List ℕ) → IsSame X Same → ((xs : List ℕ) → Steady Same (turn xs))
    → ((xs : List ℕ) → Steady Same (other xs)) → ((xs ys : List ℕ) → Exchange Same (turn xs) (other ys)) → Exchange Same (box turn ns) (box other ms)
boxes_past Same turn other ns ms same steady others exchange =
    box_past Same (box other ms) turn ns same steady (λ xs. past_box Same (turn xs) other ms same others (exchange xs))

-- a loop inside a box goes outside
through : {X : Type 0} (Same : X → X → Type 0) (n : ℕ) (turn : List ℕ → ℕ → X → X) (cs : List ℕ) → IsSame X Same → ((bs : List ℕ) (i : ℕ) → Steady Same (turn bs i))
    → ((bs : List ℕ) (i : ℕ) (ds : List ℕ) (j : ℕ) → Exchange Same (turn bs i) (turn ds j))
    → (x : X) → Same (box (λ bs. repeated n (turn bs)) cs x) (repeated n (λ i. box (λ bs. turn bs i) cs) x)
through Same n turn [] same steady exchange x = same.own (repeated n (turn []) x)
through {X} Same n turn (c ∷ cs) same steady exchange x =
    same.on (repeated c (λ y. box (λ bs. repeated n (turn (y ∷ bs))) cs) x) (repeated c (λ y. repeated n (inner y)) x) (repeated n (λ i. repeated c (λ y. inner y i)) x)
    (same_turns Same c (λ y. box (λ bs. repeated n (turn (y ∷ bs))) cs) (λ y. repeated n (inner y)) same (λ y. steady_turns Same n (inner y) same (steady_inner y))
    (λ y z. through Same n (λ bs. turn (y ∷ bs)) cs same (λ bs. steady (y ∷ bs)) (λ bs i ds j. exchange (y ∷ bs) i (y ∷ ds) j) z) x)
    (swapped Same c n inner same steady_inner
    (λ y i z j. boxes_past Same (λ bs. turn (y ∷ bs) i) (λ bs. turn (z ∷ bs) j) cs cs same (λ bs. steady (y ∷ bs) i) (λ bs. steady (z ∷ bs) j)
    (λ bs ds. exchange (y ∷ bs) i (z ∷ ds) j)) x)
  where
    inner : ℕ → ℕ → X → X
    inner y i = box (λ bs. turn (y ∷ bs) i) cs

    steady_inner : (y i : ℕ) → Steady Same (inner y i)
    steady_inner y i = steady_box Same (λ bs. turn (y ∷ bs) i) cs same (λ bs. steady (y ∷ bs) i)

more_times : (c e : ℕ) → suc c * e ≡ c * e + e
more_times c e = omega arith

-- the turns of a loop, one part after the other
more_turns : {X : Type 0} (m k : ℕ) (g : ℕ → X → X) (x : X) → repeated (m + k) g x ≡ repeated k (λ i. g (m + i)) (repeated m g x)
more_turns m zero g x = let e : m + 0 ≡ m = omega arith in ap (λ n. repeated n g x) e
more_turns m (suc k) g x =
    let e : m + suc k ≡ suc (m + k) = omega arith in ap (λ n. repeated n g x) e ∙ ap (g (m + k)) (more_turns m k g x)

parts_of_loop : {X : Type 0} (n e c : ℕ) (g : ℕ → X → X) (x : X)
    → repeated c (λ b. repeated (min ((b + 1) * e) n - b * e) (λ i. g (b * e + i))) x ≡ repeated (min (c * e) n) g x
parts_of_loop n e zero g x = let none : min (0 * e) n ≡ 0 = omega arith in ap (λ k. repeated k g x) (sym none)
parts_of_loop {X} n e (suc c) g x =
    ap (repeated (min ((c + 1) * e) n - c * e) (λ i. g (c * e + i))) (parts_of_loop n e c g x)
    ∙ elim (cases_lt n (c * e)) [
      | inr within ↦
          let here : min (c * e) n ≡ c * e = omega arith in
          let all : c * e + (min ((c + 1) * e) n - c * e) ≡ min (suc c * e) n = end_is n e c within ∙ ap (λ k. min (k * e) n) (add-one c) in
          ap (λ k. repeated (min ((c + 1) * e) n - c * e) (λ i. g (c * e + i)) (repeated k g x)) here
          ∙ sym (more_turns (c * e) (min ((c + 1) * e) n - c * e) g x)
          ∙ ap (λ k. repeated k g x) all
      | inl past ↦
          let none : min ((c + 1) * e) n - c * e ≡ 0 = omega arith in
          let same : min (c * e) n ≡ min (suc c * e) n = omega (arith, more_times c e) in
          ap (λ k. repeated k (λ i. g (c * e + i)) (repeated (min (c * e) n) g x)) none ∙ ap (λ k. repeated k g x) same
    ]

-- a box goes block by block
pub by_blocks : {X : Type 0} (Same : X → X → Type 0) (turn : List ℕ → X → X) (ns es : List ℕ) → IsSame X Same → ((xs : List ℕ) → Steady Same (turn xs))
    → ((xs ys : List ℕ) → Exchange Same (turn xs) (turn ys)) → length es ≡ length ns → ArePositive es
    → (x : X) → Same (box (λ bs. in_block turn ns es bs) (counts_along ns es) x) (box turn ns x)
by_blocks Same turn [] [] same steady exchange rank some x = same.own (turn [] x)
by_blocks Same turn [] (e ∷ es) same steady exchange rank some x = absurd (let h : ⊥ = omega (arith, rank) in h)
by_blocks Same turn (n ∷ ns) [] same steady exchange rank some x = absurd (let h : ⊥ = omega (arith, rank) in h)
by_blocks {X} Same turn (n ∷ ns) (e ∷ es) same steady exchange rank some x =
    same.on (repeated c (λ b y. box (λ bs. in_block turn (n ∷ ns) (e ∷ es) (b ∷ bs)) cs y) x) (repeated c (λ b. repeated (size b) (λ i. inside (b * e + i))) x) (repeated n inside x)
    (same_turns Same c (λ b y. box (λ bs. in_block turn (n ∷ ns) (e ∷ es) (b ∷ bs)) cs y) (λ b. repeated (size b) (λ i. inside (b * e + i))) same
    (λ b. steady_turns Same (size b) (λ i. inside (b * e + i)) same (λ i. steady_inside (b * e + i)))
    (one_block (λ j. by_blocks Same (λ xs. turn (j ∷ xs)) ns es same (λ xs. steady (j ∷ xs)) (λ xs ys. exchange (j ∷ xs) (j ∷ ys))
    (let r : length es ≡ length ns = omega (arith, rank) in r) some.1)) x)
    (subst (λ z. Same (repeated c (λ b. repeated (size b) (λ i. inside (b * e + i))) x) z) whole (same.own (repeated c (λ b. repeated (size b) (λ i. inside (b * e + i))) x)))
  where
    c : ℕ
    c = div_ceil n e

    cs : List ℕ
    cs = counts_along ns es

    size : ℕ → ℕ
    size b = min ((b + 1) * e) n - b * e

    inside : ℕ → X → X
    inside i = box (λ xs. turn (i ∷ xs)) ns

    steady_inside : (i : ℕ) → Steady Same (inside i)
    steady_inside i = steady_box Same (λ xs. turn (i ∷ xs)) ns same (λ xs. steady (i ∷ xs))

    whole : repeated c (λ b. repeated (size b) (λ i. inside (b * e + i))) x ≡ repeated n inside x
    whole =
        let all : min (c * e) n ≡ n = omega (arith, (div_ceil_times n e some.0).0) in
        parts_of_loop n e c inside x ∙ ap (λ k. repeated k inside x) all

    within : ℕ → List ℕ → ℕ → X → X
    within b bs i = in_block (λ xs. turn ((b * e + i) ∷ xs)) ns es bs

    steady_within : (b : ℕ) (bs : List ℕ) (i : ℕ) → Steady Same (within b bs i)
    steady_within b bs i =
        steady_box Same (λ xs. turn ((b * e + i) ∷ shifted (beginnings es bs) xs)) (lengths ns es bs) same (λ xs. steady ((b * e + i) ∷ shifted (beginnings es bs) xs))

    one_block : ((j : ℕ) (z : X) → Same (box (λ bs. in_block (λ xs. turn (j ∷ xs)) ns es bs) cs z) (inside j z))
        → (b : ℕ) (y : X) → Same (box (λ bs. in_block turn (n ∷ ns) (e ∷ es) (b ∷ bs)) cs y) (repeated (size b) (λ i. inside (b * e + i)) y)
    one_block later b y =
        same.on (box (λ bs. repeated (size b) (within b bs)) cs y) (repeated (size b) (λ i. box (λ bs. within b bs i) cs) y) (repeated (size b) (λ i. inside (b * e + i)) y)
        (through Same (size b) (within b) cs same (steady_within b)
        (λ bs i ds j. boxes_past Same (λ xs. turn ((b * e + i) ∷ shifted (beginnings es bs) xs)) (λ xs. turn ((b * e + j) ∷ shifted (beginnings es ds) xs))
        (lengths ns es bs) (lengths ns es ds) same (λ xs. steady ((b * e + i) ∷ shifted (beginnings es bs) xs)) (λ xs. steady ((b * e + j) ∷ shifted (beginnings es ds) xs))
        (λ xs ys. exchange ((b * e + i) ∷ shifted (beginnings es bs) xs) ((b * e + j) ∷ shifted (beginnings es ds) ys))) y)
        (same_turns Same (size b) (λ i. box (λ bs. within b bs i) cs) (λ i. inside (b * e + i)) same (λ i. steady_inside (b * e + i))
        (λ i z. later (b * e + i) z) y)

-- what holds after each turn holds after the box, and what the last turn leaves is left
pub kept_in_box : {X : Type 0} (Good : X → Type 0) (turn : List ℕ → X → X) (ns : List ℕ) → ((xs : List ℕ) (x : X) → Good x → Good (turn xs x)) → (x : X) → Good x → Good (box turn ns x)
kept_in_box Good turn [] keeps x h = keeps [] x h
kept_in_box {X} Good turn (n ∷ ns) keeps x h = kept (λ i. kept_in_box Good (λ xs. turn (i ∷ xs)) ns (λ xs. keeps (i ∷ xs))) n
  where
    kept : ((i : ℕ) (y : X) → Good y → Good (box (λ xs. turn (i ∷ xs)) ns y)) → (k : ℕ) → Good (repeated k (λ i y. box (λ xs. turn (i ∷ xs)) ns y) x)
    kept each zero = h
    kept each (suc k) = each k (repeated k (λ i y. box (λ xs. turn (i ∷ xs)) ns y) x) (kept each k)

abbrev pub lasts : List ℕ → List ℕ
lasts ns = map (λ n. n - 1) ns

pub last_in_box : {X : Type 0} (Good : X → Type 0) (Ends : List ℕ → X → Type 0) (turn : List ℕ → X → X) (ns : List ℕ) → ((xs : List ℕ) (x : X) → Good x → Good (turn xs x))
    → ((xs : List ℕ) (x : X) → IsInside ns xs → Good x → Ends xs (turn xs x)) → ArePositive ns → (x : X) → Good x → Ends (lasts ns) (box turn ns x)
last_in_box Good Ends turn [] keeps ends some x h = ends [] x tt h
last_in_box Good Ends turn (zero ∷ ns) keeps ends some x h = absurd (omega (arith, some.0))
last_in_box Good Ends turn (suc n ∷ ns) keeps ends some x h =
    let back : n ≡ suc n - 1 = omega arith in
    subst (λ k. Ends (k ∷ lasts ns) (box turn (suc n ∷ ns) x)) back
    (last_in_box Good (λ xs y. Ends (n ∷ xs) y) (λ xs. turn (n ∷ xs)) ns (λ xs. keeps (n ∷ xs)) (λ xs y l. ends (n ∷ xs) y (omega arith, l)) some.1
    (repeated n (λ i y. box (λ xs. turn (i ∷ xs)) ns y) x) (kept_in_box Good turn (n ∷ ns) keeps x h))

-- a fold over the blocks of a box
fold_places : {X : Type 0} (turn : List ℕ → X → X) (cs : List ℕ) (x : X) → fold (λ y bs. turn bs y) x (places cs) ≡ box turn cs x
fold_places turn [] x = refl
fold_places {X} turn (c ∷ cs) x = along (λ i. fold_places (λ xs. turn (i ∷ xs)) cs) c
  where
    under : (i : ℕ) (y : X) (rows : List (List ℕ)) → fold (λ z bs. turn bs z) y (map (λ xs. i ∷ xs) rows) ≡ fold (λ z bs. turn (i ∷ bs) z) y rows
    under i y [] = refl
    under i y (xs ∷ rows) = under i (turn (i ∷ xs) y) rows

    along : ((i : ℕ) (y : X) → fold (λ z bs. turn (i ∷ bs) z) y (places cs) ≡ box (λ xs. turn (i ∷ xs)) cs y)
        → (n : ℕ) → fold (λ y bs. turn bs y) x (flat_map (λ i. map (λ xs. i ∷ xs) (places cs)) (range_with_len 0 n)) ≡ repeated n (λ i y. box (λ xs. turn (i ∷ xs)) cs y) x
    along each zero = refl
    along each (suc n) =
        let here : 0 + n ≡ n = omega arith in
        ap (fold (λ y bs. turn bs y) x) (flat_more (λ i. map (λ xs. i ∷ xs) (places cs)) 0 n)
        ∙ fold-append (λ y bs. turn bs y) x (flat_map (λ i. map (λ xs. i ∷ xs) (places cs)) (range_with_len 0 n)) (map (λ xs. (0 + n) ∷ xs) (places cs))
        ∙ ap (λ y. fold (λ y bs. turn bs y) y (map (λ xs. (0 + n) ∷ xs) (places cs))) (along each n)
        ∙ ap (λ k. fold (λ y bs. turn bs y) (repeated n (λ i y. box (λ xs. turn (i ∷ xs)) cs y) x) (map (λ xs. k ∷ xs) (places cs))) here
        ∙ under n (repeated n (λ i y. box (λ xs. turn (i ∷ xs)) cs y) x) (places cs)
        ∙ each n (repeated n (λ i y. box (λ xs. turn (i ∷ xs)) cs y) x)

pub fold_blocks : {X : Type 0} (turn : Part → X → X) (ns es : List ℕ) (x : X) → fold (λ y part. turn part y) x (blocks ns es) ≡ box (λ bs. turn (block ns es bs)) (counts_along ns es) x
unfolding blocks
fold_blocks {X} turn ns es x = mapped (places (counts_along ns es)) x ∙ fold_places (λ bs. turn (block ns es bs)) (counts_along ns es) x
  where
    mapped : (rows : List (List ℕ)) (y : X) → fold (λ z part. turn part z) y (map (block ns es) rows) ≡ fold (λ z bs. turn (block ns es bs) z) y rows
    mapped [] y = refl
    mapped (bs ∷ rows) y = mapped rows (turn (block ns es bs) y)

-- turns that are equal at places of this rank
pub equal_boxes : {X : Type 0} (turn other : List ℕ → X → X) (ns : List ℕ) → ((xs : List ℕ) → length xs ≡ length ns → turn xs ≡ other xs) → box turn ns ≡ box other ns
equal_boxes turn other [] same = same [] refl
equal_boxes turn other (n ∷ ns) same =
    ap (λ inside. λ x. repeated n inside x)
    (fun_ext (λ i. equal_boxes (λ xs. turn (i ∷ xs)) (λ xs. other (i ∷ xs)) ns (λ xs e. same (i ∷ xs) (let r : length (i ∷ xs) ≡ length (n ∷ ns) = omega (arith, e) in r))))

-- the last place of the last block is that of the box
last_along : (n e : ℕ) → 0 < e → 0 < n → (div_ceil n e - 1) * e + ((min ((div_ceil n e - 1 + 1) * e) n - (div_ceil n e - 1) * e) - 1) ≡ n - 1
last_along n e some low =
    let c : ℕ = div_ceil n e in
    let positive : 0 < c = some_count n e some low in
    let begins : (c - 1) * e < n = begins_inside n e (c - 1) some (omega arith) in
    let all : n ≤ c * e = (div_ceil_times n e some).0 in
    let back : c - 1 + 1 ≡ c = omega arith in
    let whole : min ((c - 1 + 1) * e) n ≡ n = ap (λ k. min (k * e) n) back ∙ (let short : min (c * e) n ≡ n = omega arith in short) in
    omega (arith, begins, whole)

pub last_place : (ns es : List ℕ) → length es ≡ length ns → ArePositive ns → ArePositive es
    → shifted (beginnings es (lasts (counts_along ns es))) (lasts (lengths ns es (lasts (counts_along ns es)))) ≡ lasts ns
last_place [] [] rank some edges = refl
last_place [] (e ∷ es) rank some edges = absurd (let h : ⊥ = omega (arith, rank) in h)
last_place (n ∷ ns) [] rank some edges = absurd (let h : ⊥ = omega (arith, rank) in h)
last_place (n ∷ ns) (e ∷ es) rank some edges =
    ap₂ (λ k ks. k ∷ ks) (last_along n e edges.0 some.0) (last_place ns es (let r : length es ≡ length ns = omega (arith, rank) in r) some.1 edges.1)

-- and blocks have some turns
pub some_turns : (ns es bs : List ℕ) → length es ≡ length ns → ArePositive es → IsInside (counts_along ns es) bs → ArePositive (lengths ns es bs)
some_turns [] es bs rank edges h = tt
some_turns (n ∷ ns) [] bs rank edges h = tt
some_turns (n ∷ ns) (e ∷ es) [] rank edges h = tt
some_turns (n ∷ ns) (e ∷ es) (b ∷ bs) rank edges h =
    let begins : b * e < n = begins_inside n e b edges.0 h.0 in
    let next : b * e < (b + 1) * e = omega (arith, edges.0, more_times b e) in (
      omega (arith, begins, next),
      some_turns ns es bs (let r : length es ≡ length ns = omega (arith, rank) in r) edges.1 h.1,
    )

pub counts_positive : (ns es : List ℕ) → length es ≡ length ns → ArePositive ns → ArePositive es → ArePositive (counts_along ns es)
counts_positive [] es rank some edges = tt
counts_positive (n ∷ ns) [] rank some edges = tt
counts_positive (n ∷ ns) (e ∷ es) rank some edges = (
  some_count n e edges.0 some.0,
  counts_positive ns es (let r : length es ≡ length ns = omega (arith, rank) in r) some.1 edges.1,
)
