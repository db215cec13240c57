-- The blocks of a box, group by group, leave what they leave in the sequence of their numbers.
use Rattle.std.proofs.Common.{◌≡◌, ℕ, suc, ◌+◌, Bool, true, false, if◌then◌else◌, Option, Some, None, List, [], ◌∷◌, length, map, refl, sym, ap, ap₂, ◌∙◌, subst, inl, inr, arith}
use mathlib.Core.Path.{fun_ext}
use Rattle.std.specs.List.{All, fold, flat_map, list_all}
use Rattle.std.specs.Option.{option_map}
use Rattle.std.specs.Prelude.{◌==◌, ◌&&◌, slice_get}
use Rattle.std.proofs.lemmas.Bool.{cases_Bool, cases_eq}
use Rattle.std.proofs.lemmas.List.Concat.{flat_map-cons}
use Rattle.std.proofs.lemmas.List.Folds.{fold-map}
use Rattle.std.proofs.lemmas.List.Sums.{fold-append}
use Rattle.std.proofs.lemmas.List.{length-map}
use Rattle.std.proofs.lemmas.Option.{get_or_from_slice_get, slice_get-map, slice_get_within}
use Rattle.tce_space.proofs.Counts.{length-counts_along}
use Rattle.tce_space.specs.Box.{place, IsInside}
use Rattle.tce_space.specs.Tiling.{ArePositive, counts_along}
use Rattle.tce_space.specs.IndexSet.{has}
use Rattle.tce_tree.proofs.Lists.{among-all}
use Rattle.tce_tree.specs.Value.{Assignment}
use Rattle.tce_tree.specs.WellFormed.{among}
use Rattle.tce_block.proofs.Beginning.{within_limits}
use Rattle.tce_block.proofs.Cover.{get-blocks}
use Rattle.tce_block.proofs.Grouped.{group_is, length-shifted, ones_begin, ones_count, pairs_inside}
use Rattle.tce_block.specs.Cuts.{IsCut, extents_of, edges_of}
use Rattle.tce_block.specs.declared.cut.Cut.{Cut}
use Rattle.tce_block.specs.Grouped.{IsPair, block_at, grouped_blocks, number_at, numbers_of, ones, paired, pairs_of, shifted}
use Rattle.tce_block.specs.Numbers.{AreWithin}
use Rattle.tce_block.specs.Parts.{Part, block, blocks, beginnings, lengths}
use Rattle.tce_code.specs.Execution.{Setting, State, exec}
use Rattle.tce_code.specs.Program.{Program}
use Rattle.tce_walk.proofs.BandLaws.{Alike, EndsAs, StaysFree, alike, exchange_turns, exec_block, exec_box, rank_begins, rank_lengths, steady_turn, turn_ends, turn_keeps, turn_of}
use Rattle.tce_walk.proofs.Boxes.{IsSame, Steady, Exchange, box, in_block, boxes_past, by_blocks, counts_positive, equal_boxes, fold_blocks, kept_in_box, last_in_box, last_place, lasts, some_turns, steady_box}
use Rattle.tce_walk.specs.Bands.{Known, HaveTurns, IsBand}
use Rattle.tce_walk.specs.PartRuns.{exec_part}
use Rattle.tce_walk.specs.Parts.{falls_on, last_on_place, set_by_part}
use Rattle.tce_walk.specs.TailLaws.{dims_at}
use Rattle.tce_walk.specs.Tails.{loops_round}

-- ---- a fold over the blocks

fold-flat : {A B C : Type 0} (f : B → A → B) (k : C → List A) (x : B) (xs : List C) → fold f x (flat_map k xs) ≡ fold (λ y c. fold f y (k c)) x xs
fold-flat f k x [] = refl
fold-flat f k x (c ∷ xs) = ap (fold f x) (flat_map-cons k c xs) ∙ fold-append f x (k c) (flat_map k xs) ∙ fold-flat f k (fold f x (k c)) xs

-- the blocks of one group
fold-group : {X : Type 0} (f : X → Part → X) (ns es : List ℕ) (g : Part) (x : X)
    → fold (λ y pair. f y (block_at ns es pair)) x (paired g (numbers_of g)) ≡ box (λ xs y. f y (block ns es (shifted g.from xs))) g.len x
fold-group f ns es g x =
    fold-map (λ y pair. f y (block_at ns es pair)) (λ n. (g, n)) x (numbers_of g)
    ∙ fold_blocks (λ n y. f y (block_at ns es (g, n))) g.len (ones g.len) x
    ∙ ap (λ cs. box (λ bs y. f y (block ns es (shifted g.from (beginnings (ones g.len) bs)))) cs x) (ones_count g.len)
    ∙ ap (λ sweep. sweep x) (equal_boxes (λ bs y. f y (block ns es (shifted g.from (beginnings (ones g.len) bs)))) (λ bs y. f y (block ns es (shifted g.from bs))) g.len (λ bs e.
    fun_ext (λ y. ap (λ xs. f y (block ns es (shifted g.from xs))) (ones_begin g.len bs e))))

-- all groups: a box of the boxes of their blocks
pub fold-grouped : {X : Type 0} (f : X → Part → X) (ns es gs : List ℕ) (x : X)
    → fold f x (grouped_blocks ns es gs) ≡ box (λ bs. in_block (λ xs y. f y (block ns es xs)) (counts_along ns es) gs bs) (counts_along (counts_along ns es) gs) x
fold-grouped f ns es gs x =
    fold-map f (block_at ns es) x (pairs_of (blocks (counts_along ns es) gs))
    ∙ fold-flat (λ y pair. f y (block_at ns es pair)) (λ g. paired g (numbers_of g)) x (blocks (counts_along ns es) gs)
    ∙ ap (λ step. fold step x (blocks (counts_along ns es) gs)) (fun_ext (λ y. fun_ext (λ g. fold-group f ns es g y)))
    ∙ fold_blocks (λ g y. box (λ xs y. f y (block ns es (shifted g.from xs))) g.len y) (counts_along ns es) gs x

pub within-rank : (ns es : List ℕ) → AreWithin ns es → length es ≡ length ns
within-rank [] [] w = refl
within-rank [] (e ∷ es) w = absurd w
within-rank (n ∷ ns) [] w = absurd w
within-rank (n ∷ ns) (e ∷ es) w = ap suc (within-rank ns es w.3)

pub within-positive : (ns es : List ℕ) → AreWithin ns es → ArePositive es
within-positive [] [] w = tt
within-positive [] (e ∷ es) w = absurd w
within-positive (n ∷ ns) [] w = absurd w
within-positive (n ∷ ns) (e ∷ es) w = (w.1, within-positive ns es w.3)

equality : {X : Type 0} → IsSame X (λ x y. x ≡ y)
equality = record { own = λ x. refl; on = λ x y z e f. e ∙ f }

-- steps that may be exchanged leave the same
pub same_in_groups : {X : Type 0} (f : X → Part → X) (ns es gs : List ℕ) → ((x : X) (p q : Part) → f (f x p) q ≡ f (f x q) p) → AreWithin (counts_along ns es) gs
    → (x : X) → fold f x (grouped_blocks ns es gs) ≡ fold f x (blocks ns es)
same_in_groups f ns es gs exchange w x =
    fold-grouped f ns es gs x
    ∙ by_blocks (λ x y. x ≡ y) (λ bs y. f y (block ns es bs)) (counts_along ns es) gs equality (λ bs x y e. ap (λ z. f z (block ns es bs)) e)
    (λ bs cs x. exchange x (block ns es cs) (block ns es bs)) (within-rank (counts_along ns es) gs w) (within-positive (counts_along ns es) gs w) x
    ∙ sym (fold_blocks (λ p y. f y p) ns es x)

fold-length : (n : ℕ) (ps : List Part) → fold (λ k (p : Part). k + 1) n ps ≡ n + length ps
fold-length n [] = omega arith
fold-length n (p ∷ ps) = fold-length (n + 1) ps ∙ (let one : n + 1 + length ps ≡ n + suc (length ps) = omega arith in one)

-- as many
pub length-grouped : (ns es gs : List ℕ) → AreWithin (counts_along ns es) gs → length (grouped_blocks ns es gs) ≡ length (blocks ns es)
length-grouped ns es gs w =
    let same = same_in_groups (λ k (p : Part). k + 1) ns es gs (λ x p q. refl) w 0 in
    omega (arith, fold-length 0 (grouped_blocks ns es gs), fold-length 0 (blocks ns es), same)

-- and each is one of them
pub record IsNumbered (ns es : List ℕ) (part : Part) : Type 0 where
  pub number : ℕ
  pub is : slice_get (blocks ns es) number ≡ Some part

pub grouped-numbered : (ns es gs : List ℕ) → AreWithin (counts_along ns es) gs → (k : ℕ) (part : Part) → slice_get (grouped_blocks ns es gs) k ≡ Some part → IsNumbered ns es part
grouped-numbered ns es gs w k part e = numbered (slice_get pairs k) refl
  where
    pairs : List (Part × Part)
    pairs = pairs_of (blocks (counts_along ns es) gs)

    found : slice_get (grouped_blocks ns es gs) k ≡ option_map (block_at ns es) (slice_get pairs k)
    found = slice_get-map (block_at ns es) pairs k

    numbered : (o : Option (Part × Part)) → slice_get pairs k ≡ o → IsNumbered ns es part
    numbered None h = let wrong : Some part ≡ None = sym e ∙ found ∙ ap (option_map (block_at ns es)) h in absurd (let b : ⊥ = cc in b)
    numbered (Some pair) h =
        let same : Some (block_at ns es pair) ≡ Some part = ap (option_map (block_at ns es)) (sym h) ∙ sym found ∙ e in
        let is : block_at ns es pair ≡ part = cc in
        let here : IsPair (counts_along ns es) pair = subst (IsPair (counts_along ns es)) (get_or_from_slice_get pairs k pair pair h) (pairs_inside (counts_along ns es) gs w k pair (slice_get_within pairs k pair h)) in
        record { number = place (counts_along ns es) (number_at pair); is = get-blocks ns es (number_at pair) here.inside ∙ ap Some is }

-- the sizes of the groups are within the counts of blocks
pub sizes-within : (cuts sizes : List Cut) (ns es : List ℕ) → All IsCut sizes → extents_of sizes ≡ counts_along (extents_of cuts) (edges_of cuts) → extents_of cuts ≡ ns → edges_of cuts ≡ es
    → AreWithin (counts_along ns es) (edges_of sizes)
sizes-within cuts sizes ns es are counts a b = subst (λ ms. AreWithin ms (edges_of sizes)) (counts ∙ ap₂ counts_along a b) (within_limits sizes are)

-- ---- places that are set

word_alone : (s : Setting) (t : ℕ) (order : List ℕ) (f : Assignment → ℕ) (a : Assignment) (p q : Part) (at : List ℕ) → list_all (has (dims_at s t)) order ≡ true
    → f (last_on_place s t order a p at) ≡ f (last_on_place s t order a q at)
word_alone s t order f a p q at kept =
    ap f (fun_ext (λ i. elim (cases_Bool (among order i)) [
      | inl m ↦ rw (m, among-all (has (dims_at s t)) order i kept m) refl
      | inr m ↦ rw m refl
    ]))

-- all blocks set a place to one word, and so in any sequence
pub sets_cross : (s : Setting) (t : ℕ) (order : List ℕ) (f : Assignment → ℕ) (a : Assignment) → list_all (has (dims_at s t)) order ≡ true
    → (state : State) (p q : Part) → set_by_part s t order f a q (set_by_part s t order f a p state) ≡ set_by_part s t order f a p (set_by_part s t order f a q state)
sets_cross s t order f a kept state p q =
    fun_ext (λ u. fun_ext (λ at. crossed (u == t && falls_on s t order a q at) (u == t && falls_on s t order a p at) (f (last_on_place s t order a q at)) (f (last_on_place s t order a p at)) (state u at)
    (word_alone s t order f a q p at kept)))
  where
    crossed : (b c : Bool) (x y z : ℕ) → x ≡ y → (if b then x else (if c then y else z)) ≡ (if c then y else (if b then x else z))
    crossed true true x y z e = e
    crossed true false x y z e = refl
    crossed false true x y z e = refl
    crossed false false x y z e = refl

-- ---- bands

-- a band leaves the same group by group
pub groups_make_bands : (s : Setting) (order : List ℕ) (t : ℕ) (outside : Known) (body : Program) (a : Assignment) (edge : ℕ → ℕ) (gs : List ℕ) (before : State)
    → ArePositive (map s.elements.extent order) → ArePositive (map edge order) → HaveTurns s body → IsBand s.tree s.fusion order t outside body
    → AreWithin (counts_along (map s.elements.extent order) (map edge order)) gs
    → fold (λ state part. exec_part s body order part state a) before (grouped_blocks (map s.elements.extent order) (map edge order) gs)
    ≡ exec s (loops_round order body) before a
groups_make_bands s order t outside body a edge gs before some edges turns band sizes =
    fold-grouped (λ state part. exec_part s body order part state a) ns es gs before
    ∙ ap (λ sweep. sweep before) (equal_boxes (λ bs. in_block (λ xs state. exec_part s body order (block ns es xs) state a) cs gs bs) (λ bs. in_block inside cs gs bs) (counts_along cs gs) (λ bs e.
    fun_ext (λ state. ap (λ sweep. sweep state) (equal_boxes (λ xs state. exec_part s body order (block ns es (shifted (beginnings gs bs) xs)) state a) (λ xs. inside (shifted (beginnings gs bs) xs)) (lengths cs gs bs)
    (λ xs k. fun_ext (λ state. one_block (shifted (beginnings gs bs) xs) state (long bs xs e k)))))))
    ∙ fun_ext (λ v. fun_ext (λ p.
    elim (cases_eq v t) [
      | inl q ↦ ap (λ u. by_groups u p) q ∙ swept.1 p ∙ ap (λ u. whole u p) (sym q)
      | inr ne ↦ ends_groups v ne p ∙ sym (ends_box v ne p)
    ]))
    ∙ sym (exec_box s order body a before)
  where
    ns : List ℕ
    ns = map s.elements.extent order

    es : List ℕ
    es = map edge order

    cs : List ℕ
    cs = counts_along ns es

    same_rank : length es ≡ length ns
    same_rank = length-map order edge ∙ sym (length-map order s.elements.extent)

    counts_rank : length cs ≡ length ns
    counts_rank = length-counts_along ns es same_rank

    sizes_rank : length gs ≡ length cs
    sizes_rank = within-rank cs gs sizes

    turn : List ℕ → State → State
    turn = turn_of s order body a

    inside : List ℕ → State → State
    inside bs = in_block turn ns es bs

    by_groups : State
    by_groups = box (λ bs. in_block inside cs gs bs) (counts_along cs gs) before

    whole : State
    whole = box turn ns before

    one_block : (bs : List ℕ) (state : State) → length bs ≡ length ns → exec_part s body order (block ns es bs) state a ≡ inside bs state
    one_block bs state rank =
        exec_block s order body (beginnings es bs) (lengths ns es bs) a state (rank_begins es bs (rank ∙ sym same_rank) ∙ length-map order edge)
        (rank_lengths ns es bs same_rank rank ∙ length-map order s.elements.extent)

    long : (bs xs : List ℕ) → length bs ≡ length (counts_along cs gs) → length xs ≡ length (lengths cs gs bs) → length (shifted (beginnings gs bs) xs) ≡ length ns
    long bs xs e k =
        let rank : length bs ≡ length cs = e ∙ length-counts_along cs gs sizes_rank in
        let all : length xs ≡ length cs = k ∙ rank_lengths cs gs bs sizes_rank rank in
        length-shifted (beginnings gs bs) xs (rank_begins gs bs (rank ∙ sym sizes_rank) ∙ sizes_rank ∙ sym all) ∙ all ∙ counts_rank

    steady : (xs : List ℕ) → Steady (Alike s t outside) (turn xs)
    steady = steady_turn s t order outside body a band turns

    cross : (xs ys : List ℕ) → Exchange (Alike s t outside) (turn xs) (turn ys)
    cross = exchange_turns s t order outside body a band turns

    by_box : State
    by_box = box inside cs before

    swept : Alike s t outside by_groups whole
    swept =
        (alike s t outside).on by_groups by_box whole
        (by_blocks (Alike s t outside) inside cs gs (alike s t outside)
        (λ bs. steady_box (Alike s t outside) (λ xs. turn (shifted (beginnings es bs) xs)) (lengths ns es bs) (alike s t outside) (λ xs. steady (shifted (beginnings es bs) xs)))
        (λ bs ds. boxes_past (Alike s t outside) (λ xs. turn (shifted (beginnings es bs) xs)) (λ xs. turn (shifted (beginnings es ds) xs)) (lengths ns es bs) (lengths ns es ds) (alike s t outside)
        (λ xs. steady (shifted (beginnings es bs) xs)) (λ xs. steady (shifted (beginnings es ds) xs)) (λ xs ys. cross (shifted (beginnings es bs) xs) (shifted (beginnings es ds) ys)))
        sizes_rank (within-positive cs gs sizes) before)
        (by_blocks (Alike s t outside) turn ns es (alike s t outside) steady cross same_rank edges before)

    ends_box : EndsAs s t order body a before (lasts ns) whole
    ends_box =
        last_in_box (StaysFree s outside before) (EndsAs s t order body a before) turn ns (turn_keeps s t order outside body a before band turns)
        (λ xs state l h. turn_ends s t order outside body a before band turns xs state h) some before (λ v p m. refl)

    -- a block keeps what is free, and ends at its last turn
    keeps : (bs : List ℕ) (state : State) → StaysFree s outside before state → StaysFree s outside before (inside bs state)
    keeps bs =
        kept_in_box (StaysFree s outside before) (λ xs. turn (shifted (beginnings es bs) xs)) (lengths ns es bs)
        (λ xs. turn_keeps s t order outside body a before band turns (shifted (beginnings es bs) xs))

    Ends : List ℕ → State → Type 0
    Ends bs state = EndsAs s t order body a before (shifted (beginnings es bs) (lasts (lengths ns es bs))) state

    ends : (bs : List ℕ) (state : State) → IsInside cs bs → StaysFree s outside before state → Ends bs (inside bs state)
    ends bs state within h =
        last_in_box (StaysFree s outside before) (λ xs. EndsAs s t order body a before (shifted (beginnings es bs) xs)) (λ xs. turn (shifted (beginnings es bs) xs)) (lengths ns es bs)
        (λ xs. turn_keeps s t order outside body a before band turns (shifted (beginnings es bs) xs))
        (λ xs there l k. turn_ends s t order outside body a before band turns (shifted (beginnings es bs) xs) there k)
        (some_turns ns es bs same_rank edges within) state h

    ends_groups : EndsAs s t order body a before (lasts ns) by_groups
    ends_groups =
        subst (λ xs. EndsAs s t order body a before xs by_groups) (last_place ns es same_rank some edges)
        (subst (λ bs. Ends bs by_groups) (last_place cs gs sizes_rank (counts_positive ns es same_rank some edges) (within-positive cs gs sizes))
        (last_in_box (StaysFree s outside before) (λ bs. Ends (shifted (beginnings gs bs) (lasts (lengths cs gs bs)))) (λ bs. in_block inside cs gs bs) (counts_along cs gs)
        (λ bs. kept_in_box (StaysFree s outside before) (λ xs. inside (shifted (beginnings gs bs) xs)) (lengths cs gs bs) (λ xs. keeps (shifted (beginnings gs bs) xs)))
        (λ bs state within h. last_in_box (StaysFree s outside before) (λ xs. Ends (shifted (beginnings gs bs) xs)) (λ xs. inside (shifted (beginnings gs bs) xs)) (lengths cs gs bs)
        (λ xs. keeps (shifted (beginnings gs bs) xs)) (λ xs there l k. ends (shifted (beginnings gs bs) xs) there ((group_is cs gs bs sizes within).inside xs l) k)
        (some_turns cs gs bs sizes_rank (within-positive cs gs sizes) within) state h)
        (counts_positive cs gs sizes_rank (counts_positive ns es same_rank some edges) (within-positive cs gs sizes)) before (λ v p m. refl)))
