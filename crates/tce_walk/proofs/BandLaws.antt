-- A band leaves the same block by block.
use Rattle.std.proofs.Common.{◌≡◌, ℕ, ◌+◌, true, false, eqb, Bool, Option, Some, None, List, [], ◌∷◌, map, length, refl, sym, ap, ◌∙◌, subst, inl, inr, arith}
use mathlib.Core.Path.{fun_ext}
use Rattle.std.proofs.lemmas.Bool.{cases_Bool, cases_eq, ne_eqb, eq-eqb, true≢false, or_left}
use Rattle.std.proofs.lemmas.List.{length-map}
use Rattle.std.specs.Prelude.{◌⊎◌}
use Rattle.tce_base.specs.Word.{wrapping_add}
use Rattle.tce_base.proofs.Words.{plus_assoc, plus_comm}
use Rattle.tce_space.specs.Tiling.{counts_along}
use Rattle.tce_tree.proofs.Assignments.{with-other}
use Rattle.tce_tree.specs.ContractionTree.{node}
use Rattle.tce_tree.specs.Value.{Assignment, with_number}
use Rattle.tce_tree.specs.WellFormed.{among}
use Rattle.tce_block.specs.Parts.{block, beginnings, lengths}
use Rattle.tce_code.specs.Execution.{Setting, State, exec, repeated}
use Rattle.tce_code.specs.Program.{Program}
use Rattle.tce_block.specs.Grouped.{shifted}
use Rattle.tce_walk.proofs.Boxes.{IsSame, Steady, Exchange, box, in_block, lasts, by_blocks, kept_in_box, last_in_box, fold_blocks, equal_boxes, last_place, some_turns, counts_positive}
use Rattle.tce_walk.proofs.Carried.{IsFree, changed, Lands, Follows, body_follows}
use Rattle.tce_walk.specs.Bands.{Known, is_sum, known_after, HaveTurns, IsBand, BlocksMakeBands}
use Rattle.tce_walk.specs.PartRuns.{exec_along, exec_part}
use Rattle.tce_walk.specs.Tails.{loops_round}
use Rattle.tce_space.proofs.Counts.{length-counts_along}

-- the loops at these numbers
abbrev pub put : List ℕ → List ℕ → Assignment → Assignment
put [] xs a = a
put (i ∷ order) [] a = a
put (i ∷ order) (x ∷ xs) a = put order xs (with_number a i x)

pub put_outside : (order xs : List ℕ) (a : Assignment) (i : ℕ) → among order i ≡ false → put order xs a i ≡ a i
put_outside [] xs a i out = refl
put_outside (j ∷ order) [] a i out = refl
put_outside (j ∷ order) (x ∷ xs) a i out =
    elim (cases_eq i j) [
      | inl q ↦ absurd (true≢false (sym (or_left (eqb j i) (among order i) (eq-eqb j i (sym q))) ∙ out))
      | inr ne ↦ put_outside order xs (with_number a j x) i (rw (ne_eqb j i (λ q. ne (sym q))) at out) ∙ with-other a j x i ne
    ]

-- one turn of a body
abbrev pub turn_of : Setting → List ℕ → Program → Assignment → List ℕ → State → State
turn_of s order body a xs state = exec s body state (put order xs a)

-- a nest of loops is a box of turns, and a part of it a block of them
pub exec_box : (s : Setting) (order : List ℕ) (body : Program) (a : Assignment) (state : State)
    → exec s (loops_round order body) state a ≡ box (turn_of s order body a) (map s.elements.extent order) state
exec_box s [] body a state = refl
exec_box s (i ∷ order) body a state =
    ap (λ turn. repeated (s.elements.extent i) turn state) (fun_ext (λ x. fun_ext (λ before. exec_box s order body (with_number a i x) before)))

pub exec_block : (s : Setting) (order : List ℕ) (body : Program) (from len : List ℕ) (a : Assignment) (state : State) → length from ≡ length order → length len ≡ length order
    → exec_along s body order from len state a ≡ box (λ xs. turn_of s order body a (shifted from xs)) len state
exec_block s [] body [] [] a state e f = refl
exec_block s [] body [] (n ∷ len) a state e f = absurd (let h : ⊥ = omega (arith, f) in h)
exec_block s [] body (x ∷ from) len a state e f = absurd (let h : ⊥ = omega (arith, e) in h)
exec_block s (i ∷ order) body [] len a state e f = absurd (let h : ⊥ = omega (arith, e) in h)
exec_block s (i ∷ order) body (x ∷ from) [] a state e f = absurd (let h : ⊥ = omega (arith, f) in h)
exec_block s (i ∷ order) body (x ∷ from) (n ∷ len) a state e f =
    ap (λ turn. repeated n turn state) (fun_ext (λ y. fun_ext (λ before.
    exec_block s order body from len (with_number a i (x + y)) before (let r : length from ≡ length order = omega (arith, e) in r)
    (let r : length len ≡ length order = omega (arith, f) in r))))

pub rank_begins : (es bs : List ℕ) → length bs ≡ length es → length (beginnings es bs) ≡ length es
rank_begins [] bs e = refl
rank_begins (x ∷ es) [] e = absurd (let h : ⊥ = omega (arith, e) in h)
rank_begins (x ∷ es) (b ∷ bs) e =
    let later = rank_begins es bs (let r : length bs ≡ length es = omega (arith, e) in r) in
    let all : length (beginnings (x ∷ es) (b ∷ bs)) ≡ length (x ∷ es) = omega (arith, later) in all

pub rank_lengths : (ns es bs : List ℕ) → length es ≡ length ns → length bs ≡ length ns → length (lengths ns es bs) ≡ length ns
rank_lengths [] es bs e f = refl
rank_lengths (n ∷ ns) [] bs e f = absurd (let h : ⊥ = omega (arith, e) in h)
rank_lengths (n ∷ ns) (x ∷ es) [] e f = absurd (let h : ⊥ = omega (arith, f) in h)
rank_lengths (n ∷ ns) (x ∷ es) (b ∷ bs) e f =
    let later = rank_lengths ns es bs (let r : length es ≡ length ns = omega (arith, e) in r) (let r : length bs ≡ length ns = omega (arith, f) in r) in
    let all : length (lengths (n ∷ ns) (x ∷ es) (b ∷ bs)) ≡ length (n ∷ ns) = omega (arith, later) in all

-- states that agree on the free places and on those of the node that carries
abbrev pub Alike : Setting → ℕ → Known → State → State → Type 0
Alike s t outside x y = ((v : ℕ) (p : List ℕ) → IsFree s outside v p → x v p ≡ y v p) × ((p : List ℕ) → x t p ≡ y t p)

pub alike : (s : Setting) (t : ℕ) (outside : Known) → IsSame State (Alike s t outside)
alike s t outside = record {
  own = λ x. ((λ v p m. refl), (λ p. refl));
  on = λ x y z h k. ((λ v p m. h.0 v p m ∙ k.0 v p m), (λ p. h.1 p ∙ k.1 p));
}

-- a body from two states that agree on the free places
pub turn_follows : (s : Setting) (t : ℕ) (order : List ℕ) (outside : Known) (body : Program) (b : Assignment) (e f : State)
    → IsBand s.tree s.fusion order t outside body → HaveTurns s body → ((v : ℕ) (p : List ℕ) → IsFree s outside v p → e v p ≡ f v p)
    → Follows s t order outside b e f (known_after t outside body) (exec s body e b) (exec s body f b)
turn_follows s t order outside body b e f band turns start =
    body_follows s t order outside b e f body outside e f b band.passes turns (λ i m. refl) start (record {
      agreed = λ v p m. start v p (inl m);
      free = λ v p m. refl;
      other_free = λ v p m. refl;
      carried = λ p. record { change = None; lands = tt; here = refl; there = refl };
    })

-- two changes of one place, in either sequence; or they are made at the same numbers
added_twice : (w x y : ℕ) → wrapping_add (wrapping_add w y) x ≡ wrapping_add (wrapping_add w x) y
added_twice w x y = plus_assoc w y x ∙ ap (wrapping_add w) (plus_comm y x) ∙ sym (plus_assoc w x y)

changes_cross : (s : Setting) (t : ℕ) (order xs ys : List ℕ) (a : Assignment) (p : List ℕ) (c d : Option ℕ) (w : ℕ) (grows : Bool) → is_sum (node s.tree t) ≡ grows
    → Lands s t order (put order xs a) p c → Lands s t order (put order ys a) p d
    → (changed grows c (changed grows d w) ≡ changed grows d (changed grows c w)) ⊎ (put order xs a ≡ put order ys a)
changes_cross s t order xs ys a p None d w grows is l m = inl refl
changes_cross s t order xs ys a p (Some x) None w grows is l m = inl refl
changes_cross s t order xs ys a p (Some x) (Some y) w true is l m = inl (added_twice w x y)
changes_cross s t order xs ys a p (Some x) (Some y) w false is (inl g) m = absurd (true≢false (sym g ∙ is))
changes_cross s t order xs ys a p (Some x) (Some y) w false is (inr l) (inl g) = absurd (true≢false (sym g ∙ is))
changes_cross s t order xs ys a p (Some x) (Some y) w false is (inr l) (inr m) =
    inr (fun_ext (λ i. elim (cases_Bool (among order i)) [
      | inl k ↦ sym (l i k) ∙ m i k
      | inr k ↦ put_outside order xs a i k ∙ sym (put_outside order ys a i k)
    ]))

pub steady_turn : (s : Setting) (t : ℕ) (order : List ℕ) (outside : Known) (body : Program) (a : Assignment) → IsBand s.tree s.fusion order t outside body → HaveTurns s body
    → (xs : List ℕ) → Steady (Alike s t outside) (turn_of s order body a xs)
steady_turn s t order outside body a band turns xs x y h =
    let f = turn_follows s t order outside body (put order xs a) x y band turns h.0 in (
      (λ v p m. f.free v p m ∙ h.0 v p m ∙ sym (f.other_free v p m)),
      (λ p. (f.carried p).here ∙ ap (changed (is_sum (node s.tree t)) (f.carried p).change) (h.1 p) ∙ sym (f.carried p).there),
    )

pub exchange_turns : (s : Setting) (t : ℕ) (order : List ℕ) (outside : Known) (body : Program) (a : Assignment) → IsBand s.tree s.fusion order t outside body → HaveTurns s body
    → (xs ys : List ℕ) → Exchange (Alike s t outside) (turn_of s order body a xs) (turn_of s order body a ys)
exchange_turns s t order outside body a band turns xs ys x = (
  (λ v p m. one_after.other_free v p m ∙ (two.free v p m) ∙ sym (one.free v p m) ∙ sym (two_after.other_free v p m)),
  (λ p.
      elim (changes_cross s t order xs ys a p (one_after.carried p).change (two_after.carried p).change (x t p) (is_sum (node s.tree t)) refl
      (one_after.carried p).lands (two_after.carried p).lands) [
        | inl e ↦
            (one_after.carried p).there ∙ ap (changed (is_sum (node s.tree t)) (one_after.carried p).change) (two_after.carried p).here
            ∙ e
            ∙ sym ((two_after.carried p).there ∙ ap (changed (is_sum (node s.tree t)) (two_after.carried p).change) (one_after.carried p).here)
        | inr q ↦
            ap (λ b. exec s body (exec s body x (put order ys a)) b t p) q
            ∙ ap (λ b. exec s body (exec s body x b) (put order ys a) t p) (sym q)
      ]),
)
  where
    one : Follows s t order outside (put order xs a) x x (known_after t outside body) (exec s body x (put order xs a)) (exec s body x (put order xs a))
    one = turn_follows s t order outside body (put order xs a) x x band turns (λ v p m. refl)

    two : Follows s t order outside (put order ys a) x x (known_after t outside body) (exec s body x (put order ys a)) (exec s body x (put order ys a))
    two = turn_follows s t order outside body (put order ys a) x x band turns (λ v p m. refl)

    one_after : Follows s t order outside (put order xs a) x (exec s body x (put order ys a)) (known_after t outside body) (exec s body x (put order xs a))
        (exec s body (exec s body x (put order ys a)) (put order xs a))
    one_after = turn_follows s t order outside body (put order xs a) x (exec s body x (put order ys a)) band turns (λ v p m. sym (two.free v p m))

    two_after : Follows s t order outside (put order ys a) x (exec s body x (put order xs a)) (known_after t outside body) (exec s body x (put order ys a))
        (exec s body (exec s body x (put order xs a)) (put order ys a))
    two_after = turn_follows s t order outside body (put order ys a) x (exec s body x (put order xs a)) band turns (λ v p m. sym (one.free v p m))

-- what stays in each turn, and what the last one leaves at all nodes but the one that carries
abbrev pub StaysFree : Setting → Known → State → State → Type 0
StaysFree s outside before state = (v : ℕ) (p : List ℕ) → IsFree s outside v p → state v p ≡ before v p

abbrev pub EndsAs : Setting → ℕ → List ℕ → Program → Assignment → State → List ℕ → State → Type 0
EndsAs s t order body a before xs state = (v : ℕ) → (v ≡ t → ⊥) → (p : List ℕ) → state v p ≡ turn_of s order body a xs before v p

pub turn_keeps : (s : Setting) (t : ℕ) (order : List ℕ) (outside : Known) (body : Program) (a : Assignment) (before : State) → IsBand s.tree s.fusion order t outside body → HaveTurns s body
    → (xs : List ℕ) (state : State) → StaysFree s outside before state → StaysFree s outside before (turn_of s order body a xs state)
turn_keeps s t order outside body a before band turns xs state h v p m =
    (turn_follows s t order outside body (put order xs a) state before band turns h).free v p m ∙ h v p m

pub turn_ends : (s : Setting) (t : ℕ) (order : List ℕ) (outside : Known) (body : Program) (a : Assignment) (before : State) → IsBand s.tree s.fusion order t outside body → HaveTurns s body
    → (xs : List ℕ) (state : State) → StaysFree s outside before state → EndsAs s t order body a before xs (turn_of s order body a xs state)
turn_ends s t order outside body a before band turns xs state h v ne p =
    elim (band.rest v) [
      | inl q ↦ absurd (ne q)
      | inr k ↦ (turn_follows s t order outside body (put order xs a) state before band turns h).agreed v p k
    ]

pub blocks_make_bands : BlocksMakeBands
blocks_make_bands s order t outside body a edge before some edges turns band =
    fold_blocks (λ part state. exec_part s body order part state a) ns es before
    ∙ ap (λ sweep. sweep before) (equal_boxes (λ bs state. exec_part s body order (block ns es bs) state a) (λ bs. in_block turn ns es bs) (counts_along ns es) (λ bs e.
    fun_ext (λ state.
    let rank : length bs ≡ length ns = e ∙ length-counts_along ns es same_rank in
    exec_block s order body (beginnings es bs) (lengths ns es bs) a state (rank_begins es bs (rank ∙ sym same_rank) ∙ length-map order edge)
    (rank_lengths ns es bs same_rank rank ∙ length-map order s.elements.extent))))
    ∙ fun_ext (λ v. fun_ext (λ p.
    elim (cases_eq v t) [
      | inl q ↦ ap (λ u. by_box u p) q ∙ swept.1 p ∙ ap (λ u. whole u p) (sym q)
      | inr ne ↦ ends_blocks v ne p ∙ sym (ends_box v ne p)
    ]))
    ∙ sym (exec_box s order body a before)
  where
    ns : List ℕ
    ns = map s.elements.extent order

    es : List ℕ
    es = map edge order

    same_rank : length es ≡ length ns
    same_rank = length-map order edge ∙ sym (length-map order s.elements.extent)

    turn : List ℕ → State → State
    turn = turn_of s order body a

    by_box : State
    by_box = box (λ bs. in_block turn ns es bs) (counts_along ns es) before

    whole : State
    whole = box turn ns before

    swept : Alike s t outside by_box whole
    swept =
        by_blocks (Alike s t outside) turn ns es (alike s t outside) (steady_turn s t order outside body a band turns) (exchange_turns s t order outside body a band turns)
        same_rank edges before

    ends_box : EndsAs s t order body a before (lasts ns) whole
    ends_box =
        last_in_box (StaysFree s outside before) (EndsAs s t order body a before) turn ns (turn_keeps s t order outside body a before band turns)
        (λ xs state l h. turn_ends s t order outside body a before band turns xs state h) some before (λ v p m. refl)

    ends_blocks : EndsAs s t order body a before (lasts ns) by_box
    ends_blocks =
        subst (λ xs. EndsAs s t order body a before xs by_box) (last_place ns es same_rank some edges)
        (last_in_box (StaysFree s outside before) (λ bs. EndsAs s t order body a before (shifted (beginnings es bs) (lasts (lengths ns es bs))))
        (λ bs. in_block turn ns es bs) (counts_along ns es)
        (λ bs. kept_in_box (StaysFree s outside before) (λ xs. turn (shifted (beginnings es bs) xs)) (lengths ns es bs)
        (λ xs. turn_keeps s t order outside body a before band turns (shifted (beginnings es bs) xs)))
        (λ bs state inside h. last_in_box (StaysFree s outside before) (λ xs. EndsAs s t order body a before (shifted (beginnings es bs) xs))
        (λ xs. turn (shifted (beginnings es bs) xs)) (lengths ns es bs)
        (λ xs. turn_keeps s t order outside body a before band turns (shifted (beginnings es bs) xs))
        (λ xs there l k. turn_ends s t order outside body a before band turns (shifted (beginnings es bs) xs) there k)
        (some_turns ns es bs same_rank edges inside) state h)
        (counts_positive ns es same_rank some edges) before (λ v p m. refl))
