-- What a put, a clearing and a touch do to the state of the nodes.
use Rattle.std.proofs.Common.{◌≡◌, ◌⊎◌, ℕ, ◌+◌, ◌-◌, ◌*◌, ◌<◌, ◌≤◌, Bool, true, false, eqb, ltb, ◌&&◌, if◌then◌else◌, Option, Some, None, List, [], ◌∷◌, map, length, slice_index, slice_set, slice_get, bytes_eq, refl, sym, ap, ap₂, ◌∙◌, subst, inl, inr, arith, ltb-true, lt-ltb}
use mathlib.Core.Path.{fun_ext}
use Rattle.std.specs.Option.{IsSomeAnd}
use Rattle.std.proofs.lemmas.Bool.{cases_Bool, cases_order, and_parts, eq-eqb, eqb-true, false≢true, true≢false}
use Rattle.std.proofs.lemmas.List.{get_or-set_same, get_or-set_other}
use Rattle.std.proofs.lemmas.Slice.Eq.{bytes_eq-Decides}
use Rattle.tce_outside.specs.Files.{Files}
use Rattle.tce_space.specs.Box.{IsInside}
use Rattle.tce_space.specs.IndexSet.{IsIndexSet, members}
use Rattle.tce_space.specs.Space.{extent_at}
use Rattle.tce_space.specs.Tiling.{Tiling, IsTiling, tile_words, tile_number, place_in_tile}
use Rattle.tce_space.proofs.Boxes.{length_inside}
use Rattle.tce_space.proofs.IndexSetLaws.{minus_lt}
use Rattle.tce_space.proofs.Tilings.{place_in_tile-lt, word_number_injective}
use Rattle.tce_cache.specs.Held.{Held, look_up}
use Rattle.tce_cache.specs.Current.{place, current}
use Rattle.tce_cache.proofs.Current.{current_held, put_other, set_outside, clean_stay, below_found}
use Rattle.tce_cache.specs.declared.array.ArrayRef.{ArrayRef}
use Rattle.tce_cache.specs.Cache.{State as CacheState, IsCache, HasRoom, layout, stored, words_of_tile}
use Rattle.tce_cache.specs.Touch.{with_held}
use Rattle.tce_cache.proofs.Tiles.{frame_room}
use Rattle.tce_tree.specs.ContractionTree.{operations, node_dims}
use Rattle.tce_tree.specs.Fusion.{kept_dims, fused_at}
use Rattle.tce_tree.specs.Memory.{size_before}
use Rattle.tce_tree.specs.Value.{Assignment, assignment}
use Rattle.tce_tree.specs.WellFormed.{among}
use Rattle.tce_tree.proofs.Members.{node_dims_lt}
use Rattle.tce_tree.proofs.Permutations.{among-members, distinct-members, members_has}
use Rattle.tce_tree.proofs.Values.{map-same}
use Rattle.tce_tree.proofs.Assignments.{assignment-at, assignment_inside, same_at, numbers_inside}
use Rattle.tce_code.specs.Execution.{State, coordinates, with_word, cleared}
use Rattle.tce_layout.specs.Layout.{slot_at, IsLayout}
use Rattle.tce_layout.specs.Places.{kept_extents, word_at, IsPlace}
use Rattle.tce_layout.proofs.Filling.{places_fill}
use Rattle.tce_layout.proofs.Slots.{before_le}
use Rattle.tce_exec.specs.Slots.{slot_word}
use Rattle.tce_exec.specs.NodeStates.{Places, are_inside, node_word, root, root_dims, result_coordinates, root_word, state_of, current_cell, IsResult}
use Rattle.tce_exec.specs.OperandLaws.{HasShape, StandsBefore, IsRootAt, PutsChangeOnePlace, ClearedSlotsAreCleared, TilePutsChangeOnePlace, TouchesKeepStates, PlacesHaveTheirWords, TouchedTilesShowElements}
use Rattle.tce_exec.proofs.Assignments.{are_inside-true, are_inside-holds, map-assignment}
use Rattle.tce_exec.proofs.Slots.{is_place, stands_between, slot_ends}

-- ---- states that are as before but at one place, or but at one node

pub with_word-is : (S T : State) (v : ℕ) (at : List ℕ) (w : ℕ) → T v at ≡ w → ((u : ℕ) (p : List ℕ) → (u ≡ v → p ≡ at → ⊥) → T u p ≡ S u p) → T ≡ with_word S v at w
with_word-is S T v at w here others = fun_ext (λ u. fun_ext (λ p. place_is u p))
  where
    place_is : (u : ℕ) (p : List ℕ) → T u p ≡ (if eqb u v && bytes_eq p at then w else S u p)
    place_is u p =
        elim (cases_Bool (eqb u v && bytes_eq p at)) [
          | inl t ↦
              let both = and_parts (eqb u v) (bytes_eq p at) t in
              ap₂ T (eqb-true u v both.0) ((bytes_eq-Decides p at).0 both.1) ∙ here ∙ sym (ap (λ b. if b then w else S u p) t)
          | inr f ↦
              others u p (λ q r. false≢true (sym f ∙ ap₂ (λ x y. x && y) (eq-eqb u v q) ((bytes_eq-Decides p at).1 r)))
              ∙ sym (ap (λ b. if b then w else S u p) f)
        ]

cleared-is : (S T : State) (v : ℕ) → ((p : List ℕ) → T v p ≡ 0) → ((u : ℕ) (p : List ℕ) → (u ≡ v → ⊥) → T u p ≡ S u p) → T ≡ cleared S v
cleared-is S T v here others = fun_ext (λ u. fun_ext (λ p. place_is u p))
  where
    place_is : (u : ℕ) (p : List ℕ) → T u p ≡ (if eqb u v then 0 else S u p)
    place_is u p =
        elim (cases_Bool (eqb u v)) [
          | inl t ↦ ap (λ x. T x p) (eqb-true u v t) ∙ here p ∙ sym (ap (λ b. if b then 0 else S u p) t)
          | inr f ↦ others u p (λ q. false≢true (sym f ∙ eq-eqb u v q)) ∙ sym (ap (λ b. if b then 0 else S u p) f)
        ]

-- ---- the parts of a state

chosen : (b c : Bool) (n n' r r' : ℕ) → (b ≡ true → n' ≡ n) → (c ≡ true → r' ≡ r) → (if b then n' else (if c then r' else 0)) ≡ (if b then n else (if c then r else 0))
chosen true c n n' r r' h k = h refl
chosen false true n n' r r' h k = k refl
chosen false false n n' r r' h k = refl

kept : (b : Bool) (x y : ℕ) → (b ≡ true → y ≡ x) → (if b then y else 0) ≡ (if b then x else 0)
kept true x y h = h refl
kept false x y h = refl

state-same : (p : Places) (old new : List ℕ) (before after : List ℕ → ℕ) (u : ℕ) (at : List ℕ)
    → (u + 1 < operations p.tree → node_word p new u at ≡ node_word p old u at)
    → (u + 1 ≡ operations p.tree → root_word p after at ≡ root_word p before at)
    → state_of p new after u at ≡ state_of p old before u at
unfolding state_of
state-same p old new before after u at inner top =
    chosen (ltb (u + 1) (operations p.tree)) (eqb (u + 1) (operations p.tree)) (node_word p old u at) (node_word p new u at) (root_word p before at) (root_word p after at)
    (λ t. inner (ltb-true (u + 1) (operations p.tree) t)) (λ t. top (eqb-true (u + 1) (operations p.tree) t))

state-inner : (p : Places) (words : List ℕ) (cell : List ℕ → ℕ) (v : ℕ) (at : List ℕ) → v + 1 < operations p.tree → state_of p words cell v at ≡ node_word p words v at
unfolding state_of
state-inner p words cell v at l =
    ap (λ b. if b then node_word p words v at else (if eqb (v + 1) (operations p.tree) then root_word p cell at else 0)) (lt-ltb (v + 1) (operations p.tree) l)

not_below : (m n : ℕ) → m ≡ n → ltb m n ≡ false
not_below m n e = elim (cases_Bool (ltb m n)) [ inl t ↦ (let l = ltb-true m n t in absurd (omega arith)) | inr f ↦ f ]

state-root : (p : Places) (words : List ℕ) (cell : List ℕ → ℕ) (at : List ℕ) → 0 < operations p.tree → state_of p words cell (root p) at ≡ root_word p cell at
unfolding state_of
state-root p words cell at some =
    let top : root p + 1 ≡ operations p.tree = omega arith in
    ap (λ b. if b then node_word p words (root p) at else (if eqb (root p + 1) (operations p.tree) then root_word p cell at else 0)) (not_below (root p + 1) (operations p.tree) top)
    ∙ ap (λ b. if b then root_word p cell at else 0) (eq-eqb (root p + 1) (operations p.tree) top)

node-kept : (p : Places) (old new : List ℕ) (v : ℕ) (at : List ℕ)
    → (IsInside (kept_extents p.space p.tree p.fusion v) at → slice_index new (word_at p.space p.tree p.fusion p.slots v at) ≡ slice_index old (word_at p.space p.tree p.fusion p.slots v at))
    → node_word p new v at ≡ node_word p old v at
node-kept p old new v at same =
    kept (are_inside (kept_extents p.space p.tree p.fusion v) at) _ _ (λ t. same (are_inside-holds (kept_extents p.space p.tree p.fusion v) at t))

node-inside : (p : Places) (words : List ℕ) (v : ℕ) (at : List ℕ) → IsInside (kept_extents p.space p.tree p.fusion v) at
    → node_word p words v at ≡ slice_index words (word_at p.space p.tree p.fusion p.slots v at)
node-inside p words v at h =
    ap (λ b. if b then slice_index words (word_at p.space p.tree p.fusion p.slots v at) else 0) (are_inside-true (kept_extents p.space p.tree p.fusion v) at h)

root-kept : (p : Places) (before after : List ℕ → ℕ) (at : List ℕ)
    → (IsInside (kept_extents p.space p.tree p.fusion (root p)) at → after (result_coordinates p at) ≡ before (result_coordinates p at))
    → root_word p after at ≡ root_word p before at
root-kept p before after at same =
    kept (are_inside (kept_extents p.space p.tree p.fusion (root p)) at) _ _ (λ t. same (are_inside-holds (kept_extents p.space p.tree p.fusion (root p)) at t))

-- ---- a put into a slot

pub puts_change_one_place : PutsChangeOnePlace
puts_change_one_place p words cell v a w laid h l =
    let fill = places_fill p.space p.tree p.fusion p.slots laid in
    let q : ℕ = slot_word (slot_at p.slots v) a in
    let at : List ℕ = coordinates (kept_dims p.tree p.fusion v) a in
    let reached : q ≡ word_at p.space p.tree p.fusion p.slots v at = fill.reached v a h.inner in
    let here = is_place p.space p.tree p.fusion v a h in
    with_word-is (state_of p words cell) (state_of p (slice_set words q w) cell) v at w
    (state-inner p (slice_set words q w) cell v at h.inner
    ∙ node-inside p (slice_set words q w) v at here.inside
    ∙ ap (slice_index (slice_set words q w)) (sym reached)
    ∙ get_or-set_same words q w 0 l)
    (λ u r ne. state-same p words (slice_set words q w) cell cell u r
    (λ inner. node-kept p words (slice_set words q w) u r (λ inside. get_or-set_other words q (word_at p.space p.tree p.fusion p.slots u r) w 0 (λ e.
    let both = fill.apart u v r at (record { node = inner; inside = inside }) here (e ∙ reached) in
    ne both.0 both.1)))
    (λ top. refl))

-- ---- a slot that is cleared

pub cleared_slots_are_cleared : ClearedSlotsAreCleared
cleared_slots_are_cleared p old new cell v laid l zeros same =
    cleared-is (state_of p old cell) (state_of p new cell) v
    (λ at. state-inner p new cell v at l ∙ nothing at)
    (λ u at ne. state-same p old new cell cell u at
    (λ inner. node-kept p old new u at (λ inside. same (word_at p.space p.tree p.fusion p.slots u at) (apart u at ne (record { node = inner; inside = inside }))))
    (λ top. refl))
  where
    begins : (slot_at p.slots v).offset ≡ size_before p.space p.tree p.fusion v
    begins = (laid.slot v l).begins

    ends : (slot_at p.slots v).offset + (slot_at p.slots v).size ≡ size_before p.space p.tree p.fusion (v + 1)
    ends = slot_ends p.space p.tree p.fusion p.slots laid v l

    empty : (b : Bool) (x : ℕ) → (b ≡ true → x ≡ 0) → (if b then x else 0) ≡ 0
    empty true x h = h refl
    empty false x h = refl

    nothing : (at : List ℕ) → node_word p new v at ≡ 0
    nothing at =
        empty (are_inside (kept_extents p.space p.tree p.fusion v) at) _ (λ t.
        let stands = stands_between p.space p.tree p.fusion p.slots laid v at (record { node = l; inside = are_inside-holds (kept_extents p.space p.tree p.fusion v) at t }) in
        zeros (word_at p.space p.tree p.fusion p.slots v at) (omega (arith, begins, stands.from)) (omega (arith, ends, stands.below)))

    apart : (u : ℕ) (at : List ℕ) → (u ≡ v → ⊥) → IsPlace p.space p.tree p.fusion u at
        → (word_at p.space p.tree p.fusion p.slots u at < (slot_at p.slots v).offset) ⊎ ((slot_at p.slots v).offset + (slot_at p.slots v).size ≤ word_at p.space p.tree p.fusion p.slots u at)
    apart u at ne h =
        let stands = stands_between p.space p.tree p.fusion p.slots laid u at h in
        elim (cases_order u v) [
          | inl e ↦ absurd (ne e)
          | inr c ↦ elim c [
            | inl lower ↦ inl (omega (arith, begins, stands.below, before_le p.space p.tree p.fusion (u + 1) v (omega arith)))
            | inr upper ↦ inr (omega (arith, ends, stands.from, before_le p.space p.tree p.fusion (v + 1) u (omega arith)))
          ]
        ]

-- ---- the root's places as elements of the result

root_dims-lt : (p : Places) → IsIndexSet (root_dims p)
unfolding kept_dims
root_dims-lt p = minus_lt (node_dims p.tree (root p)) (fused_at p.fusion (root p)) (node_dims_lt p.tree (root p))

pub listed : (p : Places) (shape : Tiling) (i : ℕ) → IsResult p shape → among p.result i ≡ among (members (root_dims p)) i
listed p shape i is = is.indexes i ∙ sym (among-members (root_dims p) i (root_dims-lt p))

-- the element of an assignment
element_of : (p : Places) (shape : Tiling) (a : Assignment) → IsResult p shape → result_coordinates p (coordinates (root_dims p) a) ≡ map a p.result
element_of p shape a is =
    map-same p.result (assignment (members (root_dims p)) (map a (members (root_dims p)))) a
    (λ i m. assignment-at (members (root_dims p)) a i (sym (listed p shape i is) ∙ m))

root_inside : (p : Places) (a : Assignment) → IsRootAt p a → IsInside (kept_extents p.space p.tree p.fusion (root p)) (coordinates (root_dims p) a)
unfolding kept_extents
root_inside p a h = numbers_inside (extent_at p.space) a (members (root_dims p)) (λ i m. h i (members_has (root_dims p) i m))

-- each place of the root is an element
element_inside : (p : Places) (shape : Tiling) (at : List ℕ) → IsResult p shape → IsInside (kept_extents p.space p.tree p.fusion (root p)) at
    → IsInside shape.extents (result_coordinates p at)
unfolding kept_extents
element_inside p shape at is h =
    subst (λ ns. IsInside ns (result_coordinates p at)) (sym is.extents)
    (numbers_inside (extent_at p.space) (assignment (members (root_dims p)) at) p.result
    (λ i m. assignment_inside (extent_at p.space) (members (root_dims p)) at i h (sym (listed p shape i is) ∙ m)))

-- different places are different elements
place_from : (p : Places) (shape : Tiling) (a : Assignment) (at : List ℕ) → IsResult p shape → length at ≡ length (members (root_dims p))
    → result_coordinates p at ≡ map a p.result → at ≡ coordinates (root_dims p) a
place_from p shape a at is long e =
    sym (map-assignment (members (root_dims p)) at (distinct-members (root_dims p)) long)
    ∙ map-same (members (root_dims p)) (assignment (members (root_dims p)) at) a
    (λ i m. same_at p.result (assignment (members (root_dims p)) at) a i e (listed p shape i is ∙ m))

pub length-mapped : (f : ℕ → ℕ) (xs : List ℕ) → length (map f xs) ≡ length xs
length-mapped f [] = refl
length-mapped f (x ∷ xs) = omega (arith, length-mapped f xs)

kept_count : (p : Places) (at : List ℕ) → IsInside (kept_extents p.space p.tree p.fusion (root p)) at → length at ≡ length (members (root_dims p))
unfolding kept_extents
kept_count p at h = length_inside (map (extent_at p.space) (members (root_dims p))) at h ∙ length-mapped (extent_at p.space) (members (root_dims p))

-- ---- words before the frames

before_frames : (p : Places) (c : CacheState) (u : ℕ) (at : List ℕ) → IsLayout p.space p.tree p.fusion p.slots → StandsBefore p c → u + 1 < operations p.tree
    → IsInside (kept_extents p.space p.tree p.fusion u) at → word_at p.space p.tree p.fusion p.slots u at < c.at
before_frames p c u at laid before inner inside =
    let fill = places_fill p.space p.tree p.fusion p.slots laid in
    omega (arith, before, fill.below u at (record { node = inner; inside = inside }))

pub words_are : (c : CacheState) (array : ℕ) (shape : Tiling) → HasShape c array shape → words_of_tile (slice_get c.arrays array) ≡ tile_words shape
words_are c array shape h = by_array (slice_get c.arrays array) h
  where
    by_array : (o : Option ArrayRef) → IsSomeAnd o (λ a. a.shape ≡ shape) → words_of_tile o ≡ tile_words shape
    by_array None h = absurd h
    by_array (Some a) h = ap tile_words h

fits : (c : CacheState) → IsCache c → (array : ℕ) → words_of_tile (slice_get c.arrays array) ≤ c.frame_words
fits c is array = by_array (slice_get c.arrays array) refl
  where
    by_array : (o : Option ArrayRef) → slice_get c.arrays array ≡ o → words_of_tile (slice_get c.arrays array) ≤ c.frame_words
    by_array None e = subst (λ v. words_of_tile v ≤ c.frame_words) (sym e) (omega arith)
    by_array (Some a) e = subst (λ v. words_of_tile v ≤ c.frame_words) (sym e) (is.arrays.fit array a e)

-- ---- the words of places

pub places_have_their_words : PlacesHaveTheirWords
places_have_their_words = record {
  node = λ p words cell v a laid h.
      let at : List ℕ = coordinates (kept_dims p.tree p.fusion v) a in
      let fill = places_fill p.space p.tree p.fusion p.slots laid in
      state-inner p words cell v at h.inner
      ∙ node-inside p words v at (is_place p.space p.tree p.fusion v a h).inside
      ∙ ap (slice_index words) (sym (fill.reached v a h.inner));
  root = λ p words cell shape a some is inside.
      let at : List ℕ = coordinates (root_dims p) a in
      state-root p words cell at some
      ∙ ap (λ b. if b then cell (result_coordinates p at) else 0) (are_inside-true (kept_extents p.space p.tree p.fusion (root p)) at (root_inside p a inside))
      ∙ ap cell (element_of p shape a is);
}

pub touched_tiles_show_elements : TouchedTilesShowElements
touched_tiles_show_elements c files old new array shape xs at tiling has inside shown =
    let short : place_in_tile shape xs < tile_words shape = place_in_tile-lt shape xs tiling.same_rank tiling.positive inside in
    shown files refl (place_in_tile shape xs) (omega (arith, short, words_are c array shape has))

-- ---- a touch

pub touches_keep_states : TouchesKeepStates
touches_keep_states p c held touches before after old new array shape laid is tiling stands has same outside =
    fun_ext (λ u. fun_ext (λ at.
    state-same p old new (current_cell c before old array shape) (current_cell (with_held c held touches) after new array shape) u at
    (λ inner. node-kept p old new u at (λ inside. outside.same (word_at p.space p.tree p.fusion p.slots u at) (inl (before_frames p c u at laid stands inner inside))))
    (λ top. root-kept p (current_cell c before old array shape) (current_cell (with_held c held touches) after new array shape) at (λ inside.
    let xs : List ℕ = result_coordinates p at in
    let short : place_in_tile shape xs < tile_words shape = place_in_tile-lt shape xs tiling.same_rank tiling.positive (element_inside p shape at is inside) in
    same.kept.current array (tile_number shape xs) (place_in_tile shape xs) (omega (arith, short, words_are c array shape has))))))

-- ---- a put into a tile

-- what is known where an element of the result is put into the frame of its tile
record IsPut (p : Places) (c : CacheState) (words : List ℕ) (array : ℕ) (shape : Tiling) (a : Assignment) (h : Held) : Type 0 where
  within : IsInside shape.extents (map a p.result)
  short : place_in_tile shape (map a p.result) < tile_words shape
  fitting : tile_words shape ≤ c.frame_words
  low : h.frame < c.frames

is_put : (p : Places) (c : CacheState) (words : List ℕ) (array : ℕ) (shape : Tiling) (a : Assignment) (h : Held) → IsResult p shape → IsTiling shape → IsRootAt p a
    → IsCache c → HasShape c array shape → look_up c.held array (tile_number shape (map a p.result)) ≡ Some h → IsPut p c words array shape a h
is_put p c words array shape a h is tiling inside cache has found =
    let within : IsInside shape.extents (map a p.result) =
    subst (IsInside shape.extents) (element_of p shape a is) (element_inside p shape (coordinates (root_dims p) a) is (root_inside p a inside)) in
    record {
      within = within;
      short = place_in_tile-lt shape (map a p.result) tiling.same_rank tiling.positive within;
      fitting = omega (arith, words_are c array shape has, fits c cache array);
      low = below_found c.frames c.held array (tile_number shape (map a p.result)) h cache.apart found;
    }

-- the word of another place of the root stays
other_stays : (p : Places) (c : CacheState) (files : Files) (words : List ℕ) (array : ℕ) (shape : Tiling) (a : Assignment) (h : Held) (w : ℕ) → IsResult p shape → IsTiling shape
    → IsCache c → look_up c.held array (tile_number shape (map a p.result)) ≡ Some h → IsPut p c words array shape a h
    → (q : List ℕ) → (q ≡ coordinates (root_dims p) a → ⊥) → IsInside (kept_extents p.space p.tree p.fusion (root p)) q
    → current_cell c files (slice_set words (place (layout c) h.frame + place_in_tile shape (map a p.result)) w) array shape (result_coordinates p q)
    ≡ current_cell c files words array shape (result_coordinates p q)
other_stays p c files words array shape a h w is tiling cache found put q ne within =
    let xs : List ℕ = map a p.result in
    let ys : List ℕ = result_coordinates p q in
    let there : IsInside shape.extents ys = element_inside p shape q is within in
    let short : place_in_tile shape ys < tile_words shape = place_in_tile-lt shape ys tiling.same_rank tiling.positive there in
    put_other (stored c files) (layout c) c.held words array (tile_number shape xs) (place_in_tile shape xs) w h cache.apart found
    (omega (arith, put.short, put.fitting)) array (tile_number shape ys) (place_in_tile shape ys) (omega (arith, short, put.fitting))
    (λ b t j. ne (place_from p shape a q is (kept_count p q within)
    (word_number_injective shape ys xs tiling.same_rank tiling.positive there put.within (ap₂ (λ m n. tile_words shape * m + n) t j))))

-- the word of this place
this_is_put : (p : Places) (c : CacheState) (files : Files) (words : List ℕ) (array : ℕ) (shape : Tiling) (a : Assignment) (h : Held) (w : ℕ) → 0 < operations p.tree → IsResult p shape
    → IsRootAt p a → HasRoom c words → look_up c.held array (tile_number shape (map a p.result)) ≡ Some h → IsPut p c words array shape a h
    → (new : List ℕ) → new ≡ slice_set words (place (layout c) h.frame + place_in_tile shape (map a p.result)) w
    → state_of p new (current_cell c files new array shape) (root p) (coordinates (root_dims p) a) ≡ w
this_is_put p c files words array shape a h w some is inside room found put new e =
    let xs : List ℕ = map a p.result in
    let at : List ℕ = coordinates (root_dims p) a in
    let k : ℕ = place_in_tile shape xs in
    let cell : List ℕ → ℕ = current_cell c files new array shape in
    let bound : place (layout c) h.frame + k < length words = omega (arith, put.short, frame_room c words h.frame (tile_words shape) put.low put.fitting room) in
    state-root p new cell at some
    ∙ ap (λ b. if b then cell (result_coordinates p at) else 0) (are_inside-true (kept_extents p.space p.tree p.fusion (root p)) at (root_inside p a inside))
    ∙ ap cell (element_of p shape a is)
    ∙ current_held (stored c files) (layout c) c.held new array (tile_number shape xs) k h found
    ∙ ap (λ l. slice_index l (place (layout c) h.frame + k)) e
    ∙ get_or-set_same words (place (layout c) h.frame + k) w 0 bound

pub tile_puts_change_one_place : TilePutsChangeOnePlace
tile_puts_change_one_place p c files words array shape a h w laid some is tiling inside cache ready room stands has found marked =
    let put = is_put p c words array shape a h is tiling inside cache has found in
    let k : ℕ = place_in_tile shape (map a p.result) in
    let new : List ℕ = slice_set words (place (layout c) h.frame + k) w in
    let before : List ℕ → ℕ = current_cell c files words array shape in
    let after : List ℕ → ℕ = current_cell c files new array shape in
    let in_frame : k < c.frame_words = omega (arith, put.short, put.fitting) in
    record {
      state =
          with_word-is (state_of p words before) (state_of p new after) (root p) (coordinates (root_dims p) a) w
          (this_is_put p c files words array shape a h w some is inside room found put new refl)
          (λ u q ne. state-same p words new before after u q
          (λ inner. node-kept p words new u q (λ within.
          let low : word_at p.space p.tree p.fusion p.slots u q < c.at = before_frames p c u q laid stands inner within in
          get_or-set_other words (place (layout c) h.frame + k) (word_at p.space p.tree p.fusion p.slots u q) w 0 (λ e. absurd (omega (arith, low, e)))))
          (λ top. root-kept p before after q (λ within.
          let is_root : u ≡ root p = omega (arith, top) in
          other_stays p c files words array shape a h w is tiling cache found put q (ne is_root) within)));
      ready = record {
        files_of_held = ready.files_of_held;
        clean = clean_stay (stored c files) (layout c) c.held words new array (tile_number shape (map a p.result)) h (λ i. fits c cache i) cache.apart found
            (λ unmarked. true≢false (sym marked ∙ unmarked)) (set_outside (layout c) h.frame k w words in_frame) ready.clean;
      };
    }
