-- What the windows of tiles in frames show.
use Rattle.std.proofs.Common.{◌≡◌, ℕ, suc, true, ◌+◌, ◌*◌, ◌<◌, ◌≤◌, Option, Some, None, List, [], ◌∷◌, map, slice_index, refl, sym, ap, ap₂, ◌∙◌, subst, inl, inr, arith}
use Rattle.std.proofs.Math.Nat.{mul-le-mul_right}
use Rattle.std.proofs.lemmas.List.{length-map}
use Rattle.std.proofs.lemmas.Option.{same_Some}
use Rattle.std.proofs.lemmas.Nat.{mod_below}
use Rattle.tce_outside.specs.Files.{Files}
use Rattle.tce_space.specs.Box.{product, place as place_in_box, IsInside}
use Rattle.tce_space.specs.IndexSet.{members}
use Rattle.tce_space.specs.Space.{extent_at}
use Rattle.tce_space.specs.Tiling.{Tiling, IsTiling, ArePositive, remainders, tile_words, tile_number, place_in_tile}
use Rattle.tce_space.proofs.Boxes.{place-lt, length_inside}
use Rattle.tce_space.proofs.Tilings.{word_number_injective}
use Rattle.tce_cache.specs.Held.{Held, look_up}
use Rattle.tce_cache.specs.Current.{place, AreOther, word_of}
use Rattle.tce_cache.proofs.Current.{current_held, frames_differ, places_differ, same_tile, below_found}
use Rattle.tce_cache.specs.Cache.{State as CacheState, IsCache, layout, stored, current_word}
use Rattle.tce_tree.specs.ContractionTree.{operations}
use Rattle.tce_tree.specs.Value.{Assignment, Elements, assignment}
use Rattle.tce_tree.specs.WellFormed.{among}
use Rattle.tce_tree.proofs.Permutations.{distinct-members}
use Rattle.tce_tree.proofs.Values.{map-same}
use Rattle.tce_tree.proofs.Assignments.{assignment_inside, same_at, numbers_inside}
use Rattle.tce_space.specs.IndexSet.{IsIndexSet}
use Rattle.tce_code.specs.Execution.{coordinates}
use Rattle.tce_layout.specs.Places.{kept_extents, word_at, PlacesFill}
use Rattle.tce_layout.proofs.Filling.{places_fill}
use Rattle.tce_exec.specs.NodeStates.{Places, root, root_dims, current_cell, IsResult}
use Rattle.tce_exec.proofs.Assignments.{map-assignment}
use Rattle.tce_exec.proofs.States.{places_have_their_words, listed}
use Rattle.tce_exec.specs.Turns.{Turns, IsTurn}
use Rattle.tce_exec.specs.LoopWindows.{stands_at, ShowsNode, DifferOnlyAt}
use Rattle.tce_exec.specs.declared.window.Window.{Window}
use Rattle.tce_exec.proofs.Touched.{tile_fits}
use Rattle.tce_exec.specs.TilesOfBlocks.{StayInExtents, HasIndexes}
use Rattle.tce_exec.specs.WindowLaws.{view_of, IsLaidOut, IsTileOf, TilesShowWords, TilesShowNodes}
use Rattle.tce_exec.proofs.TileTurns.{turns_stay_in_one_tile}
use Rattle.tce_exec.proofs.Shown.{state_stays, at_setting}

-- ---- the turns' words in a frame

remainders_in : (edge : ℕ → ℕ) (b : Assignment) (xs : List ℕ) → ArePositive (map edge xs) → IsInside (map edge xs) (remainders (map edge xs) (map b xs))
remainders_in edge b [] p = tt
remainders_in edge b (x ∷ xs) p = (mod_below (b x) (edge x) p.0, remainders_in edge b xs p.1)

-- the element of any assignment stands within a tile
pub within_tile : (shape : Tiling) (edge : ℕ → ℕ) (indexes : List ℕ) (b : Assignment) → HasIndexes shape edge indexes → place_in_tile shape (map b indexes) < tile_words shape
within_tile shape edge indexes b has =
    subst (λ es. place_in_box es (remainders es (map b indexes)) < product es) (sym has.edges)
    (place-lt (map edge indexes) (remainders (map edge indexes) (map b indexes)) (remainders_in edge b indexes (subst ArePositive has.edges has.positive)))

-- what is known of a tile that a frame holds
pub record IsFramed (c : CacheState) (shape : Tiling) (h : Held) : Type 0 where
  pub low : h.frame < c.frames
  pub fits : tile_words shape ≤ c.frame_words

pub is_framed : (c : CacheState) (t : Turns) (edge : ℕ → ℕ) (array : ℕ) (shape : Tiling) (indexes : List ℕ) (h : Held) (w : Window) → IsCache c
    → IsTileOf c t edge array shape indexes h w → IsFramed c shape h
is_framed c t edge array shape indexes h w cache is = record {
  low = below_found c.frames c.held array (tile_number shape (map t.first indexes)) h cache.apart is.held;
  fits = tile_fits c array shape cache is.array_is;
}

pub record IsTileTurn (c : CacheState) (t : Turns) (array : ℕ) (shape : Tiling) (indexes : List ℕ) (h : Held) (w : Window) (b : Assignment) : Type 0 where
  pub tile : tile_number shape (map b indexes) ≡ tile_number shape (map t.first indexes)
  pub held : look_up c.held array (tile_number shape (map b indexes)) ≡ Some h
  pub stands : stands_at w t.first b ≡ place (layout c) h.frame + place_in_tile shape (map b indexes)
  pub short : place_in_tile shape (map b indexes) < tile_words shape

pub tile_turn : (c : CacheState) (t : Turns) (edge : ℕ → ℕ) (array : ℕ) (shape : Tiling) (indexes : List ℕ) (h : Held) (w : Window)
    → IsTileOf c t edge array shape indexes h w → (b : Assignment) → IsTurn t b → IsTileTurn c t array shape indexes h w b
tile_turn c t edge array shape indexes h w is b turn =
    let one = turns_stay_in_one_tile t edge shape indexes (place (layout c) h.frame) w is.indexes_are is.between is.window b turn in
    record {
      tile = one.tile;
      held = ap (look_up c.held array) one.tile ∙ is.held;
      stands = one.stands;
      short = within_tile shape edge indexes b is.indexes_are;
    }

pub frame_ends : (c : CacheState) (shape : Tiling) (h : Held) → IsFramed c shape h → place (layout c) h.frame + tile_words shape ≤ c.at + c.frames * c.frame_words
frame_ends c shape h framed =
    let next : suc h.frame ≤ c.frames = omega (arith, framed.low) in
    let more : suc h.frame * c.frame_words ≤ c.frames * c.frame_words = mul-le-mul_right c.frame_words next in
    omega (arith, more, framed.fits)

pub tiles_show_words : TilesShowWords
tiles_show_words c files words t edge array shape indexes h w cache room is = record {
  within = λ b turn.
      let at = tile_turn c t edge array shape indexes h w is b turn in
      omega (arith, at.stands, at.short, frame_ends c shape h framed, room);
  word = λ b turn.
      let at = tile_turn c t edge array shape indexes h w is b turn in
      ap (slice_index words) at.stands
      ∙ sym (current_held (stored c files) (layout c) c.held words array (tile_number shape (map b indexes)) (place_in_tile shape (map b indexes)) h at.held);
}
  where
    framed : IsFramed c shape h
    framed = is_framed c t edge array shape indexes h w cache is

-- ---- words of different tiles

pub in_different_frames : (c : CacheState) (a t b u j k : ℕ) (g h : Held) → IsCache c → look_up c.held a t ≡ Some g → look_up c.held b u ≡ Some h → AreOther a t b u
    → j < c.frame_words → k < c.frame_words → place (layout c) g.frame + j ≡ place (layout c) h.frame + k → ⊥
in_different_frames c a t b u j k g h cache found found' other l m e =
    elim (places_differ (layout c) h.frame g.frame k (frames_differ c.frames c.held a t b u g h cache.apart found found' other) m) [
      | inl below ↦ omega (arith, below, e)
      | inr past ↦ omega (arith, past, e, l)
    ]

-- ---- the places of the root

-- two assignments with one element have one place, and with one place one element
one_place : (p : Places) (shape : Tiling) (a b : Assignment) → IsResult p shape → map a p.result ≡ map b p.result → coordinates (root_dims p) a ≡ coordinates (root_dims p) b
one_place p shape a b is e = map-same (members (root_dims p)) a b (λ i m. same_at p.result a b i e (listed p shape i is ∙ m))

one_element : (p : Places) (shape : Tiling) (a b : Assignment) → IsResult p shape → coordinates (root_dims p) a ≡ coordinates (root_dims p) b → map a p.result ≡ map b p.result
one_element p shape a b is e = map-same p.result a b (λ i m. same_at (members (root_dims p)) a b i e (sym (listed p shape i is) ∙ m))

-- a place of the root is that of an assignment
from_place : (p : Places) (at : List ℕ) → IsInside (kept_extents p.space p.tree p.fusion (root p)) at → coordinates (root_dims p) (assignment (members (root_dims p)) at) ≡ at
unfolding kept_extents
from_place p at inside =
    map-assignment (members (root_dims p)) at (distinct-members (root_dims p))
    (length_inside (map (extent_at p.space) (members (root_dims p))) at inside ∙ length-map (members (root_dims p)) (extent_at p.space))

element_within : (p : Places) (shape : Tiling) (b : Assignment) → IsResult p shape → ((i : ℕ) → among p.result i ≡ true → b i < extent_at p.space i) → IsInside shape.extents (map b p.result)
element_within p shape b is low = subst (λ ns. IsInside ns (map b p.result)) (sym is.extents) (numbers_inside (extent_at p.space) b p.result low)

-- each place of the root is that of an element
element_at : (p : Places) (shape : Tiling) (at : List ℕ) → IsResult p shape → IsInside (kept_extents p.space p.tree p.fusion (root p)) at
    → IsInside shape.extents (map (assignment (members (root_dims p)) at) p.result)
unfolding kept_extents
element_at p shape at is inside =
    element_within p shape (assignment (members (root_dims p)) at) is
    (λ i m. assignment_inside (extent_at p.space) (members (root_dims p)) at i inside (sym (listed p shape i is) ∙ m))

same_element : (shape : Tiling) (xs ys : List ℕ) → IsTiling shape → IsInside shape.extents xs → IsInside shape.extents ys
    → tile_number shape xs ≡ tile_number shape ys → place_in_tile shape xs ≡ place_in_tile shape ys → xs ≡ ys
same_element shape xs ys tiling ix iy t k = word_number_injective shape xs ys tiling.same_rank tiling.positive ix iy (ap₂ (λ m n. tile_words shape * m + n) t k)

-- where words change at the turns' places alone, current words that no turn has stay
pub word_stays : (c : CacheState) (files : Files) (old new : List ℕ) (t : Turns) (edge : ℕ → ℕ) (array : ℕ) (shape : Tiling) (indexes : List ℕ) (h : Held) (w : Window) → IsCache c
    → IsTileOf c t edge array shape indexes h w → DifferOnlyAt t w old new → (b u k : ℕ) → k < c.frame_words
    → ((d : Assignment) → IsTurn t d → b ≡ array → tile_number shape (map d indexes) ≡ u → place_in_tile shape (map d indexes) ≡ k → ⊥)
    → current_word c files new b u k ≡ current_word c files old b u k
word_stays c files old new t edge array shape indexes h w cache is differ b u k short free = by_look_up (look_up c.held b u) refl
  where
    framed : IsFramed c shape h
    framed = is_framed c t edge array shape indexes h w cache is

    met : (g : Held) → look_up c.held b u ≡ Some g → (d : Assignment) → IsTurn t d → stands_at w t.first d ≡ place (layout c) g.frame + k → ⊥
    met g e d turn same =
        let at = tile_turn c t edge array shape indexes h w is d turn in
        elim (same_tile array (tile_number shape (map d indexes)) b u) [
          | inl s ↦
              let one : g ≡ h = same_Some g h (sym e ∙ ap₂ (look_up c.held) s.0 s.1 ∙ at.held) in
              let frame : place (layout c) g.frame ≡ place (layout c) h.frame = ap (λ (x : Held). place (layout c) x.frame) one in
              free d turn s.0 (sym s.1) (omega (arith, at.stands, same, frame))
          | inr other ↦
              in_different_frames c array (tile_number shape (map d indexes)) b u (place_in_tile shape (map d indexes)) k h g cache at.held e other
              (omega (arith, at.short, framed.fits)) short (sym at.stands ∙ same)
        ]

    by_look_up : (o : Option Held) → look_up c.held b u ≡ o → word_of (stored c files) (layout c) new o b u k ≡ word_of (stored c files) (layout c) old o b u k
    by_look_up None e = refl
    by_look_up (Some g) e = differ (place (layout c) g.frame + k) (met g e)

tile_shows : (p : Places) (c : CacheState) (files : Files) (array : ℕ) (shape : Tiling) (e : Elements) (t : Turns) (edge : ℕ → ℕ) (h : Held) (w : Window) (count : ℕ)
    → IsLaidOut p c count → IsCache c → 0 < operations p.tree → IsResult p shape → StayInExtents t (extent_at p.space) (root_dims p)
    → IsTileOf c t edge array shape p.result h w → ShowsNode (record { tree = p.tree; fusion = p.fusion; elements = e }) t (root p) w count (view_of p c files array shape)
tile_shows p c files array shape e t edge h w count laid cache some result stay is = record {
  within = λ b turn. omega (arith, (at b turn).stands, (at b turn).short, frame_ends c shape h framed, laid.room);
  word = λ words len b turn.
      places_have_their_words.root p words (current_cell c files words array shape) shape b some result (stay b turn)
      ∙ current_held (stored c files) (layout c) c.held words array (tile_number shape (map b p.result)) (place_in_tile shape (map b p.result)) h (at b turn).held
      ∙ ap (slice_index words) (sym (at b turn).stands);
  apart = λ b d tb td. (
    (λ same. one_place p shape b d result
        (same_element shape (map b p.result) (map d p.result) is.tiling (inside b tb) (inside d td) ((at b tb).tile ∙ sym (at d td).tile) (omega (arith, (at b tb).stands, (at d td).stands, same)))),
    (λ same. (at b tb).stands ∙ ap (λ xs. place (layout c) h.frame + place_in_tile shape xs) (one_element p shape b d result same) ∙ sym (at d td).stands),
  );
  others = λ old new old_len new_len differ u q free.
      state_stays p old new (current_cell c files old array shape) (current_cell c files new array shape) u q
      (λ inner within. differ (word_at p.space p.tree p.fusion p.slots u q) (λ b turn same.
      absurd (omega (arith, (at b turn).stands, same, laid.before, fill.below u q (record { node = inner; inside = within })))))
      (λ top within.
      let a : Assignment = assignment (members (root_dims p)) q in
      word_stays c files old new t edge array shape p.result h w cache is differ array (tile_number shape (map a p.result)) (place_in_tile shape (map a p.result))
      (omega (arith, within_tile shape edge p.result a is.indexes_are, framed.fits)) (λ b turn _ tile k.
      free top b turn
      (one_place p shape b a result (same_element shape (map b p.result) (map a p.result) is.tiling (inside b turn) (element_at p shape q result within) tile k) ∙ from_place p q within)));
}
  where
    fill : PlacesFill p.space p.tree p.fusion p.slots
    fill = places_fill p.space p.tree p.fusion p.slots laid.slots

    framed : IsFramed c shape h
    framed = is_framed c t edge array shape p.result h w cache is

    at : (b : Assignment) → IsTurn t b → IsTileTurn c t array shape p.result h w b
    at b turn = tile_turn c t edge array shape p.result h w is b turn

    inside : (b : Assignment) → IsTurn t b → IsInside shape.extents (map b p.result)
    inside b turn = element_within p shape b result (λ i m. stay b turn i (sym (result.indexes i) ∙ m))

pub tiles_show_nodes : TilesShowNodes
tiles_show_nodes p c files array shape s t edge h w count of laid cache some result stay is =
    at_setting p s (λ x. ShowsNode x t (root p) w count (view_of p c files array shape)) of (λ e. tile_shows p c files array shape e t edge h w count laid cache some result stay is)
