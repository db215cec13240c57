-- What the windows of slots show.
use Rattle.std.proofs.Common.{◌≡◌, ℕ, ◌+◌, ◌<◌, Bool, true, false, eqb, ltb, if◌then◌else◌, List, length, slice_index, refl, sym, ap, ap₂, ◌∙◌, subst, arith, ltb-true}
use Rattle.std.proofs.lemmas.Bool.{eqb-true}
use Rattle.tce_outside.specs.Files.{Files}
use Rattle.tce_space.specs.Box.{IsInside}
use Rattle.tce_space.specs.Tiling.{Tiling}
use Rattle.tce_cache.specs.Current.{place}
use Rattle.tce_cache.specs.Cache.{State as CacheState}
use Rattle.tce_tree.specs.ContractionTree.{operations}
use Rattle.tce_tree.specs.Fusion.{kept_dims}
use Rattle.tce_tree.specs.Memory.{memory}
use Rattle.tce_tree.specs.Value.{Assignment, Elements}
use Rattle.tce_code.specs.Execution.{Setting, coordinates}
use Rattle.tce_layout.specs.Layout.{slot_at, IsLayout}
use Rattle.tce_layout.specs.Places.{kept_extents, word_at, IsPlace, PlacesFill}
use Rattle.tce_layout.proofs.Filling.{places_fill}
use Rattle.tce_exec.specs.Slots.{slot_word, IsSlotAt}
use Rattle.tce_exec.specs.NodeStates.{Places, are_inside, root, result_coordinates, state_of, current_cell}
use Rattle.tce_exec.proofs.Assignments.{are_inside-holds}
use Rattle.tce_exec.proofs.Slots.{is_place}
use Rattle.tce_exec.proofs.States.{places_have_their_words}
use Rattle.tce_exec.specs.Turns.{Turns, IsTurn}
use Rattle.tce_exec.specs.LoopWindows.{stands_at, ShowsNode}
use Rattle.tce_exec.specs.declared.window.Window.{Window}
use Rattle.tce_exec.proofs.Putting.{current_stays}
use Rattle.tce_exec.specs.WindowLaws.{view_of, IsSettingOf, IsLaidOut, IsSlotOf, SlotsShowNodes, SlotsShowWords}
use Rattle.tce_exec.proofs.TileTurns.{slot_stands}

-- ---- states that words stand for

by_tests : (b c i j : Bool) (n n' r r' : ℕ) → (b ≡ true → i ≡ true → n' ≡ n) → (c ≡ true → j ≡ true → r' ≡ r)
    → (if b then (if i then n' else 0) else (if c then (if j then r' else 0) else 0)) ≡ (if b then (if i then n else 0) else (if c then (if j then r else 0) else 0))
by_tests true c true j n n' r r' h k = h refl refl
by_tests true c false j n n' r r' h k = refl
by_tests false true i true n n' r r' h k = k refl refl
by_tests false true i false n n' r r' h k = refl
by_tests false false i j n n' r r' h k = refl

-- a place keeps its word where its word in the slots, or its element of the result, stays
pub state_stays : (p : Places) (old new : List ℕ) (before after : List ℕ → ℕ) (u : ℕ) (at : List ℕ)
    → (u + 1 < operations p.tree → IsInside (kept_extents p.space p.tree p.fusion u) at
    → slice_index new (word_at p.space p.tree p.fusion p.slots u at) ≡ slice_index old (word_at p.space p.tree p.fusion p.slots u at))
    → (u ≡ root p → IsInside (kept_extents p.space p.tree p.fusion (root p)) at → after (result_coordinates p at) ≡ before (result_coordinates p at))
    → state_of p new after u at ≡ state_of p old before u at
unfolding state_of
state_stays p old new before after u at inner top =
    by_tests (ltb (u + 1) (operations p.tree)) (eqb (u + 1) (operations p.tree)) (are_inside (kept_extents p.space p.tree p.fusion u) at) (are_inside (kept_extents p.space p.tree p.fusion (root p)) at)
    (slice_index old (word_at p.space p.tree p.fusion p.slots u at)) (slice_index new (word_at p.space p.tree p.fusion p.slots u at))
    (before (result_coordinates p at)) (after (result_coordinates p at))
    (λ t i. inner (ltb-true (u + 1) (operations p.tree) t) (are_inside-holds (kept_extents p.space p.tree p.fusion u) at i))
    (λ t j. top (omega (arith, eqb-true (u + 1) (operations p.tree) t)) (are_inside-holds (kept_extents p.space p.tree p.fusion (root p)) at j))

-- the setting of the places
pub at_setting : (p : Places) (s : Setting) (P : Setting → Type 0) → IsSettingOf p s → ((e : Elements) → P (record { tree = p.tree; fusion = p.fusion; elements = e })) → P s
at_setting p s P is h =
    let whole : Elements → Setting = λ e. record { tree = p.tree; fusion = p.fusion; elements = e } in
    let same : s ≡ whole s.elements = ap₂ (λ t f. let x : Setting = record { tree = t; fusion = f; elements = s.elements } in x) is.tree is.fusion in
    subst P (sym same) (h s.elements)

-- ---- the turns' words in a slot

pub record IsSlotTurn (p : Places) (t : Turns) (v : ℕ) (w : Window) (b : Assignment) : Type 0 where
  pub at : IsSlotAt p.space p.tree p.fusion v b
  pub place : IsPlace p.space p.tree p.fusion v (coordinates (kept_dims p.tree p.fusion v) b)
  pub stands : stands_at w t.first b ≡ slot_word (slot_at p.slots v) b
  pub word : stands_at w t.first b ≡ word_at p.space p.tree p.fusion p.slots v (coordinates (kept_dims p.tree p.fusion v) b)
  pub low : stands_at w t.first b < memory p.space p.tree p.fusion

pub slot_turn : (p : Places) (t : Turns) (v : ℕ) (w : Window) → IsLayout p.space p.tree p.fusion p.slots → IsSlotOf p t v w → (b : Assignment) → IsTurn t b → IsSlotTurn p t v w b
slot_turn p t v w laid is b turn =
    let fill = places_fill p.space p.tree p.fusion p.slots laid in
    let at : IsSlotAt p.space p.tree p.fusion v b = record { inner = is.inner; inside = is.inside b turn } in
    let here = is_place p.space p.tree p.fusion v b at in
    let stands : stands_at w t.first b ≡ slot_word (slot_at p.slots v) b = slot_stands (slot_at p.slots v) t w b is.window turn in
    let word : stands_at w t.first b ≡ word_at p.space p.tree p.fusion p.slots v (coordinates (kept_dims p.tree p.fusion v) b) = stands ∙ fill.reached v b is.inner in
    record {
      at = at;
      place = here;
      stands = stands;
      word = word;
      low = omega (arith, word, fill.below v (coordinates (kept_dims p.tree p.fusion v) b) here);
    }

slot_shows : (p : Places) (c : CacheState) (files : Files) (array : ℕ) (shape : Tiling) (e : Elements) (t : Turns) (v : ℕ) (w : Window) (count : ℕ)
    → IsLaidOut p c count → IsSlotOf p t v w → ShowsNode (record { tree = p.tree; fusion = p.fusion; elements = e }) t v w count (view_of p c files array shape)
slot_shows p c files array shape e t v w count laid is = record {
  within = λ b turn. omega (arith, (turn_is b turn).low, laid.before, laid.room);
  word = λ words len b turn.
      places_have_their_words.node p words (current_cell c files words array shape) v b laid.slots (turn_is b turn).at
      ∙ ap (slice_index words) (sym (turn_is b turn).stands);
  apart = λ b d tb td. (
    (λ same. (fill.apart v v (coordinates (kept_dims p.tree p.fusion v) b) (coordinates (kept_dims p.tree p.fusion v) d) (turn_is b tb).place (turn_is d td).place
        (sym (turn_is b tb).word ∙ same ∙ (turn_is d td).word)).1),
    (λ same. (turn_is b tb).word ∙ ap (word_at p.space p.tree p.fusion p.slots v) same ∙ sym (turn_is d td).word),
  );
  others = λ old new old_len new_len differ u q free.
      state_stays p old new (current_cell c files old array shape) (current_cell c files new array shape) u q
      (λ inner inside. differ (word_at p.space p.tree p.fusion p.slots u q) (λ b turn same.
      let both = fill.apart v u (coordinates (kept_dims p.tree p.fusion v) b) q (turn_is b turn).place (record { node = inner; inside = inside }) (sym (turn_is b turn).word ∙ same) in
      free (sym both.0) b turn both.1))
      (λ top inside. current_stays c files old new (λ k high. differ k (λ b turn same. absurd (omega (arith, (turn_is b turn).low, laid.before, high, same)))) array _ _);
}
  where
    fill : PlacesFill p.space p.tree p.fusion p.slots
    fill = places_fill p.space p.tree p.fusion p.slots laid.slots

    turn_is : (b : Assignment) → IsTurn t b → IsSlotTurn p t v w b
    turn_is b turn = slot_turn p t v w laid.slots is b turn

pub slots_show_nodes : SlotsShowNodes
slots_show_nodes p c files array shape s t v w count of laid is =
    at_setting p s (λ x. ShowsNode x t v w count (view_of p c files array shape)) of (λ e. slot_shows p c files array shape e t v w count laid is)

pub slots_show_words : SlotsShowWords
slots_show_words p c files array shape s t v w words of laid is =
    let shows = slots_show_nodes p c files array shape s t v w (length words) of laid is in
    record { within = shows.within; word = λ b turn. sym (shows.word words refl b turn) }
