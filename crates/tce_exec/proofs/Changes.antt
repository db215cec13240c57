-- Windows that are apart, and what stays where words change at the places of a window.
use Rattle.std.proofs.Common.{◌≡◌, ℕ, ◌+◌, ◌<◌, ◌≤◌, true, List, map, length, slice_index, sym, ◌∙◌, inl, inr, arith}
use Rattle.std.proofs.lemmas.Bool.{true≢false}
use Rattle.tce_outside.specs.Files.{Files}
use Rattle.tce_space.specs.Tiling.{Tiling, tile_number, place_in_tile}
use Rattle.tce_space.proofs.Tilings.{place_in_tile-lt}
use Rattle.tce_cache.specs.Held.{Held}
use Rattle.tce_cache.specs.Current.{place, IsSameOutside}
use Rattle.tce_cache.proofs.Current.{clean_stay}
use Rattle.tce_cache.specs.Cache.{State as CacheState, IsCache, layout, stored, current_word}
use Rattle.tce_cache.proofs.Tiles.{outside_frames}
use Rattle.tce_cache.proofs.Steps.{tiles_fit}
use Rattle.tce_tree.specs.Fusion.{kept_dims}
use Rattle.tce_tree.specs.Memory.{memory}
use Rattle.tce_tree.specs.Value.{Assignment}
use Rattle.tce_code.specs.Execution.{coordinates}
use Rattle.tce_layout.specs.Layout.{IsLayout}
use Rattle.tce_layout.proofs.Filling.{places_fill}
use Rattle.tce_exec.specs.NodeStates.{Places}
use Rattle.tce_exec.specs.OperandLaws.{StandsBefore}
use Rattle.tce_exec.specs.Turns.{Turns, IsTurn}
use Rattle.tce_exec.specs.LoopWindows.{DifferOnlyAt}
use Rattle.tce_exec.specs.declared.window.Window.{Window}
use Rattle.tce_exec.proofs.Putting.{current_stays}
use Rattle.tce_exec.proofs.Touched.{tile_fits}
use Rattle.tce_exec.specs.WindowLaws.{IsSlotOf, IsTileOf, WindowsAreApart, SlotsChangeAlone, TilesChangeAlone, ChangesKeepCells}
use Rattle.tce_exec.proofs.Shown.{slot_turn}
use Rattle.tce_exec.proofs.Frames.{is_framed, tile_turn, in_different_frames, word_stays}

pub windows_are_apart : WindowsAreApart
windows_are_apart = record {
  slots = λ p t u v w other laid is is_other ne b d tb td same.
      let fill = places_fill p.space p.tree p.fusion p.slots laid in
      let at = slot_turn p t u w laid is b tb in
      let at_other = slot_turn p t v other laid is_other d td in
      ne (fill.apart u v (coordinates (kept_dims p.tree p.fusion u) b) (coordinates (kept_dims p.tree p.fusion v) d) at.place at_other.place (sym at.word ∙ same ∙ at_other.word)).0;
  slot_and_tile = λ p c t edge v array shape indexes h w other laid before is is_other b d tb td same.
      let at = slot_turn p t v w laid is b tb in
      let at_other = tile_turn c t edge array shape indexes h other is_other d td in
      absurd (omega (arith, at.low, before, at_other.stands, same));
  tiles = λ c t edge array array' shape shape' indexes indexes' h h' w other cache is is_other different b d tb td same.
      let at = tile_turn c t edge array shape indexes h w is b tb in
      let at_other = tile_turn c t edge array' shape' indexes' h' other is_other d td in
      let framed = is_framed c t edge array shape indexes h w cache is in
      let framed_other = is_framed c t edge array' shape' indexes' h' other cache is_other in
      in_different_frames c array (tile_number shape (map t.first indexes)) array' (tile_number shape' (map t.first indexes')) (place_in_tile shape (map b indexes)) (place_in_tile shape' (map d indexes')) h h' cache is.held is_other.held different
      (omega (arith, at.short, framed.fits)) (omega (arith, at_other.short, framed_other.fits)) (sym at.stands ∙ same ∙ at_other.stands);
}

-- ---- words that change in a slot

slots_change : (p : Places) (c : CacheState) (files : Files) (t : Turns) (v : ℕ) (w : Window) (old new : List ℕ)
    → IsLayout p.space p.tree p.fusion p.slots → StandsBefore p c → IsSlotOf p t v w → DifferOnlyAt t w old new → SlotsChangeAlone p c files old new
slots_change p c files t v w old new laid before is differ = record {
  ready = λ ready. record {
    files_of_held = ready.files_of_held;
    clean = λ array tile h found unmarked k l. frames_stay (place (layout c) h.frame + k) (omega arith) ∙ ready.clean array tile h found unmarked k l;
  };
  current = current_stays c files old new frames_stay;
  behind = behind;
}
  where
    behind : (q : ℕ) → memory p.space p.tree p.fusion ≤ q → slice_index new q ≡ slice_index old q
    behind q high = differ q (λ b turn same. let low = (slot_turn p t v w laid is b turn).low in absurd (omega (arith, low, high, same)))

    frames_stay : (q : ℕ) → c.at ≤ q → slice_index new q ≡ slice_index old q
    frames_stay q high = behind q (omega (arith, before, high))

-- ---- words that change in a tile

tiles_change : (c : CacheState) (files : Files) (t : Turns) (edge : ℕ → ℕ) (array : ℕ) (shape : Tiling) (indexes : List ℕ) (h : Held) (w : Window) (old new : List ℕ)
    → IsCache c → IsTileOf c t edge array shape indexes h w → h.marked ≡ true → length new ≡ length old → DifferOnlyAt t w old new
    → TilesChangeAlone c files t array shape indexes old new
tiles_change c files t edge array shape indexes h w old new cache is marked len differ = record {
  ready = λ ready. record {
    files_of_held = ready.files_of_held;
    clean = clean_stay (stored c files) (layout c) c.held old new array (tile_number shape (map t.first indexes)) h (tiles_fit c cache) cache.apart is.held
        (λ unmarked. true≢false (sym marked ∙ unmarked)) outside ready.clean;
  };
  current = current;
  cells = λ b other xs ne tiling has inside.
      let short = place_in_tile-lt other xs tiling.same_rank tiling.positive inside in
      current b (tile_number other xs) (place_in_tile other xs) (omega (arith, short, tile_fits c b other cache has)) (λ d turn same _ _. ne same);
  outside = outside_frames c h.frame old new (is_framed c t edge array shape indexes h w cache is).low len outside;
}
  where
    outside : IsSameOutside (layout c) h.frame old new
    outside q out =
        differ q (λ b turn same.
        let at = tile_turn c t edge array shape indexes h w is b turn in
        let framed = is_framed c t edge array shape indexes h w cache is in
        elim out [
          | inl below ↦ omega (arith, at.stands, same, below)
          | inr past ↦ omega (arith, at.stands, at.short, framed.fits, same, past)
        ])

    current : (b u k : ℕ) → k < c.frame_words
        → ((d : Assignment) → IsTurn t d → b ≡ array → tile_number shape (map d indexes) ≡ u → place_in_tile shape (map d indexes) ≡ k → ⊥)
        → current_word c files new b u k ≡ current_word c files old b u k
    current = word_stays c files old new t edge array shape indexes h w cache is differ

pub changes_keep_cells : ChangesKeepCells
changes_keep_cells = record { slots = slots_change; tiles = tiles_change }
