-- What the calls ask and leave.
use Rattle.std.proofs.Common.{ℕ, List, length, slice_index, ap, ap₂, ◌∙◌}
use Rattle.std.specs.List.Sorted.{IsPermutation}
use Rattle.std.proofs.lemmas.List.Sorted.{IsPermutation-refl}
use Rattle.tce_base.specs.Word.{wrapping_mul}
use Rattle.tce_tree.specs.Value.{Assignment}
use Rattle.tce_block.specs.Parts.{Part}
use Rattle.tce_code.specs.Execution.{Setting, State}
use Rattle.tce_block.specs.Turns.{operate}
use Rattle.tce_exec.specs.LoopLaws.{ArePartTurns, AreWordsOf}
use Rattle.tce_exec.specs.Leaving.{ShowsPart, PartsAreWithin, PartsAreApart, GrowLeaves, ProductsLeave, ComputeLeaves}
use Rattle.tce_exec.specs.Loops.{AreLoops, place_along}
use Rattle.tce_exec.specs.Turns.{turns_of, turn_at}
use Rattle.tce_exec.specs.LoopWindows.{ShowsWords}
use Rattle.tce_exec.specs.declared.window.Window.{Window}
use Rattle.tce_exec.proofs.Making.{sequence_of, others_stay, turns_grow, turns_set}
use Rattle.tce_exec.proofs.LoopPlaces.{coordinates_are_turns, turns_are_within, turns_are_apart}

pub parts_are_within : PartsAreWithin
parts_are_within order a part w count loops h = turns_are_within (turns_of order a part) w order count (sequence_of order a part order loops (IsPermutation-refl order)) h

pub parts_are_apart : PartsAreApart
parts_are_apart order a part w other loops h = turns_are_apart (turns_of order a part) w other order (sequence_of order a part order loops (IsPermutation-refl order)) h

turns_from : (s : Setting) (v : ℕ) (order : List ℕ) (a : Assignment) (part : Part) (out : Window) (view : List ℕ → State) (old inner : List ℕ)
    → ShowsPart s v order a part out view old → IsPermutation order inner → ArePartTurns s v order a part inner out view (length old)
turns_from s v order a part out view old inner h same = record { loops = h.loops; same = same; shows = h.shows }

-- the words that a window shows, by coordinates
words_from : (order : List ℕ) (a : Assignment) (part : Part) (w : Window) (f : Assignment → ℕ) (old inner : List ℕ) → AreLoops order part.len → IsPermutation order inner
    → ShowsWords (turns_of order a part) w old f → AreWordsOf f (turns_of order a part) inner (λ xs. slice_index old (place_along w inner xs))
words_from order a part w f old inner loops same shows = λ xs inside.
    let turns = coordinates_are_turns (turns_of order a part) w inner (sequence_of order a part inner loops same) in
    ap (slice_index old) (turns.place xs inside) ∙ shows.word (turn_at (turns_of order a part) inner xs) (turns.turn xs inside)

pub grow_leaves : GrowLeaves
grow_leaves s v order a part out operand view f old new h holds shows are = record {
  same_length = are.made.same_length;
  state_is = turns_grow s v order a part are.inner out view f (λ xs. slice_index old (place_along operand are.inner xs)) old new (turns_from s v order a part out view old are.inner h are.same) holds
      (words_from order a part operand f old are.inner h.loops are.same shows) are.made;
  others = others_stay (turns_of order a part) out are.inner _ old new (sequence_of order a part are.inner h.loops are.same) are.made;
}

pub products_leave : ProductsLeave
products_leave s v order a part out left right view f g old new h holds lefts rights are = record {
  same_length = are.made.same_length;
  state_is = turns_grow s v order a part are.inner out view (λ b. wrapping_mul (f b) (g b))
      (λ xs. wrapping_mul (slice_index old (place_along left are.inner xs)) (slice_index old (place_along right are.inner xs))) old new
      (turns_from s v order a part out view old are.inner h are.same) holds
      (λ xs inside. ap₂ wrapping_mul (words_from order a part left f old are.inner h.loops are.same lefts xs inside) (words_from order a part right g old are.inner h.loops are.same rights xs inside)) are.made;
  others = others_stay (turns_of order a part) out are.inner _ old new (sequence_of order a part are.inner h.loops are.same) are.made;
}

pub compute_leaves : ComputeLeaves
compute_leaves s v order a part operation out left right view f g old new h lefts rights are = record {
  same_length = are.made.same_length;
  state_is = turns_set s v order a part are.inner out view (λ b. operate operation (f b) (g b))
      (λ xs. operate operation (slice_index old (place_along left are.inner xs)) (slice_index old (place_along right are.inner xs))) old new
      (turns_from s v order a part out view old are.inner h are.same)
      (λ xs inside. ap₂ (operate operation) (words_from order a part left f old are.inner h.loops are.same lefts xs inside) (words_from order a part right g old are.inner h.loops are.same rights xs inside)) are.made;
  others = others_stay (turns_of order a part) out are.inner _ old new (sequence_of order a part are.inner h.loops are.same) are.made;
}
