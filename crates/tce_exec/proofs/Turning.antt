-- What is known of the turns of a block of a tail, and where the words stand that they read.
use Rattle.std.proofs.Common.{◌≡◌, ℕ, ◌<◌, ◌^◌, Bool, true, false, IsTrue, List, map, length, slice_get, slice_index, Option, Some, None, refl, sym, ap, subst, arith}
use Rattle.std.specs.Option.{IsSomeAnd, ForSome, option_map}
use Rattle.std.specs.FinMap as map_of
use Rattle.tce_outside.specs.Files.{Files}
use Rattle.tce_space.specs.IndexSet.{has}
use Rattle.tce_space.specs.Space.{IsSpace, extent_at, edge_at}
use Rattle.tce_space.specs.Tiling.{Tiling, tile_number, tile_words, place_in_tile}
use Rattle.tce_space.proofs.Spaces.{index_limits}
use Rattle.tce_cache.specs.Held.{Held}
use Rattle.tce_cache.specs.declared.array.ArrayRef.{ArrayRef}
use Rattle.tce_cache.specs.Cache.{IsCache}
use Rattle.tce_tree.specs.ContractionTree.{node_loops}
use Rattle.tce_tree.specs.FlatTree.{IsTree}
use Rattle.tce_tree.specs.Value.{Assignment}
use Rattle.tce_tree.specs.WellFormed.{among}
use Rattle.tce_tree.specs.declared.node.Operand.{Operand}
use Rattle.tce_tree.specs.declared.node.Operand.TheVariants.{Leaf, Constant, Node}
use Rattle.tce_tree.specs.declared.expr.Leaf.{Leaf as LeafReference}
use Rattle.tce_tree.proofs.NamedIndexes.{node_loops_declared}
use Rattle.tce_tree.proofs.Assignments.{all_positive}
use Rattle.tce_block.specs.Parts.{Part}
use Rattle.tce_code.specs.Execution.{State}
use Rattle.tce_exec.specs.NodeStates.{Places, current_cell}
use Rattle.tce_exec.specs.OperandLaws.{HasShape}
use Rattle.tce_walk.specs.Machine.{IsTailAt, IsNodeAt}
use Rattle.tce_walk.specs.declared.machine.Tail.{Tail}
use Rattle.tce_exec.specs.Loops.{AreLoops}
use Rattle.tce_exec.specs.Turns.{Turns, IsTurn, turns_of}
use Rattle.tce_exec.specs.LoopWindows.{stands_at}
use Rattle.tce_exec.specs.declared.window.Window.{Window}
use Rattle.tce_exec.specs.OperandWindows.{IsTileWindow}
use Rattle.tce_exec.specs.TilesOfBlocks.{AreTurnsOfBlock, StayBetweenEdges}
use Rattle.tce_exec.specs.WindowLaws.{IsLaidOut, IsSlotOf, IsTileOf, view_of}
use Rattle.tce_exec.specs.Touches.{IsHeldAt}
use Rattle.tce_exec.proofs.Edges.{blocks_stay_in_tiles}
use Rattle.tce_exec.proofs.Shown.{slots_show_words}
use Rattle.tce_exec.proofs.Frames.{tiles_show_words, within_tile}
use Rattle.tce_exec.proofs.Touches.{touched_tiles_stay}
use Rattle.tce_exec.specs.Workspace.{Workspace, setting_in, shape_over, result_shape}
use Rattle.tce_exec.specs.Prepared.{IsPrepared}
use Rattle.tce_exec.specs.Operands.{IsElementOf, word_of_operand}
use Rattle.tce_exec.specs.Steps.{IsKept}
use Rattle.tce_exec.proofs.Reading.{leaf_word_is}
use Rattle.tce_exec.proofs.Workspaces.{kept_setting}
use Rattle.tce_exec.specs.Blocks.{IsBlockOf, loops_of}
use Rattle.tce_exec.specs.TailBlocks.{IsAtBlock}
use Rattle.tce_exec.specs.Windows.{HasPlace, IsTouchedTile, IsOperandWindow}

pub block_later : (x y : Workspace) (tail : Tail) (a : Assignment) (part : Part) → IsKept x y → IsPrepared y → IsAtBlock x tail a part → IsAtBlock y tail a part
block_later x y tail a part kept is h = record {
  space = subst (λ (p : Places). IsSpace p.space) (sym kept.places) h.space;
  tree = subst (λ (p : Places). IsTree p.tree) (sym kept.places) h.tree;
  prepared = is;
  tail_is = subst (λ s. IsTailAt s tail a) (sym (kept_setting x y h.prepared.cache kept)) h.tail_is;
  block = subst (λ (p : Places). IsBlockOf p.space tail part) (sym kept.places) h.block;
}

-- ---- the turns of a block

loop_declared : (y : Workspace) (tail : Tail) (a : Assignment) (part : Part) → IsAtBlock y tail a part → (i : ℕ) → among (loops_of tail) i ≡ true → i < length y.places.space.indexes
loop_declared y tail a part h i m =
    node_loops_declared y.places.space y.places.tree tail.node h.tail_is.known h.space.index_limit h.prepared.measured.declared i (h.tail_is.loops i m)

pub loop_edge : (y : Workspace) (tail : Tail) (a : Assignment) (part : Part) → IsAtBlock y tail a part → (i : ℕ) → among (loops_of tail) i ≡ true → 0 < edge_at y.places.space i
loop_edge y tail a part h i m = (index_limits y.places.space i h.space (loop_declared y tail a part h i m)).edge_some

pub block_turns : (y : Workspace) (tail : Tail) (a : Assignment) (part : Part) → IsAtBlock y tail a part
    → AreTurnsOfBlock (extent_at y.places.space) (edge_at y.places.space) (loops_of tail) a part
block_turns y tail a part h =
    blocks_stay_in_tiles (extent_at y.places.space) (edge_at y.places.space) (loops_of tail) a h.block.0 part
    (all_positive (edge_at y.places.space) (loops_of tail) (loop_edge y tail a part h)) h.block.1

pub block_loops : (y : Workspace) (tail : Tail) (a : Assignment) (part : Part) → IsAtBlock y tail a part → AreLoops (loops_of tail) part.len
block_loops y tail a part h =
    let turns = block_turns y tail a part h in
    record {
      distinct = h.tail_is.distinct;
      below = λ i m. omega (arith, loop_declared y tail a part h i m, h.space.index_limit);
      as_many = turns.as_many;
      some = turns.some;
    }

pub node_at_turn : (y : Workspace) (tail : Tail) (a : Assignment) (part : Part) → IsAtBlock y tail a part → (b : Assignment) → IsTurn (turns_of (loops_of tail) a part) b
    → IsNodeAt (setting_in y) tail.node b
node_at_turn y tail a part h b turn = record {
  known = h.tail_is.known;
  inside = (block_turns y tail a part h).inside (node_loops y.places.tree tail.node) h.tail_is.inside b turn;
}

-- ---- windows of slots and of tiles

pub slot_stands : (y : Workspace) (t : Turns) (u : ℕ) (n : ℕ) (w : Window) → IsOperandWindow n y (Node u) t.first w → IsTurn t t.first
    → ((b : Assignment) → IsTurn t b → HasPlace y (Node u) b) → IsSlotOf y.places t u w
slot_stands y t u n w window first at = record {
  inner = (at t.first first).inner;
  inside = λ b turn. (at b turn).inside;
  window = window;
}

-- the frame that holds a tile, which is marked where it was touched for writing
pub record StandsInFrame (y : Workspace) (t : Turns) (array : ℕ) (indexes : List ℕ) (marked : Bool) (w : Window) : Type 0 where
  pub held : Held
  pub tile : IsTileOf y.cache t (edge_at y.places.space) array (shape_over y.places.space indexes) indexes held w
  pub marked_is : IsTrue marked → held.marked ≡ true

pub tile_stands : (y : Workspace) (t : Turns) (n array : ℕ) (indexes : List ℕ) (marked : Bool) (w : Window) → IsCache y.cache
    → IsTouchedTile n y.cache array (shape_over y.places.space indexes) indexes t.first marked w → HasShape y.cache array (shape_over y.places.space indexes)
    → StayBetweenEdges t (edge_at y.places.space) → StandsInFrame y t array indexes marked w
tile_stands y t n array indexes marked w cache is has between =
    let now : IsHeldAt y.cache array (tile_number (shape_over y.places.space indexes) (map t.first indexes)) is.at marked =
    touched_tiles_stay.held n y.cache array (tile_number (shape_over y.places.space indexes) (map t.first indexes)) is.at marked cache is.among in
    record {
      held = now.held;
      tile = record {
        tiling = is.tiling;
        array_is = has;
        indexes_are = record { edges = refl; positive = is.tiling.positive; known = is.known };
        between = between;
        held = now.found;
        window = subst (λ at. IsTileWindow (shape_over y.places.space indexes) indexes t.first at w) now.place_is is.window_is;
      };
      marked_is = now.marked_is;
    }

pub laid_out : (y : Workspace) → IsPrepared y → IsLaidOut y.places y.cache (length y.words)
laid_out y is = record { slots = is.laid; before = is.before; room = is.room }

abbrev pub view : Workspace → Files → State
view y fs = view_of y.places y.cache fs y.tensor (result_shape y) y.words

-- ---- the words of an operand

array_has : (P : Tiling → Type 0) (o : Option ArrayRef) (shape : Tiling) → IsSomeAnd o (λ a. a.shape ≡ shape) → P shape → IsSomeAnd o (λ a. P a.shape)
array_has P None shape h k = absurd h
array_has P (Some a) shape h k = subst P (sym h) k

leaf_word : (y : Workspace) (t : Turns) (l : LeafReference) (w : Window) (h : Held) (fs : Files) → IsPrepared y → ((k : ℕ) → slice_index y.words k < 2 ^ 64)
    → IsTileOf y.cache t (edge_at y.places.space) l.tensor (shape_over y.places.space l.indexes.items) l.indexes.items h w → y.files ≡ Some fs
    → (b : Assignment) → IsTurn t b → IsElementOf y l b → slice_index y.words (stands_at w t.first b) ≡ word_of_operand (setting_in y) (Leaf l) (view y fs) b
leaf_word y t l w h fs is low tile told b turn element =
    leaf_word_is y l b (slice_index y.words (stands_at w t.first b)) is element (low (stands_at w t.first b))
    (array_has (λ s. ForSome y.files (λ gs. slice_index y.words (stands_at w t.first b) ≡ current_cell y.cache gs y.words l.tensor s (map b l.indexes.items)))
    (slice_get y.cache.arrays l.tensor) (shape_over y.places.space l.indexes.items) element.operand.stored.array
    (λ gs now.
    (tiles_show_words y.cache gs y.words t (edge_at y.places.space) l.tensor (shape_over y.places.space l.indexes.items) l.indexes.items h w is.cache is.room tile).word b turn))
    (array_has (λ s. place_in_tile s (map b l.indexes.items) < tile_words s) (slice_get y.cache.arrays l.tensor) (shape_over y.places.space l.indexes.items) element.operand.stored.array
    (within_tile (shape_over y.places.space l.indexes.items) (edge_at y.places.space) l.indexes.items b tile.indexes_are))
    (view y fs) (ap (option_map (λ gs. view y gs)) told)

-- an operand that has a place at each turn, and its window
pub record Reads (y : Workspace) (t : Turns) (n : ℕ) (o : Operand) (w : Window) : Type 0 where
  pub window : IsOperandWindow n y o t.first w
  pub first : IsTurn t t.first
  pub between : StayBetweenEdges t (edge_at y.places.space)
  pub at : (b : Assignment) → IsTurn t b → HasPlace y o b

pub leaf_stands : (y : Workspace) (t : Turns) (n : ℕ) (l : LeafReference) (w : Window) → IsPrepared y → Reads y t n (Leaf l) w → StandsInFrame y t l.tensor l.indexes.items false w
leaf_stands y t n l w is h =
    tile_stands y t n l.tensor l.indexes.items false w is.cache h.window (h.at t.first h.first).operand.stored.array h.between

pub node_stands : (y : Workspace) (t : Turns) (n u : ℕ) (w : Window) → Reads y t n (Node u) w → IsSlotOf y.places t u w
node_stands y t n u w h = slot_stands y t u n w h.window h.first h.at

pub operand_within : (y : Workspace) (t : Turns) (n : ℕ) (o : Operand) (w : Window) → IsPrepared y → Reads y t n o w → (b : Assignment) → IsTurn t b → stands_at w t.first b < length y.words
operand_within y t n (Leaf l) w is h b turn =
    let s = leaf_stands y t n l w is h in
    (tiles_show_words y.cache map_of.empty y.words t (edge_at y.places.space) l.tensor (shape_over y.places.space l.indexes.items) l.indexes.items s.held w is.cache is.room s.tile).within b turn
operand_within y t n (Constant k) w is h b turn = absurd h.window
operand_within y t n (Node u) w is h b turn =
    (slots_show_words y.places y.cache map_of.empty y.tensor (result_shape y) (setting_in y) t u w y.words (record { tree = refl; fusion = refl }) (laid_out y is) (node_stands y t n u w h)).within b turn

pub operand_words : (y : Workspace) (t : Turns) (n : ℕ) (o : Operand) (w : Window) (fs : Files) → IsPrepared y → ((k : ℕ) → slice_index y.words k < 2 ^ 64) → y.files ≡ Some fs → Reads y t n o w
    → (b : Assignment) → IsTurn t b → slice_index y.words (stands_at w t.first b) ≡ word_of_operand (setting_in y) o (view y fs) b
operand_words y t n (Leaf l) w fs is low told h b turn =
    let s = leaf_stands y t n l w is h in
    leaf_word y t l w s.held fs is low s.tile told b turn (h.at b turn)
operand_words y t n (Constant k) w fs is low told h b turn = absurd h.window
operand_words y t n (Node u) w fs is low told h b turn =
    (slots_show_words y.places y.cache fs y.tensor (result_shape y) (setting_in y) t u w y.words (record { tree = refl; fusion = refl }) (laid_out y is) (node_stands y t n u w h)).word b turn
