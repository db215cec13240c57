-- Where the words of a node's places stand, and what stays where they change.
use Rattle.std.proofs.Common.{◌≡◌, ◌≢◌, ℕ, ◌+◌, ◌<◌, true, List, map, length, refl, sym, subst, inl, inr, arith}
use Rattle.std.specs.FinMap as map_of
use Rattle.std.proofs.lemmas.Bool.{cases_lt}
use Rattle.tce_outside.specs.Files.{Files}
use Rattle.tce_space.specs.Space.{edge_at}
use Rattle.tce_space.specs.Tiling.{tile_words}
use Rattle.tce_tree.specs.ContractionTree.{operations}
use Rattle.tce_tree.specs.Value.{Assignment}
use Rattle.tce_tree.specs.declared.node.Operand.{Operand}
use Rattle.tce_tree.specs.declared.node.Operand.TheVariants.{Leaf, Constant, Node}
use Rattle.tce_exec.specs.NodeStates.{root}
use Rattle.tce_exec.specs.Turns.{Turns, IsTurn}
use Rattle.tce_exec.specs.LoopWindows.{stands_at, ShowsNode, DifferOnlyAt}
use Rattle.tce_exec.specs.declared.window.Window.{Window}
use Rattle.tce_exec.specs.TilesOfBlocks.{StayBetweenEdges}
use Rattle.tce_exec.specs.WindowLaws.{IsSlotOf, StandApart, SlotsChangeAlone, TilesChangeAlone, view_of}
use Rattle.tce_exec.proofs.Shown.{slots_show_nodes}
use Rattle.tce_exec.proofs.Frames.{tiles_show_nodes}
use Rattle.tce_exec.proofs.Changes.{windows_are_apart, changes_keep_cells}
use Rattle.tce_exec.specs.Workspace.{Workspace, setting_in, result_shape}
use Rattle.tce_exec.specs.Prepared.{IsPrepared}
use Rattle.tce_exec.specs.Operands.{IsPlaceOf}
use Rattle.tce_exec.specs.Steps.{IsKept, IsContinued}
use Rattle.tce_exec.proofs.Putting.{with_words, prepared_with, fronts_stay, slots_keep}
use Rattle.tce_exec.proofs.Reading.{root_inside}
use Rattle.tce_exec.proofs.Touched.{tile_fits}
use Rattle.tce_exec.proofs.Workspaces.{is_result}
use Rattle.tce_exec.specs.Windows.{IsPlaceWindow}
use Rattle.tce_exec.proofs.Operands.{place_at_root}
use Rattle.tce_exec.proofs.Turning.{Reads, StandsInFrame, leaf_stands, node_stands, tile_stands, laid_out}

-- a node that has a place at each turn, and its window
pub record Puts (y : Workspace) (t : Turns) (n v : ℕ) (w : Window) : Type 0 where
  pub window : IsPlaceWindow n y v t.first w
  pub first : IsTurn t t.first
  pub between : StayBetweenEdges t (edge_at y.places.space)
  pub at : (b : Assignment) → IsTurn t b → IsPlaceOf y v b

slot_of_node : (y : Workspace) (t : Turns) (n v : ℕ) (w : Window) → v + 1 < operations y.places.tree → Puts y t n v w → IsSlotOf y.places t v w
slot_of_node y t n v w inner h = record { inner = inner; inside = λ b turn. (h.at b turn).inside; window = h.window.inner inner }

tile_of_root : (y : Workspace) (t : Turns) (n v : ℕ) (w : Window) → v + 1 ≡ operations y.places.tree → IsPrepared y → Puts y t n v w → StandsInFrame y t y.tensor y.places.result true w
tile_of_root y t n v w last is h = tile_stands y t n y.tensor y.places.result true w is.cache (h.window.root last) is.result.array h.between

root_of : (y : Workspace) (v : ℕ) → v + 1 ≡ operations y.places.tree → v ≡ root y.places
root_of y v last = omega (arith, last)

at_root : (y : Workspace) (t : Turns) (n v : ℕ) (w : Window) → v + 1 ≡ operations y.places.tree → Puts y t n v w → (b : Assignment) → IsTurn t b → IsPlaceOf y (root y.places) b
at_root y t n v w last h b turn = place_at_root y v b last (h.at b turn)

-- the node is not the root, or it is
sides : (y : Workspace) (t : Turns) (n v : ℕ) (w : Window) (P : Type 0) → Puts y t n v w → (v + 1 < operations y.places.tree → P) → (v + 1 ≡ operations y.places.tree → P) → P
sides y t n v w P h inner last =
    let known = (h.at t.first h.first).known in
    elim (cases_lt (v + 1) (operations y.places.tree)) [
      | inl l ↦ inner l
      | inr l ↦ last (omega (arith, l, known))
    ]

-- ---- what the window shows

pub place_shows : (y : Workspace) (t : Turns) (n v : ℕ) (w : Window) (fs : Files) → IsPrepared y → Puts y t n v w
    → ShowsNode (setting_in y) t v w (length y.words) (view_of y.places y.cache fs y.tensor (result_shape y))
place_shows y t n v w fs is h =
    sides y t n v w (ShowsNode (setting_in y) t v w (length y.words) (view_of y.places y.cache fs y.tensor (result_shape y))) h
    (λ inner. slots_show_nodes y.places y.cache fs y.tensor (result_shape y) (setting_in y) t v w (length y.words) (record { tree = refl; fusion = refl }) (laid_out y is)
    (slot_of_node y t n v w inner h))
    (λ last.
    let s = tile_of_root y t n v w last is h in
    subst (λ u. ShowsNode (setting_in y) t u w (length y.words) (view_of y.places y.cache fs y.tensor (result_shape y))) (sym (root_of y v last))
    (tiles_show_nodes y.places y.cache fs y.tensor (result_shape y) (setting_in y) t (edge_at y.places.space) s.held w (length y.words) (record { tree = refl; fusion = refl }) (laid_out y is) is.cache
    (omega (arith, last)) (is_result y is) (λ b turn. (at_root y t n v w last h b turn).inside) s.tile))

pub place_within : (y : Workspace) (t : Turns) (n v : ℕ) (w : Window) → IsPrepared y → Puts y t n v w → (b : Assignment) → IsTurn t b → stands_at w t.first b < length y.words
place_within y t n v w is h = (place_shows y t n v w map_of.empty is h).within

-- ---- it is apart from the operands

turned : (t : Turns) (w other : Window) → StandApart t w other → StandApart t other w
turned t w other h = λ b c tb tc e. h c b tc tb (sym e)

pub place_apart : (y : Workspace) (t : Turns) (n m v : ℕ) (o : Operand) (out w : Window) → IsPrepared y → Puts y t n v out → Reads y t m o w → ((u : ℕ) → o ≡ Node u → v ≢ u) → StandApart t out w
place_apart y t n m v (Leaf l) out w is h g ne =
    let s = leaf_stands y t m l w is g in
    sides y t n v out (StandApart t out w) h
    (λ inner. windows_are_apart.slot_and_tile y.places y.cache t (edge_at y.places.space) v l.tensor _ l.indexes.items s.held out w is.laid is.before (slot_of_node y t n v out inner h) s.tile)
    (λ last.
    let r = tile_of_root y t n v out last is h in
    windows_are_apart.tiles y.cache t (edge_at y.places.space) y.tensor l.tensor _ _ y.places.result l.indexes.items r.held s.held out w is.cache r.tile s.tile
    (λ e k. (g.at t.first g.first).operand.other e))
place_apart y t n m v (Constant k) out w is h g ne = absurd g.window
place_apart y t n m v (Node u) out w is h g ne =
    let s = node_stands y t m u w g in
    sides y t n v out (StandApart t out w) h
    (λ inner. windows_are_apart.slots y.places t v u out w is.laid (slot_of_node y t n v out inner h) s (ne u refl))
    (λ last.
    let r = tile_of_root y t n v out last is h in
    turned t w out (windows_are_apart.slot_and_tile y.places y.cache t (edge_at y.places.space) u y.tensor _ y.places.result r.held w out is.laid is.before s r.tile))

-- ---- words that change there

pub record ChangesWords (y : Workspace) (new : List ℕ) : Type 0 where
  pub kept : IsKept y (with_words y new)
  pub prepared : IsPrepared (with_words y new)
  pub continued : IsContinued y (with_words y new)

slot_changes : (y : Workspace) (t : Turns) (v : ℕ) (w : Window) (new : List ℕ) → IsPrepared y → IsSlotOf y.places t v w → length new ≡ length y.words → DifferOnlyAt t w y.words new → ChangesWords y new
slot_changes y t v w new is slot long differ = record {
  kept = slots_keep y new (record { same_length = long; same = (alone map_of.empty).behind });
  prepared = prepared_with y new is long (λ fs told. (alone fs).ready (is.ready fs told));
  continued = fronts_stay y new (λ fs told tile k pad. (alone fs).current y.tensor tile k);
}
  where
    alone : (fs : Files) → SlotsChangeAlone y.places y.cache fs y.words new
    alone fs = changes_keep_cells.slots y.places y.cache fs t v w y.words new is.laid is.before slot differ

tile_changes : (y : Workspace) (t : Turns) (w : Window) (new : List ℕ) → IsPrepared y → StandsInFrame y t y.tensor y.places.result true w
    → ((b : Assignment) → IsTurn t b → IsPlaceOf y (root y.places) b) → length new ≡ length y.words → DifferOnlyAt t w y.words new → ChangesWords y new
tile_changes y t w new is s at long differ = record {
  kept = record {
    places = refl;
    tensor = refl;
    cache = refl;
    same_length = long;
    outside = λ p low out. (alone map_of.empty).outside.same p out;
    files = record { tells = refl; begins = λ name. refl; same = λ name ne fs told gs now. cc };
  };
  prepared = prepared_with y new is long (λ fs told. (alone fs).ready (is.ready fs told));
  continued = fronts_stay y new (λ fs told tile k pad. (alone fs).current y.tensor tile k (short k pad.0) (λ d turn same number place. pad.1 (map d y.places.result) (root_inside y d is (at d turn)) number place));
}
  where
    alone : (fs : Files) → TilesChangeAlone y.cache fs t y.tensor (result_shape y) y.places.result y.words new
    alone fs = changes_keep_cells.tiles y.cache fs t (edge_at y.places.space) y.tensor (result_shape y) y.places.result s.held w y.words new is.cache s.tile (s.marked_is refl) long differ

    short : (k : ℕ) → k < tile_words (result_shape y) → k < y.cache.frame_words
    short k lt = omega (arith, lt, tile_fits y.cache y.tensor (result_shape y) is.cache is.result.array)

pub place_changes : (y : Workspace) (t : Turns) (n v : ℕ) (w : Window) (new : List ℕ) → IsPrepared y → Puts y t n v w → length new ≡ length y.words → DifferOnlyAt t w y.words new → ChangesWords y new
place_changes y t n v w new is h long differ =
    sides y t n v w (ChangesWords y new) h
    (λ inner. slot_changes y t v w new is (slot_of_node y t n v w inner h) long differ)
    (λ last. tile_changes y t w new is (tile_of_root y t n v w last is h) (at_root y t n v w last h) long differ)
