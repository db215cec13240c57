-- Windows of tiles that are touched, and of those that were touched before.
use Rattle.std.proofs.Common.{◌≡◌, ℕ, ◌+◌, ◌*◌, ◌^◌, ◌<◌, ◌≤◌, Bool, false, List, map, slice_get, Option, Some, None, refl, sym, ap, subst, arith, Fits, w64}
use Rattle.std.specs.List.{All}
use Rattle.std.specs.Option.{IsSomeAnd}
use Rattle.tce_space.specs.Tiling.{Tiling, IsTiling, tile_words, tile_number}
use Rattle.tce_cache.specs.Held.{Held}
use Rattle.tce_cache.specs.Current.{place}
use Rattle.tce_cache.proofs.Current.{below_found}
use Rattle.tce_cache.specs.declared.array.ArrayRef.{ArrayRef}
use Rattle.tce_cache.specs.Cache.{State as CacheState, IsCache, IsArrayAt}
use Rattle.tce_cache.specs.Touch.{IsTouched, with_held}
use Rattle.tce_tree.specs.Value.{Assignment}
use Rattle.tce_tree.specs.declared.node.Operand.{Operand}
use Rattle.tce_tree.specs.declared.node.Operand.TheVariants.{Leaf, Constant, Node}
use Rattle.tce_exec.specs.OperandLaws.{HasShape}
use Rattle.tce_exec.specs.NodeStates.{Places}
use Rattle.tce_exec.specs.declared.window.Window.{Window}
use Rattle.tce_exec.specs.OperandWindows.{IsTileWindow}
use Rattle.tce_exec.specs.Touches.{IsHeldAt, IsAmongLast}
use Rattle.tce_exec.proofs.Touches.{touched_tiles_stay}
use Rattle.tce_exec.specs.Elements.{IsElementAt}
use Rattle.tce_exec.specs.Workspace.{Workspace}
use Rattle.tce_exec.specs.Steps.{IsKept}
use Rattle.tce_exec.proofs.Touched.{tile_fits, frame_inside}
use Rattle.tce_exec.specs.Windows.{IsTouchedTile, IsOperandWindow, KeepsLast}

-- the shape of an array, by its number
pub shape_is : (arrays : List ArrayRef) (array : ℕ) (a : ArrayRef) (shape : Tiling) → slice_get arrays array ≡ Some a → IsArrayAt arrays array (λ b. b.shape ≡ shape) → a.shape ≡ shape
shape_is arrays array a shape at h = subst (λ o. IsSomeAnd o (λ b. b.shape ≡ shape)) at h

-- the touched tile is that of the element
tile_of : (o : Option ArrayRef) (shape : Tiling) (xs : List ℕ) (tile place : ℕ) → IsSomeAnd o (λ a. a.shape ≡ shape) → IsSomeAnd o (λ a. IsElementAt a.shape xs tile place) → tile ≡ tile_number shape xs
tile_of None shape xs tile place h e = absurd h
tile_of (Some a) shape xs tile place h e = subst (λ s. tile ≡ tile_number s xs) h e.tile_is

pub touched_window : (c new : CacheState) (array tile place at : ℕ) (shape own : Tiling) (indexes : List ℕ) (first : Assignment) (write : Bool) (w : Window)
    → IsCache c → HasShape c array shape → IsArrayAt c.arrays array (λ a. IsElementAt a.shape (map first indexes) tile place) → IsTouched c new array tile write at
    → IsTiling own → own ≡ shape → All (λ i. i < 24) indexes → IsTileWindow own indexes first at w → IsTouchedTile 1 new array shape indexes first write w
touched_window c new array tile place at shape own indexes first write w cache has element touched tiling same known window = record {
  tiling = subst IsTiling same tiling;
  known = known;
  at = at;
  among = subst (λ u. IsAmongLast 1 new array u at write) (tile_of (slice_get c.arrays array) shape (map first indexes) tile place has element)
      (touched_tiles_stay.last c new array tile write at cache touched);
  window_is = subst (λ s. IsTileWindow s indexes first at w) same window;
}

-- an element stands in the tile of an array as in one of its shape
element_in : (o : Option ArrayRef) (shape : Tiling) (xs : List ℕ) (tile place : ℕ) → IsSomeAnd o (λ a. a.shape ≡ shape) → IsElementAt shape xs tile place → IsSomeAnd o (λ a. IsElementAt a.shape xs tile place)
element_in None shape xs tile place h e = absurd h
element_in (Some a) shape xs tile place h e = subst (λ s. IsElementAt s xs tile place) (sym h) e

pub element_of : (c : CacheState) (array tile place : ℕ) (shape : Tiling) (xs : List ℕ) → HasShape c array shape → IsElementAt shape xs tile place → IsArrayAt c.arrays array (λ a. IsElementAt a.shape xs tile place)
element_of c array tile place shape xs has element = element_in (slice_get c.arrays array) shape xs tile place has element

-- the frame of a touched tile lies among the words
touched_room : (c new : CacheState) (held : List Held) (touches array tile at n : ℕ) (write : Bool) (shape own : Tiling) → IsCache c → IsCache new → new ≡ with_held c held touches
    → HasShape c array shape → own ≡ shape → IsTouched c new array tile write at → c.at + c.frames * c.frame_words ≤ n → at + tile_words own ≤ n
touched_room c new held touches array tile at n write shape own cache whole same has is touched room =
    let now : IsHeldAt new array tile at write = touched_tiles_stay.held 1 new array tile at write whole (touched_tiles_stay.last c new array tile write at cache touched) in
    let low : now.held.frame < new.frames = below_found new.frames new.held array tile now.held whole.apart now.found in
    let inside = frame_inside new now.held.frame low in
    let fits : tile_words shape ≤ new.frame_words = tile_fits new array shape whole (subst (λ (d : CacheState). HasShape d array shape) (sym same) has) in
    let room_now : new.at + new.frames * new.frame_words ≤ n = subst (λ (d : CacheState). d.at + d.frames * d.frame_words ≤ n) (sym same) room in
    omega (arith, now.place_is, inside, fits, room_now, ap tile_words is)

-- and so does each of its words
pub touched_word : (c new : CacheState) (held : List Held) (touches array tile place at len : ℕ) (write : Bool) (shape : Tiling) → IsCache c → IsCache new → new ≡ with_held c held touches
    → HasShape c array shape → IsTouched c new array tile write at → c.at + c.frames * c.frame_words ≤ len → len < 2 ^ 60 → place < tile_words shape → Fits w64 (at + place)
touched_word c new held touches array tile place at len write shape cache whole same has touched room short within =
    let inside = touched_room c new held touches array tile at len write shape shape cache whole same has refl touched room in omega (arith, inside, short, within)

-- ---- tiles that were touched before

pub touch_keeps_last : (c new : CacheState) (array tile at : ℕ) (write : Bool) → IsCache c → IsTouched c new array tile write at → KeepsLast c new
touch_keeps_last c new array tile at write cache touched = λ n b u first marked few last. touched_tiles_stay.stay n c new b u first marked array tile write at few cache last touched

pub keeps_last_own : (c : CacheState) → KeepsLast c c
keeps_last_own c = λ n b u first marked few last. record {
  at = last.at;
  low = omega (arith, last.low);
  held = last.held;
  stands = last.stands;
  array_is = last.array_is;
  tile_is = last.tile_is;
  place_is = last.place_is;
  marked_is = last.marked_is;
}

operand_later : (n : ℕ) (x y : Workspace) (o : Operand) (first : Assignment) (w : Window) → n + 1 ≤ x.cache.frames → IsKept x y → KeepsLast x.cache y.cache → IsOperandWindow n x o first w
    → IsOperandWindow (n + 1) y o first w
operand_later n x y o first w few kept keeps h = subst (λ (p : Places). IsOperandWindow (n + 1) (record y { places = p }) o first w) (sym kept.places) (by_operand o h)
  where
    by_operand : (o : Operand) → IsOperandWindow n x o first w → IsOperandWindow (n + 1) (record y { places = x.places }) o first w
    by_operand (Leaf l) h = record {
      tiling = h.tiling;
      known = h.known;
      at = h.at;
      among = keeps n l.tensor _ h.at false few h.among;
      window_is = h.window_is;
    }
    by_operand (Constant k) h = h
    by_operand (Node v) h = h

pub operand_once : (x y : Workspace) (o : Operand) (first : Assignment) (w : Window) → 3 ≤ x.cache.frames → IsKept x y → KeepsLast x.cache y.cache → IsOperandWindow 1 x o first w → IsOperandWindow 2 y o first w
operand_once x y o first w frames kept keeps h = operand_later 1 x y o first w (omega (arith, frames)) kept keeps h

pub operand_twice : (x y : Workspace) (o : Operand) (first : Assignment) (w : Window) → 3 ≤ x.cache.frames → IsKept x y → KeepsLast x.cache y.cache → IsOperandWindow 2 x o first w → IsOperandWindow 3 y o first w
operand_twice x y o first w frames kept keeps h = operand_later 2 x y o first w (omega (arith, frames)) kept keeps h
