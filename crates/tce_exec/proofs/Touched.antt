-- Elements of touched tiles.
use Rattle.std.proofs.Common.{◌≡◌, ℕ, zero, suc, ◌+◌, ◌*◌, ◌<◌, ◌≤◌, Bool, List, length, slice_get, Option, Some, None, refl, sym, ap, subst, arith}
use Rattle.std.specs.Option.{IsSomeAnd}
use Rattle.std.proofs.Math.Nat.{mul-le-mul_right}
use Rattle.tce_space.specs.Tiling.{Tiling, tiles, tile_words}
use Rattle.tce_cache.specs.Held.{Held, touched, AreApart}
use Rattle.tce_cache.specs.Current.{place}
use Rattle.tce_cache.specs.declared.array.ArrayRef.{ArrayRef}
use Rattle.tce_cache.specs.Cache.{State, Exists, IsCache, IsArrayAt, HasRoom, IsSameOutsideFrames, layout}
use Rattle.tce_cache.specs.Touch.{IsTouched, with_held}
use Rattle.tce_cache.proofs.Tiles.{frame_room}
use Rattle.tce_exec.specs.OperandLaws.{HasShape}
use Rattle.tce_exec.specs.Elements.{IsElementAt}

-- a tile of the array's shape exists
pub exists_of : (c : State) (array tile : ℕ) (shape : Tiling) → HasShape c array shape → tile < tiles shape → Exists c array tile
exists_of c array tile shape h l = by_array (slice_get c.arrays array) h
  where
    by_array : (o : Option ArrayRef) → IsSomeAnd o (λ a. a.shape ≡ shape) → IsSomeAnd o (λ a. tile < tiles a.shape)
    by_array None h = absurd h
    by_array (Some a) h = subst (λ s. tile < tiles s) (sym h) l

pub tile_fits : (c : State) (array : ℕ) (shape : Tiling) → IsCache c → HasShape c array shape → tile_words shape ≤ c.frame_words
tile_fits c array shape is h = by_array (slice_get c.arrays array) refl h
  where
    by_array : (o : Option ArrayRef) → slice_get c.arrays array ≡ o → IsSomeAnd o (λ a. a.shape ≡ shape) → tile_words shape ≤ c.frame_words
    by_array None e h = absurd h
    by_array (Some a) e h = omega (arith, is.arrays.fit array a e, ap tile_words h)

first_frame : (frames : ℕ) (held : List Held) (h : Held) → 3 ≤ frames → AreApart frames (touched frames held h) → h.frame < frames
first_frame zero held h some apart = absurd (omega arith)
first_frame (suc n) held h some apart = apart.2

-- the words of a touched tile are words of the block
pub touched_room : (c new : State) (array tile : ℕ) (write : Bool) (answer k : ℕ) (shape : Tiling) (words words' : List ℕ) → HasShape c array shape → HasRoom c words → IsCache new
    → IsTouched c new array tile write answer → IsSameOutsideFrames c words words' → k < tile_words shape → answer + k < length words'
touched_room c new array tile write answer k shape words words' h room cache is outside l =
    let held : List Held = touched c.frames c.held (record { array = array; tile = tile; frame = is.frame; marked = is.marked }) in
    let whole : IsCache (with_held c held (c.touches + 1)) = subst IsCache is.state cache in
    let low : is.frame < c.frames = first_frame c.frames c.held (record { array = array; tile = tile; frame = is.frame; marked = is.marked }) whole.frames whole.apart in
    let fits : tile_words shape ≤ c.frame_words = tile_fits (with_held c held (c.touches + 1)) array shape whole h in
    omega (arith, l, is.answer_is, outside.same_length, frame_room c words is.frame (tile_words shape) low fits room)

-- the word of a touched element is one of the block
pub element_room : (c new : State) (array tile place : ℕ) (write : Bool) (answer : ℕ) (xs words words' : List ℕ) → IsArrayAt c.arrays array (λ a. IsElementAt a.shape xs tile place)
    → HasRoom c words → IsCache new → IsTouched c new array tile write answer → IsSameOutsideFrames c words words' → answer + place < length words'
element_room c new array tile place write answer xs words words' is room cache touched outside = by_array (slice_get c.arrays array) refl is
  where
    by_array : (o : Option ArrayRef) → slice_get c.arrays array ≡ o → IsSomeAnd o (λ a. IsElementAt a.shape xs tile place) → answer + place < length words'
    by_array None e h = absurd h
    by_array (Some a) e h =
        touched_room c new array tile write answer place a.shape words words' (subst (λ o. IsSomeAnd o (λ b. b.shape ≡ a.shape)) (sym e) refl) room cache touched outside h.within

-- a frame lies among the frames
pub frame_inside : (c : State) (frame : ℕ) → frame < c.frames → place (layout c) frame + c.frame_words ≤ c.at + c.frames * c.frame_words
frame_inside c frame lt =
    let next : suc frame ≤ c.frames = omega arith in
    let more : suc frame * c.frame_words ≤ c.frames * c.frame_words = mul-le-mul_right c.frame_words next in
    omega arith
