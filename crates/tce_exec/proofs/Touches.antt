-- The tiles that were touched last stay where they are.
use Rattle.std.proofs.Common.{◌≡◌, ◌∙◌, ℕ, zero, suc, ◌+◌, ◌<◌, ◌≤◌, Bool, true, false, ◌||◌, if◌then◌else◌, List, [], ◌∷◌, take, slice_get, Option, Some, None, refl, sym, ap, ap₂, inl, inr, arith}
use Rattle.std.specs.Prelude.{IsTrue}
use Rattle.tce_cache.specs.Held.{Held, look_up, without, touched, AreApart}
use Rattle.tce_cache.specs.Current.{place}
use Rattle.tce_cache.proofs.Current.{tile_cases, same_tile, tests, tests_not}
use Rattle.tce_cache.specs.Cache.{State as CacheState, IsCache, layout}
use Rattle.tce_cache.specs.Touch.{IsTouched}
use Rattle.tce_exec.specs.Touches.{IsAmongLast, TouchedTilesStay}

-- ---- lists of held tiles

at_taken : (n : ℕ) (held : List Held) (k : ℕ) → k < n → slice_get (take n held) k ≡ slice_get held k
at_taken zero held k l = absurd (omega arith)
at_taken (suc n) [] k l = refl
at_taken (suc n) (h ∷ hs) zero l = refl
at_taken (suc n) (h ∷ hs) (suc k) l = at_taken n hs k (omega arith)

-- a tile at a place is found
found_at : (frames : ℕ) (held : List Held) (k : ℕ) (x : Held) → AreApart frames held → slice_get held k ≡ Some x → look_up held x.array x.tile ≡ Some x
found_at frames [] k x apart at = absurd (cc)
found_at frames (h ∷ hs) zero x apart at =
    let same : h ≡ x = cc in
    tests x.array x.tile h (Some h) (look_up hs x.array x.tile) (ap (λ (g : Held). g.array) same) (ap (λ (g : Held). g.tile) same) ∙ at
found_at frames (h ∷ hs) (suc k) x apart at =
    let later : look_up hs x.array x.tile ≡ Some x = found_at frames hs k x apart.3 at in
    tests_not x.array x.tile h (Some h) (look_up hs x.array x.tile)
    (λ a t. let both : Some x ≡ None = sym later ∙ sym (ap₂ (look_up hs) a t) ∙ apart.0 in absurd (cc)) ∙ later

-- a tile stays at its place or comes one nearer where another one is left out
record StaysNear (held : List Held) (k : ℕ) (x : Held) : Type 0 where
  at : ℕ
  near : at ≤ k
  stands : slice_get held at ≡ Some x

left_out : (held : List Held) (array tile k : ℕ) (x : Held) → slice_get held k ≡ Some x → (x.array ≡ array → x.tile ≡ tile → ⊥) → StaysNear (without array tile held) k x
left_out [] array tile k x at ne = absurd (cc)
left_out (h ∷ hs) array tile zero x at ne =
    let same : h ≡ x = cc in
    elim (tile_cases array tile h) [
      | inl s ↦ absurd (ne (ap (λ (g : Held). g.array) (sym same) ∙ s.1) (ap (λ (g : Held). g.tile) (sym same) ∙ s.2))
      | inr n ↦ record { at = 0; near = omega arith; stands = ap (λ b. slice_get (if b then hs else h ∷ without array tile hs) 0) n.0 ∙ at }
    ]
left_out (h ∷ hs) array tile (suc k) x at ne =
    elim (tile_cases array tile h) [
      | inl s ↦ record { at = k; near = omega arith; stands = ap (λ b. slice_get (if b then hs else h ∷ without array tile hs) k) s.0 ∙ at }
      | inr n ↦
          let rest = left_out hs array tile k x at ne in
          record { at = suc rest.at; near = omega (arith, rest.near); stands = ap (λ b. slice_get (if b then hs else h ∷ without array tile hs) (suc rest.at)) n.0 ∙ rest.stands }
    ]

-- ---- touches

-- the tile that a touch puts in front
abbrev front_of : (old new : CacheState) (array tile : ℕ) (write : Bool) (answer : ℕ) → IsTouched old new array tile write answer → Held
front_of old new array tile write answer is = record { array = array; tile = tile; frame = is.frame; marked = is.marked }

list_after : (old new : CacheState) (array tile : ℕ) (write : Bool) (answer : ℕ) (is : IsTouched old new array tile write answer)
    → new.held ≡ touched old.frames old.held (front_of old new array tile write answer is)
list_after old new array tile write answer is = ap (λ (c : CacheState). c.held) is.state

in_front : (old new : CacheState) (array tile : ℕ) (write : Bool) (answer : ℕ) → IsCache old → (is : IsTouched old new array tile write answer)
    → slice_get new.held 0 ≡ Some (front_of old new array tile write answer is)
in_front old new array tile write answer cache is =
    ap (λ l. slice_get l 0) (list_after old new array tile write answer is)
    ∙ at_taken old.frames (front_of old new array tile write answer is ∷ without array tile old.held) 0 (omega (arith, cache.frames))

or_true : (b c : Bool) → (c ≡ true) → (b || c) ≡ true
or_true true c e = refl
or_true false c e = e

true_or : (b c : Bool) → (b ≡ true) → (b || c) ≡ true
true_or true c e = refl
true_or false c e = absurd (cc)

marked_in_front : (old new : CacheState) (array tile : ℕ) (write : Bool) (answer : ℕ) (is : IsTouched old new array tile write answer) → IsTrue write → is.marked ≡ true
marked_in_front old new array tile write answer is w = by_look_up (look_up old.held array tile) refl
  where
    by_look_up : (o : Option Held) → look_up old.held array tile ≡ o → is.marked ≡ true
    by_look_up None e = is.was_not e ∙ w
    by_look_up (Some h) e = (is.was_held h e).1 ∙ or_true h.marked write w

-- frames stay where they are
same_place : (old new : CacheState) (array tile : ℕ) (write : Bool) (answer frame : ℕ) → IsTouched old new array tile write answer → place (layout new) frame ≡ place (layout old) frame
same_place old new array tile write answer frame is = ap (λ (c : CacheState). place (layout c) frame) is.state

touched_last : (old new : CacheState) (array tile : ℕ) (write : Bool) (answer : ℕ) → IsCache old → IsTouched old new array tile write answer → IsAmongLast 1 new array tile answer write
touched_last old new array tile write answer cache is = record {
  at = 0;
  low = omega arith;
  held = front_of old new array tile write answer is;
  stands = in_front old new array tile write answer cache is;
  array_is = refl;
  tile_is = refl;
  place_is = is.answer_is ∙ sym (same_place old new array tile write answer is.frame is);
  marked_is = marked_in_front old new array tile write answer is;
}

stays_same : (n : ℕ) (old new : CacheState) (array tile first : ℕ) (marked : Bool) (other_array other_tile : ℕ) (write : Bool) (answer : ℕ) → IsCache old
    → (last : IsAmongLast n old array tile first marked) → IsTouched old new other_array other_tile write answer
    → last.held.array ≡ other_array → last.held.tile ≡ other_tile → IsAmongLast (n + 1) new array tile first marked
stays_same n old new array tile first marked other_array other_tile write answer cache last is a t =
    let found : look_up old.held other_array other_tile ≡ Some last.held =
    sym (ap₂ (look_up old.held) a t) ∙ found_at old.frames old.held last.at last.held cache.apart last.stands in
    let was = is.was_held last.held found in
    record {
      at = 0;
      low = omega arith;
      held = front_of old new other_array other_tile write answer is;
      stands = in_front old new other_array other_tile write answer cache is;
      array_is = sym a ∙ last.array_is;
      tile_is = sym t ∙ last.tile_is;
      place_is = last.place_is ∙ ap (place (layout old)) (sym was.0) ∙ sym (same_place old new other_array other_tile write answer is.frame is);
      marked_is = λ m. was.1 ∙ true_or last.held.marked write (last.marked_is m);
    }

stays_behind : (n : ℕ) (old new : CacheState) (array tile first : ℕ) (marked : Bool) (other_array other_tile : ℕ) (write : Bool) (answer : ℕ) → n + 1 ≤ old.frames → IsCache old
    → (last : IsAmongLast n old array tile first marked) → IsTouched old new other_array other_tile write answer
    → (last.held.array ≡ other_array → last.held.tile ≡ other_tile → ⊥) → IsAmongLast (n + 1) new array tile first marked
stays_behind n old new array tile first marked other_array other_tile write answer few cache last is ne =
    let near = left_out old.held other_array other_tile last.at last.held last.stands ne in
    let g : Held = front_of old new other_array other_tile write answer is in
    record {
      at = suc near.at;
      low = omega (arith, near.near, last.low);
      held = last.held;
      stands =
          ap (λ l. slice_get l (suc near.at)) (list_after old new other_array other_tile write answer is)
          ∙ at_taken old.frames (g ∷ without other_array other_tile old.held) (suc near.at) (omega (arith, near.near, last.low, few))
          ∙ near.stands;
      array_is = last.array_is;
      tile_is = last.tile_is;
      place_is = last.place_is ∙ sym (same_place old new other_array other_tile write answer last.held.frame is);
      marked_is = last.marked_is;
    }

pub touched_tiles_stay : TouchedTilesStay
touched_tiles_stay = record {
  last = touched_last;
  stay = λ n old new array tile first marked other_array other_tile write answer few cache last is.
      elim (same_tile other_array other_tile last.held.array last.held.tile) [
        | inl s ↦ stays_same n old new array tile first marked other_array other_tile write answer cache last is s.0 s.1
        | inr ne ↦ stays_behind n old new array tile first marked other_array other_tile write answer few cache last is ne
      ];
  held = λ n c array tile first marked cache last. record {
    held = last.held;
    found = sym (ap₂ (look_up c.held) last.array_is last.tile_is) ∙ found_at c.frames c.held last.at last.held cache.apart last.stands;
    place_is = last.place_is;
    marked_is = last.marked_is;
  };
}
