-- Words that are put into slots, and into tiles of the result.
use Rattle.std.proofs.Common.{◌≡◌, ◌⊎◌, ℕ, zero, suc, ◌+◌, ◌-◌, ◌*◌, ◌<◌, ◌≤◌, Bool, true, false, ◌||◌, List, take, map, length, slice_get, slice_index, slice_set, length-set, replicate, Option, Some, None, refl, sym, ap, ◌∙◌, subst, inl, inr, arith}
use mathlib.Core.Path.{fun_ext}
use Rattle.std.specs.Option.{IsSomeAnd, ForSome, option_map}
use Rattle.std.proofs.lemmas.List.{get_or-set_other, length-replicate, get_or-replicate}
use Rattle.tce_outside.specs.Files.{Files, file}
use Rattle.tce_space.specs.Box.{IsInside}
use Rattle.tce_space.specs.Tiling.{tile_number, place_in_tile, tile_words}
use Rattle.tce_space.proofs.Tilings.{place_in_tile-lt}
use Rattle.tce_cache.specs.Held.{Held, look_up, touched, without}
use Rattle.tce_cache.specs.Current.{place, word_of}
use Rattle.tce_cache.proofs.Current.{tests, put_other, below_found}
use Rattle.tce_cache.specs.declared.array.ArrayRef.{ArrayRef}
use Rattle.tce_cache.specs.Cache.{State as CacheState, IsCache, IsReady, IsArrayAt, IsSameOutsideFrames, OnlyWritableDiffers, layout, stored, current_word}
use Rattle.tce_array.specs.Files.{AreBytes}
use Rattle.tce_cache.specs.Transfer.{contents}
use Rattle.tce_cache.specs.Touch.{IsTouched, KeepsArrays, with_held, front}
use Rattle.tce_tree.specs.ContractionTree.{ContractionTree, operations}
use Rattle.tce_tree.specs.Fusion.{kept_dims}
use Rattle.tce_tree.specs.Memory.{memory}
use Rattle.tce_tree.specs.Value.{Assignment}
use Rattle.tce_code.specs.Execution.{State, coordinates, with_word, cleared}
use Rattle.tce_layout.specs.Layout.{slot_at, IsLayout}
use Rattle.tce_layout.specs.declared.slot.Slot.{Slot}
use Rattle.tce_layout.proofs.Slots.{before_le}
use Rattle.tce_space.specs.Space.{IndexSpace}
use Rattle.tce_words.specs.Run.{IsRun, with_part}
use Rattle.tce_words.proofs.RunSteps.{run_of_part}
use Rattle.tce_exec.specs.Slots.{slot_word, IsSlotAt}
use Rattle.tce_exec.specs.NodeStates.{root, root_dims, state_of, current_cell}
use Rattle.tce_exec.specs.OperandLaws.{ChangesRootPlace}
use Rattle.tce_exec.proofs.Slots.{slots_lead_to_places, slot_ends}
use Rattle.tce_exec.proofs.States.{puts_change_one_place, cleared_slots_are_cleared, tile_puts_change_one_place}
use Rattle.tce_exec.specs.Workspace.{Workspace, result_shape}
use Rattle.tce_exec.specs.Prepared.{IsStored, IsPrepared}
use Rattle.tce_exec.specs.Operands.{IsPlaceOf}
use Rattle.tce_exec.specs.Steps.{IsKept, IsContinued, IsRead, IsChanged, IsPadding}
use Rattle.tce_exec.specs.Elements.{IsElementTouched}
use Rattle.tce_exec.proofs.Workspaces.{is_result, stay_operands, touch_keeps, touch_reads}
use Rattle.tce_exec.specs.Following.{touched_to, kept_on, kept_own}
use Rattle.tce_exec.proofs.Following.{change_on}
use Rattle.tce_exec.proofs.Reading.{root_inside, slot_of, read_own}
use Rattle.tce_exec.proofs.Touched.{tile_fits, frame_inside}

-- ---- words before the frames

-- the words from the frames on decide what the current words are
pub current_stays : (c : CacheState) (files : Files) (old new : List ℕ) → ((p : ℕ) → c.at ≤ p → slice_index new p ≡ slice_index old p)
    → (array tile k : ℕ) → current_word c files new array tile k ≡ current_word c files old array tile k
current_stays c files old new same array tile k = by_look_up (look_up c.held array tile)
  where
    by_look_up : (o : Option Held) → word_of (stored c files) (layout c) new o array tile k ≡ word_of (stored c files) (layout c) old o array tile k
    by_look_up None = refl
    by_look_up (Some h) = same (place (layout c) h.frame + k) (omega arith)

abbrev pub with_words : Workspace → List ℕ → Workspace
with_words x words = record x { words = words }

stored_stays : (x : Workspace) (words : List ℕ) (tensor : ℕ) (indexes : List ℕ) → IsStored x tensor indexes → IsStored (with_words x words) tensor indexes
stored_stays x words tensor indexes h = record { array = h.array; file = h.file }

-- other words, with which the cache is ready
pub prepared_with : (x : Workspace) (new : List ℕ) → IsPrepared x → length new ≡ length x.words → ForSome x.files (λ fs. IsReady x.cache fs new) → IsPrepared (with_words x new)
prepared_with x new is long ready = record {
  measured = is.measured;
  fits = is.fits;
  laid = is.laid;
  root = is.root;
  tiling = is.tiling;
  result = stored_stays x new x.tensor x.places.result is.result;
  writable = is.writable;
  operands = stay_operands x (with_words x new) refl (stored_stays x new) x.places.tree is.operands;
  before = is.before;
  room = omega (arith, is.room, long);
  cache = is.cache;
  ready = ready;
  bytes = is.bytes;
}

pub fronts_stay : (x : Workspace) (new : List ℕ) → ForSome x.files (λ fs. (tile k : ℕ) → IsPadding x tile k → current_word x.cache fs new x.tensor tile k ≡ current_word x.cache fs x.words x.tensor tile k)
    → IsContinued x (with_words x new)
fronts_stay x new h = record {
  fronts = λ fs told gs now i a at. let same : fs ≡ gs = cc in ap (λ f. option_map (front a) (file f a.file.bytes)) (sym same);
  bytes = λ fs told gs now i a at is. let same : fs ≡ gs = cc in subst (λ f. AreBytes (contents a f)) same is;
  padding = λ fs told gs now tile k pad.
      let same : fs ≡ gs = cc in
      ap (λ f. current_word x.cache f new x.tensor tile k) (sym same) ∙ h fs told tile k pad;
}

-- ---- words of slots

-- all words but those of the slots are the same
pub record IsSameBehind (x : Workspace) (new : List ℕ) : Type 0 where
  pub same_length : length new ≡ length x.words
  pub same : (p : ℕ) → memory x.places.space x.places.tree x.places.fusion ≤ p → slice_index new p ≡ slice_index x.words p

pub slots_keep : (x : Workspace) (new : List ℕ) → IsSameBehind x new → IsKept x (with_words x new)
slots_keep x new h = record {
  places = refl;
  tensor = refl;
  cache = refl;
  same_length = h.same_length;
  outside = λ p low out. h.same p low;
  files = record { tells = refl; begins = λ name. refl; same = λ name ne fs told gs now. cc };
}

pub slots_change : (x : Workspace) (new : List ℕ) (f : State → State) → IsPrepared x → IsSameBehind x new
    → ((cell : List ℕ → ℕ) → state_of x.places new cell ≡ f (state_of x.places x.words cell)) → IsChanged f 0 x (with_words x new)
slots_change x new f is h changed = record {
  prepared = prepared_with x new is h.same_length (λ fs told. record {
    files_of_held = (is.ready fs told).files_of_held;
    clean = λ array tile g e unmarked k lt. frames_stay (place (layout x.cache) g.frame + k) (omega arith) ∙ (is.ready fs told).clean array tile g e unmarked k lt;
  });
  state = by_files x.files;
  few = omega arith;
  continued = fronts_stay x new (λ fs told tile k pad. current_stays x.cache fs x.words new frames_stay x.tensor tile k);
}
  where
    frames_stay : (p : ℕ) → x.cache.at ≤ p → slice_index new p ≡ slice_index x.words p
    frames_stay p le = h.same p (omega (arith, le, is.before))

    cell_stays : (fs : Files) → current_cell x.cache fs new x.tensor (result_shape x) ≡ current_cell x.cache fs x.words x.tensor (result_shape x)
    cell_stays fs = fun_ext (λ xs. current_stays x.cache fs x.words new frames_stay x.tensor (tile_number (result_shape x) xs) (place_in_tile (result_shape x) xs))

    by_files : (o : Option Files) → option_map (λ fs. state_of x.places new (current_cell x.cache fs new x.tensor (result_shape x))) o
        ≡ option_map f (option_map (λ fs. state_of x.places x.words (current_cell x.cache fs x.words x.tensor (result_shape x))) o)
    by_files None = refl
    by_files (Some fs) =
        ap (λ s. Some s) (ap (state_of x.places new) (cell_stays fs) ∙ changed (current_cell x.cache fs x.words x.tensor (result_shape x)))

length_put : (words : List ℕ) (at w : ℕ) → length (slice_set words at w) ≡ length words
length_put words at w = length-set words at w

put_behind : (x : Workspace) (v : ℕ) (a : Assignment) (w : ℕ) → IsPrepared x → IsSlotAt x.places.space x.places.tree x.places.fusion v a
    → IsSameBehind x (slice_set x.words (slot_word (slot_at x.places.slots v) a) w)
put_behind x v a w is h =
    let low : slot_word (slot_at x.places.slots v) a < memory x.places.space x.places.tree x.places.fusion =
    (slots_lead_to_places x.places.space x.places.tree x.places.fusion x.places.slots is.laid).below v a h in
    record {
      same_length = length_put x.words (slot_word (slot_at x.places.slots v) a) w;
      same = λ p le. get_or-set_other x.words (slot_word (slot_at x.places.slots v) a) p w 0 (λ e. absurd (omega (arith, low, le, e)));
    }

-- a word that is put at the place of an inner node
pub record IsPutBy (x y : Workspace) (v : ℕ) (a : Assignment) (w : ℕ) : Type 0 where
  pub kept : IsKept x y
  pub changed : IsChanged (λ state. with_word state v (coordinates (kept_dims x.places.tree x.places.fusion v) a) w) 0 x y

pub slot_put : (x : Workspace) (v : ℕ) (a : Assignment) (w : ℕ) → IsPrepared x → IsSlotAt x.places.space x.places.tree x.places.fusion v a
    → IsPutBy x (with_words x (slice_set x.words (slot_word (slot_at x.places.slots v) a) w)) v a w
slot_put x v a w is h =
    let low : slot_word (slot_at x.places.slots v) a < memory x.places.space x.places.tree x.places.fusion =
    (slots_lead_to_places x.places.space x.places.tree x.places.fusion x.places.slots is.laid).below v a h in
    let room : slot_word (slot_at x.places.slots v) a < length x.words = omega (arith, low, is.before, is.room) in
    record {
      kept = slots_keep x (slice_set x.words (slot_word (slot_at x.places.slots v) a) w) (put_behind x v a w is h);
      changed = slots_change x (slice_set x.words (slot_word (slot_at x.places.slots v) a) w)
          (λ state. with_word state v (coordinates (kept_dims x.places.tree x.places.fusion v) a) w) is (put_behind x v a w is h)
          (λ cell. puts_change_one_place x.places x.words cell v a w is.laid h room);
    }

-- ---- words of the result's tiles

-- the tile of the root's place is held, and marked
pub record IsRootHeld (x : Workspace) (a : Assignment) (h : Held) : Type 0 where
  pub found : look_up x.cache.held x.tensor (tile_number (result_shape x) (map a x.places.result)) ≡ Some h
  pub marked : h.marked ≡ true

abbrev place_of_root : Workspace → Assignment → Held → ℕ
place_of_root x a h = place (layout x.cache) h.frame + place_in_tile (result_shape x) (map a x.places.result)

pub tile_put : (x : Workspace) (a : Assignment) (h : Held) (w : ℕ) → 0 < operations x.places.tree → IsPrepared x → IsPlaceOf x (root x.places) a → IsRootHeld x a h
    → IsPutBy x (with_words x (slice_set x.words (place_of_root x a h) w)) (root x.places) a w
tile_put x a h w some is inside held = record {
  kept = record {
    places = refl;
    tensor = refl;
    cache = refl;
    same_length = length_put x.words (place_of_root x a h) w;
    outside = λ p low out. get_or-set_other x.words (place_of_root x a h) p w 0 (λ e. in_frames p out e);
    files = record { tells = refl; begins = λ name. refl; same = λ name ne fs told gs now. cc };
  };
  changed = record {
    prepared = prepared_with x (slice_set x.words (place_of_root x a h) w) is (length_put x.words (place_of_root x a h) w) (λ fs told. (put fs told).ready);
    state = by_files x.files (λ fs told. (put fs told).state);
    few = omega arith;
    continued = fronts_stay x (slice_set x.words (place_of_root x a h) w) (λ fs told tile k pad. padding_stays fs tile k pad);
  };
}
  where
    tile : ℕ
    tile = tile_number (result_shape x) (map a x.places.result)

    k₀ : ℕ
    k₀ = place_in_tile (result_shape x) (map a x.places.result)

    element : IsInside (result_shape x).extents (map a x.places.result)
    element = root_inside x a is inside

    short : k₀ < tile_words (result_shape x)
    short = place_in_tile-lt (result_shape x) (map a x.places.result) is.tiling.same_rank is.tiling.positive element

    fitting : tile_words (result_shape x) ≤ x.cache.frame_words
    fitting = tile_fits x.cache x.tensor (result_shape x) is.cache is.result.array

    low_frame : h.frame < x.cache.frames
    low_frame = below_found x.cache.frames x.cache.held x.tensor tile h is.cache.apart held.found

    in_frames : (p : ℕ) → (p < x.cache.at) ⊎ (x.cache.at + x.cache.frames * x.cache.frame_words ≤ p) → p ≡ place_of_root x a h → ⊥
    in_frames p out e =
        let within = frame_inside x.cache h.frame low_frame in
        elim out [ inl l ↦ omega (arith, l, e) | inr l ↦ omega (arith, l, e, within, short, fitting) ]

    put : (fs : Files) → x.files ≡ Some fs
        → ChangesRootPlace x.places x.cache fs x.words (slice_set x.words (place_of_root x a h) w) x.tensor (result_shape x) a w
    put fs told =
        tile_puts_change_one_place x.places x.cache fs x.words x.tensor (result_shape x) a h w is.laid some (is_result x is) is.tiling inside.inside
        is.cache (is.ready fs told) is.room is.before is.result.array held.found held.marked

    by_files : (o : Option Files)
        → ((fs : Files) → o ≡ Some fs → state_of x.places (slice_set x.words (place_of_root x a h) w) (current_cell x.cache fs (slice_set x.words (place_of_root x a h) w) x.tensor (result_shape x))
        ≡ with_word (state_of x.places x.words (current_cell x.cache fs x.words x.tensor (result_shape x))) (root x.places) (coordinates (root_dims x.places) a) w)
        → option_map (λ fs. state_of x.places (slice_set x.words (place_of_root x a h) w) (current_cell x.cache fs (slice_set x.words (place_of_root x a h) w) x.tensor (result_shape x))) o
        ≡ option_map (λ state. with_word state (root x.places) (coordinates (root_dims x.places) a) w)
        (option_map (λ fs. state_of x.places x.words (current_cell x.cache fs x.words x.tensor (result_shape x))) o)
    by_files None each = refl
    by_files (Some fs) each = ap (λ s. Some s) (each fs refl)

    padding_stays : (fs : Files) (t k : ℕ) → IsPadding x t k
        → current_word x.cache fs (slice_set x.words (place_of_root x a h) w) x.tensor t k ≡ current_word x.cache fs x.words x.tensor t k
    padding_stays fs t k pad =
        put_other (stored x.cache fs) (layout x.cache) x.cache.held x.words x.tensor tile k₀ w h is.cache.apart held.found (omega (arith, short, fitting))
        x.tensor t k (omega (arith, pad.0, fitting)) (λ b u j. pad.1 (map a x.places.result) element (sym u) (sym j))

-- a tile that was touched for writing is held, and marked
or_true : (b : Bool) → (b || true) ≡ true
or_true true = refl
or_true false = refl

marked_then : (old new : CacheState) (array tile answer : ℕ) (is : IsTouched old new array tile true answer) → is.marked ≡ true
marked_then old new array tile answer is = by_look_up (look_up old.held array tile) refl
  where
    by_look_up : (o : Option Held) → look_up old.held array tile ≡ o → is.marked ≡ true
    by_look_up None e = is.was_not e
    by_look_up (Some h) e = (is.was_held h e).1 ∙ or_true h.marked

in_front : (frames : ℕ) (held : List Held) (h : Held) → 3 ≤ frames → look_up (touched frames held h) h.array h.tile ≡ Some h
in_front zero held h some = absurd (omega arith)
in_front (suc n) held h some = tests h.array h.tile h (Some h) (look_up (take n (without h.array h.tile held)) h.array h.tile) refl refl

-- the result's element that was touched for writing
pub root_held : (x : Workspace) (new : CacheState) (a : Assignment) (at : ℕ) → IsPrepared x
    → IsArrayAt x.cache.arrays x.tensor (λ r. IsElementTouched x.cache new x.tensor r.shape (map a x.places.result) true at)
    → (h : Held) × (look_up new.held x.tensor (tile_number (result_shape x) (map a x.places.result)) ≡ Some h) × (h.marked ≡ true)
    × (at ≡ place (layout x.cache) h.frame + place_in_tile (result_shape x) (map a x.places.result))
root_held x new a at is touched_at = by_array (slice_get x.cache.arrays x.tensor) is.result.array touched_at
  where
    here : IsElementTouched x.cache new x.tensor (result_shape x) (map a x.places.result) true at
        → (h : Held) × (look_up new.held x.tensor (tile_number (result_shape x) (map a x.places.result)) ≡ Some h) × (h.marked ≡ true)
        × (at ≡ place (layout x.cache) h.frame + place_in_tile (result_shape x) (map a x.places.result))
    here t =
        let tile : ℕ = tile_number (result_shape x) (map a x.places.result) in
        let h : Held = record { array = x.tensor; tile = tile; frame = t.touched.frame; marked = t.touched.marked } in (
          h,
          ap (λ (c : CacheState). look_up c.held x.tensor tile) t.touched.state ∙ in_front x.cache.frames x.cache.held h is.cache.frames,
          marked_then x.cache new x.tensor tile t.first t.touched,
          t.at_is ∙ ap (λ n. n + place_in_tile (result_shape x) (map a x.places.result)) t.touched.answer_is,
        )

    by_array : (o : Option ArrayRef) → IsSomeAnd o (λ r. r.shape ≡ result_shape x)
        → IsSomeAnd o (λ r. IsElementTouched x.cache new x.tensor r.shape (map a x.places.result) true at)
        → (h : Held) × (look_up new.held x.tensor (tile_number (result_shape x) (map a x.places.result)) ≡ Some h) × (h.marked ≡ true)
        × (at ≡ place (layout x.cache) h.frame + place_in_tile (result_shape x) (map a x.places.result))
    by_array None e t = absurd e
    by_array (Some r) e t = here (subst (λ s. IsElementTouched x.cache new x.tensor s (map a x.places.result) true at) e t)

-- a word that is put at the place of the result's element, whose tile was touched for writing
pub root_put : (x : Workspace) (words new : List ℕ) (held : List Held) (files : Option Files) (a : Assignment) (at w : ℕ)
    → 0 < operations x.places.tree → IsPlaceOf x (root x.places) a → IsPrepared x
    → IsKept x (touched_to x words held (x.cache.touches + 1) files) → IsRead 1 x (touched_to x words held (x.cache.touches + 1) files)
    → IsArrayAt x.cache.arrays x.tensor (λ r. IsElementTouched x.cache (with_held x.cache held (x.cache.touches + 1)) x.tensor r.shape (map a x.places.result) true at)
    → new ≡ slice_set words at w
    → IsKept x (touched_to x new held (x.cache.touches + 1) files)
    × IsChanged (λ state. with_word state (root x.places) (coordinates (root_dims x.places) a) w) 1 x (touched_to x new held (x.cache.touches + 1) files)
root_put x words new held files a at w some inside is kept read touched_at put =
    let h = root_held x (with_held x.cache held (x.cache.touches + 1)) a at is touched_at in
    let y : Workspace = touched_to x words held (x.cache.touches + 1) files in
    let by = tile_put y a h.0 w some read.prepared (record { known = inside.known; inside = inside.inside }) (record { found = h.1; marked = h.2 }) in
    let same : slice_set words (place (layout x.cache) h.0.frame + place_in_tile (result_shape x) (map a x.places.result)) w ≡ new =
    ap (λ n. slice_set words n w) (sym h.3) ∙ sym put in (
      kept_on x y (touched_to x new held (x.cache.touches + 1) files) kept (subst (λ l. IsKept y (with_words y l)) same by.kept),
      change_on 1 0 1 (λ state. with_word state (root x.places) (coordinates (root_dims x.places) a) w) x y (touched_to x new held (x.cache.touches + 1) files) (omega arith) kept read
          (subst (λ l. IsChanged (λ state. with_word state (root x.places) (coordinates (root_dims x.places) a) w) 0 y (with_words y l)) same by.changed),
    )

-- the same, where the cache is named
pub root_put_by : (x : Workspace) (words new : List ℕ) (c : CacheState) (files : Option Files) (a : Assignment) (at w : ℕ)
    → 0 < operations x.places.tree → IsPlaceOf x (root x.places) a → IsPrepared x → c ≡ with_held x.cache c.held (x.cache.touches + 1)
    → KeepsArrays x.cache c x.files files x.words words → IsCache c → IsSameOutsideFrames x.cache x.words words → OnlyWritableDiffers x.cache x.files files
    → IsArrayAt x.cache.arrays x.tensor (λ r. IsElementTouched x.cache c x.tensor r.shape (map a x.places.result) true at)
    → new ≡ slice_set words at w
    → IsKept x (record x { words = new; cache = c; files = files })
    × IsChanged (λ state. with_word state (root x.places) (coordinates (root_dims x.places) a) w) 1 x (record x { words = new; cache = c; files = files })
root_put_by x words new c files a at w some inside is same arrays cache outside only touched_at put =
    subst (λ d. IsKept x (record x { words = new; cache = d; files = files })
    × IsChanged (λ state. with_word state (root x.places) (coordinates (root_dims x.places) a) w) 1 x (record x { words = new; cache = d; files = files })) (sym same)
    (root_put x words new c.held files a at w some inside is
    (touch_keeps x words c.held (x.cache.touches + 1) files outside only)
    (touch_reads x words c.held files is (subst (λ d. KeepsArrays x.cache d x.files files x.words words) same arrays) (subst IsCache same cache) outside only)
    (subst (λ d. IsArrayAt x.cache.arrays x.tensor (λ r. IsElementTouched x.cache d x.tensor r.shape (map a x.places.result) true at)) same touched_at) put)

-- ---- a slot that is cleared

in_slot : (space : IndexSpace) (tree : ContractionTree) (fusion : List ℕ) (slots : List Slot) (v : ℕ) → IsLayout space tree fusion slots → v + 1 < operations tree
    → (slot_at slots v).offset + (slot_at slots v).size ≤ memory space tree fusion
unfolding memory
in_slot space tree fusion slots v laid inner =
    omega (arith, slot_ends space tree fusion slots laid v inner, before_le space tree fusion (v + 1) (operations tree - 1) (omega arith))

pub slot_room : (space : IndexSpace) (tree : ContractionTree) (fusion : List ℕ) (slots : List Slot) (slot : Slot) (v n : ℕ) → IsLayout space tree fusion slots → v + 1 < operations tree
    → memory space tree fusion ≤ n → slot ≡ slot_at slots v → slot.offset + slot.size ≤ n
slot_room space tree fusion slots slot v n laid inner room same =
    omega (arith, room, in_slot space tree fusion slots v laid inner, ap (λ (s : Slot). s.offset + s.size) same)

zeros_run : (old : List ℕ) (first n : ℕ) → first + n ≤ length old → IsRun (λ t. 0) first 1 n old (with_part old first (replicate n 0))
zeros_run old first n room = run_of_part (λ t. 0) first 1 n old (replicate n 0) refl (length-replicate n 0) room (λ t lt. get_or-replicate n t 0 0 lt)

zero_in : (old new : List ℕ) (first n q : ℕ) → IsRun (λ t. 0) first 1 n old new → first ≤ q → q < first + n → slice_index new q ≡ 0
zero_in old new first n q run le lt =
    let at : first + (q - first) * 1 ≡ q = omega (arith, le) in
    ap (slice_index new) (sym at) ∙ run.made (q - first) (omega arith)

same_out : (old new : List ℕ) (first n q : ℕ) → IsRun (λ t. 0) first 1 n old new → (q < first) ⊎ (first + n ≤ q) → slice_index new q ≡ slice_index old q
same_out old new first n q run out =
    run.others q (λ s lt e. elim out [ inl l ↦ omega (arith, l, e, lt) | inr l ↦ omega (arith, l, e, lt) ])

-- a slot whose words became 0
pub record IsClearedBy (x y : Workspace) (v : ℕ) : Type 0 where
  pub kept : IsKept x y
  pub changed : IsPrepared x → IsChanged (λ state. cleared state v) 0 x y

pub slot_cleared : (x : Workspace) (slot : Slot) (v : ℕ) (new : List ℕ) → IsLayout x.places.space x.places.tree x.places.fusion x.places.slots → v + 1 < operations x.places.tree
    → memory x.places.space x.places.tree x.places.fusion ≤ length x.words → slot ≡ slot_at x.places.slots v → new ≡ with_part x.words slot.offset (replicate slot.size 0)
    → IsClearedBy x (with_words x new) v
slot_cleared x slot v new laid inner room same is = record {
  kept = slots_keep x new behind;
  changed = λ ready. slots_change x new (λ state. cleared state v) ready behind (λ cell. cleared_slots_are_cleared x.places x.words new cell v laid inner
      (λ q le lt. zero_in x.words new (slot_at x.places.slots v).offset (slot_at x.places.slots v).size q run le lt)
      (λ q out. same_out x.words new (slot_at x.places.slots v).offset (slot_at x.places.slots v).size q run out));
}
  where
    within : (slot_at x.places.slots v).offset + (slot_at x.places.slots v).size ≤ memory x.places.space x.places.tree x.places.fusion
    within = in_slot x.places.space x.places.tree x.places.fusion x.places.slots v laid inner

    run : IsRun (λ t. 0) (slot_at x.places.slots v).offset 1 (slot_at x.places.slots v).size x.words new
    run =
        subst (IsRun (λ t. 0) (slot_at x.places.slots v).offset 1 (slot_at x.places.slots v).size x.words)
        (sym (is ∙ ap (λ (s : Slot). with_part x.words s.offset (replicate s.size 0)) same))
        (zeros_run x.words (slot_at x.places.slots v).offset (slot_at x.places.slots v).size (omega (arith, within, room)))

    behind : IsSameBehind x new
    behind = record {
      same_length = run.same_length;
      same = λ p le. same_out x.words new (slot_at x.places.slots v).offset (slot_at x.places.slots v).size p run (inr (omega (arith, within, le)));
    }

-- the same as of a slot's word, where the words are named
pub slot_put_by : (x : Workspace) (new : List ℕ) (v : ℕ) (a : Assignment) (at w : ℕ) → IsPrepared x → v + 1 < operations x.places.tree → IsPlaceOf x v a
    → at ≡ slot_word (slot_at x.places.slots v) a → new ≡ slice_set x.words at w
    → IsKept x (with_words x new) × IsChanged (λ state. with_word state v (coordinates (kept_dims x.places.tree x.places.fusion v) a) w) 1 x (with_words x new)
slot_put_by x new v a at w is inner h at_is put =
    let by = slot_put x v a w is (slot_of x v a inner h) in
    let same : slice_set x.words (slot_word (slot_at x.places.slots v) a) w ≡ new = ap (λ n. slice_set x.words n w) (sym at_is) ∙ sym put in (
      subst (λ l. IsKept x (with_words x l)) same by.kept,
      change_on 1 0 1 (λ state. with_word state v (coordinates (kept_dims x.places.tree x.places.fusion v) a) w) x x (with_words x new) (omega arith) (kept_own x) (read_own 1 x is)
          (subst (λ l. IsChanged (λ state. with_word state v (coordinates (kept_dims x.places.tree x.places.fusion v) a) w) 0 x (with_words x l)) same by.changed),
    )
