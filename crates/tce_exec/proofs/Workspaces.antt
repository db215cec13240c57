-- What touches leave of a workspace.
use Rattle.std.proofs.Common.{◌≡◌, ℕ, ◌+◌, ◌<◌, Bool, true, false, if◌then◌else◌, List, [], slice_get, Option, Some, None, is_some, unwrap_or, refl, sym, ap, ◌∙◌, subst, arith}
use mathlib.Core.Path.{fun_ext}
use Rattle.std.specs.Option.{IsSomeAnd, option_map}
use Rattle.std.proofs.lemmas.Bool.{true≢false}
use Rattle.tce_outside.specs.Files.{Files, file}
use Rattle.tce_space.specs.Tiling.{word_number}
use Rattle.tce_array.specs.Forms.{word_at}
use Rattle.tce_cache.specs.Held.{Held}
use Rattle.tce_cache.specs.declared.array.ArrayRef.{ArrayRef}
use Rattle.tce_cache.specs.Cache.{State as CacheState, IsCache, IsReady, IsArrayAt, AreArrays, IsSameOutsideFrames, OnlyWritableDiffers}
use Rattle.tce_array.specs.Files.{AreBytes}
use Rattle.tce_cache.specs.Transfer.{HasFile, contents}
use Rattle.tce_cache.specs.Touch.{KeepsArrays, front, with_held}
use Rattle.tce_cache.proofs.Steps.{front_has}
use Rattle.tce_code.specs.Execution.{Setting}
use Rattle.tce_tree.specs.ContractionTree.{ContractionTree, leaf, constant, binary, sum}
use Rattle.tce_exec.specs.NodeStates.{IsResult, state_of, current_cell}
use Rattle.tce_exec.proofs.States.{touches_keep_states, words_are}
use Rattle.tce_exec.specs.Workspace.{Workspace, filed_element, element_of, setting_in, state_in, result_shape}
use Rattle.tce_exec.specs.Prepared.{IsStored, HasOperands, IsPrepared}
use Rattle.tce_exec.specs.Steps.{IsKept, IsContinued, IsRead}
use Rattle.tce_exec.specs.Following.{touched_to}

-- ---- the elements of operands stay

file_stays : (c : CacheState) (i : ℕ) (a : ArrayRef) (before after : Option Files) (fs gs : Files) → AreArrays c.arrays c.frame_words → OnlyWritableDiffers c before after
    → slice_get c.arrays i ≡ Some a → a.writable ≡ false → before ≡ Some fs → after ≡ Some gs → file gs a.file.bytes ≡ file fs a.file.bytes
file_stays c i a before after fs gs are only at unwritten told now =
    only.same a.file.bytes
    (λ j b there writable e. true≢false (sym writable ∙ ap (λ (x : ArrayRef). x.writable) (one j b there e) ∙ unwritten))
    fs told gs now
  where
    one : (j : ℕ) (b : ArrayRef) → slice_get c.arrays j ≡ Some b → b.file.bytes ≡ a.file.bytes → b ≡ a
    one j b there e =
        let both : Some b ≡ Some a = sym there ∙ ap (slice_get c.arrays) (are.different j i b a there at e) ∙ at in
        cc

chosen : (b : Bool) (x y : ℕ) → (b ≡ false → x ≡ y) → (if b then 0 else x) ≡ (if b then 0 else y)
chosen true x y h = refl
chosen false x y h = h refl

element_stays : (c : CacheState) (before after : Option Files) → AreArrays c.arrays c.frame_words → OnlyWritableDiffers c before after
    → (tensor : ℕ) (xs : List ℕ) → element_of c after tensor xs ≡ element_of c before tensor xs
element_stays c None None are only tensor xs = refl
element_stays c (Some fs) None are only tensor xs = absurd (true≢false (sym only.tells))
element_stays c None (Some gs) are only tensor xs = absurd (true≢false only.tells)
element_stays c (Some fs) (Some gs) are only tensor xs = by_array (slice_get c.arrays tensor) refl
  where
    by_array : (o : Option ArrayRef) → slice_get c.arrays tensor ≡ o → filed_element o gs xs ≡ filed_element o fs xs
    by_array None e = refl
    by_array (Some a) e =
        chosen a.writable _ _ (λ unwritten.
        ap (λ o. word_at a.form a.shape (unwrap_or o []) (word_number a.shape xs)) (file_stays c tensor a (Some fs) (Some gs) fs gs are only e unwritten refl refl))

abbrev with_cell : Workspace → (ℕ → List ℕ → ℕ) → Setting
with_cell x cell = record (setting_in x) { elements = record (setting_in x).elements { cell = cell } }

-- the setting stays in every outcome
pub kept_setting : (x y : Workspace) → IsCache x.cache → IsKept x y → setting_in y ≡ setting_in x
kept_setting x y is kept =
    ap (λ c. setting_in (record y { cache = c })) kept.cache
    ∙ ap (λ p. setting_in (record y { cache = with_held x.cache y.cache.held y.cache.touches; places = p })) kept.places
    ∙ ap (with_cell x) (fun_ext (λ tensor. fun_ext (λ xs. element_stays x.cache x.files y.files is.arrays kept.files tensor xs)))

-- ---- what a touch leaves

pub touch_keeps : (x : Workspace) (words : List ℕ) (held : List Held) (touches : ℕ) (files : Option Files) → IsSameOutsideFrames x.cache x.words words
    → OnlyWritableDiffers x.cache x.files files → IsKept x (touched_to x words held touches files)
touch_keeps x words held touches files outside only = record {
  places = refl;
  tensor = refl;
  cache = refl;
  same_length = outside.same_length;
  outside = λ p low out. outside.same p out;
  files = only;
}

stays_stored : (x : Workspace) (words : List ℕ) (held : List Held) (touches : ℕ) (files : Option Files) → is_some files ≡ is_some x.files
    → KeepsArrays x.cache (with_held x.cache held touches) x.files files x.words words
    → (tensor : ℕ) (indexes : List ℕ) → IsStored x tensor indexes → IsStored (touched_to x words held touches files) tensor indexes
stays_stored x words held touches files tells same tensor indexes is = record {
  array = is.array;
  file = λ gs now. by_files x.files refl gs now;
}
  where
    by_array : (fs gs : Files) (o : Option ArrayRef) → slice_get x.cache.arrays tensor ≡ o
        → ((i : ℕ) (a : ArrayRef) → slice_get x.cache.arrays i ≡ Some a → option_map (front a) (file gs a.file.bytes) ≡ option_map (front a) (file fs a.file.bytes))
        → IsSomeAnd o (λ a. HasFile a fs) → IsSomeAnd o (λ a. HasFile a gs)
    by_array fs gs None at fronts h = absurd h
    by_array fs gs (Some a) at fronts h = front_has a (file fs a.file.bytes) (file gs a.file.bytes) (fronts tensor a at) h

    by_files : (o : Option Files) → x.files ≡ o → (gs : Files) → files ≡ Some gs → IsArrayAt x.cache.arrays tensor (λ a. HasFile a gs)
    by_files None told gs now = absurd (true≢false (sym (ap is_some now) ∙ tells ∙ ap is_some told))
    by_files (Some fs) told gs now = by_array fs gs (slice_get x.cache.arrays tensor) refl (same fs told gs now).fronts (is.file fs told)

pub stay_operands : (x y : Workspace) → y.tensor ≡ x.tensor → ((tensor : ℕ) (indexes : List ℕ) → IsStored x tensor indexes → IsStored y tensor indexes)
    → (tree : ContractionTree) → HasOperands x tree → HasOperands y tree
stay_operands x y same h (leaf tensor indexes) is = record { stored = h tensor indexes is.stored; other = λ e. is.other (e ∙ same) }
stay_operands x y same h (constant number) is = tt
stay_operands x y same h (binary op left right) is = (stay_operands x y same h left is.0, stay_operands x y same h right is.1)
stay_operands x y same h (sum indexes operand) is = stay_operands x y same h operand is

pub touch_prepares : (x : Workspace) (words : List ℕ) (held : List Held) (touches : ℕ) (files : Option Files) → IsPrepared x
    → KeepsArrays x.cache (with_held x.cache held touches) x.files files x.words words → IsCache (with_held x.cache held touches)
    → IsSameOutsideFrames x.cache x.words words → is_some files ≡ is_some x.files → IsPrepared (touched_to x words held touches files)
touch_prepares x words held touches files is same cache outside tells = record {
  measured = is.measured;
  fits = is.fits;
  laid = is.laid;
  root = is.root;
  tiling = is.tiling;
  result = stays_stored x words held touches files tells same x.tensor x.places.result is.result;
  writable = is.writable;
  operands = stay_operands x (touched_to x words held touches files) refl (stays_stored x words held touches files tells same) x.places.tree is.operands;
  before = is.before;
  room = omega (arith, is.room, outside.same_length);
  cache = cache;
  ready = λ gs now. by_files x.files refl gs now;
  bytes = λ gs now. bytes_by_files x.files refl gs now;
}
  where
    by_files : (o : Option Files) → x.files ≡ o → (gs : Files) → files ≡ Some gs → IsReady (with_held x.cache held touches) gs words
    by_files None told gs now = absurd (true≢false (sym (ap is_some now) ∙ tells ∙ ap is_some told))
    by_files (Some fs) told gs now = (same fs told gs now).ready

    stay_bytes : (fs gs : Files) (o : Option ArrayRef) → slice_get x.cache.arrays x.tensor ≡ o
        → ((i : ℕ) (a : ArrayRef) → slice_get x.cache.arrays i ≡ Some a → AreBytes (contents a fs) → AreBytes (contents a gs))
        → IsSomeAnd o (λ a. AreBytes (contents a fs)) → IsSomeAnd o (λ a. AreBytes (contents a gs))
    stay_bytes fs gs None at stay h = h
    stay_bytes fs gs (Some a) at stay h = stay x.tensor a at h

    bytes_by_files : (o : Option Files) → x.files ≡ o → (gs : Files) → files ≡ Some gs → IsArrayAt x.cache.arrays x.tensor (λ a. AreBytes (contents a gs))
    bytes_by_files None told gs now = absurd (true≢false (sym (ap is_some now) ∙ tells ∙ ap is_some told))
    bytes_by_files (Some fs) told gs now = stay_bytes fs gs (slice_get x.cache.arrays x.tensor) refl (same fs told gs now).bytes (is.bytes fs told)

-- the result's indexes are the root's dims
pub is_result : (x : Workspace) → IsPrepared x → IsResult x.places (result_shape x)
is_result x is = record { indexes = is.root; extents = refl }

touch_state : (x : Workspace) (words : List ℕ) (held : List Held) (touches : ℕ) (files : Option Files) → IsPrepared x
    → KeepsArrays x.cache (with_held x.cache held touches) x.files files x.words words
    → IsSameOutsideFrames x.cache x.words words → is_some files ≡ is_some x.files → state_in (touched_to x words held touches files) ≡ state_in x
touch_state x words held touches files is same outside tells = by_files x.files files refl refl tells
  where
    by_files : (o p : Option Files) → x.files ≡ o → files ≡ p → is_some p ≡ is_some o
        → option_map (λ gs. state_of x.places words (current_cell (with_held x.cache held touches) gs words x.tensor (result_shape x))) p
        ≡ option_map (λ fs. state_of x.places x.words (current_cell x.cache fs x.words x.tensor (result_shape x))) o
    by_files None None told now t = refl
    by_files None (Some gs) told now t = absurd (true≢false t)
    by_files (Some fs) None told now t = absurd (true≢false (sym t))
    by_files (Some fs) (Some gs) told now t =
        ap (λ s. Some s) (touches_keep_states x.places x.cache held touches fs gs x.words words x.tensor (result_shape x)
        is.laid (is_result x is) is.tiling is.before is.result.array (same fs told gs now) outside)

touch_continues : (x : Workspace) (words : List ℕ) (held : List Held) (touches : ℕ) (files : Option Files) → IsPrepared x
    → KeepsArrays x.cache (with_held x.cache held touches) x.files files x.words words → IsContinued x (touched_to x words held touches files)
touch_continues x words held touches files is same = record {
  fronts = λ fs told gs now. (same fs told gs now).fronts;
  bytes = λ fs told gs now. (same fs told gs now).bytes;
  padding = λ fs told gs now tile k pad. (same fs told gs now).kept.current x.tensor tile k (subst (λ n. k < n) (sym (words_are x.cache x.tensor (result_shape x) is.result.array)) pad.0);
}

pub touch_reads : (x : Workspace) (words : List ℕ) (held : List Held) (files : Option Files) → IsPrepared x
    → KeepsArrays x.cache (with_held x.cache held (x.cache.touches + 1)) x.files files x.words words → IsCache (with_held x.cache held (x.cache.touches + 1))
    → IsSameOutsideFrames x.cache x.words words → OnlyWritableDiffers x.cache x.files files → IsRead 1 x (touched_to x words held (x.cache.touches + 1) files)
touch_reads x words held files is same cache outside only = record {
  prepared = touch_prepares x words held (x.cache.touches + 1) files is same cache outside only.tells;
  state = touch_state x words held (x.cache.touches + 1) files is same outside only.tells;
  few = omega arith;
  continued = touch_continues x words held (x.cache.touches + 1) files is same;
}

-- the same, where the cache is named
pub touched_reads : (x : Workspace) (words : List ℕ) (c : CacheState) (files : Option Files) → IsPrepared x → c ≡ with_held x.cache c.held (x.cache.touches + 1)
    → KeepsArrays x.cache c x.files files x.words words → IsCache c → IsSameOutsideFrames x.cache x.words words → OnlyWritableDiffers x.cache x.files files
    → IsRead 1 x (record x { words = words; cache = c; files = files })
touched_reads x words c files is same arrays cache outside only =
    subst (λ d. IsRead 1 x (record x { words = words; cache = d; files = files })) (sym same)
    (touch_reads x words c.held files is (subst (λ d. KeepsArrays x.cache d x.files files x.words words) same arrays) (subst IsCache same cache) outside only)

pub touched_keeps : (x : Workspace) (words : List ℕ) (c : CacheState) (files : Option Files) → c ≡ with_held x.cache c.held (x.cache.touches + 1)
    → IsSameOutsideFrames x.cache x.words words → OnlyWritableDiffers x.cache x.files files → IsKept x (record x { words = words; cache = c; files = files })
touched_keeps x words c files same outside only =
    subst (λ d. IsKept x (record x { words = words; cache = d; files = files })) (sym same) (touch_keeps x words c.held (x.cache.touches + 1) files outside only)
