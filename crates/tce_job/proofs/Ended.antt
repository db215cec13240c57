-- What the run of the code and the flush leave.
use Rattle.std.proofs.Common.{◌≡◌, ◌≢◌, ◌++◌, ℕ, Bool, ◌+◌, ◌*◌, ◌<◌, true, false, List, [], length, slice_get, Option, Some, None, is_some, unwrap_or, if◌then◌else◌, refl, sym, ap, ◌∙◌, subst}
use Rattle.std.specs.Option.{ForSome, IsSomeAnd, option_map}
use Rattle.std.specs.FinMap.{same_map, get-remove, slice_cmp-IsAntisymmetric, nat_cmp-IsAntisymmetric}
use Rattle.std.proofs.lemmas.Cmp.{nat_list_cmp_total}
use Rattle.std.proofs.Common.{cond, ◌⊎◌, inl, inr, take, drop, ◌≤◌, ap₂, arith, IfSome, slice_index, replicate}
use Rattle.std.proofs.lemmas.Option.{none-some}
use Rattle.std.proofs.lemmas.Bool.{true≢false, false≢true}
use Rattle.tce_outside.specs.Files.{Files, file, with_file, without_file, with_part, overwritten, others, holding, written, bytes_before, bytes_from, IsKeptOrZeros}
use Rattle.tce_outside.proofs.Files.{without_file-with_file, file-with_file}
use Rattle.tce_outside.proofs.Told.{other_files, disks_tell}
use Rattle.tce_cache.proofs.Tiles.{told_from}
use Rattle.std.proofs.Math.Seq.{drop-append_seam}
use Rattle.tce_outside.proofs.Places.{tied, same_name}
use Rattle.tce_space.specs.Box.{IsInside}
use Rattle.tce_space.specs.Space.{IndexSpace, extent_at}
use Rattle.tce_space.specs.Tiling.{Tiling, tile_words, tiles, tile_number, place_in_tile, word_number}
use Rattle.tce_array.specs.declared.form.Form.TheVariants.{One}
use Rattle.tce_array.specs.Forms.{form_len, head, head_len}
use Rattle.tce_array.specs.Files.{AreBytes, IsPadding, LeavesNoHalf, BeginsWithZeros}
use Rattle.tce_array.proofs.Heads.{begins_still, with_head, zeros_at, zeros_begin}
use Rattle.tce_array.proofs.Contents.{length-head}
use Rattle.tce_array.proofs.MadeFiles.{with_file-with_file}
use Rattle.tce_cache.specs.declared.array.ArrayRef.{ArrayRef}
use Rattle.tce_cache.specs.Cache.{State as CacheState, OnlyWritableDiffers, word_of_tile}
use Rattle.tce_cache.specs.Transfer.{contents, word_in_file}
use Rattle.tce_cache.specs.Touch.{AreWritten, KeepsArrays}
use Rattle.tce_cache.proofs.Steps.{front_has}
use Rattle.tce_tree.specs.ContractionTree.{ContractionTree}
use Rattle.tce_tree.specs.Value.{value, assignment}
use Rattle.tce_spec.specs.Contraction.{has_tensor}
use Rattle.tce_spec.specs.Specification.{Specification, IsSpecification}
use Rattle.tce_spec.specs.Operands.{shape_of}
use Rattle.tce_exec.specs.NodeStates.{current_cell}
use Rattle.tce_exec.specs.Workspace.{Workspace, shape_over, setting_in, element_of, filed_element}
use Rattle.tce_exec.specs.Steps.{IsKept}
use Rattle.tce_exec.specs.Run.{IsRun, HasValues}
use Rattle.tce_job.specs.TensorFiles.{file_of, bytes_in, elements}
use Rattle.tce_job.specs.ResultBytes.{result_element, result_bytes, with_result}
use Rattle.tce_job.proofs.Results.{result_before}
use Rattle.tce_job.proofs.Agreement.{same_values}
use Rattle.tce_job.specs.Arrays.{AreArraysOf, IsResultArray, IsOperandArray}
use Rattle.tce_job.specs.Finished.{IsFinished, IsFlushed}
use Rattle.tce_job.specs.Laws.{made_result, IsOperand, LeavesNoHalfResult}
use Rattle.tce_job.proofs.Operands.{is_operand}
use Rattle.tce_spec.proofs.Seen.{operand_declared}
use Rattle.tce_job.proofs.ResultMade.{made_zero}
use Rattle.tce_job.proofs.Reading.{read}
use Rattle.tce_job.proofs.Flushed.{flushed, whole}
use Rattle.tce_job.specs.declared.prepared.Prepared.{Prepared}
use Rattle.tce_job.specs.Run.{IsBegun}
use Rattle.tce_job.proofs.Begun.{workspace_at, workspace_with, workspace_for, of_parts, array_of, result_at, result_shape_is}

-- ---- files that keep their fronts

-- a file is the result but for its head
abbrev pub LacksHead : Specification → Files → Option (List ℕ) → Type 0
LacksHead s fs o = IsSomeAnd o (λ found. (length found ≡ form_len One (shape_of s s.result)) × (overwritten found 0 (head One (shape_of s s.result)) ≡ result_bytes s fs))

abbrev pub LackHead : Specification → Option Files → Option Files → Type 0
LackHead s told after = ForSome told (λ fs. ForSome after (λ gs. LacksHead s fs (file gs (file_of s s.result))))

both_hold : (o : Option (List ℕ)) (P Q : List ℕ → Type 0) → IsSomeAnd o P → IsSomeAnd o Q → IsSomeAnd o (λ x. P x × Q x)
both_hold None P Q p q = absurd p
both_hold (Some x) P Q p q = (p, q)

all_bytes : (found : Option (List ℕ)) (P : List ℕ → Type 0) → IsSomeAnd found P → AreBytes (unwrap_or found []) → IsSomeAnd found AreBytes
all_bytes None P h k = absurd h
all_bytes (Some bytes) P h k = k

-- ---- other files

-- only the files of arrays that may be written have this name
abbrev pub IsWrittenName : CacheState → List ℕ → Type 0
IsWrittenName c name = (i : ℕ) (a : ArrayRef) → slice_get c.arrays i ≡ Some a → a.writable ≡ true → a.file.bytes ≡ name

other_name : (c : CacheState) (name q : List ℕ) → IsWrittenName c name → q ≢ name → (i : ℕ) (a : ArrayRef) → slice_get c.arrays i ≡ Some a → a.writable ≡ true → a.file.bytes ≢ q
other_name c name q is differs i a found w same = differs (sym same ∙ is i a found w)

-- a disk tells, or tells nothing
abbrev tells : Option Files → Bool
tells o = is_some o

none_some : (fs : Files) → tells None ≡ tells (Some fs) → ⊥
none_some fs e = false≢true e

some_none : (fs : Files) → tells (Some fs) ≡ tells None → ⊥
some_none fs e = true≢false e

-- so the others stay
pub others_stay : (c : CacheState) (name : List ℕ) (old new : Option Files) → IsWrittenName c name → OnlyWritableDiffers c old new → others name new ≡ others name old
others_stay c name None None is d = refl
others_stay c name (Some fs) None is d = absurd (none_some fs d.tells)
others_stay c name None (Some gs) is d = absurd (some_none gs d.tells)
others_stay c name (Some fs) (Some gs) is d =
    ap Some (same_map nat_list_cmp_total (slice_cmp-IsAntisymmetric nat_cmp-IsAntisymmetric) (without_file gs name) (without_file fs name) (λ q.
    get-remove nat_list_cmp_total gs name q ∙ by_name q (same_name q name) ∙ sym (get-remove nat_list_cmp_total fs name q)))
  where
    by_name : (q : List ℕ) → ((tied q name ≡ true) × (q ≡ name)) ⊎ ((tied q name ≡ false) × (q ≢ name)) → cond (tied q name) None (file gs q) ≡ cond (tied q name) None (file fs q)
    by_name q (inl s) = ap (λ b. cond b None (file gs q)) s.0 ∙ sym (ap (λ b. cond b None (file fs q)) s.0)
    by_name q (inr s) = ap (cond (tied q name) None) (d.same q (other_name c name q is s.1) fs refl gs refl)

-- ---- the result

module _ (s : Specification) (fs : Files) (p : Prepared) (rules : IsSpecification s) (b : IsBegun s (Some fs) p) where
  listed : AreArraysOf s b.forms p.cache.arrays
  listed = b.prepared.cache.arrays

  -- an element of an operand
  element_is : (t : ℕ) (coords : List ℕ) (a : ArrayRef) → has_tensor t s.tree ≡ true → slice_get p.cache.arrays t ≡ Some a
      → element_of p.cache (Some fs) t coords ≡ (elements s (bytes_in fs s)).cell t coords
  element_is t coords a used found =
      let own : IsOperandArray s b.forms t a = listed.operands t a used found in
      ap (λ o. filed_element o fs coords) found
      ∙ ap (λ w. if w then 0 else word_in_file a fs (word_number a.shape coords)) own.writable
      ∙ ap (λ (shape : Tiling). word_in_file a fs (tile_words a.shape * tile_number shape coords + place_in_tile shape coords)) own.shape
      ∙ sym (ap (λ (o : Option ArrayRef). word_of_tile o fs (tile_number (shape_of s t) coords) (place_in_tile (shape_of s t) coords)) found)
      ∙ read fs s b.forms p.cache t a coords listed (b.operands fs refl) used found

  declared_operand : (t : ℕ) → has_tensor t s.tree ≡ true → t < length s.declarations.tensors
  declared_operand t used =
      let at : IsOperand s t = is_operand s t used in
      subst (λ u. u < length s.declarations.tensors) at.is (operand_declared s rules.contraction.leaves_fit at.number at.within)

  elements_agree : (t : ℕ) (coords : List ℕ) → has_tensor t s.tree ≡ true → element_of p.cache (Some fs) t coords ≡ (elements s (bytes_in fs s)).cell t coords
  elements_agree t coords used =
      let at = array_of s (Some fs) p rules b t (declared_operand t used) in
      element_is t coords at.0 used at.1

  value_is : (coords : List ℕ) → value (setting_in (workspace_for s p (Some fs))).elements s.tree (assignment s.indexes coords) ≡ result_element s (bytes_in fs s) coords
  value_is coords =
      same_values (extent_at s.declarations.space) (element_of p.cache (Some fs)) (elements s (bytes_in fs s)).cell s.tree elements_agree (assignment s.indexes coords)

  written_name : IsWrittenName p.cache (file_of s s.result)
  written_name i a found w = listed.files i a found ∙ ap (file_of s) (listed.only i a found w)

  module _ (hs gs : Files) (words : List ℕ) (cache cache2 : CacheState)
      (run : IsRun (workspace_for s p (Some fs)) (workspace_with s p words cache (Some hs)) p.code)
      (kept : IsKept (workspace_for s p (Some fs)) (workspace_with s p words cache (Some hs)))
      (written : AreWritten cache (Some hs) (Some gs) words) (arrays : KeepsArrays cache cache2 (Some hs) (Some gs) words words)
      (other : OnlyWritableDiffers cache (Some hs) (Some gs)) where
    same_arrays : cache.arrays ≡ p.cache.arrays
    same_arrays = ap (λ (c : CacheState). c.arrays) kept.cache

    finished : IsFinished s (bytes_in fs s) cache hs words
    finished =
        let has : HasValues (workspace_with s p words cache (Some hs)) (setting_in (workspace_for s p (Some fs))).elements hs = run.values hs refl in
        let shape : Tiling = shape_over s.declarations.space s.indexes in
        let is : shape_over s.declarations.space s.indexes ≡ shape_of s s.result = result_shape_is s (Some fs) p rules b in
        record {
          values = λ coords inside.
              subst (λ (t : Tiling). current_cell cache hs words s.result t coords ≡ result_element s (bytes_in fs s) coords) is
              (has.values coords (subst (λ (t : Tiling). IsInside t.extents coords) (sym is) inside) ∙ value_is coords);
          padding = λ tile k h l pad.
              has.padding tile k (subst (λ (t : Tiling). tile < tiles t) (sym is) h) (subst (λ (t : Tiling). k < tile_words t) (sym is) l)
              (subst (λ (t : Tiling). IsPadding t (tile_words t * tile + k)) (sym is) pad);
        }

    -- the length of the result's file, before the flush and after it
    lengths : (a : ArrayRef) → slice_get p.cache.arrays s.result ≡ Some a
        → IsSomeAnd (file hs a.file.bytes) (λ bytes. length bytes ≡ form_len a.form a.shape) × IsSomeAnd (file gs a.file.bytes) (λ bytes. length bytes ≡ form_len a.form a.shape)
    lengths a found =
        let own : IsResultArray s a = listed.result a found in
        let here : slice_get cache.arrays s.result ≡ Some a = ap (λ xs. slice_get xs s.result) same_arrays ∙ found in
        let made : file fs a.file.bytes ≡ Some (made_result s) = ap (file fs) own.file ∙ b.made fs refl in
        let long : length (made_result s) ≡ form_len a.form a.shape = (made_zero s).whole ∙ sym (ap₂ form_len own.form own.shape) in
        let in_start : IsSomeAnd (file fs a.file.bytes) (λ bytes. length bytes ≡ form_len a.form a.shape) = subst (λ o. IsSomeAnd o (λ bytes. length bytes ≡ form_len a.form a.shape)) (sym made) long in
        let in_run : IsSomeAnd (file hs a.file.bytes) (λ bytes. length bytes ≡ form_len a.form a.shape) =
        front_has a (file fs a.file.bytes) (file hs a.file.bytes) (run.continued.fronts fs refl hs refl s.result a found) in_start in
        (in_run, front_has a (file hs a.file.bytes) (file gs a.file.bytes) ((arrays hs refl gs refl).fronts s.result a here) in_run)

    as_result : (files : Files) (a : ArrayRef) → IsResultArray s a → IsSomeAnd (file files a.file.bytes) (λ bytes. length bytes ≡ form_len a.form a.shape)
        → IsSomeAnd (file files (file_of s s.result)) (λ found. length found ≡ form_len One (shape_of s s.result))
    as_result files a own is =
        subst (λ q. IsSomeAnd (file files q) (λ bytes. length bytes ≡ form_len One (shape_of s s.result))) own.file
        (subst (λ n. IsSomeAnd (file files a.file.bytes) (λ bytes. length bytes ≡ n)) (ap₂ form_len own.form own.shape) is)

    flush_of : (a : ArrayRef) → slice_get p.cache.arrays s.result ≡ Some a → IsFlushed s (bytes_in fs s) cache hs gs words
    flush_of a found =
        let own : IsResultArray s a = listed.result a found in
        let here : slice_get cache.arrays s.result ≡ Some a = ap (λ xs. slice_get xs s.result) same_arrays ∙ found in
        let kept_in = arrays hs refl gs refl in
        let made : file fs a.file.bytes ≡ Some (made_result s) = ap (file fs) own.file ∙ b.made fs refl in
        let bytes_made : AreBytes (contents a fs) = subst AreBytes (sym (ap (λ o. unwrap_or o []) made)) (made_zero s).are_bytes in
        let bytes_end : AreBytes (contents a gs) = kept_in.bytes s.result a here (run.continued.bytes fs refl hs refl s.result a found bytes_made) in
        record {
          array = a;
          numbered = here;
          is_result = own;
          finished = finished;
          written = written;
          kept = kept_in.fronts s.result a here;
          was_whole = as_result hs a own (lengths a found).0;
          are_bytes = subst (λ q. IsSomeAnd (file gs q) AreBytes) own.file (all_bytes (file gs a.file.bytes) (λ bytes. length bytes ≡ form_len a.form a.shape) (lengths a found).1 bytes_end);
        }

    named_in : IsWrittenName cache (file_of s s.result)
    named_in i a found w = written_name i a (ap (λ xs. slice_get xs i) (sym same_arrays) ∙ found) w

    others_same : (q : List ℕ) → q ≢ file_of s s.result → file gs q ≡ file fs q
    others_same q differs =
        other.same q (other_name cache (file_of s s.result) q named_in differs) hs refl gs refl
        ∙ kept.files.same q (other_name p.cache (file_of s s.result) q written_name differs) fs refl hs refl

    -- the result's file lacks its head alone
    lacks_head : LacksHead s fs (file gs (file_of s s.result))
    lacks_head =
        let at = result_at s (Some fs) p rules b in
        both_hold (file gs (file_of s s.result)) _ _ (as_result gs at.0 (listed.result at.0 at.1) (lengths at.0 at.1).1)
        (flushed s (bytes_in fs s) cache hs gs words rules (flush_of at.0 at.1))

    completed_file : (o : Option (List ℕ)) → LacksHead s fs o → overwritten (unwrap_or o []) 0 (head One (shape_of s s.result)) ≡ result_bytes s fs
    completed_file None h = absurd h
    completed_file (Some found) h = h.1

    result_written : with_part gs (file_of s s.result) 0 (head One (shape_of s s.result)) ≡ with_result s fs
    result_written =
        let name : List ℕ = file_of s s.result in
        let now : List ℕ = overwritten (unwrap_or (file gs name) []) 0 (head One (shape_of s s.result)) in
        whole s fs (with_file gs name now)
        (λ q differs. other_files name q gs (with_file gs name now) (ap Some (without_file-with_file gs name now)) differs ∙ others_same q differs)
        (file-with_file gs name now ∙ ap Some (completed_file (file gs name) lacks_head))

-- ---- where the disk tells

-- what the result's file is after the flush
pub lacking : (s : Specification) (p : Prepared) (words : List ℕ) (cache cache2 : CacheState) (told ran after : Option Files) → IsSpecification s → IsBegun s told p
    → IsRun (workspace_for s p told) (workspace_with s p words cache ran) p.code → IsKept (workspace_for s p told) (workspace_with s p words cache ran)
    → AreWritten cache ran after words → KeepsArrays cache cache2 ran after words words → OnlyWritableDiffers cache ran after
    → LackHead s told after
lacking s p words cache cache2 told ran after rules b run kept written arrays other = λ fs is gs now.
    go told ran after rules b run kept written arrays other fs is gs now
  where
    go : (told ran after : Option Files) → IsSpecification s → IsBegun s told p
        → IsRun (workspace_for s p told) (workspace_with s p words cache ran) p.code → IsKept (workspace_for s p told) (workspace_with s p words cache ran)
        → AreWritten cache ran after words → KeepsArrays cache cache2 ran after words words → OnlyWritableDiffers cache ran after
        → (fs : Files) → told ≡ Some fs → (gs : Files) → after ≡ Some gs
        → LacksHead s fs (file gs (file_of s s.result))
    go (Some fs) (Some hs) (Some gs) rules b run kept written arrays other fs' is gs' now =
        let one : fs ≡ fs' = cc in
        let two : gs ≡ gs' = cc in
        subst (λ (f : Files). LacksHead s f (file gs' (file_of s s.result))) one
        (subst (λ (g : Files). LacksHead s fs (file g (file_of s s.result))) two
        (lacks_head s fs p rules b hs gs words cache cache2 run kept written arrays other))
    go None ran after rules b run kept written arrays other fs' is gs' now = absurd (none-some fs' is)
    go told ran None rules b run kept written arrays other fs' is gs' now = absurd (none-some gs' now)
    go (Some fs) None after rules b run kept written arrays other fs' is gs' now = absurd (none_some fs kept.files.tells)

-- the files with the result, once its head is written
pub ended : (s : Specification) (p : Prepared) (words : List ℕ) (cache cache2 : CacheState) (told ran after : Option Files) → IsSpecification s → IsBegun s told p
    → IsRun (workspace_for s p told) (workspace_with s p words cache ran) p.code → IsKept (workspace_for s p told) (workspace_with s p words cache ran)
    → AreWritten cache ran after words → KeepsArrays cache cache2 ran after words words → OnlyWritableDiffers cache ran after
    → written (file_of s s.result) 0 (head One (shape_of s s.result)) after ≡ option_map (with_result s) told
ended s p words cache cache2 (Some fs) (Some hs) (Some gs) rules b run kept written arrays other =
    ap Some (result_written s fs p rules b hs gs words cache cache2 run kept written arrays other)
ended s p words cache cache2 None None None rules b run kept written arrays other = refl
ended s p words cache cache2 told (Some hs) None rules b run kept written arrays other = absurd (none_some hs other.tells)
ended s p words cache cache2 told None (Some gs) rules b run kept written arrays other = absurd (some_none gs other.tells)
ended s p words cache cache2 (Some fs) None after rules b run kept written arrays other = absurd (none_some fs kept.files.tells)
ended s p words cache cache2 None (Some hs) after rules b run kept written arrays other = absurd (some_none hs kept.files.tells)

-- both, where what ran is said of parts that are the specification's
pub ran_over : (s : Specification) (p : Prepared) (words : List ℕ) (cache cache2 : CacheState) (told ran after : Option Files) (space : IndexSpace) (tree : ContractionTree) (result : ℕ) (indexes : List ℕ)
    → space ≡ s.declarations.space → tree ≡ s.tree → result ≡ s.result → indexes ≡ s.indexes → IsSpecification s → IsBegun s told p
    → IsRun (workspace_at p p.words p.cache told space tree result indexes) (workspace_at p words cache ran space tree result indexes) p.code
    → IsKept (workspace_at p p.words p.cache told space tree result indexes) (workspace_at p words cache ran space tree result indexes)
    → AreWritten cache ran after words → KeepsArrays cache cache2 ran after words words → OnlyWritableDiffers cache ran after
    → LackHead s told after × (written (file_of s s.result) 0 (head One (shape_of s s.result)) after ≡ option_map (with_result s) told)
ran_over s p words cache cache2 told ran after space tree result indexes a b c d rules begun run kept written arrays other =
    let is_run = of_parts (λ space tree t is. IsRun (workspace_at p p.words p.cache told space tree t is) (workspace_at p words cache ran space tree t is) p.code) _ _ _ _ _ _ _ _ a b c d run in
    let is_kept = of_parts (λ space tree t is. IsKept (workspace_at p p.words p.cache told space tree t is) (workspace_at p words cache ran space tree t is)) _ _ _ _ _ _ _ _ a b c d kept in
    (lacking s p words cache cache2 told ran after rules begun is_run is_kept written arrays other, ended s p words cache cache2 told ran after rules begun is_run is_kept written arrays other)

-- a result's file that lacks its head alone has room for it
room_in : (s : Specification) (fs : Files) (o : Option (List ℕ)) → LacksHead s fs o → IsSomeAnd o (λ found. head_len One (shape_of s s.result) ≤ length found)
room_in s fs None h = absurd h
room_in s fs (Some found) h = omega (arith, h.0)

pub room_for_head : (s : Specification) (told after : Option Files) → is_some after ≡ is_some told → LackHead s told after
    → ForSome after (λ gs. IsSomeAnd (file gs (file_of s s.result)) (λ found. head_len One (shape_of s s.result) ≤ length found))
room_for_head s told after same lacks gs now =
    let at = told_from told after gs same now in
    room_in s at.0 (file gs (file_of s s.result)) (lacks at.0 at.1 gs now)

-- ---- what is left where the run ends too soon

begun_so : (s : Specification) (whole : List ℕ) (old now : Option (List ℕ)) → old ≡ Some (made_result s) → option_map (λ bytes. take 8 bytes) now ≡ option_map (λ bytes. take 8 bytes) old
    → LeavesNoHalf (head_len One (shape_of s s.result)) whole old now
begun_so s whole old None made same = absurd (let none : None ≡ Some (take 8 (made_result s)) = same ∙ ap (option_map (λ bytes. take 8 bytes)) made in cc)
begun_so s whole old (Some bytes) made same =
    let both : Some (take 8 bytes) ≡ Some (take 8 (made_result s)) = same ∙ ap (option_map (λ it. take 8 it)) made in
    inr (inl (begins_still bytes (form_len One (shape_of s s.result)) (let is : take 8 bytes ≡ take 8 (made_result s) = cc in is)))

-- without its head, which is written last
pub without_head : (s : Specification) (told now : Option Files) (p : Prepared) → IsBegun s told p → bytes_before (file_of s s.result) 8 now ≡ bytes_before (file_of s s.result) 8 told
    → LeavesNoHalfResult s told now
without_head s told now p b same fs is gs here =
    begun_so s (result_bytes s fs) (file fs (file_of s s.result)) (file gs (file_of s s.result)) (b.made fs is)
    (let both : Some (option_map (λ bytes. take 8 bytes) (file gs (file_of s s.result))) ≡ Some (option_map (λ bytes. take 8 bytes) (file fs (file_of s s.result))) =
    ap (bytes_before (file_of s s.result) 8) (sym here) ∙ same ∙ ap (bytes_before (file_of s s.result) 8) is in cc)

behind_head : (shape : Tiling) (found whole : List ℕ) → overwritten found 0 (head One shape) ≡ whole → drop (head_len One shape) found ≡ drop (head_len One shape) whole
behind_head shape found whole is =
    let n : ℕ = head_len One shape in
    sym (ap (drop n) (sym is) ∙ ap (drop n) (with_head One shape found) ∙ ap (λ m. drop m (head One shape ++ drop n found)) (sym (length-head One shape)) ∙ drop-append_seam (head One shape) (drop n found))

rest_is : (s : Specification) (fs : Files) (o : Option (List ℕ)) → LacksHead s fs o
    → option_map (λ bytes. drop (head_len One (shape_of s s.result)) bytes) o ≡ Some (drop (head_len One (shape_of s s.result)) (result_bytes s fs))
rest_is s fs None h = absurd h
rest_is s fs (Some found) h = ap Some (behind_head (shape_of s s.result) found (result_bytes s fs) h.1)

-- and with all but its head
pub but_head : (s : Specification) (told after now : Option Files) → LackHead s told after → others (file_of s s.result) now ≡ others (file_of s s.result) after
    → bytes_from (file_of s s.result) (head_len One (shape_of s s.result)) now ≡ bytes_from (file_of s s.result) (head_len One (shape_of s s.result)) after
    → LeavesNoHalfResult s told now
but_head s told after now lacks same behind fs is gs here =
    let name : List ℕ = file_of s s.result in
    let n : ℕ = head_len One (shape_of s s.result) in
    let at = told_from after now gs (disks_tell name after now same) here in
    let both : Some (option_map (λ bytes. drop n bytes) (file gs name)) ≡ Some (option_map (λ bytes. drop n bytes) (file at.0 name)) =
    ap (bytes_from name n) (sym here) ∙ behind ∙ ap (bytes_from name n) at.1 in
    let rests : option_map (λ bytes. drop n bytes) (file gs name) ≡ option_map (λ bytes. drop n bytes) (file at.0 name) = cc in
    inr (inr (rests ∙ rest_is s fs (file at.0 name) (lacks fs is at.0 at.1)))

-- the cache of a run writes the result's file alone
pub written_result : (s : Specification) (told : Option Files) (p : Prepared) → IsBegun s told p → IsWrittenName p.cache (file_of s s.result)
written_result s told p b i a found w = b.prepared.cache.arrays.files i a found ∙ ap (file_of s) (b.prepared.cache.arrays.only i a found w)

-- so the others stay through the run of the code and the flush
pub others_kept : (x y : Workspace) (name : List ℕ) (after : Option Files) → IsWrittenName x.cache name → IsKept x y → OnlyWritableDiffers y.cache y.files after → others name after ≡ others name x.files
others_kept x y name after named kept other = others_stay y.cache name y.files after still other ∙ others_stay x.cache name x.files y.files named kept.files
  where
    same : y.cache.arrays ≡ x.cache.arrays
    same = ap (λ (c : CacheState). c.arrays) kept.cache

    still : IsWrittenName y.cache name
    still i a found w = named i a (ap (λ xs. slice_get xs i) (sym same) ∙ found) w

-- and the result's file begins as before
pub begins_after : (x y : Workspace) (name : List ℕ) (after : Option Files) → IsKept x y → OnlyWritableDiffers y.cache y.files after → bytes_before name 8 after ≡ bytes_before name 8 x.files
begins_after x y name after kept other = other.begins name ∙ kept.files.begins name

-- ---- the run as a whole

-- the files with the result, where only the result's file was made before
pub told_before : (s : Specification) (start now after : Option Files) (made : List ℕ) → IsSpecification s → now ≡ holding (file_of s s.result) made start → after ≡ option_map (with_result s) now
    → after ≡ option_map (with_result s) start
told_before s None now after made rules e f = f ∙ ap (option_map (with_result s)) e
told_before s (Some fs) now after made rules e f =
    f ∙ ap (option_map (with_result s)) e
    ∙ ap Some (with_file-with_file fs (file_of s s.result) made (result_bytes s (with_file fs (file_of s s.result) made)) ∙ ap (with_file fs (file_of s s.result)) (result_before s fs made rules))

-- what is left of files with the made result is left of the files before
no_half_of : (n : ℕ) (was whole : List ℕ) (start old now : Option (List ℕ)) → old ≡ Some was → ((i : ℕ) → slice_index was i ≡ 0) → LeavesNoHalf n whole old now → LeavesNoHalf n whole start now
no_half_of n was whole start old now is zeros (inl same) = inr (inl (subst (λ o. IfSome o BeginsWithZeros) (sym (same ∙ is)) (λ i low. zeros i)))
no_half_of n was whole start old now is zeros (inr rest) = inr rest

pub no_half_before : (s : Specification) (start now after : Option Files) → IsSpecification s → now ≡ holding (file_of s s.result) (made_result s) start → LeavesNoHalfResult s now after
    → LeavesNoHalfResult s start after
no_half_before s None now after rules e f fs is gs here = absurd (none-some fs is)
no_half_before s (Some files) now after rules e f fs is gs here =
    let name : List ℕ = file_of s s.result in
    let made : Files = with_file files name (made_result s) in
    let same : files ≡ fs = cc in
    subst (λ (x : Files). LeavesNoHalf (head_len One (shape_of s s.result)) (result_bytes s x) (file x name) (file gs name)) same
    (no_half_of (head_len One (shape_of s s.result)) (made_result s) (result_bytes s files) (file files name) (file made name) (file gs name)
    (file-with_file files name (made_result s)) (zeros_at (form_len One (shape_of s s.result)))
    (subst (λ whole. LeavesNoHalf (head_len One (shape_of s s.result)) whole (file made name) (file gs name)) (result_before s files (made_result s) rules) (f made e gs here)))

-- a whole result is no half of one, and neither are zeros
pub whole_is_no_half : (s : Specification) (before after : Option Files) → after ≡ option_map (with_result s) before → LeavesNoHalfResult s before after
whole_is_no_half s before after is fs told gs here =
    let name : List ℕ = file_of s s.result in
    let n : ℕ = head_len One (shape_of s s.result) in
    let both : Some gs ≡ Some (with_result s fs) = sym here ∙ is ∙ ap (option_map (with_result s)) told in
    let now : gs ≡ with_result s fs = cc in
    inr (inr (ap (λ (f : Files). option_map (λ bytes. drop n bytes) (file f name)) now ∙ ap (option_map (λ bytes. drop n bytes)) (file-with_file fs name (result_bytes s fs))))

zeros_or_same : (s : Specification) (whole : List ℕ) (old new : Option (List ℕ)) → (new ≡ old) ⊎ IfSome new (λ bytes. bytes ≡ replicate (length bytes) 0) → LeavesNoHalf (head_len One (shape_of s s.result)) whole old new
zeros_or_same s whole old new (inl same) = inl same
zeros_or_same s whole old None (inr zeros) = inr (inl zeros)
zeros_or_same s whole old (Some bytes) (inr zeros) = inr (inl (zeros_begin bytes (length bytes) zeros))

pub failed_is_no_half : (s : Specification) (before after : Option Files) → IsKeptOrZeros (file_of s s.result) before after → LeavesNoHalfResult s before after
failed_is_no_half s before after is fs told gs here = zeros_or_same s (result_bytes s fs) (file fs (file_of s s.result)) (file gs (file_of s s.result)) (is fs told gs here)

pub same_is_no_half : (s : Specification) (before after : Option Files) → after ≡ before → LeavesNoHalfResult s before after
same_is_no_half s before after same fs told gs here =
    let both : Some gs ≡ Some fs = sym here ∙ same ∙ told in
    let now : gs ≡ fs = cc in
    inl (ap (λ (f : Files). file f (file_of s s.result)) now)
