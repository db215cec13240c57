use Rattle.std.proofs.Common.{refl, take, replicate, ◌≡◌, ◌∙◌, ◌+◌, ◌*◌, ◌≤◌, ◌-◌, ◌<◌, ◌^◌, min, zero-le, le_refl, le_trans, length, sym, ap, subst, arith, List, [], ℕ, Option, Some, unwrap_or, is_err}
use Rattle.std.proofs.lemmas.List.{length-take-le}
use Rattle.std.specs.Option.{IsSomeAnd}
use Rattle.tce_space.specs.Tiling.{Tiling, padded_words}
use Rattle.std.specs.List.{flat_map}
use Rattle.tce_base.specs.Word.{word_bytes}
use Rattle.tce_outside.specs.Files.{Files, others, holding, overwritten, bytes_before, file}
use Rattle.tce_array.specs.Forms.{width, head_len, array_bytes}
use Rattle.tce_array.specs.declared.form.Form.TheVariants.{One}
use Rattle.tce_tools.specs.declared.storage.Storage.TheVariants.{Array}
use Rattle.tce_tools.specs.Flat.{contents}
use Rattle.tce_tools.specs.Storage.{bare_bytes, HasWords}
use Rattle.tce_tools.proofs.NoHalf.{same_left, left_since, unmade_left, first_left, bare_left, shorter_before}
use Rattle.tce_tools.proofs.PieceWrites.{bare_changed}
use Rattle.tce_tools.proofs.Stored.{length-bare}
use Rattle.tce_tools.proofs.Zeros.{zero_form}
use Rattle.tce_tools.proofs.Told.{held, held_same, held_beside, held_written, failed_from}
use Rattle.tce_sym.specs.Storage.{IsStored, full_cell}
use Rattle.tce_sym.specs.Lines.{AreHeld, HasRoom}
use Rattle.tce_sym.specs.TileRows.{AreWords}
use Rattle.tce_sym.proofs.Pieces.{first_words, no_words, all_words, piece_change}
use Rattle.tce_tools.proofs.Apart.{ok_not_err, failed_not_memory}
use Rattle.std.proofs.lemmas.Result.{IfOk-from_err}
use Rattle.std.proofs.lemmas.Bool.{false≢true}
use Rattle.tce_outside.specs.declared.device.OutFault.TheVariants.{Failed, Memory}
use Rattle.tce_outside.specs.Fault.{HasCause, HasFailed}
use Rattle.tce_tools.proofs.Faults.{making_failed, failed_making}
use Rattle.tce_sym.proofs.StoredReads.{words_stored}
use Rattle.tce_space.specs.Limits.{max_array_words}
use Rattle.tce_sym.proofs.expansion.expand_elements.Goals as goal

-- numbers of a piece of `len` words from `done` on, of which all are below `whole` and in the buffer
module _ (len whole done : ℕ) (is : len ≡ min (whole - done) 8192) where
  in_buffer : (n : ℕ) → n ≡ 8192 → len ≤ n
  in_buffer n all = omega arith

  few_words : (n : ℕ) → n ≡ len → n ≤ 8192
  few_words n all = omega arith

  ends : done < whole → done + len ≤ whole
  ends more = omega arith

  ends_inside : (n words : ℕ) → n ≡ len → whole ≡ words → done < whole → done + n ≤ words
  ends_inside n words all same more = omega arith

  ends_small : (n words : ℕ) → n ≡ len → whole ≡ words → words ≤ max_array_words → done < whole → done + n < 2 ^ 64
  ends_small n words all same small more = omega arith

  is_in_file : (n words at head bytes : ℕ) → bytes ≡ head + 8 * words → n ≡ len → at ≡ head → whole ≡ words → done < whole → at + 8 * done + 8 * n ≤ bytes
  is_in_file n words at head bytes long all begins same more = omega arith

behind : (at head done : ℕ) → at ≡ head → head ≤ at + 8 * done
behind at head done is = omega arith

all_done : (whole words done : ℕ) → whole ≡ words → whole ≤ done → words ≤ done
all_done whole words done same over = omega arith

pub loop-done-init : goal.loop-done-init
loop-done-init g c = record {
  done = zero-le;
  files = held_same (g.D.Disk.files c.args.disk.now) _ c.args.array.now (λ fs. replicate c.form_len.result 0) _
      (c.in_ok-make.ensures.made ∙ ap (holding c.args.array.now (replicate c.form_len.result 0)) c.in-Ok.ensures.same)
      (λ fs. ap (λ n. replicate n 0) c.form_len.ensures.bytes ∙ zero_form One c.args.shape.now ∙ no_words c.args.shape.now c.padded_words-padded.ensures.limits (full_cell c.args.shape.now.extents c.args.s.now (contents fs c.args.packed.now)));
  lines = c.in-Ok.ensures.held;
  others = c.in_ok-make.ensures.others ∙ ap (others c.args.array.now) c.in-Ok.ensures.same;
  later = le_trans c.in-Ok.ensures.fault_reported.cause.later c.in_ok-make.ensures.fault_reported.cause.later;
  counted = c.in_ok-make.ensures.fault_reported.quiet (λ e. ok_not_err e) ∙ c.in-Ok.ensures.fault_reported.quiet false≢true;
}

pub returns-in_err-make-clause-no_half : goal.returns-in_err-make-clause-no_half
returns-in_err-make-clause-no_half g c =
    left_since c.args.array.now (head_len One c.args.shape.now) (λ fs. array_bytes c.args.shape.now (full_cell c.args.shape.now.extents c.args.s.now (contents fs c.args.packed.now)))
    (g.D.Disk.files c.args.disk.now) (g.D.Disk.files c.hold_words.new.disk) _ c.in-Ok.ensures.same (unmade_left _ _ _ _ _ c.make.ensures.zeros)

pub read_piece-requires-clause-file : goal.read_piece-requires-clause-file
read_piece-requires-clause-file g c x told =
    let h = held (g.D.Disk.files c.args.disk.now) _ c.args.array.now _ c.loop-done.invariant.files x told in
    subst (λ (f : Option (List ℕ)). IsSomeAnd f (λ bytes. IsStored c.args.shape.now.extents c.args.s.now bytes)) (sym (h.beside c.args.packed.now c.requires.names)) (c.requires.file h.files h.was)

pub read_piece-requires-clause-lines : goal.read_piece-requires-clause-lines
read_piece-requires-clause-lines g c x told =
    let h = held (g.D.Disk.files c.args.disk.now) _ c.args.array.now _ c.loop-done.invariant.files x told in
    let same : contents x c.args.packed.now ≡ contents h.files c.args.packed.now = ap (λ found. unwrap_or found []) (h.beside c.args.packed.now c.requires.names) in
    subst (λ (b : List ℕ). AreHeld c.triangles_of-triangles.result.slots.grid.layout c.triangles_of-triangles.result.slots.grid b c.loop-done.lines) (sym same) (c.loop-done.invariant.lines h.files h.was)

pub write_words-requires-clause-file : goal.write_words-requires-clause-file
write_words-requires-clause-file g c x told =
    let s : Tiling = c.args.shape.now in
    let h = held (g.D.Disk.files c.args.disk.now) _ c.args.array.now _ (c.in-Ok-read_piece.ensures.same ∙ c.loop-done.invariant.files) x told in
    let take_is : length (take c.min-len.result c.loop-done.buffer) ≡ c.min-len.result = length-take-le c.min-len.result c.loop-done.buffer (in_buffer c.min-len.result c.padded_words-padded.result c.loop-done.done c.min-len.ensures (length c.loop-done.buffer) c.min-len.array_long) in
    let size : length c.read_piece.new.words ≡ c.min-len.result = c.in-Ok-read_piece.ensures.len ∙ take_is in
    let whole : length (bare_bytes (Array One) s (first_words s (full_cell s.extents c.args.s.now (contents h.files c.args.packed.now)) c.loop-done.done)) ≡ head_len One s + 8 * padded_words s =
    length-bare (Array One) s c.padded_words-padded.ensures.limits (first_words s (full_cell s.extents c.args.s.now (contents h.files c.args.packed.now)) c.loop-done.done) in
    subst (HasWords One (c.head_len-head.result + 8 * c.loop-done.done) (length c.read_piece.new.words)) (sym h.here)
    (let fits : c.head_len-head.result + 8 * c.loop-done.done + 8 * length c.read_piece.new.words ≤ length (bare_bytes (Array One) s (first_words s (full_cell s.extents c.args.s.now (contents h.files c.args.packed.now)) c.loop-done.done)) =
    is_in_file c.min-len.result c.padded_words-padded.result c.loop-done.done c.min-len.ensures (length c.read_piece.new.words) (padded_words s) c.head_len-head.result (head_len One s) _ whole size c.head_len-head.ensures c.padded_words-padded.ensures.words c.loop-done-test.true in fits)

pub loop-done-preserved : goal.loop-done-preserved
loop-done-preserved g c =
    let s : Tiling = c.args.shape.now in
    let before : Option Files = g.D.Disk.files c.args.disk.now in
    let element : Files → List ℕ → ℕ = λ fs. full_cell c.args.shape.now.extents c.args.s.now (contents fs c.args.packed.now) in
    let stored : ℕ → Files → List ℕ = λ n fs. bare_bytes (Array One) s (first_words s (element fs) n) in
    let vs : List ℕ = c.read_piece.new.words in
    let take_is : length (take c.min-len.result c.loop-done.buffer) ≡ c.min-len.result = length-take-le c.min-len.result c.loop-done.buffer (in_buffer c.min-len.result c.padded_words-padded.result c.loop-done.done c.min-len.ensures (length c.loop-done.buffer) c.min-len.array_long) in
    let size : length c.read_piece.new.words ≡ c.min-len.result = c.in-Ok-read_piece.ensures.len ∙ take_is in
    let values : (fs : Files) → before ≡ Some fs → AreWords s (element fs) c.loop-done.done c.min-len.result vs =
    held_beside before (g.D.Disk.files c.loop-done.disk) c.args.array.now (stored c.loop-done.done) c.args.packed.now (λ b. AreWords s (full_cell c.args.shape.now.extents c.args.s.now b) c.loop-done.done c.min-len.result vs)
    c.loop-done.invariant.files c.requires.names
    (λ x told. subst (λ n. AreWords s (full_cell c.args.shape.now.extents c.args.s.now (contents x c.args.packed.now)) c.loop-done.done n vs) take_is (c.in-Ok-read_piece.ensures.read x told)) in
    let room : c.loop-done.done + c.min-len.result ≤ padded_words s = ends_inside c.min-len.result c.padded_words-padded.result c.loop-done.done c.min-len.ensures c.min-len.result (padded_words s) refl c.padded_words-padded.ensures.words c.loop-done-test.true in
    let at : c.head_len-head.result + 8 * c.loop-done.done ≡ head_len One s + 8 * c.loop-done.done = ap (λ n. n + 8 * c.loop-done.done) c.head_len-head.ensures in
    record {
      done = ends c.min-len.result c.padded_words-padded.result c.loop-done.done c.min-len.ensures c.loop-done-test.true;
      files = held_written before (g.D.Disk.files c.read_piece.new.disk) (g.D.Disk.files c.write_words.new.disk) c.args.array.now (stored c.loop-done.done) (stored (c.loop-done.done + c.min-len.result))
          (c.head_len-head.result + 8 * c.loop-done.done) (flat_map (word_bytes (width One)) vs) (c.in-Ok-read_piece.ensures.same ∙ c.loop-done.invariant.files) c.in-Ok-write_words.ensures.written
          (λ fs was. ap (λ n. overwritten (stored c.loop-done.done fs) n (flat_map (word_bytes (width One)) vs)) at
          ∙ bare_changed (Array One) s (first_words s (element fs) c.loop-done.done) (first_words s (element fs) (c.loop-done.done + c.min-len.result)) c.loop-done.done vs
          (piece_change s (element fs) vs c.loop-done.done c.min-len.result c.padded_words-padded.ensures.limits size room (values fs was)));
      lines = held_beside before (g.D.Disk.files c.loop-done.disk) c.args.array.now (stored c.loop-done.done) c.args.packed.now (λ b. AreHeld c.triangles_of-triangles.result.slots.grid.layout c.triangles_of-triangles.result.slots.grid b c.read_piece.new.lines)
          c.loop-done.invariant.files c.requires.names c.in-Ok-read_piece.ensures.lines;
      others = c.in-Ok-write_words.ensures.others ∙ ap (others c.args.array.now) c.in-Ok-read_piece.ensures.same ∙ c.loop-done.invariant.others;
      later = le_trans c.loop-done.invariant.later (le_trans c.in-Ok-read_piece.ensures.fault_reported.cause.later c.in-Ok-write_words.ensures.fault_reported.cause.later);
      counted = c.in-Ok-write_words.ensures.fault_reported.quiet false≢true ∙ c.in-Ok-read_piece.ensures.fault_reported.quiet false≢true ∙ c.loop-done.invariant.counted;
    }

pub returns-clause-made : goal.returns-clause-made
returns-clause-made g c =
    held_same (g.D.Disk.files c.args.disk.now) _ c.args.array.now _ (λ fs. bare_bytes (Array One) c.args.shape.now (full_cell c.args.shape.now.extents c.args.s.now (contents fs c.args.packed.now))) c.loop-done.invariant.files
    (λ fs. all_words c.args.shape.now c.padded_words-padded.ensures.limits (full_cell c.args.shape.now.extents c.args.s.now (contents fs c.args.packed.now)) c.loop-done.done (all_done c.padded_words-padded.result (padded_words c.args.shape.now) c.loop-done.done c.padded_words-padded.ensures.words c.loop-done-test.false))

pub returns-clause-fault_reported : goal.returns-clause-fault_reported
returns-clause-fault_reported g c = record {
  cause = record { later = c.loop-done.invariant.later; rose = λ e. absurd (ok_not_err e) };
  quiet = λ _. c.loop-done.invariant.counted;
}

pub returns-in_default-read_piece-clause-no_half : goal.returns-in_default-read_piece-clause-no_half
returns-in_default-read_piece-clause-no_half g c =
    first_left One c.args.shape.now c.padded_words-padded.ensures.limits c.args.array.now (λ fs. first_words c.args.shape.now (full_cell c.args.shape.now.extents c.args.s.now (contents fs c.args.packed.now)) c.loop-done.done) 0
    (g.D.Disk.files c.args.disk.now) (g.D.Disk.files c.loop-done.disk) _ c.loop-done.invariant.files (ap (bytes_before c.args.array.now (head_len One c.args.shape.now)) c.read_piece.ensures.same)
    (λ fs. array_bytes c.args.shape.now (full_cell c.args.shape.now.extents c.args.s.now (contents fs c.args.packed.now)))

pub returns-in_default-write_words-clause-no_half : goal.returns-in_default-write_words-clause-no_half
returns-in_default-write_words-clause-no_half g c =
    first_left One c.args.shape.now c.padded_words-padded.ensures.limits c.args.array.now (λ fs. first_words c.args.shape.now (full_cell c.args.shape.now.extents c.args.s.now (contents fs c.args.packed.now)) c.loop-done.done) 0
    (g.D.Disk.files c.args.disk.now) (g.D.Disk.files c.read_piece.new.disk) _ (c.read_piece.ensures.same ∙ c.loop-done.invariant.files)
    (shorter_before c.args.array.now (head_len One c.args.shape.now) (c.head_len-head.result + 8 * c.loop-done.done) (g.D.Disk.files c.read_piece.new.disk) _ (behind c.head_len-head.result (head_len One c.args.shape.now) c.loop-done.done c.head_len-head.ensures) c.write_words.ensures.before)
    (λ fs. array_bytes c.args.shape.now (full_cell c.args.shape.now.extents c.args.s.now (contents fs c.args.packed.now)))

pub returns-clause-no_half : goal.returns-clause-no_half
returns-clause-no_half g c =
    bare_left (Array One) c.args.shape.now c.args.array.now (λ fs. full_cell c.args.shape.now.extents c.args.s.now (contents fs c.args.packed.now)) (g.D.Disk.files c.args.disk.now) _ _ (returns-clause-made g c) refl

pub read_piece-requires-clause-inside : goal.read_piece-requires-clause-inside
read_piece-requires-clause-inside g c =
    let size : length (take c.min-len.result c.loop-done.buffer) ≡ c.min-len.result = length-take-le c.min-len.result c.loop-done.buffer (in_buffer c.min-len.result c.padded_words-padded.result c.loop-done.done c.min-len.ensures (length c.loop-done.buffer) c.min-len.array_long) in
    ends_inside c.min-len.result c.padded_words-padded.result c.loop-done.done c.min-len.ensures (length (take c.min-len.result c.loop-done.buffer)) (padded_words c.args.shape.now) size c.padded_words-padded.ensures.words c.loop-done-test.true

pub read_piece-requires-clause-fits : goal.read_piece-requires-clause-fits
read_piece-requires-clause-fits g c =
    let size : length (take c.min-len.result c.loop-done.buffer) ≡ c.min-len.result = length-take-le c.min-len.result c.loop-done.buffer (in_buffer c.min-len.result c.padded_words-padded.result c.loop-done.done c.min-len.ensures (length c.loop-done.buffer) c.min-len.array_long) in
    ends_small c.min-len.result c.padded_words-padded.result c.loop-done.done c.min-len.ensures (length (take c.min-len.result c.loop-done.buffer)) (padded_words c.args.shape.now) size c.padded_words-padded.ensures.words c.padded_words-padded.ensures.limits.room c.loop-done-test.true

pub read_piece-requires-clause-room : goal.read_piece-requires-clause-room
read_piece-requires-clause-room g c =
    subst (λ (n : ℕ). HasRoom c.triangles_of-triangles.result.slots.grid.layout c.triangles_of-triangles.result.slots.grid n) (sym (c.loop-done.auto.lines ∙ c.hold_words.auto.lines)) c.triangles_of-triangles.ensures.room

pub returns-in_default-clause-no_half : goal.returns-in_default-clause-no_half
returns-in_default-clause-no_half g c =
    same_left c.args.array.now (head_len One c.args.shape.now) (λ fs. array_bytes c.args.shape.now (full_cell c.args.shape.now.extents c.args.s.now (contents fs c.args.packed.now))) _ _ c.hold_words.ensures.same

pub returns-in_default-clause-others : goal.returns-in_default-clause-others
returns-in_default-clause-others g c = ap (others c.args.array.now) c.hold_words.ensures.same

pub returns-in_default-read_piece-clause-others : goal.returns-in_default-read_piece-clause-others
returns-in_default-read_piece-clause-others g c = ap (others c.args.array.now) c.read_piece.ensures.same ∙ c.loop-done.invariant.others

pub returns-in_default-write_words-clause-others : goal.returns-in_default-write_words-clause-others
returns-in_default-write_words-clause-others g c = c.write_words.ensures.others ∙ ap (others c.args.array.now) c.in-Ok-read_piece.ensures.same ∙ c.loop-done.invariant.others

pub returns-in_err-make-clause-others : goal.returns-in_err-make-clause-others
returns-in_err-make-clause-others g c = c.make.ensures.others ∙ ap (others c.args.array.now) c.in-Ok.ensures.same

pub returns-clause-others : goal.returns-clause-others
returns-clause-others g c = c.loop-done.invariant.others

pub returns-in_default-clause-fault_reported : goal.returns-in_default-clause-fault_reported
returns-in_default-clause-fault_reported g c = record {
  cause = failed_from _ (g.D.Disk.faults c.args.disk.now) _ _ _ (le_refl (g.D.Disk.faults c.args.disk.now)) c.hold_words.ensures.fault_reported.cause (ap is_err c.in_default.is);
  quiet = λ fine. absurd (fine refl);
}

pub returns-in_default-read_piece-clause-fault_reported : goal.returns-in_default-read_piece-clause-fault_reported
returns-in_default-read_piece-clause-fault_reported g c = record {
  cause = failed_from _ (g.D.Disk.faults c.loop-done.disk) _ _ _ c.loop-done.invariant.later c.read_piece.ensures.fault_reported.cause (ap is_err c.in_default-read_piece.is);
  quiet = λ fine. absurd (fine refl);
}

pub returns-in_default-write_words-clause-fault_reported : goal.returns-in_default-write_words-clause-fault_reported
returns-in_default-write_words-clause-fault_reported g c = record {
  cause =
      failed_from _ (g.D.Disk.faults c.read_piece.new.disk) _ _ _ (le_trans c.loop-done.invariant.later c.in-Ok-read_piece.ensures.fault_reported.cause.later) c.write_words.ensures.fault_reported.cause (ap is_err c.in_default-write_words.is);
  quiet = λ fine. absurd (fine refl);
}

pub triangles_of-triangles-requires-clause-right : goal.triangles_of-triangles-requires-clause-right
triangles_of-triangles-requires-clause-right g c = c.requires.right

pub triangles_of-triangles-requires-clause-some : goal.triangles_of-triangles-requires-clause-some
triangles_of-triangles-requires-clause-some g c = omega (arith, c.requires.some)

pub hold_words-requires-clause-room : goal.hold_words-requires-clause-room
hold_words-requires-clause-room g c = c.triangles_of-triangles.ensures.room

pub hold_words-requires-clause-count : goal.hold_words-requires-clause-count
hold_words-requires-clause-count g c = subst (λ n. n ≤ max_array_words) (sym c.triangles_of-triangles.ensures.triangles.grid) c.triangles_of-triangles.ensures.triangles.small

pub hold_words-requires-clause-file : goal.hold_words-requires-clause-file
hold_words-requires-clause-file g c = λ x told.
    words_stored c.args.shape.now.extents c.args.s.now c.triangles_of-triangles.result.slots.grid.count (file x c.args.packed.now) (c.triangles_of-triangles.ensures.triangles.grid ∙ c.triangles_of-triangles.ensures.count) (c.requires.file x told)

pub returns-in_default-clause-memory : goal.returns-in_default-clause-memory
returns-in_default-clause-memory g c = λ memory. absurd (failed_not_memory _ refl memory)

pub returns-in_err-make-clause-made : goal.returns-in_err-make-clause-made
returns-in_err-make-clause-made g c = IfOk-from_err c.from_residual.result _ c.from_residual.ensures.0

pub returns-in_err-make-clause-memory : goal.returns-in_err-make-clause-memory
returns-in_err-make-clause-memory g c = λ memory. c.make.ensures.memory (making_failed c.from_residual.result c.make.result c.in_err-make.field-0.0 Memory c.from_residual.ensures.1 c.in_err-make.was memory) ∙ c.in-Ok.ensures.same

pub returns-in_err-make-clause-fault_reported : goal.returns-in_err-make-clause-fault_reported
returns-in_err-make-clause-fault_reported g c = record {
  cause =
      let from : HasCause (g.D.Disk.faults c.args.disk.now) (g.D.Disk.faults c.make.new.self) (HasFailed c.make.result) =
      subst (λ n. HasCause n (g.D.Disk.faults c.make.new.self) (HasFailed c.make.result)) (c.in-Ok.ensures.fault_reported.quiet false≢true) c.make.ensures.fault_reported.cause in
      record { later = from.later; rose = λ failed. from.rose (making_failed c.from_residual.result c.make.result c.in_err-make.field-0.0 Failed c.from_residual.ensures.1 c.in_err-make.was failed) };
  quiet = λ fine. c.make.ensures.fault_reported.quiet (λ failed. fine (failed_making c.from_residual.result c.make.result c.in_err-make.field-0.0 Failed c.from_residual.ensures.1 c.in_err-make.was failed)) ∙ c.in-Ok.ensures.fault_reported.quiet false≢true;
}

pub overflow_sub-padded : goal.overflow_sub-padded
overflow_sub-padded g c = c.loop-done.invariant.done

pub slice_bounds-buffer-end : goal.slice_bounds-buffer-end
slice_bounds-buffer-end g c = in_buffer c.min-len.result c.padded_words-padded.result c.loop-done.done c.min-len.ensures (length c.loop-done.buffer) c.min-len.array_long

pub slice_bounds-words-end : goal.slice_bounds-words-end
slice_bounds-words-end g c = sym (length-take-le c.min-len.result c.loop-done.buffer (in_buffer c.min-len.result c.padded_words-padded.result c.loop-done.done c.min-len.ensures (length c.loop-done.buffer) c.min-len.array_long))

pub read_piece-requires-clause-right : goal.read_piece-requires-clause-right
read_piece-requires-clause-right g c = c.requires.right

pub read_piece-requires-clause-few : goal.read_piece-requires-clause-few
read_piece-requires-clause-few g c =
    let size : length (take c.min-len.result c.loop-done.buffer) ≡ c.min-len.result = length-take-le c.min-len.result c.loop-done.buffer (in_buffer c.min-len.result c.padded_words-padded.result c.loop-done.done c.min-len.ensures (length c.loop-done.buffer) c.min-len.array_long) in
    few_words c.min-len.result c.padded_words-padded.result c.loop-done.done c.min-len.ensures (length (take c.min-len.result c.loop-done.buffer)) size

pub read_piece-requires-clause-triangles : goal.read_piece-requires-clause-triangles
read_piece-requires-clause-triangles g c = c.triangles_of-triangles.ensures.triangles

pub read_piece-requires-clause-of : goal.read_piece-requires-clause-of
read_piece-requires-clause-of g c = c.triangles_of-triangles.ensures.same

pub read_piece-requires-clause-count : goal.read_piece-requires-clause-count
read_piece-requires-clause-count g c = c.triangles_of-triangles.ensures.count

pub returns-in_default-read_piece-clause-memory : goal.returns-in_default-read_piece-clause-memory
returns-in_default-read_piece-clause-memory g c = λ memory. absurd (failed_not_memory _ refl memory)

pub overflow_mul-done : goal.overflow_mul-done
overflow_mul-done g c = omega (arith, c.loop-done.invariant.done, c.padded_words-padded.ensures.words, c.padded_words-padded.ensures.limits.room)

pub returns-in_default-write_words-clause-memory : goal.returns-in_default-write_words-clause-memory
returns-in_default-write_words-clause-memory g c = λ memory. absurd (failed_not_memory _ refl memory)

pub overflow_add-done : goal.overflow_add-done
overflow_add-done g c = omega (arith, c.min-len.ensures, c.loop-done.invariant.done, c.padded_words-padded.ensures.words, c.padded_words-padded.ensures.limits.room)

pub loop-done-smaller : goal.loop-done-smaller
loop-done-smaller g c = omega (arith, c.min-len.ensures, c.loop-done-test.true)

pub returns-clause-memory : goal.returns-clause-memory
returns-clause-memory g c = λ memory. absurd (ok_not_err memory)
