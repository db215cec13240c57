use Rattle.std.proofs.Common.{◌≡◌, ◌∙◌, ◌+◌, ◌*◌, refl, sym, ap, subst, arith, List, ℕ, Option, Some, is_err, ◌<◌}
use Rattle.tce_space.specs.Tiling.{Tiling}
use Rattle.tce_outside.specs.Files.{Files, others, bytes_before, bytes_from}
use Rattle.tce_tools.specs.declared.band.Band.{Band}
use Rattle.tce_tools.specs.Flat.{contents}
use Rattle.tce_tools.specs.Storage.{bare_bytes, stored_bytes, first_elements, later_elements, element_in, last_written, bytes_ahead, holding_by, HasStored}
use Rattle.tce_tools.specs.Runs.{AreElements}
use Rattle.tce_tools.proofs.Apart.{ok_not_err, failed_not_memory}
use Rattle.tce_tools.proofs.NoHalf.{some_elements, unmade_left, later_left, last_left, bare_left, bare_stored}
use Rattle.tce_tools.proofs.PieceWrites.{keeps_outside, keeps_last, first_values, later_values}
use Rattle.tce_tools.proofs.Stored.{no_later_elements}
use Rattle.tce_tools.proofs.Told.{held, held_same, held_beside, failed_from}
use Rattle.std.proofs.lemmas.Result.{IfOk-from_err}
use Rattle.std.proofs.lemmas.Bool.{false≢true}
use Rattle.tce_outside.specs.declared.device.OutFault.TheVariants.{Failed, Memory}
use Rattle.tce_tools.proofs.Faults.{making_failed, failed_making}
use Rattle.tce_tools.proofs.copying.copy_elements.Goals as goal

pub loop-done-init : goal.loop-done-init
loop-done-init g c = record {
  first = omega arith;
  done = omega (arith, c.band_at-first.ensures.band.inside, c.band_at-first.ensures.start, c.elements-elements.ensures.elements);
  files = held_same (g.D.Disk.files c.args.disk.now) _ c.args.files.target.now (λ fs. bare_bytes c.args.files.to c.args.files.shape.now (λ _. 0)) _ c.in_ok-make.ensures.made
      (λ fs. no_later_elements c.args.files.to c.args.files.shape.now c.elements-elements.ensures.limits (element_in c.args.files.from c.args.files.shape.now (contents fs c.args.files.source.now)) c.band_at-first.result.len);
  others = c.in_ok-make.ensures.others;
  later = c.in_ok-make.ensures.fault_reported.cause.later;
  counted = c.in_ok-make.ensures.fault_reported.quiet (λ e. ok_not_err e);
}

pub read_band-requires-clause-file : goal.read_band-requires-clause-file
read_band-requires-clause-file g c x told =
    let h = held (g.D.Disk.files c.args.disk.now) _ c.args.files.target.now _ c.loop-done.invariant.files x told in
    subst (HasStored c.args.files.from c.args.files.shape.now) (sym (h.beside c.args.files.source.now c.requires.names)) (c.requires.source h.files h.was)

pub write_band-requires-clause-file : goal.write_band-requires-clause-file
write_band-requires-clause-file g c =
    bare_stored c.args.files.to c.args.files.shape.now c.elements-elements.ensures.limits c.args.files.target.now (λ fs. first_elements c.args.files.shape.now (later_elements c.args.files.shape.now (element_in c.args.files.from c.args.files.shape.now (contents fs c.args.files.source.now)) c.band_at-first.result.len) c.loop-done.done)
    (g.D.Disk.files c.args.disk.now) _ (c.in-Ok.ensures.same ∙ c.loop-done.invariant.files)

pub loop-done-preserved : goal.loop-done-preserved
loop-done-preserved g c =
    let s : Tiling = c.args.files.shape.now in
    let band : Band = c.band_at-band.result in
    let before : Option Files = g.D.Disk.files c.args.disk.now in
    let element : Files → List ℕ → ℕ = λ fs. element_in c.args.files.from s (contents fs c.args.files.source.now) in
    let later : Files → List ℕ → ℕ = λ fs. later_elements s (element fs) c.band_at-first.result.len in
    let stored : ℕ → Files → List ℕ = λ n fs. bare_bytes c.args.files.to s (first_elements s (later fs) n) in
    let values : (fs : Files) → before ≡ Some fs → AreElements s (element fs) band.start c.read_band.new.words =
    held_beside before (g.D.Disk.files c.loop-done.disk) c.args.files.target.now (stored c.loop-done.done) c.args.files.source.now (λ b. AreElements s (element_in c.args.files.from s b) band.start c.read_band.new.words)
    c.loop-done.invariant.files c.requires.names c.in-Ok.ensures.read in
    record {
      first = omega (arith, c.loop-done.invariant.first);
      done = omega (arith, c.band_at-band.ensures.band.inside, c.band_at-band.ensures.start, c.elements-elements.ensures.elements);
      files = subst (λ n. g.D.Disk.files c.write_band.new.disk ≡ holding_by c.args.files.target.now (stored (n + band.len)) before) c.band_at-band.ensures.start
          (c.in-Ok-write_band.ensures.written before (λ fs. first_elements s (later fs) band.start) (λ fs. first_elements s (later fs) (band.start + band.len))
          (subst (λ n. g.D.Disk.files c.read_band.new.disk ≡ holding_by c.args.files.target.now (stored n) before) (sym c.band_at-band.ensures.start) (c.in-Ok.ensures.same ∙ c.loop-done.invariant.files))
          (λ fs was. first_values s (later fs) band.start (band.start + band.len) c.read_band.new.words (omega (arith, c.in-Ok.ensures.len))
          (later_values s (element fs) c.band_at-first.result.len band.start c.read_band.new.words (omega (arith, c.loop-done.invariant.first, c.band_at-band.ensures.start)) (values fs was)))
          (λ fs was. keeps_outside s band (later fs)));
      others = c.in-Ok-write_band.ensures.others ∙ ap (others c.args.files.target.now) c.in-Ok.ensures.same ∙ c.loop-done.invariant.others;
      later = omega (arith, c.in-Ok.ensures.fault_reported.cause.later, c.in-Ok-write_band.ensures.fault_reported.cause.later, c.loop-done.invariant.later);
      counted = c.in-Ok-write_band.ensures.fault_reported.quiet false≢true ∙ c.in-Ok.ensures.fault_reported.quiet false≢true ∙ c.loop-done.invariant.counted;
    }

pub returns-in_err-make-clause-no_half : goal.returns-in_err-make-clause-no_half
returns-in_err-make-clause-no_half g c =
    unmade_left c.args.files.target.now (last_written c.args.files.to c.args.files.shape.now) (λ fs. stored_bytes c.args.files.to c.args.files.shape.now (element_in c.args.files.from c.args.files.shape.now (contents fs c.args.files.source.now))) _ _ c.make.ensures.zeros

pub band_at-first-requires : goal.band_at-first-requires
band_at-first-requires g c = some_elements c.args.files.shape.now c.elements-elements.ensures.limits

pub returns-in_default-clause-no_half : goal.returns-in_default-clause-no_half
returns-in_default-clause-no_half g c =
    later_left c.args.files.to c.args.files.shape.now c.elements-elements.ensures.limits c.args.files.target.now (λ fs. element_in c.args.files.from c.args.files.shape.now (contents fs c.args.files.source.now)) c.band_at-first.result.len c.loop-done.done 1 (g.D.Disk.files c.args.disk.now) (g.D.Disk.files c.loop-done.disk) _ (omega (arith, c.band_at-first.ensures.band.some)) (omega arith) c.loop-done.invariant.files
    (ap (bytes_before c.args.files.target.now (bytes_ahead c.args.files.to c.args.files.shape.now 1)) c.read_band.ensures.same)

pub returns-in_default-write_band-clause-no_half : goal.returns-in_default-write_band-clause-no_half
returns-in_default-write_band-clause-no_half g c =
    later_left c.args.files.to c.args.files.shape.now c.elements-elements.ensures.limits c.args.files.target.now (λ fs. element_in c.args.files.from c.args.files.shape.now (contents fs c.args.files.source.now)) c.band_at-first.result.len c.loop-done.done c.band_at-band.result.start (g.D.Disk.files c.args.disk.now) (g.D.Disk.files c.read_band.new.disk) _ (omega (arith, c.band_at-first.ensures.band.some))
    (omega (arith, c.band_at-first.ensures.band.some, c.band_at-band.ensures.start, c.loop-done.invariant.first)) (c.in-Ok.ensures.same ∙ c.loop-done.invariant.files) c.write_band.ensures.ahead

pub read_band-requires-2-clause-file : goal.read_band-requires-2-clause-file
read_band-requires-2-clause-file g c x told =
    let h = held (g.D.Disk.files c.args.disk.now) _ c.args.files.target.now _ c.loop-done.invariant.files x told in
    subst (HasStored c.args.files.from c.args.files.shape.now) (sym (h.beside c.args.files.source.now c.requires.names)) (c.requires.source h.files h.was)

pub returns-in_default-read_band-clause-no_half : goal.returns-in_default-read_band-clause-no_half
returns-in_default-read_band-clause-no_half g c =
    later_left c.args.files.to c.args.files.shape.now c.elements-elements.ensures.limits c.args.files.target.now (λ fs. element_in c.args.files.from c.args.files.shape.now (contents fs c.args.files.source.now)) c.band_at-first.result.len c.loop-done.done 1 (g.D.Disk.files c.args.disk.now) (g.D.Disk.files c.loop-done.disk) _ (omega (arith, c.band_at-first.ensures.band.some)) (omega arith) c.loop-done.invariant.files
    (ap (bytes_before c.args.files.target.now (bytes_ahead c.args.files.to c.args.files.shape.now 1)) c.read_band-2.ensures.same)

pub write_band-requires-2-clause-file : goal.write_band-requires-2-clause-file
write_band-requires-2-clause-file g c =
    bare_stored c.args.files.to c.args.files.shape.now c.elements-elements.ensures.limits c.args.files.target.now (λ fs. first_elements c.args.files.shape.now (later_elements c.args.files.shape.now (element_in c.args.files.from c.args.files.shape.now (contents fs c.args.files.source.now)) c.band_at-first.result.len) c.loop-done.done)
    (g.D.Disk.files c.args.disk.now) _ (c.in-Ok-read_band.ensures.same ∙ c.loop-done.invariant.files)

pub returns-in_default-write_band-2-clause-no_half : goal.returns-in_default-write_band-2-clause-no_half
returns-in_default-write_band-2-clause-no_half g c =
    let end : 8 * c.band_at-first.result.start + 8 * c.band_at-first.result.len ≡ 8 * c.band_at-first.result.len = omega (arith, c.band_at-first.ensures.start) in
    last_left c.args.files.to c.args.files.shape.now c.elements-elements.ensures.limits c.args.files.target.now (λ fs. element_in c.args.files.from c.args.files.shape.now (contents fs c.args.files.source.now)) c.band_at-first.result.len c.loop-done.done (g.D.Disk.files c.args.disk.now) (g.D.Disk.files c.read_band-2.new.disk) _ (omega (arith, c.band_at-first.ensures.band.some)) c.band_at-first.ensures.band.short
    (omega (arith, c.loop-done-test.false, c.elements-elements.ensures.elements)) (c.in-Ok-read_band.ensures.same ∙ c.loop-done.invariant.files)
    (subst (λ n. bytes_before c.args.files.target.now (bytes_ahead c.args.files.to c.args.files.shape.now n) (g.D.Disk.files c.write_band-2.new.disk) ≡ bytes_before c.args.files.target.now (bytes_ahead c.args.files.to c.args.files.shape.now n) (g.D.Disk.files c.read_band-2.new.disk)) c.band_at-first.ensures.start c.write_band-2.ensures.ahead)
    (λ flat. subst (λ n. bytes_from c.args.files.target.now n (g.D.Disk.files c.write_band-2.new.disk) ≡ bytes_from c.args.files.target.now n (g.D.Disk.files c.read_band-2.new.disk)) end (c.write_band-2.ensures.behind flat))

pub returns-clause-copied : goal.returns-clause-copied
returns-clause-copied g c =
    let s : Tiling = c.args.files.shape.now in
    let first : Band = c.band_at-first.result in
    let before : Option Files = (g.D.Disk.files c.args.disk.now) in
    let element : Files → List ℕ → ℕ = λ fs. element_in c.args.files.from s (contents fs c.args.files.source.now) in
    let old : Files → List ℕ → ℕ = λ fs. first_elements s (later_elements s (element fs) first.len) c.loop-done.done in
    c.in-Ok-write_band-2.ensures.written before old element (c.in-Ok-read_band.ensures.same ∙ c.loop-done.invariant.files)
    (held_beside before (g.D.Disk.files c.loop-done.disk) c.args.files.target.now (λ fs. bare_bytes c.args.files.to s (old fs)) c.args.files.source.now (λ b. AreElements s (element_in c.args.files.from s b) first.start c.read_band-2.new.words)
    c.loop-done.invariant.files c.requires.names c.in-Ok-read_band.ensures.read)
    (λ fs was. keeps_last s first (element fs) c.loop-done.done c.band_at-first.ensures.start (omega (arith, c.loop-done-test.false, c.elements-elements.ensures.elements)))

pub returns-clause-no_half : goal.returns-clause-no_half
returns-clause-no_half g c = bare_left c.args.files.to c.args.files.shape.now c.args.files.target.now (λ fs. element_in c.args.files.from c.args.files.shape.now (contents fs c.args.files.source.now)) (g.D.Disk.files c.args.disk.now) _ _ (returns-clause-copied g c) refl

pub returns-in_default-clause-others : goal.returns-in_default-clause-others
returns-in_default-clause-others g c = ap (others c.args.files.target.now) c.read_band.ensures.same ∙ c.loop-done.invariant.others

pub returns-in_default-write_band-clause-others : goal.returns-in_default-write_band-clause-others
returns-in_default-write_band-clause-others g c = c.write_band.ensures.others ∙ ap (others c.args.files.target.now) c.in-Ok.ensures.same ∙ c.loop-done.invariant.others

pub returns-in_default-read_band-clause-others : goal.returns-in_default-read_band-clause-others
returns-in_default-read_band-clause-others g c = ap (others c.args.files.target.now) c.read_band-2.ensures.same ∙ c.loop-done.invariant.others

pub returns-in_default-write_band-2-clause-others : goal.returns-in_default-write_band-2-clause-others
returns-in_default-write_band-2-clause-others g c = c.write_band-2.ensures.others ∙ ap (others c.args.files.target.now) c.in-Ok-read_band.ensures.same ∙ c.loop-done.invariant.others

pub returns-clause-others : goal.returns-clause-others
returns-clause-others g c = c.in-Ok-write_band-2.ensures.others ∙ ap (others c.args.files.target.now) c.in-Ok-read_band.ensures.same ∙ c.loop-done.invariant.others

pub returns-in_default-clause-fault_reported : goal.returns-in_default-clause-fault_reported
returns-in_default-clause-fault_reported g c = record {
  cause = failed_from _ (g.D.Disk.faults c.loop-done.disk) _ _ _ c.loop-done.invariant.later c.read_band.ensures.fault_reported.cause (ap is_err c.in_default.is);
  quiet = λ fine. absurd (fine refl);
}

pub returns-in_default-write_band-clause-fault_reported : goal.returns-in_default-write_band-clause-fault_reported
returns-in_default-write_band-clause-fault_reported g c = record {
  cause =
      failed_from _ (g.D.Disk.faults c.read_band.new.disk) _ _ _ (omega (arith, c.loop-done.invariant.later, c.in-Ok.ensures.fault_reported.cause.later)) c.write_band.ensures.fault_reported.cause (ap is_err c.in_default-write_band.is);
  quiet = λ fine. absurd (fine refl);
}

pub returns-in_default-read_band-clause-fault_reported : goal.returns-in_default-read_band-clause-fault_reported
returns-in_default-read_band-clause-fault_reported g c = record {
  cause = failed_from _ (g.D.Disk.faults c.loop-done.disk) _ _ _ c.loop-done.invariant.later c.read_band-2.ensures.fault_reported.cause (ap is_err c.in_default-read_band.is);
  quiet = λ fine. absurd (fine refl);
}

pub returns-in_default-write_band-2-clause-fault_reported : goal.returns-in_default-write_band-2-clause-fault_reported
returns-in_default-write_band-2-clause-fault_reported g c = record {
  cause =
      failed_from _ (g.D.Disk.faults c.read_band-2.new.disk) _ _ _ (omega (arith, c.loop-done.invariant.later, c.in-Ok-read_band.ensures.fault_reported.cause.later)) c.write_band-2.ensures.fault_reported.cause (ap is_err c.in_default-write_band-2.is);
  quiet = λ fine. absurd (fine refl);
}

pub returns-clause-fault_reported : goal.returns-clause-fault_reported
returns-clause-fault_reported g c = record {
  cause = record { later = omega (arith, c.loop-done.invariant.later, c.in-Ok-read_band.ensures.fault_reported.cause.later, c.in-Ok-write_band-2.ensures.fault_reported.cause.later); rose = λ e. absurd (ok_not_err e) };
  quiet = λ fine. c.in-Ok-write_band-2.ensures.fault_reported.quiet false≢true ∙ c.in-Ok-read_band.ensures.fault_reported.quiet false≢true ∙ c.loop-done.invariant.counted;
}

pub read_band-requires-clause-band : goal.read_band-requires-clause-band
read_band-requires-clause-band g c = c.band_at-band.ensures.band

pub read_band-requires-2-clause-band : goal.read_band-requires-2-clause-band
read_band-requires-2-clause-band g c = c.band_at-first.ensures.band

pub write_band-requires-clause-band : goal.write_band-requires-clause-band
write_band-requires-clause-band g c = c.band_at-band.ensures.band

pub write_band-requires-2-clause-band : goal.write_band-requires-2-clause-band
write_band-requires-2-clause-band g c = c.band_at-first.ensures.band

pub returns-in_default-clause-memory : goal.returns-in_default-clause-memory
returns-in_default-clause-memory g c = λ memory. absurd (failed_not_memory _ refl memory)

pub returns-in_default-write_band-clause-memory : goal.returns-in_default-write_band-clause-memory
returns-in_default-write_band-clause-memory g c = λ memory. absurd (failed_not_memory _ refl memory)

pub returns-in_default-read_band-clause-memory : goal.returns-in_default-read_band-clause-memory
returns-in_default-read_band-clause-memory g c = λ memory. absurd (failed_not_memory _ refl memory)

pub returns-in_default-write_band-2-clause-memory : goal.returns-in_default-write_band-2-clause-memory
returns-in_default-write_band-2-clause-memory g c = λ memory. absurd (failed_not_memory _ refl memory)

pub returns-in_err-make-clause-others : goal.returns-in_err-make-clause-others
returns-in_err-make-clause-others g c = c.make.ensures.others

pub returns-clause-memory : goal.returns-clause-memory
returns-clause-memory g c = λ memory. absurd (ok_not_err memory)

pub returns-in_err-make-clause-copied : goal.returns-in_err-make-clause-copied
returns-in_err-make-clause-copied g c = IfOk-from_err c.from_residual.result _ c.from_residual.ensures.0

pub returns-in_err-make-clause-memory : goal.returns-in_err-make-clause-memory
returns-in_err-make-clause-memory g c = λ memory. c.make.ensures.memory (making_failed c.from_residual.result c.make.result c.in_err-make.field-0.0 Memory c.from_residual.ensures.1 c.in_err-make.was memory)

pub returns-in_err-make-clause-fault_reported : goal.returns-in_err-make-clause-fault_reported
returns-in_err-make-clause-fault_reported g c = record {
  cause = record { later = c.make.ensures.fault_reported.cause.later; rose = λ failed. c.make.ensures.fault_reported.cause.rose (making_failed c.from_residual.result c.make.result c.in_err-make.field-0.0 Failed c.from_residual.ensures.1 c.in_err-make.was failed) };
  quiet = λ fine. c.make.ensures.fault_reported.quiet (λ failed. fine (failed_making c.from_residual.result c.make.result c.in_err-make.field-0.0 Failed c.from_residual.ensures.1 c.in_err-make.was failed));
}

pub band_at-band-requires : goal.band_at-band-requires
band_at-band-requires g c = subst (λ n. c.loop-done.done < n) c.elements-elements.ensures.elements c.loop-done-test.true

pub write_band-requires-clause-words : goal.write_band-requires-clause-words
write_band-requires-clause-words g c = c.in-Ok.ensures.len

pub overflow_add-done : goal.overflow_add-done
overflow_add-done g c = omega (arith, c.band_at-band.ensures.band.inside, c.band_at-band.ensures.band.few, c.band_at-band.ensures.band.tiling.room, c.band_at-band.ensures.start)

pub loop-done-smaller : goal.loop-done-smaller
loop-done-smaller g c = omega (arith, c.band_at-band.ensures.band.some, c.loop-done-test.true)

pub write_band-requires-2-clause-words : goal.write_band-requires-2-clause-words
write_band-requires-2-clause-words g c = c.in-Ok-read_band.ensures.len
