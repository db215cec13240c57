use Rattle.std.proofs.Common.{◌≡◌, ◌∙◌, ◌+◌, refl, sym, ap, subst, arith, length, List, ℕ, Option, is_err, ◌<◌, ◌≤◌}
use Rattle.std.proofs.lemmas.List.{length-take-le}
use Rattle.tce_space.specs.Tiling.{Tiling, elements}
use Rattle.tce_outside.specs.Files.{Files}
use Rattle.tce_array.specs.declared.form.Form.TheVariants.{One}
use Rattle.tce_array.specs.Forms.{array_bytes}
use Rattle.tce_tools.specs.declared.band.Band.{Band}
use Rattle.tce_tools.specs.declared.storage.Storage.TheVariants.{Array}
use Rattle.tce_tools.specs.Storage.{bare_bytes, first_elements, holding_by}
use Rattle.tce_tools.specs.Runs.{AreElements}
use Rattle.tce_tools.specs.Demo.{drawn, demo_element}
use Rattle.tce_tools.proofs.Apart.{ok_not_err, failed_not_memory}
use Rattle.tce_tools.proofs.Draws.{drawn_none, drawn_more, digits_are_elements}
use Rattle.tce_tools.proofs.NoHalf.{first_left, bare_left, bare_stored, unmade_left}
use Rattle.tce_tools.proofs.PieceWrites.{keeps_outside, first_values}
use Rattle.tce_tools.proofs.Stored.{no_elements, all_elements}
use Rattle.tce_tools.proofs.Told.{held_same, failed_from}
use Rattle.std.proofs.lemmas.Result.{IfOk-from_err}
use Rattle.std.proofs.lemmas.Bool.{false≢true}
use Rattle.tce_outside.specs.declared.device.OutFault.TheVariants.{Failed, Memory}
use Rattle.tce_tools.proofs.Faults.{making_failed, failed_making}
use Rattle.tce_tools.proofs.demo.demo_elements.Goals as goal

pub loop-done-init : goal.loop-done-init
loop-done-init g c = record {
  done = omega arith;
  number = drawn_none c.args.x (omega (arith, c.requires.high));
  small = omega (arith, c.requires.high);
  files = held_same (g.D.Disk.files c.args.disk.now) _ c.args.array.now (λ fs. bare_bytes (Array One) c.args.shape.now (λ _. 0)) _ c.in_ok-make.ensures.made
      (λ fs. no_elements (Array One) c.args.shape.now c.elements-elements.ensures.limits (demo_element c.args.shape.now c.args.x));
  others = c.in_ok-make.ensures.others;
  later = c.in_ok-make.ensures.fault_reported.cause.later;
  counted = c.in_ok-make.ensures.fault_reported.quiet (λ e. ok_not_err e);
}

pub write_band-requires-clause-file : goal.write_band-requires-clause-file
write_band-requires-clause-file g c =
    bare_stored (Array One) c.args.shape.now c.elements-elements.ensures.limits c.args.array.now (λ fs. first_elements c.args.shape.now (demo_element c.args.shape.now c.args.x) c.loop-done.done) (g.D.Disk.files c.args.disk.now) _ c.loop-done.invariant.files

pub loop-done-preserved : goal.loop-done-preserved
loop-done-preserved g c =
    let s : Tiling = c.args.shape.now in
    let band : Band = c.band_at-band.result in
    let before : Option Files = g.D.Disk.files c.args.disk.now in
    let element : List ℕ → ℕ = demo_element s c.args.x in
    let stored : ℕ → Files → List ℕ = λ n fs. bare_bytes (Array One) s (first_elements s element n) in
    let long : 32768 ≤ length c.loop-done.buffer = omega (arith, c.loop-done.auto.buffer, c.args.buffers.now.words_fit) in
    let len : length c.draw-number.new.digits ≡ band.len = omega (arith, long, c.draw-number.ensures.len, c.band_at-band.ensures.band.short, length-take-le band.len c.loop-done.buffer (omega (arith, long, c.band_at-band.ensures.band.short))) in
    let values : AreElements s element band.start c.draw-number.new.digits =
    subst (λ n. AreElements s element n c.draw-number.new.digits) (sym c.band_at-band.ensures.start) (digits_are_elements s c.args.x c.loop-done.number c.loop-done.done c.draw-number.new.digits c.loop-done.invariant.number c.draw-number.ensures.digits) in
    record {
      done = omega (arith, c.band_at-band.ensures.band.inside, c.band_at-band.ensures.start, c.elements-elements.ensures.elements);
      number = c.draw-number.ensures.last ∙ ap (drawn c.loop-done.number) len ∙ ap (λ n. drawn n band.len) c.loop-done.invariant.number ∙ drawn_more c.args.x c.loop-done.done band.len;
      small = c.draw-number.ensures.small;
      files = subst (λ n. g.D.Disk.files c.write_band.new.disk ≡ holding_by c.args.array.now (stored (n + band.len)) before) c.band_at-band.ensures.start
          (c.in-Ok.ensures.written before (λ fs. first_elements s element band.start) (λ fs. first_elements s element (band.start + band.len)) (subst (λ n. g.D.Disk.files c.loop-done.disk ≡ holding_by c.args.array.now (stored n) before) (sym c.band_at-band.ensures.start) c.loop-done.invariant.files)
          (λ fs was. first_values s element band.start (band.start + band.len) c.draw-number.new.digits (omega (arith, len)) values) (λ fs was. keeps_outside s band element));
      others = c.in-Ok.ensures.others ∙ c.loop-done.invariant.others;
      later = omega (arith, c.in-Ok.ensures.fault_reported.cause.later, c.loop-done.invariant.later);
      counted = c.in-Ok.ensures.fault_reported.quiet false≢true ∙ c.loop-done.invariant.counted;
    }

pub returns-clause-made : goal.returns-clause-made
returns-clause-made g c =
    held_same (g.D.Disk.files c.args.disk.now) _ c.args.array.now _ (λ fs. bare_bytes (Array One) c.args.shape.now (demo_element c.args.shape.now c.args.x)) c.loop-done.invariant.files
    (λ fs. all_elements (Array One) c.args.shape.now c.elements-elements.ensures.limits (demo_element c.args.shape.now c.args.x) c.loop-done.done (omega (arith, c.loop-done-test.false, c.elements-elements.ensures.elements)))

pub returns-clause-fault_reported : goal.returns-clause-fault_reported
returns-clause-fault_reported g c = record {
  cause = record { later = c.loop-done.invariant.later; rose = λ e. absurd (ok_not_err e) };
  quiet = λ _. c.loop-done.invariant.counted;
}

pub returns-in_default-clause-no_half : goal.returns-in_default-clause-no_half
returns-in_default-clause-no_half g c =
    first_left One c.args.shape.now c.elements-elements.ensures.limits c.args.array.now (λ fs. first_elements c.args.shape.now (demo_element c.args.shape.now c.args.x) c.loop-done.done) c.band_at-band.result.start (g.D.Disk.files c.args.disk.now) (g.D.Disk.files c.loop-done.disk) _
    c.loop-done.invariant.files c.write_band.ensures.ahead (λ _. array_bytes c.args.shape.now (demo_element c.args.shape.now c.args.x))

pub returns-clause-no_half : goal.returns-clause-no_half
returns-clause-no_half g c = bare_left (Array One) c.args.shape.now c.args.array.now (λ _. demo_element c.args.shape.now c.args.x) (g.D.Disk.files c.args.disk.now) _ _ (returns-clause-made g c) refl

pub returns-in_default-clause-others : goal.returns-in_default-clause-others
returns-in_default-clause-others g c = c.write_band.ensures.others ∙ c.loop-done.invariant.others

pub returns-in_default-clause-fault_reported : goal.returns-in_default-clause-fault_reported
returns-in_default-clause-fault_reported g c = record {
  cause = failed_from _ (g.D.Disk.faults c.loop-done.disk) _ _ _ c.loop-done.invariant.later c.write_band.ensures.fault_reported.cause (ap is_err c.in_default.is);
  quiet = λ fine. absurd (fine refl);
}

pub returns-in_err-make-clause-others : goal.returns-in_err-make-clause-others
returns-in_err-make-clause-others g c = c.make.ensures.others

pub returns-in_default-clause-memory : goal.returns-in_default-clause-memory
returns-in_default-clause-memory g c = λ memory. absurd (failed_not_memory _ refl memory)

pub returns-clause-memory : goal.returns-clause-memory
returns-clause-memory g c = λ memory. absurd (ok_not_err memory)

pub returns-clause-others : goal.returns-clause-others
returns-clause-others g c = c.loop-done.invariant.others

pub write_band-requires-clause-band : goal.write_band-requires-clause-band
write_band-requires-clause-band g c = c.band_at-band.ensures.band

pub returns-in_err-make-clause-made : goal.returns-in_err-make-clause-made
returns-in_err-make-clause-made g c = IfOk-from_err c.from_residual.result _ c.from_residual.ensures.0

pub returns-in_err-make-clause-last : goal.returns-in_err-make-clause-last
returns-in_err-make-clause-last g c = IfOk-from_err c.from_residual.result _ c.from_residual.ensures.0

pub returns-in_err-make-clause-memory : goal.returns-in_err-make-clause-memory
returns-in_err-make-clause-memory g c = λ memory. c.make.ensures.memory (making_failed c.from_residual.result c.make.result c.in_err-make.field-0.0 Memory c.from_residual.ensures.1 c.in_err-make.was memory)

pub returns-in_err-make-clause-fault_reported : goal.returns-in_err-make-clause-fault_reported
returns-in_err-make-clause-fault_reported g c = record {
  cause = record { later = c.make.ensures.fault_reported.cause.later; rose = λ failed. c.make.ensures.fault_reported.cause.rose (making_failed c.from_residual.result c.make.result c.in_err-make.field-0.0 Failed c.from_residual.ensures.1 c.in_err-make.was failed) };
  quiet = λ fine. c.make.ensures.fault_reported.quiet (λ failed. fine (failed_making c.from_residual.result c.make.result c.in_err-make.field-0.0 Failed c.from_residual.ensures.1 c.in_err-make.was failed));
}

pub returns-in_err-make-clause-no_half : goal.returns-in_err-make-clause-no_half
returns-in_err-make-clause-no_half g c = unmade_left c.args.array.now _ _ _ _ c.make.ensures.zeros

pub band_at-band-requires : goal.band_at-band-requires
band_at-band-requires g c = subst (λ n. c.loop-done.done < n) c.elements-elements.ensures.elements c.loop-done-test.true

pub draw-number-requires : goal.draw-number-requires
draw-number-requires g c = c.loop-done.invariant.small

pub overflow_add-done : goal.overflow_add-done
overflow_add-done g c = omega (arith, c.band_at-band.ensures.band.inside, c.band_at-band.ensures.band.few, c.band_at-band.ensures.band.tiling.room, c.band_at-band.ensures.start)

pub loop-done-smaller : goal.loop-done-smaller
loop-done-smaller g c = omega (arith, c.band_at-band.ensures.band.some, c.loop-done-test.true)

pub returns-clause-last : goal.returns-clause-last
returns-clause-last g c =
    let end : c.loop-done.done ≡ elements c.args.shape.now = omega (arith, c.loop-done.invariant.done, c.loop-done-test.false, c.elements-elements.ensures.elements) in
    c.loop-done.invariant.number ∙ ap (drawn c.args.x) end
