use Rattle.std.proofs.Common.{◌∙◌, refl, ap, subst, is_err, arith, List, ℕ, ◌<◌, sym}
use Rattle.tce_array.specs.Forms.{cell}
use Rattle.tce_tools.specs.Flat.{contents}
use Rattle.tce_tools.specs.Runs.{AreElements}
use Rattle.tce_outside.specs.Files.{file}
use Rattle.tce_tools.proofs.Forms.{form_stored}
use Rattle.tce_tools.proofs.Told.{failed_from}
use Rattle.tce_tools.proofs.Sums.{sum_none, sum_of_run, sum_of_all}
use Rattle.std.proofs.lemmas.Result.{IfOk-from_err}
use Rattle.std.proofs.lemmas.Bool.{false≢true}
use Rattle.tce_tools.proofs.sum.cell_sum.Goals as goal

pub loop-done-init : goal.loop-done-init
loop-done-init g c = record { done = omega arith; sum = λ x told. sum_none; files = refl; later = omega arith; counted = refl }

pub loop-done-preserved : goal.loop-done-preserved
loop-done-preserved g c = record {
  done = omega (arith, c.band_at-band.ensures.band.inside, c.band_at-band.ensures.start, c.elements-elements.ensures.elements);
  sum = λ x told.
      let f : List ℕ → ℕ = cell c.args.form c.args.shape.now (contents x c.args.array.now) in
      sum_of_run c.args.shape.now f c.loop-done.done c.band_at-band.result.len c.loop-done.total c.sum_of-total.result c.read_band.new.words
      (subst (λ n. AreElements c.args.shape.now f n c.read_band.new.words) c.band_at-band.ensures.start (c.in_ok-read_band.ensures.read x (c.loop-done.invariant.files ∙ told)))
      c.in_ok-read_band.ensures.len (omega (arith, c.band_at-band.ensures.band.inside, c.band_at-band.ensures.start)) (c.loop-done.invariant.sum x told) c.sum_of-total.ensures;
  files = c.in_ok-read_band.ensures.same ∙ c.loop-done.invariant.files;
  later = omega (arith, c.in_ok-read_band.ensures.fault_reported.cause.later, c.loop-done.invariant.later);
  counted = c.in_ok-read_band.ensures.fault_reported.quiet false≢true ∙ c.loop-done.invariant.counted;
}

pub returns-clause-sum : goal.returns-clause-sum
returns-clause-sum g c = λ x told.
    sum_of_all c.args.shape.now (cell c.args.form c.args.shape.now (contents x c.args.array.now)) c.loop-done.done c.loop-done.total (omega (arith, c.loop-done-test.false, c.elements-elements.ensures.elements)) (c.loop-done.invariant.sum x told)

pub returns-clause-fault_reported : goal.returns-clause-fault_reported
returns-clause-fault_reported g c = record {
  cause = record { later = c.loop-done.invariant.later; rose = λ e. absurd (false≢true e) };
  quiet = λ _. c.loop-done.invariant.counted;
}

pub returns-in_err-read_band-clause-same : goal.returns-in_err-read_band-clause-same
returns-in_err-read_band-clause-same g c = c.read_band.ensures.same ∙ c.loop-done.invariant.files

pub returns-in_err-read_band-clause-fault_reported : goal.returns-in_err-read_band-clause-fault_reported
returns-in_err-read_band-clause-fault_reported g c = record {
  cause = failed_from _ (g.D.Disk.faults c.loop-done.disk) _ _ _ c.loop-done.invariant.later c.read_band.ensures.fault_reported.cause (ap is_err c.in_err-read_band.was);
  quiet = λ fine. absurd (fine c.from_residual.ensures.0);
}

pub returns-clause-same : goal.returns-clause-same
returns-clause-same g c = c.loop-done.invariant.files

pub read_band-requires-clause-band : goal.read_band-requires-clause-band
read_band-requires-clause-band g c = c.band_at-band.ensures.band

pub band_at-band-requires : goal.band_at-band-requires
band_at-band-requires g c = subst (λ n. c.loop-done.done < n) c.elements-elements.ensures.elements c.loop-done-test.true

pub returns-in_err-read_band-clause-sum : goal.returns-in_err-read_band-clause-sum
returns-in_err-read_band-clause-sum g c = IfOk-from_err c.from_residual.result _ c.from_residual.ensures.0

pub overflow_add-done : goal.overflow_add-done
overflow_add-done g c = omega (arith, c.band_at-band.ensures.band.inside, c.band_at-band.ensures.band.few, c.band_at-band.ensures.band.tiling.room, c.band_at-band.ensures.start)

pub loop-done-smaller : goal.loop-done-smaller
loop-done-smaller g c = omega (arith, c.band_at-band.ensures.band.some, c.loop-done-test.true)

pub read_band-requires-clause-file : goal.read_band-requires-clause-file
read_band-requires-clause-file g c = λ x told. form_stored c.args.form c.args.shape.now (file x c.args.array.now) (c.requires x (sym c.loop-done.invariant.files ∙ told))
