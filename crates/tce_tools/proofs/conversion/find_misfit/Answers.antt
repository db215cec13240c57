use Rattle.std.proofs.Common.{◌≡◌, ◌∙◌, ◌+◌, refl, sym, ap, subst, is_err, arith, List, ℕ, ◌<◌}
use Rattle.tce_space.specs.Tiling.{Tiling, elements}
use Rattle.tce_array.specs.declared.form.Form.TheVariants.{Narrow}
use Rattle.tce_tools.specs.declared.storage.Storage.TheVariants.{Array}
use Rattle.tce_tools.specs.Flat.{contents}
use Rattle.tce_tools.specs.Storage.{element_in}
use Rattle.tce_tools.specs.Runs.{AreElements}
use Rattle.tce_tools.specs.Answers.{FitBefore, IsFirstMisfit}
use Rattle.tce_tools.proofs.Apart.{none_not_some, same_some, failed_not_ok}
use Rattle.tce_tools.proofs.Told.{failed_from}
use Rattle.tce_tools.proofs.Misfits.{fit_more, misfit_at}
use Rattle.std.proofs.lemmas.Bool.{false≢true}
use Rattle.tce_tools.proofs.conversion.find_misfit.Goals as goal

pub read_band-requires-clause-file : goal.read_band-requires-clause-file
read_band-requires-clause-file g c = λ x told. c.requires x (sym c.loop-done.invariant.files ∙ told)

pub overflow_add-result : goal.overflow_add-result
overflow_add-result g c = omega (arith, c.in-Some.ensures.some.0, c.in_ok-read_band.ensures.len, c.band_at-band.ensures.band.inside, c.band_at-band.ensures.band.few, c.band_at-band.ensures.band.tiling.room, c.band_at-band.ensures.start)

pub overflow_add-done : goal.overflow_add-done
overflow_add-done g c = omega (arith, c.band_at-band.ensures.band.inside, c.band_at-band.ensures.band.few, c.band_at-band.ensures.band.tiling.room, c.band_at-band.ensures.start)

pub returns-clause-none : goal.returns-clause-none
returns-clause-none g c = λ none x told.
    let s : Tiling = c.args.shape.now in
    let end : c.loop-done.done ≡ elements s = omega (arith, c.loop-done.invariant.done, c.loop-done-test.false, c.elements-elements.ensures.elements) in
    subst (FitBefore Narrow s (element_in (Array c.args.form) s (contents x c.args.name.now))) end (c.loop-done.invariant.fits x told)

pub returns-in-Some-clause-some : goal.returns-in-Some-clause-some
returns-in-Some-clause-some g c k e x told =
    let s : Tiling = c.args.shape.now in
    let f : List ℕ → ℕ = element_in (Array c.args.form) s (contents x c.args.name.now) in
    let values : AreElements s f c.loop-done.done c.read_band.new.words = subst (λ n. AreElements s f n c.read_band.new.words) c.band_at-band.ensures.start (c.in_ok-read_band.ensures.read x (c.loop-done.invariant.files ∙ told)) in
    let same : c.loop-done.done + c.in-Some.place ≡ k = same_some _ _ _ refl e in
    let first = c.in-Some.ensures.some in
    subst (IsFirstMisfit Narrow s f) same
    (misfit_at Narrow s f c.loop-done.done c.in-Some.place c.read_band.new.words values (omega (arith, c.band_at-band.ensures.band.inside, c.band_at-band.ensures.start, c.in_ok-read_band.ensures.len)) (c.loop-done.invariant.fits x told) first.0 first.1 first.2)

pub loop-done-preserved : goal.loop-done-preserved
loop-done-preserved g c =
    let s : Tiling = c.args.shape.now in
    let len = c.in_ok-read_band.ensures.len in
    record {
      done = omega (arith, c.band_at-band.ensures.band.inside, c.band_at-band.ensures.start, c.elements-elements.ensures.elements);
      fits = λ x told.
          let f : List ℕ → ℕ = element_in (Array c.args.form) s (contents x c.args.name.now) in
          let values : AreElements s f c.loop-done.done c.read_band.new.words = subst (λ n. AreElements s f n c.read_band.new.words) c.band_at-band.ensures.start (c.in_ok-read_band.ensures.read x (c.loop-done.invariant.files ∙ told)) in
          fit_more Narrow s f c.loop-done.done c.band_at-band.result.len c.read_band.new.words values (omega (arith, len)) (c.loop-done.invariant.fits x told) (λ k lt. c.in_default.ensures.none k (omega (arith, len)));
      files = c.in_ok-read_band.ensures.same ∙ c.loop-done.invariant.files;
      later = omega (arith, c.in_ok-read_band.ensures.fault_reported.cause.later, c.loop-done.invariant.later);
      counted = c.in_ok-read_band.ensures.fault_reported.quiet false≢true ∙ c.loop-done.invariant.counted;
    }

pub returns-clause-fault_reported : goal.returns-clause-fault_reported
returns-clause-fault_reported g c = record {
  cause = record { later = c.loop-done.invariant.later; rose = λ e. absurd (false≢true e) };
  quiet = λ _. c.loop-done.invariant.counted;
}

pub returns-in_err-read_band-clause-same : goal.returns-in_err-read_band-clause-same
returns-in_err-read_band-clause-same g c = c.read_band.ensures.same ∙ c.loop-done.invariant.files

pub returns-in_err-read_band-clause-fault_reported : goal.returns-in_err-read_band-clause-fault_reported
returns-in_err-read_band-clause-fault_reported g c = record {
  cause = failed_from _ (g.D.Disk.faults c.loop-done.disk) _ _ _ c.loop-done.invariant.later c.read_band.ensures.fault_reported.cause (ap is_err c.in_err-read_band.was);
  quiet = λ fine. absurd (fine c.from_residual.ensures.0);
}

pub returns-clause-same : goal.returns-clause-same
returns-clause-same g c = c.loop-done.invariant.files

pub read_band-requires-clause-band : goal.read_band-requires-clause-band
read_band-requires-clause-band g c = c.band_at-band.ensures.band

pub returns-in-Some-clause-none : goal.returns-in-Some-clause-none
returns-in-Some-clause-none g c = λ none. absurd (none_not_some _ _ none refl)

pub returns-in-Some-clause-same : goal.returns-in-Some-clause-same
returns-in-Some-clause-same g c = c.in_ok-read_band.ensures.same ∙ c.loop-done.invariant.files

pub returns-in-Some-clause-fault_reported : goal.returns-in-Some-clause-fault_reported
returns-in-Some-clause-fault_reported g c = record {
  cause = record { later = omega (arith, c.loop-done.invariant.later, c.in_ok-read_band.ensures.fault_reported.cause.later); rose = λ e. absurd (false≢true e) };
  quiet = λ fine. c.in_ok-read_band.ensures.fault_reported.quiet false≢true ∙ c.loop-done.invariant.counted;
}

pub returns-clause-some : goal.returns-clause-some
returns-clause-some g c = λ k some. absurd (none_not_some _ _ refl some)

pub loop-done-init : goal.loop-done-init
loop-done-init g c = record { done = omega arith; fits = λ x told xs inside lt. absurd (omega (arith, lt)); files = refl; later = omega arith; counted = refl }

pub band_at-band-requires : goal.band_at-band-requires
band_at-band-requires g c = subst (λ n. c.loop-done.done < n) c.elements-elements.ensures.elements c.loop-done-test.true

pub returns-in_err-read_band-clause-none : goal.returns-in_err-read_band-clause-none
returns-in_err-read_band-clause-none g c = λ none. absurd (failed_not_ok _ _ c.from_residual.ensures.0 none)

pub returns-in_err-read_band-clause-some : goal.returns-in_err-read_band-clause-some
returns-in_err-read_band-clause-some g c = λ k some. absurd (failed_not_ok _ _ c.from_residual.ensures.0 some)

pub loop-done-smaller : goal.loop-done-smaller
loop-done-smaller g c = omega (arith, c.band_at-band.ensures.band.some, c.loop-done-test.true)
