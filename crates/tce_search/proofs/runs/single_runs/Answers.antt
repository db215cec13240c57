use Rattle.std.proofs.lemmas.Result.{err_from_is_err_and}
use Rattle.std.proofs.Common.{◌≡◌, ◌+◌, ◌<◌, ◌∙◌, ap, subst, arith, length}
use Rattle.std.proofs.lemmas.List.{length_push}
use Rattle.tce_nesting.specs.Ends.{IsAlone}
use Rattle.tce_nesting.proofs.RunParts.{run_alone}
use Rattle.tce_search.specs.Laws.{rows_of}
use Rattle.tce_search.proofs.RunParts.{rows_count, row_at, runs_further}
use Rattle.tce_search.proofs.runs.single_runs.Goals as goal

pub loop-candidate-preserved : goal.loop-candidate-preserved
loop-candidate-preserved c =
    let old = c.loop-candidate.runs.items in
    let k = c.loop-candidate.candidate-index in
    let candidates = c.args.candidates.now in
    let rows = rows_of candidates in
    let row = c.candidate-item.result.row in
    let last = c.alone-run.result in
    let at : c.len.result ≡ k = omega (arith, c.len.ensures, c.loop-candidate.invariant.count, c.loop-candidate.runs.ok.0) in
    let low : k < length rows = omega (arith, c.loop-candidate-test.true, rows_count candidates) in
    let run = run_alone c.args.loops k rows row last low (row_at candidates k c.candidate-item.result c.loop-candidate-test.true c.candidate-item.is)
    (subst (λ n. IsAlone c.args.loops row n last) at c.alone-run.ensures) in
    record {
      count = ap (λ xs. length xs) c.in_ok-push.ensures.items ∙ length_push old last ∙ ap (λ n. n + 1) c.loop-candidate.invariant.count;
      each = runs_further c.args.loops k rows old c.push.new.self.items last c.in_ok-push.ensures.items c.loop-candidate.invariant.count run c.loop-candidate.invariant.each;
    }

pub returns-in_err-runs : goal.returns-in_err-runs
returns-in_err-runs c =
    let p = err_from_is_err_and c.from_residual.result c.from_residual.ensures.1 in
    rw p.1 tt

pub returns-in_err-push : goal.returns-in_err-push
returns-in_err-push c =
    let p = err_from_is_err_and c.from_residual-in_err-push.result c.from_residual-in_err-push.ensures.1 in
    rw p.1 tt

pub loop-candidate-init : goal.loop-candidate-init
loop-candidate-init c = record {
  count = ap length c.in_ok-runs.ensures.items;
  each = λ k r low. absurd (omega (arith, low));
}

pub returns : goal.returns
returns c =
    let all = rows_count c.args.candidates.now in
    let done = c.loop-candidate.auto.candidate-index-end in
    record {
      count = omega (arith, all, done, c.loop-candidate-test.false, c.loop-candidate.invariant.count);
      each = λ k r low. c.loop-candidate.invariant.each k r (omega (arith, low, all, c.loop-candidate-test.false));
    }
