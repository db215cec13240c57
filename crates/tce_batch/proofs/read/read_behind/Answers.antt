use Rattle.std.proofs.Common.{ℕ, List, ◌++◌, map, arith, ap, ◌∙◌}
use Rattle.std.proofs.lemmas.Result.{IfOk-from_err, err_from_is_err_and}
use Rattle.tce_grammar.specs.Lines.{lines}
use Rattle.tce_grammar.specs.Reading.{line_of}
use Rattle.tce_batch.specs.Reading.{of_lines, as_found}
use Rattle.tce_batch.proofs.Lines.{fault_shown, next_read, all_kept}
use Rattle.tce_batch.proofs.read.read_behind.Goals as goal

pub returns-in_err-read-clause-fault : goal.returns-in_err-read-clause-fault
returns-in_err-read-clause-fault c =
    let d = c.args.declarations.now in
    let p = err_from_is_err_and c.from_residual.result c.from_residual.ensures.1 in
    let is = c.loop-next.invariant.read ∙ ap (λ (ts : List (List ℕ)). as_found d c.loop-next.contractions.items ++ of_lines c.loop-next.number d (map line_of ts)) c.in-Some.ensures.first in
    rw (p.1, p.2) (fault_shown d c.args.contractions.now.items c.loop-next.contractions.items _ c.loop-next.number (line_of c.in-Some.next.now) (map line_of (lines c.in-Some.behind.now)) c.in_err-read.field-0.0 is c.in_err-read.ensures.fault)

pub loop-next-preserved : goal.loop-next-preserved
loop-next-preserved c =
    let d = c.args.declarations.now in
    let cs = c.loop-next.contractions.items in
    let is = c.loop-next.invariant.read ∙ ap (λ (ts : List (List ℕ)). as_found d cs ++ of_lines c.loop-next.number d (map line_of ts)) c.in-Some.ensures.first in
    rw (c.in_ok-keep.ensures) (record {
      read = is ∙ next_read d cs c.loop-next.number (line_of c.in-Some.next.now) (map line_of (lines c.in-Some.behind.now)) c.in_ok-read.read c.in_ok-read.ensures.read;
      kept = all_kept d cs c.in_ok-read.read c.loop-next.invariant.kept c.in_ok-read.ensures.kept;
      few = omega (arith, c.in-Some.ensures.shorter, c.loop-next.invariant.few);
    })

pub returns-in_err-read-clause-kept : goal.returns-in_err-read-clause-kept
returns-in_err-read-clause-kept c = IfOk-from_err c.from_residual.result _ c.from_residual.ensures.0

pub returns-in_err-read-clause-read : goal.returns-in_err-read-clause-read
returns-in_err-read-clause-read c = IfOk-from_err c.from_residual.result _ c.from_residual.ensures.0

pub returns-in_err-keep-clause-kept : goal.returns-in_err-keep-clause-kept
returns-in_err-keep-clause-kept c = IfOk-from_err c.from_residual-in_err-keep.result _ c.from_residual-in_err-keep.ensures.0

pub returns-in_err-keep-clause-read : goal.returns-in_err-keep-clause-read
returns-in_err-keep-clause-read c = IfOk-from_err c.from_residual-in_err-keep.result _ c.from_residual-in_err-keep.ensures.0
