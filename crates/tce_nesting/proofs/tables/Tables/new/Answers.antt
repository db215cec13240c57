use Rattle.std.proofs.lemmas.Result.{err_from_is_err_and}
use Rattle.std.proofs.Common.{◌+◌, ◌∙◌, ap, length}
use Rattle.std.proofs.lemmas.List.{length_push}
use Rattle.tce_nesting.proofs.RowLists.{empty_further}
use Rattle.tce_nesting.proofs.tables.Tables.new.Goals as goal

pub returns-in_err-all : goal.returns-in_err-all
returns-in_err-all c =
    let p = err_from_is_err_and c.from_residual.result c.from_residual.ensures.1 in
    rw p.1 tt

pub returns-in_err-push : goal.returns-in_err-push
returns-in_err-push c =
    let p = err_from_is_err_and c.from_residual-in_err-push.result c.from_residual-in_err-push.ensures.1 in
    rw p.1 tt

pub loop-preserved : goal.loop-preserved
loop-preserved c = record {
  empty =
      empty_further c.loop.all.items c.push.new.self.items c.new.result (λ list. list.items) c.loop.counter c.in_ok-push.ensures.items c.new.ensures.items
      c.loop.invariant.empty;
  count = ap length c.in_ok-push.ensures.items ∙ length_push c.loop.all.items c.new.result ∙ ap (λ n. n + 1) c.loop.invariant.count;
}
