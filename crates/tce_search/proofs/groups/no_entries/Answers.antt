use Rattle.std.proofs.Common.{◌≡◌, ℕ, ◌+◌, ◌∙◌, ap, arith, List, [], length, replicate}
use Rattle.std.proofs.lemmas.List.{length_push}
use Rattle.std.proofs.lemmas.Result.{err_from_is_err_and}
use Rattle.tce_search.proofs.Grouping.{none_yet, none_further}
use Rattle.tce_search.specs.declared.groups.Entry.{Entry}
use Rattle.tce_search.proofs.groups.no_entries.Goals as goal

pub returns-in_err-lists : goal.returns-in_err-lists
returns-in_err-lists c =
    let p = err_from_is_err_and c.from_residual.result c.from_residual.ensures.1 in
    rw p.1 (record { empty = tt; count = tt })

pub returns-in_err-push : goal.returns-in_err-push
returns-in_err-push c =
    let p = err_from_is_err_and c.from_residual-in_err-push.result c.from_residual-in_err-push.ensures.1 in
    rw p.1 (record { empty = tt; count = tt })

pub loop-init : goal.loop-init
loop-init c = record {
  empty = none_yet c.in_ok-lists.lists.items (λ list. list.items) c.in_ok-lists.ensures.items;
  count = ap length c.in_ok-lists.ensures.items;
}

pub loop-preserved : goal.loop-preserved
loop-preserved c = record {
  empty =
      none_further c.loop.lists.items c.push.new.self.items c.new.result (λ list. list.items) c.loop.counter c.in_ok-push.ensures.items c.new.ensures.items
      c.loop.invariant.empty;
  count = ap length c.in_ok-push.ensures.items ∙ length_push c.loop.lists.items c.new.result ∙ ap (λ n. n + 1) c.loop.invariant.count;
}

pub returns : goal.returns
returns c =
    let done : c.loop.counter ≡ c.args.count = omega (arith, c.loop-test.false, c.loop.auto.counter-end) in
    record { empty = c.loop.invariant.empty ∙ ap (λ (n : ℕ). replicate {A = List Entry} n []) done; count = c.loop.invariant.count ∙ done }
