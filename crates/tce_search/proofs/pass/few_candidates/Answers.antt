use Rattle.std.proofs.lemmas.Result.{err_from_is_err_and}
use Rattle.std.proofs.Common.{◌+◌, refl, ap, ◌∙◌}
use Rattle.std.proofs.lemmas.List.{length_push}
use Rattle.tce_search.proofs.Growing.{more_kept, none_kept, some_kept}
use Rattle.tce_search.proofs.pass.few_candidates.Goals as goal

pub loop-v-preserved : goal.loop-v-preserved
loop-v-preserved c =
    let space = c.args.space.now in
    let tree = c.args.tree.now in
    let found = c.loop-v.found in
    let kept = c.loop-v.invariant in
    let few = c.in_ok-few.few.items in
    let here = some_kept space tree found.least c.loop-v.v found.lists c.in_ok-candidates.candidates.items few kept.count c.in_ok-candidates.ensures c.in_ok-few.ensures in
    rw c.in_ok-push.ensures (record {
      count = length_push found.lists few ∙ ap (λ n. n + 1) kept.count;
      kept = more_kept space tree found few c.loop-v.v kept.count kept.kept here;
      least = kept.least;
    })

pub returns-in_err-aheads-clause-count : goal.returns-in_err-aheads-clause-count
returns-in_err-aheads-clause-count c =
    let p = err_from_is_err_and c.from_residual.result c.from_residual.ensures.1 in
    rw p.1 tt

pub returns-in_err-aheads-clause-kept : goal.returns-in_err-aheads-clause-kept
returns-in_err-aheads-clause-kept c =
    let p = err_from_is_err_and c.from_residual.result c.from_residual.ensures.1 in
    rw p.1 tt

pub returns-in_err-candidates-clause-count : goal.returns-in_err-candidates-clause-count
returns-in_err-candidates-clause-count c =
    let p = err_from_is_err_and c.from_residual-in_err-candidates.result c.from_residual-in_err-candidates.ensures.1 in
    rw p.1 tt

pub returns-in_err-candidates-clause-kept : goal.returns-in_err-candidates-clause-kept
returns-in_err-candidates-clause-kept c =
    let p = err_from_is_err_and c.from_residual-in_err-candidates.result c.from_residual-in_err-candidates.ensures.1 in
    rw p.1 tt

pub returns-in_err-few-clause-count : goal.returns-in_err-few-clause-count
returns-in_err-few-clause-count c =
    let p = err_from_is_err_and c.from_residual-in_err-few.result c.from_residual-in_err-few.ensures.1 in
    rw p.1 tt

pub returns-in_err-few-clause-kept : goal.returns-in_err-few-clause-kept
returns-in_err-few-clause-kept c =
    let p = err_from_is_err_and c.from_residual-in_err-few.result c.from_residual-in_err-few.ensures.1 in
    rw p.1 tt

pub returns-in_err-push-clause-count : goal.returns-in_err-push-clause-count
returns-in_err-push-clause-count c =
    let p = err_from_is_err_and c.from_residual-in_err-push.result c.from_residual-in_err-push.ensures.1 in
    rw p.1 tt

pub returns-in_err-push-clause-kept : goal.returns-in_err-push-clause-kept
returns-in_err-push-clause-kept c =
    let p = err_from_is_err_and c.from_residual-in_err-push.result c.from_residual-in_err-push.ensures.1 in
    rw p.1 tt

pub loop-v-init : goal.loop-v-init
loop-v-init c =
    rw c.new-found.ensures (record { count = refl; kept = none_kept c.args.space.now c.args.tree.now 0; least = refl })

pub candidates_of_node-requires-clause-measured : goal.candidates_of_node-requires-clause-measured
candidates_of_node-requires-clause-measured c = c.requires.measured

pub candidates_of_node-requires-clause-next : goal.candidates_of_node-requires-clause-next
candidates_of_node-requires-clause-next c = c.loop-v.invariant.count

pub candidates_of_node-requires-clause-kept : goal.candidates_of_node-requires-clause-kept
candidates_of_node-requires-clause-kept c = c.loop-v.invariant.kept

pub returns-clause-kept : goal.returns-clause-kept
returns-clause-kept c = c.loop-v.invariant.kept
