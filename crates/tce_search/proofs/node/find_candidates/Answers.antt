use Rattle.std.proofs.lemmas.Result.{err_from_is_err_and}
use Rattle.std.proofs.Common.{◌+◌, ◌<◌, ap, ◌∙◌, arith}
use Rattle.std.proofs.lemmas.List.{length_push}
use Rattle.tce_tree.specs.ContractionTree.{operations}
use Rattle.tce_search.proofs.Growing.{one_more, found_kept}
use Rattle.tce_search.proofs.node.find_candidates.Goals as goal

pub candidates_of_node-requires-clause-kept : goal.candidates_of_node-requires-clause-kept
candidates_of_node-requires-clause-kept c = found_kept c.args.space.now c.args.tree.now c.loop-v.found c.loop-v.invariant.found

pub loop-v-preserved : goal.loop-v-preserved
loop-v-preserved c =
    let found = c.loop-v.found in
    let kept = c.loop-v.invariant in
    let more = c.in_ok-candidates.candidates.items in
    let inside : c.loop-v.v < operations c.args.tree.now = omega arith in
    rw c.in_ok-push.ensures (record {
      count = length_push found.lists more ∙ ap (λ n. n + 1) kept.count;
      found = one_more c.args.space.now c.args.tree.now found more c.loop-v.v kept.count inside kept.found c.in_ok-candidates.ensures;
      plain = kept.plain;
      same = c.learn.ensures.ceiling ∙ kept.same;
      learns = c.learn.ensures.learns ∙ kept.learns;
      small = kept.small;
    })

pub returns-in_err-aheads-clause-count : goal.returns-in_err-aheads-clause-count
returns-in_err-aheads-clause-count c =
    let p = err_from_is_err_and c.from_residual.result c.from_residual.ensures.1 in
    rw p.1 tt

pub returns-in_err-aheads-clause-found : goal.returns-in_err-aheads-clause-found
returns-in_err-aheads-clause-found c =
    let p = err_from_is_err_and c.from_residual.result c.from_residual.ensures.1 in
    rw p.1 tt

pub returns-in_err-aheads-clause-plain : goal.returns-in_err-aheads-clause-plain
returns-in_err-aheads-clause-plain c =
    let p = err_from_is_err_and c.from_residual.result c.from_residual.ensures.1 in
    rw p.1 (λ _. tt)

pub returns-in_err-candidates-clause-count : goal.returns-in_err-candidates-clause-count
returns-in_err-candidates-clause-count c =
    let p = err_from_is_err_and c.from_residual-in_err-candidates.result c.from_residual-in_err-candidates.ensures.1 in
    rw p.1 tt

pub returns-in_err-candidates-clause-found : goal.returns-in_err-candidates-clause-found
returns-in_err-candidates-clause-found c =
    let p = err_from_is_err_and c.from_residual-in_err-candidates.result c.from_residual-in_err-candidates.ensures.1 in
    rw p.1 tt

pub returns-in_err-candidates-clause-plain : goal.returns-in_err-candidates-clause-plain
returns-in_err-candidates-clause-plain c =
    let p = err_from_is_err_and c.from_residual-in_err-candidates.result c.from_residual-in_err-candidates.ensures.1 in
    rw p.1 (λ _. tt)

pub returns-in_err-push-clause-count : goal.returns-in_err-push-clause-count
returns-in_err-push-clause-count c =
    let p = err_from_is_err_and c.from_residual-in_err-push.result c.from_residual-in_err-push.ensures.1 in
    rw p.1 tt

pub returns-in_err-push-clause-found : goal.returns-in_err-push-clause-found
returns-in_err-push-clause-found c =
    let p = err_from_is_err_and c.from_residual-in_err-push.result c.from_residual-in_err-push.ensures.1 in
    rw p.1 tt

pub returns-in_err-push-clause-plain : goal.returns-in_err-push-clause-plain
returns-in_err-push-clause-plain c =
    let p = err_from_is_err_and c.from_residual-in_err-push.result c.from_residual-in_err-push.ensures.1 in
    rw p.1 (λ _. tt)

pub candidates_of_node-requires-clause-measured : goal.candidates_of_node-requires-clause-measured
candidates_of_node-requires-clause-measured c = c.requires.measured

pub candidates_of_node-requires-clause-next : goal.candidates_of_node-requires-clause-next
candidates_of_node-requires-clause-next c = c.loop-v.invariant.count

pub returns-clause-found : goal.returns-clause-found
returns-clause-found c = c.loop-v.invariant.found

pub returns-clause-plain : goal.returns-clause-plain
returns-clause-plain c = c.loop-v.invariant.plain

pub returns-clause-same : goal.returns-clause-same
returns-clause-same c = c.loop-v.invariant.same

pub returns-clause-learns : goal.returns-clause-learns
returns-clause-learns c = c.loop-v.invariant.learns
