use Rattle.std.proofs.Common.{arith, map}
use Rattle.std.proofs.lemmas.Result.{IfOk-from_err}
use Rattle.tce_grammar.specs.Code.{token, names}
use Rattle.tce_grammar.specs.Reading.{names_at}
use Rattle.tce_grammar.proofs.Failures.{names_memory}
use Rattle.tce_grammar.proofs.Lists.{part_shorter, pushed_none, pushed_more, pushed_last, names_lost}
use Rattle.tce_grammar.proofs.parser.names_up_to.Goals as goal

pub loop-name-init : goal.loop-name-init
loop-name-init c = record {
  same = pushed_none c.new-found.result.items (names_at c.args.close (map token c.args.tokens.now)) c.new-found.ensures.items;
  shorter = omega arith;
}

pub loop-name-preserved : goal.loop-name-preserved
loop-name-preserved c = record {
  same = pushed_more c.args.close c.loop-name.found.items c.push.new.self.items (names_at c.args.close (map token c.args.tokens.now)) c.loop-name.rest.now c.in-Some.name
      c.loop-name.invariant.same c.in-Some.ensures.read c.in_ok-push.ensures.items;
  shorter = omega (arith, part_shorter c.loop-name.rest.now c.args.tokens.now c.in-Some.ensures.both c.loop-name.invariant.shorter);
}

pub slice_bounds-rest-count : goal.slice_bounds-rest-count
slice_bounds-rest-count c = c.in-Some.ensures.both

pub slice_bounds-result-count : goal.slice_bounds-result-count
slice_bounds-result-count c = c.in-Some-name_before.ensures.both

pub loop-name-smaller : goal.loop-name-smaller
loop-name-smaller c = part_shorter c.loop-name.rest.now c.loop-name.rest.now c.in-Some.ensures.both (omega arith)

pub returns-in_err-push-clause-read : goal.returns-in_err-push-clause-read
returns-in_err-push-clause-read c = names_memory c.from_residual.result _ c.from_residual.ensures.1

pub returns-in_err-push-clause-shorter : goal.returns-in_err-push-clause-shorter
returns-in_err-push-clause-shorter c = IfOk-from_err c.from_residual.result _ c.from_residual.ensures.0

pub returns-in_default-name_before-clause-read : goal.returns-in_default-name_before-clause-read
returns-in_default-name_before-clause-read c =
    names_lost c.args.close (names c.loop-name.found.items) (names_at c.args.close (map token c.args.tokens.now)) (map token c.loop-name.rest.now)
    c.loop-name.invariant.same c.in_default.ensures.read c.in_default-name_before.ensures.read

pub returns-in_err-push-2-clause-read : goal.returns-in_err-push-2-clause-read
returns-in_err-push-2-clause-read c = names_memory c.from_residual-in_err-push-2.result _ c.from_residual-in_err-push-2.ensures.1

pub returns-in_err-push-2-clause-shorter : goal.returns-in_err-push-2-clause-shorter
returns-in_err-push-2-clause-shorter c = IfOk-from_err c.from_residual-in_err-push-2.result _ c.from_residual-in_err-push-2.ensures.0

pub returns-clause-read : goal.returns-clause-read
returns-clause-read c =
    pushed_last c.args.close c.loop-name.found.items c.push-2.new.self.items (names_at c.args.close (map token c.args.tokens.now)) c.loop-name.rest.now c.in-Some-name_before.last
    c.loop-name.invariant.same c.in_default.ensures.read c.in-Some-name_before.ensures.read c.in_ok-push-2.ensures.items

pub returns-clause-shorter : goal.returns-clause-shorter
returns-clause-shorter c = part_shorter c.loop-name.rest.now c.args.tokens.now c.in-Some-name_before.ensures.both c.loop-name.invariant.shorter
