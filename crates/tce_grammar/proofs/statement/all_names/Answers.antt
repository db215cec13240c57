use Rattle.std.proofs.Common.{map}
use Rattle.tce_grammar.specs.Code.{token}
use Rattle.tce_grammar.specs.Reading.{all_names}
use Rattle.tce_grammar.proofs.Failures.{alone_memory}
use Rattle.tce_grammar.proofs.Lists.{alone_start, alone_more, alone_lost, alone_all}
use Rattle.tce_grammar.proofs.statement.all_names.Goals as goal

pub loop-rest-init : goal.loop-rest-init
loop-rest-init c = alone_start c.new-found.result.items (all_names (map token c.args.tokens.now)) c.new-found.ensures.items

pub loop-rest-preserved : goal.loop-rest-preserved
loop-rest-preserved c =
    alone_more c.loop-rest.found.items c.push.new.self.items (all_names (map token c.args.tokens.now)) c.loop-rest.rest.now _ c.in-Some.name
    c.in-len1-up.len_at_least c.loop-rest.invariant c.in-Some.ensures c.in_ok-push.ensures.items

pub returns-in_default-name_in : goal.returns-in_default-name_in
returns-in_default-name_in c =
    alone_lost c.loop-rest.found.items (all_names (map token c.args.tokens.now)) c.loop-rest.rest.now _ c.in-len1-up.len_at_least c.loop-rest.invariant c.in_default-name_in.ensures

pub returns-in_err-push : goal.returns-in_err-push
returns-in_err-push c = alone_memory c.from_residual.result _ c.from_residual.ensures.1

pub returns : goal.returns
returns c = alone_all c.loop-rest.found.items (all_names (map token c.args.tokens.now)) c.loop-rest.rest.now c.in_default.len_below c.loop-rest.invariant
