use Rattle.std.proofs.Common.{subst}
use Rattle.std.specs.List.{All, Contains}
use Rattle.std.proofs.lemmas.List.Elements.{All-nil, All-push, All-contains_itself}
use Rattle.tce_search.proofs.Quantifiers.{All-front, All-last}
use Rattle.tce_search.proofs.fewer.last_of_each.Goals as goal

pub loop-candidate-init : goal.loop-candidate-init
loop-candidate-init c =
    let all = c.args.candidates.items in
    record { rest = All-contains_itself all; kept = rw c.new-kept.ensures.items (All-nil (Contains all)) }

pub loop-candidate-preserved-then-len-full : goal.loop-candidate-preserved-then-len-full
loop-candidate-preserved-then-len-full c =
    let all = c.args.candidates.items in
    let rest = c.pop.new.self.items in
    let last = c.in-Some.candidate in
    let kept = c.loop-candidate.kept.items in
    let among = subst (All (Contains all)) c.in-Some.ensures.items c.loop-candidate.invariant.rest in
    let more = All-push (Contains all) kept last c.loop-candidate.invariant.kept (All-last (Contains all) rest last among) in
    record { rest = All-front (Contains all) rest last among; kept = rw c.in_ok-push.ensures.items more }

pub loop-candidate-preserved : goal.loop-candidate-preserved
loop-candidate-preserved c =
    let all = c.args.candidates.items in
    let among = subst (All (Contains all)) c.in-Some.ensures.items c.loop-candidate.invariant.rest in
    record { rest = All-front (Contains all) c.pop.new.self.items c.in-Some.candidate among; kept = c.loop-candidate.invariant.kept }
