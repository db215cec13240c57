use Rattle.std.proofs.Common.{◌≤◌, ◌^◌, ◌∙◌, sym, subst, arith}
use Rattle.std.specs.List.{All}
use Rattle.std.proofs.lemmas.List.Elements.{All-weaker}
use Rattle.tce_nesting.specs.declared.choice.Choice.{Choice}
use Rattle.tce_search.specs.Candidates.{IsSmall}
use Rattle.tce_search.proofs.Quantifiers.{All-of_reversed}
use Rattle.tce_search.proofs.Operands.{are_operands}
use Rattle.tce_search.proofs.NodeSteps.{refill_reversed, candidates_of_operands_are}
use Rattle.tce_search.proofs.node.candidates_of_node.Goals as goal

pub candidates_of-requires-clause-known : goal.candidates_of-requires-clause-known
candidates_of-requires-clause-known c =
    are_operands c.args.space.now c.args.tree.now c.args.found.now c.args.v (omega arith) c.requires.kept c.requires.inside c.requires.next
    c.loops.result c.of_left-lefts.result.now c.of_right-rights.result.now c.loops.ensures.limit c.of_left-lefts.ensures c.of_right-rights.ensures

pub candidates_of-requires-clause-choices : goal.candidates_of-requires-clause-choices
candidates_of-requires-clause-choices c =
    let choices = c.choices-choices.result.items in
    let turned = c.as_slice.ensures.value ∙ refill_reversed choices _ c.reverse.new.self (c.deref_mut.ensures.value) c.reverse.ensures.after in
    subst (All IsSmall) (sym turned) (All-of_reversed IsSmall choices (All-weaker (λ (choice : Choice). choice.size ≤ 2 ^ 90) IsSmall (λ choice low. omega (arith, low)) choices c.choices-choices.ensures.limit))

pub returns : goal.returns
returns c =
    let turned = c.as_slice.ensures.value ∙ refill_reversed c.choices-choices.result.items _ c.reverse.new.self (c.deref_mut.ensures.value) c.reverse.ensures.after in
    candidates_of_operands_are c.args.space.now c.args.tree.now _ c.args.found.now c.args.v c.outer_loops.result c.loops.result c.choices-choices.result.items c.as_slice.result.now
    c.of_left-lefts.result.now c.of_right-rights.result.now c.candidates_of.result c.requires.kept (omega (arith, c.requires.limits.high)) c.requires.inside c.requires.next c.outer_loops.ensures c.choices-choices.ensures.choices
    c.loops.ensures.value turned c.of_left-lefts.ensures c.of_right-rights.ensures
    c.candidates_of.ensures.covered c.candidates_of.ensures.reached c.candidates_of.ensures.apart
