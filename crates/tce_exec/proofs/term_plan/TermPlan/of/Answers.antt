use Rattle.std.proofs.Common.{◌<◌, ◌∙◌, map, length, sym, ap, subst}
use Rattle.std.specs.List.{All}
use Rattle.tce_space.specs.Space.{edge_at}
use Rattle.tce_exec.specs.Evaluations.{places_of}
use Rattle.tce_exec.specs.Loops.{AreLoops}
use Rattle.tce_exec.proofs.TermTurns.{outer_edge_loops, all_edge_loops, all_declared, outer_declared, inner_declared}
use Rattle.tce_exec.proofs.term_plan.TermPlan.of.Goals as goal

pub cuts_of-cuts-requires-clause-declared : goal.cuts_of-cuts-requires-clause-declared
cuts_of-cuts-requires-clause-declared c = inner_declared (places_of c.args.evaluation.now) c.args.run.now c.requires.run

pub edges_of_loops-edges-requires-clause-declared : goal.edges_of_loops-edges-requires-clause-declared
edges_of_loops-edges-requires-clause-declared c =
    subst (All (λ i. i < length c.args.evaluation.now.space.now.indexes)) (sym (c.as_slice.ensures.value ∙ c.joined_loops-loops.ensures)) (all_declared (places_of c.args.evaluation.now) c.args.run.now c.requires.run)

pub of-sequence-requires-clause-loops : goal.of-sequence-requires-clause-loops
of-sequence-requires-clause-loops c =
    subst (λ ls. AreLoops ls c.as_slice-3.result.now) (sym (c.as_slice-2.ensures.value ∙ c.joined_loops-loops.ensures))
    (subst (AreLoops _) (sym (c.as_slice-3.ensures.value ∙ c.edges_of_loops-edges.ensures ∙ ap (map (edge_at c.args.evaluation.now.space.now)) (c.as_slice.ensures.value ∙ c.joined_loops-loops.ensures)))
    (all_edge_loops (places_of c.args.evaluation.now) c.args.run.now c.requires.run))

pub edges_of_loops-outer_edges-requires-clause-declared : goal.edges_of_loops-outer_edges-requires-clause-declared
edges_of_loops-outer_edges-requires-clause-declared c = outer_declared (places_of c.args.evaluation.now) c.args.run.now c.requires.run

pub of-places-requires-clause-loops : goal.of-places-requires-clause-loops
of-places-requires-clause-loops c =
    subst (AreLoops c.args.run.now.order.now) (sym (c.as_slice-4.ensures.value ∙ c.edges_of_loops-outer_edges.ensures)) (outer_edge_loops (places_of c.args.evaluation.now) c.args.run.now c.requires.run)
