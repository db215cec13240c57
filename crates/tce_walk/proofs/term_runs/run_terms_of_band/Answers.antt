use Rattle.std.proofs.Common.{◌<◌, All, length, map, refl, sym, ap, ap₂, ◌∙◌, subst, rules}
use Rattle.tce_space.specs.Space.{extent_at, edge_at}
use Rattle.tce_block.specs.Cuts.{extents_of, edges_of, part_of}
use Rattle.tce_block.specs.Grouped.{grouped_blocks}
use Rattle.tce_code.specs.Execution.{Setting}
use Rattle.tce_walk.specs.Machine.{assignment_of}
use Rattle.tce_walk.specs.Positions.{program_at}
use Rattle.tce_walk.specs.Run.{RunsOver}
use Rattle.tce_walk.proofs.BandRuns.{each-declared}
use Rattle.tce_walk.proofs.GroupedBands.{sizes-within}
use Rattle.tce_walk.proofs.TermBlocks.{Names, combination_asks, term_blocks-begin, term_blocks-next, term_block-few, term_block-is}
use Rattle.tce_walk.proofs.Walking.{over-later}
use Rattle.tce_walk.proofs.term_runs.run_terms_of_band.Goals as goal

pub cuts_of-cuts-requires-clause-declared : goal.cuts_of-cuts-requires-clause-declared
cuts_of-cuts-requires-clause-declared g c =
    subst (All (λ i. i < length c.args.walk.now.space.now.indexes)) (sym c.as_slice-3.ensures.value)
    (each-declared c.args.walk.now.space.now c.args.walk.now.tree.now (program_at c.args.walk.now.ops.now c.args.band.now.at) c.args.band.now.loops.0.items (assignment_of c.args.numbers.now) c.requires.limits c.requires.over.measured c.requires.part)

pub loop-sum-init : goal.loop-sum-init
loop-sum-init g c = record {
  setting = refl;
  space = refl;
  ready = c.requires.ready;
  kept = g.met.M.Machine.keeps_own c.args.machine.now;
  counted = refl;
  left =
      let extents = c.cuts_of-cuts.ensures.extents ∙ ap (map (extent_at c.args.walk.now.space.now)) c.as_slice-3.ensures.value in
      let edges = c.cuts_of-cuts.ensures.edges ∙ ap (map (edge_at c.args.walk.now.space.now)) c.as_slice-3.ensures.value in
      term_blocks-begin c.args.walk.now.space.now c.args.walk.now.tree.now c.args.walk.now.fusion.now.0.items (g.M.Machine.space c.args.machine.now) (g.M.Machine.setting c.args.machine.now)
      c.args.walk.now.ops.now c.args.band.now c.args.terms.now (assignment_of c.args.numbers.now) (edges_of c.group_sizes-sizes.result.items) c.new-parts.result (g.M.Machine.state c.args.machine.now)
      (g.M.Machine.touches c.args.machine.now) c.requires.over c.requires.fused c.requires.terms
      (sizes-within c.as_slice-5.result.now c.group_sizes-sizes.result.items _ _ c.group_sizes-sizes.ensures.cuts c.group_sizes-sizes.ensures.counts
      (ap extents_of c.as_slice-5.ensures.value ∙ extents) (ap edges_of c.as_slice-5.ensures.value ∙ edges))
      (c.new-parts.ensures ∙ ap₂ (λ ns es. grouped_blocks ns es (edges_of c.group_sizes-sizes.result.items)) extents edges);
}

pub run_terms-requires-clause-terms : goal.run_terms-requires-clause-terms
run_terms-requires-clause-terms g c =
    let over : RunsOver c.args.walk.now.space.now c.args.walk.now.tree.now (g.M.Machine.space c.loop-sum.machine) (g.M.Machine.setting c.loop-sum.machine) =
    over-later c.loop-sum.invariant.space c.loop-sum.invariant.setting c.requires.over in
    let named : Names (record { node = c.args.band.now.carrier; loops = c.as_slice.result; terms = c.as_slice-2.result; scale = c.args.terms.now.scale }) c.args.band.now c.args.terms.now =
    record { node_is = refl; loops_are = c.as_slice.ensures.value; terms_are = c.as_slice-2.ensures.value; scale_is = refl } in
    combination_asks c.args.walk.now.space.now c.args.walk.now.tree.now c.args.walk.now.fusion.now.0.items (g.M.Machine.space c.loop-sum.machine) (g.M.Machine.setting c.loop-sum.machine)
    c.args.walk.now.ops.now c.args.band.now c.args.terms.now _ (part_of c.next_in.new.block) (assignment_of c.args.numbers.now) named over
    (ap (λ (s : Setting). s.fusion) c.loop-sum.invariant.setting ∙ c.requires.fused) c.requires.terms (term_block-is (part_of c.next_in.new.block) (sym c.loop-sum-test.ensures.block) c.loop-sum.invariant.left)

pub run_terms-requires-clause-few : goal.run_terms-requires-clause-few
run_terms-requires-clause-few g c =
    term_block-few c.args.walk.now.space.now (g.M.Machine.space c.loop-sum.machine) (g.M.Machine.setting c.args.machine.now) c.args.band.now.carrier c.args.band.now.loops.0.items
    c.args.terms.now.terms.items c.as_slice-2.result.now (assignment_of c.args.numbers.now) c.loop-sum.parts (part_of c.next_in.new.block) (g.M.Machine.state c.args.machine.now) (g.M.Machine.state c.loop-sum.machine)
    (g.M.Machine.touches c.args.machine.now) (g.M.Machine.touches c.loop-sum.machine) (c.loop-sum.invariant.space ∙ c.requires.over.space_is) c.as_slice-2.ensures.value (sym c.loop-sum-test.ensures.block)
    c.loop-sum.invariant.left c.requires.few

pub loop-sum-preserved : goal.loop-sum-preserved
loop-sum-preserved g c = record {
  setting = c.run_terms.ensures.upheld.setting ∙ c.loop-sum.invariant.setting;
  space = c.run_terms.ensures.upheld.space ∙ c.loop-sum.invariant.space;
  ready = (c.in_ok-run_terms.ensures).ready;
  kept = g.met.M.Machine.keeps_on c.args.machine.now c.loop-sum.machine c.run_terms.new.self c.loop-sum.invariant.kept c.run_terms.ensures.upheld.kept;
  counted = (c.in_ok-run_terms.ensures).upheld.fault_reported.quiet (search rules) ∙ c.loop-sum.invariant.counted;
  left =
      term_blocks-next c.args.walk.now.space.now (g.M.Machine.space c.loop-sum.machine) (g.M.Machine.setting c.args.machine.now) (g.M.Machine.setting c.loop-sum.machine) c.args.band.now.carrier
      c.args.band.now.loops.0.items c.args.terms.now.terms.items (assignment_of c.args.numbers.now)
      (record { node = c.args.band.now.carrier; loops = c.as_slice.result; terms = c.as_slice-2.result; scale = c.args.terms.now.scale }) c.loop-sum.parts c.next_in.new.self (part_of c.next_in.new.block)
      (g.M.Machine.state c.args.machine.now) (g.M.Machine.state c.loop-sum.machine) (g.M.Machine.state c.run_terms.new.self)
      (g.M.Machine.touches c.args.machine.now) (g.M.Machine.touches c.loop-sum.machine) (g.M.Machine.touches c.run_terms.new.self) c.loop-sum.invariant.setting
      (c.loop-sum.invariant.space ∙ c.requires.over.space_is) refl c.as_slice.ensures.value c.as_slice-2.ensures.value (sym c.loop-sum-test.ensures.block) c.next_in.ensures.rest c.loop-sum.invariant.left
      (c.in_ok-run_terms.ensures).state (c.in_ok-run_terms.ensures).touches;
}
