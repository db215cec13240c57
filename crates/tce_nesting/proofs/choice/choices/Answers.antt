use Rattle.std.proofs.Common.{◌+◌, ◌≤◌, ◌^◌, length, map, sym, ap, subst, ◌∙◌, arith}
use Rattle.std.specs.List.{All}
use Rattle.tce_space.specs.IndexSet.{count}
use Rattle.tce_tree.specs.ContractionTree.{node_dims, node_loops}
use Rattle.tce_nesting.proofs.SubsetLists.{count_within, dims_within}
use Rattle.std.proofs.lemmas.List.{length_push, take_all}
use Rattle.std.proofs.lemmas.List.Elements.{All-push, All-nil}
use Rattle.tce_nesting.specs.declared.choice.Choice.{Choice}
use Rattle.tce_nesting.specs.Choices.{LeavesSize}
use Rattle.tce_nesting.specs.Subsets.{AreSubsets}
use Rattle.tce_nesting.proofs.ChoiceLists.{fused_further}
use Rattle.tce_nesting.proofs.choice.choices.Goals as goal

pub subsets-requires : goal.subsets-requires
subsets-requires c =
    let tree = c.args.tree.now in
    let v = c.args.v in
    let few : count (node_loops tree v) ≤ 10 = rw (← c.loops-loops.ensures.value) c.loops-loops.ensures.limit in
    let less : count (node_dims tree v) ≤ count (node_loops tree v) = count_within (node_dims tree v) (node_loops tree v) (dims_within tree v c.requires.inside) in
    rw c.dims-dims.ensures (omega (arith, few, less))

pub loop-fused-init : goal.loop-fused-init
loop-fused-init c =
    let sized = LeavesSize c.args.space.now c.args.tree.now c.args.v in
    let low = λ (choice : Choice). choice.size ≤ 2 ^ 90 in
    record {
      sets = ap (map (λ (choice : Choice). choice.fused)) c.new-choices.ensures;
      sizes = subst (All sized) (sym c.new-choices.ensures) (All-nil sized);
      limit = subst (All low) (sym c.new-choices.ensures) (All-nil low);
      count = ap length c.new-choices.ensures;
    }

pub choice_of-requires-clause-measured : goal.choice_of-requires-clause-measured
choice_of-requires-clause-measured c = c.requires.measured

pub choice_of-requires-clause-inside : goal.choice_of-requires-clause-inside
choice_of-requires-clause-inside c = c.requires.inside

pub loop-fused-preserved : goal.loop-fused-preserved
loop-fused-preserved c =
    let sized = LeavesSize c.args.space.now c.args.tree.now c.args.v in
    let low = λ (choice : Choice). choice.size ≤ 2 ^ 90 in
    let old = c.loop-fused.choices.items in
    let last = c.choice_of.result in
    let grown = c.push.ensures.items in
    record {
      sets =
          fused_further old c.push.new.self.items last c.as_slice-fused-items.result.now c.loop-fused.fused-index c.fused-item.result grown c.choice_of.ensures.fused
          c.loop-fused-test.true c.fused-item.is c.loop-fused.invariant.sets;
      sizes = subst (All sized) (sym grown) (All-push sized old last c.loop-fused.invariant.sizes c.choice_of.ensures.size);
      limit = subst (All low) (sym grown) (All-push low old last c.loop-fused.invariant.limit c.choice_of.ensures.limit);
      count = ap length grown ∙ length_push old last ∙ ap (λ n. n + 1) c.loop-fused.invariant.count;
    }

pub returns-clause-choices : goal.returns-clause-choices
returns-clause-choices c =
    let all = c.loop-fused.invariant.sets ∙ take_all c.loop-fused.fused-index c.as_slice-fused-items.result.now c.loop-fused-test.false ∙ c.as_slice-fused-items.ensures.value in
    record {
      sets = subst (AreSubsets (node_dims c.args.tree.now c.args.v)) (sym all) (subst (λ dims. AreSubsets dims c.subsets.result.items) c.dims-dims.ensures c.subsets.ensures);
      sizes = c.loop-fused.invariant.sizes;
    }

pub returns-clause-limit : goal.returns-clause-limit
returns-clause-limit c = c.loop-fused.invariant.limit
