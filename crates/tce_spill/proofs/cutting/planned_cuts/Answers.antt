use Rattle.std.proofs.Common.{◌≤◌, length, inr, arith}
use Rattle.std.proofs.lemmas.Result.{err_from_is_err_and}
use Rattle.tce_space.specs.IndexSet.{has}
use Rattle.tce_tree.specs.ContractionTree.{operations}
use Rattle.tce_spill.specs.declared.fault.SpillFault.TheVariants.{TooManyTensors}
use Rattle.tce_spill.proofs.Turns.{all_cut_of, at_first, are_cuts, no_more, one_fault, no_fault}
use Rattle.tce_spill.proofs.cutting.planned_cuts.Goals as goal

pub plan_pieces-requires-clause-all : goal.plan_pieces-requires-clause-all
plan_pieces-requires-clause-all c =
    all_cut_of c.args.spec.now c.space.result.now c.tree.result.now (has c.storable_nodes-nodes.result) c.space.ensures.space c.tree.ensures.tree c.storable_nodes-nodes.ensures

pub returns-in_err-plans-clause-exactly : goal.returns-in_err-plans-clause-exactly
returns-in_err-plans-clause-exactly c due free is =
    let p = err_from_is_err_and c.from_residual.result c.from_residual.ensures.1 in
    rw (p.1, p.2) (one_fault c.args.spec.now c.args.limit c.in_err-plans.field-0.0 due c.in_err-plans.ensures.refused is free)

pub returns-in-Ok-clause-exactly : goal.returns-in-Ok-clause-exactly
returns-in-Ok-clause-exactly c due free is =
    no_fault c.args.spec.now c.args.limit (operations c.args.spec.now.tree) (has c.take_back.new.planned.nodes) due (omega (arith, c.tensor_count.ensures, c.if-tensor_count-gt-MOST_TENSORS.false)) c.in-Ok.ensures.decided free is

pub returns-then-tensor_count-gt-MOST_TENSORS : goal.returns-then-tensor_count-gt-MOST_TENSORS
returns-then-tensor_count-gt-MOST_TENSORS c =
    let many : 32 ≤ length c.args.spec.now.declarations.tensors = omega (arith, c.tensor_count.ensures, c.if-tensor_count-gt-MOST_TENSORS.true) in
    record {
      cuts = tt;
      meet = tt;
      nodes = tt;
      plans = tt;
      refused = many;
      exactly = λ due free is. one_fault c.args.spec.now c.args.limit TooManyTensors due many is free;
    }

pub plan_pieces-requires-clause-names : goal.plan_pieces-requires-clause-names
plan_pieces-requires-clause-names c = c.requires

pub plan_pieces-requires-clause-few : goal.plan_pieces-requires-clause-few
plan_pieces-requires-clause-few c = omega (arith, c.tensor_count.ensures, c.if-tensor_count-gt-MOST_TENSORS.false)

pub returns-in_err-plans-clause-cuts : goal.returns-in_err-plans-clause-cuts
returns-in_err-plans-clause-cuts c =
    let p = err_from_is_err_and c.from_residual.result c.from_residual.ensures.1 in
    rw p.1 tt

pub returns-in_err-plans-clause-meet : goal.returns-in_err-plans-clause-meet
returns-in_err-plans-clause-meet c =
    let p = err_from_is_err_and c.from_residual.result c.from_residual.ensures.1 in
    rw p.1 tt

pub returns-in_err-plans-clause-nodes : goal.returns-in_err-plans-clause-nodes
returns-in_err-plans-clause-nodes c =
    let p = err_from_is_err_and c.from_residual.result c.from_residual.ensures.1 in
    rw p.1 tt

pub returns-in_err-plans-clause-plans : goal.returns-in_err-plans-clause-plans
returns-in_err-plans-clause-plans c =
    let p = err_from_is_err_and c.from_residual.result c.from_residual.ensures.1 in
    rw p.1 tt

pub returns-in_err-plans-clause-refused : goal.returns-in_err-plans-clause-refused
returns-in_err-plans-clause-refused c =
    let p = err_from_is_err_and c.from_residual.result c.from_residual.ensures.1 in
    rw (p.1, p.2) c.in_err-plans.ensures.refused

pub take_back-requires : goal.take_back-requires
take_back-requires c =
    let all = all_cut_of c.args.spec.now c.space.result.now c.tree.result.now (has c.storable_nodes-nodes.result) c.space.ensures.space c.tree.ensures.tree c.storable_nodes-nodes.ensures in
    record {
      names = c.requires;
      few = omega (arith, c.tensor_count.ensures, c.if-tensor_count-gt-MOST_TENSORS.false);
      planned = record {
        decided = at_first c.args.spec.now.declarations.space c.args.spec.now.tree c.args.limit (has c.storable_nodes-nodes.result) all c.in_ok-plans.ensures.meet;
        count = c.in_ok-plans.ensures.count;
        plans = c.in_ok-plans.ensures.plans;
      };
    }

pub returns-in-Ok-clause-cuts : goal.returns-in-Ok-clause-cuts
returns-in-Ok-clause-cuts c = are_cuts c.args.spec.now.declarations.space c.args.spec.now.tree c.args.limit (has c.take_back.new.planned.nodes) c.in-Ok.ensures.decided

pub returns-in-Ok-clause-meet : goal.returns-in-Ok-clause-meet
returns-in-Ok-clause-meet c = c.in-Ok.ensures.decided.meet

pub returns-in-Ok-clause-nodes : goal.returns-in-Ok-clause-nodes
returns-in-Ok-clause-nodes c v past = no_more c.args.spec.now.declarations.space c.args.spec.now.tree c.args.limit (has c.take_back.new.planned.nodes) v c.in-Ok.ensures.decided past

pub returns-in-Ok-clause-plans : goal.returns-in-Ok-clause-plans
returns-in-Ok-clause-plans c = c.in-Ok.ensures.plans

pub returns-in-Ok-clause-refused : goal.returns-in-Ok-clause-refused
returns-in-Ok-clause-refused c = tt

pub returns-in-Err : goal.returns-in-Err
returns-in-Err c = record {
  cuts = tt;
  meet = tt;
  nodes = tt;
  plans = tt;
  refused = tt;
  exactly = λ due free is. inr tt;
}
