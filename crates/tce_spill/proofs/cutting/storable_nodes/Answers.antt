use Rattle.std.proofs.Common.{sym, ap, ◌∙◌, arith}
use Rattle.tce_space.specs.IndexSet.{has}
use Rattle.tce_space.proofs.IndexSetLaws.{has-empty}
use Rattle.tce_spill.proofs.Turns.{node_kept, node_more, none_behind, all_cut}
use Rattle.tce_spill.proofs.cutting.storable_nodes.Goals as goal
use Rattle.tce_spill.proofs.cutting.storable_nodes.Goals.{then-storable, else-storable}

pub loop-v-init : goal.loop-v-init
loop-v-init c = record {
  before = λ u low. absurd (omega (arith, low));
  behind = λ u low. has-empty u;
}

pub loop-v-preserved : goal.loop-v-preserved
loop-v-preserved c =
    elim c.if-storable.branch [
      | then-storable w ↦ record {
        before = λ u low. ap (λ n. has n u) w.nodes-is
            ∙ node_more c.args.space.now c.args.tree.now (has c.loop-v.nodes) c.loop-v.v c.loop-v.invariant.before (has w.with_node-nodes.result) w.with_node-nodes.ensures
            (sym c.storable.ensures ∙ w.if-storable.true) u low;
        behind = λ u low. ap (λ n. has n u) w.nodes-is
            ∙ none_behind c.args.space.now c.args.tree.now (has c.loop-v.nodes) c.loop-v.v c.loop-v.invariant.before (has w.with_node-nodes.result) w.with_node-nodes.ensures
            c.loop-v.invariant.behind u low;
      }
      | else-storable w ↦ record {
        before = λ u low. ap (λ n. has n u) w.nodes-is
            ∙ node_kept c.args.space.now c.args.tree.now (has c.loop-v.nodes) c.loop-v.v c.loop-v.invariant.before (sym c.storable.ensures ∙ w.if-storable.false)
            c.loop-v.invariant.behind u low;
        behind = λ u low. ap (λ n. has n u) w.nodes-is ∙ c.loop-v.invariant.behind u (omega (arith, low));
      }
    ]

pub returns : goal.returns
returns c = all_cut c.args.space.now c.args.tree.now (has c.loop-v.nodes) c.loop-v.v (omega arith) c.loop-v.invariant.before c.loop-v.invariant.behind
