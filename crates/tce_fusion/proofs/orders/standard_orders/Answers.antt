use Rattle.std.proofs.Common.{◌≡◌, ◌<◌, ◌∙◌, arith, subst, AllPairs, IsPermutation}
use Rattle.std.proofs.lemmas.List.{length-map}
use Rattle.tce_space.specs.IndexSet.{members}
use Rattle.tce_space.specs.declared.loop_order.LoopOrder.{LoopOrder}
use Rattle.tce_tree.specs.ContractionTree.{operations, node_loops}
use Rattle.tce_fusion.specs.Scope.{IsStandardAt, StandsBefore}
use Rattle.tce_fusion.specs.Tops.{row, size_in}
use Rattle.tce_fusion.proofs.Inserting.{members_below}
use Rattle.tce_fusion.proofs.Pushed.{pushed}
use Rattle.tce_fusion.proofs.Standard.{carried_by_standard}
use Rattle.tce_fusion.proofs.Tops.{standard_told}
use Rattle.tce_fusion.proofs.orders.standard_orders.Goals as goal

pub loop-v-preserved : goal.loop-v-preserved
loop-v-preserved c =
    let inside : c.loop-v.v < operations c.args.tree.now = omega arith in
    let sorted : AllPairs (StandsBefore (λ i. size_in (operations c.args.tree.now) (row c.scopes_of-scopes.result.0 i) c.loop-v.v)) c.standard_order.result.0.items =
    subst (λ n. AllPairs (StandsBefore (λ i. size_in n (row c.scopes_of-scopes.result.0 i) c.loop-v.v)) c.standard_order.result.0.items) c.count-count.ensures.value c.standard_order.ensures.standard in
    record {
      each = omega (arith, c.push.ensures.len, c.loop-v.invariant.each);
      permute = pushed (λ w order. IsPermutation (members (node_loops c.args.tree.now w)) order) c.loop-v.orders.items c.push.new.self.items c.standard_order.result c.loop-v.v
          c.push.ensures.items c.loop-v.invariant.each c.loop-v.invariant.permute
          (subst (λ s. IsPermutation (members s) c.standard_order.result.0.items) c.loops.ensures.value c.standard_order.ensures.permutes);
      standard = pushed (λ w order. IsStandardAt c.args.tree.now c.args.fusion.now.0.items w order) c.loop-v.orders.items c.push.new.self.items c.standard_order.result c.loop-v.v
          c.push.ensures.items c.loop-v.invariant.each c.loop-v.invariant.standard
          (standard_told c.args.tree.now c.args.fusion.now.0.items c.scopes_of-scopes.result.0 c.loop-v.v c.standard_order.result.0.items c.scopes_of-scopes.ensures inside
          (members_below c.loops.result c.standard_order.result.0.items c.standard_order.ensures.permutes) sorted);
    }

pub returns-clause-carried : goal.returns-clause-carried
returns-clause-carried c =
    let all : c.loop-v.v ≡ operations c.args.tree.now = omega arith in
    carried_by_standard c.args.tree.now c.args.fusion.now.0.items _ c.requires.fits
    (record { each = length-map c.loop-v.orders.items (λ (o : LoopOrder). o.0.items) ∙ c.loop-v.invariant.each ∙ all; permute = λ w l. c.loop-v.invariant.permute w (omega arith) })
    c.requires.legal (λ w l. c.loop-v.invariant.standard w (omega arith))
