use Rattle.std.proofs.Common.{◌≡◌, ◌+◌, ◌<◌, Some, None, ap, ◌∙◌, refl, subst, arith, inl, inr}
use Rattle.std.proofs.lemmas.Bool.{cases_eq, cases_lt, false_from_ne_true, true≢false}
use Rattle.tce_tree.specs.ContractionTree.{in_subtree, operations}
use Rattle.tce_tree.specs.declared.node.Node.{Node}
use Rattle.tce_tree.proofs.Nodes.{size}
use Rattle.tce_tree.proofs.Parents.{parent_exists, parent_found, parent_none, subtree_from, subtree_is}
use Rattle.tce_tree.proofs.tree.Tree.parent.Goals as goal

pub returns-then-u-v-clause-value : goal.returns-then-u-v-clause-value
returns-then-u-v-clause-value c =
    let s : c.node.result.now.size ≡ size c.args.self.now c.loop-u.u = ap (λ (n : Node). n.size) c.node.ensures.value in
    parent_found c.args.self.now c.args.v c.loop-u.u (omega arith) (omega arith)
    (subtree_from c.args.self.now c.loop-u.u c.args.v (omega arith) (omega arith)) c.loop-u.invariant

pub loop-u-preserved : goal.loop-u-preserved
loop-u-preserved c w g l =
    elim (cases_eq w c.loop-u.u) [
      | inl e ↦
          let s : c.node.result.now.size ≡ size c.args.self.now c.loop-u.u = ap (λ (n : Node). n.size) c.node.ensures.value in
          false_from_ne_true (in_subtree c.args.self.now w c.args.v) (λ t.
          let r : c.loop-u.u < c.args.v + size c.args.self.now c.loop-u.u =
          subst (λ x. x < c.args.v + size c.args.self.now x) e (subtree_is c.args.self.now w c.args.v t).1 in
          absurd (omega arith))
      | inr ne ↦ c.loop-u.invariant w g (omega arith)
    ]

pub returns-clause-value : goal.returns-clause-value
returns-clause-value c = parent_none c.args.self.now c.args.v (λ w g l. c.loop-u.invariant w g (omega arith))

pub returns-then-u-v-clause-root : goal.returns-then-u-v-clause-root
returns-then-u-v-clause-root c = ((λ h. absurd (true≢false h)), (λ h. absurd (omega arith)))

pub returns-clause-root : goal.returns-clause-root
returns-clause-root c = (
  (λ h. elim (cases_lt (c.args.v + 1) (operations c.args.self.now)) [
    | inl l ↦
        let up = parent_exists c.args.self.now c.args.v l in
        let k : None ≡ Some up.0 = returns-clause-value c ∙ up.1 in absurd (let k : ⊥ = cc in k)
    | inr g ↦ omega (arith, c.requires)
  ]),
  (λ h. refl),
)
