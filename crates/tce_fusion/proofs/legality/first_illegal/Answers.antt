use Rattle.std.proofs.Common.{sym, ◌∙◌, subst, ap, arith, inl, inr, refl}
use Rattle.std.proofs.lemmas.Bool.{cases_eq, true≢false}
use Rattle.tce_space.specs.IndexSet.{has}
use Rattle.tce_fusion.specs.Scope.{IsIllegalAt}
use Rattle.tce_fusion.specs.Tops.{AreNested, joined, row}
use Rattle.tce_fusion.proofs.Illegal.{legal_from_none, none_from_legal}
use Rattle.tce_fusion.proofs.Tops.{illegal_from, not_illegal}
use Rattle.tce_fusion.proofs.legality.first_illegal.Goals as goal

pub returns-then-loops_cross-clause-found : goal.returns-then-loops_cross-clause-found
returns-then-loops_cross-clause-found c =
    let crossed = c.loops_cross.ensures.yes c.if-loops_cross.true in
    illegal_from c.args.tree.now c.args.fusion.now.0.items c.scopes_of-scopes.result.0 c.loop-v.v crossed.0 crossed.1 c.scopes_of-scopes.ensures (omega arith)
    (ap (λ s. has s crossed.0) (sym c.loops.ensures.value) ∙ crossed.2) (ap (λ s. has s crossed.1) (sym c.loops.ensures.value) ∙ crossed.3)
    (λ nested. crossed.4
    (subst (λ n. AreNested n (joined (row c.scopes_of-scopes.result.0 crossed.0) c.loop-v.v) (joined (row c.scopes_of-scopes.result.0 crossed.1) c.loop-v.v)) (sym c.count-count.ensures.value) nested))

pub returns-then-loops_cross-clause-legal : goal.returns-then-loops_cross-clause-legal
returns-then-loops_cross-clause-legal c = (
  (λ n. absurd (true≢false n)),
  (λ legal. absurd (none_from_legal c.args.tree.now c.args.fusion.now.0.items legal c.loop-v.v (omega arith) (returns-then-loops_cross-clause-found c))),
)

pub loop-v-preserved : goal.loop-v-preserved
loop-v-preserved c w l bad =
    elim (cases_eq w c.loop-v.v) [
      | inl e ↦
          not_illegal c.args.tree.now c.args.fusion.now.0.items c.scopes_of-scopes.result.0 c.loop-v.v c.scopes_of-scopes.ensures (omega arith)
          (λ i j a b hi hj.
          subst (λ n. AreNested n (joined (row c.scopes_of-scopes.result.0 i) c.loop-v.v) (joined (row c.scopes_of-scopes.result.0 j) c.loop-v.v)) c.count-count.ensures.value
          (c.loops_cross.ensures.no c.if-loops_cross.false i j a b (ap (λ s. has s i) c.loops.ensures.value ∙ hi) (ap (λ s. has s j) c.loops.ensures.value ∙ hj)))
          (subst (λ x. IsIllegalAt c.args.tree.now c.args.fusion.now.0.items x) e bad)
      | inr ne ↦ c.loop-v.invariant w (omega arith) bad
    ]

pub returns-clause-legal : goal.returns-clause-legal
returns-clause-legal c = (
  (λ n. legal_from_none c.args.tree.now c.args.fusion.now.0.items c.requires (λ x l bad. c.loop-v.invariant x (omega arith) bad)),
  (λ legal. refl),
)
