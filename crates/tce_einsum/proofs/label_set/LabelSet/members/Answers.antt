use Rattle.std.proofs.Common.{◌≡◌, ◌<◌, sym, ◌∙◌, ◌++◌, ◌∷◌, [], subst, All, arith}
use Rattle.std.proofs.lemmas.List.Elements.{All-push}
use Rattle.tce_einsum.proofs.LabelSets.{member_more, member_none}
use Rattle.std.proofs.lemmas.Result.{IfOk-from_err}
use Rattle.tce_einsum.proofs.label_set.LabelSet.members.Goals as goal
use Rattle.tce_einsum.proofs.label_set.LabelSet.members.Goals.{then-has+in_ok-push, else-has}

pub loop-label-preserved : goal.loop-label-preserved
loop-label-preserved c =
    elim c.if-has.branch [
      | then-has+in_ok-push w ↦
          let pushed : c.if-has.found.items ≡ c.loop-label.found.items ++ c.loop-label.label ∷ [] = (λ i. (w.found-is i).items) ∙ w.in_ok-push.ensures.items in
          record {
            members = pushed ∙ (λ i. c.loop-label.invariant.members i ++ c.loop-label.label ∷ [])
                ∙ sym (member_more c.args.self.bits c.loop-label.label (sym c.has.ensures ∙ w.if-has.true));
            below = subst (All (λ i. i < 32)) (sym pushed)
                (All-push (λ i. i < 32) c.loop-label.found.items c.loop-label.label c.loop-label.invariant.below (omega (arith, c.requires, c.loop-label-test.true)));
          }
      | else-has w ↦
          let same : c.if-has.found.items ≡ c.loop-label.found.items = λ i. (w.found-is i).items in
          record {
            members = same ∙ c.loop-label.invariant.members ∙ sym (member_none c.args.self.bits c.loop-label.label (sym c.has.ensures ∙ w.if-has.false));
            below = subst (All (λ i. i < 32)) (sym same) c.loop-label.invariant.below;
          }
    ]

pub returns-in_err-push-clause-members : goal.returns-in_err-push-clause-members
returns-in_err-push-clause-members c = IfOk-from_err c.from_residual.result _ c.from_residual.ensures.0

pub returns-in_err-push-clause-below : goal.returns-in_err-push-clause-below
returns-in_err-push-clause-below c = IfOk-from_err c.from_residual.result _ c.from_residual.ensures.0
