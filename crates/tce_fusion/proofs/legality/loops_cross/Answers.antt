use Rattle.std.proofs.Common.{sym, ◌∙◌, subst, ap, arith, inl, inr}
use Rattle.std.proofs.lemmas.Bool.{cases_eq, false≢true}
use Rattle.tce_space.specs.IndexSet.{has}
use Rattle.tce_fusion.specs.Tops.{AreNested, joined, row}
use Rattle.tce_fusion.proofs.legality.loops_cross.Goals as goal
use Rattle.tce_fusion.proofs.legality.loops_cross.Goals.{else-has-via-then-has+else-crosses_another, else-has-via-else-has}

pub loop-i-preserved : goal.loop-i-preserved
loop-i-preserved c k j l m h hj =
    elim (cases_eq k c.loop-i.i) [
      | inl e ↦ subst (λ x. AreNested c.args.count (joined (row c.args.scopes.now.0 x) c.args.v) (joined (row c.args.scopes.now.0 j) c.args.v)) (sym e)
          (elim c.else-has.branch [
            | else-has-via-then-has+else-crosses_another w ↦ w.crosses_another.ensures.no w.if-crosses_another.false j m hj
            | else-has-via-else-has w ↦ absurd (false≢true (sym w.if-has.false ∙ c.has.ensures ∙ ap (has c.args.loops) (sym e) ∙ h))
          ])
      | inr ne ↦ c.loop-i.invariant k j (omega arith) m h hj
    ]

pub loop-i-init : goal.loop-i-init
loop-i-init c k j l m h hj = absurd (omega (arith, l))

pub returns-then-crosses_another-clause-yes : goal.returns-then-crosses_another-clause-yes
returns-then-crosses_another-clause-yes c h =
    let other = c.crosses_another.ensures.yes c.if-crosses_another.true in
    (c.loop-i.i, other.0, sym c.has.ensures ∙ c.if-has.true, other.1, other.2)

pub returns-then-crosses_another-clause-no : goal.returns-then-crosses_another-clause-no
returns-then-crosses_another-clause-no c e = absurd (false≢true (sym e))

pub returns-clause-yes : goal.returns-clause-yes
returns-clause-yes c h = absurd (false≢true h)

pub returns-clause-no : goal.returns-clause-no
returns-clause-no c e i j li lj hi hj = c.loop-i.invariant i j (omega (arith, li, c.loop-i-test.false)) lj hi hj
