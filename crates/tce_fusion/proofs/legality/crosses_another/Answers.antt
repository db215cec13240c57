use Rattle.std.proofs.Common.{sym, ◌∙◌, subst, ap, arith, inl, inr}
use Rattle.std.proofs.lemmas.Bool.{cases_eq, false≢true, both_ways}
use Rattle.tce_space.specs.IndexSet.{has}
use Rattle.tce_fusion.specs.Tops.{AreNested, joined, row}
use Rattle.tce_fusion.proofs.legality.crosses_another.Goals as goal
use Rattle.tce_fusion.proofs.legality.crosses_another.Goals.{else-has-via-then-has+else-not-are_nested, else-has-via-else-has}

pub loop-j-preserved : goal.loop-j-preserved
loop-j-preserved c k l h =
    elim (cases_eq k c.loop-j.j) [
      | inl e ↦ subst (λ x. AreNested c.args.count (joined (row c.args.scopes.now.0 c.args.i) c.args.v) (joined (row c.args.scopes.now.0 x) c.args.v)) (sym e)
          (elim c.else-has.branch [
            | else-has-via-then-has+else-not-are_nested w ↦
                subst (λ tops. AreNested c.args.count (joined tops c.args.v) (joined (row c.args.scopes.now.0 c.loop-j.j) c.args.v)) w.tops_in.ensures
                (subst (λ tops. AreNested c.args.count (joined w.tops_in.result.now c.args.v) (joined tops c.args.v)) w.tops_in-then-has.ensures
                (w.are_nested.ensures.0 w.if-not-are_nested.false))
            | else-has-via-else-has w ↦ absurd (false≢true (sym w.if-has.false ∙ c.has.ensures ∙ ap (has c.args.loops) (sym e) ∙ h))
          ])
      | inr ne ↦ c.loop-j.invariant k (omega arith) h
    ]

pub loop-j-init : goal.loop-j-init
loop-j-init c k l h = absurd (omega (arith, l))

pub returns-then-not-are_nested-clause-yes : goal.returns-then-not-are_nested-clause-yes
returns-then-not-are_nested-clause-yes c h = (
  c.loop-j.j,
  sym c.has.ensures ∙ c.if-has.true,
  λ nested. both_ways c.are_nested.result c.if-not-are_nested.true
      (c.are_nested.ensures.1 (subst (λ tops. AreNested c.args.count (joined tops c.args.v) (joined c.tops_in-then-has.result.now c.args.v)) (sym c.tops_in.ensures)
      (subst (λ tops. AreNested c.args.count (joined (row c.args.scopes.now.0 c.args.i) c.args.v) (joined tops c.args.v)) (sym c.tops_in-then-has.ensures) nested))),
)

pub returns-then-not-are_nested-clause-no : goal.returns-then-not-are_nested-clause-no
returns-then-not-are_nested-clause-no c e = absurd (false≢true (sym e))

pub returns-clause-yes : goal.returns-clause-yes
returns-clause-yes c h = absurd (false≢true h)

pub returns-clause-no : goal.returns-clause-no
returns-clause-no c e j lj hj = c.loop-j.invariant j (omega (arith, lj, c.loop-j-test.false)) hj
