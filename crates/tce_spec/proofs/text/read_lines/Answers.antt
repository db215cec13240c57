use Rattle.std.proofs.Common.{ℕ, [], ◌∷◌, map, drop, Result, sym, subst, ap, ◌∙◌, arith}
use Rattle.std.proofs.lemmas.Result.{err_from_is_err_and}
use Rattle.tce_grammar.specs.Lines.{lines}
use Rattle.tce_grammar.specs.Reading.{line_of}
use Rattle.tce_spec.specs.Faults.{Fault}
use Rattle.tce_spec.specs.FaultCode.{Shows}
use Rattle.tce_spec.specs.Text.{Head}
use Rattle.tce_spec.specs.TextCode.{fault_in, head_behind, StandsAt}
use Rattle.tce_spec.specs.declared.text.Read.TheVariants.{Formula}
use Rattle.tce_spec.proofs.Readings.{head_from, line_behind, behind_first}
use Rattle.tce_spec.proofs.text.read_lines.Goals as goal

pub returns-in_err-further-clause-fault : goal.returns-in_err-further-clause-fault
returns-in_err-further-clause-fault c =
    let same = c.loop-first.invariant.same ∙ head_from c.loop-first.line c.loop-first.declarations _ _ _ c.in-Some.ensures.first in
    let p = err_from_is_err_and c.from_residual-in_err-further.result c.from_residual-in_err-further.ensures.1 in
    rw (p.1, p.2) (subst (λ (r : Result Head Fault). Shows (fault_in r) c.in_err-further.field-0.0) (sym same) (c.in_err-further.ensures.fault (map line_of (lines c.in-Some.behind.now))))

pub returns-in-Formula-clause-rest : goal.returns-in-Formula-clause-rest
returns-in-Formula-clause-rest c =
    let at : StandsAt c.loop-first.line c.in-Some.behind.now (Formula c.in-Formula.found) =
    subst (StandsAt c.loop-first.line c.in-Some.behind.now) c.in-Formula.is c.in_ok-further.ensures.place in
    ap lines at.1
    ∙ sym (behind_first (lines c.args.text.now) c.loop-first.line _ _ (c.loop-first.invariant.place ∙ c.in-Some.ensures.first))
    ∙ ap (λ (n : ℕ). drop n (lines c.args.text.now)) (sym at.0)

pub loop-first-preserved : goal.loop-first-preserved
loop-first-preserved c = record {
  same = c.loop-first.invariant.same ∙ head_from c.loop-first.line c.loop-first.declarations _ _ _ c.in-Some.ensures.first
      ∙ c.in_ok-further.ensures.read (map line_of (lines c.in-Some.behind.now))
      ∙ ap (λ r. head_behind c.loop-first.line r (map line_of (lines c.in-Some.behind.now))) c.in-Declared.is;
  place = line_behind ([] ∷ lines c.args.text.now) c.loop-first.line _ _ (c.loop-first.invariant.place ∙ c.in-Some.ensures.first);
  few = omega (arith, c.in-Some.ensures.shorter, c.loop-first.invariant.few);
}
