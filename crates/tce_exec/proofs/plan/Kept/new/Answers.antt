use Rattle.std.proofs.Common.{List, [], ◌∷◌, sym, subst}
use Rattle.tce_exec.specs.Positions.{IsPosition}
use Rattle.tce_exec.specs.declared.plan.Plan.{Plan}
use Rattle.tce_exec.proofs.Plans.{none_made}
use Rattle.tce_exec.proofs.plan.Kept.new.Goals as goal

pub returns : goal.returns
returns c = λ p same.
    let plans : List Plan =
    c.blank.result ∷ c.blank-2.result ∷ c.blank-3.result ∷ c.blank-4.result ∷ c.blank-5.result ∷ c.blank-6.result ∷ c.blank-7.result ∷ c.blank-8.result ∷ [] in
    record {
      position = subst (λ s. IsPosition s c.zero.result) (sym same) c.zero.ensures;
      plans = none_made p plans (c.blank.ensures, (c.blank-2.ensures, (c.blank-3.ensures, (c.blank-4.ensures, (c.blank-5.ensures, (c.blank-6.ensures, (c.blank-7.ensures, (c.blank-8.ensures, tt))))))));
    }
