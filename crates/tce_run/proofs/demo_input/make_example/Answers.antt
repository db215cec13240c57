use Rattle.std.proofs.Common.{◌≡◌, ◌∙◌, ℕ, List, Ok, sym, subst}
use Rattle.tce_spec.specs.Outcome.{IsOutcome}
use Rattle.tce_run.specs.DemoSpecification.{demo_specification}
use Rattle.tce_run.proofs.DemoSpecified.{specified}
use Rattle.tce_run.proofs.demo_input.make_example.Goals as goal

pub returns-clause-spec : goal.returns-clause-spec
returns-clause-spec c =
    let told : Ok (demo_specification c.args.v c.args.o) ≡ Ok c.in-Ok.spec =
    c.in-Ok.ensures.answers (Ok (demo_specification c.args.v c.args.o))
    (subst (λ (text : List ℕ). IsOutcome text (Ok (demo_specification c.args.v c.args.o))) (sym (c.deref.ensures.value ∙ c.in_ok-text.ensures)) (specified c.args.v c.args.o c.requires.v c.requires.o)) in
    cc
