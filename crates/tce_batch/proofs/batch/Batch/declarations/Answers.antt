use Rattle.std.proofs.Common.{◌≡◌, refl, subst}
use Rattle.std.proofs.lemmas.List.Elements.{All-map}
use Rattle.tce_spec.specs.Specification.{Specification}
use Rattle.tce_spec.specs.SpecCode.{specification_of}
use Rattle.tce_batch.specs.BatchCode.{AreOver}
use Rattle.tce_batch.proofs.batch.Batch.declarations.Goals as goal

pub returns : goal.returns
returns c =
    let d = c.self.inside.declarations in
    subst (AreOver d) c.self.view_is (All-map (λ (s : Specification). s.declarations ≡ d) (specification_of d) c.self.inside.contractions.items (λ k e within. refl))
