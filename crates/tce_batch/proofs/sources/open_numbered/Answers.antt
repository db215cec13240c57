use Rattle.std.proofs.Common.{inr}
use Rattle.std.proofs.lemmas.Result.{on_ok_weaker}
use Rattle.tce_spec.specs.Specification.{Specification}
use Rattle.tce_batch.specs.Told.{HasSourceFiles, IsSourceFaultOf}
use Rattle.tce_batch.proofs.Afforded.{if_err, at_place}
use Rattle.tce_batch.proofs.sources.open_numbered.Goals as goal

pub returns-clause-opened : goal.returns-clause-opened
returns-clause-opened g c =
    on_ok_weaker c.open_formula-opened.result
    (λ opened s at. at_place (λ (x : Specification). HasSourceFiles (g.D.Disk.files c.args.disk.now) c.args.batch.now c.args.number x) c.in-Ok.spec s _ c.in-Ok.ensures opened at) c.open_formula-opened.ensures.opened

pub returns-clause-refused : goal.returns-clause-refused
returns-clause-refused g c =
    if_err c.open_formula-opened.result
    (λ fault why. inr (λ s at. at_place (λ (x : Specification). IsSourceFaultOf (g.D.Disk.files c.args.disk.now) c.args.batch.now c.args.number x fault) c.in-Ok.spec s _ c.in-Ok.ensures why at))
    c.open_formula-opened.ensures.refused
