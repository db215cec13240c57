-- What was written is accepted.
use Rattle.std.proofs.Common.{◌≡◌, refl, sym, subst}
use Rattle.std.specs.Option.{IsSomeAnd}
use Rattle.tce_outside.specs.Files.{with_file}
use Rattle.tce_outside.proofs.Files.{file-with_file}
use Rattle.tce_tools.proofs.Told.{file_beside}
use Rattle.tce_command.specs.Source.{Specifies}
use Rattle.tce_plan.specs.VerificationDone.{CanVerify}
use Rattle.tce_plan.proofs.Names.{apart}
use Rattle.tce_top.specs.Laws.{WrittenIsVerified}

pub written_is_verified : WrittenIsVerified
written_is_verified files after spec cert report named other written =
    let made = written.certified in
    let s = written.specification in
    let beside = file_beside files cert written.text spec (apart spec cert named other) in
    let can : CanVerify (with_file files cert written.text) spec cert = record {
      specification = s;
      specified = subst (λ found. IsSomeAnd found (λ text. Specifies text s)) (sym beside) (written.specified files refl);
      text = written.text;
      held = file-with_file files cert written.text;
      plan = made.plan;
      certifies = record { space = made.space; tree = made.tree; declared = made.declared; fits = made.least.fits; nestings = made.nestings; text_is = made.text_is };
      accepted = (((((made.least.least.legal, made.least.carried), made.least.sizes), made.least.memory_is), made.least.covers.nodes), made.least.covers.root);
    } in
    subst (λ left. IsSomeAnd left (λ files. (can : CanVerify files spec cert) × (can.plan ≡ made.plan))) (sym written.written) (can, refl)
