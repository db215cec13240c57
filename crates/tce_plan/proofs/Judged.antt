-- What is answered to a text, to its file, and to two files.
use Rattle.std.proofs.Common.{◌≡◌, sym, ap, subst, ◌∙◌, inr, ℕ, List, Option, Some, Result, Ok, Err}
use Rattle.std.specs.Prelude.{IfOk, IfErr, OnOk}
use Rattle.std.specs.Option.{ForSome}
use Rattle.tce_outside.specs.Files.{Files, file}
use Rattle.tce_nesting.specs.declared.plan.Plan.{Plan}
use Rattle.tce_check.specs.Verdict.{IsAccepted}
use Rattle.tce_spec.specs.Specification.{Specification}
use Rattle.tce_command.specs.Source.{HasSpecificationOn, HoldsOn}
use Rattle.tce_command.specs.CommandRefusals.{IsWrittenOver}
use Rattle.tce_command.specs.Report.{trouble_of}
use Rattle.tce_command.specs.declared.trouble.CertTrouble.{CertTrouble}
use Rattle.tce_command.specs.declared.trouble.CertTrouble.TheVariants as troubles
use Rattle.tce_command.specs.declared.refusal.Refusal.{Refusal}
use Rattle.tce_command.specs.declared.refusal.Refusal.TheVariants.{Disk}
use Rattle.tce_command.specs.declared.command_refusal.CommandRefusal.{CommandRefusal}
use Rattle.tce_command.specs.declared.command_refusal.CommandRefusal.TheVariants.{Common, Certificate}
use Rattle.tce_plan.specs.Certificates.{IsCertificateOf, IsTrouble}
use Rattle.tce_plan.specs.VerificationDone.{CanVerify, IsVerified, report_text}
use Rattle.tce_plan.specs.Judging.{IsAcceptedText, IsJudgement, IsOfPlan, IsOfLeast, IsPlanRefusal}
use Rattle.tce_plan.specs.OfFile.{IsRefusedForOn, IsVerifiedFor, IsVerifiedText}
use Rattle.tce_plan.specs.VerificationRefusals.{IsUnread, IsVerifyRefusalOn, IsWrittenFor, MayBeUnread}

-- ---- a plan and its text

pub accepted_text : (r : Result ℕ CommandRefusal) (s : Specification) (plan : Plan) (text : List ℕ) → IsCertificateOf s plan text
    → OnOk r (IsAccepted s.declarations.space s.tree plan) → OnOk r (IsOfLeast s plan) → IfOk r (λ memory. memory ≡ plan.memory) → IfOk r (IsAcceptedText s text)
accepted_text (Ok memory) s plan text certifies accepted least same = record { plan = plan; certifies = certifies; accepted = accepted; least = least; memory_is = same }
accepted_text (Err refusal) s plan text certifies accepted least same = tt

trouble_of_plan : (s : Specification) (plan : Plan) (text : List ℕ) (t : CertTrouble) → IsCertificateOf s plan text → IsOfPlan s plan t → IsTrouble s text t
trouble_of_plan s plan text (troubles.Text fault) certifies p = absurd p
trouble_of_plan s plan text (troubles.Verdict verdict) certifies p = record { plan = plan; certifies = certifies; right = p.1; refused = p.0 }

pub refused_text : (s : Specification) (plan : Plan) (text : List ℕ) (a : CommandRefusal) → IsCertificateOf s plan text → IsPlanRefusal s plan a → IsJudgement s text a
refused_text s plan text (Common a) certifies p = absurd p
refused_text s plan text (Certificate t line) certifies p = (trouble_of_plan s plan text (trouble_of t) certifies p.0, p.1)

-- ---- a text and its file

pub file_verified : (told : Option Files) (cert : List ℕ) (s : Specification) (text report : List ℕ) → HoldsOn told cert text → IsVerifiedText s text report
    → IsVerifiedFor told s cert report
file_verified told cert s text report held verified = record { text = text; held = held; verified = verified }

pub file_refused : (told : Option Files) (cert : List ℕ) (s : Specification) (text : List ℕ) (a : CommandRefusal) → HoldsOn told cert text → IsJudgement s text a
    → IsRefusedForOn told s cert a
file_refused told cert s text (Common a) held p = (subst (MayBeUnread cert) (sym p) tt, λ files is. subst (IsUnread cert (file files cert)) (sym p) tt)
file_refused told cert s text (Certificate t line) held p = ((text, p), λ files is. record { text = text; held = held files is; trouble_is = p.0 })

pub written_over : (s : Specification) (text : List ℕ) (a : CommandRefusal) → IsJudgement s text a → IsWrittenOver s.declarations.space a
written_over s text (Common a) p = tt
written_over s text (Certificate t line) p = p.1

-- a text is never the cause of a disk fault
pub no_fault : {T : Type 0} (r : Result T CommandRefusal) (s : Specification) (text : List ℕ) → IfErr r (IsJudgement s text) → r ≡ Err (Common Disk) → ⊥
no_fault (Ok x) s text p e = absurd (cc)
no_fault (Err (Common a)) s text p e = absurd (cc)
no_fault (Err (Certificate t line)) s text p e = absurd (cc)

-- ---- two files

pub verified : (told middle : Option Files) (spec cert : List ℕ) (s : Specification) (report : List ℕ) → middle ≡ told → HasSpecificationOn told spec s
    → IsVerifiedFor middle s cert report → IsVerified told spec cert report
verified told middle spec cert s report same specified found =
    let a = found.verified.accepted in
    record {
      specification = s;
      specified = specified;
      text = found.text;
      held = λ files is. found.held files (same ∙ is);
      plan = a.plan;
      certifies = a.certifies;
      accepted = a.accepted;
      least = a.least;
      reported = found.verified.reported ∙ ap report_text a.memory_is;
    }

-- what is verified could be
pub could_verify : (told : Option Files) (files : Files) (spec cert report : List ℕ) → told ≡ Some files → IsVerified told spec cert report → CanVerify files spec cert
could_verify told files spec cert report is a =
    record { specification = a.specification; specified = a.specified files is; text = a.text; held = a.held files is; plan = a.plan; certifies = a.certifies; accepted = a.accepted }

pub refused : (told : Option Files) (spec cert : List ℕ) (s : Specification) (a : CommandRefusal) → HasSpecificationOn told spec s → IsRefusedForOn told s cert a
    → IsVerifyRefusalOn told spec cert a
refused told spec cert s (Common a) specified found = (inr found.0, λ files is. inr ((s, specified files is), found.1 files is))
refused told spec cert s (Certificate t line) specified found = (
  (s, found.0),
  λ files is. let here = found.1 files is in record { specification = s; specified = specified files is; text = here.text; held = here.held; trouble_is = here.trouble_is },
)

pub written_for : (told : Option Files) (spec : List ℕ) (s : Specification) (a : CommandRefusal) → HasSpecificationOn told spec s → IsWrittenOver s.declarations.space a → IsWrittenFor told spec a
written_for told spec s (Common a) specified p = tt
written_for told spec s (Certificate t line) specified p = (s, (specified, p))

-- ---- faults of the disk

pub is_disk : {T : Type 0} (r : Result T CommandRefusal) (y : CommandRefusal) (a : Refusal) → r ≡ Err y → y ≡ Common a → r ≡ Err (Common Disk) → a ≡ Disk
is_disk r y a p q e = let same : Err y ≡ Err (Common Disk) = sym p ∙ e in cc

pub as_disk : {T : Type 0} (r : Result T CommandRefusal) (y : CommandRefusal) (a : Refusal) → r ≡ Err y → y ≡ Common a → a ≡ Disk → r ≡ Err (Common Disk)
as_disk r y a p q e = p ∙ ap Err (q ∙ ap Common e)

pub is_err_disk : {U : Type 0} (a : Refusal) (given : Result U Refusal) → given ≡ Err a → given ≡ Err Disk → a ≡ Disk
is_err_disk a given p q = let same : Err a ≡ Err Disk = sym p ∙ q in cc
