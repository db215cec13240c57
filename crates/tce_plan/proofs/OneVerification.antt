-- `check` has one answer.
use Rattle.std.proofs.Common.{◌≡◌, ◌∙◌, refl, sym, ap, subst, ◌⊎◌, inl, inr, ℕ, List, ◌++◌, Option, Some, None, codes}
use Rattle.tce_outside.specs.Files.{Files, file}
use Rattle.tce_nesting.specs.declared.plan.Plan.{Plan}
use Rattle.tce_cert.specs.Faults.{IsFault}
use Rattle.tce_cert.specs.declared.fault.CertFault.{CertFault}
use Rattle.tce_cert.proofs.NoFault.{certificates_have_no_fault}
use Rattle.tce_cert.proofs.OneFault.{first_faults_are_alone}
use Rattle.tce_cert.proofs.OnePlan.{plans_are_their_certificates}
use Rattle.tce_check.specs.Verdict.{IsVerdict, IsAccepted}
use Rattle.tce_check.specs.declared.verdict.Verdict.{Verdict}
use Rattle.tce_check.specs.declared.verdict.Verdict.TheVariants.{Accepted}
use Rattle.tce_check.proofs.Verdicts.{one_verdict}
use Rattle.tce_spec.specs.Specification.{Specification}
use Rattle.tce_command.proofs.Outcomes.{one, one_refusal, not_both}
use Rattle.tce_command.specs.Refusals.{IsFree, SameRefusal}
use Rattle.tce_command.specs.Report.{line_over, trouble_of}
use Rattle.tce_command.specs.CommandRefusals.{MayReplace, EndsAlike}
use Rattle.tce_command.specs.declared.status.Status.TheVariants.{CertRefused}
use Rattle.tce_command.specs.declared.trouble.CertTrouble.{CertTrouble}
use Rattle.tce_command.specs.declared.trouble.CertTrouble.TheVariants as troubles
use Rattle.tce_command.specs.declared.refusal.Refusal.{Refusal}
use Rattle.tce_command.specs.declared.refusal.Refusal.TheVariants.{Missing, Disk, Memory}
use Rattle.tce_command.specs.declared.command_refusal.CommandRefusal.{CommandRefusal}
use Rattle.tce_command.specs.declared.command_refusal.CommandRefusal.TheVariants.{Common, Certificate}
use Rattle.tce_command.proofs.Statuses.{or_alike}
use Rattle.tce_plan.specs.Certificates.{IsCertificateOf, IsRefusedPlan, IsTrouble}
use Rattle.tce_plan.specs.VerificationDone.{CanVerify, IsVerified, report_text}
use Rattle.tce_plan.specs.VerificationRefusals.{IsUnread, HasTrouble, IsVerifyRefusal}

-- what one text says

same_plan : (s : Specification) (p q : Plan) (text : List ℕ) → IsCertificateOf s p text → IsCertificateOf s q text → p ≡ q
same_plan s p q text a b =
    plans_are_their_certificates s.declarations.space s.tree p q a.space a.tree a.declared a.fits a.nestings b.fits b.nestings (sym a.text_is ∙ b.text_is)

not_faulty : (s : Specification) (plan : Plan) (text : List ℕ) (fault : CertFault) → IsCertificateOf s plan text → IsFault s.declarations.space s.tree text fault → ⊥
not_faulty s plan text fault a found =
    certificates_have_no_fault s.declarations.space s.tree plan fault a.space a.tree a.declared a.fits a.nestings
    (subst (λ t. IsFault s.declarations.space s.tree t fault) a.text_is found)

right_of : (s : Specification) (plan : Plan) (text : List ℕ) (v : Verdict) → IsCertificateOf s plan text → (p : IsRefusedPlan s text v) → IsVerdict s.declarations.space s.tree plan v
right_of s plan text v a p = subst (λ q. IsVerdict s.declarations.space s.tree q v) (same_plan s p.plan plan text p.certifies a) p.right

same_verdict : (s : Specification) (text : List ℕ) (v w : Verdict) → IsRefusedPlan s text v → IsRefusedPlan s text w → v ≡ w
same_verdict s text v w p q = (one_verdict s.declarations.space s.tree q.plan v (right_of s q.plan text v q.certifies p) w).1 q.right

one_trouble : (s : Specification) (text : List ℕ) (t u : CertTrouble) → IsTrouble s text t → IsTrouble s text u → t ≡ u
one_trouble s text (troubles.Text f) (troubles.Text g) p q = ap troubles.Text (first_faults_are_alone s.declarations.space s.tree text f g p q)
one_trouble s text (troubles.Text f) (troubles.Verdict w) p q = absurd (not_faulty s q.plan text f q.certifies p)
one_trouble s text (troubles.Verdict v) (troubles.Text g) p q = absurd (not_faulty s p.plan text g p.certifies q)
one_trouble s text (troubles.Verdict v) (troubles.Verdict w) p q = ap troubles.Verdict (same_verdict s text v w p q)

no_trouble : (s : Specification) (plan : Plan) (text : List ℕ) (t : CertTrouble) → IsCertificateOf s plan text → IsAccepted s.declarations.space s.tree plan → IsTrouble s text t → ⊥
no_trouble s plan text (troubles.Text f) a accepted p = not_faulty s plan text f a p
no_trouble s plan text (troubles.Verdict v) a accepted p = p.refused ((one_verdict s.declarations.space s.tree plan v (right_of s plan text v a p) Accepted).1 accepted)

-- what two files say

same_text : (found : Option (List ℕ)) (a b : List ℕ) → found ≡ Some a → found ≡ Some b → a ≡ b
same_text found a b p q = let e : Some a ≡ Some b = sym p ∙ q in cc

moved : (P : Specification → List ℕ → Type 0) (s t : Specification) (a b : List ℕ) → s ≡ t → a ≡ b → P s a → P t b
moved P s t a b e f p = subst (λ x. P x b) e (subst (P s) f p)

trouble_alone : (files : Files) (spec cert : List ℕ) (t u : CertTrouble) → HasTrouble files spec cert t → HasTrouble files spec cert u → t ≡ u
trouble_alone files spec cert t u p q =
    let s = one files spec p.specification q.specification p.specified q.specified in
    let text = same_text (file files cert) p.text q.text p.held q.held in
    one_trouble q.specification q.text t u (moved (λ s text. IsTrouble s text t) p.specification q.specification p.text q.text s text p.trouble_is) q.trouble_is

accepted_alone : (files : Files) (spec cert : List ℕ) (t : CertTrouble) → CanVerify files spec cert → HasTrouble files spec cert t → ⊥
accepted_alone files spec cert t can p =
    let s = one files spec p.specification can.specification p.specified can.specified in
    let text = same_text (file files cert) p.text can.text p.held can.held in
    no_trouble can.specification can.plan can.text t can.certifies can.accepted (moved (λ s text. IsTrouble s text t) p.specification can.specification p.text can.text s text p.trouble_is)

unread_free : (name : List ℕ) (found : Option (List ℕ)) (text : List ℕ) (a : Refusal) → found ≡ Some text → IsUnread name found a → IsFree a
unread_free name found text (Missing x) held p = let e : None ≡ Some text = sym p.1 ∙ held in absurd (cc)
unread_free name found text Disk held p = tt
unread_free name found text Memory held p = tt
unread_free name found text a held p = absurd p

one_unread : (name : List ℕ) (found : Option (List ℕ)) (a b : Refusal) → IsUnread name found a → IsUnread name found b → (IsFree b → ⊥) → IsFree a ⊎ SameRefusal a b
one_unread name found Disk b p q free = inl tt
one_unread name found Memory b p q free = inl tt
one_unread name found (Missing x) (Missing y) p q free = inr (refl, ap (λ bytes. codes "error 3: no file " ++ bytes ++ codes "\n") (p.0 ∙ sym q.0))
one_unread name found (Missing x) Disk p q free = absurd (free tt)
one_unread name found (Missing x) Memory p q free = absurd (free tt)
one_unread name found (Missing x) b p q free = absurd q
one_unread name found a b p q free = absurd p

pub granted : (files : Files) (spec cert : List ℕ) (a : CommandRefusal) → CanVerify files spec cert → IsVerifyRefusal files spec cert a → MayReplace a
granted files spec cert (Common a) can (inl source) = not_both files spec can.specification a can.specified source
granted files spec cert (Common a) can (inr unread) = unread_free cert (file files cert) can.text a can.held unread.1
granted files spec cert (Certificate t line) can p = absurd (accepted_alone files spec cert (trouble_of t) can p)

pub alone : (files : Files) (spec cert : List ℕ) (a b : CommandRefusal) → IsVerifyRefusal files spec cert a → IsVerifyRefusal files spec cert b → (MayReplace b → ⊥)
    → MayReplace a ⊎ EndsAlike a b
alone files spec cert (Common a) (Common b) (inl p) (inl q) free = or_alike a b (one_refusal spec (file files spec) a b p q free)
alone files spec cert (Common a) (Common b) (inl p) (inr q) free = inl (not_both files spec q.0.0 a q.0.1 p)
alone files spec cert (Common a) (Common b) (inr p) (inl q) free = absurd (free (not_both files spec p.0.0 b p.0.1 q))
alone files spec cert (Common a) (Common b) (inr p) (inr q) free = or_alike a b (one_unread cert (file files cert) a b p.1 q.1 free)
alone files spec cert (Common a) (Certificate u other) (inl p) q free = inl (not_both files spec q.specification a q.specified p)
alone files spec cert (Common a) (Certificate u other) (inr p) q free = inl (unread_free cert (file files cert) q.text a q.held p.1)
alone files spec cert (Certificate t line) (Common b) p (inl q) free = absurd (free (not_both files spec p.specification b p.specified q))
alone files spec cert (Certificate t line) (Common b) p (inr q) free = absurd (free (unread_free cert (file files cert) p.text b p.held q.1))
alone files spec cert (Certificate t line) (Certificate u other) p q free =
    let same = trouble_alone files spec cert (trouble_of t) (trouble_of u) p q in
    inr (refl, λ space. ap (λ x. line_over space (CertRefused x)) same)

pub one_report : (files : Files) (spec cert report other : List ℕ) → IsVerified (Some files) spec cert report → IsVerified (Some files) spec cert other → report ≡ other
one_report files spec cert report other a b =
    let s = one files spec a.specification b.specification (a.specified files refl) (b.specified files refl) in
    let text = same_text (file files cert) a.text b.text (a.held files refl) (b.held files refl) in
    let certifies = moved (λ s text. IsCertificateOf s a.plan text) a.specification b.specification a.text b.text s text a.certifies in
    let plan = same_plan b.specification a.plan b.plan b.text certifies b.certifies in
    a.reported ∙ ap (λ (p : Plan). report_text p.memory) plan ∙ sym b.reported
