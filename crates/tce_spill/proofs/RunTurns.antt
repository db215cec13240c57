-- The turn of one node: what holds before it holds behind it.
use Rattle.std.proofs.Common.{◌≡◌, ℕ, ◌+◌, ◌<◌, true, false, Option, Some, None, unwrap_or, refl, sym, ap, ◌∙◌, subst}
use Rattle.std.specs.Option.{ForSome}
use Rattle.tce_outside.specs.Files.{Files}
use Rattle.tce_tree.specs.ContractionTree.{operations}
use Rattle.tce_spec.specs.Pieces.{Cuts, is_root}
use Rattle.tce_spec.specs.Specification.{Specification, IsSpecification}
use Rattle.tce_spec.specs.PieceSpecification.{piece_of}
use Rattle.tce_job.specs.Opened.{HasOperands, operand_count}
use Rattle.tce_job.specs.Several.{files_after}
use Rattle.tce_job.proofs.Several.{after_more}
use Rattle.tce_spill.specs.PieceRuns.{pieces_below}
use Rattle.tce_spill.specs.Values.{HasRunTo, IsSpilled}
use Rattle.tce_spill.specs.RunRefusals.{CanSpill}
use Rattle.tce_spill.specs.Left.{files_at}
use Rattle.tce_spill.proofs.Roots.{pieces_more, pieces_same}
use Rattle.tce_spill.proofs.Values.{step, step_same, all_run}
use Rattle.tce_spill.proofs.Afforded.{allowed_at, is_piece, has_operands}

-- what holds of the files that the pieces in front leave holds of those that are told
pub at_told : (P : Files → Type 0) (before now : Option Files) (s : Specification) (cut : Cuts) (n : ℕ) → now ≡ files_at before s cut n → ForSome before (λ start. P (files_after (pieces_below s cut n) start)) → ForSome now P
at_told P None now s cut n is h = λ files eq. absurd (cc)
at_told P (Some start) now s cut n is h = λ files eq. subst P (ap (λ (o : Option Files). unwrap_or o files) (sym is ∙ eq)) (h start refl)

-- the pieces in front were run
abbrev pub AreHeld : Option Files → Specification → Cuts → ℕ → Type 0
AreHeld before s cut n = ForSome before (λ start. HasRunTo start (files_after (pieces_below s cut n) start) s cut n)

pub held_more : (before : Option Files) (s : Specification) (cut : Cuts) (budget n : ℕ) → IsSpecification s → CanSpill s cut budget → n < operations s.tree → is_root s.tree cut n ≡ true → AreHeld before s cut n → AreHeld before s cut (n + 1)
held_more before s cut budget n rules can inside root held = λ start eq.
    let now : Files = files_after (pieces_below s cut n) start in
    subst (λ (f : Files). HasRunTo start f s cut (n + 1)) (sym (after_more (pieces_below s cut n) (piece_of s cut n) start) ∙ ap (λ ss. files_after ss start) (sym (pieces_more s cut n root)))
    (step start s cut rules can.names (allowed_at s cut budget can) now n inside (held start eq) root)

pub held_same : (before : Option Files) (s : Specification) (cut : Cuts) (budget n : ℕ) → IsSpecification s → CanSpill s cut budget → n < operations s.tree → is_root s.tree cut n ≡ false → AreHeld before s cut n → AreHeld before s cut (n + 1)
held_same before s cut budget n rules can inside root held = λ start eq.
    let now : Files = files_after (pieces_below s cut n) start in
    subst (λ (f : Files). HasRunTo start f s cut (n + 1)) (ap (λ ss. files_after ss start) (sym (pieces_same s cut n root)))
    (step_same start s cut rules can.names (allowed_at s cut budget can) now n inside (held start eq) root)

-- the operands of the piece are there
pub operands_there : (before now : Option Files) (s : Specification) (cut : Cuts) (budget n : ℕ) → IsSpecification s → CanSpill s cut budget → n < operations s.tree → is_root s.tree cut n ≡ true
    → ForSome before (λ files. HasOperands files s (operand_count s)) → now ≡ files_at before s cut n → AreHeld before s cut n
    → ForSome now (λ files. HasOperands files (piece_of s cut n) (operand_count (piece_of s cut n)))
operands_there before now s cut budget n rules can inside root has is held =
    at_told (λ files. HasOperands files (piece_of s cut n) (operand_count (piece_of s cut n))) before now s cut n is (λ start eq.
    has_operands start (files_after (pieces_below s cut n) start) s cut n rules (is_piece s cut budget n rules can inside root) (held start eq) (has start eq))

-- behind the last node
pub all_spilled : (before after : Option Files) (s : Specification) (cut : Cuts) (n : ℕ) → n ≡ operations s.tree → after ≡ files_at before s cut n → AreHeld before s cut n
    → ForSome before (λ start. ForSome after (λ now. IsSpilled start now s cut))
all_spilled None after s cut n last is held = λ start eq. absurd (cc)
all_spilled (Some files) after s cut n last is held = λ start eq now found.
    let first : files ≡ start = ap (λ (o : Option Files). unwrap_or o start) eq in
    let here : files_after (pieces_below s cut n) files ≡ now = ap (λ (o : Option Files). unwrap_or o now) (sym is ∙ found) in
    subst (λ (f : Files). IsSpilled f now s cut) first
    (subst (λ (f : Files). IsSpilled files f s cut) here
    (all_run files (files_after (pieces_below s cut n) files) s cut (subst (HasRunTo files (files_after (pieces_below s cut n) files) s cut) last (held files refl))))
