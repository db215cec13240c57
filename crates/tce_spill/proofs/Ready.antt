-- What is known once there are cuts, and the budget passed.
use Rattle.std.proofs.Common.{inl, inr, ◌≡◌, ℕ, ◌*◌, ◌^◌, ◌≤◌, false, List, length, Option, sym, subst, ◌∙◌, ap, arith}
use Rattle.std.specs.Option.{ForSome}
use Rattle.std.proofs.lemmas.Bool.{cases_lt, true≢false}
use Rattle.tce_outside.specs.Files.{Files}
use Rattle.tce_tree.specs.ContractionTree.{operations}
use Rattle.tce_spec.specs.Declarations.{HaveNames}
use Rattle.tce_spec.specs.Pieces.{Cuts}
use Rattle.tce_spec.specs.Specification.{Specification}
use Rattle.tce_spill.specs.CutsFor.{AreCutsFor, MeetLimit}
use Rattle.tce_spill.specs.CutRefusals.{IsCutFault, IsFree}
use Rattle.tce_spill.specs.declared.fault.SpillFault.{SpillFault}
use Rattle.tce_spill.specs.declared.fault.SpillFault.TheVariants.{TooManyTensors}
use Rattle.tce_spill.specs.PieceRuns.{largest_of}
use Rattle.tce_spill.specs.Values.{IsSpilled}
use Rattle.tce_spill.specs.Reports.{HasRunAll, IsReported}
use Rattle.tce_spill.specs.RunRefusals.{AreCut, CanSpill}
use Rattle.tce_spill.specs.Left.{files_at, HasSpilled, OnlyPiecesDiffer}
use Rattle.tce_spill.proofs.Reports.{is_reported}
use Rattle.tce_spill.proofs.Others.{told_others}

-- nothing stands against cuts
abbrev pub NoneAgainst : Specification → ℕ → Type 0
NoneAgainst s limit = (due : SpillFault) → (IsFree due → ⊥) → IsCutFault s limit due → ⊥

pub few_of : (s : Specification) (limit : ℕ) → NoneAgainst s limit → length s.declarations.tensors ≤ 31
few_of s limit none = elim (cases_lt (length s.declarations.tensors) 32) [ inl low ↦ omega (arith, low) | inr high ↦ absurd (none TooManyTensors (λ x. x) high) ]

pub are_cut : (s : Specification) (limit : ℕ) (cut : Cuts) → NoneAgainst s limit → AreCutsFor s.declarations.space s.tree limit cut → AreCut s limit cut
are_cut s limit cut none cuts = record { none = none; cuts = cuts }

pub can_spill : (s : Specification) (cut : Cuts) (budget limit : ℕ) → HaveNames s.declarations.tensors → budget ≤ 2 ^ 40 → limit ≤ 2 ^ 40 → NoneAgainst s limit → AreCutsFor s.declarations.space s.tree limit cut
    → MeetLimit s.declarations.space s.tree cut limit → ((v : ℕ) → operations s.tree ≤ v → cut v ≡ false) → 3 * largest_of s cut ≤ budget → CanSpill s cut budget
can_spill s cut budget limit names small low none cuts meet nodes enough = record {
  names = names;
  few = few_of s limit none;
  allowed = cuts.only_storable;
  inside = λ v past is. true≢false (sym is ∙ nodes v past);
  enough = enough;
  limit = small;
  meet = λ r inside root. let fits = meet r inside root in record { fusion = fits.fusion; fits = fits.fits; legal = fits.legal; cheap = omega (arith, fits.cheap, low) };
}

pub has_spilled : (before now after : Option Files) (taken taken_after : List (ℕ × ℕ)) (s : Specification) (budget limit : ℕ) (cut : Cuts) (text told : List ℕ) → AreCut s limit cut
    → MeetLimit s.declarations.space s.tree cut limit → now ≡ before → after ≡ files_at now s cut (operations s.tree) → ForSome now (λ start. ForSome after (λ files. IsSpilled start files s cut))
    → HasRunAll s cut budget taken taken_after text → told ≡ text → HasSpilled before after taken taken_after s budget limit told
has_spilled before now after taken taken_after s budget limit cut text told are meet same files values run is = record {
  cut = cut;
  are_cut = are;
  files = files ∙ ap (λ o. files_at o s cut (operations s.tree)) same;
  values = subst (λ (o : Option Files). ForSome o (λ start. ForSome after (λ files. IsSpilled start files s cut))) same values;
  reported = subst (IsReported s cut budget limit taken taken_after) (sym is) (is_reported s cut budget limit taken taken_after text meet run);
}

pub only_pieces : (before now after : Option Files) (s : Specification) (limit : ℕ) (cut : Cuts) → AreCut s limit cut → now ≡ before → after ≡ files_at now s cut (operations s.tree) → OnlyPiecesDiffer before after s limit
only_pieces before now after s limit cut are same files =
    inr (record { cut = cut; are_cut = are; here = told_others before after s cut (operations s.tree) (omega arith) (files ∙ ap (λ o. files_at o s cut (operations s.tree)) same) })
