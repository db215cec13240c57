-- What is prepared, once the file of the result was made.
use Rattle.std.proofs.Common.{◌≡◌, ℕ, ◌≤◌, ◌⊎◌, List, Option, Some, None, inl, inr, refl, sym, ◌∙◌, subst}
use Rattle.std.specs.Option.{ForSome}
use Rattle.tce_outside.specs.Files.{Files, file, with_file, holding}
use Rattle.tce_outside.proofs.Files.{file-with_file}
use Rattle.tce_array.specs.declared.form.Form.{Form}
use Rattle.tce_nesting.specs.declared.plan.Plan.{Plan}
use Rattle.tce_search.specs.LeastPlan.{IsLeastPlan}
use Rattle.tce_spec.specs.Specification.{Specification, IsSpecification}
use Rattle.tce_job.specs.TensorFiles.{file_of}
use Rattle.tce_job.specs.Takings.{least_budget}
use Rattle.tce_job.specs.Opened.{AreOpened, operand_count}
use Rattle.tce_job.specs.Laws.{made_result}
use Rattle.tce_job.specs.Reading.{HoldOperands}
use Rattle.tce_job.proofs.Reading.{hold, made}
use Rattle.tce_job.specs.declared.fault.JobFault.{JobFault}
use Rattle.tce_job.specs.declared.fault.JobFault.TheVariants.{BudgetTooSmall, IntermediatesTooLarge, Array, Disk, Memory}
use Rattle.tce_job.specs.declared.prepared.Prepared.{Prepared}
use Rattle.tce_job.specs.Refusals.{IsFree}
use Rattle.tce_job.specs.Prepared.{IsPrepared, MayHaveTaken, HasTaken, IsRoomLeft}
use Rattle.tce_job.specs.Run.{IsBegun}

-- the files with the made result
told_now : (s : Specification) (start now : Option Files) → now ≡ holding (file_of s s.result) (made_result s) start
    → (files : Files) → now ≡ Some files → (fs : Files) × (start ≡ Some fs) × (with_file fs (file_of s s.result) (made_result s) ≡ files)
told_now s None now e files told = absurd (let none : None ≡ Some files = sym e ∙ told in cc)
told_now s (Some fs) now e files told = (fs, refl, let both : Some (with_file fs (file_of s s.result) (made_result s)) ≡ Some files = sym e ∙ told in cc)

pub begun : (s : Specification) (budget : ℕ) (forms : List Form) (start now : Option Files) (p : Prepared) → IsSpecification s → least_budget s ≤ budget → IsPrepared s budget forms p
    → ForSome start (λ files. AreOpened files s forms (operand_count s)) → now ≡ holding (file_of s s.result) (made_result s) start → IsBegun s now p
begun s budget forms start now p rules enough prepared opened is = record {
  budget = budget;
  enough = enough;
  forms = forms;
  prepared = prepared;
  operands = λ files told.
      let at = told_now s start now is files told in
      subst (λ (f : Files). HoldOperands f s p.cache.arrays) at.2
      (made at.0 s forms p.cache.arrays (made_result s) rules prepared.cache.arrays (hold at.0 s forms p.cache.arrays prepared.cache.arrays (opened at.0 at.1)));
  made = λ files told.
      let at = told_now s start now is files told in
      subst (λ (f : Files). file f (file_of s s.result) ≡ Some (made_result s)) at.2 (file-with_file at.0 (file_of s s.result) (made_result s));
}

-- what a run by a least plan leaves of the room where it ends with a free fault
has_taken : (s : Specification) (budget : ℕ) (plan : Plan) (before after : List (ℕ × ℕ)) → IsLeastPlan s.declarations.space s.tree plan → MayHaveTaken s budget plan before after
    → (after ≡ before) ⊎ HasTaken s budget before after
has_taken s budget plan before after least (inl same) = inl same
has_taken s budget plan before after least (inr taken) = inr (record { plan = plan; least = least; taken = taken })

pub room_left : (f : JobFault) (s : Specification) (budget : ℕ) (plan : Plan) (before after : List (ℕ × ℕ)) → IsLeastPlan s.declarations.space s.tree plan → IsFree f
    → MayHaveTaken s budget plan before after → IsRoomLeft f s budget before after
room_left (BudgetTooSmall n) s budget plan before after least free may = absurd free
room_left (IntermediatesTooLarge n) s budget plan before after least free may = absurd free
room_left (Array t fault) s budget plan before after least free may = absurd free
room_left Disk s budget plan before after least free may = has_taken s budget plan before after least may
room_left Memory s budget plan before after least free may = has_taken s budget plan before after least may

-- and what one leaves that took nothing
pub room_as_it_was : (f : JobFault) (s : Specification) (budget : ℕ) (takings : List (ℕ × ℕ)) → IsRoomLeft f s budget takings takings
room_as_it_was (BudgetTooSmall n) s budget takings = refl
room_as_it_was (IntermediatesTooLarge n) s budget takings = refl
room_as_it_was (Array t fault) s budget takings = refl
room_as_it_was Disk s budget takings = inl refl
room_as_it_was Memory s budget takings = inl refl
