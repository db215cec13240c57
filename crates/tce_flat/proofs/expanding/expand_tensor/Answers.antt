use Rattle.std.proofs.Common.{◌≡◌, rules, ◌∙◌, ap, refl, Err, List, ℕ, Option, inl, inr, subst, codes, arith}
use Rattle.tce_outside.specs.Files.{Files, file, others}
use Rattle.tce_space.specs.Tiling.{Tiling}
use Rattle.tce_array.specs.declared.form.Form.TheVariants.{One}
use Rattle.tce_array.specs.Forms.{head_len, array_bytes}
use Rattle.tce_tools.specs.Flat.{contents}
use Rattle.tce_tools.specs.NoHalf.{LeavesNoHalfOf}
use Rattle.tce_sym.specs.declared.symmetry.Symmetry.{Symmetry}
use Rattle.tce_sym.specs.Storage.{full_cell}
use Rattle.tce_flat.specs.Tensors.{array_file, sym_file}
use Rattle.tce_sym.specs.Told.{Expands, IsStoredIn}
use Rattle.tce_flat.proofs.May.{may_sym}
use Rattle.tce_flat.proofs.SymFiles.{files_apart, sym_cause, sym_told, sym_refused}
use Rattle.tce_flat.proofs.Tools.{report_is}
use Rattle.tce_outside.proofs.Causes.{answered_quiet, cause_as, cause_since}
use Rattle.tce_command.proofs.Outcomes.{ok_no_disk}
use Rattle.tce_sym.specs.Faults.{IsFault}
use Rattle.tce_flat.proofs.expanding.expand_tensor.Goals as goal

-- the stored elements are not in the array file
pub expand_file-requires-clause-names : goal.expand_file-requires-clause-names
expand_file-requires-clause-names g c = λ e. files_apart c.args.tensor.now (search rules)

-- what is left of a file of this name, made of the stored elements in another one
abbrev left_of : Tiling → Symmetry → List ℕ → List ℕ → Option Files → Option Files → Type 0
left_of shape s packed array before after =
    LeavesNoHalfOf array (head_len One shape) (λ files. array_bytes shape (full_cell shape.extents s (contents files packed))) before after

pub returns-in-Ok-expand_file-clause-no_half : goal.returns-in-Ok-expand_file-clause-no_half
returns-in-Ok-expand_file-clause-no_half g c =
    let s = c.in-Ok-open_sym.s in
    let after = g.D.Disk.files c.expand_file.new.disk in
    inr (
      s,
      subst (λ (before : Option Files). left_of c.args.shape.now s (sym_file c.args.tensor.now) (array_file c.args.tensor.now) before after) c.open_sym.ensures.same
          (subst (λ (packed : List ℕ). left_of c.args.shape.now s packed (array_file c.args.tensor.now) (g.D.Disk.files c.open_sym.new.disk) after) (c.as_str-3.ensures.value ∙ c.file_of-packed.ensures)
          (subst (λ (array : List ℕ). left_of c.args.shape.now s c.as_str-3.result.now array (g.D.Disk.files c.open_sym.new.disk) after) (c.as_str-4.ensures.value ∙ c.file_of-array.ensures)
          c.expand_file.ensures.no_half)),
    )

pub returns-in-Err-Failed-clause-no_half : goal.returns-in-Err-Failed-clause-no_half
returns-in-Err-Failed-clause-no_half g c =
    let s = c.in-Ok-open_sym.s in
    let after = g.D.Disk.files c.expand_file.new.disk in
    inr (
      s,
      subst (λ (before : Option Files). left_of c.args.shape.now s (sym_file c.args.tensor.now) (array_file c.args.tensor.now) before after) c.open_sym.ensures.same
          (subst (λ (packed : List ℕ). left_of c.args.shape.now s packed (array_file c.args.tensor.now) (g.D.Disk.files c.open_sym.new.disk) after) (c.as_str-3.ensures.value ∙ c.file_of-packed.ensures)
          (subst (λ (array : List ℕ). left_of c.args.shape.now s c.as_str-3.result.now array (g.D.Disk.files c.open_sym.new.disk) after) (c.as_str-4.ensures.value ∙ c.file_of-array.ensures)
          c.expand_file.ensures.no_half)),
    )

pub returns-in-Ok-expand_file-clause-done : goal.returns-in-Ok-expand_file-clause-done
returns-in-Ok-expand_file-clause-done g c =
    let s = c.in-Ok-open_sym.s in
    let after = g.D.Disk.files c.expand_file.new.disk in record {
      symmetry = s;
      found = subst (λ (packed : List ℕ). IsStoredIn (g.D.Disk.files c.args.disk.now) packed c.args.shape.now.extents s) (c.as_str-2.ensures.value ∙ c.file_of-packed.ensures) c.in-Ok-open_sym.ensures.opened;
      written =
          subst (λ (before : Option Files). Expands (sym_file c.args.tensor.now) s (array_file c.args.tensor.now) c.args.shape.now before after) c.open_sym.ensures.same
          (subst (λ (packed : List ℕ). Expands packed s (array_file c.args.tensor.now) c.args.shape.now (g.D.Disk.files c.open_sym.new.disk) after) (c.as_str-3.ensures.value ∙ c.file_of-packed.ensures)
          (subst (λ (array : List ℕ). Expands c.as_str-3.result.now s array c.args.shape.now (g.D.Disk.files c.open_sym.new.disk) after) (c.as_str-4.ensures.value ∙ c.file_of-array.ensures)
          c.in-Ok-expand_file.ensures.expanded));
      reported = report_is (codes "expand") _ _ _ _ _ c.in-Ok.ensures (c.as_str.ensures.value ∙ c.file_of-array.ensures) c.form_len-len.ensures.bytes;
    }

pub returns-clause-no_half : goal.returns-clause-no_half
returns-clause-no_half g c = inl (c.in-Err-Memory.ensures.memory (ap Err c.in-Err-Memory.field-0-is) ∙ c.open_sym.ensures.same)

pub returns-clause-unchanged : goal.returns-clause-unchanged
returns-clause-unchanged g c = λ real. c.in-Err-Memory.ensures.memory (ap Err c.in-Err-Memory.field-0-is) ∙ c.open_sym.ensures.same

pub returns-in-Err-Failed-clause-unchanged : goal.returns-in-Err-Failed-clause-unchanged
returns-in-Err-Failed-clause-unchanged g c = λ real. absurd (real refl)

pub returns-in-Ok-expand_file-clause-others : goal.returns-in-Ok-expand_file-clause-others
returns-in-Ok-expand_file-clause-others g c =
    subst (λ (name : List ℕ). others name (g.D.Disk.files c.expand_file.new.disk) ≡ others name (g.D.Disk.files c.args.disk.now)) (c.as_str-4.ensures.value ∙ c.file_of-array.ensures)
    (c.expand_file.ensures.others ∙ ap (others c.as_str-4.result.now) c.open_sym.ensures.same)

pub returns-in-Err-Failed-clause-others : goal.returns-in-Err-Failed-clause-others
returns-in-Err-Failed-clause-others g c =
    subst (λ (name : List ℕ). others name (g.D.Disk.files c.expand_file.new.disk) ≡ others name (g.D.Disk.files c.args.disk.now)) (c.as_str-4.ensures.value ∙ c.file_of-array.ensures)
    (c.expand_file.ensures.others ∙ ap (others c.as_str-4.result.now) c.open_sym.ensures.same)

pub returns-clause-others : goal.returns-clause-others
returns-clause-others g c =
    subst (λ (name : List ℕ). others name (g.D.Disk.files c.expand_file.new.disk) ≡ others name (g.D.Disk.files c.args.disk.now)) (c.as_str-4.ensures.value ∙ c.file_of-array.ensures)
    (c.expand_file.ensures.others ∙ ap (others c.as_str-4.result.now) c.open_sym.ensures.same)

pub returns-in-Err-clause-refused : goal.returns-in-Err-clause-refused
returns-in-Err-clause-refused g c = (
  may_sym c.args.tensor.now c.in-Err.fault c.sym_refusal.result c.sym_refusal.ensures,
  λ files told.
      sym_refused files c.args.tensor.now c.args.shape.now c.in-Err.fault c.sym_refusal.result c.sym_refusal.ensures
      (subst (λ (name : List ℕ). IsFault c.args.shape.now.extents (file files name) c.in-Err.fault) (c.as_str-2.ensures.value ∙ c.file_of-packed.ensures) (c.in-Err.ensures.fault files told)),
)

pub returns-in-Err-clause-unchanged : goal.returns-in-Err-clause-unchanged
returns-in-Err-clause-unchanged g c = λ real. c.open_sym.ensures.same

pub returns-in-Err-clause-no_half : goal.returns-in-Err-clause-no_half
returns-in-Err-clause-no_half g c = inl c.open_sym.ensures.same

pub returns-in-Err-clause-others : goal.returns-in-Err-clause-others
returns-in-Err-clause-others g c = ap (others (array_file c.args.tensor.now)) c.open_sym.ensures.same

pub returns-in-Err-clause-fault_reported : goal.returns-in-Err-clause-fault_reported
returns-in-Err-clause-fault_reported g c = record {
  cause = sym_cause c.args.tensor.now c.in-Err.fault c.sym_refusal.result _ _ c.sym_refusal.ensures c.in-Err.ensures.fault_reported.cause;
  quiet = sym_told c.args.tensor.now c.in-Err.fault c.sym_refusal.result _ _ c.sym_refusal.ensures c.in-Err.ensures.fault_reported.quiet;
}

pub returns-in-Ok-expand_file-clause-fault_reported : goal.returns-in-Ok-expand_file-clause-fault_reported
returns-in-Ok-expand_file-clause-fault_reported g c = record {
  cause = record { later = omega (arith, c.open_sym.ensures.fault_reported.cause.later, c.expand_file.ensures.fault_reported.cause.later); rose = λ failed. absurd (ok_no_disk _ _ refl failed) };
  quiet = λ none. answered_quiet _ _ _ _ refl c.in-Ok-expand_file.ensures.fault_reported.quiet ∙ answered_quiet _ _ _ _ refl c.in-Ok-open_sym.ensures.fault_reported.quiet;
}

pub returns-in-Err-Failed-clause-refused : goal.returns-in-Err-Failed-clause-refused
returns-in-Err-Failed-clause-refused g c = (tt, λ files told. inl tt)

pub returns-in-Err-Failed-clause-fault_reported : goal.returns-in-Err-Failed-clause-fault_reported
returns-in-Err-Failed-clause-fault_reported g c = record {
  cause = cause_since _ _ _ c.open_sym.ensures.fault_reported.cause.later (cause_as _ _ (λ e. ap Err c.in-Err-Failed.field-0-is) c.in-Err-Failed.ensures.fault_reported.cause);
  quiet = λ none. absurd (none refl);
}

pub returns-clause-refused : goal.returns-clause-refused
returns-clause-refused g c = (tt, λ files told. inl tt)

pub returns-clause-fault_reported : goal.returns-clause-fault_reported
returns-clause-fault_reported g c = record {
  cause = record { later = omega (arith, c.open_sym.ensures.fault_reported.cause.later, c.expand_file.ensures.fault_reported.cause.later); rose = λ failed. absurd (cc) };
  quiet = λ none. c.in-Err-Memory.ensures.fault_reported.quiet (λ e. absurd (cc (c.in-Err-Memory.field-0-is))) ∙ answered_quiet _ _ _ _ refl c.in-Ok-open_sym.ensures.fault_reported.quiet;
}
