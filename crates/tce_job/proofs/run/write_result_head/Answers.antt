use Rattle.std.proofs.Common.{◌≡◌, ◌∙◌, ap, List, ℕ, sym, subst}
use Rattle.std.specs.Prelude.{OnOk}
use Rattle.tce_outside.specs.Files.{others}
use Rattle.tce_space.specs.Tiling.{Tiling}
use Rattle.tce_array.specs.declared.form.Form.TheVariants.{One}
use Rattle.tce_array.specs.OnDisk.{HasRoomForHead, HoldsHead, SameBehindHead}
use Rattle.tce_spec.specs.Operands.{shape_of}
use Rattle.tce_job.specs.TensorFiles.{file_of}
use Rattle.tce_job.proofs.run.write_result_head.Goals as goal

-- what holds of a name and a shape holds of those that are the same
same_parts : (P : List ℕ → Tiling → Type 0) (n m : List ℕ) (s t : Tiling) → n ≡ m → s ≡ t → P n s → P m t
same_parts P n m s t name shape h = subst (λ (u : Tiling). P m u) shape (subst (λ (k : List ℕ). P k s) name h)

pub write_head-requires : goal.write_head-requires
write_head-requires g c =
    same_parts (λ n t. HasRoomForHead (g.D.Disk.files c.args.disk.now) n One t) _ _ _ _ (sym (c.as_str.ensures.value ∙ c.file_of-name.ensures ∙ ap (file_of c.args.spec.now) c.result.ensures.tensor))
    (sym (c.tensor.ensures.shape ∙ ap (shape_of c.args.spec.now) c.result.ensures.tensor)) c.requires

pub returns-clause-written : goal.returns-clause-written
returns-clause-written g c =
    same_parts (λ n t. OnOk c.write_head.result (HoldsHead g.D.Disk.files c.args.disk.now c.write_head.new.disk n One t)) _ _ _ _
    (c.as_str.ensures.value ∙ c.file_of-name.ensures ∙ ap (file_of c.args.spec.now) c.result.ensures.tensor) (c.tensor.ensures.shape ∙ ap (shape_of c.args.spec.now) c.result.ensures.tensor) c.write_head.ensures.written

pub returns-clause-behind : goal.returns-clause-behind
returns-clause-behind g c =
    same_parts (λ n t. SameBehindHead n One t (g.D.Disk.files c.args.disk.now) (g.D.Disk.files c.write_head.new.disk)) _ _ _ _
    (c.as_str.ensures.value ∙ c.file_of-name.ensures ∙ ap (file_of c.args.spec.now) c.result.ensures.tensor) (c.tensor.ensures.shape ∙ ap (shape_of c.args.spec.now) c.result.ensures.tensor) c.write_head.ensures.behind

pub returns-clause-others : goal.returns-clause-others
returns-clause-others g c =
    subst (λ (n : List ℕ). others n (g.D.Disk.files c.write_head.new.disk) ≡ others n (g.D.Disk.files c.args.disk.now)) (c.as_str.ensures.value ∙ c.file_of-name.ensures ∙ ap (file_of c.args.spec.now) c.result.ensures.tensor) c.write_head.ensures.others

pub returns-clause-fault_reported : goal.returns-clause-fault_reported
returns-clause-fault_reported g c = c.write_head.ensures.fault_reported
