-- How the refusals of the tools are told, whatever the disk tells.
use Rattle.std.proofs.Common.{sym, subst, ℕ, List, inl, inr, Err}
use Rattle.tce_array.specs.declared.form.Form.{Form}
use Rattle.tce_array.specs.declared.fault.ArrayFault.{ArrayFault}
use Rattle.tce_array.specs.declared.fault.ArrayFault.TheVariants as array_fault
use Rattle.tce_tools.specs.Answers.{IsOfPack, IsOfUnpack, IsOfConvert}
use Rattle.tce_tools.specs.declared.fault.ToolFault.{ToolFault}
use Rattle.tce_tools.specs.declared.fault.ToolFault.TheVariants as tool
use Rattle.tce_sym.specs.declared.fault.SymFault.{SymFault}
use Rattle.tce_sym.specs.declared.fault.SymFault.TheVariants as sym_fault
use Rattle.tce_spec.specs.Specification.{Specification as Specified}
use Rattle.tce_command.specs.declared.refusal.Refusal.{Refusal}
use Rattle.tce_command.specs.declared.refusal.Refusal.TheVariants.{Missing, Array, Misfit, Tensor, Symmetry, Memory}
use Rattle.tce_flat.specs.Refusals.{IsUndeclared}
use Rattle.tce_flat.specs.Tensors.{array_file}
use Rattle.tce_flat.specs.Tools.{KeepsFault, Stands, SymStands}
use Rattle.tce_flat.specs.May.{MayLackTensor, MayRefuseFlat, MayRefuseArray, MayRefuseForm, MayRefuseSym}

-- a tensor that is not declared
pub may_lack : (spec tensor : List ℕ) (s : Specified) (a : Refusal) → IsUndeclared s tensor a → MayLackTensor spec tensor a
may_lack spec tensor s Memory lacks = inl tt
may_lack spec tensor s (Tensor name) lacks = inr lacks.1
may_lack spec tensor s a lacks = absurd lacks.1

-- a flat file
pub may_flat : (tensor flat : List ℕ) (fault : ToolFault) (a : Refusal) → Stands tensor flat fault a → IsOfPack (Err fault) → MayRefuseFlat flat a
may_flat tensor flat tool.NoFlat (Missing name) stands own = stands
may_flat tensor flat tool.NoFlat a stands own = absurd stands
may_flat tensor flat (tool.FlatLength n) a stands own = subst (MayRefuseFlat flat) (sym stands) tt
may_flat tensor flat (tool.Array fault) a stands own = absurd own
may_flat tensor flat (tool.DoesNotFit k) a stands own = absurd own
may_flat tensor flat tool.Disk a stands own = subst (MayRefuseFlat flat) (sym stands) tt
may_flat tensor flat tool.Memory a stands own = subst (MayRefuseFlat flat) (sym stands) tt

-- the array file of a tensor
kept : (tensor : List ℕ) (fault : ArrayFault) (a : Refusal) → KeepsFault tensor (tool.Array fault) a → MayRefuseArray tensor a
kept tensor fault (Array name trouble) keeps = keeps.1
kept tensor fault a keeps = absurd keeps

of_array : (tensor : List ℕ) (fault : ArrayFault) (a : Refusal) → Stands tensor (array_file tensor) (tool.Array fault) a → MayRefuseArray tensor a
of_array tensor array_fault.NoFile (Missing name) stands = stands
of_array tensor array_fault.NoFile a stands = absurd stands
of_array tensor (array_fault.BadLength n) a stands = kept tensor (array_fault.BadLength n) a stands
of_array tensor (array_fault.BadHeader p) a stands = kept tensor (array_fault.BadHeader p) a stands
of_array tensor array_fault.Disk a stands = kept tensor array_fault.Disk a stands

pub may_array : (tensor : List ℕ) (fault : ToolFault) (a : Refusal) → Stands tensor (array_file tensor) fault a → IsOfUnpack (Err fault) → MayRefuseArray tensor a
may_array tensor tool.NoFlat a stands own = absurd own
may_array tensor (tool.FlatLength n) a stands own = absurd own
may_array tensor (tool.Array fault) a stands own = of_array tensor fault a stands
may_array tensor (tool.DoesNotFit k) a stands own = absurd own
may_array tensor tool.Disk a stands own = subst (MayRefuseArray tensor) (sym stands) tt
may_array tensor tool.Memory a stands own = subst (MayRefuseArray tensor) (sym stands) tt

-- and one that is to be converted
as_form : (tensor : List ℕ) (form : Form) (a : Refusal) → MayRefuseArray tensor a → MayRefuseForm tensor form a
as_form tensor form (Misfit place) may = absurd may
as_form tensor form a may = may

pub may_form : (tensor : List ℕ) (form : Form) (fault : ToolFault) (a : Refusal) → Stands tensor (array_file tensor) fault a → IsOfConvert form (Err fault) → MayRefuseForm tensor form a
may_form tensor form tool.NoFlat a stands own = absurd own
may_form tensor form (tool.FlatLength n) a stands own = absurd own
may_form tensor form (tool.Array fault) a stands own = as_form tensor form a (of_array tensor fault a stands)
may_form tensor form (tool.DoesNotFit k) a stands own = subst (MayRefuseForm tensor form) (sym stands) own
may_form tensor form tool.Disk a stands own = subst (MayRefuseForm tensor form) (sym stands) tt
may_form tensor form tool.Memory a stands own = subst (MayRefuseForm tensor form) (sym stands) tt

-- a file of stored elements
pub may_sym : (tensor : List ℕ) (fault : SymFault) (a : Refusal) → SymStands tensor fault a → MayRefuseSym tensor a
may_sym tensor sym_fault.NoFile (Missing name) stands = stands
may_sym tensor sym_fault.NoFile a stands = absurd stands
may_sym tensor (sym_fault.BadLength n) (Symmetry name trouble) stands = stands.1
may_sym tensor (sym_fault.BadLength n) a stands = absurd stands
may_sym tensor (sym_fault.BadHeader p) (Symmetry name trouble) stands = stands.1
may_sym tensor (sym_fault.BadHeader p) a stands = absurd stands
may_sym tensor sym_fault.Disk a stands = subst (MayRefuseSym tensor) (sym stands) tt
