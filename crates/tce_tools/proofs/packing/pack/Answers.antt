use Rattle.std.proofs.Common.{◌∙◌, ap, subst, List, ℕ, Option, Result, rules}
use Rattle.std.proofs.lemmas.Bool.{false≢true}
use Rattle.tce_space.specs.Tiling.{Tiling}
use Rattle.tce_outside.specs.Files.{Files, file, others}
use Rattle.tce_outside.proofs.Causes.{cause_since}
use Rattle.tce_array.specs.declared.form.Form.TheVariants.{One}
use Rattle.tce_tools.specs.declared.fault.ToolFault.{ToolFault}
use Rattle.tce_tools.specs.declared.storage.Storage.TheVariants.{Flat, Array}
use Rattle.tce_tools.specs.Answers.{HasFlat, IsPackAnswer, IsOfPack}
use Rattle.tce_tools.specs.Flat.{contents, flat_element}
use Rattle.tce_tools.specs.Storage.{stored_bytes, element_in, holding_by}
use Rattle.tce_tools.specs.Told.{Copies, Packs, KeepsFiles}
use Rattle.tce_tools.proofs.Faults.{copied_or_not, on_ok}
use Rattle.tce_tools.proofs.Forms.{flat_is}
use Rattle.tce_tools.proofs.Stored.{stored_same}
use Rattle.tce_tools.proofs.NoHalf.{packed_left}
use Rattle.tce_tools.proofs.Told.{held_same}
use Rattle.tce_tools.proofs.packing.pack.Goals as goal

pub returns-clause-packed : goal.returns-clause-packed
returns-clause-packed g c =
    let s : Tiling = c.args.shape.now in
    let before : Option Files = g.D.Disk.files c.args.disk.now in
    let after : Option Files = g.D.Disk.files c.copy.new.disk in
    let old : Files → List ℕ = λ fs. stored_bytes (Array One) s (element_in Flat s (contents fs c.args.flat.now)) in
    on_ok c.copy.result (Copies c.args.flat.now Flat c.args.array.now (Array One) s (g.D.Disk.files c.size.new.self) after) (Packs c.args.flat.now c.args.array.now s before after)
    (λ copied. held_same before after c.args.array.now old (λ fs. stored_bytes (Array One) s (flat_element s (contents fs c.args.flat.now)))
    (copied ∙ ap (holding_by c.args.array.now old) c.size.ensures.same)
    (λ fs. stored_same (Array One) s c.elements.ensures.limits _ _ (λ xs h. flat_is s (contents fs c.args.flat.now) xs)))
    c.copy.ensures.copied

pub returns-clause-answer : goal.returns-clause-answer
returns-clause-answer g c x told =
    let flat : HasFlat c.args.shape.now (file x c.args.flat.now) = search rules in
    copied_or_not (λ (r : Result (Unit {0}) ToolFault). IsPackAnswer c.args.shape.now (file x c.args.flat.now) r) c.copy.result c.copy.ensures.own (λ done. flat) tt flat

pub returns-clause-own : goal.returns-clause-own
returns-clause-own g c = copied_or_not (λ (r : Result (Unit {0}) ToolFault). IsOfPack r) c.copy.result c.copy.ensures.own (λ done. tt) tt tt

pub returns-clause-refused : goal.returns-clause-refused
returns-clause-refused g c = subst (λ (o : Option Files). KeepsFiles c.copy.result o (g.D.Disk.files c.copy.new.disk)) c.size.ensures.same c.copy.ensures.refused

pub returns-clause-no_half : goal.returns-clause-no_half
returns-clause-no_half g c = packed_left c.args.shape.now c.elements.ensures.limits c.args.flat.now c.args.array.now (g.D.Disk.files c.args.disk.now) _ _ c.size.ensures.same c.copy.ensures.no_half

pub returns-clause-others : goal.returns-clause-others
returns-clause-others g c = c.copy.ensures.others ∙ ap (others c.args.array.now) c.size.ensures.same

pub returns-clause-fault_reported : goal.returns-clause-fault_reported
returns-clause-fault_reported g c = record {
  cause = cause_since _ (g.D.Disk.faults c.size.new.self) _ c.size.ensures.fault_reported.cause.later c.copy.ensures.fault_reported.cause;
  quiet = λ fine. c.copy.ensures.fault_reported.quiet fine ∙ c.in_ok-len.ensures.fault_reported.quiet false≢true;
}
