use Rattle.std.proofs.Common.{◌≡◌, ◌∙◌, ◌*◌, sym, ap, subst, OnOk, List, ℕ, replicate}
use Rattle.tce_outside.specs.Files.{holding}
use Rattle.tce_tools.specs.declared.storage.Storage.{Storage}
use Rattle.tce_tools.specs.Storage.{bare_bytes}
use Rattle.tce_tools.proofs.Zeros.{zero_flat, zero_form}
use Rattle.tce_tools.proofs.storage.make.Goals as goal

pub returns-in-Flat-clause-made : goal.returns-in-Flat-clause-made
returns-in-Flat-clause-made g c =
    let is : replicate (8 * c.elements.result) 0 ≡ bare_bytes c.args.storage c.args.shape.now (λ _. 0) =
    zero_flat c.args.shape.now c.elements.result c.elements.ensures.elements ∙ ap (λ (t : Storage). bare_bytes t c.args.shape.now (λ _. 0)) (sym c.in-Flat.is) in
    subst (λ (bytes : List ℕ). OnOk c.make.result (g.D.Disk.files c.make.new.self ≡ holding c.args.name.now bytes (g.D.Disk.files c.args.disk.now))) is c.make.ensures.made

pub returns-in-Array-clause-made : goal.returns-in-Array-clause-made
returns-in-Array-clause-made g c =
    let is : replicate c.form_len.result 0 ≡ bare_bytes c.args.storage c.args.shape.now (λ _. 0) =
    ap (λ n. replicate n 0) c.form_len.ensures.bytes ∙ zero_form c.in-Array.form c.args.shape.now ∙ ap (λ (t : Storage). bare_bytes t c.args.shape.now (λ _. 0)) (sym c.in-Array.is) in
    subst (λ (bytes : List ℕ). OnOk c.make-in-Array.result (g.D.Disk.files c.make-in-Array.new.self ≡ holding c.args.name.now bytes (g.D.Disk.files c.args.disk.now))) is c.make-in-Array.ensures.made

pub returns-in-Flat-clause-memory : goal.returns-in-Flat-clause-memory
returns-in-Flat-clause-memory g c = c.make.ensures.memory

pub returns-in-Flat-clause-zeros : goal.returns-in-Flat-clause-zeros
returns-in-Flat-clause-zeros g c = c.make.ensures.zeros

pub returns-in-Flat-clause-others : goal.returns-in-Flat-clause-others
returns-in-Flat-clause-others g c = c.make.ensures.others

pub returns-in-Flat-clause-fault_reported : goal.returns-in-Flat-clause-fault_reported
returns-in-Flat-clause-fault_reported g c = c.make.ensures.fault_reported

pub returns-in-Array-clause-memory : goal.returns-in-Array-clause-memory
returns-in-Array-clause-memory g c = c.make-in-Array.ensures.memory

pub returns-in-Array-clause-zeros : goal.returns-in-Array-clause-zeros
returns-in-Array-clause-zeros g c = c.make-in-Array.ensures.zeros

pub returns-in-Array-clause-others : goal.returns-in-Array-clause-others
returns-in-Array-clause-others g c = c.make-in-Array.ensures.others

pub returns-in-Array-clause-fault_reported : goal.returns-in-Array-clause-fault_reported
returns-in-Array-clause-fault_reported g c = c.make-in-Array.ensures.fault_reported
