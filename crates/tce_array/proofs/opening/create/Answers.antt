use Rattle.std.proofs.Common.{arith, ◌∙◌, ◌≡◌, ◌≤◌, ◌+◌, ℕ, ap, length, replicate}
use Rattle.std.proofs.lemmas.List.{length-replicate}
use Rattle.tce_outside.specs.Files.{overwritten}
use Rattle.tce_array.specs.Forms.{head, form_len, form_bytes}
use Rattle.tce_array.proofs.Contents.{length-head}
use Rattle.tce_array.proofs.Zeros.{zeros_with_head}
use Rattle.tce_array.proofs.MadeFiles.{made_has_part, made_and_written}
use Rattle.tce_array.proofs.opening.create.Goals as goal

pub write_at-requires : goal.write_at-requires
write_at-requires g c =
    let len = length-head c.args.form c.args.shape.now in
    let is : c.as_slice.result.now ≡ head c.args.form c.args.shape.now = c.as_slice.ensures.value ∙ c.head-head.ensures.items in
    let short : 0 + length c.as_slice.result.now ≤ length (replicate c.form_len.result 0) = omega (arith, ap length is, len, length-replicate {A = ℕ} c.form_len.result 0, c.form_len.ensures.bytes) in
    made_has_part (g.D.Disk.files c.args.disk.now) _ _ _ _ _ c.in_ok-make.ensures.made short

pub returns-in-Ok-clause-zeros : goal.returns-in-Ok-clause-zeros
returns-in-Ok-clause-zeros g c =
    let is : c.as_slice.result.now ≡ head c.args.form c.args.shape.now = c.as_slice.ensures.value ∙ c.head-head.ensures.items in
    made_and_written (g.D.Disk.files c.args.disk.now) _ _ c.args.name.now (replicate c.form_len.result 0) c.as_slice.result.now (form_bytes c.args.form c.args.shape.now (λ _. 0)) 0 c.in_ok-make.ensures.made c.in-Ok.ensures.written
    (ap (λ n. overwritten (replicate n 0) 0 c.as_slice.result.now) c.form_len.ensures.bytes
    ∙ ap (overwritten (replicate (form_len c.args.form c.args.shape.now) 0) 0) is
    ∙ zeros_with_head c.args.form c.args.shape.now)
