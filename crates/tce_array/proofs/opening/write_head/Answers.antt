use Rattle.std.proofs.Common.{◌≡◌, ◌∙◌, ◌+◌, ap, length, subst, arith}
use Rattle.tce_outside.specs.Files.{bytes_from}
use Rattle.tce_array.specs.Forms.{head_len}
use Rattle.tce_array.proofs.Contents.{length-head}
use Rattle.tce_array.proofs.opening.write_head.Goals as goal

pub returns-clause-behind : goal.returns-clause-behind
returns-clause-behind g c =
    let len : length c.as_slice.result.now ≡ head_len c.args.form c.args.shape.now =
    ap length (c.as_slice.ensures.value ∙ c.head-head.ensures.items) ∙ length-head c.args.form c.args.shape.now in
    let end : 0 + length c.as_slice.result.now ≡ head_len c.args.form c.args.shape.now = omega (arith, len) in
    subst (λ n. bytes_from c.args.name.now n (g.D.Disk.files c.write_at.new.self) ≡ bytes_from c.args.name.now n (g.D.Disk.files c.args.disk.now)) end c.write_at.ensures.behind
