use Rattle.std.proofs.Common.{◌≡◌, ◌*◌, length, map, sym, ◌∙◌, arith}
use Rattle.std.proofs.lemmas.List.{length-map, get_or-map}
use Rattle.tce_base.specs.Word.{wrapping_add, wrapping_mul}
use Rattle.tce_kernel.proofs.Blocks.{block_joined, word_joined, all_joined, splat_chunk}
use Rattle.tce_kernel.proofs.mul_add_sv.Goals as goal

pub loop-block-preserved : goal.loop-block-preserved
unfolding wrapping_add wrapping_mul
loop-block-preserved c =
    let long : length (map (wrapping_mul c.args.s) c.args.b.now) ≡ length c.args.out.now = length-map c.args.b.now (wrapping_mul c.args.s) ∙ c.requires in
    block_joined wrapping_add (8 * c.loop-block.block) 8 _ (map (wrapping_mul c.args.s) c.args.b.now) _ c.args.out.now c.loop-block.out c.loop-block.invariant long (omega arith) (omega arith)
    (splat_chunk wrapping_mul 8 c.args.s (8 * c.loop-block.block) c.args.b.now (omega arith))

pub loop-at-preserved : goal.loop-at-preserved
unfolding wrapping_add wrapping_mul
loop-at-preserved c =
    let long : length (map (wrapping_mul c.args.s) c.args.b.now) ≡ length c.args.out.now = length-map c.args.b.now (wrapping_mul c.args.s) ∙ c.requires in
    word_joined wrapping_add c.loop-at.at _ (map (wrapping_mul c.args.s) c.args.b.now) c.args.out.now c.loop-at.out c.loop-at.invariant long (omega arith)
    (sym (get_or-map (wrapping_mul c.args.s) c.args.b.now c.loop-at.at 0 0 (omega arith)))

pub returns : goal.returns
returns c =
    let long : length (map (wrapping_mul c.args.s) c.args.b.now) ≡ length c.args.out.now = length-map c.args.b.now (wrapping_mul c.args.s) ∙ c.requires in
    all_joined wrapping_add c.loop-at.at (map (wrapping_mul c.args.s) c.args.b.now) c.args.out.now c.loop-at.out c.loop-at.invariant long (omega arith)
