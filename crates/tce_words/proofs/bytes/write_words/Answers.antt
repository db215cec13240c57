use Rattle.std.proofs.Common.{◌≡◌, ℕ, List, ◌*◌, ◌-◌, ◌/◌, length, take, drop, ap, ◌∙◌, arith, w64}
use Rattle.std.specs.List.{flat_map}
use Rattle.std.specs.Simd.Lanes.{chunk}
use Rattle.std.proofs.lemmas.List.{take_all, length-drop}
use Rattle.std.proofs.lemmas.Simd.{chunk-fits, below_from_Fits}
use Rattle.tce_base.specs.Word.{word_bytes}
use Rattle.tce_kernel.proofs.Blocks.{done_to}
use Rattle.tce_words.proofs.StoreSteps.{stored_block, stored_all}
use Rattle.tce_words.proofs.bytes.write_words.Goals as goal

pub loop-block-preserved : goal.loop-block-preserved
loop-block-preserved c =
    let at = 4 * c.loop-block.block in let words = c.args.words.now in
    stored_block at _ words c.args.bytes.now c.loop-block.bytes c.loop-block.invariant c.requires (omega arith) (omega arith)
    (below_from_Fits w64 (chunk at 4 words) (chunk-fits w64 at 4 words c.type_inv.words))

pub returns : goal.returns
unfolding word_bytes
returns c =
    let words : List ℕ = c.args.words.now in let whole = flat_map (word_bytes 8) words in
    let at : ℕ = 4 * (length words / 4) in
    let all : 4 * c.loop-block.block ≡ at = omega (arith, c.loop-block-test.false, c.loop-block.auto) in
    let last : take (length words - at) (drop at words) ≡ drop at words = take_all (length words - at) (drop at words) (omega (arith, length-drop at words)) in
    stored_all at words c.args.bytes.now c.loop-block.bytes _
    (c.loop-block.invariant ∙ ap (λ n. done_to (8 * n) whole c.args.bytes.now) all)
    c.requires
    (omega arith)
    (c.write_u64_into.ensures ∙ ap (flat_map (word_bytes 8)) last)
