use Rattle.std.proofs.Common.{◌≡◌, ◌∙◌, ℕ, List, length, drop, ap, ap₂, arith}
use Rattle.std.specs.List.{refill}
use Rattle.std.proofs.lemmas.List.{take_all, take-append-le}
use Rattle.tce_block.specs.Parts.{Part}
use Rattle.tce_block.proofs.Dimensions.{AreAsMany, as_many}
use Rattle.tce_block.proofs.blocks.fill_block.Goals as goal

-- what a slice of a list holds after each of its elements was written
refill_whole : (n : ℕ) (xs ws : List ℕ) → length ws ≡ n → refill n xs ws ≡ ws
refill_whole n xs ws e =
    take-append-le n ws (drop (length ws) xs) (omega arith) ∙ take_all n ws (omega arith)

pub set_len-requires : goal.set_len-requires
set_len-requires c = omega (arith, (as_many c.args.extents.now c.args.edges.now c.args.numbers.now c.requires.within c.requires.inside).extents, c.requires.few)

pub set_len-requires-2 : goal.set_len-requires-2
set_len-requires-2 c = omega (arith, (as_many c.args.extents.now c.args.edges.now c.args.numbers.now c.requires.within c.requires.inside).extents, c.requires.few)

pub returns : goal.returns
returns c =
    let m : AreAsMany c.args.extents.now c.args.edges.now c.args.numbers.now = as_many c.args.extents.now c.args.edges.now c.args.numbers.now c.requires.within c.requires.inside in
    let from = c.put_block.ensures.from in
    let len = c.put_block.ensures.len in
    let both : (f l : List ℕ) → Part = λ f l. record { from = f; len = l } in
    let from_len : length c.put_block.new.from ≡ length c.set_len.new.list.items = omega (arith, ap length from, m.beginnings_len, c.set_len.ensures) in
    let len_len : length c.put_block.new.len ≡ length c.set_len-2.new.list.items = omega (arith, ap length len, m.lengths_len, c.set_len-2.ensures) in
    ap₂ both (refill_whole _ _ c.put_block.new.from from_len ∙ from) (refill_whole _ _ c.put_block.new.len len_len ∙ len)
