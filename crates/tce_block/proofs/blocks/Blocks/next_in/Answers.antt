use Rattle.std.proofs.Common.{◌≡◌, ◌∙◌, ap, sym, subst, ℕ, List, Some}
use Rattle.tce_space.specs.Box.{IsInside}
use Rattle.tce_space.specs.Tiling.{counts_along}
use Rattle.tce_block.specs.Parts.{block}
use Rattle.tce_block.specs.Cuts.{part_of}
use Rattle.tce_block.proofs.Next.{first_left, next_left, not_finished}
use Rattle.tce_block.proofs.blocks.Blocks.next_in.Goals as goal

pub returns-clause-block : goal.returns-clause-block
returns-clause-block c =
    let ns : List ℕ = c.self.inside.extents.items in
    let es : List ℕ = c.self.inside.edges.items in
    let bs : List ℕ = c.self.inside.numbers.items in
    let inside : IsInside (counts_along ns es) bs = subst (λ cs. IsInside cs bs) c.self.invariant.counts c.self.invariant.inside in
    let is : part_of c.fill_block.new.block ≡ block ns es bs = c.fill_block.ensures ∙ ap (λ xs. block xs c.deref-2.result.now c.deref-3.result.now) c.deref.ensures.0 ∙ ap (λ xs. block ns xs c.deref-3.result.now) c.deref-2.ensures.0 ∙ ap (block ns es) c.deref-3.ensures.0 in
    ap Some is ∙ first_left ns es bs c.args.self.now inside (not_finished c.self.inside.finished _ c.args.self.now c.self.view_is c.if-self.false)

pub returns-clause-rest : goal.returns-clause-rest
returns-clause-rest c =
    next_left c.self.inside.extents.items c.self.inside.edges.items c.deref-4.result.now c.deref_mut.result.now c.advance-self-inside.new.numbers c.self.inside.numbers c.advance-self-inside.result c.args.self.now
    (c.deref-4.ensures.0 ∙ c.self.invariant.counts) c.deref_mut.ensures.value
    (subst (λ cs. IsInside cs c.self.inside.numbers.items) (sym c.deref-4.ensures.0) c.self.invariant.inside) c.advance-self-inside.ensures (not_finished c.self.inside.finished _ c.args.self.now c.self.view_is c.if-self.false)
