use Rattle.std.proofs.Common.{◌∙◌, length, ap, sym, subst, get_or, ◌+◌, ◌<◌, ◌^◌}
use Rattle.tce_space.specs.Tiling.{counts_along}
use Rattle.tce_block.specs.Cuts.{part_of}
use Rattle.tce_block.specs.Grouped.{IsPair, pairs_left}
use Rattle.tce_block.proofs.Grouped.{first_pair, small_numbers, still}
use Rattle.tce_block.proofs.groups.GroupedBlocks.next_in.Goals as goal
use Rattle.tce_block.proofs.groups.GroupedBlocks.next_in.Goals.{After-as_slice-2}

pub invariant_of-self : goal.invariant_of-self
invariant_of-self c =
    let kept =
    still (counts_along c.self.inside.extents.items c.self.inside.edges.items) (part_of c.self.inside.group) (part_of c.next_number.new.group) c.self.inside.numbers c.self.inside.groups
    c.next_number.new.numbers c.next_number.new.groups c.self.invariant.groups c.self.invariant.pairs c.next_number.ensures.rest c.next_number.ensures.groups in
    record { within = c.self.invariant.within; groups = kept.lengths; pairs = kept.pairs }

-- the pair of the next block
next_pair : (c : After-as_slice-2) → IsPair (counts_along c.self.inside.extents.items c.self.inside.edges.items) (part_of c.next_number.new.group, part_of c.next_number.new.number)
next_pair c =
    first_pair (counts_along c.self.inside.extents.items c.self.inside.edges.items) (pairs_left (part_of c.self.inside.group) c.self.inside.numbers c.self.inside.groups)
    (part_of c.next_number.new.group, part_of c.next_number.new.number) c.self.invariant.pairs c.if-not-next_number.ensures.pair

pub shifted_numbers-numbers-requires-clause-long : goal.shifted_numbers-numbers-requires-clause-long
shifted_numbers-numbers-requires-clause-long c = ap length c.as_slice.ensures.value ∙ (next_pair c).long ∙ ap length (sym c.as_slice-2.ensures.value)

pub shifted_numbers-numbers-requires-clause-low : goal.shifted_numbers-numbers-requires-clause-low
shifted_numbers-numbers-requires-clause-low c d l =
    let pair = next_pair c in
    subst (λ xs. get_or xs d 0 + get_or c.as_slice-2.result.now d 0 < 2 ^ 32) (sym c.as_slice.ensures.value)
    (subst (λ xs. get_or c.next_number.new.group.from.items d 0 + get_or xs d 0 < 2 ^ 32) (sym c.as_slice-2.ensures.value)
    (small_numbers c.self.inside.extents.items c.self.inside.edges.items c.next_number.new.group.from.items c.next_number.new.number.from.items c.self.invariant.within pair.inside pair.long d
    (subst (λ xs. d < length xs) c.as_slice-2.ensures.value l)))

pub invariant_of-self-2 : goal.invariant_of-self-2
invariant_of-self-2 c =
    let kept =
    still (counts_along c.self.inside.extents.items c.self.inside.edges.items) (part_of c.self.inside.group) (part_of c.next_number.new.group) c.self.inside.numbers c.self.inside.groups
    c.next_number.new.numbers c.next_number.new.groups c.self.invariant.groups c.self.invariant.pairs c.next_number.ensures.rest c.next_number.ensures.groups in
    record { within = c.self.invariant.within; groups = kept.lengths; pairs = kept.pairs }
