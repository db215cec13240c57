use Rattle.std.proofs.Common.{◌≡◌, ◌∙◌, List, sym, ap, ap₂, subst, Some}
use Rattle.std.specs.Prelude.{slice_get}
use Rattle.std.specs.List.{All}
use Rattle.std.proofs.lemmas.Option.{get_or_from_slice_get, slice_get_within}
use Rattle.tce_block.specs.Cuts.{part_of}
use Rattle.tce_block.specs.Grouped.{HasLengths, numbers_of, ones, pairs_left}
use Rattle.tce_block.specs.Parts.{Part, blocks}
use Rattle.tce_block.proofs.Grouped.{opened_first, opened_rest}
use Rattle.tce_block.proofs.groups.next_number.Goals as goal
use Rattle.tce_block.proofs.groups.next_number.Goals.{After-next_in-3}

long_first : (groups : List Part) (s : Part) → All HasLengths groups → Some s ≡ slice_get groups 0 → HasLengths s
long_first groups s each e = subst HasLengths (get_or_from_slice_get groups 0 s s (sym e)) (each 0 s (slice_get_within groups 0 s (sym e)))

-- the numbers of the next group
opened : (c : After-next_in-3) → c.restart.new.self ≡ numbers_of (part_of c.next_in-2.new.block)
opened c =
    c.restart.ensures ∙ ap₂ blocks (c.single_cuts-cuts.ensures.extents ∙ c.as_slice.ensures.value) (c.single_cuts-cuts.ensures.edges ∙ ap ones c.as_slice.ensures.value)

pub returns-clause-pair : goal.returns-clause-pair
returns-clause-pair c =
    opened_first (part_of c.args.group.now) (part_of c.next_in-2.new.block) (part_of c.next_in-3.new.block) c.args.numbers.now c.args.groups.now c.restart.new.self c.next_in-3.result
    (sym c.if-next_in.ensures.block) (sym c.if-not-next_in.ensures.block) (long_first c.args.groups.now (part_of c.next_in-2.new.block) c.requires c.if-not-next_in.ensures.block) (opened c) c.next_in-3.ensures.block

pub returns-clause-rest : goal.returns-clause-rest
returns-clause-rest c =
    ap₂ (pairs_left (part_of c.next_in-2.new.block)) c.next_in-3.ensures.rest c.next_in-2.ensures.rest
    ∙ opened_rest (part_of c.args.group.now) (part_of c.next_in-2.new.block) c.args.numbers.now c.args.groups.now c.restart.new.self
    (sym c.if-next_in.ensures.block) (sym c.if-not-next_in.ensures.block) (long_first c.args.groups.now (part_of c.next_in-2.new.block) c.requires c.if-not-next_in.ensures.block) (opened c)
