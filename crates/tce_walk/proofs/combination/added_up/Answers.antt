use Rattle.std.proofs.Common.{subst}
use Rattle.tce_walk.proofs.CountedLoops.{if_some_map}
use Rattle.tce_walk.proofs.TermSums.{adds_up_to_value}
use Rattle.tce_walk.specs.FoundTerms.{AddUpTo}
use Rattle.tce_walk.proofs.combination.added_up.Goals as goal

pub returns : goal.returns
returns c =
    if_some_map c.terms_of.result c.terms_of.ensures (λ found h.
    adds_up_to_value c.args.tree.now c.args.v c.new-summands.result.items c.add_node.new.summands.items found.terms.items found.scale c.new-summands.ensures
    (c.add_node.ensures c.if-not-add_node.false) (subst (λ xs. AddUpTo c.args.tree.now xs found.terms.items found.scale) c.as_slice.ensures.value h))
