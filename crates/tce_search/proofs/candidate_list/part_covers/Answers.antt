use Rattle.tce_search.proofs.candidate_list.part_covers.Goals as goal

pub returns : goal.returns
returns c = (λ h. record { some = c.some_pair_covers.ensures.0 h }, λ found. c.some_pair_covers.ensures.1 found.some)
