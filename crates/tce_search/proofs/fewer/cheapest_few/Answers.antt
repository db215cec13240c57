use Rattle.std.specs.List.{Contains}
use Rattle.std.proofs.lemmas.List.Elements.{All-contains, All-contains_itself, All-weaker}
use Rattle.std.proofs.lemmas.List.Sorted.{All-permutation}
use Rattle.tce_search.proofs.fewer.cheapest_few.Goals as goal

pub returns : goal.returns
returns c =
    let all = c.args.candidates.items in
    let ordered = c.in_ok-ordered.ordered.items in
    let kept = c.in_ok-kept.kept.items in
    let among = All-permutation (Contains all) all ordered c.in_ok-ordered.ensures (All-contains_itself all) in
    All-permutation (Contains all) kept c.in_ok-few.few.items c.in_ok-few.ensures
    (All-weaker (Contains ordered) (Contains all) (λ x inn. All-contains (Contains all) ordered x among inn) kept c.in_ok-kept.ensures)
