use Rattle.std.proofs.Common.{◌≡◌, ◌≤◌, ℕ, IsTrue, ◌↔◌, Contains, length, ap, sym, subst, ◌∙◌, arith}
use Rattle.std.proofs.lemmas.List.{take_all}
use Rattle.tce_space.specs.IndexSet.{has, set_of}
use Rattle.tce_space.proofs.IndexSetLaws.{has-set_of}
use Rattle.tce_space.proofs.index_set.IndexSet.of_list.Goals as goal

pub returns-clause-members : goal.returns-clause-members
returns-clause-members c i =
    let past : length c.args.indexes.now ≤ c.loop-index.index-index = omega (arith, c.loop-index-test.false) in
    let is : set_of c.args.indexes.now ≡ c.loop-index.all = sym (c.loop-index.invariant ∙ ap set_of (take_all _ c.args.indexes.now past)) in
    subst (λ (s : ℕ). IsTrue (has s i) ↔ Contains c.args.indexes.now i) is (has-set_of c.args.indexes.now i c.requires)
