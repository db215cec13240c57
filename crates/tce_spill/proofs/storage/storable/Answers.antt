use Rattle.std.proofs.Common.{◌≡◌, ◌+◌, ap, ◌∙◌, sym, eqb-true, arith}
use Rattle.std.specs.Prelude.{ℕ, List, map}
use Rattle.std.proofs.lemmas.Bool.{eq-eqb, both_ways}
use Rattle.tce_space.specs.IndexSet.{has, count, members}
use Rattle.tce_space.specs.Space.{index_at, tiling_of}
use Rattle.tce_tree.specs.ContractionTree.{operations}
use Rattle.tce_tree.proofs.NamedIndexes.{node_dims_declared}
use Rattle.tce_spec.specs.Storable as store
use Rattle.tce_spill.proofs.Ranges.{storable_is, root_not_storable, rank_not_storable}
use Rattle.tce_spill.proofs.storage.storable.Goals as goal
use Rattle.tce_spill.proofs.storage.storable.Goals.{then-is_root-via-then-is_root, then-is_root-via-else-is_root+then-count}

pub ranges_of-requires-clause-declared : goal.ranges_of-requires-clause-declared
ranges_of-requires-clause-declared c i m =
    node_dims_declared c.args.space.now c.args.tree.now c.args.v c.requires.inside c.index_count-indexes.ensures.limits.index_limit c.requires.measured.declared i
    (ap (λ s. has s i) (sym c.dims-dims.ensures) ∙ m)

pub returns-then-is_root : goal.returns-then-is_root
returns-then-is_root c =
    elim c.then-is_root.branch [
      | then-is_root-via-then-is_root w ↦
          let last = eqb-true (c.args.v + 1) (operations c.args.tree.now) (sym c.is_root.ensures ∙ w.if-is_root.true) in
          root_not_storable c.args.space.now c.args.tree.now c.args.v (omega (arith, last))
      | then-is_root-via-else-is_root+then-count w ↦
          let same = ap count c.dims-dims.ensures in
          rank_not_storable c.args.space.now c.args.tree.now c.args.v (omega (arith, same, w.count.ensures.value, w.if-count.true))
    ]

pub returns : goal.returns
returns c =
    let same = ap count c.dims-dims.ensures in
    let apart : c.args.v + 1 ≡ operations c.args.tree.now → ⊥ = λ e. both_ways c.is_root.result c.if-is_root.false (c.is_root.ensures ∙ eq-eqb (c.args.v + 1) (operations c.args.tree.now) e) in
    storable_is c.args.space.now c.args.tree.now c.args.v c.has_room.result (omega (arith, apart, c.requires.inside))
    (omega (arith, same, c.count.ensures.value, c.if-count.false))
    (c.has_room.ensures ∙ ap (λ (rs : List ℕ). store.has_room (tiling_of c.args.space.now rs))
    (c.ranges_of.ensures.ranges ∙ ap (λ s. map (λ i. (index_at c.args.space.now i).of_range) (members s)) c.dims-dims.ensures))
