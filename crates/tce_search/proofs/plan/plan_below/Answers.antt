use Rattle.std.proofs.Common.{◌≡◌, ◌+◌, ◌-◌, ◌<◌, length, arith, inl, inr}
use Rattle.std.proofs.lemmas.Bool.{both_ways, cases_lt}
use Rattle.tce_tree.specs.ContractionTree.{operations}
use Rattle.tce_search.specs.CandidateLists.{tables_of}
use Rattle.tce_search.proofs.Growing.{found_kept}
use Rattle.tce_search.proofs.Operands.{are_operands}
use Rattle.tce_search.proofs.Joining.{nodes_covered, pruned, root_joins, whole_legal, whole_high, whole_below, below_fusions}
use Rattle.tce_search.proofs.Proving.{least_plan, plan_memory}
use Rattle.tce_search.proofs.plan.plan_below.Goals as goal

pub least_fusion-requires : goal.least_fusion-requires
least_fusion-requires c =
    let root = c.count-root.result - 1 in
    let inside : root < operations c.args.tree.now = omega arith in
    let next : length c.args.found.now.lists ≡ root = omega (arith, c.requires.count) in
    are_operands c.args.space.now c.args.tree.now c.args.found.now root (omega arith) (found_kept c.args.space.now c.args.tree.now c.args.found.now c.requires.found) inside next
    c.loops.result c.of_left-lefts.result.now c.of_right-rights.result.now c.loops.ensures.limit c.of_left-lefts.ensures c.of_right-rights.ensures

pub unwrap-whole-requires : goal.unwrap-whole-requires
unwrap-whole-requires c =
    let next : length c.args.found.now.lists ≡ c.count-root.result - 1 = omega (arith, c.requires.count) in
    root_joins c.args.space.now c.args.tree.now c.args.found.now (c.count-root.result - 1) c.requires.found next (omega arith)
    c.loops.result c.least_fusion.result c.loops.ensures.value
    (rw (← c.of_left-lefts.ensures, ← c.of_right-rights.ensures) c.least_fusion.ensures.bound)

pub plan_of-requires-clause-fits : goal.plan_of-requires-clause-fits
plan_of-requires-clause-fits c =
    let next : length c.args.found.now.lists ≡ c.count-root.result - 1 = omega (arith, c.requires.count) in
    (whole_legal c.args.space.now c.args.tree.now c.args.found.now (c.count-root.result - 1) c.requires.found next (omega arith)
    c.loops.result c.least_fusion.result c.unwrap-whole.result c.loops.ensures.value (c.is_below.ensures.0 c.if-not-is_below.false).1 c.unwrap-whole.ensures
    (rw (← c.of_left-lefts.ensures, ← c.of_right-rights.ensures) c.least_fusion.ensures.made)).fits

pub plan_of-requires-clause-legal : goal.plan_of-requires-clause-legal
plan_of-requires-clause-legal c =
    let next : length c.args.found.now.lists ≡ c.count-root.result - 1 = omega (arith, c.requires.count) in
    (whole_legal c.args.space.now c.args.tree.now c.args.found.now (c.count-root.result - 1) c.requires.found next (omega arith)
    c.loops.result c.least_fusion.result c.unwrap-whole.result c.loops.ensures.value (c.is_below.ensures.0 c.if-not-is_below.false).1 c.unwrap-whole.ensures
    (rw (← c.of_left-lefts.ensures, ← c.of_right-rights.ensures) c.least_fusion.ensures.made)).legal

pub returns-then-not-is_below-clause-answer : goal.returns-then-not-is_below-clause-answer
returns-then-not-is_below-clause-answer c =
    let next : length c.args.found.now.lists ≡ c.count-root.result - 1 = omega (arith, c.requires.count) in
    below_fusions c.args.space.now c.args.tree.now c.args.found.now (c.count-root.result - 1) c.requires.found next (omega arith)
    c.loops.result c.least_fusion.result c.unwrap-whole.result c.loops.ensures.value c.unwrap-whole.ensures
    (rw (← c.of_left-lefts.ensures, ← c.of_right-rights.ensures) c.least_fusion.ensures.bound)

pub returns-then-not-is_below-clause-plain : goal.returns-then-not-is_below-clause-plain
returns-then-not-is_below-clause-plain c full =
    let next : length c.args.found.now.lists ≡ c.count-root.result - 1 = omega (arith, c.requires.count) in
    elim (cases_lt c.unwrap-whole.result.memory c.args.ceiling) [
      | inr high ↦ high
      | inl low ↦
          let high = whole_high c.args.space.now c.args.tree.now c.args.found.now (c.count-root.result - 1) c.requires.found next (omega arith)
          c.loops.result c.least_fusion.result c.unwrap-whole.result c.loops.ensures.value (λ is. both_ways c.is_below.result c.if-not-is_below.true (c.is_below.ensures.1 (low, is))) c.unwrap-whole.ensures
          (rw (← c.of_left-lefts.ensures, ← c.of_right-rights.ensures) c.least_fusion.ensures.made) in
          omega (arith, full, high)
    ]

pub returns-clause-answer : goal.returns-clause-answer
returns-clause-answer c =
    let space = c.args.space.now in
    let tree = c.args.tree.now in
    let found = c.args.found.now in
    let next : length c.args.found.now.lists ≡ c.count-root.result - 1 = omega (arith, c.requires.count) in
    let last : c.count-root.result - 1 + 1 ≡ operations c.args.tree.now = omega arith in
    let legal = whole_legal c.args.space.now c.args.tree.now c.args.found.now (c.count-root.result - 1) c.requires.found next (omega arith)
    c.loops.result c.least_fusion.result c.unwrap-whole.result c.loops.ensures.value (c.is_below.ensures.0 c.if-not-is_below.false).1 c.unwrap-whole.ensures
    (rw (← c.of_left-lefts.ensures, ← c.of_right-rights.ensures) c.least_fusion.ensures.made) in
    let below = whole_below space tree found (c.count-root.result - 1) c.requires.found next last
    c.loops.result c.least_fusion.result c.unwrap-whole.result c.loops.ensures.value c.unwrap-whole.ensures
    (rw (← c.of_left-lefts.ensures, ← c.of_right-rights.ensures) c.least_fusion.ensures.bound) in
    let memory = plan_memory space tree c.unwrap-whole.result.sets.items c.unwrap-whole.result.memory (tables_of found.lists) c.in_ok-plan.plan legal c.in_ok-plan.ensures in (
      least_plan space tree found c.unwrap-whole.result.sets.items c.unwrap-whole.result.memory c.in_ok-plan.plan c.requires.count c.requires.found
          (nodes_covered space tree found (c.count-root.result - 1) c.requires.found next last)
          (pruned space tree found (c.count-root.result - 1) c.requires.found next last) below legal c.in_ok-plan.ensures,
      omega (arith, memory, (c.is_below.ensures.0 c.if-not-is_below.false).0),
    )
