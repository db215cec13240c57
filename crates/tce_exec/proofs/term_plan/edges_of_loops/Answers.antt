use Rattle.std.proofs.Common.{◌<◌, ◌++◌, [], ◌∷◌, map, sym, ap, ap₂, ◌∙◌, arith}
use Rattle.std.proofs.lemmas.List.{map_more, take_all}
use Rattle.arrayvec.specs.ArrayVec.{array_vec_len}
use Rattle.tce_space.specs.Space.{edge_at}
use Rattle.tce_exec.proofs.term_plan.edges_of_loops.Goals as goal

pub edge-requires : goal.edge-requires
edge-requires c = c.requires.declared c.loop-index.index-index 0 c.loop-index-test.true

pub loop-index-preserved : goal.loop-index-preserved
loop-index-preserved c =
    let i = c.loop-index.index-index in
    record {
      edges_are = c.push.ensures.items ∙ ap₂ (λ xs x. xs ++ x ∷ []) c.loop-index.invariant.edges_are c.edge.ensures.edge ∙ sym (map_more (edge_at c.args.space.now) c.args.loops.now i 0 c.loop-index-test.true);
      count = omega (arith, c.push.ensures.len, c.loop-index.invariant.count);
    }

pub push-requires : goal.push-requires
push-requires c =
    let few : array_vec_len c.loop-index.edges < 10 = omega (arith, c.loop-index.invariant.count, c.loop-index-test.true, c.requires.few) in
    (omega arith, few)

pub returns : goal.returns
returns c = c.loop-index.invariant.edges_are ∙ ap (map (edge_at c.args.space.now)) (take_all c.loop-index.index-index c.args.loops.now c.loop-index-test.false)
