use Rattle.std.proofs.Common.{◌+◌, ◌++◌, ◌∷◌, [], sym, ap, ◌∙◌}
use Rattle.tce_walk.proofs.Searching.{tail-constant, tail-here}
use Rattle.tce_walk.proofs.search.find_tail.Goals as goal

pub returns-then-has_constant : goal.returns-then-has_constant
returns-then-has_constant c =
    tail-constant c.args.tree.now c.args.ops.now (c.args.at + 1) c.args.i c.push.new.self.items c.find_inside.new.loops.0.items c.in_ok-inside.inside.node
    c.in_ok-inside.inside.sum c.in_ok-inside.inside.close c.in_ok-inside.ensures (sym c.if-has_constant.ensures)

pub returns : goal.returns
returns c = (
  tail-here c.args.tree.now c.args.ops.now (c.args.at + 1) c.args.i c.push.new.self.items _ c.in_ok-inside.inside.close (c.push.ensures.items ∙ ap (λ xs. xs ++ c.args.i ∷ []) c.new.ensures) c.in_ok-inside.ensures
      (sym c.if-has_constant.ensures),
  (c.in_ok-inside.ensures).ends,
)
