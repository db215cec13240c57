use Rattle.std.proofs.Common.{◌+◌, ◌∷◌, [], sym, ap, ◌∙◌, subst, arith, length, length-append}
use Rattle.tce_code.specs.declared.op.Op.TheVariants.{Open}
use Rattle.tce_walk.specs.Tails.{is_stop, tail_loops}
use Rattle.tce_walk.specs.Positions.{program_at}
use Rattle.tce_walk.specs.Search.{IsInside}
use Rattle.tce_walk.proofs.Positions.{stop-past}
use Rattle.tce_walk.proofs.Searching.{loop-shaped, loop-few, inside-none, inside-more, inside-loop}
use Rattle.tce_walk.proofs.search.+find_inside.Goals as goal

pub find_inside-requires : goal.find_inside-requires
find_inside-requires t c =
    let few = loop-few c.args.ops.now c.args.at c.in-Open.i (Open 0) c.if-at-ops.false c.in-Open.is in (
      omega arith,
      (
        omega arith,
        (
          loop-shaped c.args.tree.now c.args.ops.now c.args.at c.in-Open.i (Open 0) c.if-at-ops.false c.in-Open.is c.requires.shaped,
          omega (arith, few, c.requires.few, ap length c.push.ensures.items, length-append c.args.loops.now.0.items (c.in-Open.i ∷ [])),
        ),
      ),
    )

pub returns : goal.returns
returns t c =
    subst (λ k. IsInside c.args.tree.now c.args.ops.now c.args.at c.args.loops.now.0.items c.find_inside.new.loops.0.items c.in_ok-inside.inside.node c.in_ok-inside.inside.sum k)
    (sym c.min-close.ensures)
    (inside-loop c.args.tree.now c.args.ops.now c.args.at c.in-Open.i (Open 0) c.args.loops.now.0.items c.find_inside.new.loops.0.items c.in_ok-inside.inside.node
    c.in_ok-inside.inside.sum c.in_ok-inside.inside.close c.if-at-ops.false c.in-Open.is
    (subst (λ xs. IsInside c.args.tree.now c.args.ops.now (c.args.at + 1) xs c.find_inside.new.loops.0.items c.in_ok-inside.inside.node c.in_ok-inside.inside.sum c.in_ok-inside.inside.close)
    c.push.ensures.items c.in_ok-inside.ensures)
    (ap (λ k. is_stop (program_at c.args.ops.now k)) (sym c.min-close.ensures) ∙ sym c.if-not-is_end.ensures))

pub returns-then-at-ops : goal.returns-then-at-ops
returns-then-at-ops t c = ap (tail_loops c.args.tree.now) (stop-past c.args.ops.now c.args.at c.if-at-ops.true)

pub returns-in_err-inside : goal.returns-in_err-inside
returns-in_err-inside t c =
    rw c.from_residual.ensures
    (inside-none c.args.tree.now c.args.ops.now c.args.at c.in-Open.i (Open 0) c.if-at-ops.false c.in-Open.is c.in_err-inside.ensures)

pub returns-then-not-is_end : goal.returns-then-not-is_end
returns-then-not-is_end t c =
    inside-more c.args.tree.now c.args.ops.now c.args.at c.in-Open.i (Open 0) c.in_ok-inside.inside.close c.if-at-ops.false c.in-Open.is c.in_ok-inside.ensures.ends.ends
    (ap (λ k. is_stop (program_at c.args.ops.now k)) (sym c.min-close.ensures) ∙ sym c.if-not-is_end.ensures)
