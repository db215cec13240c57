use Rattle.std.proofs.Common.{sym, ◌∙◌}
use Rattle.tce_walk.proofs.Searching.{product-alone, product-none, product-joined}
use Rattle.tce_walk.proofs.search.find_product.Goals as goal

pub returns-then-is_end : goal.returns-then-is_end
returns-then-is_end c = product-alone c.args.tree.now c.args.ops.now c.args.at c.args.v c.requires.within c.requires.op c.requires.shaped (sym c.if-is_end.ensures)

pub returns-in_err-sum : goal.returns-in_err-sum
returns-in_err-sum c =
    rw c.from_residual.ensures
    (product-none c.args.tree.now c.args.ops.now c.args.at c.args.v c.requires.within c.requires.op (sym c.is_end.ensures ∙ c.if-is_end.false) c.in_err-sum.ensures)

pub returns : goal.returns
returns c = product-joined c.args.tree.now c.args.ops.now c.args.at c.args.v c.in_ok-sum.sum c.requires.within c.requires.op c.requires.shaped c.in_ok-sum.ensures
