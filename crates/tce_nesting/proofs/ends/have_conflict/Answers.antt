use Rattle.tce_nesting.proofs.Tops.{crossing_ends}
use Rattle.tce_nesting.proofs.ends.have_conflict.Goals as goal

pub returns-then-cross : goal.returns-then-cross
returns-then-cross c _ =
    let left = c.args.left.now in
    let right = c.args.right.now in
    crossing_ends left right left.least right.least (λ loops x e. e.least) (λ loops y e. e.least) (c.cross.ensures c.if-cross.true)

pub returns-then-cross-2 : goal.returns-then-cross-2
returns-then-cross-2 c _ =
    let left = c.args.left.now in
    let right = c.args.right.now in
    crossing_ends left right left.least right.largest (λ loops x e. e.least) (λ loops y e. e.largest) (c.cross-2.ensures c.if-cross-2.true)

pub returns-then-cross-3 : goal.returns-then-cross-3
returns-then-cross-3 c _ =
    let left = c.args.left.now in
    let right = c.args.right.now in
    crossing_ends left right left.largest right.least (λ loops x e. e.largest) (λ loops y e. e.least) (c.cross-3.ensures c.if-cross-3.true)

pub returns : goal.returns
returns c h =
    let left = c.args.left.now in
    let right = c.args.right.now in
    crossing_ends left right left.largest right.largest (λ loops x e. e.largest) (λ loops y e. e.largest) (c.cross-4.ensures h)
