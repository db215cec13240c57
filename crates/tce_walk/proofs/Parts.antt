-- Parts of the code of a tree: what stands in their loops.
use Rattle.std.proofs.Common.{◌≡◌, ℕ, ◌<◌, ◌⊎◌, true, List, refl, sym, ap, ◌∙◌, inl, inr, subst}
use Rattle.tce_space.specs.IndexSet.{has}
use Rattle.tce_space.specs.Space.{IndexSpace, extent_at}
use Rattle.tce_tree.specs.ContractionTree.{ContractionTree, leaf, constant, binary, sum, Arithmetic, multiply, add, subtract, operations, node, node_loops}
use Rattle.tce_tree.specs.Fusion.{OrdersFit, order_at}
use Rattle.tce_tree.specs.Value.{Assignment}
use Rattle.tce_tree.specs.WellFormed.{among}
use Rattle.tce_tree.proofs.Conditions.{order-has}
use Rattle.tce_code.specs.Execution.{Setting}
use Rattle.tce_code.specs.Generation.{computing}
use Rattle.tce_code.specs.Program.{compute, accumulate, Program, stop, step}
use Rattle.tce_code.specs.Shape.{IsBinary, IsSum}
use Rattle.tce_code.specs.declared.op.Op.{Op}
use Rattle.tce_code.specs.declared.op.Op.TheVariants.{Mul, Add, Sub, Acc}
use Rattle.tce_walk.specs.Machine.{operation_of_node, IsNodeAt}
use Rattle.tce_walk.specs.Positions.{plain_program}
use Rattle.tce_walk.specs.Run.{IsPart}

-- an operation of node `v` other than a `Clear`
abbrev pub IsOperationOf : Op → ℕ → Type 0
IsOperationOf op v = (op ≡ Mul v) ⊎ ((op ≡ Add v) ⊎ ((op ≡ Sub v) ⊎ (op ≡ Acc v)))

pub computing-binary : (op : Arithmetic) (c : ContractionTree) (v : ℕ) → IsBinary op c → computing c v ≡ step (compute op v) stop
computing-binary op (leaf tensor indexes) v h = absurd h
computing-binary op (constant number) v h = absurd h
computing-binary op (binary other left right) v h = ap (λ o. step (compute o v) stop) (sym h)
computing-binary op (sum indexes operand) v h = absurd h

pub computing-sum : (c : ContractionTree) (v : ℕ) → IsSum c → computing c v ≡ step (accumulate v) stop
computing-sum (leaf tensor indexes) v h = absurd h
computing-sum (constant number) v h = absurd h
computing-sum (binary op left right) v h = absurd h
computing-sum (sum indexes operand) v h = refl

-- a node inside just its own loops
pub record IsOwn (space : IndexSpace) (tree : ContractionTree) (v : ℕ) (program : Program) (a : Assignment) : Type 0 where
  pub known : v < operations tree
  pub inside : (i : ℕ) → has (node_loops tree v) i ≡ true → a i < extent_at space i
  pub alone : operation_of_node tree v ≡ program

own : (space : IndexSpace) (tree : ContractionTree) (orders : List (List ℕ)) (fit : OrdersFit tree orders) (opened : List ℕ) (v : ℕ) (program : Program) (a : Assignment)
    → v < operations tree → opened ≡ order_at orders v → ((i : ℕ) → among opened i ≡ true → a i < extent_at space i) → operation_of_node tree v ≡ program
    → IsOwn space tree v program a
own space tree orders fit opened v program a l e inside alone = record {
  known = l;
  inside = λ i h. inside i (ap (λ is. among is i) e ∙ order-has tree orders fit v i l ∙ h);
  alone = alone;
}

pub plain-own : (space : IndexSpace) (tree : ContractionTree) (op : Op) (v : ℕ) (a : Assignment) → IsOperationOf op v → IsPart space tree (plain_program op) a
    → IsOwn space tree v (plain_program op) a
plain-own space tree op v a (inl e) h =
    let p : IsPart space tree (plain_program (Mul v)) a = subst (λ o. IsPart space tree (plain_program o) a) e h in
    subst (λ o. IsOwn space tree v (plain_program o) a) (sym e)
    (own space tree p.plan.orders p.fit p.opened v (plain_program (Mul v)) a p.shape.0.0 p.shape.0.2 p.inside (computing-binary multiply (node tree v) v p.shape.0.1))
plain-own space tree op v a (inr (inl e)) h =
    let p : IsPart space tree (plain_program (Add v)) a = subst (λ o. IsPart space tree (plain_program o) a) e h in
    subst (λ o. IsOwn space tree v (plain_program o) a) (sym e)
    (own space tree p.plan.orders p.fit p.opened v (plain_program (Add v)) a p.shape.0.0 p.shape.0.2 p.inside (computing-binary add (node tree v) v p.shape.0.1))
plain-own space tree op v a (inr (inr (inl e))) h =
    let p : IsPart space tree (plain_program (Sub v)) a = subst (λ o. IsPart space tree (plain_program o) a) e h in
    subst (λ o. IsOwn space tree v (plain_program o) a) (sym e)
    (own space tree p.plan.orders p.fit p.opened v (plain_program (Sub v)) a p.shape.0.0 p.shape.0.2 p.inside (computing-binary subtract (node tree v) v p.shape.0.1))
plain-own space tree op v a (inr (inr (inr e))) h =
    let p : IsPart space tree (plain_program (Acc v)) a = subst (λ o. IsPart space tree (plain_program o) a) e h in
    subst (λ o. IsOwn space tree v (plain_program o) a) (sym e)
    (own space tree p.plan.orders p.fit p.opened v (plain_program (Acc v)) a p.shape.0.0 p.shape.0.2 p.inside (computing-sum (node tree v) v p.shape.0.1))

-- what the machine asks at an operation, and what its answer says
pub plain-node : (space : IndexSpace) (s : Setting) (op : Op) (v : ℕ) (a : Assignment) → s.elements.extent ≡ extent_at space → IsOperationOf op v
    → IsPart space s.tree (plain_program op) a → IsNodeAt s v a
plain-node space s op v a e is h =
    let o = plain-own space s.tree op v a is h in record {
      known = o.known;
      inside = λ i m. subst (λ f. a i < f i) (sym e) (o.inside i m);
    }
