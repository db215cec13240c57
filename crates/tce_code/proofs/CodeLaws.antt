-- The code that is generated computes the tree.
use Rattle.std.proofs.Common.{◌≡◌, ℕ, ◌-◌, ◌<◌, ◌≤◌, false, List, [], sym, ap, ◌∙◌, subst, arith}
use Rattle.tce_space.specs.IndexSet.{has}
use Rattle.tce_space.proofs.IndexSetLaws.{has-empty}
use Rattle.tce_tree.specs.ContractionTree.{ContractionTree, is_leaf, operations, dims, node}
use Rattle.tce_tree.specs.FlatTree.{IsTree}
use Rattle.tce_tree.specs.Fusion.{FusionFits, OrdersFit, Carries, fused_at, kept_dims}
use Rattle.tce_tree.specs.Value.{Assignment, Elements, IsInExtents, value}
use Rattle.tce_tree.proofs.Nodes.{node-root, node_of_some}
use Rattle.tce_code.specs.CodeFor.{IsCodeFor}
use Rattle.tce_code.specs.Execution.{State, exec, ReadsRight, coordinates}
use Rattle.tce_code.specs.Generation.{code_of}
use Rattle.tce_code.specs.Plan.{Plan, plan_of, setting_of}
use Rattle.tce_code.specs.Program.{Program, spelled, program_of}
use Rattle.tce_code.specs.Shape.{EachAction, ActionFits, IsLoop, times_computed, most_open}
use Rattle.tce_code.specs.declared.op.Op.{Op}
use Rattle.tce_code.proofs.Advance.{code-value}
use Rattle.tce_code.proofs.Conditions.{node-fits, all-fits, orders-short}
use Rattle.tce_code.proofs.Depths.{code-open}
use Rattle.tce_code.proofs.Frames.{program_of-spelled}
use Rattle.tce_code.proofs.Once.{code-once}
use Rattle.tce_code.proofs.Reading.{code-reads}
use Rattle.tce_code.proofs.Readings.{NodeFits, Fits}
use Rattle.tce_code.proofs.Shapes.{code-shaped}

-- what is shown of a program
record IsProgramFor (tree : ContractionTree) (plan : Plan) (program : Program) : Type 0 where
  shape : EachAction (ActionFits tree plan) (IsLoop tree) program []
  once : (v : ℕ) → v < operations tree → times_computed program v ≡ 1
  few : most_open program ≤ 10
  reads : (e : Elements) (state : State) (a : Assignment) → ReadsRight (setting_of tree e plan) program state a
  leaves : (e : Elements) (state : State) (a b : Assignment) → IsInExtents e (dims tree) b
      → state (operations tree - 1) (coordinates (kept_dims tree plan.fusion (operations tree - 1)) b) ≡ 0
      → exec (setting_of tree e plan) program state a (operations tree - 1) (coordinates (kept_dims tree plan.fusion (operations tree - 1)) b) ≡ value e tree b

-- holds of the list that it spells
by-program : (tree : ContractionTree) (plan : Plan) (program : Program) (ops : List Op) → ops ≡ spelled program → IsProgramFor tree plan program → IsCodeFor tree plan ops
by-program tree plan program ops e for = record {
  matched = ap spelled same ∙ sym e;
  shape = subst (λ p. EachAction (ActionFits tree plan) (IsLoop tree) p []) (sym same) for.shape;
  once = λ v l. ap (λ p. times_computed p v) same ∙ for.once v l;
  few = subst (λ p. most_open p ≤ 10) (sym same) for.few;
  reads = λ el state a. subst (λ p. ReadsRight (setting_of tree el plan) p state a) (sym same) (for.reads el state a);
  leaves = λ el state a b inside zero_there.
      ap (λ p. exec (setting_of tree el plan) p state a (operations tree - 1) (coordinates (kept_dims tree plan.fusion (operations tree - 1)) b)) same
      ∙ for.leaves el state a b inside zero_there;
}
  where
    same : program_of ops ≡ program
    same = ap program_of e ∙ program_of-spelled program

pub code-is : (tree : ContractionTree) (fusion : List ℕ) (orders : List (List ℕ)) → FusionFits tree fusion → OrdersFit tree orders
    → Carries tree fusion orders → IsTree tree → (ops : List Op) → ops ≡ spelled (code_of (plan_of fusion orders) tree) → IsCodeFor tree (plan_of fusion orders) ops
code-is tree fusion orders fits fit carried is_tree ops e =
    by-program tree (plan_of fusion orders) (code_of (plan_of fusion orders) tree) ops e (record {
      shape = code-shaped tree (plan_of fusion orders) node_root at nf all;
      once = code-once tree (plan_of fusion orders) node_root all;
      few = code-open (plan_of fusion orders) tree 10 (orders-short tree orders fit is_tree.few_loops);
      reads = λ el state a. code-reads tree el (plan_of fusion orders) node_root is_tree.well_formed at nf all state a;
      leaves = λ el state a b inside zero_there.
          code-value tree el (plan_of fusion orders) node_root is_tree.well_formed at nf all root state a b inside zero_there;
    })
  where
    at : node tree (operations tree - 1) ≡ tree
    at = let some = is_tree.some in node-root tree (operations tree - 1) (omega arith)

    node_root : is_leaf tree ≡ false
    node_root = node_of_some tree is_tree.some

    nf : NodeFits (plan_of fusion orders) tree (operations tree - 1)
    nf =
        let some = is_tree.some in
        subst (λ t. NodeFits (plan_of fusion orders) t (operations tree - 1)) at (node-fits tree fusion orders fit (operations tree - 1) (omega arith))

    all : Fits tree (plan_of fusion orders) 0 tree
    all = all-fits tree fusion orders fits fit carried

    root : (i : ℕ) → has (fused_at fusion (operations tree - 1)) i ≡ false
    root i = ap (λ s. has s i) fits.root ∙ has-empty i
