use Rattle.std.proofs.Common.{inl, inr, sym, subst, arith}
use Rattle.std.proofs.lemmas.Bool.{cases_eq}
use Rattle.tce_check.specs.Verdict.{CoversAt}
use Rattle.tce_check.proofs.FromTables.{nodes_covered}
use Rattle.tce_check.proofs.tables.first_uncovered_of.Goals as goal

pub loop-v-preserved : goal.loop-v-preserved
loop-v-preserved c w low = elim (cases_eq w c.loop-v.v) [
  | inl same ↦ subst (CoversAt c.args.space.now c.args.tree.now c.args.tables.now) (sym same) c.in_default.ensures
  | inr other ↦ c.loop-v.invariant w (omega arith)
]

pub returns : goal.returns
returns c = nodes_covered c.args.space.now c.args.tree.now c.args.tables.now (λ v low. c.loop-v.invariant v (omega arith))
