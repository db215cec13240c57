use Rattle.std.proofs.Common.{refl, subst, sym}
use Rattle.tce_space.specs.Space.{IndexSpace}
use Rattle.tce_tree.specs.ContractionTree.{ContractionTree}
use Rattle.tce_check.specs.Verdict.{IsAccepted}
use Rattle.tce_check.specs.declared.verdict.Verdict.TheVariants.{Accepted}
use Rattle.tce_command.specs.Report.{NamesDeclared}
use Rattle.tce_plan.proofs.Declared.{names_declared}
use Rattle.tce_plan.proofs.judging.judge_plan.Goals as goal

pub certificate-requires : goal.certificate-requires
certificate-requires c =
    subst (NamesDeclared c.space-space.result.now) (sym c.in-Some.ensures)
    (names_declared c.space-space.result.now c.tree-tree.result.now c.args.plan.now c.check-verdict.result c.index_count-declared.ensures.limits.index_limit
    (rw (c.space-space.ensures.space, c.tree-tree.ensures.tree) c.tree-tree.ensures.rules.measured.declared) ((c.check-verdict.ensures.exact c.check-verdict.result).0 refl))

pub returns-in-None-clause-accepted : goal.returns-in-None-clause-accepted
returns-in-None-clause-accepted c =
    subst (λ (tree : ContractionTree). IsAccepted c.args.spec.now.declarations.space tree c.args.plan.now) c.tree-tree.ensures.tree
    (subst (λ (space : IndexSpace). IsAccepted space c.tree-tree.result.now c.args.plan.now) c.space-space.ensures.space ((c.check-verdict.ensures.exact Accepted).0 c.in-None.ensures))
