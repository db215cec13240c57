-- The parts of a specification that its text is printed of.
use Rattle.std.proofs.Common.{◌≡◌, subst, ℕ, List}
use Rattle.tce_tree.specs.ContractionTree.{ContractionTree}
use Rattle.tce_spec.specs.Declarations.{Declarations}

-- what holds of some parts holds of equal ones
pub of_parts : (P : Declarations → ℕ → List ℕ → ContractionTree → Type 0) {d e : Declarations} {t u : ℕ} {is js : List ℕ} {tree other : ContractionTree} → d ≡ e → t ≡ u → is ≡ js → tree ≡ other → P d t is tree → P e u js other
of_parts P {d} {e} {t} {u} {is} {js} {tree} {other} declarations result indexes trees p =
    subst (P e u js) trees (subst (λ x. P e u x tree) indexes (subst (λ x. P e x is tree) result (subst (λ x. P x t is tree) declarations p)))
