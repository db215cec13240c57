use Rattle.std.proofs.Common.{◌≡◌, ℕ, IsTrue, false, sym, subst}
use Rattle.tce_space.specs.IndexSet.{has}
use Rattle.tce_fusion.specs.StateClasses.{in_class}
use Rattle.tce_nesting.proofs.Classes.{IsNesting-push}
use Rattle.tce_nesting.proofs.nesting.Nesting.with_class.Goals as goal

pub invariant_of-self : goal.invariant_of-self
invariant_of-self c =
    let apart = subst (λ cs. (i : ℕ) → IsTrue (has c.args.class i) → in_class cs i ≡ false) (sym c.self.view_is) c.requires.apart in
    rw c.push.ensures.items (IsNesting-push c.self.inside.classes.items c.args.class c.self.invariant c.bits-number.ensures.bounded c.requires.inhabited apart)
