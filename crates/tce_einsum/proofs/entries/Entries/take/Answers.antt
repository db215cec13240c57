use Rattle.std.proofs.Common.{◌≡◌, sym, ap, ap₂, ◌∙◌, subst, length, ℕ, ◌+◌, ◌-◌, arith}
use Rattle.tce_tree.specs.ContractionTree.{binary, multiply}
use Rattle.tce_einsum.specs.Code as code
use Rattle.tce_einsum.specs.Path.{Fits, left_by}
use Rattle.tce_einsum.specs.Entries as list
use Rattle.tce_einsum.specs.EntriesCode.{trees_in}
use Rattle.tce_einsum.proofs.Nodes.{one_left, two_left, entry_read}
use Rattle.std.proofs.lemmas.Result.{IfOk-from_err}
use Rattle.tce_einsum.proofs.entries.Entries.take.Goals as goal

pub returns-in-One-clause-others : goal.returns-in-One-clause-others
returns-in-One-clause-others c =
    (one_left c.args.self.now.nodes.items c.args.self.now.entries.items c.remove.new.self.items c.in-One.p c.remove.ensures.items c.requires.entries.all).0
    ∙ ap (λ s. list.others (trees_in c.args.self.now) (code.item s)) (sym c.in-One.is)

pub returns-in-One-clause-entries : goal.returns-in-One-clause-entries
returns-in-One-clause-entries c = record {
  all = (one_left c.args.self.now.nodes.items c.args.self.now.entries.items c.remove.new.self.items c.in-One.p c.remove.ensures.items c.requires.entries.all).1;
  ordered = c.requires.entries.ordered;
}

two_fewer : (n m : ℕ) → n + 2 ≡ m → n + 1 ≡ m - 1
two_fewer n m e = omega arith

pub returns-in_ok-entry-in-Two : goal.returns-in_ok-entry-in-Two
returns-in_ok-entry-in-Two c =
    let fits = subst (λ s. Fits (length c.args.self.now.entries.items) (code.item s)) c.in-Two.is c.requires.fits in
    let left = two_left c.args.self.now.nodes.items c.product.new.nodes.items c.args.self.now.entries.items c.take_two.new.entries.items c.in-Two.p c.in-Two.q
    c.take_two.ensures.others c.in_ok-entry-in-Two.ensures.kept c.requires.entries.all in
    record {
      made = c.in_ok-entry-in-Two.ensures.tree
          ∙ ap₂ (binary multiply)
          (entry_read c.args.self.now.nodes.items c.args.self.now.entries.items c.in-Two.p c.take_two.result.0 fits.0 c.take_two.ensures.left)
          (entry_read c.args.self.now.nodes.items c.args.self.now.entries.items c.in-Two.q c.take_two.result.1 fits.1 c.take_two.ensures.right)
          ∙ ap (λ s. list.made (trees_in c.args.self.now) (code.item s)) (sym c.in-Two.is);
      entry = c.in_ok-entry-in-Two.ensures.entry;
      others = left.0 ∙ ap (λ s. list.others (trees_in c.args.self.now) (code.item s)) (sym c.in-Two.is);
      entries = record { all = left.1; ordered = c.in_ok-entry-in-Two.ensures.kept.ordered c.requires.entries.ordered };
      left = two_fewer (length c.take_two.new.entries.items) (length c.args.self.now.entries.items) c.take_two.ensures.left_over
          ∙ ap (λ s. left_by (length c.args.self.now.entries.items) (code.item s)) (sym c.in-Two.is);
    }

pub returns-in_err-entry-in-Two-clause-made : goal.returns-in_err-entry-in-Two-clause-made
returns-in_err-entry-in-Two-clause-made c = IfOk-from_err c.from_residual.result _ c.from_residual.ensures.0

pub returns-in_err-entry-in-Two-clause-entry : goal.returns-in_err-entry-in-Two-clause-entry
returns-in_err-entry-in-Two-clause-entry c = IfOk-from_err c.from_residual.result _ c.from_residual.ensures.0

pub returns-in_err-entry-in-Two-clause-others : goal.returns-in_err-entry-in-Two-clause-others
returns-in_err-entry-in-Two-clause-others c = IfOk-from_err c.from_residual.result _ c.from_residual.ensures.0

pub returns-in_err-entry-in-Two-clause-entries : goal.returns-in_err-entry-in-Two-clause-entries
returns-in_err-entry-in-Two-clause-entries c = IfOk-from_err c.from_residual.result _ c.from_residual.ensures.0

pub returns-in_err-entry-in-Two-clause-left : goal.returns-in_err-entry-in-Two-clause-left
returns-in_err-entry-in-Two-clause-left c = IfOk-from_err c.from_residual.result _ c.from_residual.ensures.0
