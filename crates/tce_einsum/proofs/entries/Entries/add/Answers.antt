use Rattle.std.proofs.Common.{ap, length, ◌∙◌, ℕ, List, ◌++◌, ◌∷◌, []}
use Rattle.std.specs.List.{list_any}
use Rattle.std.proofs.lemmas.List.{length-append}
use Rattle.tce_space.specs.IndexSet.{has}
use Rattle.tce_einsum.specs.declared.entries.Entry.{Entry}
use Rattle.tce_einsum.specs.Entries as list
use Rattle.tce_einsum.specs.EntriesCode.{tree_in, trees_in}
use Rattle.tce_einsum.proofs.Nodes.{labels_are, entry_added}
use Rattle.std.proofs.lemmas.Result.{IfOk-from_err}
use Rattle.tce_einsum.proofs.entries.Entries.add.Goals as goal

pub returns : goal.returns
returns c =
    let added = entry_added c.args.self.now.nodes.items c.summed.new.nodes.items c.args.self.now.entries.items c.push.new.self.items c.in_ok-entry.entry
    (list.summed c.in_ok-labels.labels.items (tree_in c.args.self.now.nodes.items c.args.made)) c.requires.entries.all c.in_ok-entry.ensures.kept c.in_ok-entry.ensures.entry
    c.in_ok-entry.ensures.tree c.in_ok-push.ensures.items in
    record {
      added = λ ls is.
          added.0
          ∙ ap (λ (labels : List ℕ). trees_in c.args.self.now ++ list.summed labels (tree_in c.args.self.now.nodes.items c.args.made) ∷ [])
          (labels_are c.args.self.now.nodes.items c.args.self.now.entries.items c.args.made ls c.minus.result.bits c.minus-inner.result.bits c.args.kept.output.bits c.found_in-elsewhere.result.bits
          c.args.kept.count c.in_ok-labels.labels.items c.requires.entries.all c.requires.made is.all is.output
          c.minus-inner.ensures
          (λ i inside. c.found_in-elsewhere.ensures i inside ∙ ap (list_any (λ (e : Entry). has e.free.bits i)) c.as_slice.ensures.value)
          c.minus.ensures c.in_ok-labels.ensures.members);
      entries = record { all = added.1; ordered = c.in_ok-entry.ensures.kept.ordered c.requires.entries.ordered };
      longer = ap length c.in_ok-push.ensures.items ∙ length-append c.args.self.now.entries.items (c.in_ok-entry.entry ∷ []);
    }

pub returns-in_err-labels-clause-added : goal.returns-in_err-labels-clause-added
returns-in_err-labels-clause-added c = IfOk-from_err c.from_residual.result _ c.from_residual.ensures.0

pub returns-in_err-labels-clause-entries : goal.returns-in_err-labels-clause-entries
returns-in_err-labels-clause-entries c = IfOk-from_err c.from_residual.result _ c.from_residual.ensures.0

pub returns-in_err-labels-clause-longer : goal.returns-in_err-labels-clause-longer
returns-in_err-labels-clause-longer c = IfOk-from_err c.from_residual.result _ c.from_residual.ensures.0

pub returns-in_err-entry-clause-added : goal.returns-in_err-entry-clause-added
returns-in_err-entry-clause-added c = IfOk-from_err c.from_residual-in_err-entry.result _ c.from_residual-in_err-entry.ensures.0

pub returns-in_err-entry-clause-entries : goal.returns-in_err-entry-clause-entries
returns-in_err-entry-clause-entries c = IfOk-from_err c.from_residual-in_err-entry.result _ c.from_residual-in_err-entry.ensures.0

pub returns-in_err-entry-clause-longer : goal.returns-in_err-entry-clause-longer
returns-in_err-entry-clause-longer c = IfOk-from_err c.from_residual-in_err-entry.result _ c.from_residual-in_err-entry.ensures.0

pub returns-in_err-push-clause-added : goal.returns-in_err-push-clause-added
returns-in_err-push-clause-added c = IfOk-from_err c.from_residual-in_err-push.result _ c.from_residual-in_err-push.ensures.0

pub returns-in_err-push-clause-entries : goal.returns-in_err-push-clause-entries
returns-in_err-push-clause-entries c = IfOk-from_err c.from_residual-in_err-push.result _ c.from_residual-in_err-push.ensures.0

pub returns-in_err-push-clause-longer : goal.returns-in_err-push-clause-longer
returns-in_err-push-clause-longer c = IfOk-from_err c.from_residual-in_err-push.result _ c.from_residual-in_err-push.ensures.0
