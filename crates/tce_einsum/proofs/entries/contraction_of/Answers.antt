use Rattle.std.proofs.Common.{◌≡◌, ◌∙◌, sym, subst, map, length, List, ℕ}
use Rattle.std.specs.Borrow.{Bor}
use Rattle.std.proofs.lemmas.List.{length-map}
use Rattle.tce_fields.specs.Reading.{texts}
use Rattle.tce_einsum.specs.Text.{Einsum}
use Rattle.tce_einsum.specs.Path.{Item, Leave}
use Rattle.tce_einsum.specs.Entries as list
use Rattle.tce_einsum.specs.EntriesCode.{trees_in}
use Rattle.tce_einsum.specs.Numbered.{numbers_of, numbered_labels, numbered_operands}
use Rattle.tce_einsum.specs.Code as code
use Rattle.tce_einsum.proofs.Contractions.{only_entry, paths_leave_their_entries}
use Rattle.std.proofs.lemmas.Result.{IfOk-from_err}
use Rattle.tce_einsum.proofs.entries.contraction_of.Goals as goal

pub returns : goal.returns
returns c =
    let x : Einsum = code.einsum c.args.input.now.einsum in
    let items : List Item = code.items c.args.input.now.items.items in
    let start : trees_in c.in_ok-all.all ≡ list.leaves (numbered_operands x) =
    c.in_ok-all.ensures.leaves ∙ (λ i. list.leaves (map (numbers_of (code.sizes (c.as_slice.ensures.value i))) (texts (c.as_slice-2.ensures.value i)))) in
    let after : trees_in c.contract_all.new.self ≡ list.entries_after (numbered_labels x) (list.leaves (numbered_operands x)) items =
    c.in_ok-contract_all.ensures.contracted (numbered_labels x) c.in_ok-kept.ensures.labels
    ∙ (λ i. list.entries_after (numbered_labels x) (start i) (code.items (c.as_slice-3.ensures.value i))) in
    let many : length (numbered_operands x) ≡ length c.args.input.now.einsum.operands.items =
    length-map (texts c.args.input.now.einsum.operands.items) (numbers_of x.sizes) ∙ length-map c.args.input.now.einsum.operands.items (λ (b : Bor (List ℕ)). b.now) in
    record {
      tree = after
          ∙ only_entry (list.entries_after (numbered_labels x) (list.leaves (numbered_operands x)) items)
          (paths_leave_their_entries (numbered_labels x) (numbered_operands x) items 1 (subst (λ n. Leave n items 1) (sym many) c.requires.leave));
      entries = c.in_ok-contract_all.ensures.entries;
    }

pub returns-in_err-kept-clause-tree : goal.returns-in_err-kept-clause-tree
returns-in_err-kept-clause-tree c = IfOk-from_err c.from_residual.result _ c.from_residual.ensures.0

pub returns-in_err-kept-clause-entries : goal.returns-in_err-kept-clause-entries
returns-in_err-kept-clause-entries c = IfOk-from_err c.from_residual.result _ c.from_residual.ensures.0

pub returns-in_err-all-clause-tree : goal.returns-in_err-all-clause-tree
returns-in_err-all-clause-tree c = IfOk-from_err c.from_residual-in_err-all.result _ c.from_residual-in_err-all.ensures.0

pub returns-in_err-all-clause-entries : goal.returns-in_err-all-clause-entries
returns-in_err-all-clause-entries c = IfOk-from_err c.from_residual-in_err-all.result _ c.from_residual-in_err-all.ensures.0

pub returns-in_err-contract_all-clause-tree : goal.returns-in_err-contract_all-clause-tree
returns-in_err-contract_all-clause-tree c = IfOk-from_err c.from_residual-in_err-contract_all.result _ c.from_residual-in_err-contract_all.ensures.0

pub returns-in_err-contract_all-clause-entries : goal.returns-in_err-contract_all-clause-entries
returns-in_err-contract_all-clause-entries c = IfOk-from_err c.from_residual-in_err-contract_all.result _ c.from_residual-in_err-contract_all.ensures.0
