use Rattle.std.proofs.Common.{◌≡◌, ◌+◌, ◌++◌, length, map}
use Rattle.tce_fields.specs.Reading.{texts}
use Rattle.tce_tree.specs.ContractionTree.{leaf}
use Rattle.tce_einsum.specs.Code as code
use Rattle.tce_einsum.specs.Numbered as model
use Rattle.tce_einsum.specs.Entries as list
use Rattle.tce_einsum.specs.EntriesCode.{trees_in, AreEntries}
use Rattle.tce_einsum.proofs.entries.Entries.of_operands.Given as goal

abbrev pub invariant-loop-rest : goal.invariant-loop-rest
invariant-loop-rest l = record {
  leaves : trees_in l.all ++ list.numbered leaf l.number (map (model.numbers_of (code.sizes l.sizes)) (texts l.rest))
      ≡ list.leaves (map (model.numbers_of (code.sizes l.sizes)) (texts l.operands));
  entries : AreEntries l.all;
  count : l.number + length l.rest ≡ length l.operands;
  long : length l.all.entries.items ≡ l.number;
}

abbrev pub decreases-loop-rest : goal.decreases-loop-rest
decreases-loop-rest l = length l.rest
