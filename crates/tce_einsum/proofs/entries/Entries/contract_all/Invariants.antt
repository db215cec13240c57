use Rattle.std.proofs.Common.{◌≡◌, length}
use Rattle.tce_einsum.specs.Code as code
use Rattle.tce_einsum.specs.Path.{Leave}
use Rattle.tce_einsum.specs.Entries as list
use Rattle.tce_einsum.specs.EntriesCode.{trees_in, AreEntries, AreKept}
use Rattle.tce_einsum.proofs.entries.Entries.contract_all.Given as goal

abbrev pub invariant-loop-rest : goal.invariant-loop-rest
invariant-loop-rest l = record {
  entries : AreEntries l.self;
  leave : Leave (length l.self.entries.items) (code.items l.rest) 1;
  contracted : (ls : list.Labels) → AreKept l.kept ls → list.entries_after ls (trees_in l.self) (code.items l.rest) ≡ list.entries_after ls (trees_in l.initial.self) (code.items l.steps);
}

abbrev pub decreases-loop-rest : goal.decreases-loop-rest
decreases-loop-rest l = length l.rest
