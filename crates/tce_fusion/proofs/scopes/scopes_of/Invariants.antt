use Rattle.std.proofs.Common.{ℕ, ◌≡◌, ◌<◌, length}
use Rattle.tce_fusion.specs.Tops.{TellsScopes, row}
use Rattle.tce_fusion.proofs.scopes.scopes_of.Given as goal

abbrev pub invariant-loop-i : goal.invariant-loop-i
invariant-loop-i l = record {
  whole : length l.tops ≡ 24;
  told : (k : ℕ) → k < l.i → TellsScopes l.tree l.fusion.0.items k (row l.tops k);
}
