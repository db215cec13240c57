-- Combinations that are run as far as some of their terms.
use Rattle.std.specs.Prelude.{ℕ, ◌==◌, if◌then◌else◌, take, length}
use Rattle.std.specs.List.{fold}
use Rattle.tce_base.specs.Word.{wrapping_mul}
use Rattle.tce_tree.specs.Value.{Assignment}
use Rattle.tce_block.specs.Parts.{Part}
use Rattle.tce_code.specs.Execution.{Setting}
use Rattle.tce_walk.specs.Terms.{with_term, touches_of_terms}
use Rattle.tce_walk.specs.declared.terms.Combination.{Combination}
use Rattle.tce_exec.specs.Workspace.{Workspace, setting_in}
use Rattle.tce_exec.specs.Steps.{IsKept, IsChanged}
use Rattle.tce_exec.specs.TermParts.{mapped_by_part}

-- what the first `n` terms add up to
abbrev pub so_far : Setting → Combination → ℕ → Assignment → ℕ
so_far s c n b = fold (with_term s.elements s.tree b) 0 (take n c.terms.now)

-- the word of a place after them
abbrev pub reached : Setting → Combination → ℕ → Assignment → ℕ → ℕ
reached s c n b w = if n == 0 then w else (if n == length c.terms.now then wrapping_mul c.scale (so_far s c n b) else so_far s c n b)

pub record IsAlongTerms (before now : Workspace) (c : Combination) (a : Assignment) (part : Part) (n : ℕ) : Type 0 where
  pub kept : IsKept before now
  pub changed : IsChanged (mapped_by_part (setting_in before) c.node c.loops.now (reached (setting_in before) c n) a part) (touches_of_terms before.places.space (take n c.terms.now)) before now
