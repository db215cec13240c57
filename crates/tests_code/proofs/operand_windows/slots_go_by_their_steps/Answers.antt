use Rattle.std.proofs.Common.{◌≡◌, ℕ, ◌+◌, ◌<◌, ◌^◌, List, replicate, slice_index, slice_set, sym, subst, lit<}
use Rattle.tce_layout.specs.Places.{steps_to}
use Rattle.tests_code.proofs.operand_windows.slots_go_by_their_steps.Goals as goal

abbrev two : ℕ → ℕ → List ℕ
two first second = slice_set (slice_set (replicate 24 0) 0 first) 1 second

small : (steps numbers : List ℕ) → steps ≡ two 6 1 → numbers ≡ two 5 2 → 100 + steps_to steps (slice_index numbers) < 2 ^ 64
unfolding steps_to
small steps numbers e f =
    subst (λ s. 100 + steps_to s (slice_index numbers) < 2 ^ 64) (sym e) (subst (λ n. 100 + steps_to (two 6 1) (slice_index n) < 2 ^ 64) (sym f) (lit< (tt {0})))

pub slot_window-window-requires : goal.slot_window-window-requires
slot_window-window-requires g c = small c.two.result c.two-2.result c.two.ensures c.two-2.ensures
