-- What the writer of an example's files has done.
use Rattle.std.specs.Prelude.{◌≡◌, ℕ, Option, OnOk, Result}
use Rattle.std.specs.Option.{option_map}
use Rattle.tce_outside.specs.Files.{Files}
use Rattle.tce_run.specs.DemoFiles.{with_input}
use Rattle.tce_run.specs.declared.demo_input.Example.{Example}

-- a call that answers no fault put the text and the arrays of the operands, of the numbers that are drawn after the seed, in the place of their files
abbrev pub PutsInput : {A E : Type 0} → Example → ℕ → Option Files → Option Files → Result A E → Type 0
PutsInput example seed before after result = OnOk result (after ≡ option_map (with_input example.spec seed example.text.items) before)
