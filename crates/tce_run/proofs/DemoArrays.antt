-- Arrays that are written.
use Rattle.std.proofs.Common.{◌≡◌, ◌∙◌, ℕ, List, Option, Result, Ok, Err, OnOk, IfOk, ap, sym, subst}
use Rattle.std.specs.Option.{option_map}
use Rattle.tce_outside.specs.Files.{Files, holding}
use Rattle.tce_space.specs.Tiling.{Tiling, elements}
use Rattle.tce_array.specs.Forms.{array_bytes}
use Rattle.tce_tools.specs.Demo.{drawn, demo_element}
use Rattle.tce_spec.specs.Specification.{Specification}
use Rattle.tce_spec.specs.Operands.{shape_of}
use Rattle.tce_job.specs.TensorFiles.{file_of}
use Rattle.tce_run.specs.DemoFiles.{IsSeed, with_array}
use Rattle.tce_run.proofs.DemoSeeds.{seed_goes_on}

-- the array under the name of the tensor's file and of its shape
pub written : {E : Type 0} (s : Specification) (t x : ℕ) (name : List ℕ) (shape : Tiling) (before after : Option Files) (answer : Result ℕ E) → name ≡ file_of s t → shape ≡ shape_of s t
    → OnOk answer (after ≡ holding name (array_bytes shape (demo_element shape x)) before) → OnOk answer (after ≡ option_map (with_array s t x) before)
written s t x name shape before after (Ok n) named shaped made =
    made
    ∙ ap (λ (m : List ℕ). holding m (array_bytes shape (demo_element shape x)) before) named
    ∙ ap (λ (u : Tiling). holding (file_of s t) (array_bytes u (demo_element u x)) before) shaped
written s t x name shape before after (Err e) named shaped made = tt

-- the numbers go on
pub goes_on : {E : Type 0} (shape : Tiling) (x : ℕ) (answer : Result ℕ E) → IsSeed x → IfOk answer (λ number. number ≡ drawn x (elements shape)) → IfOk answer IsSeed
goes_on shape x (Ok n) seed last = subst IsSeed (sym last) (seed_goes_on x (elements shape) seed)
goes_on shape x (Err e) seed last = tt
