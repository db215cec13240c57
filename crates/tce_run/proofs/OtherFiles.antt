-- The files beside the six.
use Rattle.std.proofs.Common.{◌≡◌, ◌≢◌, ◌∙◌, ℕ, zero, suc, ◌<◌, List, Option, Some, None, refl, ap, arith, codes}
use Rattle.tce_outside.specs.Files.{Files, others}
use Rattle.tce_outside.proofs.Told.{other_files}
use Rattle.tce_spec.specs.Specification.{Specification}
use Rattle.tce_job.specs.TensorFiles.{file_of}
use Rattle.tce_run.specs.DemoSpecification.{IsDemo, demo_specification}
use Rattle.tce_run.specs.DemoFiles.{found, DemoOthersStay}

-- where all files but one are the same, each file of another name is
pub same_found : (changed : List ℕ) (before after : Option Files) → others changed after ≡ others changed before → (name : List ℕ) → name ≢ changed → found name after ≡ found name before
same_found changed None None same name differs = refl
same_found changed None (Some a) same name differs = cc
same_found changed (Some b) None same name differs = cc
same_found changed (Some b) (Some a) same name differs = ap Some (other_files changed name b a same differs)

pub text_stays : (before after : Option Files) → others (codes "demo.tce") after ≡ others (codes "demo.tce") before → DemoOthersStay before after
text_stays before after same name apart = same_found (codes "demo.tce") before after same name apart.0

named : (changed file : List ℕ) → changed ≡ file → (name : List ℕ) → name ≢ file → name ≢ changed
named changed file is name differs e = differs (e ∙ is)

file_is : (s : Specification) (d : IsDemo s) (t : ℕ) → file_of s t ≡ file_of (demo_specification d.v d.o) t
file_is s d t = ap (λ (x : Specification). file_of x t) d.is

-- the files of the tensors are among the six
pub tensor_stays : (s : Specification) → IsDemo s → (t : ℕ) → t < 5 → (before after : Option Files) → others (file_of s t) after ≡ others (file_of s t) before → DemoOthersStay before after
tensor_stays s d zero h before after same name apart = same_found (file_of s 0) before after same name (named (file_of s 0) (codes "demoA.tca") (file_is s d 0) name apart.1.0)
tensor_stays s d (suc zero) h before after same name apart = same_found (file_of s 1) before after same name (named (file_of s 1) (codes "demoB.tca") (file_is s d 1) name apart.1.1.0)
tensor_stays s d (suc (suc zero)) h before after same name apart = same_found (file_of s 2) before after same name (named (file_of s 2) (codes "demoC.tca") (file_is s d 2) name apart.1.1.1.0)
tensor_stays s d (suc (suc (suc zero))) h before after same name apart = same_found (file_of s 3) before after same name (named (file_of s 3) (codes "demoD.tca") (file_is s d 3) name apart.1.1.1.1.0)
tensor_stays s d (suc (suc (suc (suc zero)))) h before after same name apart = same_found (file_of s 4) before after same name (named (file_of s 4) (codes "demoS.tca") (file_is s d 4) name apart.1.1.1.1.1.0)
tensor_stays s d (suc (suc (suc (suc (suc t))))) h before after same name apart = absurd (omega arith)

pub stay_twice : (first then last : Option Files) → DemoOthersStay first then → DemoOthersStay then last → DemoOthersStay first last
stay_twice first then last p q name apart = q name apart ∙ p name apart
