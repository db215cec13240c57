-- One specification more of several.
use Rattle.std.proofs.Common.{◌≡◌, ℕ, List, [], ◌∷◌, ◌++◌, refl, ap, Option, ◌≢◌, Some, None}
use Rattle.std.specs.List.{AllZip}
use Rattle.std.specs.Option.{option_map}
use Rattle.tce_outside.specs.Files.{Files, file, others}
use Rattle.tce_outside.proofs.Told.{other_files}
use Rattle.tce_nesting.specs.declared.plan.Plan.{Plan}
use Rattle.tce_spec.specs.Specification.{Specification}
use Rattle.tce_job.specs.ResultBytes.{with_result}
use Rattle.tce_job.specs.TensorFiles.{file_of}
use Rattle.tce_job.specs.Prepared.{taking_of}
use Rattle.tce_job.specs.Several.{files_after, takings_of}

pub after_more : (ss : List Specification) (s : Specification) (files : Files) → files_after (ss ++ s ∷ []) files ≡ with_result s (files_after ss files)
after_more [] s files = refl
after_more (t ∷ ss) s files = after_more ss s (with_result t files)

pub zip_more : {A B : Type 0} (R : A → B → Type 0) (xs : List A) (ys : List B) (x : A) (y : B) → AllZip R xs ys → R x y → AllZip R (xs ++ x ∷ []) (ys ++ y ∷ [])
zip_more R [] [] x y all one = (one, tt)
zip_more R [] (z ∷ ys) x y all one = absurd all
zip_more R (w ∷ xs) [] x y all one = absurd all
zip_more R (w ∷ xs) (z ∷ ys) x y all one = (all.0, zip_more R xs ys x y all.1 one)

pub takings_more : (R : Specification → Plan → Type 0) (budget : ℕ) (ss : List Specification) (plans : List Plan) (s : Specification) (plan : Plan) → AllZip R ss plans
    → takings_of budget (ss ++ s ∷ []) (plans ++ plan ∷ []) ≡ takings_of budget ss plans ++ taking_of s budget plan ∷ []
takings_more R budget [] [] s plan all = refl
takings_more R budget [] (p ∷ plans) s plan all = absurd all
takings_more R budget (t ∷ ss) [] s plan all = absurd all
takings_more R budget (t ∷ ss) (p ∷ plans) s plan all = ap (λ (xs : List (ℕ × ℕ)). taking_of t budget p ∷ xs) (takings_more R budget ss plans s plan all.1)

abbrev pub found : List ℕ → Option Files → Option (Option (List ℕ))
found name told = option_map (λ files. file files name) told

-- the name is none of the results' files
abbrev pub IsApart : List ℕ → Specification → Type 0
IsApart name s = name ≢ file_of s s.result

-- where all files but one are the same, each of another name is
pub one_other : (name result : List ℕ) (before after : Option Files) → name ≢ result → others result after ≡ others result before → found name after ≡ found name before
one_other name result None None differs same = refl
one_other name result (Some old) (Some new) differs same = ap Some (other_files result name old new same differs)
one_other name result None (Some new) differs same = absurd (cc)
one_other name result (Some old) None differs same = absurd (cc)
