-- The pieces of one node more, and the files that they leave.
use Rattle.std.proofs.Common.{◌≡◌, ℕ, suc, ◌+◌, Bool, true, false, cond, [], ◌∷◌, ◌++◌, map, Option, Some, None, refl, sym, ap, ◌∙◌, arith}
use Rattle.std.specs.Option.{option_map}
use Rattle.std.proofs.lemmas.List.{map-append, append-nil}
use Rattle.tce_outside.specs.Files.{Files}
use Rattle.tce_tree.specs.ContractionTree.{ContractionTree}
use Rattle.tce_spec.specs.Pieces.{Cuts, is_root}
use Rattle.tce_spec.specs.Specification.{Specification}
use Rattle.tce_spec.specs.PieceSpecification.{piece_of}
use Rattle.tce_job.specs.ResultBytes.{with_result}
use Rattle.tce_job.specs.Several.{files_after}
use Rattle.tce_job.proofs.Several.{after_more}
use Rattle.tce_spill.specs.PieceRuns.{roots_below, pieces_below}
use Rattle.tce_spill.specs.Left.{files_at}

-- what the test of a root answers
pub as_tested : (s : Specification) (cut : Cuts) (v : ℕ) (tested answer : Bool) → tested ≡ is_root s.tree cut v → tested ≡ answer → is_root s.tree cut v ≡ answer
as_tested s cut v tested answer is told = sym is ∙ told

pub roots_more : (tree : ContractionTree) (cut : Cuts) (n : ℕ) → is_root tree cut n ≡ true → roots_below tree cut (n + 1) ≡ roots_below tree cut n ++ n ∷ []
roots_more tree cut n is =
    let on : n + 1 ≡ suc n = omega arith in
    ap (roots_below tree cut) on ∙ ap (λ b. roots_below tree cut n ++ cond b (n ∷ []) []) is

pub roots_same : (tree : ContractionTree) (cut : Cuts) (n : ℕ) → is_root tree cut n ≡ false → roots_below tree cut (n + 1) ≡ roots_below tree cut n
roots_same tree cut n is =
    let on : n + 1 ≡ suc n = omega arith in
    ap (roots_below tree cut) on ∙ ap (λ b. roots_below tree cut n ++ cond b (n ∷ []) []) is ∙ append-nil (roots_below tree cut n)

pub pieces_more : (s : Specification) (cut : Cuts) (n : ℕ) → is_root s.tree cut n ≡ true → pieces_below s cut (n + 1) ≡ pieces_below s cut n ++ piece_of s cut n ∷ []
pieces_more s cut n is = ap (map (piece_of s cut)) (roots_more s.tree cut n is) ∙ map-append (piece_of s cut) (roots_below s.tree cut n) (n ∷ [])

pub pieces_same : (s : Specification) (cut : Cuts) (n : ℕ) → is_root s.tree cut n ≡ false → pieces_below s cut (n + 1) ≡ pieces_below s cut n
pieces_same s cut n is = ap (map (piece_of s cut)) (roots_same s.tree cut n is)

pub none_left : (before : Option Files) (s : Specification) (cut : Cuts) → before ≡ files_at before s cut 0
none_left None s cut = refl
none_left (Some files) s cut = refl

pub told_more : (before now after : Option Files) (s : Specification) (cut : Cuts) (n : ℕ) → is_root s.tree cut n ≡ true
    → now ≡ files_at before s cut n → after ≡ option_map (with_result (piece_of s cut n)) now → after ≡ files_at before s cut (n + 1)
told_more before now after s cut n root is then = then ∙ ap (option_map (with_result (piece_of s cut n))) is ∙ by_told before
  where
    by_told : (told : Option Files) → option_map (with_result (piece_of s cut n)) (files_at told s cut n) ≡ files_at told s cut (n + 1)
    by_told None = refl
    by_told (Some files) = ap Some (sym (after_more (pieces_below s cut n) (piece_of s cut n) files) ∙ ap (λ ss. files_after ss files) (sym (pieces_more s cut n root)))

pub told_same : (before now : Option Files) (s : Specification) (cut : Cuts) (n : ℕ) → is_root s.tree cut n ≡ false → now ≡ files_at before s cut n → now ≡ files_at before s cut (n + 1)
told_same before now s cut n root is = is ∙ ap (λ ss. option_map (files_after ss) before) (sym (pieces_same s cut n root))
