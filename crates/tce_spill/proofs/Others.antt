-- No file differs but those of the pieces.
use Rattle.std.proofs.Common.{inl, inr, ◌≡◌, ℕ, zero, suc, ◌<◌, ◌≤◌, true, cond, List, [], ◌∷◌, ◌++◌, map, Option, Some, None, refl, sym, subst, ◌∙◌, ap, arith}
use Rattle.std.specs.List.{AllByRecursion}
use Rattle.std.proofs.lemmas.Bool.{cases_eq}
use Rattle.std.proofs.lemmas.List.{map-append}
use Rattle.std.proofs.lemmas.List.Elements.{recursion_from_All}
use Rattle.tce_outside.specs.Files.{Files, file}
use Rattle.tce_tree.specs.ContractionTree.{operations}
use Rattle.tce_spec.specs.Pieces.{Cuts, is_root}
use Rattle.tce_spec.specs.Specification.{Specification}
use Rattle.tce_spec.specs.PieceSpecification.{piece_of}
use Rattle.tce_job.specs.TensorFiles.{file_of}
use Rattle.tce_job.specs.ResultBytes.{with_result}
use Rattle.tce_job.specs.Several.{files_after, OnlyResultsDiffer}
use Rattle.tce_job.proofs.Several.{found, IsApart, one_other}
use Rattle.tce_spill.specs.declared.fault.SpillFault.{SpillFault}
use Rattle.tce_spill.specs.declared.fault.SpillFault.TheVariants.{TooManyTensors, LimitTooSmall, BudgetTooSmall, Array, Disk, Memory}
use Rattle.tce_spill.specs.PieceRuns.{roots_below, pieces_below, pieces_of}
use Rattle.tce_spill.specs.Left.{files_at, IsLeftBy}
use Rattle.tce_spill.proofs.Values.{other_with}

each_left : (P : Specification → Type 0) (xs ys : List Specification) → AllByRecursion P (xs ++ ys) → AllByRecursion P xs
each_left P [] ys all = tt
each_left P (x ∷ xs) ys all = (all.0, each_left P xs ys all.1)

each_right : (P : Specification → Type 0) (xs ys : List Specification) → AllByRecursion P (xs ++ ys) → AllByRecursion P ys
each_right P [] ys all = all
each_right P (x ∷ xs) ys all = each_right P xs ys all.1

module _ (P : Specification → Type 0) (s : Specification) (cut : Cuts) where
  abbrev last_roots : ℕ → List ℕ
  last_roots n = cond (is_root s.tree cut n) (n ∷ []) []

  split : (n : ℕ) → AllByRecursion P (pieces_below s cut (suc n)) → AllByRecursion P (pieces_below s cut n ++ map (piece_of s cut) (last_roots n))
  split n all = subst (AllByRecursion P) (map-append (piece_of s cut) (roots_below s.tree cut n) (last_roots n)) all

  -- what holds of all pieces holds of those in front
  front_all : (n m : ℕ) → n ≤ m → AllByRecursion P (pieces_below s cut m) → AllByRecursion P (pieces_below s cut n)
  front_all n zero low all = let none : 0 ≡ n = omega (arith, low) in subst (λ k. AllByRecursion P (pieces_below s cut k)) none all
  front_all n (suc m) low all =
      elim (cases_eq n (suc m)) [
        | inl same ↦ subst (λ k. AllByRecursion P (pieces_below s cut k)) (sym same) all
        | inr other ↦ front_all n m (omega (arith, low, other)) (each_left P (pieces_below s cut m) (map (piece_of s cut) (last_roots m)) (split m all))
      ]

  -- and of each one
  root_all : (v m : ℕ) → v < m → is_root s.tree cut v ≡ true → AllByRecursion P (pieces_below s cut m) → P (piece_of s cut v)
  root_all v zero low root all = absurd (omega (arith, low))
  root_all v (suc m) low root all =
      elim (cases_eq v m) [
        | inl same ↦
            let here : AllByRecursion P (map (piece_of s cut) (last_roots m)) = each_right P (pieces_below s cut m) (map (piece_of s cut) (last_roots m)) (split m all) in
            let is : last_roots m ≡ m ∷ [] = ap (λ b. cond b (m ∷ []) []) (ap (is_root s.tree cut) (sym same) ∙ root) in
            subst (λ k. P (piece_of s cut k)) (sym same) (subst (λ vs. AllByRecursion P (map (piece_of s cut) vs)) is here).0
        | inr other ↦ root_all v m (omega (arith, low, other)) root (each_left P (pieces_below s cut m) (map (piece_of s cut) (last_roots m)) (split m all))
      ]

after_others : (ss : List Specification) (files : Files) (name : List ℕ) → AllByRecursion (IsApart name) ss → file (files_after ss files) name ≡ file files name
after_others [] files name all = refl
after_others (p ∷ ss) files name all = after_others ss (with_result p files) name all.1 ∙ other_with p files name all.0

at_others : (before : Option Files) (s : Specification) (cut : Cuts) (n : ℕ) (name : List ℕ) → AllByRecursion (IsApart name) (pieces_below s cut n) → found name (files_at before s cut n) ≡ found name before
at_others None s cut n name all = refl
at_others (Some files) s cut n name all = ap Some (after_others (pieces_below s cut n) files name all)

pub told_others : (before after : Option Files) (s : Specification) (cut : Cuts) (n : ℕ) → n ≤ operations s.tree → after ≡ files_at before s cut n → OnlyResultsDiffer (pieces_of s cut) before after
told_others before after s cut n within is = λ name none.
    ap (found name) is ∙ at_others before s cut n name (front_all (IsApart name) s cut n (operations s.tree) within (recursion_from_All (IsApart name) (pieces_of s cut) none))

pub left_others : (before after : Option Files) (taken taken_after : List (ℕ × ℕ)) (s : Specification) (cut : Cuts) (budget : ℕ) (f : SpillFault) → IsLeftBy before after taken taken_after s cut budget f
    → OnlyResultsDiffer (pieces_of s cut) before after
left_others before after taken taken_after s cut budget Disk (v, h, room) = λ name none.
    let all = recursion_from_All (IsApart name) (pieces_of s cut) none in
    one_other name (file_of (piece_of s cut v) (piece_of s cut v).result) (files_at before s cut v) after (root_all (IsApart name) s cut v (operations s.tree) h.inside h.root all) h.others
    ∙ at_others before s cut v name (front_all (IsApart name) s cut v (operations s.tree) (omega (arith, h.inside)) all)
left_others before after taken taken_after s cut budget Memory (n, h, room) = told_others before after s cut n h.inside h.files
left_others before after taken taken_after s cut budget (Array name fault) left = λ other none. ap (found other) left.2
left_others before after taken taken_after s cut budget TooManyTensors left = λ other none. ap (found other) left.0
left_others before after taken taken_after s cut budget (LimitTooSmall v n) left = λ other none. ap (found other) left.0
left_others before after taken taken_after s cut budget (BudgetTooSmall n) left = λ other none. ap (found other) left.0
