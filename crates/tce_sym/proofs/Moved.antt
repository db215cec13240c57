-- Elements that follow each other along the last dimension.
use Rattle.std.proofs.Common.{◌≡◌, ◌∙◌, ℕ, ◌+◌, ◌<◌, Bool, true, false, if◌then◌else◌, List, [], ◌∷◌, ◌++◌, length, sym, refl, ap, subst, arith, inl, inr, length-append}
use Rattle.std.proofs.lemmas.Bool.{cases_Bool}
use Rattle.std.proofs.lemmas.List.{drop_all, length-drop}
use Rattle.tce_space.specs.Box.{place, IsInside}
use Rattle.tce_space.proofs.Boxes.{length_inside}
use Rattle.tce_tools.specs.Runs.{moved}
use Rattle.tce_tools.proofs.Rows.{moved_place}
use Rattle.tce_sym.specs.declared.symmetry.Symmetry.{Symmetry}
use Rattle.tce_sym.specs.declared.cells.Pair.{Pair}
use Rattle.tce_sym.specs.declared.rows.Row.{Row}
use Rattle.tce_sym.specs.Storage.{AreRight, at_first, at_second, at_others}
use Rattle.tce_sym.specs.Cells.{IsPairOf, moved_pair}
use Rattle.tce_sym.proofs.Cuts.{before, between, behind, joint, cut, joint_parts, are_inside, others_inside}

moved_append : (us ys : List ℕ) (k : ℕ) → 0 < length ys → moved (us ++ ys) k ≡ us ++ moved ys k
moved_append [] ys k h = refl
moved_append (u ∷ []) [] k h = absurd (omega arith)
moved_append (u ∷ []) (y ∷ ys) k h = refl
moved_append (u ∷ v ∷ us) ys k h = ap (λ l. u ∷ l) (moved_append (v ∷ us) ys k h)

-- a step along the second of the two, or along another dimension
second_moved : (us : List ℕ) (a : ℕ) (vs : List ℕ) (b k : ℕ) → moved (joint us a vs b []) k ≡ joint us a vs (b + k) []
second_moved us a vs b k = moved_append us (a ∷ (vs ++ b ∷ [])) k (omega arith) ∙ ap (λ l. us ++ l) (moved_append (a ∷ vs) (b ∷ []) k (omega arith))

other_moved : (us : List ℕ) (a : ℕ) (vs : List ℕ) (b : ℕ) (ws : List ℕ) (k : ℕ) → 0 < length ws → moved (joint us a vs b ws) k ≡ joint us a vs b (moved ws k)
other_moved us a vs b [] k h = absurd (omega arith)
other_moved us a vs b (w ∷ ws) k h =
    moved_append us (a ∷ (vs ++ b ∷ w ∷ ws)) k (omega arith) ∙ ap (λ l. us ++ l) (moved_append (a ∷ vs) (b ∷ w ∷ ws) k (omega arith))

-- the element so many steps on
pub moved_is : (ns : List ℕ) (s : Symmetry) (xs : List ℕ) (row : Row) (k : ℕ) → AreRight ns s → IsInside ns xs → IsPairOf ns s xs row.pair
    → (row.is_second ≡ true → s.second + 1 ≡ length xs) → (row.is_second ≡ false → s.second + 1 < length xs) → IsPairOf ns s (moved xs k) (moved_pair row k)
moved_is ns s xs row k r inside is last other =
    elim (cases_Bool row.is_second) [ inl e ↦ along_second e | inr e ↦ along_other e ]
  where
    steps : Bool → Pair
    steps b = if b then record { outer = row.pair.outer; first = row.pair.first; second = row.pair.second + k } else record { outer = row.pair.outer + k; first = row.pair.first; second = row.pair.second }

    long : s.second < length xs
    long = omega (arith, r.inside, length_inside ns xs inside)

    along_second : row.is_second ≡ true → IsPairOf ns s (moved xs k) (moved_pair row k)
    along_second e =
        let x = cut s xs r.ordered long in
        let none : behind s xs ≡ [] = drop_all (s.second + 1) xs (omega (arith, last e)) in
        let whole : xs ≡ joint (before s xs) (at_first s xs) (between s xs) (at_second s xs) [] = x.is ∙ ap (joint (before s xs) (at_first s xs) (between s xs) (at_second s xs)) none in
        let there : moved xs k ≡ joint (before s xs) (at_first s xs) (between s xs) (at_second s xs + k) [] =
        ap (λ l. moved l k) whole ∙ second_moved (before s xs) (at_first s xs) (between s xs) (at_second s xs) k in
        let parts = joint_parts s (before s xs) (at_first s xs) (between s xs) (at_second s xs + k) [] r.ordered x.front x.middle in
        let others : at_others s (moved xs k) ≡ at_others s xs = ap (at_others s) there ∙ parts.others ∙ ap (λ l. before s xs ++ (between s xs ++ l)) (sym none) in
        subst (λ (b : Bool). IsPairOf ns s (moved xs k) (steps b)) (sym e) (record {
          outer = is.outer ∙ ap (place (at_others s ns)) (sym others);
          first = is.first ∙ sym (ap (at_first s) there ∙ parts.first);
          second = ap (λ b. b + k) is.second ∙ sym (ap (at_second s) there ∙ parts.second);
        })

    along_other : row.is_second ≡ false → IsPairOf ns s (moved xs k) (moved_pair row k)
    along_other e =
        let x = cut s xs r.ordered long in
        let some : 0 < length (behind s xs) = omega (arith, length-drop (s.second + 1) xs, other e) in
        let there : moved xs k ≡ joint (before s xs) (at_first s xs) (between s xs) (at_second s xs) (moved (behind s xs) k) =
        ap (λ l. moved l k) x.is ∙ other_moved (before s xs) (at_first s xs) (between s xs) (at_second s xs) (behind s xs) k some in
        let parts = joint_parts s (before s xs) (at_first s xs) (between s xs) (at_second s xs) (moved (behind s xs) k) r.ordered x.front x.middle in
        let rest : moved (at_others s xs) k ≡ before s xs ++ (between s xs ++ moved (behind s xs) k) =
        moved_append (before s xs) (between s xs ++ behind s xs) k (omega (arith, length-append (between s xs) (behind s xs), some))
        ∙ ap (λ l. before s xs ++ l) (moved_append (between s xs) (behind s xs) k some) in
        let others : at_others s (moved xs k) ≡ moved (at_others s xs) k = ap (at_others s) there ∙ parts.others ∙ sym rest in
        let boxed = others_inside s ns xs (are_inside s ns xs r.ordered r.inside inside) in
        let size : 0 < length (at_others s ns) =
        omega (arith, length_inside (at_others s ns) (at_others s xs) boxed, length-append (before s xs) (between s xs ++ behind s xs), length-append (between s xs) (behind s xs), some) in
        subst (λ (b : Bool). IsPairOf ns s (moved xs k) (steps b)) (sym e) (record {
          outer = sym (ap (place (at_others s ns)) others ∙ moved_place (at_others s ns) (at_others s xs) k size boxed ∙ ap (λ n. n + k) (sym is.outer));
          first = is.first ∙ sym (ap (at_first s) there ∙ parts.first);
          second = is.second ∙ sym (ap (at_second s) there ∙ parts.second);
        })
