-- Loops that rows put at the top, which show a conflict where they cross.
use Rattle.std.proofs.Common.{◌≡◌, ℕ, Bool, true, false, not, ◌&&◌, ◌||◌, List, ◌∷◌, inl, inr, arith, ◌∙◌, sym, ap}
use Rattle.std.specs.Prelude.{IsTrue}
use Rattle.std.proofs.lemmas.Bool.{cases_Bool, both_ways}
use Rattle.tce_space.specs.IndexSet.{IsWithin, has}
use Rattle.tce_fusion.specs.Relation.{Relation, above, joined, HasNoConflict}
use Rattle.tce_fusion.specs.Row.{Row}
use Rattle.tce_nesting.specs.declared.ends.Ends.{Ends}
use Rattle.tce_nesting.specs.Ends.{IsTopOf, AreEnds, DoCross, HaveConflict}

module _ (loops : ℕ) (r s : Relation) (a b : ℕ) (left : IsTopOf loops r a) (right : IsTopOf loops s b) (quiet : HasNoConflict loops (joined r s)) where
  in_right : (x y : Bool) → y ≡ true → (x || y) ≡ true
  in_right x y h = grind arith

  back : (i : ℕ) → IsTrue (has a i) → has b i ≡ false → IsWithin b a
  back i in_a out_b j in_b = elim (cases_Bool (has a j)) [
    | inl held ↦ held
    | inr lacks ↦ absurd (quiet i j (left.within i in_a) (right.within j in_b)
        (ap (λ x. x || s i j) (left.upper i j in_a (right.within j in_b) lacks))
        (in_right (r j i) (s j i) (right.upper j i in_b (left.within i in_a) out_b)))
  ]

  pub tops_do_not_cross : (IsWithin a b → ⊥) → (IsWithin b a → ⊥) → ⊥
  tops_do_not_cross not_here not_there = not_here (λ i in_a. elim (cases_Bool (has b i)) [
    | inl held ↦ held
    | inr lacks ↦ absurd (not_there (back i in_a lacks))
  ])

-- the first class
pub top_of_first : (loops class top : ℕ) (rest : List ℕ) → ((i : ℕ) → has top i ≡ (has class i && has loops i)) → IsTopOf loops (above (class ∷ rest)) top
top_of_first loops class top rest members = record {
  within = λ i h. second (has class i) (has loops i) (sym (members i) ∙ h);
  upper = λ i j h in_loops out. put (has class i) (has loops i) (has class j) (has loops j) (above rest i j) (sym (members i) ∙ h) in_loops (sym (members j) ∙ out);
}
  where
    second : (x y : Bool) → (x && y) ≡ true → y ≡ true
    second x y h = grind arith

    put : (ci li cj lj rest : Bool) → (ci && li) ≡ true → lj ≡ true → (cj && lj) ≡ false → (not cj && (ci || rest)) ≡ true
    put ci li cj lj rest h p out = grind arith

-- no loops
pub no_top : (loops top : ℕ) (r : Relation) → ((i : ℕ) → has top i ≡ false) → IsTopOf loops r top
no_top loops top r none = record {
  within = λ i h. absurd (both_ways (has top i) (none i) h);
  upper = λ i j h in_loops out. absurd (both_ways (has top i) (none i) h);
}

-- each of the loops that a reached set has not is below those that it has; the rest of the classes tells what it is above else
pub record IsReached (loops : ℕ) (classes rest : List ℕ) (reached : ℕ) : Type 0 where
  pub within : IsWithin reached loops
  pub upper : (i j : ℕ) → IsTrue (has loops i) → IsTrue (has loops j) → has reached j ≡ false → above classes i j ≡ (has reached i || above rest i j)

pub reached_none : (loops : ℕ) (classes : List ℕ) (reached : ℕ) → ((i : ℕ) → has reached i ≡ false) → IsReached loops classes classes reached
reached_none loops classes reached none = record {
  within = λ i h. absurd (both_ways (has reached i) (none i) h);
  upper = λ i j p q low. ap (λ b. b || above classes i j) (sym (none i));
}

-- what is reached is above the other loops
pub reached_is_top : (loops : ℕ) (classes rest : List ℕ) (reached : ℕ) → IsReached loops classes rest reached → IsTopOf loops (above classes) reached
reached_is_top loops classes rest reached is = record {
  within = is.within;
  upper = λ i j p q low. is.upper i j (is.within i p) q low ∙ ap (λ b. b || above rest i j) p;
}

-- one more class
pub reached_further : (loops c both : ℕ) (classes rest : List ℕ) (reached wider : ℕ) → ((i : ℕ) → has both i ≡ (has c i && has loops i)) → ((i : ℕ) → has wider i ≡ (has reached i || has both i))
    → IsReached loops classes (c ∷ rest) reached → IsReached loops classes rest wider
reached_further loops c both classes rest reached wider meets joins is = record {
  within = λ i h. inside (has reached i) (has c i) (has loops i) (is.within i) (sym (members i) ∙ h);
  upper = λ i j p q low.
      let parts = left_low (has reached j) (has loops j) (has c j) (sym (members j) ∙ low) q in
      is.upper i j p q parts.0 ∙ wider_upper (has reached i) (has loops i) (has c i) (has c j) (above rest i j) p parts.1 ∙ ap (λ b. b || above rest i j) (sym (members i));
}
  where
    members : (i : ℕ) → has wider i ≡ (has reached i || (has c i && has loops i))
    members i = joins i ∙ ap (λ b. has reached i || b) (meets i)

    inside : (a b d : Bool) → (a ≡ true → d ≡ true) → (a || (b && d)) ≡ true → d ≡ true
    inside a b d known h = grind arith

    wider_upper : (reached_i loops_i c_i c_j rest : Bool) → loops_i ≡ true → c_j ≡ false → (reached_i || (not c_j && (c_i || rest))) ≡ ((reached_i || (c_i && loops_i)) || rest)
    wider_upper reached_i loops_i c_i c_j rest p q = grind arith

    left_low : (reached_j loops_j c_j : Bool) → (reached_j || (c_j && loops_j)) ≡ false → loops_j ≡ true → (reached_j ≡ false) × (c_j ≡ false)
    left_low reached_j loops_j c_j low p = grind arith

-- ends that cross show a conflict
pub crossing_ends : (left right : Ends) (a b : ℕ) → ((loops : ℕ) (x : Row) → AreEnds loops x left → IsTopOf loops (above x.classes) a)
    → ((loops : ℕ) (y : Row) → AreEnds loops y right → IsTopOf loops (above y.classes) b) → DoCross a b → HaveConflict left right
crossing_ends left right a b here there crossing loops x y ends other quiet =
    tops_do_not_cross loops (above x.classes) (above y.classes) a b (here loops x ends) (there loops y other) quiet crossing.0 crossing.1
