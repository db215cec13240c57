-- The laws of nestings.
use Rattle.std.proofs.Common.{◌≡◌, ℕ, Bool, true, false, not, ◌&&◌, ◌||◌, inl, inr, refl, arith, ◌∙◌, sym, ap, List, [], ◌∷◌}
use Rattle.std.specs.Prelude.{IsTrue}
use Rattle.std.proofs.lemmas.Bool.{cases_Bool, both_ways, or_parts, or_from}
use Rattle.tce_space.specs.IndexSet.{IsWithin, has}
use Rattle.tce_space.proofs.IndexSetLaws.{has-beyond, same_set}
use Rattle.tce_fusion.specs.Relation.{above, joined}
use Rattle.tce_fusion.specs.StateClasses.{in_class, IsNesting}
use Rattle.tce_nesting.specs.Laws.{NestingsAreTheirRelations, RestrictionsCut, JoinsTellSteps, CoarserIsPreorder}
use Rattle.tce_nesting.proofs.Joins.{in_class-above}
use Rattle.tce_nesting.proofs.Cuts.{above-restricted}

-- an index without a class is below each that has one
above-unplaced : (cs : List ℕ) (i j : ℕ) → in_class cs j ≡ false → above cs i j ≡ in_class cs i
above-unplaced [] i j out = refl
above-unplaced (c ∷ cs) i j out =
    let parts = or_parts (has c j) (in_class cs j) out in
    ap (λ (x : Bool). not x && (has c i || above cs i j)) parts.0 ∙ ap (λ (x : Bool). has c i || x) (above-unplaced cs i j parts.1)

-- no set of a nesting has an index beyond the limit
pub no_class_beyond : (cs : List ℕ) → IsNesting cs → in_class cs 24 ≡ false
no_class_beyond [] nesting = refl
no_class_beyond (c ∷ cs) nesting = or_from (has c 24) (in_class cs 24) (has-beyond c 24 nesting.0 (omega arith)) (no_class_beyond cs nesting.3)

above-beyond : (cs : List ℕ) → IsNesting cs → (i : ℕ) → above cs i 24 ≡ in_class cs i
above-beyond cs nesting i = above-unplaced cs i 24 (no_class_beyond cs nesting)

some_class : (c : ℕ) (cs : List ℕ) → IsNesting (c ∷ cs) → ((i j : ℕ) → above (c ∷ cs) i j ≡ false) → ⊥
some_class c cs nesting none =
    nesting.1 (λ i. (or_parts (has c i) (in_class cs i) (sym (above-beyond (c ∷ cs) nesting i) ∙ none i 24)).0)

-- what is in the first class of one nesting is in that of the other
first_within : (c : ℕ) (cs : List ℕ) (d : ℕ) (ds : List ℕ) → IsNesting (d ∷ ds) → ((i j : ℕ) → above (c ∷ cs) i j ≡ above (d ∷ ds) i j) → IsWithin c d
first_within c cs d ds nesting same i here = elim (cases_Bool (has d i)) [
  | inl x ↦ x
  | inr out ↦ absurd (nesting.1 (λ j. (or_parts (has d j) (above ds j i) (lower j out)).0))
]
  where
    lower : (j : ℕ) → has d i ≡ false → (has d j || above ds j i) ≡ false
    lower j out =
        ap (λ (x : Bool). not x && (has d j || above ds j i)) (sym out)
        ∙ sym (same j i) ∙ ap (λ (x : Bool). not x && (has c j || above cs j i)) here

same_test : (a b : Bool) → (IsTrue a → IsTrue b) → (IsTrue b → IsTrue a) → a ≡ b
same_test a b f g = elim (cases_Bool a) [
  | inl x ↦ x ∙ sym (f x)
  | inr x ↦ elim (cases_Bool b) [
    | inl y ↦ absurd (both_ways a x (g y))
    | inr y ↦ x ∙ sym y
  ]
]

-- the relation of the later classes, at an index that is not in the first one
later_is : (c : ℕ) (cs : List ℕ) (i j : ℕ) → has c i ≡ false → has c j ≡ false → above (c ∷ cs) i j ≡ above cs i j
later_is c cs i j p q = ap (λ (x : Bool). not x && (has c i || above cs i j)) q ∙ ap (λ (x : Bool). x || above cs i j) p

-- an index of the first class is above none in the later ones
first_above : (c : ℕ) (cs : List ℕ) (i j : ℕ) → IsNesting (c ∷ cs) → IsTrue (has c i) → above cs i j ≡ false
first_above c cs i j nesting here = elim (cases_Bool (above cs i j)) [
  | inl x ↦ absurd (both_ways (in_class cs i) (nesting.2 i here) (in_class-above cs i j x))
  | inr x ↦ x
]

later_same : (c d : ℕ) (cs ds : List ℕ) → c ≡ d → IsNesting (c ∷ cs) → IsNesting (d ∷ ds) → ((i j : ℕ) → above (c ∷ cs) i j ≡ above (d ∷ ds) i j)
    → (i j : ℕ) → above cs i j ≡ above ds i j
later_same c d cs ds first left right same i j = elim (cases_Bool (has c i)) [
  | inl x ↦ first_above c cs i j left x ∙ sym (first_above d ds i j right (sym (ap (λ s. has s i) first) ∙ x))
  | inr x ↦ elim (cases_Bool (has c j)) [
    | inl y ↦
        above-unplaced cs i j (left.2 j y) ∙ sym (above-beyond cs left.3 i) ∙ at_later 24 x (has-beyond c 24 left.0 (omega arith)) ∙ above-beyond ds right.3 i
        ∙ sym (above-unplaced ds i j (right.2 j (sym (ap (λ s. has s j) first) ∙ y)))
    | inr y ↦ at_later j x y
  ]
]
  where
    at_later : (k : ℕ) → has c i ≡ false → has c k ≡ false → above cs i k ≡ above ds i k
    at_later k x y = sym (later_is c cs i k x y) ∙ same i k ∙ later_is d ds i k (sym (ap (λ s. has s i) first) ∙ x) (sym (ap (λ s. has s k) first) ∙ y)

pub nestings_are_their_relations : NestingsAreTheirRelations
nestings_are_their_relations [] [] left right same = refl
nestings_are_their_relations [] (d ∷ ds) left right same = absurd (some_class d ds right (λ i j. sym (same i j)))
nestings_are_their_relations (c ∷ cs) [] left right same = absurd (some_class c cs left same)
nestings_are_their_relations (c ∷ cs) (d ∷ ds) left right same =
    let first : c ≡ d = same_set c d left.0 right.0 (λ i _. same_test (has c i) (has d i) (first_within c cs d ds right same i) (first_within d ds c cs left (λ k j. sym (same k j)) i)) in
    let rest : cs ≡ ds = nestings_are_their_relations cs ds left.3 right.3 (later_same c d cs ds first left right same) in
    ap (λ k. k ∷ cs) first ∙ ap (λ ks. d ∷ ks) rest

placed_cut : (fi fj p t : Bool) → (IsTrue fi → IsTrue p) → (p && fi && (not fj || t)) ≡ (fi && (not fj || t))
placed_cut fi fj p t h = grind arith

pub restrictions_cut : RestrictionsCut
restrictions_cut classes fused placed i j =
    above-restricted classes fused i j ∙ placed_cut (has fused i) (has fused j) (in_class classes i) (above classes i j) (placed i)

same_cut : (fi fj s t : Bool) → (IsTrue fi → IsTrue fj → s ≡ t) → (fi && (not fj || s)) ≡ (fi && (not fj || t))
same_cut false fj s t h = refl
same_cut true false s t h = refl
same_cut true true s t h = h refl refl

pub joins_tell_steps : JoinsTellSteps
joins_tell_steps loops fused r s classes join within = record {
  allows = (
    (λ h i j li out inn x. h i j out inn (join.relation i j li (within j inn) ∙ x)),
    (λ h i j out inn x.
        let li : IsTrue (has loops i) = sym (join.placed i) ∙ in_class-above classes i j x in
        h i j li out inn (sym (join.relation i j li (within j inn)) ∙ x)),
  );
  cuts = λ i j.
      restrictions_cut classes fused (λ k h. join.placed k ∙ within k h) i j
      ∙ same_cut (has fused i) (has fused j) (above classes i j) (joined r s i j) (λ fi fj. join.relation i j (within i fi) (within j fj));
}

pub coarser_is_preorder : CoarserIsPreorder
coarser_is_preorder = record {
  itself = λ indexes r i j p q h. h;
  chain = λ indexes r s t f g i j p q h. g i j p q (f i j p q h);
  fewer = λ few many r s within f i j p q h. f i j (within i p) (within j q) h;
}
