-- The relation of a state that exists is that of a list of classes.
use Rattle.std.proofs.Common.{◌≡◌, ℕ, zero, suc, ◌+◌, ◌<◌, ◌≤◌, ◌&&◌, ◌||◌, not, cond, Bool, true, false, eqb, eqb-true, eq-eqb, List, [], ◌∷◌, sym, ap, ◌∙◌, subst, inl, inr, arith}
use Rattle.std.proofs.lemmas.Bool.{cases_Bool, cases_eq, false≢true, both_ways, and_parts, and_from, or_cases, or_left, or_right, not-true, not_from_false, false_from_ne_true}
use Rattle.tce_space.specs.IndexSet.{IsIndexSet, has, with_index}
use Rattle.tce_space.proofs.IndexSetLaws.{has-empty, has_below, has-with_same, has-with_other, with_lt}
use Rattle.tce_fusion.proofs.Carried.{search_below}
use Rattle.tce_fusion.specs.Relation.{above}
use Rattle.tce_fusion.specs.StateClasses.{in_class, IsNesting}

-- ---- how many numbers pass a test

pub tally : (ℕ → Bool) → ℕ → ℕ
tally p zero = 0
tally p (suc n) = tally p n + cond (p n) 1 0

pub tally-bound : (p : ℕ → Bool) (n : ℕ) → tally p n ≤ n
unfolding tally
tally-bound p zero = omega arith
tally-bound p (suc n) = elim (cases_Bool (p n)) [ inl t ↦ rw t (omega (arith, tally-bound p n)) | inr f ↦ rw f (omega (arith, tally-bound p n)) ]

pub tally-le : (p q : ℕ → Bool) (n : ℕ) → ((k : ℕ) → k < n → p k ≡ true → q k ≡ true) → tally p n ≤ tally q n
unfolding tally
tally-le p q zero all = omega arith
tally-le p q (suc n) all =
    let rest = tally-le p q n (λ k l. all k (omega arith)) in
    elim (cases_Bool (p n)) [
      | inl t ↦ rw (t, all n (omega arith) t) (omega (arith, rest))
      | inr f ↦ elim (cases_Bool (q n)) [ inl t ↦ rw (f, t) (omega (arith, rest)) | inr e ↦ rw (f, e) (omega (arith, rest)) ]
    ]

pub tally-lt : (p q : ℕ → Bool) (n x : ℕ) → x < n → p x ≡ false → q x ≡ true → ((k : ℕ) → k < n → p k ≡ true → q k ≡ true) → tally p n < tally q n
unfolding tally
tally-lt p q zero x low out inn all = absurd (omega arith)
tally-lt p q (suc n) x low out inn all =
    elim (cases_eq x n) [
      | inl e ↦
          let here : p n ≡ false = ap p (sym e) ∙ out in
          let there : q n ≡ true = ap q (sym e) ∙ inn in
          rw (here, there) (omega (arith, tally-le p q n (λ k l. all k (omega arith))))
      | inr ne ↦
          let rest = tally-lt p q n x (omega arith) out inn (λ k l. all k (omega arith)) in
          elim (cases_Bool (p n)) [
            | inl t ↦ rw (t, all n (omega arith) t) (omega (arith, rest))
            | inr f ↦ elim (cases_Bool (q n)) [ inl t ↦ rw (f, t) (omega (arith, rest)) | inr e ↦ rw (f, e) (omega (arith, rest)) ]
          ]
    ]

-- ---- the set of the numbers below a limit that pass a test

record IsSetOf (p : ℕ → Bool) (n set : ℕ) : Type 0 where
  small : IsIndexSet set
  member : (i : ℕ) → has set i ≡ true → p i ≡ true
  every : (i : ℕ) → i < n → p i ≡ true → has set i ≡ true

set_of_test : (p : ℕ → Bool) (n : ℕ) → n ≤ 24 → (set : ℕ) × IsSetOf p n set
set_of_test p zero limit =
    (0, record { small = omega arith; member = λ i h. absurd (both_ways (has 0 i) (has-empty i) h); every = λ i l t. absurd (omega arith) })
set_of_test p (suc n) limit =
    let rest = set_of_test p n (omega arith) in
    elim (cases_Bool (p n)) [
      | inl t ↦ (
        with_index rest.0 n,
        record {
          small = with_lt rest.0 n rest.1.small;
          member = λ i h. elim (cases_eq i n) [
            | inl e ↦ ap p e ∙ t
            | inr ne ↦ rest.1.member i (sym (has-with_other rest.0 n i (omega arith) ne) ∙ h)
          ];
          every = λ i l m. elim (cases_eq i n) [
            | inl e ↦ subst (λ k. has (with_index rest.0 n) k ≡ true) (sym e) (has-with_same rest.0 n (omega arith))
            | inr ne ↦ has-with_other rest.0 n i (omega arith) ne ∙ rest.1.every i (omega arith) m
          ];
        },
      )
      | inr f ↦ (
        rest.0,
        record {
          small = rest.1.small;
          member = rest.1.member;
          every = λ i l m. elim (cases_eq i n) [ inl e ↦ absurd (both_ways (p n) f (ap p (sym e) ∙ m)) | inr ne ↦ rest.1.every i (omega arith) m ];
        },
      )
    ]

-- ---- classes by rank

-- the classes of the members whose ranks are from `a` up to `a + n`, least first
pub record AreLevels (set : ℕ) (rank : ℕ → ℕ) (a n : ℕ) (classes : List ℕ) : Type 0 where
  pub nesting : IsNesting classes
  pub member : (i : ℕ) → in_class classes i ≡ true → (has set i ≡ true) × (a ≤ rank i) × (rank i < a + n)
  pub every : (i : ℕ) → has set i ≡ true → a ≤ rank i → rank i < a + n → in_class classes i ≡ true
  pub upper : (i j : ℕ) → above classes i j ≡ true → (in_class classes i ≡ true) × (in_class classes j ≡ true → rank i < rank j)
  pub lower : (i j : ℕ) → in_class classes i ≡ true → (in_class classes j ≡ true → rank i < rank j) → above classes i j ≡ true

module _ (set : ℕ) (rank : ℕ → ℕ) (is_set : IsIndexSet set) where
  level : ℕ → ℕ → Bool
  level a i = has set i && eqb (rank i) a

  no_levels : (a : ℕ) → AreLevels set rank a 0 []
  no_levels a = record {
    nesting = tt;
    member = λ i h. absurd (false≢true h);
    every = λ i h l m. absurd (omega arith);
    upper = λ i j h. absurd (false≢true h);
    lower = λ i j h k. absurd (false≢true h);
  }

  without_level : (a n : ℕ) (classes : List ℕ) → ((i : ℕ) → i < 24 → level a i ≡ true → ⊥) → AreLevels set rank (a + 1) n classes → AreLevels set rank a (suc n) classes
  unfolding level
  without_level a n classes nobody rest = record {
    nesting = rest.nesting;
    member = λ i h. let r = rest.member i h in (r.0, omega (arith, r.1), omega (arith, r.2));
    every = λ i h l m. elim (cases_eq (rank i) a) [
      | inl e ↦ absurd (nobody i (has_below set i is_set h) (and_from (has set i) (eqb (rank i) a) h (eq-eqb (rank i) a e)))
      | inr ne ↦ rest.every i h (omega arith) (omega arith)
    ];
    upper = rest.upper;
    lower = rest.lower;
  }

  -- a member of the first class, or of a later one
  rank_of_first : (a first : ℕ) → IsSetOf (level a) 24 first → (i : ℕ) → has first i ≡ true → (has set i ≡ true) × (rank i ≡ a)
  unfolding level
  rank_of_first a first is i h = let r = and_parts (has set i) (eqb (rank i) a) (is.member i h) in (r.0, eqb-true (rank i) a r.1)

  with_level : (a n first witness : ℕ) (classes : List ℕ) → IsSetOf (level a) 24 first → has first witness ≡ true → AreLevels set rank (a + 1) n classes → AreLevels set rank a (suc n) (first ∷ classes)
  unfolding level
  with_level a n first witness classes is inn rest = record {
    nesting = (
      is.small,
      (λ nobody. both_ways (has first witness) (nobody witness) inn),
      (λ i h. false_from_ne_true (in_class classes i) (λ k.
          let r = rest.member i k in absurd (omega (arith, r.1, (rank_of_first a first is i h).1)))),
      rest.nesting,
    );
    member = λ i h. elim (or_cases (has first i) (in_class classes i) h) [
      | inl x ↦ let r = rank_of_first a first is i x in (r.0, omega (arith, r.1), omega (arith, r.1))
      | inr x ↦ let r = rest.member i x in (r.0, omega (arith, r.1), omega (arith, r.2))
    ];
    every = λ i h l m. elim (cases_eq (rank i) a) [
      | inl e ↦ or_left (has first i) (in_class classes i) (is.every i (has_below set i is_set h) (and_from (has set i) (eqb (rank i) a) h (eq-eqb (rank i) a e)))
      | inr ne ↦ or_right (has first i) (in_class classes i) (rest.every i h (omega arith) (omega arith))
    ];
    upper = λ i j h.
        let parts = and_parts (not (has first j)) (has first i || above classes i j) h in
        let out = not-true (has first j) parts.0 in
        elim (or_cases (has first i) (above classes i j) parts.1) [
          | inl x ↦ (
            or_left (has first i) (in_class classes i) x,
            λ k. elim (or_cases (has first j) (in_class classes j) k) [
              | inl y ↦ absurd (both_ways (has first j) out y)
              | inr y ↦ let r = rest.member j y in omega (arith, r.1, (rank_of_first a first is i x).1)
            ],
          )
          | inr x ↦ let r = rest.upper i j x in (
            or_right (has first i) (in_class classes i) r.0,
            λ k. elim (or_cases (has first j) (in_class classes j) k) [
              | inl y ↦ absurd (both_ways (has first j) out y)
              | inr y ↦ r.1 y
            ],
          )
        ];
    lower = λ i j h k.
        let least : a ≤ rank i = elim (or_cases (has first i) (in_class classes i) h) [
          | inl x ↦ let r = (rank_of_first a first is i x).1 in omega (arith, r)
          | inr x ↦ let r = (rest.member i x).1 in omega (arith, r)
        ] in
        let out : has first j ≡ false = false_from_ne_true (has first j) (λ y.
        let r = (rank_of_first a first is j y).1 in
        let s = k (or_left (has first j) (in_class classes j) y) in
        absurd (omega (arith, r, s, least))) in
        and_from (not (has first j)) (has first i || above classes i j) (not_from_false (has first j) out)
        (elim (or_cases (has first i) (in_class classes i) h) [
          | inl x ↦ or_left (has first i) (above classes i j) x
          | inr x ↦ or_right (has first i) (above classes i j) (rest.lower i j x (λ y. k (or_right (has first j) (in_class classes j) y)))
        ]);
  }

  pub levels : (a n : ℕ) → (classes : List ℕ) × AreLevels set rank a n classes
  levels a zero = ([], no_levels a)
  levels a (suc n) =
      let rest = levels (a + 1) n in
      elim (search_below (level a) 24) [
        | inl found ↦
            let first = set_of_test (level a) 24 (omega arith) in
            (first.0 ∷ rest.0, with_level a n first.0 found.0 rest.0 first.1 (first.1.every found.0 found.1 found.2) rest.1)
        | inr nobody ↦ (rest.0, without_level a n rest.0 nobody rest.1)
      ]
