-- From what the operands' candidates are together to the steps of each two of them.
use Rattle.std.proofs.Common.{◌≡◌, ℕ, ◌+◌, ◌<◌, ◌≤◌, ◌&&◌, ◌||◌, Bool, not, true, false, List, [], ◌∷◌, ◌++◌, sym, ap, ◌∙◌, ◌^◌, inl, inr, refl, arith, subst, get_or, length}
use Rattle.std.specs.Prelude.{IsTrue}
use Rattle.std.specs.List.{All, AllPairs, Any, Contains}
use Rattle.std.proofs.lemmas.Bool.{cases_Bool, cases_lt, false≢true}
use Rattle.std.proofs.lemmas.List.{append_assoc, length-append}
use Rattle.std.proofs.lemmas.List.Elements.{All-weaker, All-contains, All-nil}
use Rattle.tce_space.specs.IndexSet.{IsIndexSet, IsWithin, has}
use Rattle.tce_fusion.specs.Relation.{none, above, IsCoarser}
use Rattle.tce_fusion.specs.StateClasses.{in_class}
use Rattle.tce_fusion.specs.Row.{Row, rows_joined}
use Rattle.tce_nesting.specs.Classes.{restricted, AllowsSet}
use Rattle.tce_nesting.specs.Plan.{LiesWithin}
use Rattle.tce_nesting.specs.declared.choice.Choice.{Choice}
use Rattle.tce_nesting.proofs.Joins.{in_class-above}
use Rattle.tce_nesting.proofs.Cuts.{above-restricted}
use Rattle.tce_search.specs.Steps.{IsRowJoin}
use Rattle.tce_search.specs.declared.candidate.Candidate.{Candidate}
use Rattle.tce_search.specs.declared.table.Choosing.{Choosing}
use Rattle.tce_search.specs.Candidates.{Stands, StandForAll, ChoiceCovered, PairCovered, IsReachedOrBound, IsBound, IsLimited, LeavesRoom, HaveRoom, limit_candidate}
use Rattle.tce_search.specs.Groups.{LeavesOpen}
use Rattle.tce_search.specs.Joins.{IsSomeJoinBelow, JoinCovered, IsSomeStepFrom, HasNext}
use Rattle.tce_search.proofs.Existing.{joined_row}
use Rattle.tce_search.proofs.Quantifiers.{Any-here, Any-weaker}

above_unplaced : (cs : List ℕ) (i j : ℕ) → in_class cs i ≡ true → in_class cs j ≡ false → above cs i j ≡ true
above_unplaced [] i j h out = absurd (false≢true h)
above_unplaced (c ∷ cs) i j h out = first (has c i) (has c j) (in_class cs i) (in_class cs j) (above cs i j) h out (above_unplaced cs i j)
  where
    first : (ci cj ii ij rest : Bool) → (ci || ii) ≡ true → (cj || ij) ≡ false → (ii ≡ true → ij ≡ false → rest ≡ true) → (not cj && (ci || rest)) ≡ true
    first ci true ii ij rest h out later = absurd (false≢true (sym out))
    first true false ii ij rest h out later = refl
    first false false ii ij rest h out later = later h out

further_cut : (k o fi fj s t : Bool) → k ≡ o → (s ≡ true → t ≡ true) → (k && fi && (not fj || s)) ≡ true → (o && fi && (not fj || t)) ≡ true
further_cut k o fi fj s t same later h = grind (arith, same, later, h)

-- a joined row that is coarser than two rows together, beside the joined row of these two
module _ (loops : ℕ) (left right own join : Row) (joins : IsRowJoin loops left right own) (placed : (i : ℕ) → in_class join.classes i ≡ has loops i)
    (coarser : IsCoarser loops (above join.classes) (rows_joined left right)) where
  further : (i j : ℕ) → IsTrue (above join.classes i j) → IsTrue (above own.classes i j)
  further i j h =
      let li : IsTrue (has loops i) = sym (placed i) ∙ in_class-above join.classes i j h in
      elim (cases_Bool (has loops j)) [
        | inl lj ↦ joins.classes.relation i j li lj ∙ coarser i j li lj h
        | inr out ↦ above_unplaced own.classes i j (joins.classes.placed i ∙ li) (joins.classes.placed j ∙ out)
      ]

  -- allows what this allows
  pub allows : (fused : ℕ) → AllowsSet (above own.classes) fused → AllowsSet (above join.classes) fused
  allows fused h i j out inn x = h i j out inn (further i j x)

  -- and leaves something coarser
  pub leaves_coarser : (outer fused : ℕ) → IsCoarser outer (above (restricted join.classes fused)) (above (restricted own.classes fused))
  leaves_coarser outer fused i j p q h =
      above-restricted own.classes fused i j
      ∙ further_cut (in_class join.classes i) (in_class own.classes i) (has fused i) (has fused j) (above join.classes i j) (above own.classes i j)
      (placed i ∙ sym (joins.classes.placed i)) (further i j) (sym (above-restricted join.classes fused i j) ∙ h)

  pub choice_from_join : (outer : ℕ) (table : List Candidate) (choice : Choice) → join.cost ≤ own.cost → ChoiceCovered outer join table choice → ChoiceCovered outer own table choice
  choice_from_join outer table choice cheap covered allowed =
      Any-weaker (Stands outer (above (restricted join.classes choice.fused)) (join.cost + choice.size)) (Stands outer (above (restricted own.classes choice.fused)) (own.cost + choice.size))
      (λ x h. record { coarser = λ i j p q y. leaves_coarser outer choice.fused i j p q (h.coarser i j p q y); cheap = omega (arith, h.cheap, cheap) })
      table (covered (allows choice.fused allowed))

-- what costs the limit or more is stood for
pub choice_at_limit : (outer limit : ℕ) (own : Row) (table : List Candidate) (choice : Choice) → limit ≤ own.cost → Any (Stands outer none limit) table → ChoiceCovered outer own table choice
choice_at_limit outer limit own table choice high found allowed =
    Any-weaker (Stands outer none limit) (Stands outer (above (restricted own.classes choice.fused)) (own.cost + choice.size))
    (λ x h. record { coarser = λ i j p q y. absurd (false≢true (h.coarser i j p q y)); cheap = omega (arith, h.cheap, high) })
    table found

-- each loop has a class, and nothing else
abbrev pub IsPlaced : ℕ → Candidate → Type 0
IsPlaced loops join = (i : ℕ) → in_class join.row.classes i ≡ has loops i

module _ (limit loops outer : ℕ) (choices : List Choice) (table joins : List Candidate) (is_set : IsIndexSet loops) (placed : All (IsPlaced loops) joins)
    (each : All (λ join. All (ChoiceCovered outer join.row table) choices) joins) (at_limit : Any (Stands outer none limit) table) where
  pub pair_from_joins : (left right : Candidate) → JoinCovered limit loops joins left right → PairCovered loops outer choices table left right
  pair_from_joins left right covered quiet =
      let own = joined_row loops left.row right.row is_set quiet in
      record {
        joined = own.0;
        joins = own.1;
        each = elim (cases_lt (left.row.cost + right.row.cost) limit) [
          | inl low ↦
              let found = covered quiet low in
              let inn : Contains joins found.1 = (found.0, found.2, found.3) in
              let is_placed = All-contains (IsPlaced loops) joins found.1 placed inn in
              let cheap : found.1.row.cost ≤ own.0.cost = omega (arith, found.4.cheap, own.1.cost) in
              All-weaker (ChoiceCovered outer found.1.row table) (ChoiceCovered outer own.0 table)
              (λ choice h. choice_from_join loops left.row right.row own.0 found.1.row own.1 is_placed found.4.coarser outer table choice cheap h) choices
              (All-contains (λ (join : Candidate). All (ChoiceCovered outer join.row table) choices) joins found.1 each inn)
          | inr high ↦
              let dear : limit ≤ own.0.cost = omega (arith, high, own.1.cost) in
              λ k d low. choice_at_limit outer limit own.0 table (get_or choices k d) dear at_limit
        ];
      }

  pub pairs_from_joins : (lefts rights : List Candidate) → All (λ left. All (JoinCovered limit loops joins left) rights) lefts → All (λ left. All (PairCovered loops outer choices table left) rights) lefts
  pairs_from_joins lefts rights covered =
      All-weaker (λ left. All (JoinCovered limit loops joins left) rights) (λ left. All (PairCovered loops outer choices table left) rights)
      (λ left all. All-weaker (JoinCovered limit loops joins left) (PairCovered loops outer choices table left) (λ right h. pair_from_joins left right h) rights all) lefts covered

-- the joined rows of pairs have all loops
pub joins_placed : (limit loops : ℕ) (lefts rights joins : List Candidate) → All (IsSomeJoinBelow limit loops lefts rights) joins → All (IsPlaced loops) joins
joins_placed limit loops lefts rights joins all = All-weaker (IsSomeJoinBelow limit loops lefts rights) (IsPlaced loops) (λ x h. h.join.join.joins.classes.placed) joins all

-- a step from what two candidates are together is one from these two, or it has no sets
pub step_reached : (loops : ℕ) (choosing : Choosing) (lefts rights : List Candidate) (join x : Candidate) → choosing.limit < 2 ^ 96
    → IsSomeJoinBelow choosing.limit loops lefts rights join → IsSomeStepFrom choosing join x → IsReachedOrBound choosing.limits.least loops choosing.choices.now lefts rights x
step_reached loops choosing lefts rights join x small from step = elim step.step.0 [
  | inl own ↦ inl (record {
    reached = record {
      left = from.left;
      right = from.right;
      from_left = from.from_left;
      from_right = from.from_right;
      step = record {
        joined = join.row;
        choice = step.choice;
        quiet = from.join.join.quiet;
        joins = from.join.join.joins;
        chosen = step.chosen;
        step = record {
          allowed = own.allowed;
          row = own.row;
          sets = own.sets ∙ ap (λ xs. xs ++ step.choice.fused ∷ []) from.join.join.sets ∙ append_assoc from.left.sets.items from.right.sets.items (step.choice.fused ∷ []);
        };
      };
    };
    cheap = omega (arith, step.step.1, small);
  })
  | inr bound ↦ inr (record {
    sets = bound.sets;
    high = bound.high;
    cheap = omega (arith, step.step.1, small);
    within = λ dims all. bound.within dims (All-contains (λ (choice : Choice). IsWithin choice.fused dims) choosing.choices.now step.choice all step.chosen);
  })
]

-- what is covered stays so where the candidates stand for as much
pub join_later : (limit loops : ℕ) (old new : List Candidate) (left right : Candidate) → StandForAll loops old new → JoinCovered limit loops old left right → JoinCovered limit loops new left right
join_later limit loops old new left right later covered quiet low = later (rows_joined left.row right.row) (left.row.cost + right.row.cost) (covered quiet low)

pub joins_later : (limit loops : ℕ) (old new lefts rights : List Candidate) → StandForAll loops old new
    → All (λ left. All (JoinCovered limit loops old left) rights) lefts → All (λ left. All (JoinCovered limit loops new left) rights) lefts
joins_later limit loops old new lefts rights later covered =
    All-weaker (λ left. All (JoinCovered limit loops old left) rights) (λ left. All (JoinCovered limit loops new left) rights)
    (λ left all. All-weaker (JoinCovered limit loops old left) (JoinCovered limit loops new left) (λ right h. join_later limit loops old new left right later h) rights all) lefts covered

-- the costs of two candidates are within the limit of a plan's numbers, and their sets leave room
pub joins_next : (limit loops : ℕ) (lefts rights joins : List Candidate) → All IsLimited lefts → All IsLimited rights → HaveRoom lefts rights
    → All (IsSomeJoinBelow limit loops lefts rights) joins → All HasNext joins
joins_next limit loops lefts rights joins limited_lefts limited_rights room all =
    All-weaker (IsSomeJoinBelow limit loops lefts rights) HasNext (λ join from. next join from) joins all
  where
    twice : (a b c : ℕ) → a < 2 ^ 96 → b < 2 ^ 96 → c ≡ a + b → c < 2 ^ 97
    twice a b c p q is = omega (arith, p, q, is)

    next : (join : Candidate) → IsSomeJoinBelow limit loops lefts rights join → HasNext join
    next join from =
        let low_left = All-contains IsLimited lefts from.left limited_lefts from.from_left in
        let low_right = All-contains IsLimited rights from.right limited_rights from.from_right in
        let rooms = All-contains (λ left. All (LeavesRoom left) rights) lefts from.left room from.from_left in
        let fits = All-contains (LeavesRoom from.left) rights from.right rooms from.from_right in
        let count = ap length from.join.join.sets ∙ length-append from.left.sets.items from.right.sets.items in (
          twice from.left.row.cost from.right.row.cost join.row.cost low_left low_right from.join.join.joins.cost,
          omega (arith, fits, count),
        )

-- the one candidate at the limit
module _ (outer limit : ℕ) (list : List Candidate) (is : list ≡ limit_candidate limit ∷ []) where
  pub limit_stands : Any (Stands outer none limit) list
  limit_stands = subst (Any (Stands outer none limit)) (sym is)
      (Any-here (Stands outer none limit) (limit_candidate limit) [] (record { coarser = λ i j p q h. absurd (false≢true h); cheap = omega arith }))

  pub limit_alone : AllPairs (LeavesOpen outer) list
  limit_alone = subst (AllPairs (LeavesOpen outer)) (sym is) (λ i j d order low. absurd (omega (arith, order, low)))

  all_at_limit : (x : Candidate) → Contains list x → x ≡ limit_candidate limit
  all_at_limit x inn = only (subst (λ xs. Contains xs x) is inn)
    where
      only : Contains (limit_candidate limit ∷ []) x → x ≡ limit_candidate limit
      only inn =
          let first : inn.0 ≡ 0 = omega (arith, inn.1) in
          sym inn.2 ∙ ap (λ k. get_or (limit_candidate limit ∷ []) k x) first

  -- it has no sets, and its classes lie anywhere
  pub limit_bounds : (least : ℕ) (choices : List Choice) (x : Candidate) → least ≤ limit → limit < 2 ^ 96 → Contains list x → IsBound least choices x
  limit_bounds least choices x high small inn =
      subst (IsBound least choices) (sym (all_at_limit x inn)) (record { sets = refl; high = high; cheap = omega (arith, small); within = λ dims all. All-nil (LiesWithin dims) })
