-- Rows that are gathered block by block, and branches of the loop that comes next.
use Rattle.std.proofs.Common.{◌≡◌, ℕ, ◌+◌, ◌-◌, ◌<◌, ◌≤◌, ◌⊎◌, List, [], ◌∷◌, ◌++◌, length, get_or, inl, inr, sym, ap, ◌∙◌, subst, arith, All, IsTrue}
use Rattle.std.proofs.lemmas.Bool.{cases_eq, cases_lt, or_cases, or_left, or_right}
use Rattle.std.proofs.lemmas.List.{get_or_default}
use Rattle.std.proofs.lemmas.List.Elements.{All-push}
use Rattle.tce_space.specs.IndexSet.{has}
use Rattle.tce_fusion.specs.Relation.{above, joined, Relation, HasNoConflict, IsCoarser}
use Rattle.tce_fusion.specs.Row.{Row, rows_joined}
use Rattle.tce_fusion.specs.StateClasses.{IsInhabited}
use Rattle.tce_check.specs.Kept.{IsUppermost, IsRowAt, IsKept, HasKept, StandIn, StayKept}
use Rattle.tce_check.specs.Branch.{Passes, IsAfter, AreGathered}
use Rattle.tce_check.specs.Pairs.{AreSettled, AreLimits, SettlesKept, SettlesRows}
use Rattle.tce_check.specs.declared.branch.Branch.{Branch}
use Rattle.tce_check.specs.declared.pairs.Pairs.{Pairs}
use Rattle.tce_check.specs.declared.uppermost.Turn.{Turn}
use Rattle.tce_check.proofs.Settling.{by_next, quiet_within}

-- a place has one row
pub one_row : (rows : List Row) (at : ℕ) (read row : Row) → read ≡ get_or rows at read → IsRowAt rows at row → read ≡ row
one_row rows at read row is stands = is ∙ get_or_default rows at read row stands.inside ∙ sym stands.is

-- one row more is gathered
pub gathered_more : (branch : Branch) (limit : ℕ) (rows : List Row) (from at : ℕ) (places new after : List ℕ) (count next kept : ℕ) → AreGathered branch limit rows from at places count
    → StandIn branch.rest rows places count new next → after ≡ new → kept ≡ next
    → ((row : Row) → IsRowAt rows at row → Passes branch.turns.items row → (limit ≤ row.cost) ⊎ HasKept branch.rest rows new next row)
    → AreGathered branch limit rows from (at + 1) after kept
gathered_more branch limit rows from at places new after count next kept gathered others same equal here k row low high stands passes =
    subst (λ n. (limit ≤ row.cost) ⊎ HasKept branch.rest rows after n row) (sym equal)
    (subst (λ ps. (limit ≤ row.cost) ⊎ HasKept branch.rest rows ps next row) (sym same)
    (elim (cases_eq k at) [
      | inl is ↦ here row (subst (λ m. IsRowAt rows m row) is stands) passes
      | inr other ↦ elim (gathered k row low (omega (arith, high, other)) stands passes) [
        | inl dear ↦ inl dear
        | inr found ↦ inr (others row found)
      ]
    ]))

-- ---- rows that stand for others

joined_left : (rest : ℕ) (r s other : Relation) → HasNoConflict rest (joined r s) → IsCoarser rest other r → HasNoConflict rest (joined other s)
joined_left rest r s other quiet coarse i j hi hj p q = quiet i j hi hj (wider i j hi hj p) (wider j i hj hi q)
  where
    wider : (i j : ℕ) → IsTrue (has rest i) → IsTrue (has rest j) → IsTrue (joined other s i j) → IsTrue (joined r s i j)
    wider i j hi hj h = elim (or_cases (other i j) (s i j) h) [
      | inl x ↦ or_left (r i j) (s i j) (coarse i j hi hj x)
      | inr y ↦ or_right (r i j) (s i j) y
    ]

joined_right : (rest : ℕ) (r s other : Relation) → HasNoConflict rest (joined r s) → IsCoarser rest other s → HasNoConflict rest (joined r other)
joined_right rest r s other quiet coarse i j hi hj p q = quiet i j hi hj (wider i j hi hj p) (wider j i hj hi q)
  where
    wider : (i j : ℕ) → IsTrue (has rest i) → IsTrue (has rest j) → IsTrue (joined r other i j) → IsTrue (joined r s i j)
    wider i j hi hj h = elim (or_cases (r i j) (other i j) h) [
      | inl x ↦ or_left (r i j) (s i j) x
      | inr y ↦ or_right (r i j) (s i j) (coarse i j hi hj y)
    ]

-- ---- block by block

-- one block of right rows more
pub kept_more : (pairs : Pairs) (branch : Branch) (old now rights : List ℕ) (count few at next : ℕ) → AreLimits pairs → count ≤ length old → StayKept count old now
    → SettlesKept pairs branch old count at → AreGathered branch pairs.right_limit pairs.rights.now at next rights few → AreSettled pairs branch.rest now count rights few
    → SettlesKept pairs branch old count next
kept_more pairs branch old now rights count few at next limits room stay before gathered settled l x y low p is passes quiet = elim (cases_lt l at) [
  | inl early ↦ before l x y early p is passes quiet
  | inr late ↦ elim (gathered l y late low is passes) [
    | inl dear ↦ limits (get_or old p.at 0) l x y p.stands is (inr dear)
    | inr found ↦
        let sum = settled x found.other (stay pairs.lefts.now count x (omega arith) room p) found.is
        (joined_right branch.rest (above x.classes) (above y.classes) (above found.other.classes) quiet found.stands.coarser) in
        omega (arith, sum, found.stands.cheap)
  ]
]

-- one block of left rows more
pub rows_more : (pairs : Pairs) (branch : Branch) (lefts : List ℕ) (few at next : ℕ) → AreLimits pairs → SettlesRows pairs branch at
    → AreGathered branch pairs.left_limit pairs.lefts.now at next lefts few → SettlesKept pairs branch lefts few (length pairs.rights.now) → SettlesRows pairs branch next
rows_more pairs branch lefts few at next limits before gathered settled k l x y low left right px py quiet = elim (cases_lt k at) [
  | inl early ↦ before k l x y early left right px py quiet
  | inr late ↦ elim (gathered k x late low left px) [
    | inl dear ↦ limits k l x y left right (inl dear)
    | inr found ↦
        let sum = settled l found.other y right.inside found.is right py
        (joined_left branch.rest (above x.classes) (above y.classes) (above found.other.classes) quiet found.stands.coarser) in
        omega (arith, sum, found.stands.cheap)
  ]
]

-- no row is kept
pub kept_none : (pairs : Pairs) (branch : Branch) (lefts : List ℕ) (count until : ℕ) → count ≡ 0 → SettlesKept pairs branch lefts count until
kept_none pairs branch lefts count until none l x y low p = absurd (omega (arith, none, p.low))

-- ---- by the loop that comes next

-- rows that pass and put no other of the rest above a loop
abbrev pub SettlesBy : Pairs → Branch → ℕ → Type 0
SettlesBy pairs branch index =
    (k l : ℕ) (x y : Row) → IsRowAt pairs.lefts.now k x → IsRowAt pairs.rights.now l y → Passes branch.turns.items x → Passes branch.turns.items y
    → IsUppermost branch.rest x index → IsUppermost branch.rest y index → HasNoConflict branch.rest (rows_joined x y) → pairs.total ≤ x.cost + y.cost

passes_after : (branch next : Branch) (index : ℕ) (row : Row) → IsAfter branch index next → Passes branch.turns.items row → IsUppermost branch.rest row index → Passes next.turns.items row
passes_after branch next index row after passes here =
    let turn : Turn = record { rest = branch.rest; index = index } in
    subst (λ turns. Passes turns row) (sym after.turns) (All-push (λ (t : Turn). IsUppermost t.rest row t.index) branch.turns.items turn passes here)

pub settles_after : (pairs : Pairs) (branch next : Branch) (index : ℕ) → IsAfter branch index next → SettlesRows pairs next (length pairs.lefts.now) → SettlesBy pairs branch index
settles_after pairs branch next index after settled k l x y left right px py hx hy quiet =
    settled k l x y left.inside left right (passes_after branch next index x after px hx) (passes_after branch next index y after py hy)
    (quiet_within branch.rest next.rest x y after.within quiet)

pub settles_all : (pairs : Pairs) (branch : Branch) (until : ℕ) → IsInhabited branch.rest → ((i : ℕ) → i < 24 → SettlesBy pairs branch i)
    → ((i : ℕ) (x : Row) → IsUppermost branch.rest x i → i < 24) → SettlesRows pairs branch until
settles_all pairs branch until some each low k l x y _ left right px py quiet =
    by_next branch.rest pairs.total (x.cost + y.cost) x y quiet some (λ i h j. each i (low i x h) k l x y left right px py h j quiet)

-- ---- all rows

pub read_row : (rows : List Row) (k : ℕ) (d : Row) → k < length rows → IsRowAt rows k (get_or rows k d)
read_row rows k d low = record { inside = low; is = get_or_default rows k d (get_or rows k d) low }

pub row_of_all : (P : Row → Type 0) (rows : List Row) (k : ℕ) (row : Row) → All P rows → IsRowAt rows k row → P row
row_of_all P rows k row all stands = subst P (sym stands.is) (all k row stands.inside)

-- what costs as much as the total without the least cost of the other side has no sum below the total
pub limits_from : (pairs : Pairs) (left right : ℕ) → All (λ (row : Row). left ≤ row.cost) pairs.lefts.now → All (λ (row : Row). right ≤ row.cost) pairs.rights.now
    → pairs.left_limit ≡ pairs.total - right → pairs.right_limit ≡ pairs.total - left → AreLimits pairs
limits_from pairs left right lefts rights one other k l x y px py (inl dear) =
    let least = row_of_all (λ (row : Row). right ≤ row.cost) pairs.rights.now l y rights py in omega (arith, least, one, dear)
limits_from pairs left right lefts rights one other k l x y px py (inr dear) =
    let least = row_of_all (λ (row : Row). left ≤ row.cost) pairs.lefts.now k x lefts px in omega (arith, least, other, dear)

pub all_above : (pairs : Pairs) (branch : Branch) → branch.turns.items ≡ [] → SettlesRows pairs branch (length pairs.lefts.now)
    → All (λ (left : Row). All (λ (right : Row). HasNoConflict branch.rest (rows_joined left right) → pairs.total ≤ left.cost + right.cost) pairs.rights.now) pairs.lefts.now
all_above pairs branch none settled k d low l e high =
    let x = get_or pairs.lefts.now k d in
    let y = get_or pairs.rights.now l e in
    settled k l x y low (read_row pairs.lefts.now k d low) (read_row pairs.rights.now l e high) (passes_none x) (passes_none y)
  where
    passes_none : (row : Row) → Passes branch.turns.items row
    passes_none row = subst (λ turns. Passes turns row) (sym none) (λ j t inside. absurd (omega (arith, inside)))
