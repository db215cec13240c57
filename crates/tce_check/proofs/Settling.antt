-- Rows that are kept, and loops that two rows without conflict put below no other.
use Rattle.std.proofs.Common.{◌≡◌, ℕ, Bool, suc, ◌+◌, ◌^◌, ◌↔◌, lit<, ◌<◌, ◌≤◌, ◌≢◌, ◌⊎◌, ◌&&◌, not, true, false, List, [], ◌∷◌, length, get_or, slice_set, inl, inr, refl, sym, ap, ◌∙◌, subst, arith, IsTrue}
use Rattle.std.proofs.lemmas.Bool.{cases_Bool, cases_eq, cases_lt, both_ways, and_parts}
use Rattle.std.proofs.lemmas.List.{get_or-set_same, get_or-set_other}
use Rattle.std.proofs.lemmas.List.Edits.{Swapped, swapped_from_swap}
use Rattle.std.specs.List.{swap}
use Rattle.tce_space.specs.IndexSet.{has, meet, with_index, empty, count, IsWithin}
use Rattle.tce_space.proofs.IndexSetLaws.{has-meet, has-empty, has-with_same, has-with_other, with_lt}
use Rattle.tce_nesting.proofs.Counts.{rest_smaller}
use Rattle.tce_fusion.specs.Relation.{above, HasNoConflict}
use Rattle.tce_fusion.specs.Row.{Row, StandsFor, rows_joined}
use Rattle.tce_fusion.specs.StateClasses.{IsInhabited}
use Rattle.tce_nesting.specs.Classes.{AreOutermost}
use Rattle.tce_nesting.proofs.Joins.{no_class}
use Rattle.tce_nesting.proofs.Outermost.{AgreeIn, outermost_here, outermost_later, outermost_all}
use Rattle.tce_check.specs.Kept.{IsUppermost, IsRowAt, IsKept, StayKept, HasKept, StandIn}

-- ---- loops that come next

-- the outermost loops of the rest can be told
some_outermost : (classes cs : List ℕ) (rest : ℕ) → AgreeIn rest classes cs → ((first : ℕ) → AreOutermost (above classes) rest first → ⊥) → ⊥
some_outermost classes [] rest agree none = none rest (outermost_all classes rest agree)
some_outermost classes (c ∷ cs) rest agree none =
    let members = λ (i : ℕ). has-meet c rest i in
    let some : IsInhabited (meet c rest) = λ empty. some_outermost classes cs rest (outermost_later classes cs c rest (meet c rest) agree members empty) none in
    none (meet c rest) (outermost_here classes cs c rest (meet c rest) agree members some)

uppermost_from : (row : Row) (rest first i : ℕ) → AreOutermost (above row.classes) rest first → IsTrue (has first i) → IsUppermost rest row i
uppermost_from row rest first i are inn = record { inside = are.within i inn; upper = λ j rj. are.lower j i rj inn }

-- two rows without conflict share a loop of the rest that comes next
pub one_next : (rest : ℕ) (x y : Row) → HasNoConflict rest (rows_joined x y) → IsInhabited rest → ((i : ℕ) → IsUppermost rest x i → IsUppermost rest y i → ⊥) → ⊥
one_next rest x y quiet some none =
    some_outermost x.classes x.classes rest (λ i j _ _. refl)
    (λ first left. some_outermost y.classes y.classes rest (λ i j _ _. refl)
    (λ second right. no_class rest (above x.classes) (above y.classes) rest first second (meet first second)
    (record { left = left; right = right; both = has-meet first second })
    (λ i h. h) some
    (λ i. elim (cases_Bool (has (meet first second) i)) [
      | inl here ↦
          let both = and_parts (has first i) (has second i) (sym (has-meet first second i) ∙ here) in
          absurd (none i (uppermost_from x rest first i left both.0) (uppermost_from y rest second i right both.1))
      | inr gone ↦ gone
    ])
    quiet))

-- so what can be told of numbers holds, if it does wherever they share one
pub by_next : (rest m n : ℕ) (x y : Row) → HasNoConflict rest (rows_joined x y) → IsInhabited rest → ((i : ℕ) → IsUppermost rest x i → IsUppermost rest y i → m ≤ n) → m ≤ n
by_next rest m n x y quiet some each = elim (cases_lt n m) [
  | inl below ↦ absurd (one_next rest x y quiet some (λ i p q. absurd (omega (arith, below, each i p q))))
  | inr fine ↦ fine
]

pub quiet_within : (rest later : ℕ) (x y : Row) → IsWithin later rest → HasNoConflict rest (rows_joined x y) → HasNoConflict later (rows_joined x y)
quiet_within rest later x y within quiet i j hi hj = quiet i j (within i hi) (within j hj)

-- a class that has loops of the rest, where no earlier one has, has those that come next
pub only_here : (classes cs : List ℕ) (c rest part index : ℕ) (row : Row) → row.classes ≡ classes → AgreeIn rest classes (c ∷ cs) → ((i : ℕ) → has part i ≡ (has c i && has rest i)) → IsInhabited part
    → IsUppermost rest row index → IsTrue (has part index)
only_here classes cs c rest part index row same agree members some next =
    let are = subst (λ cs'. AreOutermost (above cs') rest part) (sym same) (outermost_here classes cs c rest part agree members some) in
    elim (cases_Bool (has part index)) [
      | inl here ↦ here
      | inr gone ↦ absurd (some (λ i. elim (cases_Bool (has part i)) [
        | inl inn ↦ absurd (both_ways (above row.classes i index) (next.upper i (are.within i inn)) (are.upper i index inn next.inside ∙ ap (λ t. not t) gone))
        | inr out ↦ out
      ]))
    ]

-- ---- rows that are kept

pub stay_none : (count : ℕ) (places : List ℕ) → StayKept count places places
stay_none count places rows upto row low inside kept = kept

pub stay_more : (count few : ℕ) (old now new : List ℕ) → few ≤ count → length now ≡ length old → StayKept count old now → StayKept few now new → StayKept count old new
stay_more count few old now new fewer same first next rows upto row low inside kept =
    next rows upto row (omega (arith, fewer, low)) (omega (arith, same, inside)) (first rows upto row low inside kept)

pub stay_after : (count few : ℕ) (old now then new : List ℕ) → few ≤ count → length now ≡ length old → length then ≡ length now → StayKept count old now → StayKept count now then
    → StayKept few then new → StayKept count old new
stay_after count few old now then new fewer same equal first second third =
    stay_more count few old then new fewer (equal ∙ same) (stay_more count count old now then (omega arith) same first second) third

-- two of the first places that are swapped
pub stay_swapped : (count i j : ℕ) (old new : List ℕ) → i < count → j < count → count ≤ length old → new ≡ swap old i j → StayKept count old new
stay_swapped count i j old new li lj room is rows upto row low inside kept =
    let at = swapped_from_swap old new i j 0 (omega (arith, li, room)) (omega (arith, lj, room)) is in
    elim (cases_eq kept.at i) [
      | inl same ↦ record { at = j; low = omega (arith, lj, low); stands = subst (λ p. IsRowAt rows p row) (ap (λ k. get_or old k 0) same ∙ sym at.1) kept.stands }
      | inr other ↦ elim (cases_eq kept.at j) [
        | inl same ↦ record { at = i; low = omega (arith, li, low); stands = subst (λ p. IsRowAt rows p row) (ap (λ k. get_or old k 0) same ∙ sym at.0) kept.stands }
        | inr apart ↦ record { at = kept.at; low = kept.low; stands = subst (λ p. IsRowAt rows p row) (sym (at.2 kept.at other apart)) kept.stands }
      ]
    ]

-- a row whose place is written down stands for itself
pub kept_here : (rest : ℕ) (rows : List Row) (places : List ℕ) (place count at : ℕ) (row : Row) → place < count → place < length places → IsRowAt rows at row
    → HasKept rest rows (slice_set places place at) count row
kept_here rest rows places place count at row low inside stands = record {
  other = row;
  is = record { at = place; low = low; stands = subst (λ p. IsRowAt rows p row) (sym (get_or-set_same places place at 0 inside)) stands };
  stands = record { coarser = λ i j _ _ h. h; cheap = omega arith };
}

-- ---- sets without members

pub some_there : (part nothing : ℕ) (test : Bool) → ((i : ℕ) → has nothing i ≡ false) → IsTrue test ↔ IsWithin part nothing → test ≡ false → IsInhabited part
some_there part nothing test none says out gone = both_ways test out (says.1 (λ i h. absurd (both_ways (has part i) (gone i) h)))

pub none_there : (part nothing : ℕ) (test : Bool) → ((i : ℕ) → has nothing i ≡ false) → IsTrue test ↔ IsWithin part nothing → test ≡ true → (i : ℕ) → has part i ≡ false
none_there part nothing test none says inn i = elim (cases_Bool (has part i)) [
  | inl here ↦ absurd (both_ways (has nothing i) (none i) (says.0 inn i here))
  | inr gone ↦ gone
]

-- what is left without one loop has fewer
pub one_fewer : (rest index part left : ℕ) → index < 24 → IsTrue (has rest index) → part ≡ with_index empty index → ((i : ℕ) → has left i ≡ (has rest i && not (has part i))) → count left < count rest
one_fewer rest index part left low inn is minus =
    rest_smaller rest part left
    (subst (λ p. p < 2 ^ 24) (sym is) (with_lt empty index (lit< tt)))
    (λ none. both_ways (has part index) (none index) (ap (λ p. has p index) is ∙ has-with_same empty index low))
    (λ i h. elim (cases_eq i index) [
      | inl same ↦ subst (λ k. IsTrue (has rest k)) (sym same) inn
      | inr other ↦ absurd (both_ways (has empty i) (has-empty i) (sym (ap (λ p. has p i) is ∙ has-with_other empty index i low other) ∙ h))
    ])
    minus

pub within_minus : (rest part left : ℕ) → ((i : ℕ) → has left i ≡ (has rest i && not (has part i))) → IsWithin left rest
within_minus rest part left minus i h = (and_parts (has rest i) (not (has part i)) (sym (minus i) ∙ h)).0
