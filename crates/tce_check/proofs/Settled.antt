-- Steps by which sums of rows are told not to be below a total.
use Rattle.std.proofs.Common.{◌≡◌, ℕ, ◌+◌, ◌<◌, ◌≤◌, ◌⊎◌, List, length, inl, inr, sym, subst, arith}
use Rattle.std.proofs.lemmas.Bool.{cases_eq}
use Rattle.tce_space.specs.IndexSet.{IsWithin}
use Rattle.tce_fusion.specs.Relation.{HasNoConflict}
use Rattle.tce_fusion.specs.Row.{Row, rows_joined}
use Rattle.tce_fusion.specs.StateClasses.{IsInhabited}
use Rattle.tce_check.specs.Kept.{IsUppermost, IsKept, StayKept}
use Rattle.tce_check.specs.Pairs.{AreSettled}
use Rattle.tce_check.specs.declared.pairs.Pairs.{Pairs}
use Rattle.tce_check.proofs.Settling.{by_next, quiet_within}

-- of rows that put no other of the rest above a loop
abbrev pub SettledBy : Pairs → ℕ → ℕ → List ℕ → ℕ → List ℕ → ℕ → Type 0
SettledBy pairs rest index lefts left_count rights right_count =
    (x y : Row) → IsUppermost rest x index → IsUppermost rest y index → IsKept pairs.lefts.now lefts left_count x → IsKept pairs.rights.now rights right_count y
    → HasNoConflict rest (rows_joined x y) → pairs.total ≤ x.cost + y.cost

-- where it is so for each loop of the rest, it is so
pub settled_by_all : (pairs : Pairs) (rest : ℕ) (lefts rights : List ℕ) (m n : ℕ) → IsInhabited rest → ((i : ℕ) → i < 24 → SettledBy pairs rest i lefts m rights n)
    → ((i : ℕ) (x : Row) → IsUppermost rest x i → i < 24) → AreSettled pairs rest lefts m rights n
settled_by_all pairs rest lefts rights m n some each low x y p q quiet =
    by_next rest pairs.total (x.cost + y.cost) x y quiet some (λ i h k. each i (low i x h) x y h k p q quiet)

-- what one side's list is before and after its rows are sifted
pub record IsSifted (rows : List Row) (rest index : ℕ) (old now new : List ℕ) (count few : ℕ) : Type 0 where
  pub old_room : count ≤ length old
  pub now_room : count ≤ length now
  pub before : StayKept count old now
  pub stays : StayKept count now new
  pub front : (row : Row) → IsKept rows new count row → IsUppermost rest row index → IsKept rows new few row

sifted_kept : (rows : List Row) (rest index : ℕ) (old now new : List ℕ) (count few : ℕ) (row : Row) → IsSifted rows rest index old now new count few
    → IsKept rows old count row → IsKept rows new count row
sifted_kept rows rest index old now new count few row is kept =
    is.stays rows count row (omega arith) is.now_room (is.before rows count row (omega arith) is.old_room kept)

-- the rows that put no other of the rest above a loop, where those that are left of them are settled
pub settled_under : (pairs : Pairs) (rest later index : ℕ) (old now new others now' new' : List ℕ) (m few n fewer : ℕ) → IsSifted pairs.lefts.now rest index old now new m few
    → IsSifted pairs.rights.now rest index others now' new' n fewer → IsWithin later rest → AreSettled pairs later new few new' fewer
    → SettledBy pairs rest index old m others n
settled_under pairs rest later index old now new others now' new' m few n fewer left right within settled x y h k p q quiet =
    settled x y (left.front x (sifted_kept pairs.lefts.now rest index old now new m few x left p) h)
    (right.front y (sifted_kept pairs.rights.now rest index others now' new' n fewer y right q) k)
    (quiet_within rest later x y within quiet)

-- where none is left out, all rows are
pub settled_whole : (pairs : Pairs) (rest later index : ℕ) (old now new others now' new' : List ℕ) (m few n fewer : ℕ) → IsSifted pairs.lefts.now rest index old now new m few
    → IsSifted pairs.rights.now rest index others now' new' n fewer → IsWithin later rest → few ≡ m → fewer ≡ n → AreSettled pairs later new few new' fewer
    → AreSettled pairs rest old m others n
settled_whole pairs rest later index old now new others now' new' m few n fewer left right within all every settled x y p q quiet =
    settled x y (subst (λ k. IsKept pairs.lefts.now new k x) (sym all) (sifted_kept pairs.lefts.now rest index old now new m few x left p))
    (subst (λ k. IsKept pairs.rights.now new' k y) (sym every) (sifted_kept pairs.rights.now rest index others now' new' n fewer y right q))
    (quiet_within rest later x y within quiet)

pub by_index : (P : ℕ → Type 0) (index : ℕ) → ((i : ℕ) → i < index → P i) → P index → (i : ℕ) → i < index + 1 → P i
by_index P index below here i low = elim (cases_eq i index) [
  | inl same ↦ subst P (sym same) here
  | inr other ↦ below i (omega (arith, low, other))
]
