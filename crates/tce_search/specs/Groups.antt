-- Groups of candidates by upper parts of the outer loops.
use Rattle.std.specs.Prelude.{◌≡◌, ◌⊎◌, ℕ, ◌+◌, ◌-◌, ◌*◌, ◌<◌, ◌≤◌, ◌%◌, List, [], length, slice_index_or}
use Rattle.std.specs.List.{All, Any, Contains}
use Rattle.std.specs.List.Sorted.{IsNonDecreasingBy}
use Rattle.tce_space.specs.IndexSet.{IsWithin}
use Rattle.tce_fusion.specs.Relation.{Relation, above}
use Rattle.tce_search.specs.declared.candidate.Candidate.{Candidate}
use Rattle.tce_search.specs.declared.groups.Entry.{Entry}
use Rattle.tce_search.specs.Candidates.{Stands}
use Rattle.tce_search.specs.Parts.{IsUpperPart, AreMarksOf}

-- candidates that are compared on outer loops
pub record Listed : Type 0 where
  pub outer : ℕ
  pub candidates : List Candidate

-- the first of two candidates does not stand for the state of the second
abbrev pub LeavesOpen : ℕ → Candidate → Candidate → Type 0
LeavesOpen outer x y = Stands outer (above y.row.classes) y.row.cost x → ⊥

-- the key of three sets of loops
abbrev pub key_of : ℕ → ℕ → ℕ → ℕ
key_of part under third = (part * 1021 + under) * 1021 + third

-- the entries of the group of a key
abbrev pub group_of : List (List Entry) → ℕ → List Entry
group_of groups key = slice_index_or groups (key % length groups) []

-- none of the entries costs more than a later one
abbrev pub AreByCost : List Entry → Type 0
AreByCost entries = IsNonDecreasingBy (λ entry. entry.cost) entries

-- there are groups, whose entries go by cost, and for each a cost that none of its entries is below
pub record HaveLeasts (groups : List (List Entry)) (leasts : List ℕ) : Type 0 where
  pub some : 0 < length groups
  pub each : length leasts ≡ length groups
  pub order : (k : ℕ) → AreByCost (slice_index_or groups k [])
  pub least : (k : ℕ) (entry : Entry) → Contains (slice_index_or groups k []) entry → slice_index_or leasts k 0 ≤ entry.cost

-- the entry and the old ones are the new ones, which go by cost
pub record ArePut (old : List Entry) (entry : Entry) (new : List Entry) : Type 0 where
  pub has : Contains new entry
  pub kept : (e : Entry) → Contains old e → Contains new e
  pub origin : (e : Entry) → Contains new e → Contains old e ⊎ (entry ≡ e)
  pub order : AreByCost new

-- three of the parts fall as numbers, or end in empty ones
pub record AreFalling (parts : List ℕ) (part under third : ℕ) : Type 0 where
  pub first : Contains parts part
  pub second : Contains parts under
  pub last : Contains parts third
  pub below : under ≤ part - 1
  pub lowest : third ≤ under - 1

-- the candidate has an entry in the group of three of its upper parts, with the marks of some of them
pub record IsEntered (outer : ℕ) (groups : List (List Entry)) (place : ℕ) (candidate : Candidate) : Type 0 where
  pub parts : List ℕ
  pub part : ℕ
  pub under : ℕ
  pub third : ℕ
  pub marks : ℕ
  pub upper : All (IsUpperPart outer (above candidate.row.classes)) parts
  pub falling : AreFalling parts part under third
  pub marked : AreMarksOf parts marks
  pub entered : Contains (group_of groups (key_of part under third)) (record { cost = candidate.row.cost; place = place; marks = marks })

-- so does each
abbrev pub AreEntered : ℕ → List (List Entry) → List Candidate → Type 0
AreEntered outer groups candidates =
    (k : ℕ) (d : Candidate) → k < length candidates → IsEntered outer groups k (slice_index_or candidates k d)

-- the candidate at the entry's place stands for a state, the entry's cost is no more, and its marks are among those of the state
pub record StandsAt (outer : ℕ) (relation : Relation) (limit marks : ℕ) (candidates : List Candidate) (entry : Entry) : Type 0 where
  pub cheap : entry.cost ≤ limit
  pub marked : IsWithin entry.marks marks
  pub candidate : Candidate
  pub inside : entry.place < length candidates
  pub is : slice_index_or candidates entry.place candidate ≡ candidate
  pub stands : Stands outer relation limit candidate

-- of the last two of three parts the second is less as a number, or both are empty, and some entry of the group of all three is at a candidate that stands for a state
abbrev pub TripleStands : ℕ → Relation → ℕ → ℕ → List (List Entry) → List Candidate → ℕ → ℕ → ℕ → Type 0
TripleStands outer relation limit marks groups candidates part under third =
    (third ≤ under - 1) × Any (StandsAt outer relation limit marks candidates) (group_of groups (key_of part under third))

-- of two parts the second is less as a number, or both are empty, and they and some of the parts are such three
pub record PairStands (outer : ℕ) (relation : Relation) (limit marks : ℕ) (groups : List (List Entry)) (candidates : List Candidate) (parts : List ℕ) (part under : ℕ) : Type 0 where
  pub below : under ≤ part - 1
  pub some : Any (TripleStands outer relation limit marks groups candidates part under) parts

-- a part and some of the parts are such two
pub record PartStands (outer : ℕ) (relation : Relation) (limit marks : ℕ) (groups : List (List Entry)) (candidates : List Candidate) (parts : List ℕ) (part : ℕ) : Type 0 where
  pub some : Any (PairStands outer relation limit marks groups candidates parts part) parts
