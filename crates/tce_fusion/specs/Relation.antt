-- Relations between indexes that say which one is above which, as lists of classes tell them, and what joins and cuts make of them.
use Rattle.std.specs.Prelude.{◌≡◌, ℕ, Bool, false, not, ◌&&◌, ◌||◌, List, [], ◌∷◌, IsTrue}
use Rattle.tce_space.specs.IndexSet.{has}

-- which index is above which
abbrev pub Relation : Type 0
Relation = ℕ → ℕ → Bool

-- no index is above another
abbrev pub none : Relation
none i j = false

-- by a list of classes, outermost first: `i` has an earlier class than `j`, or `i` has a class and `j` has none
abbrev pub above : List ℕ → Relation
above [] i j = false
above (class ∷ rest) i j = not (has class j) && (has class i || above rest i j)

-- above in one of two relations
abbrev pub joined : Relation → Relation → Relation
joined r s i j = r i j || s i j

-- no two loops are above each other
abbrev pub HasNoConflict : ℕ → Relation → Type 0
HasNoConflict loops r =
    (i j : ℕ) → IsTrue (has loops i) → IsTrue (has loops j) → IsTrue (r i j) → IsTrue (r j i) → ⊥

-- no loop outside the fused set is above a member of it
abbrev pub Allows : ℕ → Relation → ℕ → Type 0
Allows loops r fused =
    (i j : ℕ) → IsTrue (has loops i) → has fused i ≡ false → IsTrue (has fused j) → IsTrue (r i j) → ⊥

-- what is left where a set is fused: its members stand to each other as before, and above all other indexes
abbrev pub cut : ℕ → Relation → Relation
cut fused r i j = has fused i && (not (has fused j) || r i j)

-- each two of the indexes that are above in the first relation are above in the second
abbrev pub IsCoarser : ℕ → Relation → Relation → Type 0
IsCoarser indexes r s =
    (i j : ℕ) → IsTrue (has indexes i) → IsTrue (has indexes j) → IsTrue (r i j) → IsTrue (s i j)
