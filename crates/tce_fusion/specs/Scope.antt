-- Scopes of indexes in a fused tree, legality, and the standard loop orders.
use Rattle.std.specs.Prelude.{◌≡◌, ◌⊎◌, ℕ, ◌-◌, ◌<◌, ◌||◌, not, Bool, true, false, IsTrue, List}
use Rattle.std.specs.List.{list_all, range_with_len, count_by, AllPairs}
use Rattle.tce_space.specs.IndexSet.{has}
use Rattle.tce_tree.specs.ContractionTree.{ContractionTree, operations, node_loops, in_subtree}
use Rattle.tce_tree.specs.Fusion.{fused_at}

-- exactly one of two tests holds
abbrev pub differ : Bool → Bool → Bool
differ true b = not b
differ false b = b

-- the edge above `u` is on the path between `v` and `w`: one of the two is in the subtree of `u`, and the other is not
unfoldable pub on_path : ContractionTree → ℕ → ℕ → ℕ → Bool
on_path tree u v w = differ (in_subtree tree u v) (in_subtree tree u w)

-- the scope of the index `i` at node `v`: the nodes `w` such that each edge between `v` and `w` fuses `i`
unfoldable pub scope : ContractionTree → List ℕ → ℕ → ℕ → ℕ → Bool
scope tree fusion i v w =
    list_all (λ u. not (on_path tree u v w) || has (fused_at fusion u) i) (range_with_len 0 (operations tree - 1))

-- each node of `s` is one of `t`, among the nodes below `count`
abbrev pub IsSubset : ℕ → (ℕ → Bool) → (ℕ → Bool) → Type 0
IsSubset count s t = (w : ℕ) → w < count → IsTrue (s w) → IsTrue (t w)

abbrev pub AreDisjoint : ℕ → (ℕ → Bool) → (ℕ → Bool) → Type 0
AreDisjoint count s t = (w : ℕ) → w < count → IsTrue (s w) → IsTrue (t w) → ⊥

-- any two scopes are disjoint, or one contains the other
abbrev pub IsLegal : ContractionTree → List ℕ → Type 0
IsLegal tree fusion =
    (v w i j : ℕ) → v < operations tree → w < operations tree
    → IsTrue (has (node_loops tree v) i) → IsTrue (has (node_loops tree w) j)
    → AreDisjoint (operations tree) (scope tree fusion i v) (scope tree fusion j w)
    ⊎ (IsSubset (operations tree) (scope tree fusion i v) (scope tree fusion j w)
    ⊎ IsSubset (operations tree) (scope tree fusion j w) (scope tree fusion i v))

-- two loops of node `v` have scopes of which neither contains the other
pub record IsIllegalAt (tree : ContractionTree) (fusion : List ℕ) (v : ℕ) : Type 0 where
  pub first : ℕ
  pub second : ℕ
  pub first_is : IsTrue (has (node_loops tree v) first)
  pub second_is : IsTrue (has (node_loops tree v) second)
  pub not_within : IsSubset (operations tree) (scope tree fusion first v) (scope tree fusion second v) → ⊥
  pub not_around : IsSubset (operations tree) (scope tree fusion second v) (scope tree fusion first v) → ⊥

-- how many nodes the scope has
unfoldable pub scope_size : ContractionTree → List ℕ → ℕ → ℕ → ℕ
scope_size tree fusion i v = count_by (scope tree fusion i v) (range_with_len 0 (operations tree))

-- index `i` stands before `j` by the sizes of their scopes: the greater first, and then by number
abbrev pub StandsBefore : (ℕ → ℕ) → ℕ → ℕ → Type 0
StandsBefore size i j = (size j < size i) ⊎ ((size i ≡ size j) × (i < j))

abbrev pub Precedes : ContractionTree → List ℕ → ℕ → ℕ → ℕ → Type 0
Precedes tree fusion v = StandsBefore (λ i. scope_size tree fusion i v)

-- the order of node `v` goes by the sizes of the scopes at `v`
abbrev pub IsStandardAt : ContractionTree → List ℕ → ℕ → List ℕ → Type 0
IsStandardAt tree fusion v order = AllPairs (Precedes tree fusion v) order

-- no node below `v` has loops whose scopes cross
abbrev pub NoneIllegalBelow : ContractionTree → List ℕ → ℕ → Type 0
NoneIllegalBelow tree fusion v = (w : ℕ) → w < v → IsIllegalAt tree fusion w → ⊥
