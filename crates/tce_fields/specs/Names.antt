-- Indexes by their names.
use Rattle.std.specs.Prelude.{◌≡◌, ℕ, ◌<◌, List, map, length}
use Rattle.std.specs.List.{All}
use Rattle.tce_space.specs.IndexSet.{IsIndexSet, members}
use Rattle.tce_space.specs.Space.{IndexSpace, index_at}
use Rattle.tce_fields.specs.Fields.{listed}

abbrev pub names_of : IndexSpace → List ℕ → List (List ℕ)
names_of space indexes = map (λ i. (index_at space i).name) indexes

-- indexes in their sequence
abbrev pub index_list : IndexSpace → List ℕ → List ℕ
index_list space indexes = listed (names_of space indexes)

-- the declared index with this name
pub record IsNamed (space : IndexSpace) (name : List ℕ) (index : ℕ) : Type 0 where
  pub declared : index < length space.indexes
  pub name_is : (index_at space index).name ≡ name

-- the declared indexes with these names, in their sequence
pub record AreNamed (space : IndexSpace) (names : List (List ℕ)) (indexes : List ℕ) : Type 0 where
  pub declared : All (λ i. i < length space.indexes) indexes
  pub names_are : names ≡ names_of space indexes

-- the set of the indexes with these names, which stand in order of declaration
pub record IsSetNamed (space : IndexSpace) (names : List (List ℕ)) (set : ℕ) : Type 0 where
  pub is_set : IsIndexSet set
  pub named : AreNamed space names (members set)
