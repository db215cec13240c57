-- What nodes and entries of the code stand for.
use Rattle.std.specs.Prelude.{◌≡◌, ⊤, ℕ, ◌<◌, List, [], ◌∷◌, ◌++◌, length, map, fold, slice_index_or}
use Rattle.std.specs.List.{All, range_with_len}
use Rattle.tce_space.specs.IndexSet.{has}
use Rattle.tce_tree.specs.ContractionTree.{ContractionTree, leaf, binary, sum, multiply}
use Rattle.tce_tree.specs.WellFormed.{among}
use Rattle.tce_einsum.specs.declared.entries.Node.{Node}
use Rattle.tce_einsum.specs.declared.entries.Node.TheVariants.{Operand, Product, Sum}
use Rattle.tce_einsum.specs.declared.entries.Entry.{Entry}
use Rattle.tce_einsum.specs.declared.entries.Entries.{Entries}
use Rattle.tce_einsum.specs.declared.entries.KeptLabels.{KeptLabels}
use Rattle.tce_einsum.specs.Entries as list
use Rattle.tce_einsum.specs.Entries.{is_free, entry_at}

-- the tree of a node behind nodes of these trees
abbrev pub tree_of_node : List ContractionTree → Node → ContractionTree
tree_of_node ts (Operand number labels) = leaf number labels.items
tree_of_node ts (Product left right) = binary multiply (entry_at ts left) (entry_at ts right)
tree_of_node ts (Sum labels operand) = sum labels.items (entry_at ts operand)

abbrev pub with_node : List ContractionTree → Node → List ContractionTree
with_node ts node = ts ++ tree_of_node ts node ∷ []

abbrev pub trees_of : List Node → List ContractionTree
trees_of nodes = fold with_node [] nodes

-- the tree of an entry
abbrev pub tree_in : List Node → Entry → ContractionTree
tree_in nodes entry = entry_at (trees_of nodes) entry.node

abbrev pub trees_in : Entries → List ContractionTree
trees_in es = map (tree_in es.nodes.items) es.entries.items

-- the node of an entry is there, and its labels are those that are free in its tree
pub record IsEntry (nodes : List Node) (entry : Entry) : Type 0 where
  pub inside : entry.node < length nodes
  pub free : (i : ℕ) → has entry.free.bits i ≡ is_free (tree_in nodes entry) i

-- the nodes that a node at this place names stand in front of it
abbrev pub IsBehind : ℕ → Node → Type 0
IsBehind place (Operand number labels) = ⊤
IsBehind place (Product left right) = (left < place) × (right < place)
IsBehind place (Sum labels operand) = operand < place

abbrev pub AreOrdered : List Node → Type 0
AreOrdered nodes = (place : ℕ) (otherwise : Node) → place < length nodes → IsBehind place (slice_index_or nodes place otherwise)

pub record AreEntries (es : Entries) : Type 0 where
  pub all : All (IsEntry es.nodes.items) es.entries.items
  pub ordered : AreOrdered es.nodes.items

-- the entries of some nodes are entries of others, with the same trees; and nodes stay in order
pub record Keeps (before after : List Node) : Type 0 where
  pub entries : (entry : Entry) → IsEntry before entry → IsEntry after entry × (tree_in after entry ≡ tree_in before entry)
  pub ordered : AreOrdered before → AreOrdered after

-- so many labels, and those of the output
pub record AreKept (kept : KeptLabels) (ls : list.Labels) : Type 0 where
  pub all : ls.all ≡ range_with_len 0 kept.count
  pub output : (i : ℕ) → has kept.output.bits i ≡ among ls.output i
