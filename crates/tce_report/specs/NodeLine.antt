-- The line of a node in reports and certificates.
use Rattle.std.specs.Prelude.{◌≡◌, ℕ, ◌+◌, ◌<◌, ◌==◌, if◌then◌else◌, List, ◌++◌, codes, slice_index}
use Rattle.std.specs.Fmt.{decimal}
use Rattle.std.specs.List.Sorted.{IsPermutation}
use Rattle.tce_space.specs.Limits.{cost_limit}
use Rattle.tce_space.specs.IndexSet.{members, empty, IsWithin}
use Rattle.tce_space.specs.Space.{IndexSpace}
use Rattle.tce_tree.specs.ContractionTree.{ContractionTree, operations, node, node_loops, node_dims}
use Rattle.tce_tree.specs.FlatTree.{kind_of}
use Rattle.tce_tree.specs.Fusion.{fused_at, order_at}
use Rattle.tce_tree.specs.Orders.{lists_of}
use Rattle.tce_tree.specs.declared.node.Kind.{Kind}
use Rattle.tce_tree.specs.declared.node.Kind.TheVariants.{Product, Sum, Add, Sub}
use Rattle.tce_nesting.specs.declared.plan.Plan.{Plan}
use Rattle.tce_report.specs.Names.{listed, names_of, index_list}

abbrev pub kind_word : Kind → List ℕ
kind_word Product = codes "product"
kind_word Sum = codes "sum"
kind_word Add = codes "add"
kind_word Sub = codes "sub"

-- a node, what it computes, and the names of its loops, outermost first
unfoldable pub loops_written : ℕ → Kind → List (List ℕ) → List ℕ
loops_written v kind order = codes "node " ++ (decimal v ++ (codes " " ++ (kind_word kind ++ (codes " loops " ++ listed order))))

-- the same, where the loops are indexes
unfoldable pub loops_text : IndexSpace → ℕ → Kind → List ℕ → List ℕ
loops_text space v kind order = loops_written v kind (names_of space order)

-- a set of indexes in order of declaration
unfoldable pub set_text : IndexSpace → ℕ → List ℕ
set_text space set = index_list space (members set)

-- the line of a node whose array has this size with these indexes fused
abbrev pub intermediate_line : IndexSpace → ℕ → Kind → List ℕ → ℕ → ℕ → List ℕ
intermediate_line space v kind order fused size =
    loops_text space v kind order ++ (codes " fused " ++ (set_text space fused ++ (codes " size " ++ decimal size)))

-- the line of the root
abbrev pub result_line : IndexSpace → ℕ → Kind → List ℕ → List ℕ
result_line space v kind order = loops_text space v kind order ++ codes " result"

-- what a plan says of its nodes, each list by the numbers of the nodes, and of the memory of all
pub record Stated : Type 0 where
  pub fusion : List ℕ
  pub orders : List (List ℕ)
  pub sizes : List ℕ
  pub memory : ℕ

abbrev pub stated : Plan → Stated
stated plan = record {
  fusion = plan.fusion.0.items;
  orders = lists_of plan.orders.0.items;
  sizes = plan.sizes.items;
  memory = plan.memory;
}

-- what the line of a node says of it: its loops, outermost first, the indexes that are fused on the edge to its parent, and the size of its array
pub record Said : Type 0 where
  pub order : List ℕ
  pub fused : ℕ
  pub size : ℕ

-- the line of node `v` that says this; that of the root has its loops alone
unfoldable pub line_saying : IndexSpace → ContractionTree → ℕ → Said → List ℕ
line_saying space tree v said =
    if v + 1 == operations tree then result_line space v (kind_of (node tree v)) said.order
    else intermediate_line space v (kind_of (node tree v)) said.order said.fused said.size

-- what a plan says of node `v`
abbrev pub said_of : Stated → ℕ → Said
said_of s v = record { order = order_at s.orders v; fused = fused_at s.fusion v; size = slice_index s.sizes v }

-- the line of node `v`
unfoldable pub node_line : IndexSpace → ContractionTree → Stated → ℕ → List ℕ
node_line space tree s v = line_saying space tree v (said_of s v)

-- a node's loops each once, fused indexes among its dims, a size below the limit of all numbers in lines, and at the root neither
pub record MaySay (tree : ContractionTree) (v : ℕ) (said : Said) : Type 0 where
  pub order : IsPermutation (members (node_loops tree v)) said.order
  pub fused : IsWithin said.fused (node_dims tree v)
  pub size : said.size < cost_limit
  pub root : v + 1 ≡ operations tree → (said.fused ≡ empty) × (said.size ≡ 0)

-- the line is one of node `v` of the tree, and says this
pub record Says (space : IndexSpace) (tree : ContractionTree) (v : ℕ) (line : List ℕ) (said : Said) : Type 0 where
  pub allowed : MaySay tree v said
  pub text_is : line ≡ line_saying space tree v said

-- the end of the line of an intermediate: its fused indexes and the size of its array
abbrev pub fused_text : IndexSpace → ℕ → ℕ → List ℕ
fused_text space fused size = codes " fused " ++ (set_text space fused ++ (codes " size " ++ decimal size))
