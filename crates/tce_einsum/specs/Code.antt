-- What the values of the code stand for.
use Rattle.std.specs.Prelude.{◌≡◌, ⊤, ℕ, List, map, Option, Result, option_map}
use Rattle.std.specs.declared.option.Option.TheVariants.{Some, None}
use Rattle.std.specs.declared.result.Result.TheVariants.{Ok, Err}
use Rattle.std.specs.Borrow.{Bor}
use Rattle.tce_fields.specs.Reading.{texts}
use Rattle.tce_einsum.specs.Text as text
use Rattle.tce_einsum.specs.Path as path
use Rattle.tce_einsum.specs.declared.path.Item.{Item}
use Rattle.tce_einsum.specs.declared.path.Item.TheVariants.{One, Two}
use Rattle.tce_einsum.specs.Path.{AreItems, IsBadItem}
use Rattle.tce_einsum.specs.declared.fault.EinsumFault.{EinsumFault}
use Rattle.tce_einsum.specs.declared.fault.EinsumFault.TheVariants as faults
use Rattle.tce_einsum.specs.declared.size.Size.{Size}
use Rattle.tce_einsum.specs.declared.text.Einsum.{Einsum}

abbrev pub size : Size → text.Size
size s = record { label = s.label; extent = s.extent.now; edge = option_map (λ (b : Bor (List ℕ)). b.now) s.edge }

abbrev pub sizes : List Size → List text.Size
sizes ss = map size ss

abbrev pub einsum : Einsum → text.Einsum
einsum e = record { operands = texts e.operands.items; output = e.output.now; sizes = sizes e.sizes.items }

-- what a function returned, seen by `view`, is what reading gives, unless memory ran out
abbrev pub Gives : {X Y : Type 0} → (X → Y) → Result X EinsumFault → Option Y → Type 0
Gives view (Ok x) read = read ≡ Some (view x)
Gives view (Err faults.BadText) read = read ≡ None
Gives view (Err faults.Memory) read = ⊤
Gives view (Err fault) read = ⊥

abbrev pub item : Item → path.Item
item (One p) = path.one p
item (Two p q) = path.two p q

abbrev pub items : List Item → List path.Item
items is = map item is

-- the items of these texts, seen by `view`, or the number of the first that is wrong, unless memory ran out
abbrev pub AnswersItems : {X : Type 0} → (X → List path.Item) → ℕ → List (List ℕ) → Result X EinsumFault → Type 0
AnswersItems view n texts (Ok x) = AreItems n texts (view x) 1
AnswersItems view n texts (Err (faults.BadPath k)) = IsBadItem n texts k
AnswersItems view n texts (Err faults.Memory) = ⊤
AnswersItems view n texts (Err fault) = ⊥
