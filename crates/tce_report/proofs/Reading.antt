-- What a written line says of a node.
use Rattle.std.proofs.Common.{◌≡◌, ℕ, ◌+◌, ◌<◌, ◌≤◌, ◌==◌, ◌^◌, ◌↔◌, if◌then◌else◌, Bool, true, false, List, [], ◌∷◌, ◌++◌, length, get_or, codes, All, Option, Some, None, refl, sym, ap, subst, ◌∙◌, arith, eq-eqb, suc}
use Rattle.std.specs.Fmt.{decimal}
use Rattle.std.proofs.lemmas.Bool.{ne_eqb, false≢true, and_from}
use Rattle.std.proofs.lemmas.List.FromFn.{length-range_with_len}
use Rattle.std.proofs.lemmas.List.Sums.{count_by-le-length, length-filter}
use Rattle.std.proofs.lemmas.List.Sorted.{length_permutation}
use Rattle.tce_space.proofs.IndexSetLaws.{has-empty}
use Rattle.tce_fields.specs.Fields.{listed}
use Rattle.std.specs.Borrow.{Bor}
use Rattle.std.specs.List.{list_all, range_with_len}
use Rattle.std.specs.List.Sorted.{IsPermutation}
use Rattle.std.proofs.lemmas.List.{length-map, get_or_default}
use Rattle.std.proofs.lemmas.Option.{none-some, same_Some}
use Rattle.tce_fields.specs.Names.{AreNamed, IsSetNamed}
use Rattle.tce_fields.specs.Reading.{texts}
use Rattle.tce_space.specs.IndexSet.{IsWithin, empty, has, members, count}
use Rattle.tce_space.specs.Name.{is_name}
use Rattle.tce_space.specs.Space.{IndexSpace, IsSpace, index_at, no_index}
use Rattle.tce_fusion.proofs.StateChoices.{parts_are_index_sets}
use Rattle.tce_tree.specs.ContractionTree.{ContractionTree, operations, node, node_dims, node_loops}
use Rattle.tce_tree.specs.FlatTree.{kind_of, IsTree}
use Rattle.tce_tree.specs.WellFormed.{IsDeclaredTree}
use Rattle.tce_tree.proofs.Lists.{index-among}
use Rattle.tce_tree.proofs.Members.{node_loops_lt, node_dims_lt}
use Rattle.tce_tree.proofs.NamedIndexes.{node_loops_declared, node_dims_declared}
use Rattle.tce_tree.proofs.Permutations.{among-permutation, among-members}
use Rattle.tce_report.specs.Names.{names_of}
use Rattle.tce_report.specs.NodeForm.{Form, IsArrayForm, IsForm, form_text, array_text}
use Rattle.tce_report.specs.NodeLine.{Said, MaySay, Says, line_saying, loops_text, loops_written, set_text}
use Rattle.tce_report.specs.ReadLine.{form_saying}
use Rattle.tce_report.proofs.Declared.{filter_passes}

-- the order of a node names declared indexes
pub order_is_declared : (space : IndexSpace) (tree : ContractionTree) (v : ℕ) (order : List ℕ) → length space.indexes ≤ 24 → IsDeclaredTree space tree → v < operations tree
    → IsPermutation (members (node_loops tree v)) order → All (λ i. i < length space.indexes) order
order_is_declared space tree v order few declared inside permutes k d l =
    node_loops_declared space tree v inside few declared (get_or order k d)
    (sym (among-members (node_loops tree v) (get_or order k d) (node_loops_lt tree v))
    ∙ among-permutation (members (node_loops tree v)) order (get_or order k d) permutes
    ∙ index-among order k (get_or order k d) l (get_or_default order k (get_or order k d) d l))

-- and so does a set of its dims
pub fused_is_declared : (space : IndexSpace) (tree : ContractionTree) (v fused : ℕ) → length space.indexes ≤ 24 → IsDeclaredTree space tree → v < operations tree
    → IsWithin fused (node_dims tree v) → All (λ i. i < length space.indexes) (members fused)
unfolding members
fused_is_declared space tree v fused few declared inside within =
    filter_passes (has fused) (λ i. i < length space.indexes) (λ i h. node_dims_declared space tree v inside few declared i (within i h)) (range_with_len 0 24)

-- the order that is read is the one of the names
pub order_found : (space : IndexSpace) (loops : ℕ) (names : List (List ℕ)) (order : List ℕ) → IsPermutation (members loops) order
    → ((value : List ℕ) → (Some order ≡ Some value) ↔ AreNamed space names value) → (value : List ℕ) → (Some order ≡ Some value) ↔ (IsPermutation (members loops) value × AreNamed space names value)
order_found space loops names order permutes exact value = (
  (λ e. (subst (IsPermutation (members loops)) (same_Some order value e) permutes, (exact value).0 e)),
  (λ is. (exact value).1 is.1),
)

-- the answer for a line that says something of a node
abbrev pub Fits : IndexSpace → ContractionTree → ℕ → Form → Said → Type 0
Fits space tree v form s = MaySay tree v s × (form ≡ form_saying space tree v s)

-- what all lines of a node rest on
pub record Over (space : IndexSpace) (tree : ContractionTree) (v : ℕ) : Type 0 where
  pub few : length space.indexes ≤ 24
  pub declared : IsDeclaredTree space tree
  pub inside : v < operations tree

pub order_refused : (space : IndexSpace) (tree : ContractionTree) (v : ℕ) (form : Form) (names : List (List ℕ)) → Over space tree v → form.order ≡ names
    → ((value : List ℕ) → (None ≡ Some value) ↔ (IsPermutation (members (node_loops tree v)) value × AreNamed space names value))
    → (s : Said) → (None ≡ Some s) ↔ Fits space tree v form s
order_refused space tree v form names over is exact s = (
  (λ e. absurd (none-some s e)),
  (λ fits. absurd (none-some s.order ((exact s.order).1 (
    fits.0.order,
    record { declared = order_is_declared space tree v s.order over.few over.declared over.inside fits.0.order; names_are = sym is ∙ ap (λ f. f.order) fits.1 },
  )))),
)

root_form : (space : IndexSpace) (tree : ContractionTree) (v : ℕ) (s : Said) → v + 1 ≡ operations tree → (form_saying space tree v s).array ≡ None
root_form space tree v s root = rw (eq-eqb (v + 1) (operations tree) root) refl

inner_form : (space : IndexSpace) (tree : ContractionTree) (v : ℕ) (s : Said) → (v + 1 ≡ operations tree → ⊥)
    → (form_saying space tree v s).array ≡ Some (record { fused = names_of space (members s.fused); size = s.size })
inner_form space tree v s inner = rw (ne_eqb (v + 1) (operations tree) inner) refl

-- forms with the same parts
same_parts : (f g : Form) → f.node ≡ g.node → f.kind ≡ g.kind → f.order ≡ g.order → f.array ≡ g.array → f ≡ g
same_parts f g node kind order array = λ i. record { node = node i; kind = kind i; order = order i; array = array i }

-- what is read of a node of the tree
pub record Reads (space : IndexSpace) (tree : ContractionTree) (v : ℕ) (form : Form) (names : List (List ℕ)) (order : List ℕ) : Type 0 where
  pub over : Over space tree v
  pub node_is : form.node ≡ v
  pub kind_is : form.kind ≡ kind_of (node tree v)
  pub order_is : form.order ≡ names
  pub exact : (value : List ℕ) → (Some order ≡ Some value) ↔ (IsPermutation (members (node_loops tree v)) value × AreNamed space names value)

order_read : (space : IndexSpace) (tree : ContractionTree) (v : ℕ) (form : Form) (names : List (List ℕ)) (order : List ℕ) (s : Said) → Reads space tree v form names order
    → Fits space tree v form s → order ≡ s.order
order_read space tree v form names order s r fits =
    same_Some order s.order ((r.exact s.order).1 (
      fits.0.order,
      record {
        declared = order_is_declared space tree v s.order r.over.few r.over.declared r.over.inside fits.0.order;
        names_are = sym r.order_is ∙ ap (λ f. f.order) fits.1;
      },
    ))

-- at the root
pub root_found : (space : IndexSpace) (tree : ContractionTree) (v : ℕ) (form : Form) (names : List (List ℕ)) (order : List ℕ) (fused : ℕ) → Reads space tree v form names order
    → v + 1 ≡ operations tree → form.array ≡ None → fused ≡ empty
    → (s : Said) → (Some (record { order = order; fused = fused; size = 0 }) ≡ Some s) ↔ Fits space tree v form s
root_found space tree v form names order fused r root is_array none s = (
  (λ e. subst (Fits space tree v form) (same_Some _ s e) here),
  (λ fits. ap (λ x. Some x) (same fits)),
)
  where
    here : Fits space tree v form (record { order = order; fused = fused; size = 0 })
    here =
        let found = (r.exact order).0 refl in (
          record { order = found.0; fused = λ i h. absurd (false≢true (sym (has-empty i) ∙ ap (λ f. has f i) (sym none) ∙ h)); size = omega arith; root = λ _. (none, refl) },
          same_parts form (form_saying space tree v (record { order = order; fused = fused; size = 0 })) r.node_is r.kind_is (r.order_is ∙ found.1.names_are)
              (is_array ∙ sym (root_form space tree v (record { order = order; fused = fused; size = 0 }) root)),
        )

    same : Fits space tree v form s → record { order = order; fused = fused; size = 0 } ≡ s
    same fits =
        let is_order = order_read space tree v form names order s r fits in
        let rest = fits.0.root root in
        λ i. record { order = is_order i; fused = (none ∙ sym rest.0) i; size = (sym rest.1) i }

-- at the other nodes
array_read : (space : IndexSpace) (tree : ContractionTree) (v : ℕ) (form : Form) (fused_names : List (List ℕ)) (size : ℕ) (s : Said) → Over space tree v → (v + 1 ≡ operations tree → ⊥)
    → form.array ≡ Some (record { fused = fused_names; size = size }) → Fits space tree v form s
    → (IsWithin s.fused (node_dims tree v) × IsSetNamed space fused_names s.fused) × (size ≡ s.size)
array_read space tree v form fused_names size s over inner is_array fits =
    let arrays : record { fused = fused_names; size = size } ≡ record { fused = names_of space (members s.fused); size = s.size } =
    same_Some _ _ (sym is_array ∙ ap (λ f. f.array) fits.1 ∙ inner_form space tree v s inner) in (
      (
        fits.0.fused,
        record {
          is_set = parts_are_index_sets s.fused (node_dims tree v) (node_dims_lt tree v) fits.0.fused;
          named = record {
            declared = fused_is_declared space tree v s.fused over.few over.declared over.inside fits.0.fused;
            names_are = ap (λ a. a.fused) arrays;
          };
        },
      ),
      ap (λ a. a.size) arrays,
    )

pub inner_found : (space : IndexSpace) (tree : ContractionTree) (v : ℕ) (form : Form) (names : List (List ℕ)) (order : List ℕ) (fused_names : List (List ℕ)) (fused size : ℕ)
    → Reads space tree v form names order → (v + 1 ≡ operations tree → ⊥) → form.array ≡ Some (record { fused = fused_names; size = size }) → size < 2 ^ 96
    → ((value : ℕ) → (Some fused ≡ Some value) ↔ (IsWithin value (node_dims tree v) × IsSetNamed space fused_names value))
    → (s : Said) → (Some (record { order = order; fused = fused; size = size }) ≡ Some s) ↔ Fits space tree v form s
inner_found space tree v form names order fused_names fused size r inner is_array small exact s = (
  (λ e. subst (Fits space tree v form) (same_Some _ s e) here),
  (λ fits. ap (λ x. Some x) (same fits)),
)
  where
    here : Fits space tree v form (record { order = order; fused = fused; size = size })
    here =
        let found = (r.exact order).0 refl in
        let set = (exact fused).0 refl in (
          record { order = found.0; fused = set.0; size = small; root = λ root. absurd (inner root) },
          same_parts form (form_saying space tree v (record { order = order; fused = fused; size = size })) r.node_is r.kind_is (r.order_is ∙ found.1.names_are)
              (is_array ∙ ap (λ ns. Some (record { fused = ns; size = size })) set.1.named.names_are
              ∙ sym (inner_form space tree v (record { order = order; fused = fused; size = size }) inner)),
        )

    same : Fits space tree v form s → record { order = order; fused = fused; size = size } ≡ s
    same fits =
        let is_order = order_read space tree v form names order s r fits in
        let array = array_read space tree v form fused_names size s r.over inner is_array fits in
        let is_fused : fused ≡ s.fused = same_Some fused s.fused ((exact s.fused).1 array.0) in
        λ i. record { order = is_order i; fused = is_fused i; size = array.1 i }

pub fused_refused : (space : IndexSpace) (tree : ContractionTree) (v : ℕ) (form : Form) (fused_names : List (List ℕ)) (size : ℕ) → Over space tree v → (v + 1 ≡ operations tree → ⊥)
    → form.array ≡ Some (record { fused = fused_names; size = size })
    → ((value : ℕ) → (None ≡ Some value) ↔ (IsWithin value (node_dims tree v) × IsSetNamed space fused_names value)) → (s : Said) → (None ≡ Some s) ↔ Fits space tree v form s
fused_refused space tree v form fused_names size over inner is_array exact s = (
  (λ e. absurd (none-some s e)),
  (λ fits. absurd (none-some s.fused ((exact s.fused).1 (array_read space tree v form fused_names size s over inner is_array fits).0))),
)

-- the text of the form is the line
pub saying_text : (space : IndexSpace) (tree : ContractionTree) (v : ℕ) (s : Said) → form_text (form_saying space tree v s) ≡ line_saying space tree v s
unfolding line_saying loops_text set_text
saying_text space tree v s = by_test (v + 1 == operations tree)
  where
    by_test : (test : Bool)
        → loops_written v (kind_of (node tree v)) (names_of space s.order) ++ array_text (if test then None else Some (record { fused = names_of space (members s.fused); size = s.size }))
        ≡ (if test then loops_written v (kind_of (node tree v)) (names_of space s.order) ++ codes " result"
        else loops_written v (kind_of (node tree v)) (names_of space s.order) ++ (codes " fused " ++ (listed (names_of space (members s.fused)) ++ (codes " size " ++ decimal s.size))))
    by_test true = refl
    by_test false = refl

few_loops : (tree : ContractionTree) (v : ℕ) → IsTree tree → v < operations tree → length (members (node_loops tree v)) ≤ 10
unfolding count
few_loops tree v is inside = is.few_loops v inside

pub members_few : (set : ℕ) → length (members set) ≤ 24
unfolding members
members_few set = omega (arith, length-filter (has set) (range_with_len 0 24), count_by-le-length (has set) (range_with_len 0 24), length-range_with_len 0 24)

-- declared indexes have names
pub names_named : (space : IndexSpace) (indexes : List ℕ) → IsSpace space → All (λ i. i < length space.indexes) indexes → list_all is_name (names_of space indexes) ≡ true
names_named space [] is all = refl
names_named space (i ∷ indexes) is all =
    and_from (is_name (index_at space i).name) (list_all is_name (names_of space indexes)) (is.indexes i no_index (all 0 0 (omega arith))).0
    (names_named space indexes is (λ k d l. all (suc k) d (omega arith)))

pub saying_form : (space : IndexSpace) (tree : ContractionTree) (v : ℕ) (s : Said) → IsSpace space → IsTree tree → IsDeclaredTree space tree → v < operations tree → MaySay tree v s
    → IsForm (form_saying space tree v s)
saying_form space tree v s is_space is_tree declared inside may = record {
  node = omega (arith, inside, is_tree.limit);
  order = record {
    few = omega (arith, length-map s.order (λ i. (index_at space i).name), length_permutation (members (node_loops tree v)) s.order may.order, loops_few);
    named = names_named space s.order is_space (order_is_declared space tree v s.order is_space.index_limit declared inside may.order);
  };
  array = by_test (v + 1 == operations tree);
}
  where
    loops_few : length (members (node_loops tree v)) ≤ 10
    loops_few = few_loops tree v is_tree inside

    by_test : (test : Bool) → IsArrayForm (if test then None else Some (record { fused = names_of space (members s.fused); size = s.size }))
    by_test true = tt
    by_test false = (
      record {
        few = omega (arith, length-map (members s.fused) (λ i. (index_at space i).name), members_few s.fused);
        named = names_named space (members s.fused) is_space (fused_is_declared space tree v s.fused is_space.index_limit declared inside may.fused);
      },
      may.size,
    )

-- what is said of the node is what the line says
pub line_says : (space : IndexSpace) (tree : ContractionTree) (v : ℕ) (line : List ℕ) (form : Form) (answer : Option Said) → IsSpace space → IsTree tree → IsDeclaredTree space tree → v < operations tree
    → ((value : Form) → (Some form ≡ Some value) ↔ (IsForm value × (line ≡ form_text value))) → ((s : Said) → (answer ≡ Some s) ↔ Fits space tree v form s)
    → (s : Said) → (answer ≡ Some s) ↔ Says space tree v line s
line_says space tree v line form answer is_space is_tree declared inside forms fits s = (
  (λ e.
      let is = (fits s).0 e in
      record { allowed = is.0; text_is = ((forms form).0 refl).1 ∙ ap form_text is.1 ∙ saying_text space tree v s }),
  (λ says.
      (fits s).1 (
        says.allowed,
        same_Some form (form_saying space tree v s)
            ((forms (form_saying space tree v s)).1 (saying_form space tree v s is_space is_tree declared inside says.allowed, says.text_is ∙ sym (saying_text space tree v s))),
      )),
)

pub no_line_says : (space : IndexSpace) (tree : ContractionTree) (v : ℕ) (line : List ℕ) → IsSpace space → IsTree tree → IsDeclaredTree space tree → v < operations tree
    → ((value : Form) → (None ≡ Some value) ↔ (IsForm value × (line ≡ form_text value))) → (s : Said) → (None ≡ Some s) ↔ Says space tree v line s
no_line_says space tree v line is_space is_tree declared inside forms s = (
  (λ e. absurd (none-some s e)),
  (λ says.
      absurd (none-some (form_saying space tree v s)
      ((forms (form_saying space tree v s)).1 (saying_form space tree v s is_space is_tree declared inside says.allowed, says.text_is ∙ sym (saying_text space tree v s))))),
)

-- an answer for equal loops and names
pub order_exact : (space : IndexSpace) (answer : Option (List ℕ)) (loops all : ℕ) (names listed : List (Bor (List ℕ))) → loops ≡ all → names ≡ listed
    → ((value : List ℕ) → (answer ≡ Some value) ↔ (IsPermutation (members loops) value × AreNamed space (texts names) value))
    → (value : List ℕ) → (answer ≡ Some value) ↔ (IsPermutation (members all) value × AreNamed space (texts listed) value)
order_exact space answer loops all names listed e f exact value =
    subst (λ l. (answer ≡ Some value) ↔ (IsPermutation (members l) value × AreNamed space (texts listed) value)) e
    (subst (λ ns. (answer ≡ Some value) ↔ (IsPermutation (members loops) value × AreNamed space (texts ns) value)) f (exact value))

pub fused_exact : (space : IndexSpace) (answer : Option ℕ) (dims all : ℕ) (names listed : List (Bor (List ℕ))) → dims ≡ all → names ≡ listed
    → ((value : ℕ) → (answer ≡ Some value) ↔ (IsWithin value dims × IsSetNamed space (texts names) value))
    → (value : ℕ) → (answer ≡ Some value) ↔ (IsWithin value all × IsSetNamed space (texts listed) value)
fused_exact space answer dims all names listed e f exact value =
    subst (λ d. (answer ≡ Some value) ↔ (IsWithin value d × IsSetNamed space (texts listed) value)) e
    (subst (λ ns. (answer ≡ Some value) ↔ (IsWithin value dims × IsSetNamed space (texts ns) value)) f (exact value))
