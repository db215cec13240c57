-- What the line of a node says, and the text of a set, is one thing.
use Rattle.std.proofs.Common.{◌≡◌, ℕ, suc, ◌+◌, ◌<◌, ◌==◌, Bool, true, false, List, [], ◌∷◌, length, get_or, drop, if◌then◌else◌, Option, Some, None, refl, ap, ap₂, sym, ◌∙◌, subst, arith}
use Rattle.std.specs.Fmt.{decimal}
use Rattle.std.specs.List.{All, Contains, list_all}
use Rattle.std.proofs.lemmas.Option.{same_Some}
use Rattle.tce_space.specs.IndexSet.{IsIndexSet, members}
use Rattle.tce_space.specs.Name.{is_name}
use Rattle.tce_space.specs.Space.{IndexSpace, IsSpace, IsDeclared, index_at, index_number}
use Rattle.tce_space.proofs.Members.{sets_are_their_members}
use Rattle.tce_fields.specs.Fields.{AreParts, listed}
use Rattle.tce_fields.specs.Names.{names_of}
use Rattle.tce_fields.proofs.Listing.{names_lack, only_none}
use Rattle.tce_fields.proofs.Named.{index_found}
use Rattle.tce_fields.proofs.Splitting.{parts_at, split_joined}
use Rattle.tce_tree.specs.ContractionTree.{ContractionTree, operations, node_dims}
use Rattle.tce_tree.specs.FlatTree.{IsTree}
use Rattle.tce_tree.specs.WellFormed.{IsDeclaredTree}
use Rattle.tce_tree.proofs.Members.{node_dims_lt}
use Rattle.tce_fusion.proofs.StateChoices.{parts_are_index_sets}
use Rattle.tce_report.specs.NodeForm.{ArrayForm}
use Rattle.tce_report.specs.NodeLine.{Said, MaySay, line_saying, set_text}
use Rattle.tce_report.specs.ReadLine.{form_saying}
use Rattle.tce_report.specs.Fields.{form_fields, array_fields}
use Rattle.tce_report.proofs.NodeLineForms.{form_parts}
use Rattle.tce_report.proofs.Reading.{order_is_declared, fused_is_declared, saying_form, saying_text, names_named}
use Rattle.tce_cert.proofs.StatedRows.{decimal_once}
use Rattle.tce_cert.proofs.Sets.{members_declared}

-- Names tell indexes apart.

index_once : (space : IndexSpace) (x y : ℕ) → IsSpace space → x < length space.indexes → y < length space.indexes → (index_at space x).name ≡ (index_at space y).name → x ≡ y
index_once space x y is dx dy e =
    let n = (index_at space x).name in
    let found = index_found space n n (index_number space n) is refl refl in
    same_Some x y (sym ((found x).1 (record { declared = dx; name_is = refl })) ∙ (found y).1 (record { declared = dy; name_is = sym e }))

names_once : (space : IndexSpace) (xs ys : List ℕ) → IsSpace space → All (λ i. i < length space.indexes) xs → All (λ i. i < length space.indexes) ys → names_of space xs ≡ names_of space ys → xs ≡ ys
names_once space [] [] is a b e = refl
names_once space [] (y ∷ ys) is a b e = absurd (cc)
names_once space (x ∷ xs) [] is a b e = absurd (cc)
names_once space (x ∷ xs) (y ∷ ys) is a b e =
    let here : (index_at space x).name ≡ (index_at space y).name = cc in
    let rest : names_of space xs ≡ names_of space ys = cc in
    ap₂ (λ i is. i ∷ is) (index_once space x y is (a 0 0 (omega arith)) (b 0 0 (omega arith)) here)
    (names_once space xs ys is (λ k d l. a (suc k) d (omega arith)) (λ k d l. b (suc k) d (omega arith)) rest)

listed_once : (ns ms : List (List ℕ)) → list_all is_name ns ≡ true → list_all is_name ms ≡ true → listed ns ≡ listed ms → ns ≡ ms
listed_once [] ms a b e = sym (only_none ms b (sym e))
listed_once (n ∷ ns) [] a b e = only_none (n ∷ ns) a e
listed_once (n ∷ ns) (m ∷ ms) a b e =
    sym (split_joined 44 (n ∷ ns) (λ f. cc) (names_lack 44 (n ∷ ns) refl a)) ∙ ap (parts_at 44) e ∙ split_joined 44 (m ∷ ms) (λ f. cc) (names_lack 44 (m ∷ ms) refl b)

-- lists of declared indexes by their text
indexes_once : (space : IndexSpace) (xs ys : List ℕ) → IsSpace space → All (λ i. i < length space.indexes) xs → All (λ i. i < length space.indexes) ys
    → listed (names_of space xs) ≡ listed (names_of space ys) → xs ≡ ys
indexes_once space xs ys is a b e = names_once space xs ys is a b (listed_once (names_of space xs) (names_of space ys) (names_named space xs is a) (names_named space ys is b) e)

members_once : (a b : ℕ) → IsIndexSet a → IsIndexSet b → members a ≡ members b → a ≡ b
members_once a b p q e =
    sets_are_their_members.same a b p q (λ i. (
      (λ h. (sets_are_their_members.listed b i q).0 (subst (λ l. Contains l i) e ((sets_are_their_members.listed a i p).1 h))),
      (λ h. (sets_are_their_members.listed a i p).0 (subst (λ l. Contains l i) (sym e) ((sets_are_their_members.listed b i q).1 h))),
    ))

pub set_once : (space : IndexSpace) (a b : ℕ) → IsSpace space → IsDeclared space a → IsDeclared space b → IsIndexSet a → IsIndexSet b → set_text space a ≡ set_text space b → a ≡ b
unfolding set_text
set_once space a b is da db p q e = members_once a b p q (indexes_once space (members a) (members b) is (members_declared space a da) (members_declared space b db) e)

-- Lines of nodes.

pub parts_once : (c limit : ℕ) (text : List ℕ) (ps qs : List (List ℕ)) → AreParts c limit text ps → AreParts c limit text qs → ps ≡ qs
parts_once c limit text ps qs a b = sym (split_joined c ps a.some a.apart) ∙ ap (parts_at c) (sym a.text_is ∙ b.text_is) ∙ split_joined c qs b.some b.apart

-- the array of a node that has one
abbrev array_of : Bool → ArrayForm → Option ArrayForm
array_of last array = if last then None else Some array

arrays_once : (last : Bool) (x y : ArrayForm) → last ≡ false → array_fields (array_of last x) ≡ array_fields (array_of last y) → (listed x.fused ≡ listed y.fused) × (decimal x.size ≡ decimal y.size)
arrays_once false x y inner e = (ap (λ l. get_or l 1 []) e, ap (λ l. get_or l 3 []) e)
arrays_once true x y inner e = absurd (cc)

record Line (space : IndexSpace) (tree : ContractionTree) (v : ℕ) : Type 0 where
  is_space : IsSpace space
  is_tree : IsTree tree
  declared : IsDeclaredTree space tree
  inside : v < operations tree

fields_once : (space : IndexSpace) (tree : ContractionTree) (v : ℕ) (s t : Said) → Line space tree v → MaySay tree v s → MaySay tree v t → line_saying space tree v s ≡ line_saying space tree v t
    → form_fields (form_saying space tree v s) ≡ form_fields (form_saying space tree v t)
fields_once space tree v s t l p q e =
    parts_once 32 9 (line_saying space tree v s) _ _
    (form_parts (form_saying space tree v s) (line_saying space tree v s) (saying_form space tree v s l.is_space l.is_tree l.declared l.inside p) (sym (saying_text space tree v s)))
    (form_parts (form_saying space tree v t) (line_saying space tree v s) (saying_form space tree v t l.is_space l.is_tree l.declared l.inside q) (e ∙ sym (saying_text space tree v t)))

order_once : (space : IndexSpace) (tree : ContractionTree) (v : ℕ) (s t : Said) → Line space tree v → MaySay tree v s → MaySay tree v t → form_fields (form_saying space tree v s) ≡ form_fields (form_saying space tree v t)
    → s.order ≡ t.order
order_once space tree v s t l p q e =
    indexes_once space s.order t.order l.is_space
    (order_is_declared space tree v s.order l.is_space.index_limit l.declared l.inside p.order)
    (order_is_declared space tree v t.order l.is_space.index_limit l.declared l.inside q.order)
    (ap (λ fs. get_or fs 4 []) e)

said_same : (s t : Said) → s.order ≡ t.order → s.fused ≡ t.fused → s.size ≡ t.size → s ≡ t
said_same s t a b c = λ i. record { order = a i; fused = b i; size = c i }

-- the line of a node says one thing
pub said_once : (space : IndexSpace) (tree : ContractionTree) (v : ℕ) (s t : Said) → IsSpace space → IsTree tree → IsDeclaredTree space tree → v < operations tree
    → MaySay tree v s → MaySay tree v t → line_saying space tree v s ≡ line_saying space tree v t → s ≡ t
said_once space tree v s t is_space is_tree declared inside p q e = by_place (v + 1 == operations tree) refl
  where
    l : Line space tree v
    l = record { is_space = is_space; is_tree = is_tree; declared = declared; inside = inside }

    fields : form_fields (form_saying space tree v s) ≡ form_fields (form_saying space tree v t)
    fields = fields_once space tree v s t l p q e

    fused_set : (u : Said) → MaySay tree v u → IsIndexSet u.fused
    fused_set u may = parts_are_index_sets u.fused (node_dims tree v) (node_dims_lt tree v) may.fused

    by_place : (last : Bool) → (v + 1 == operations tree) ≡ last → s ≡ t
    by_place true root =
        let here : v + 1 ≡ operations tree = search arith in
        let a = p.root here in
        let b = q.root here in
        said_same s t (order_once space tree v s t l p q fields) (a.0 ∙ sym b.0) (a.1 ∙ sym b.1)
    by_place false inner =
        let arrays = arrays_once (v + 1 == operations tree) (record { fused = names_of space (members s.fused); size = s.size }) (record { fused = names_of space (members t.fused); size = t.size }) inner (ap (drop 5) fields) in
        said_same s t (order_once space tree v s t l p q fields)
        (members_once s.fused t.fused (fused_set s p) (fused_set t q)
        (indexes_once space (members s.fused) (members t.fused) is_space
        (fused_is_declared space tree v s.fused is_space.index_limit declared inside p.fused)
        (fused_is_declared space tree v t.fused is_space.index_limit declared inside q.fused) arrays.0))
        (decimal_once s.size t.size p.size q.size arrays.1)
