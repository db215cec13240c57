-- Lines without a fault leave declarations with the rules of declarations.
use Rattle.std.proofs.Common.{◌≡◌, ℕ, ◌+◌, ◌<◌, ◌≤◌, ◌^◌, ◌&&◌, not, true, false, IsTrue, List, [], ◌∷◌, ◌++◌, length, map, get_or, Option, Some, None, is_some, refl, sym, ap, subst, ◌∙◌, arith, nat_lt, nat_le, append_assoc, append-nil, length-append, ◌||◌}
use Rattle.std.specs.Prelude.{is_none, option_map, position}
use Rattle.std.specs.List.{AllByRecursion, IsDistinct, list_any}
use Rattle.std.specs.Str.{bytes_eq}
use Rattle.std.proofs.lemmas.Cmp.{nat_list_eq_equiv}
use Rattle.std.proofs.lemmas.Bool.Decides.{nat_tests}
use Rattle.std.proofs.lemmas.Map.Keys.{IsDistinct-push}
use Rattle.std.proofs.lemmas.List.{length-map, map-append, get_or_append_left}
use Rattle.std.proofs.lemmas.List.Elements.{All-push, All-from_recursion, recursion_from_All}
use Rattle.std.proofs.lemmas.Bool.{and_parts}
use Rattle.tce_space.specs.Name.{is_name}
use Rattle.tce_space.specs.Space.{Range, Index, IndexSpace, IsRange, range_number, no_range, tiling_of}
use Rattle.tce_space.specs.Tiling.{Tiling, tile_words, padded_words}
use Rattle.tce_space.proofs.Spaces.{starts, name_len}
use Rattle.tce_grammar.specs.Grammar.{Statement, AreNames, range, index, declaration, formula}
use Rattle.tce_grammar.proofs.Chains.{map_none}
use Rattle.tce_grammar.proofs.CanonicalLines.{all_joined}
use Rattle.tce_spec.specs.Declarations.{Declarations, IsDeclarations, IsTensor, Tensor, nothing_declared}
use Rattle.tce_spec.specs.DeclarationLines.{HasNames, statement_fault, with_statement, range_fault, index_fault, tensor_fault, with_range, with_indexes, with_tensor, index_names, twice_after, number_of_range, numbers_of_ranges}
use Rattle.tce_spec.specs.Faults.{fault_if, name_twice, unknown_name, bad_number, limit_passed, range_count, index_count}
use Rattle.tce_spec.specs.Numbers.{value_of, is_range_number, is_range_size, leads_with_zero, edge_of}
use Rattle.tce_spec.proofs.DeclaredNames.{some_if_any}
use Rattle.tce_spec.proofs.Keeping.{Faultless, faultless, numbers_declared, not_faulty, at_most, less_than, number_known}
use Rattle.tce_spec.proofs.Nothing.{none_or, none_found}
use Rattle.tce_spec.proofs.FormulaParts.{unfaulted}
use Rattle.tce_spec.proofs.SpaceNames.{of_not_and}
use Rattle.tce_spec.proofs.Heads.{group_names}

-- a name that is not found stands in no list of names
unlisted : {A : Type 0} (name : A → List ℕ) (xs : List A) (n : List ℕ) → is_some (position (λ (x : A). bytes_eq (name x) n) xs) ≡ false → list_any (bytes_eq n) (map name xs) ≡ false
unlisted {A} name xs n new = flipped xs ∙ sym (some_if_any (λ (x : A). bytes_eq (name x) n) xs) ∙ new
  where
    flipped : (ys : List A) → list_any (bytes_eq n) (map name ys) ≡ list_any (λ (x : A). bytes_eq (name x) n) ys
    flipped [] = refl
    flipped (y ∷ ys) = λ i. nat_list_eq_equiv.symm n (name y) i || flipped ys i

one_more : {A : Type 0} (name : A → List ℕ) (xs : List A) (x : A) → IsDistinct bytes_eq (map name xs) → is_some (position (λ (y : A). bytes_eq (name y) (name x)) xs) ≡ false
    → IsDistinct bytes_eq (map name (xs ++ x ∷ []))
one_more name xs x distinct new =
    subst (IsDistinct bytes_eq) (sym (map-append name xs (x ∷ []))) (IsDistinct-push nat_list_eq_equiv (map name xs) (name x) distinct (unlisted name xs (name x) new))

-- names of which none stands twice
several_more : (earlier names : List (List ℕ)) → IsDistinct bytes_eq earlier → twice_after earlier names ≡ None → IsDistinct bytes_eq (earlier ++ names)
several_more earlier [] distinct once = subst (IsDistinct bytes_eq) (sym (append-nil earlier)) distinct
several_more earlier (n ∷ ns) distinct once =
    let parts = none_found (list_any (bytes_eq n) earlier) n (twice_after (earlier ++ n ∷ []) ns) once in
    let later = several_more (earlier ++ n ∷ []) ns (IsDistinct-push nat_list_eq_equiv earlier n distinct parts.0) parts.1 in
    subst (IsDistinct bytes_eq) (append_assoc earlier (n ∷ []) ns) later

-- ranges

abbrev IsSized : ℕ → ℕ → Type 0
IsSized extent edge = (0 < extent) × (extent < 2 ^ 32) × (0 < edge) × (edge ≤ extent)

number_sized : (digits : List ℕ) → is_range_number digits ≡ true → (0 < value_of digits) × (value_of digits < 2 ^ 32)
number_sized digits h =
    let outer = and_parts (not (leads_with_zero digits) && nat_lt 0 (value_of digits)) (nat_lt (value_of digits) (2 ^ 32)) h in
    let inner = of_not_and (leads_with_zero digits) (nat_lt 0 (value_of digits)) outer.0 in
    (below 0 (value_of digits) inner.1, below (value_of digits) (2 ^ 32) outer.1)
  where
    below : (a b : ℕ) → nat_lt a b ≡ true → a < b
    below a b h = grind (arith, nat_tests)

sized : (extent : List ℕ) (edge : Option (List ℕ)) → is_range_size extent edge ≡ true → IsSized (value_of extent) (edge_of edge)
sized extent None h =
    let is = number_sized extent h in
    (is.0, is.1, omega arith, omega (arith, is.0))
sized extent (Some edge) h =
    let outer = and_parts (is_range_number extent) (is_range_number edge && nat_le (value_of edge) (value_of extent)) h in
    let inner = and_parts (is_range_number edge) (nat_le (value_of edge) (value_of extent)) outer.1 in
    let is = number_sized extent outer.0 in
    (is.0, is.1, (number_sized edge inner.0).0, most (value_of edge) (value_of extent) inner.1)
  where
    most : (a b : ℕ) → nat_le a b ≡ true → a ≤ b
    most a b h = grind (arith, nat_tests)

-- further ranges leave the shapes of tensors
same_along : {X : Type 0} (f : Range → X) (ranges more : List Range) (rs : List ℕ) → AllByRecursion (λ r. r < length ranges) rs
    → map (λ r. f (get_or (ranges ++ more) r no_range)) rs ≡ map (λ r. f (get_or ranges r no_range)) rs
same_along f ranges more [] below = refl
same_along f ranges more (r ∷ rs) below =
    let here : get_or (ranges ++ more) r no_range ≡ get_or ranges r no_range = get_or_append_left ranges more no_range r below.0 in
    λ i. f (here i) ∷ same_along f ranges more rs below.1 i

longer_space : IndexSpace → List Range → IndexSpace
longer_space space more = record { ranges = space.ranges ++ more; indexes = space.indexes }

tensor_stays : (space : IndexSpace) (more : List Range) (t : Tensor) → IsTensor space t → IsTensor (longer_space space more) t
unfolding longer_space
tensor_stays space more t is =
    let below = recursion_from_All (λ r. r < length space.ranges) t.ranges is.declared in
    let extents = same_along (λ (r : Range). r.extent) space.ranges more t.ranges below in
    let edges = same_along (λ (r : Range). r.edge) space.ranges more t.ranges below in
    let same : tiling_of space t.ranges ≡ tiling_of (longer_space space more) t.ranges = λ i. record { extents = sym extents i; edges = sym edges i } in
    record {
      short = is.short;
      rank = is.rank;
      declared = λ k d h. omega (arith, length-append space.ranges more, is.declared k d h);
      tile_room = subst (λ (s : Tiling). tile_words s ≤ 2 ^ 20) same is.tile_room;
      room = subst (λ (s : Tiling). padded_words s ≤ 2 ^ 48) same is.room;
    }

range_keeps : (line : ℕ) (d : Declarations) (name extent : List ℕ) (edge : Option (List ℕ)) → IsDeclarations d → IsTrue (is_name name)
    → range_fault line d.space name extent edge ≡ None → IsDeclarations (record { space = with_range d.space name extent edge; tensors = d.tensors })
unfolding longer_space
range_keeps line d name extent edge rules named none =
    let one = none_or (fault_if (is_some (range_number d.space name)) (name_twice line name)) _ none in
    let two = none_or (fault_if (not (is_range_size extent edge)) (bad_number line)) _ one.1 in
    let three = none_or (fault_if (nat_le 16 (length d.space.ranges)) (limit_passed line range_count)) None two.1 in
    let new = not_faulty (is_some (range_number d.space name)) (name_twice line name) one.0 in
    let size = sized extent edge (unfaulted (is_range_size extent edge) (bad_number line) two.0) in
    let room = less_than 16 (length d.space.ranges) (not_faulty (nat_le 16 (length d.space.ranges)) (limit_passed line range_count) three.0) in
    let r : Range = record { name = name; extent = value_of extent; edge = edge_of edge } in
    let is_range : IsRange r = record { named = named; some = size.0; limit = size.1; edge_some = size.2; edge_limit = size.3 } in
    let count : length (d.space.ranges ++ r ∷ []) ≡ length d.space.ranges + 1 = length-append d.space.ranges (r ∷ []) in
    record {
      space = record {
        range_limit = omega (arith, count, room);
        index_limit = rules.space.index_limit;
        ranges = All-push IsRange d.space.ranges r rules.space.ranges is_range;
        indexes = λ k e h. let both = rules.space.indexes k e h in (both.0, omega (arith, both.1, count));
        range_names = one_more (λ (x : Range). x.name) d.space.ranges r rules.space.range_names new;
        index_names = rules.space.index_names;
      };
      tensor_limit = rules.tensor_limit;
      tensors = λ k e h. tensor_stays d.space (r ∷ []) _ (rules.tensors k e h);
      tensor_names = rules.tensor_names;
    }

-- indexes

entries_named : (space : IndexSpace) (r : ℕ) (names : List (List ℕ)) → AreNames names → r < length space.ranges
    → AllByRecursion (λ (i : Index). IsTrue (is_name i.name) × (i.of_range < length space.ranges)) (map (λ name. record { name = name; of_range = r }) names)
entries_named space r [] are below = tt
entries_named space r (n ∷ ns) are below = ((are.0, below), entries_named space r ns are.1 below)

index_keeps : (line : ℕ) (d : Declarations) (of_range : List ℕ) (names : List (List ℕ)) → IsDeclarations d → AreNames names
    → index_fault line d.space of_range names ≡ None → IsDeclarations (record { space = with_indexes d.space of_range names; tensors = d.tensors })
index_keeps line d of_range names rules named none =
    let space : IndexSpace = d.space in
    let number : ℕ = number_of_range space of_range in
    let entries : List Index = map (λ name. record { name = name; of_range = number }) names in
    let IsIndex : Index → Type 0 = λ i. IsTrue (is_name i.name) × (i.of_range < length space.ranges) in
    let one = none_or (option_map (name_twice line) (twice_after (index_names space) names)) _ none in
    let two = none_or (fault_if (is_none (range_number space of_range)) (unknown_name line of_range)) _ one.1 in
    let three = none_or (fault_if (nat_lt 24 (length space.indexes + length names)) (limit_passed line index_count)) None two.1 in
    let once = map_none (name_twice line) (twice_after (index_names space) names) one.0 in
    let below = number_known space of_range (not_faulty (is_none (range_number space of_range)) (unknown_name line of_range) two.0) in
    let few = at_most 24 (length space.indexes + length names) (not_faulty (nat_lt 24 (length space.indexes + length names)) (limit_passed line index_count) three.0) in
    let name : Index → List ℕ = λ (x : Index). x.name in
    let names_are : map name (space.indexes ++ entries) ≡ index_names space ++ names = map-append name space.indexes entries ∙ ap (λ ns. index_names space ++ ns) (group_names number names) in
    record {
      space = record {
        range_limit = rules.space.range_limit;
        index_limit = omega (arith, few, length-append space.indexes entries, length-map {B = Index} names (λ name. record { name = name; of_range = number }));
        ranges = rules.space.ranges;
        indexes = All-from_recursion IsIndex (space.indexes ++ entries)
            (all_joined IsIndex space.indexes entries (recursion_from_All IsIndex space.indexes rules.space.indexes) (entries_named space number names named below));
        range_names = rules.space.range_names;
        index_names = subst (IsDistinct bytes_eq) (sym names_are) (several_more (index_names space) names rules.space.index_names once);
      };
      tensor_limit = rules.tensor_limit;
      tensors = λ k e h.
          let is = rules.tensors k e h in
          record { short = is.short; rank = is.rank; declared = is.declared; tile_room = is.tile_room; room = is.room };
      tensor_names = rules.tensor_names;
    }

-- tensors

tensor_keeps : (line : ℕ) (d : Declarations) (name : List ℕ) (ranges : List (List ℕ)) → IsDeclarations d → IsTrue (is_name name)
    → tensor_fault line d name ranges ≡ None → IsDeclarations (with_tensor d name ranges)
tensor_keeps line d name ranges rules named none =
    let fine : Faultless d name ranges = faultless line d name ranges none in
    let t : Tensor = record { name = name; ranges = numbers_of_ranges d.space ranges } in
    let is : IsTensor d.space t = record {
      short = name_len name named;
      rank = omega (arith, length-map ranges (number_of_range d.space), fine.rank);
      declared = numbers_declared d.space ranges fine.known;
      tile_room = fine.tile_room;
      room = fine.room;
    } in
    record {
      space = rules.space;
      tensor_limit = omega (arith, length-append d.tensors (t ∷ []), fine.place);
      tensors = All-push (IsTensor d.space) d.tensors t rules.tensors is;
      tensor_names = one_more (λ (x : Tensor). x.name) d.tensors t rules.tensor_names fine.unnamed;
    }

pub statement_keeps : (line : ℕ) (d : Declarations) (s : Statement) → IsDeclarations d → HasNames s → statement_fault line d s ≡ None → IsDeclarations (with_statement d s)
statement_keeps line d (range name extent edge) rules has none = range_keeps line d name extent edge rules has none
statement_keeps line d (index of_range names) rules has none = index_keeps line d of_range names rules has.1 none
statement_keeps line d (declaration name ranges) rules has none = tensor_keeps line d name ranges rules has.0 none
statement_keeps line d (formula result indexes f) rules has none = rules

pub nothing_is : IsDeclarations nothing_declared
unfolding IsDistinct
nothing_is = record { space = starts; tensor_limit = omega arith; tensors = λ k d h. absurd (omega arith); tensor_names = tt }
