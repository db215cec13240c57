-- The lines of canonical declarations declare them.
use Rattle.std.proofs.Common.{◌≡◌, ℕ, ◌+◌, ◌<◌, ◌≤◌, ◌^◌, ◌==◌, Bool, true, false, not, List, [], ◌∷◌, ◌++◌, length, map, cond, None, refl, sym, ap, subst, ◌∙◌, arith, nat_lt, nat_le, append_assoc, append-nil, length-append}
use Rattle.std.specs.Prelude.{is_none}
use Rattle.std.specs.List.{AllByRecursion, IsDistinct}
use Rattle.std.specs.Str.{bytes_eq}
use Rattle.std.proofs.lemmas.Bool.Decides.{nat_tests}
use Rattle.std.proofs.lemmas.List.{length-map, map-append}
use Rattle.std.specs.Fmt.{decimal}
use Rattle.tce_space.specs.Space.{Range, Index, IndexSpace, IsRange, IsSpace, range_at, range_number, tiling_of}
use Rattle.tce_space.specs.Tiling.{tile_words, padded_words}
use Rattle.tce_grammar.specs.Grammar.{Line, says}
use Rattle.tce_spec.specs.Declarations.{Declarations, Tensor, IsTensor}
use Rattle.tce_spec.specs.DeclarationLines.{statement_fault, with_statement, number_of_range, numbers_of_ranges}
use Rattle.tce_spec.specs.Faults as faults
use Rattle.tce_spec.specs.Numbers.{is_range_size}
use Rattle.tce_spec.specs.Text.{head_of, unless}
use Rattle.tce_spec.specs.Statements.{Group, groups, in_group, range_statement, index_statement, tensor_statement, range_names, edge_digits}
use Rattle.tce_spec.proofs.Lookups.{new_name, once}
use Rattle.tce_spec.proofs.SpaceNames.{range_found}
use Rattle.tce_spec.proofs.NumbersBack.{range_back, ranges_back, ranges_known, value_back, edge_back, size_fine}
use Rattle.tce_spec.proofs.WrittenStatements.{IsGroup, tensor_ranges}
use Rattle.tce_spec.proofs.Meanings.{neither, not_if, mapped_none, not_above}

not_reached : (limit n : ℕ) → n < limit → nat_le limit n ≡ false
not_reached limit n h = grind (arith, nat_tests)

-- ranges

abbrev pub only_ranges : List Range → Declarations
only_ranges rs = record { space = record { ranges = rs; indexes = [] }; tensors = [] }

range_fine : (line : ℕ) (earlier : List Range) (r : Range) (later : List Range) → IsRange r → IsDistinct bytes_eq (map (λ (x : Range). x.name) (earlier ++ r ∷ later))
    → length earlier < 16 → statement_fault line (only_ranges earlier) (range_statement r) ≡ None
range_fine line earlier r later is distinct few =
    let new = new_name (λ (x : Range). x.name) earlier r later distinct in
    let size : not (is_range_size (decimal r.extent) (edge_digits r.edge)) ≡ false = ap not (size_fine r.extent r.edge is.some is.limit is.edge_some is.edge_limit) in
    neither _ _ (not_if _ (faults.name_twice line r.name) new)
    (neither _ _ (not_if _ (faults.bad_number line) size)
    (neither _ None (not_if _ (faults.limit_passed line faults.range_count) (not_reached 16 (length earlier) few)) refl))

range_added : (earlier : List Range) (r : Range) → IsRange r → with_statement (only_ranges earlier) (range_statement r) ≡ only_ranges (earlier ++ r ∷ [])
range_added earlier r is =
    let extent = value_back r.extent (omega (arith, is.limit)) in
    let edge = edge_back r.edge (omega (arith, is.limit, is.edge_limit)) in
    λ i. only_ranges (earlier ++ record { name = r.name; extent = extent i; edge = edge i } ∷ [])

pub read_ranges : (line : ℕ) (earlier rs : List Range) (rest : List Line) → AllByRecursion IsRange rs → IsDistinct bytes_eq (map (λ (x : Range). x.name) (earlier ++ rs))
    → length earlier + length rs ≤ 16
    → head_of line (only_ranges earlier) (map says (map range_statement rs) ++ rest) ≡ head_of (line + length rs) (only_ranges (earlier ++ rs)) rest
read_ranges line earlier [] rest are distinct few =
    let lines : line ≡ line + 0 = omega arith in
    λ i. head_of (lines i) (only_ranges (sym (append-nil earlier) i)) rest
read_ranges line earlier (r ∷ rs) rest are distinct few =
    let fine = range_fine line earlier r rs are.0 distinct (omega (arith, few)) in
    let joined : (earlier ++ r ∷ []) ++ rs ≡ earlier ++ r ∷ rs = append_assoc earlier (r ∷ []) rs in
    let longer : length (earlier ++ r ∷ []) ≡ length earlier + 1 = length-append earlier (r ∷ []) in
    let lines : (line + 1) + length rs ≡ line + length (r ∷ rs) = omega arith in
    let last : head_of ((line + 1) + length rs) (only_ranges ((earlier ++ r ∷ []) ++ rs)) rest ≡ head_of (line + length (r ∷ rs)) (only_ranges (earlier ++ r ∷ rs)) rest =
    λ i. head_of (lines i) (only_ranges (joined i)) rest in
    ap (λ o. unless o (head_of (line + 1) (with_statement (only_ranges earlier) (range_statement r)) (map says (map range_statement rs) ++ rest))) fine
    ∙ ap (λ d. head_of (line + 1) d (map says (map range_statement rs) ++ rest)) (range_added earlier r are.0)
    ∙ read_ranges (line + 1) (earlier ++ r ∷ []) rs rest are.1 (subst (λ xs. IsDistinct bytes_eq (map (λ (x : Range). x.name) xs)) (sym joined) distinct) (omega (arith, few, longer))
    ∙ last

-- indexes

abbrev pub without_tensors : List Range → List Index → Declarations
without_tensors rs is = record { space = record { ranges = rs; indexes = is }; tensors = [] }

abbrev pub of_group : Group → List Index
of_group g = map (λ name. record { name = name; of_range = g.of_range }) g.names

abbrev pub all_of : List Group → List Index
all_of [] = []
all_of (g ∷ gs) = of_group g ++ all_of gs

pub group_names : (r : ℕ) (names : List (List ℕ)) → map (λ (x : Index). x.name) (map (λ name. record { name = name; of_range = r }) names) ≡ names
group_names r [] = refl
group_names r (n ∷ ns) = ap (λ (ms : List (List ℕ)). n ∷ ms) (group_names r ns)

first_of_group : (i : Index) (gs : List Group) → all_of (in_group i gs) ≡ i ∷ all_of gs
first_of_group i [] = refl
first_of_group i (g ∷ gs) = by_test (i.of_range == g.of_range) refl
  where
    by_test : (b : Bool) → (i.of_range == g.of_range) ≡ b
        → all_of (cond b (record { of_range = i.of_range; names = i.name ∷ g.names } ∷ gs) (record { of_range = i.of_range; names = i.name ∷ [] } ∷ g ∷ gs)) ≡ i ∷ all_of (g ∷ gs)
    by_test true e =
        let same : i.of_range ≡ g.of_range = grind (arith, nat_tests, e) in
        λ j. i ∷ (map (λ name. record { name = name; of_range = same j }) g.names ++ all_of gs)
    by_test false e = refl

pub groups_of : (is : List Index) → all_of (groups is) ≡ is
groups_of [] = refl
groups_of (i ∷ is) = first_of_group i (groups is) ∙ ap (λ (js : List Index). i ∷ js) (groups_of is)

group_fine : (line : ℕ) (space : IndexSpace) → IsSpace space → (earlier : List Index) (g : Group) (later : List Index) → IsGroup space g
    → IsDistinct bytes_eq (map (λ (x : Index). x.name) (earlier ++ (of_group g ++ later))) → length earlier + length g.names ≤ 24
    → statement_fault line (without_tensors space.ranges earlier) (index_statement space g) ≡ None
group_fine line space rules earlier g later is distinct few =
    let name : Index → List ℕ = λ (x : Index). x.name in
    let names_are : map name (earlier ++ (of_group g ++ later)) ≡ map name earlier ++ (g.names ++ map name later) =
    map-append name earlier (of_group g ++ later)
    ∙ ap (λ ns. map name earlier ++ ns) (map-append name (of_group g) later ∙ ap (λ ns. ns ++ map name later) (group_names g.of_range g.names)) in
    let new = once (map name earlier) g.names (map name later) (subst (IsDistinct bytes_eq) names_are distinct) in
    let known : is_none (range_number space (range_at space g.of_range).name) ≡ false = ap is_none (range_found space rules g.of_range is.declared) in
    neither _ _ (mapped_none (faults.name_twice line) _ new)
    (neither _ _ (not_if _ (faults.unknown_name line (range_at space g.of_range).name) known)
    (neither _ None (not_if _ (faults.limit_passed line faults.index_count) (not_above 24 (length earlier + length g.names) few)) refl))

group_added : (space : IndexSpace) → IsSpace space → (earlier : List Index) (g : Group) → IsGroup space g
    → with_statement (without_tensors space.ranges earlier) (index_statement space g) ≡ without_tensors space.ranges (earlier ++ of_group g)
group_added space rules earlier g is =
    let number : number_of_range space (range_at space g.of_range).name ≡ g.of_range = range_back space rules g.of_range is.declared in
    λ i. without_tensors space.ranges (earlier ++ map (λ name. record { name = name; of_range = number i }) g.names)

pub read_groups : (space : IndexSpace) → IsSpace space → (line : ℕ) (earlier : List Index) (gs : List Group) (rest : List Line) → AllByRecursion (IsGroup space) gs
    → IsDistinct bytes_eq (map (λ (x : Index). x.name) (earlier ++ all_of gs)) → length earlier + length (all_of gs) ≤ 24
    → head_of line (without_tensors space.ranges earlier) (map says (map (index_statement space) gs) ++ rest)
    ≡ head_of (line + length gs) (without_tensors space.ranges (earlier ++ all_of gs)) rest
read_groups space rules line earlier [] rest are distinct few =
    let lines : line ≡ line + 0 = omega arith in
    λ i. head_of (lines i) (without_tensors space.ranges (sym (append-nil earlier) i)) rest
read_groups space rules line earlier (g ∷ gs) rest are distinct few =
    let count : length (of_group g) ≡ length g.names = length-map g.names (λ name. record { name = name; of_range = g.of_range }) in
    let together : length (of_group g ++ all_of gs) ≡ length (of_group g) + length (all_of gs) = length-append (of_group g) (all_of gs) in
    let longer : length (earlier ++ of_group g) ≡ length earlier + length (of_group g) = length-append earlier (of_group g) in
    let fine = group_fine line space rules earlier g (all_of gs) are.0 distinct (omega (arith, few, count, together)) in
    let joined : (earlier ++ of_group g) ++ all_of gs ≡ earlier ++ (of_group g ++ all_of gs) = append_assoc earlier (of_group g) (all_of gs) in
    let lines : (line + 1) + length gs ≡ line + length (g ∷ gs) = omega arith in
    let last : head_of ((line + 1) + length gs) (without_tensors space.ranges ((earlier ++ of_group g) ++ all_of gs)) rest
    ≡ head_of (line + length (g ∷ gs)) (without_tensors space.ranges (earlier ++ all_of (g ∷ gs))) rest =
    λ i. head_of (lines i) (without_tensors space.ranges (joined i)) rest in
    ap (λ o. unless o (head_of (line + 1) (with_statement (without_tensors space.ranges earlier) (index_statement space g)) (map says (map (index_statement space) gs) ++ rest))) fine
    ∙ ap (λ d. head_of (line + 1) d (map says (map (index_statement space) gs) ++ rest)) (group_added space rules earlier g are.0)
    ∙ read_groups space rules (line + 1) (earlier ++ of_group g) gs rest are.1 (subst (λ xs. IsDistinct bytes_eq (map (λ (x : Index). x.name) xs)) (sym joined) distinct) (omega (arith, few, together, longer))
    ∙ last

-- tensors

abbrev pub with_tensors : IndexSpace → List Tensor → Declarations
with_tensors space ts = record { space = space; tensors = ts }

tensor_fine : (line : ℕ) (space : IndexSpace) → IsSpace space → (earlier : List Tensor) (t : Tensor) (later : List Tensor) → IsTensor space t
    → IsDistinct bytes_eq (map (λ (x : Tensor). x.name) (earlier ++ t ∷ later)) → length earlier < 32
    → statement_fault line (with_tensors space earlier) (tensor_statement space t) ≡ None
tensor_fine line space rules earlier t later is distinct few =
    let new = new_name (λ (x : Tensor). x.name) earlier t later distinct in
    let known = ranges_known space rules t.ranges (tensor_ranges space t is) in
    let back : numbers_of_ranges space (range_names space t.ranges) ≡ t.ranges = ranges_back space rules t.ranges (tensor_ranges space t is) in
    let rank : length (range_names space t.ranges) ≤ 8 = omega (arith, is.rank, length-map t.ranges (λ r. (range_at space r).name)) in
    let tile : nat_lt (2 ^ 20) (tile_words (tiling_of space (numbers_of_ranges space (range_names space t.ranges)))) ≡ false =
    ap (λ rs. nat_lt (2 ^ 20) (tile_words (tiling_of space rs))) back ∙ not_above (2 ^ 20) (tile_words (tiling_of space t.ranges)) is.tile_room in
    let array : nat_lt (2 ^ 48) (padded_words (tiling_of space (numbers_of_ranges space (range_names space t.ranges)))) ≡ false =
    ap (λ rs. nat_lt (2 ^ 48) (padded_words (tiling_of space rs))) back ∙ not_above (2 ^ 48) (padded_words (tiling_of space t.ranges)) is.room in
    neither _ _ (not_if _ (faults.name_twice line t.name) new)
    (neither _ _ (mapped_none (faults.unknown_name line) _ known)
    (neither _ _ (not_if _ (faults.limit_passed line faults.tensor_count) (not_reached 32 (length earlier) few))
    (neither _ _ (not_if _ (faults.limit_passed line faults.rank) (not_above 8 (length (range_names space t.ranges)) rank))
    (neither _ _ (not_if _ (faults.limit_passed line faults.words_of_tile) tile)
    (neither _ None (not_if _ (faults.limit_passed line faults.words_of_array) array) refl)))))

tensor_added : (space : IndexSpace) → IsSpace space → (earlier : List Tensor) (t : Tensor) → IsTensor space t
    → with_statement (with_tensors space earlier) (tensor_statement space t) ≡ with_tensors space (earlier ++ t ∷ [])
tensor_added space rules earlier t is =
    let back : numbers_of_ranges space (range_names space t.ranges) ≡ t.ranges = ranges_back space rules t.ranges (tensor_ranges space t is) in
    λ i. with_tensors space (earlier ++ record { name = t.name; ranges = back i } ∷ [])

pub read_tensors : (space : IndexSpace) → IsSpace space → (line : ℕ) (earlier ts : List Tensor) (rest : List Line) → AllByRecursion (IsTensor space) ts
    → IsDistinct bytes_eq (map (λ (x : Tensor). x.name) (earlier ++ ts)) → length earlier + length ts ≤ 32
    → head_of line (with_tensors space earlier) (map says (map (tensor_statement space) ts) ++ rest) ≡ head_of (line + length ts) (with_tensors space (earlier ++ ts)) rest
read_tensors space rules line earlier [] rest are distinct few =
    let lines : line ≡ line + 0 = omega arith in
    λ i. head_of (lines i) (with_tensors space (sym (append-nil earlier) i)) rest
read_tensors space rules line earlier (t ∷ ts) rest are distinct few =
    let fine = tensor_fine line space rules earlier t ts are.0 distinct (omega (arith, few)) in
    let joined : (earlier ++ t ∷ []) ++ ts ≡ earlier ++ t ∷ ts = append_assoc earlier (t ∷ []) ts in
    let longer : length (earlier ++ t ∷ []) ≡ length earlier + 1 = length-append earlier (t ∷ []) in
    let lines : (line + 1) + length ts ≡ line + length (t ∷ ts) = omega arith in
    let last : head_of ((line + 1) + length ts) (with_tensors space ((earlier ++ t ∷ []) ++ ts)) rest ≡ head_of (line + length (t ∷ ts)) (with_tensors space (earlier ++ t ∷ ts)) rest =
    λ i. head_of (lines i) (with_tensors space (joined i)) rest in
    ap (λ o. unless o (head_of (line + 1) (with_statement (with_tensors space earlier) (tensor_statement space t)) (map says (map (tensor_statement space) ts) ++ rest))) fine
    ∙ ap (λ d. head_of (line + 1) d (map says (map (tensor_statement space) ts) ++ rest)) (tensor_added space rules earlier t are.0)
    ∙ read_tensors space rules (line + 1) (earlier ++ t ∷ []) ts rest are.1 (subst (λ xs. IsDistinct bytes_eq (map (λ (x : Tensor). x.name) xs)) (sym joined) distinct) (omega (arith, few, longer))
    ∙ last
