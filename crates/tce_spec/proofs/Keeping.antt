-- Declarations stay declarations where a line adds to them.
use Rattle.std.proofs.Common.{◌≡◌, ℕ, zero, suc, ◌+◌, ◌<◌, ◌≤◌, ◌^◌, Bool, true, false, IsTrue, cond, List, [], ◌∷◌, ◌++◌, All, length, map, get_or, Option, Some, None, is_some, refl, sym, ap, ◌∙◌, subst, arith, length-append, nat_lt, nat_le}
use Rattle.std.specs.Prelude.{find, is_none, unwrap_or, option_map}
use Rattle.std.specs.Option.{option_or}
use Rattle.std.specs.List.{IsDistinct, AllByRecursion}
use Rattle.std.specs.Str.{bytes_eq}
use Rattle.std.proofs.lemmas.List.{length-map, map-append, get_or-map}
use Rattle.std.proofs.lemmas.List.Elements.{All-push, All-from_recursion, recursion_from_All}
use Rattle.std.proofs.lemmas.Bool.Decides.{nat_tests}
use Rattle.arrayvec.specs.ArrayString.{ArrayString}
use Rattle.tce_space.specs.Name.{is_name}
use Rattle.tce_space.specs.Space.{Range, IndexSpace, IsSpace, range_at, range_number, no_range, tiling_of}
use Rattle.tce_space.specs.SpaceEntries.{names_of}
use Rattle.tce_space.specs.Tiling.{Tiling, tile_words, padded_words}
use Rattle.tce_space.proofs.Spaces.{name_len}
use Rattle.tce_spec.specs.Declarations as model
use Rattle.tce_spec.specs.Declarations.{Declarations, IsTensor, no_tensor, tensor_number}
use Rattle.tce_spec.specs.DeclarationsCode.{tensor_of, IsEntry, AreKept}
use Rattle.tce_spec.specs.DeclarationLines.{number_of_range, numbers_of_ranges, tensor_fault}
use Rattle.tce_spec.specs.Faults.{Fault, fault_if}
use Rattle.tce_spec.specs.declared.declarations.Tensor.{Tensor}

-- no fault, column by column
both_none : (a b : Option Fault) → option_or a b ≡ None → (a ≡ None) × (b ≡ None)
both_none None b e = (refl, e)
both_none (Some f) b e = cc

pub not_faulty : (b : Bool) (f : Fault) → fault_if b f ≡ None → b ≡ false
not_faulty true f e = cc
not_faulty false f e = refl

none_found : (f : List ℕ → Fault) (o : Option (List ℕ)) → option_map f o ≡ None → o ≡ None
none_found f None e = refl
none_found f (Some x) e = cc

pub at_most : (limit n : ℕ) → nat_lt limit n ≡ false → n ≤ limit
at_most limit n e = grind (arith, nat_tests)

pub less_than : (limit n : ℕ) → nat_le limit n ≡ false → n < limit
less_than limit n e = grind (arith, nat_tests)

-- what a tensor line without a fault has
pub record Faultless (d : Declarations) (name : List ℕ) (ranges : List (List ℕ)) : Type 0 where
  pub unnamed : is_some (tensor_number d.tensors name) ≡ false
  pub known : find (λ range. is_none (range_number d.space range)) ranges ≡ None
  pub place : length d.tensors < 32
  pub rank : length ranges ≤ 8
  pub tile_room : tile_words (tiling_of d.space (numbers_of_ranges d.space ranges)) ≤ 2 ^ 20
  pub room : padded_words (tiling_of d.space (numbers_of_ranges d.space ranges)) ≤ 2 ^ 48

pub faultless : (line : ℕ) (d : Declarations) (name : List ℕ) (ranges : List (List ℕ)) → tensor_fault line d name ranges ≡ None → Faultless d name ranges
faultless line d name ranges none =
    let one = both_none _ _ none in
    let two = both_none _ _ one.1 in
    let three = both_none _ _ two.1 in
    let four = both_none _ _ three.1 in
    let five = both_none _ _ four.1 in
    let six = both_none _ _ five.1 in
    record {
      unnamed = not_faulty _ _ one.0;
      known = none_found _ _ two.0;
      place = less_than 32 _ (not_faulty _ _ three.0);
      rank = at_most 8 _ (not_faulty _ _ four.0);
      tile_room = at_most (2 ^ 20) _ (not_faulty _ _ five.0);
      room = at_most (2 ^ 48) _ (not_faulty _ _ six.0);
    }

-- the ranges of known names are declared
below_limit : (b : Bool) (k n : ℕ) → nat_lt k n ≡ b → is_none (cond b (Some k) None) ≡ false → unwrap_or (cond b (Some k) None) 16 < n
below_limit true k n below known = grind (arith, nat_tests)
below_limit false k n below known = cc

pub number_known : (space : IndexSpace) (name : List ℕ) → is_none (range_number space name) ≡ false → number_of_range space name < length space.ranges
number_known space name known = below_limit (nat_lt _ (length space.ranges)) _ (length space.ranges) refl known

known_first : (b : Bool) (name : List ℕ) (rest : Option (List ℕ)) → cond b (Some name) rest ≡ None → (b ≡ false) × (rest ≡ None)
known_first true name rest e = cc
known_first false name rest e = (refl, e)

declared_by_names : (space : IndexSpace) (names : List (List ℕ)) → find (λ range. is_none (range_number space range)) names ≡ None
    → AllByRecursion (λ r. r < length space.ranges) (numbers_of_ranges space names)
declared_by_names space [] known = tt
declared_by_names space (name ∷ names) known =
    let parts = known_first (is_none (range_number space name)) name (find (λ range. is_none (range_number space range)) names) known in
    (number_known space name parts.0, declared_by_names space names parts.1)

pub numbers_declared : (space : IndexSpace) (names : List (List ℕ)) → find (λ range. is_none (range_number space range)) names ≡ None
    → All (λ r. r < length space.ranges) (numbers_of_ranges space names)
numbers_declared space names known = All-from_recursion (λ r. r < length space.ranges) (numbers_of_ranges space names) (declared_by_names space names known)

-- further ranges leave those that are there
range_stays : (ranges more : List Range) (r : ℕ) (d : Range) → r < length ranges → get_or (ranges ++ more) r d ≡ get_or ranges r d
range_stays [] more r d h = absurd (omega arith)
range_stays (x ∷ ranges) more zero d h = refl
range_stays (x ∷ ranges) more (suc r) d h = range_stays ranges more r d (omega arith)

along : {X : Type 0} (f : Range → X) (old new : IndexSpace) (more : List Range) → new.ranges ≡ old.ranges ++ more
    → (rs : List ℕ) → AllByRecursion (λ r. r < length old.ranges) rs → map (λ r. f (range_at new r)) rs ≡ map (λ r. f (range_at old r)) rs
along f old new more longer [] declared = refl
along f old new more longer (r ∷ rs) declared =
    let here : range_at new r ≡ range_at old r =
    ap (λ ranges. get_or ranges r no_range) longer ∙ range_stays old.ranges more r no_range declared.0 in
    λ i. f (here i) ∷ along f old new more longer rs declared.1 i

tiling_stays : (old new : IndexSpace) (more : List Range) → new.ranges ≡ old.ranges ++ more → (rs : List ℕ) → All (λ r. r < length old.ranges) rs → tiling_of new rs ≡ tiling_of old rs
tiling_stays old new more longer rs declared =
    let each = recursion_from_All (λ r. r < length old.ranges) rs declared in
    let extents = along (λ (r : Range). r.extent) old new more longer rs each in
    let edges = along (λ (r : Range). r.edge) old new more longer rs each in
    λ i. record { extents = extents i; edges = edges i }

tensor_stays : (old new : IndexSpace) (more : List Range) → new.ranges ≡ old.ranges ++ more → (t : model.Tensor) → IsTensor old t → IsTensor new t
tensor_stays old new more longer t is =
    let same = tiling_stays old new more longer t.ranges is.declared in
    let count : length new.ranges ≡ length old.ranges + length more = ap length longer ∙ length-append old.ranges more in
    record {
      short = is.short;
      rank = is.rank;
      declared = λ k d h. omega (arith, count, is.declared k d h);
      tile_room = subst (λ (s : Tiling). tile_words s ≤ 2 ^ 20) (sym same) is.tile_room;
      room = subst (λ (s : Tiling). padded_words s ≤ 2 ^ 48) (sym same) is.room;
    }

pub kept_in_space : (old new : IndexSpace) (more : List Range) (entries : List (ArrayString × Tensor)) → new.ranges ≡ old.ranges ++ more → IsSpace new → AreKept old entries → AreKept new entries
kept_in_space old new more entries longer space kept = record {
  rules = record {
    space = space;
    tensor_limit = kept.rules.tensor_limit;
    tensors = λ k d h. tensor_stays old new more longer _ (kept.rules.tensors k d h);
    tensor_names = kept.rules.tensor_names;
  };
  entries = λ k d h.
      let is = kept.entries k d h in
      let shown : get_or (map tensor_of entries) k no_tensor ≡ tensor_of (get_or entries k d) = get_or-map tensor_of entries k d no_tensor h in
      let tensor : IsTensor old (tensor_of (get_or entries k d)) =
      subst (IsTensor old) shown (kept.rules.tensors k no_tensor (omega (arith, h, length-map entries tensor_of))) in
      record { named = is.named; shaped = is.shaped ∙ sym (tiling_stays old new more longer _ tensor.declared) };
}

-- no tensor
pub kept_none : (space : IndexSpace) (entries : List (ArrayString × Tensor)) → IsSpace space → entries ≡ [] → AreKept space entries
unfolding IsDistinct
kept_none space entries rules none =
    subst (AreKept space) (sym none)
    (record {
      rules = record { space = rules; tensor_limit = omega arith; tensors = λ k d h. absurd (omega (arith, h)); tensor_names = tt };
      entries = λ k d h. absurd (omega (arith, h));
    })

-- a further tensor
names_shown : (entries : List (ArrayString × Tensor)) → map (λ (t : model.Tensor). t.name) (map tensor_of entries) ≡ names_of entries
names_shown [] = refl
names_shown (e ∷ entries) = λ i. e.0.bytes ∷ names_shown entries i

pub kept_with_tensor : (space : IndexSpace) (entries new : List (ArrayString × Tensor)) (t : Tensor) → AreKept space entries → new ≡ entries ++ (t.name, t) ∷ []
    → IsDistinct bytes_eq (names_of new) → length entries < 32 → IsTensor space (tensor_of (t.name, t)) → t.shape ≡ tiling_of space t.ranges.items → AreKept space new
kept_with_tensor space entries new t kept is distinct room tensor shaped =
    let longer : length new ≡ length entries + 1 = ap length is ∙ length-append entries ((t.name, t) ∷ []) in
    let shows : map tensor_of new ≡ map tensor_of entries ++ tensor_of (t.name, t) ∷ [] = ap (map tensor_of) is ∙ map-append tensor_of entries ((t.name, t) ∷ []) in
    record {
      rules = record {
        space = kept.rules.space;
        tensor_limit = omega (arith, length-map new tensor_of, longer, room);
        tensors = subst (All (IsTensor space)) (sym shows) (All-push (IsTensor space) (map tensor_of entries) (tensor_of (t.name, t)) kept.rules.tensors tensor);
        tensor_names = subst (IsDistinct bytes_eq) (sym (names_shown new)) distinct;
      };
      entries = subst (All (IsEntry space)) (sym is) (All-push (IsEntry space) entries (t.name, t) kept.entries (record { named = refl; shaped = shaped }));
    }

-- the tensor of a line without a fault
pub tensor_is : (d : Declarations) (name : List ℕ) (ranges : List (List ℕ)) (t : Tensor) → Faultless d name ranges → IsTrue (is_name name)
    → t.name.bytes ≡ name → t.ranges.items ≡ numbers_of_ranges d.space ranges → IsTensor d.space (tensor_of (t.name, t))
tensor_is d name ranges t fine named is_named has_ranges = record {
  short = omega (arith, ap length is_named, name_len name named);
  rank = omega (arith, ap length has_ranges, length-map ranges (number_of_range d.space), fine.rank);
  declared = subst (All (λ r. r < length d.space.ranges)) (sym has_ranges) (numbers_declared d.space ranges fine.known);
  tile_room = subst (λ (rs : List ℕ). tile_words (tiling_of d.space rs) ≤ 2 ^ 20) (sym has_ranges) fine.tile_room;
  room = subst (λ (rs : List ℕ). padded_words (tiling_of d.space rs) ≤ 2 ^ 48) (sym has_ranges) fine.room;
}
