-- The entries of a space, and what the space shows of them.
use Rattle.std.proofs.Common.{◌≡◌, ℕ, ◌+◌, ◌<◌, ◌≤◌, IsTrue, List, [], ◌∷◌, All, length, map, Result, Ok, Err, IfOk, OnOk, OnErr, refl, sym, ap, ◌∙◌, subst, arith, length-append}
use Rattle.std.specs.List.{IsDistinct}
use Rattle.std.specs.Str.{bytes_eq}
use Rattle.std.proofs.lemmas.List.{length-map, map-append}
use Rattle.std.proofs.lemmas.List.Elements.{All-push}
use Rattle.std.proofs.lemmas.Bool.{and_parts}
use borrow.Author.Tests.{leb-true}
use Rattle.arrayvec.specs.ArrayString.{ArrayString}
use Rattle.tce_space.specs.declared.space.RangeSize.{RangeSize}
use Rattle.tce_space.specs.declared.space.SpaceFault.{SpaceFault}
use Rattle.tce_space.specs.Name.{is_name}
use Rattle.tce_space.specs.Space.{Range, Index, IndexSpace, IsSpace, IsRange, AddsRange, AddsIndex, no_declarations, no_range, no_index, range_at, index_at, range_number, index_number}
use Rattle.tce_space.specs.SpaceEntries.{range_of, index_of, space_of, names_of, entry_number, Enters}
use Rattle.tce_space.proofs.Declarations.{position_along, name_shown_at}

range_names : (ranges : List (ArrayString × RangeSize)) → map (λ (r : Range). r.name) (map range_of ranges) ≡ names_of ranges
range_names [] = refl
range_names (e ∷ ranges) = λ i. e.0.bytes ∷ range_names ranges i

index_names : (indexes : List (ArrayString × ℕ)) → map (λ (i : Index). i.name) (map index_of indexes) ≡ names_of indexes
index_names [] = refl
index_names (e ∷ indexes) = λ i. e.0.bytes ∷ index_names indexes i

pub range_number_is : (ranges : List (ArrayString × RangeSize)) (indexes : List (ArrayString × ℕ)) (name : List ℕ) → range_number (space_of ranges indexes) name ≡ entry_number ranges name
range_number_is ranges indexes name = position_along _ _ range_of (λ e. refl) ranges

pub index_number_is : (ranges : List (ArrayString × RangeSize)) (indexes : List (ArrayString × ℕ)) (name : List ℕ) → index_number (space_of ranges indexes) name ≡ entry_number indexes name
index_number_is ranges indexes name = position_along _ _ index_of (λ e. refl) indexes

module _ (ranges : List (ArrayString × RangeSize)) (indexes : List (ArrayString × ℕ)) (name : ArrayString) where
  -- an entered range is declared
  pub adds_range : (new : List (ArrayString × RangeSize)) (size : RangeSize) (number : ℕ) → Enters ranges new 16 name size number
      → AddsRange (space_of ranges indexes) (space_of new indexes) (range_of (name, size)) number
  adds_range new size number e = record {
    unnamed = range_number_is ranges indexes name.bytes ∙ e.unnamed;
    room = omega (arith, length-map ranges range_of, e.room);
    number_is = e.number_is ∙ sym (length-map ranges range_of);
    ranges = ap (map range_of) e.entries ∙ map-append range_of ranges ((name, size) ∷ []);
    indexes = refl;
  }

  pub adds_index : (new : List (ArrayString × ℕ)) (range number : ℕ) → Enters indexes new 24 name range number
      → AddsIndex (space_of ranges indexes) (space_of ranges new) (index_of (name, range)) number
  adds_index new range number e = record {
    unnamed = index_number_is ranges indexes name.bytes ∙ e.unnamed;
    room = omega (arith, length-map indexes index_of, e.room);
    number_is = e.number_is ∙ sym (length-map indexes index_of);
    ranges = refl;
    indexes = ap (map index_of) e.entries ∙ map-append index_of indexes ((name, range) ∷ []);
  }

-- a further range keeps a space
pub keeps_with_range : (old new : IndexSpace) (range : Range) (number : ℕ) → IsSpace old → AddsRange old new range number → IsRange range
    → IsDistinct bytes_eq (map (λ (r : Range). r.name) new.ranges) → IsSpace new
keeps_with_range old new range number space adds fits distinct =
    let longer : length new.ranges ≡ length old.ranges + 1 = ap length adds.ranges ∙ length-append old.ranges (range ∷ []) in
    record {
      range_limit = omega (arith, longer, adds.room);
      index_limit = omega (arith, ap length adds.indexes, space.index_limit);
      ranges = subst (All IsRange) (sym adds.ranges) (All-push IsRange old.ranges range space.ranges fits);
      indexes = subst (All (λ (i : Index). IsTrue (is_name i.name) × (i.of_range < length new.ranges))) (sym adds.indexes)
          (λ k d h. let both = space.indexes k d h in (both.0, omega (arith, both.1, longer)));
      range_names = distinct;
      index_names = subst (λ (is : List Index). IsDistinct bytes_eq (map (λ (i : Index). i.name) is)) (sym adds.indexes) space.index_names;
    }

pub keeps_with_index : (old new : IndexSpace) (index : Index) (number : ℕ) → IsSpace old → AddsIndex old new index number → IsTrue (is_name index.name) → index.of_range < length old.ranges
    → IsDistinct bytes_eq (map (λ (i : Index). i.name) new.indexes) → IsSpace new
keeps_with_index old new index number space adds named declared distinct =
    let longer : length new.indexes ≡ length old.indexes + 1 = ap length adds.indexes ∙ length-append old.indexes (index ∷ []) in
    let IsIndex : Index → Type 0 = λ i. IsTrue (is_name i.name) × (i.of_range < length old.ranges) in
    record {
      range_limit = omega (arith, ap length adds.ranges, space.range_limit);
      index_limit = omega (arith, longer, adds.room);
      ranges = subst (All IsRange) (sym adds.ranges) space.ranges;
      indexes = subst (λ (rs : List Range). All (λ (i : Index). IsTrue (is_name i.name) × (i.of_range < length rs)) new.indexes) (sym adds.ranges)
          (subst (All IsIndex) (sym adds.indexes) (All-push IsIndex old.indexes index space.indexes (named, declared)));
      range_names = subst (λ (rs : List Range). IsDistinct bytes_eq (map (λ (r : Range). r.name) rs)) (sym adds.ranges) space.range_names;
      index_names = distinct;
    }

module _ (ranges : List (ArrayString × RangeSize)) (indexes : List (ArrayString × ℕ)) (name : ArrayString) where
  -- the space after `add_range`, whatever it answers
  pub range_kept : (new : List (ArrayString × RangeSize)) (size : RangeSize) (result : Result ℕ SpaceFault)
      → IfOk result (Enters ranges new 16 name size) → OnOk result (IsDistinct bytes_eq (names_of new)) → OnErr result (new ≡ ranges)
      → IsSpace (space_of ranges indexes) → IsRange (range_of (name, size)) → IsSpace (space_of new indexes)
  range_kept new size (Ok number) entered apart same space fits =
      keeps_with_range (space_of ranges indexes) (space_of new indexes) (range_of (name, size)) number space (adds_range ranges indexes name new size number entered) fits
      (subst (IsDistinct bytes_eq) (sym (range_names new)) apart)
  range_kept new size (Err fault) entered apart same space fits = subst (λ rs. IsSpace (space_of rs indexes)) (sym same) space

  pub index_kept : (new : List (ArrayString × ℕ)) (range : ℕ) (result : Result ℕ SpaceFault)
      → IfOk result (Enters indexes new 24 name range) → OnOk result (IsDistinct bytes_eq (names_of new)) → OnErr result (new ≡ indexes)
      → IsSpace (space_of ranges indexes) → IsTrue (is_name name.bytes) → range < length (space_of ranges indexes).ranges → IsSpace (space_of ranges new)
  index_kept new range (Ok number) entered apart same space named declared =
      keeps_with_index (space_of ranges indexes) (space_of ranges new) (index_of (name, range)) number space (adds_index ranges indexes name new range number entered) named declared
      (subst (IsDistinct bytes_eq) (sym (index_names new)) apart)
  index_kept new range (Err fault) entered apart same space named declared = subst (λ is. IsSpace (space_of ranges is)) (sym same) space

  pub if_range_added : (new : List (ArrayString × RangeSize)) (size : RangeSize) (result : Result ℕ SpaceFault)
      → IfOk result (Enters ranges new 16 name size) → IfOk result (AddsRange (space_of ranges indexes) (space_of new indexes) (range_of (name, size)))
  if_range_added new size (Ok number) entered = adds_range ranges indexes name new size number entered
  if_range_added new size (Err fault) entered = tt

  pub if_index_added : (new : List (ArrayString × ℕ)) (range : ℕ) (result : Result ℕ SpaceFault)
      → IfOk result (Enters indexes new 24 name range) → IfOk result (AddsIndex (space_of ranges indexes) (space_of ranges new) (index_of (name, range)))
  if_index_added new range (Ok number) entered = adds_index ranges indexes name new range number entered
  if_index_added new range (Err fault) entered = tt

-- the space without declarations
pub starts : IsSpace no_declarations
unfolding IsDistinct
starts = record {
  range_limit = omega arith;
  index_limit = omega arith;
  ranges = λ k d h. absurd (omega arith);
  indexes = λ k d h. absurd (omega arith);
  range_names = tt;
  index_names = tt;
}

-- no name has more than 16 bytes
pub name_len : (w : List ℕ) → IsTrue (is_name w) → length w ≤ 16
unfolding is_name
name_len w h =
    let fronts = and_parts _ _ h in
    let lens = and_parts _ _ (and_parts _ _ fronts.0).0 in
    leb-true _ _ lens.1

pub range_names_short : (ranges : List (ArrayString × RangeSize)) (indexes : List (ArrayString × ℕ)) → IsSpace (space_of ranges indexes) → All (λ n. length n ≤ 16) (names_of ranges)
range_names_short ranges indexes space k d h =
    subst (λ (w : List ℕ). length w ≤ 16) (sym (name_shown_at range_of (λ (r : Range). r.name) (λ e. refl) ranges k d no_range (omega (arith, h, length-map ranges (λ (e : ArrayString × RangeSize). e.0.bytes)))))
    (name_len _ (space.ranges k no_range (omega (arith, h, length-map ranges range_of, length-map ranges (λ (e : ArrayString × RangeSize). e.0.bytes)))).named)

pub index_names_short : (ranges : List (ArrayString × RangeSize)) (indexes : List (ArrayString × ℕ)) → IsSpace (space_of ranges indexes) → All (λ n. length n ≤ 16) (names_of indexes)
index_names_short ranges indexes space k d h =
    subst (λ (w : List ℕ). length w ≤ 16) (sym (name_shown_at index_of (λ (i : Index). i.name) (λ e. refl) indexes k d no_index (omega (arith, h, length-map indexes (λ (e : ArrayString × ℕ). e.0.bytes)))))
    (name_len _ (space.indexes k no_index (omega (arith, h, length-map indexes index_of, length-map indexes (λ (e : ArrayString × ℕ). e.0.bytes)))).0)

-- the limits of a range, and of an index's range
pub range_limits : (space : IndexSpace) (r : ℕ) → IsSpace space → r < length space.ranges → IsRange (range_at space r)
range_limits space r is h = is.ranges r no_range h

pub index_limits : (space : IndexSpace) (i : ℕ) → IsSpace space → i < length space.indexes → IsRange (range_at space (index_at space i).of_range)
index_limits space i is h = range_limits space _ is (is.indexes i no_index h).1
