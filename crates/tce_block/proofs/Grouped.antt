-- Groups of blocks: their numbers, and the pairs that are left.
use Rattle.std.proofs.Common.{◌≡◌, ◌∙◌, ℕ, zero, suc, ◌+◌, ◌-◌, ◌*◌, ◌<◌, ◌≤◌, ◌^◌, min, Bool, true, false, if◌then◌else◌, List, [], ◌∷◌, length, map, drop, refl, sym, ap, ap₂, subst, arith, get_or, inl, inr, Some, None}
use Rattle.std.specs.Prelude.{◌⊎◌, slice_get}
use Rattle.std.specs.Int.{div_ceil}
use Rattle.std.specs.List.{All, flat_map}
use Rattle.std.proofs.lemmas.Grind.{div_ceil_times}
use Rattle.std.proofs.lemmas.List.Concat.{flat_map-cons}
use Rattle.std.proofs.lemmas.List.Elements.{All-append, All-drop, All-map, All-nil}
use Rattle.std.proofs.lemmas.Option.{get_or_from_slice_get, slice_get-get_or, slice_get_within}
use Rattle.std.proofs.Math.Nat.{min-le_right, mul-le-mul_left}
use Rattle.tce_space.proofs.Boxes.{length_inside}
use Rattle.tce_space.specs.Box.{product, IsInside}
use Rattle.tce_space.specs.Tiling.{counts_along}
use Rattle.tce_block.specs.Parts.{Part, block, blocks, beginnings, lengths}
use Rattle.tce_block.specs.Numbers.{AreWithin}
use Rattle.tce_block.specs.Cuts.{IsCut, extents_of, edges_of}
use Rattle.tce_block.specs.Grouped.{HasLengths, IsPair, block_at, grouped_blocks, numbers_of, ones, paired, pairs_left, pairs_of, shifted}
use Rattle.tce_block.specs.declared.cut.Cut.{Cut}
use Rattle.tce_block.proofs.Beginning.{within_limits}
use Rattle.tce_block.proofs.Cover.{block_numbers, length-blocks}
use Rattle.tce_block.proofs.Dimensions.{begins_inside}

-- ---- numbers of a group

pub length-shifted : (from xs : List ℕ) → length from ≡ length xs → length (shifted from xs) ≡ length xs
length-shifted [] xs e = refl
length-shifted (f ∷ from) [] e = absurd (let h : ⊥ = omega (arith, e) in h)
length-shifted (f ∷ from) (x ∷ xs) e = ap suc (length-shifted from xs (let r : length from ≡ length xs = omega (arith, e) in r))

pub ones_count : (ls : List ℕ) → counts_along ls (ones ls) ≡ ls
ones_count [] = refl
ones_count (l ∷ ls) =
    let all = div_ceil_times l 1 (omega arith) in
    let one : div_ceil l 1 ≡ l = omega (arith, all.0, all.1) in
    ap₂ (λ n ns. n ∷ ns) one (ones_count ls)

pub ones_begin : (ls bs : List ℕ) → length bs ≡ length ls → beginnings (ones ls) bs ≡ bs
ones_begin [] [] e = refl
ones_begin [] (b ∷ bs) e = absurd (let h : ⊥ = omega (arith, e) in h)
ones_begin (l ∷ ls) [] e = absurd (let h : ⊥ = omega (arith, e) in h)
ones_begin (l ∷ ls) (b ∷ bs) e = ap₂ (λ n ns. n ∷ ns) (let one : b * 1 ≡ b = omega arith in one) (ones_begin ls bs (let r : length bs ≡ length ls = omega (arith, e) in r))

pub numbers_inside : (ls : List ℕ) → All (λ (n : Part). IsInside ls n.from) (blocks ls (ones ls))
numbers_inside ls k d l =
    let n = block_numbers ls (ones ls) k (get_or (blocks ls (ones ls)) k d) (slice_get-get_or (blocks ls (ones ls)) k d l) in
    let low : IsInside ls n.numbers = subst (λ cs. IsInside cs n.numbers) (ones_count ls) n.inside in
    subst (IsInside ls) (sym (ap (λ (p : Part). p.from) n.part_is ∙ ones_begin ls n.numbers (length_inside ls n.numbers low))) low

some_numbers : (ls : List ℕ) → AreWithin ls (ones ls) → 0 < product ls
some_numbers [] h = omega arith
some_numbers (zero ∷ ls) h = absurd (let none : ⊥ = omega (arith, h.2) in none)
some_numbers (suc l ∷ ls) h = omega (arith, some_numbers ls h.3)

pub record HasFirst (ps : List Part) : Type 0 where
  pub part : Part
  pub is : slice_get ps 0 ≡ Some part

pub first_number : (g : Part) → HasLengths g → HasFirst (numbers_of g)
first_number g h =
    let some : 0 < length (numbers_of g) = omega (arith, some_numbers g.len h, length-blocks g.len (ones g.len), ap product (ones_count g.len)) in
    record { part = get_or (numbers_of g) 0 g; is = slice_get-get_or (numbers_of g) 0 g some }

-- ---- groups

pub record IsGroup (counts : List ℕ) (g : Part) : Type 0 where
  pub lengths : HasLengths g
  pub long : length g.from ≡ length g.len
  pub inside : (xs : List ℕ) → IsInside g.len xs → IsInside counts (shifted g.from xs)

pub group_is : (ns es bs : List ℕ) → AreWithin ns es → IsInside (counts_along ns es) bs → IsGroup ns (block ns es bs)
group_is [] [] [] w h = record { lengths = tt; long = refl; inside = λ xs i. i }
group_is [] [] (b ∷ bs) w h = absurd h
group_is [] (e ∷ es) bs w h = absurd w
group_is (n ∷ ns) [] bs w h = absurd w
group_is (n ∷ ns) (e ∷ es) [] w h = absurd h
group_is (n ∷ ns) (e ∷ es) (b ∷ bs) w h =
    let later = group_is ns es bs w.3 h.1 in
    let begins : b * e < n = begins_inside n e b w.1 h.0 in
    let more : (b + 1) * e ≡ b * e + e = omega arith in
    let limit : min ((b + 1) * e) n ≤ n = min-le_right _ _ in
    record {
      lengths = (omega (arith, w.0, limit), omega arith, omega (arith, begins, more, w.1), later.lengths);
      long = ap suc later.long;
      inside = inside b e n limit later.inside;
    }
  where
    inside : (b e n : ℕ) → min ((b + 1) * e) n ≤ n → ((xs : List ℕ) → IsInside (lengths ns es bs) xs → IsInside ns (shifted (beginnings es bs) xs))
        → (xs : List ℕ) → IsInside ((min ((b + 1) * e) n - b * e) ∷ lengths ns es bs) xs → IsInside (n ∷ ns) (shifted (b * e ∷ beginnings es bs) xs)
    inside b e n limit rest [] i = absurd i
    inside b e n limit rest (x ∷ xs) i = (omega (arith, i.0, limit), rest xs i.1)

pub groups_are : (ns es : List ℕ) → AreWithin ns es → All (IsGroup ns) (blocks ns es)
groups_are ns es w k d l =
    let n = block_numbers ns es k (get_or (blocks ns es) k d) (slice_get-get_or (blocks ns es) k d l) in
    subst (IsGroup ns) (sym n.part_is) (group_is ns es n.numbers w n.inside)

pub have_lengths : (ns es : List ℕ) → AreWithin ns es → All HasLengths (blocks ns es)
have_lengths ns es w k d l = (groups_are ns es w k d l).lengths

-- ---- pairs

pub all_flat : {X Y : Type 0} (P : Y → Type 0) (f : X → List Y) (xs : List X) → All (λ x. All P (f x)) xs → All P (flat_map f xs)
all_flat P f [] h = All-nil P
all_flat P f (x ∷ xs) h =
    subst (All P) (sym (flat_map-cons f x xs)) (All-append P (f x) (flat_map f xs) (h 0 x (omega arith)) (all_flat P f xs (λ k d l. h (suc k) d (omega (arith, l)))))

pair_is : (ns : List ℕ) (g n : Part) → IsGroup ns g → IsInside g.len n.from → IsPair ns (g, n)
pair_is ns g n h i = record { long = h.long ∙ sym (length_inside g.len n.from i); inside = h.inside n.from i }

pub pairs_inside : (ns es : List ℕ) → AreWithin ns es → All (IsPair ns) (pairs_of (blocks ns es))
pairs_inside ns es w =
    all_flat (IsPair ns) (λ g. paired g (numbers_of g)) (blocks ns es) (λ k d l.
    let g : Part = get_or (blocks ns es) k d in
    All-map (IsPair ns) (λ n. (g, n)) (numbers_of g) (λ j e m. pair_is ns g (get_or (numbers_of g) j e) (groups_are ns es w k d l) (numbers_inside g.len j e m)))

pub pair_first : (g n : Part) (numbers groups : List Part) → slice_get numbers 0 ≡ Some n → slice_get (pairs_left g numbers groups) 0 ≡ Some (g, n)
pair_first g n [] groups e = absurd (let h : ⊥ = cc in h)
pair_first g n (m ∷ numbers) groups e = ap (λ k. Some (g, k)) (let same : m ≡ n = cc in same)

pub pair_rest : (g n : Part) (numbers groups : List Part) → slice_get numbers 0 ≡ Some n → pairs_left g (drop 1 numbers) groups ≡ drop 1 (pairs_left g numbers groups)
pair_rest g n [] groups e = absurd (let h : ⊥ = cc in h)
pair_rest g n (m ∷ numbers) groups e = refl

pub pairs_over : (g : Part) (numbers groups : List Part) → slice_get numbers 0 ≡ None → pairs_left g numbers groups ≡ pairs_of groups
pairs_over g [] groups e = refl
pairs_over g (m ∷ numbers) groups e = absurd (let h : ⊥ = cc in h)

pub group_begins : (g : Part) (groups : List Part) → slice_get groups 0 ≡ Some g → pairs_of groups ≡ pairs_left g (numbers_of g) (drop 1 groups)
group_begins g [] e = absurd (let h : ⊥ = cc in h)
group_begins g (m ∷ groups) e = ap (λ k. pairs_left k (numbers_of k) groups) (let same : m ≡ g = cc in same)

pub none_over : (groups : List Part) → slice_get groups 0 ≡ None → pairs_of groups ≡ []
none_over [] e = refl
none_over (m ∷ groups) e = absurd (let h : ⊥ = cc in h)

-- the next group begins
pub opened_first : (g s n : Part) (numbers groups fresh : List Part) (found : Bool) → slice_get numbers 0 ≡ None → slice_get groups 0 ≡ Some s → HasLengths s → fresh ≡ numbers_of s
    → (if found then Some n else None) ≡ slice_get fresh 0 → (if found then Some (s, n) else None) ≡ slice_get (pairs_left g numbers groups) 0
opened_first g s n numbers groups fresh true over first long is e =
    sym (ap (λ ps. slice_get ps 0) (pairs_over g numbers groups over ∙ group_begins s groups first)
    ∙ pair_first s n (numbers_of s) (drop 1 groups) (ap (λ ps. slice_get ps 0) (sym is) ∙ sym e))
opened_first g s n numbers groups fresh false over first long is e =
    let some = first_number s long in
    let wrong : None ≡ Some some.part = e ∙ ap (λ ps. slice_get ps 0) is ∙ some.is in
    absurd (let h : ⊥ = cc in h)

pub opened_rest : (g s : Part) (numbers groups fresh : List Part) → slice_get numbers 0 ≡ None → slice_get groups 0 ≡ Some s → HasLengths s → fresh ≡ numbers_of s
    → pairs_left s (drop 1 fresh) (drop 1 groups) ≡ drop 1 (pairs_left g numbers groups)
opened_rest g s numbers groups fresh over first long is =
    let some = first_number s long in
    ap (λ ps. pairs_left s (drop 1 ps) (drop 1 groups)) is
    ∙ pair_rest s some.part (numbers_of s) (drop 1 groups) some.is
    ∙ ap (drop 1) (sym (pairs_over g numbers groups over ∙ group_begins s groups first))

-- ---- the first group

pub after_point : drop 1 (blocks [] []) ≡ []
unfolding blocks
after_point = refl

-- what stays true from one block to the next
pub record AreStill (ns : List ℕ) (g : Part) (numbers groups : List Part) : Type 0 where
  pub lengths : All HasLengths groups
  pub pairs : All (IsPair ns) (pairs_left g numbers groups)

pub still : (ns : List ℕ) (g h : Part) (numbers groups later rest : List Part) → All HasLengths groups → All (IsPair ns) (pairs_left g numbers groups)
    → pairs_left h later rest ≡ drop 1 (pairs_left g numbers groups) → (rest ≡ groups) ⊎ (rest ≡ drop 1 groups) → AreStill ns h later rest
still ns g h numbers groups later rest long inside left which = record {
  lengths = elim which [ inl e ↦ subst (All HasLengths) (sym e) long | inr e ↦ subst (All HasLengths) (sym e) (All-drop HasLengths 1 groups long) ];
  pairs = subst (All (IsPair ns)) (sym left) (All-drop (IsPair ns) 1 (pairs_left g numbers groups) inside);
}

pub first_pair : (ns : List ℕ) (pairs : List (Part × Part)) (pair : Part × Part) → All (IsPair ns) pairs → Some pair ≡ slice_get pairs 0 → IsPair ns pair
first_pair ns pairs pair h e = subst (IsPair ns) (get_or_from_slice_get pairs 0 pair pair (sym e)) (h 0 pair (slice_get_within pairs 0 pair (sym e)))

-- its numbers are small
pub small_numbers : (ns es from xs : List ℕ) → AreWithin ns es → IsInside (counts_along ns es) (shifted from xs) → length from ≡ length xs → (d : ℕ) → d < length xs → get_or from d 0 + get_or xs d 0 < 2 ^ 32
small_numbers ns es [] [] w i e d l = absurd (omega (arith, l))
small_numbers ns es [] (x ∷ xs) w i e d l = absurd (let h : ⊥ = omega (arith, e) in h)
small_numbers ns es (f ∷ from) [] w i e d l = absurd (let h : ⊥ = omega (arith, e) in h)
small_numbers [] es (f ∷ from) (x ∷ xs) w i e d l = absurd i
small_numbers (n ∷ ns) [] (f ∷ from) (x ∷ xs) w i e d l = absurd w
small_numbers (n ∷ ns) (s ∷ es) (f ∷ from) (x ∷ xs) w i e zero l =
    let begins : (f + x) * s < n = begins_inside n s (f + x) w.1 i.0 in
    let more : (f + x) * 1 ≤ (f + x) * s = mul-le-mul_left (f + x) w.1 in
    omega (arith, begins, more, w.0)
small_numbers (n ∷ ns) (s ∷ es) (f ∷ from) (x ∷ xs) w i e (suc d) l =
    small_numbers ns es from xs w.3 i.1 (let r : length from ≡ length xs = omega (arith, e) in r) d (let r : d < length xs = omega (arith, l) in r)

pub record AreBegun (cuts sizes : List Cut) (extents edges : List ℕ) (g : Part) (numbers groups : List Part) : Type 0 where
  pub within : AreWithin extents edges
  pub lengths : All HasLengths groups
  pub pairs : All (IsPair (counts_along extents edges)) (pairs_left g numbers groups)
  pub first : map (block_at extents edges) (pairs_left g numbers groups) ≡ grouped_blocks (extents_of cuts) (edges_of cuts) (edges_of sizes)

pub begun : (cuts sizes : List Cut) (extents edges : List ℕ) (g : Part) (numbers groups : List Part) → All IsCut cuts → All IsCut sizes
    → extents_of sizes ≡ counts_along (extents_of cuts) (edges_of cuts) → extents ≡ extents_of cuts → edges ≡ edges_of cuts → numbers ≡ [] → groups ≡ blocks (extents_of sizes) (edges_of sizes)
    → AreBegun cuts sizes extents edges g numbers groups
begun cuts sizes extents edges g numbers groups are are_sizes counts a b none is =
    let ns : List ℕ = counts_along (extents_of cuts) (edges_of cuts) in
    let es : List ℕ = edges_of sizes in
    let along : counts_along extents edges ≡ ns = ap₂ counts_along a b in
    let within : AreWithin ns es = subst (λ ms. AreWithin ms es) counts (within_limits sizes are_sizes) in
    let all : groups ≡ blocks ns es = is ∙ ap (λ ms. blocks ms es) counts in
    let left : pairs_left g numbers groups ≡ pairs_of (blocks ns es) = ap₂ (pairs_left g) none all in
    record {
      within = subst (λ ms. AreWithin ms edges) (sym a) (subst (λ fs. AreWithin (extents_of cuts) fs) (sym b) (within_limits cuts are));
      lengths = subst (All HasLengths) (sym all) (have_lengths ns es within);
      pairs = subst (λ ms. All (IsPair ms) (pairs_left g numbers groups)) (sym along) (subst (All (IsPair ns)) (sym left) (pairs_inside ns es within));
      first = ap₂ (λ ms fs. map (block_at ms fs) (pairs_left g numbers groups)) a b ∙ ap (map (block_at (extents_of cuts) (edges_of cuts))) left;
    }
