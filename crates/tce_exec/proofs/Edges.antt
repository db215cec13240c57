-- The blocks of a box stay between its edges.
use Rattle.std.proofs.Common.{◌≡◌, ℕ, suc, ◌+◌, ◌*◌, ◌%◌, ◌<◌, ◌≤◌, true, false, if◌then◌else◌, List, [], ◌∷◌, map, length, slice_get, Some, refl, sym, ap, ◌∙◌, subst, inl, inr, arith}
use Rattle.std.proofs.Math.Nat.{mul-mod_left, zero-mod}
use Rattle.std.proofs.lemmas.Bool.{cases_Bool, cases_eq, eq-eqb, ne_eqb, false≢true}
use Rattle.tce_space.specs.Tiling.{ArePositive}
use Rattle.tce_tree.specs.Value.{Assignment, assignment}
use Rattle.tce_tree.specs.WellFormed.{among}
use Rattle.tce_tree.proofs.Lists.{among_rest}
use Rattle.tce_block.specs.Parts.{Part, beginnings, blocks}
use Rattle.tce_block.specs.Laws.{AreParts}
use Rattle.tce_block.proofs.Cover.{block_numbers}
use Rattle.tce_block.proofs.Fitting.{fit_the_box}
use Rattle.tce_exec.specs.Turns.{turns_of}
use Rattle.tce_exec.specs.TilesOfBlocks.{AreTurnsOfBlock, BlocksStayInTiles}

-- one loop of a part
pub record IsLoop (extent edge from len : ℕ) : Type 0 where
  pub some : 0 < len
  pub short : len ≤ edge
  pub inside : from + len ≤ extent

-- each loop of a part, by its index
pub loop_of : (extent edge : ℕ → ℕ) (order fs ls : List ℕ) (i : ℕ) → AreParts (map extent order) (map edge order) fs ls → among order i ≡ true
    → IsLoop (extent i) (edge i) (assignment order fs i) (assignment order ls i)
loop_of extent edge [] fs ls i h m = absurd (false≢true m)
loop_of extent edge (x ∷ xs) [] ls i h m = absurd h
loop_of extent edge (x ∷ xs) (f ∷ fs) [] i h m = absurd h
loop_of extent edge (x ∷ xs) (f ∷ fs) (l ∷ ls) i h m =
    elim (cases_eq i x) [
      | inl e ↦
          let from : assignment (x ∷ xs) (f ∷ fs) i ≡ f = ap (λ b. if b then f else assignment xs fs i) (eq-eqb i x e) in
          let len : assignment (x ∷ xs) (l ∷ ls) i ≡ l = ap (λ b. if b then l else assignment xs ls i) (eq-eqb i x e) in
          record { some = omega (arith, h.0, len); short = omega (arith, h.1, len, ap edge e); inside = omega (arith, h.2, from, len, ap extent e) }
      | inr n ↦
          let from : assignment (x ∷ xs) (f ∷ fs) i ≡ assignment xs fs i = ap (λ b. if b then f else assignment xs fs i) (ne_eqb i x n) in
          let len : assignment (x ∷ xs) (l ∷ ls) i ≡ assignment xs ls i = ap (λ b. if b then l else assignment xs ls i) (ne_eqb i x n) in
          let rest = loop_of extent edge xs fs ls i h.3 (among_rest x xs i n m) in
          record { some = omega (arith, rest.some, len); short = omega (arith, rest.short, len); inside = omega (arith, rest.inside, from, len) }
    ]

-- each loop of a block begins at a multiple of its edge
pub begins : (edge : ℕ → ℕ) (order bs : List ℕ) (i : ℕ) → assignment order (beginnings (map edge order) bs) i % edge i ≡ 0
begins edge [] bs i = zero-mod (edge i)
begins edge (x ∷ xs) [] i = zero-mod (edge i)
begins edge (x ∷ xs) (b ∷ bs) i =
    elim (cases_eq i x) [
      | inl e ↦
          ap (λ t. (if t then b * edge x else assignment xs (beginnings (map edge xs) bs) i) % edge i) (eq-eqb i x e)
          ∙ ap (λ n. b * edge x % edge n) e
          ∙ mul-mod_left b (edge x)
      | inr n ↦
          ap (λ t. (if t then b * edge x else assignment xs (beginnings (map edge xs) bs) i) % edge i) (ne_eqb i x n)
          ∙ begins edge xs bs i
    ]

-- how many numbers the loops of a part have
record AreLens (order ls : List ℕ) : Type 0 where
  as_many : length ls ≡ length order
  some : ArePositive ls

lens : (extent edge : ℕ → ℕ) (order fs ls : List ℕ) → AreParts (map extent order) (map edge order) fs ls → AreLens order ls
lens extent edge [] [] [] h = record { as_many = refl; some = tt }
lens extent edge [] [] (l ∷ ls) h = absurd h
lens extent edge [] (f ∷ fs) ls h = absurd h
lens extent edge (x ∷ xs) [] ls h = absurd h
lens extent edge (x ∷ xs) (f ∷ fs) [] h = absurd h
lens extent edge (x ∷ xs) (f ∷ fs) (l ∷ ls) h =
    let rest = lens extent edge xs fs ls h.3 in
    record { as_many = ap suc rest.as_many; some = (h.0, rest.some) }

pub same_lengths : (f g : ℕ → ℕ) (xs : List ℕ) → length (map f xs) ≡ length (map g xs)
same_lengths f g [] = refl
same_lengths f g (x ∷ xs) = omega (arith, same_lengths f g xs)

-- a part whose loops are within edges and begin at multiples of these
pub parts_stay_in_tiles : (extent edge : ℕ → ℕ) (order : List ℕ) (a : Assignment) (part : Part) → AreParts (map extent order) (map edge order) part.from part.len
    → ((i : ℕ) → assignment order part.from i % edge i ≡ 0) → AreTurnsOfBlock extent edge order a part
parts_stay_in_tiles extent edge order a part parts multiple = record {
  as_many = all.as_many;
  some = all.some;
  first = record {
    loops = λ i m. (omega arith, omega (arith, (loop i m).some));
    others = λ i o. refl;
  };
  between = λ i m. omega (arith, (loop i m).short, first i m, multiple i);
  inside = λ set round b turn i h. elim (cases_Bool (among order i)) [
    | inl m ↦ (let range = turn.loops i m in let upper : b i < (turns_of order a part).first i + assignment order part.len i = range.1 in omega (arith, (loop i m).inside, from i m))
    | inr o ↦ (let here = round i h o in omega (arith, turn.others i o, other i o))
  ];
}
  where
    all : AreLens order part.len
    all = lens extent edge order part.from part.len parts

    loop : (i : ℕ) → among order i ≡ true → IsLoop (extent i) (edge i) (assignment order part.from i) (assignment order part.len i)
    loop i m = loop_of extent edge order part.from part.len i parts m

    from : (i : ℕ) → among order i ≡ true → (turns_of order a part).first i ≡ assignment order part.from i
    from i m = ap (λ t. if t then assignment order part.from i else a i) m

    other : (i : ℕ) → among order i ≡ false → (turns_of order a part).first i ≡ a i
    other i o = ap (λ t. if t then assignment order part.from i else a i) o

    first : (i : ℕ) → among order i ≡ true → (turns_of order a part).first i % edge i ≡ assignment order part.from i % edge i
    first i m = ap (λ n. n % edge i) (from i m)

-- the loops of a block are within edges and begin at multiples of these
pub block_parts : (extent edge : ℕ → ℕ) (order : List ℕ) (k : ℕ) (part : Part) → ArePositive (map edge order) → slice_get (blocks (map extent order) (map edge order)) k ≡ Some part
    → AreParts (map extent order) (map edge order) part.from part.len
block_parts extent edge order k part positive at =
    fit_the_box (map extent order) (map edge order) (record { same_rank = same_lengths edge extent order; positive = positive }) k part at

pub block_begins_at : (extent edge : ℕ → ℕ) (order : List ℕ) (k : ℕ) (part : Part) → slice_get (blocks (map extent order) (map edge order)) k ≡ Some part
    → (i : ℕ) → assignment order part.from i % edge i ≡ 0
block_begins_at extent edge order k part at i =
    let numbers = block_numbers (map extent order) (map edge order) k part at in
    subst (λ (p : Part). assignment order p.from i % edge i ≡ 0) (sym numbers.part_is) (begins edge order numbers.numbers i)

pub blocks_stay_in_tiles : BlocksStayInTiles
blocks_stay_in_tiles extent edge order a k part positive at =
    parts_stay_in_tiles extent edge order a part (block_parts extent edge order k part positive at) (block_begins_at extent edge order k part at)
