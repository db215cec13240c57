-- Blocks lie in their box.
use Rattle.std.proofs.Common.{◌≡◌, ℕ, ◌+◌, ◌*◌, ◌<◌, ◌≤◌, min, List, [], ◌∷◌, length, sym, subst, arith, Some}
use Rattle.std.specs.Prelude.{slice_get}
use Rattle.std.proofs.Math.Nat.{le-min, min-le_left, min-le_right}
use Rattle.tce_space.specs.Box.{IsInside}
use Rattle.tce_space.specs.Tiling.{ArePositive, counts_along}
use Rattle.tce_block.specs.Parts.{Part, beginnings, lengths, blocks}
use Rattle.tce_block.specs.Laws.{AreEdges, AreParts}
use Rattle.tce_block.proofs.Cover.{end_is, block_numbers}
use Rattle.tce_block.proofs.Dimensions.{begins_inside}

are_parts : (ns es bs : List ℕ) → length es ≡ length ns → ArePositive es → IsInside (counts_along ns es) bs → AreParts ns es (beginnings es bs) (lengths ns es bs)
are_parts [] [] [] l p h = tt
are_parts [] [] (b ∷ bs) l p h = absurd h
are_parts [] (e ∷ es) bs l p h = absurd (omega arith)
are_parts (n ∷ ns) [] bs l p h = absurd (omega arith)
are_parts (n ∷ ns) (e ∷ es) [] l p h = absurd h
are_parts (n ∷ ns) (e ∷ es) (b ∷ bs) l p h =
    let begins : b * e < n = begins_inside n e b p.0 h.0 in
    let next : (b + 1) * e ≡ b * e + e = omega arith in
    let end = end_is n e b (omega arith) in
    let high : b * e + 1 ≤ min ((b + 1) * e) n = le-min (omega (arith, p.0)) (omega arith) in
    let edge : min ((b + 1) * e) n ≤ (b + 1) * e = min-le_left _ _ in
    let extent : min ((b + 1) * e) n ≤ n = min-le_right _ _ in
    (omega arith, omega arith, omega arith, are_parts ns es bs (omega arith) p.1 h.1)

pub fit_the_box : (ns es : List ℕ) → AreEdges ns es → (k : ℕ) (part : Part) → slice_get (blocks ns es) k ≡ Some part → AreParts ns es part.from part.len
fit_the_box ns es a k part h =
    let at = block_numbers ns es k part h in
    subst (λ (p : Part). AreParts ns es p.from p.len) (sym at.part_is) (are_parts ns es at.numbers a.same_rank a.positive at.inside)
