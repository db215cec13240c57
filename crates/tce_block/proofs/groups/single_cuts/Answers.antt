use Rattle.std.proofs.Common.{◌≡◌, ◌∙◌, ℕ, zero, suc, ◌+◌, ◌<◌, List, [], ◌∷◌, ◌++◌, length, map, take, get_or, sym, ap, subst, arith}
use Rattle.std.specs.List.{All}
use Rattle.std.proofs.lemmas.List.{take_more, map-append}
use Rattle.std.proofs.lemmas.List.Elements.{All-append, All-cons, All-nil}
use Rattle.tce_block.specs.Cuts.{IsCut}
use Rattle.tce_block.specs.Grouped.{ones}
use Rattle.tce_block.specs.Numbers.{AreWithin}
use Rattle.tce_block.specs.declared.cut.Cut.{Cut}
use Rattle.tce_block.proofs.groups.single_cuts.Goals as goal

abbrev single : ℕ → Cut
single n = record { index = 0; extent = n; edge = 1 }

single-is : (ls : List ℕ) (d : ℕ) → AreWithin ls (ones ls) → d < length ls → IsCut (single (get_or ls d 0))
single-is [] d h l = absurd (omega (arith, l))
single-is (n ∷ ls) zero h l = record { limit = h.0; edge_some = omega arith; edge_limit = h.2 }
single-is (n ∷ ls) (suc d) h l = single-is ls d h.3 (omega (arith, l))

pub loop-extent-preserved : goal.loop-extent-preserved
loop-extent-preserved c =
    let ls : List ℕ = c.args.lengths.now in
    let i : ℕ = c.loop-extent.extent-index in
    let cuts : List Cut = c.loop-extent.cuts.items in
    let more : take i ls ++ get_or ls i 0 ∷ [] ≡ take (i + 1) ls = sym (take_more ls i 0 (omega arith)) in
    record {
      cuts =
          subst (All IsCut) (sym c.push.ensures.items)
          (All-append IsCut cuts (single (get_or ls i 0) ∷ []) c.loop-extent.invariant.cuts (All-cons IsCut (single (get_or ls i 0)) [] (single-is ls i c.requires.lengths (omega arith)) (All-nil IsCut)));
      extents =
          ap (map (λ (k : Cut). k.extent)) c.push.ensures.items ∙ map-append (λ (k : Cut). k.extent) cuts (single (get_or ls i 0) ∷ [])
          ∙ ap (λ xs. xs ++ get_or ls i 0 ∷ []) c.loop-extent.invariant.extents ∙ more;
      edges =
          ap (map (λ (k : Cut). k.edge)) c.push.ensures.items ∙ map-append (λ (k : Cut). k.edge) cuts (single (get_or ls i 0) ∷ [])
          ∙ ap (λ xs. xs ++ 1 ∷ []) c.loop-extent.invariant.edges ∙ sym (map-append (λ n. 1) (take i ls) (get_or ls i 0 ∷ []))
          ∙ ap ones more;
      long = omega arith;
    }
