use Rattle.std.proofs.Common.{◌≡◌, ◌*◌, ◌<◌, ◌≤◌, ◌^◌, ap, sym, subst, ◌∙◌, refl, inl, inr, ℕ, arith}
use Rattle.std.proofs.lemmas.Bool.{cases_lt}
use Rattle.tce_space.specs.Box.{product}
use Rattle.tce_space.specs.Tiling.{Tiling, ArePositive, counts_along, tile_words, tiles, padded_words}
use Rattle.tce_space.proofs.Counts.{counts_positive}
use Rattle.tce_space.proofs.Products.{product_positive, within_quotient}
use Rattle.tce_space.proofs.shape.shape_of.Goals as goal

sames : (a b p q : ℕ) → a ≡ p → b ≡ q → p * q ≡ a * b
sames a b p q e f = cc

abbrev shape : goal.In-None → Tiling
shape c = record { extents = c.args.extents.items; edges = c.args.edges.items }

words_are : (c : goal.After-as_slice-4) → c.in-Some.tile_words ≡ product c.args.edges.items
words_are c = c.in-Some.ensures.1 ∙ ap product c.as_slice.ensures.value

counts : (c : goal.After-as_slice-4) → c.as_slice-4.result.now ≡ counts_along c.args.extents.items c.args.edges.items
counts c = c.as_slice-4.ensures.value ∙ c.tile_counts_of-counts.ensures ∙ ap (λ ns. counts_along ns c.as_slice-3.result.now) c.as_slice-2.ensures.value ∙ ap (counts_along c.args.extents.items) c.as_slice-3.ensures.value

pub nonzero_div-tile_words : goal.nonzero_div-tile_words
nonzero_div-tile_words c = omega (arith, words_are c, product_positive c.args.edges.items c.requires.positive)

pub product_within-requires-2-clause-positive : goal.product_within-requires-2-clause-positive
product_within-requires-2-clause-positive c = subst ArePositive (sym (counts c)) (counts_positive c.args.extents.items c.args.edges.items c.requires.sizes c.requires.positive)

pub product_within-requires-2-clause-some : goal.product_within-requires-2-clause-some
product_within-requires-2-clause-some c =
    (within_quotient c.in-Some.tile_words 1 (2 ^ 48) (nonzero_div-tile_words c)).1 (omega (arith, c.in-Some.ensures.0, c.in-Some.ensures.1))

pub returns-in-None-clause-array_words : goal.returns-in-None-clause-array_words
returns-in-None-clause-array_words c =
    let words : c.in-Some.tile_words ≡ tile_words (shape c) = c.in-Some.ensures.1 ∙ ap product c.as_slice.ensures.value in
    let some : 0 < c.in-Some.tile_words = omega (arith, words, product_positive c.args.edges.items c.requires.positive) in
    let count : product c.as_slice-4.result.now ≡ tiles (shape c) =
    ap product (c.as_slice-4.ensures.value ∙ c.tile_counts_of-counts.ensures ∙ ap (λ ns. counts_along ns c.as_slice-3.result.now) c.as_slice-2.ensures.value
    ∙ ap (counts_along c.args.extents.items) c.as_slice-3.ensures.value) in
    let large : 2 ^ 48 < padded_words (shape c) =
    elim (cases_lt (2 ^ 48) (padded_words (shape c))) [
      | inl l ↦ l
      | inr l ↦ absurd (c.in-None.ensures ((within_quotient c.in-Some.tile_words (product c.as_slice-4.result.now) (2 ^ 48) some).1 (subst (λ n. n ≤ 2 ^ 48) (sames _ _ _ _ words count) l)))
    ] in
    ((λ e. (omega (arith, words, c.in-Some.ensures), large)), (λ h. refl))
