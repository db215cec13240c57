use Rattle.std.proofs.Common.{◌≡◌, ◌∙◌, ℕ, ◌*◌, ◌<◌, List, length, drop, get_or, refl, sym, ap, subst, arith}
use Rattle.tce_base.specs.Word.{word_of_bytes}
use Rattle.tce_base.proofs.WordBytes.{length-words}
use Rattle.tce_space.specs.Box.{place}
use Rattle.tce_space.proofs.Boxes.{place-lt}
use Rattle.tce_array.specs.declared.form.Form.TheVariants.{One}
use Rattle.tce_array.specs.Forms.{word_in, Fits}
use Rattle.tce_array.proofs.WordBytes.{word_of_words}
use Rattle.tce_array.proofs.Fitting.{words_fit}
use Rattle.tce_tools.specs.Flat.{in_order, flat_bytes}
use Rattle.tce_tools.proofs.Stored.{flat_holds}
use Rattle.tce_tools.proofs.Worked.{rows_first, two_words, first_number, second_number, third_number, fourth_number, fourth_digit}
use Rattle.tce_tools.proofs.laws.flat_files_hold_their_elements.Goals as goal

one_word : (bytes : List ℕ) → word_in One bytes ≡ word_of_bytes 8 bytes
unfolding word_in
one_word bytes = refl

-- the worked rows stand here, since only lemmas that are cited are checked
pub returns : goal.returns
returns c =
    let row0 = rows_first in
    let row1 = two_words in
    let row2 = first_number in
    let row3 = second_number in
    let row4 = third_number in
    let row5 = fourth_number in
    let row6 = fourth_digit in
    λ s element. (
      length-words 8 (in_order s element) ∙ ap (λ n. 8 * n) ((flat_holds s).count element),
      λ xs inside small.
          let k : ℕ = place s.extents xs in
          let is : get_or (in_order s element) k 0 ≡ element xs = (flat_holds s).word element xs inside in
          let short : k < length (in_order s element) = omega (arith, place-lt s.extents xs inside, (flat_holds s).count element) in
          let fits : Fits One (get_or (in_order s element) k 0) = subst (Fits One) (sym is) ((words_fit.eight (element xs) small).0) in
          sym (one_word (drop (8 * k) (flat_bytes s element))) ∙ word_of_words One (in_order s element) k short fits ∙ is,
    )
