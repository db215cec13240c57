-- What is read from the left is what the grammar says.
use Rattle.std.proofs.Common.{◌≡◌, ◌≢◌, ℕ, ◌==◌, Bool, true, false, ◌&&◌, not, List, [], ◌∷◌, ◌++◌, map, Option, Some, None, refl, sym, ap, subst, ◌∙◌, eqb-true, append_assoc}
use Rattle.std.specs.List.{list_all, join_with_byte}
use Rattle.std.proofs.lemmas.Bool.{and_parts, and_from}
use Rattle.std.proofs.lemmas.List.Folds.{list_all-append}
use Rattle.std.proofs.lemmas.List.Splits.{join_with_byte-slice_split, slice_split-cons_yes, slice_split-cons_no}
use Rattle.std.proofs.lemmas.Option.{none-some, same_Some}
use Rattle.tce_fields.specs.Fields.{lacks}
use Rattle.tce_fields.proofs.Splitting.{split_joined, onto_some}
use Rattle.tce_fields.proofs.Listing.{joined_lacks}
use Rattle.tce_grammar.specs.Reading.{◌>>=◌}
use Rattle.tce_grammar.proofs.Sound.{bind_some}
use Rattle.tce_einsum.specs.Text.{Einsum, Size, is_label, are_labels, size_text, text_of, IsText}
use Rattle.tce_einsum.specs.Reading.{cut, sizes_of, operands_of, output_of, einsum_in, einsum_of, comma_parts}
use Rattle.tce_einsum.specs.Laws.{ReadingIsTheGrammar, TextsHaveOneReading}
use Rattle.tce_einsum.proofs.Cuts.{cut_front, Joins, cut_joins}
use Rattle.tce_einsum.proofs.Sizes.{all_sizes_written, all_sizes_sound}

-- no byte below the letters stands among labels
labels_lack : (c : ℕ) (letters : List ℕ) → is_label c ≡ false → are_labels letters ≡ true → lacks c letters ≡ true
labels_lack c [] apart all = refl
labels_lack c (b ∷ bs) apart all =
    let parts = and_parts (is_label b) (are_labels bs) all in
    and_from (not (b == c)) (lacks c bs) (by_byte (b == c) refl parts.0) (labels_lack c bs apart parts.1)
  where
    by_byte : (d : Bool) → (b == c) ≡ d → is_label b ≡ true → not (b == c) ≡ true
    by_byte false e label = rw e refl
    by_byte true e label = absurd (let none : false ≡ true = sym apart ∙ ap is_label (sym (eqb-true b c e)) ∙ label in cc)

operands_lack : (c : ℕ) (operands : List (List ℕ)) → is_label c ≡ false → list_all are_labels operands ≡ true → list_all (lacks c) operands ≡ true
operands_lack c [] apart all = refl
operands_lack c (o ∷ os) apart all =
    let parts = and_parts (are_labels o) (list_all are_labels os) all in
    and_from (lacks c o) (list_all (lacks c) os) (labels_lack c o apart parts.0) (operands_lack c os apart parts.1)

pub operands_by_test : (text : List ℕ) → list_all are_labels (comma_parts text) ≡ true → operands_of text ≡ Some (comma_parts text)
unfolding operands_of
operands_by_test text e = rw e refl

pub operands_refused : (text : List ℕ) → list_all are_labels (comma_parts text) ≡ false → operands_of text ≡ None
unfolding operands_of
operands_refused text e = rw e refl

operands_written : (os : List (List ℕ)) → os ≢ [] → list_all are_labels os ≡ true → operands_of (join_with_byte 44 os) ≡ Some os
operands_written os some all =
    let same : comma_parts (join_with_byte 44 os) ≡ os = split_joined 44 os some (operands_lack 44 os refl all) in
    operands_by_test (join_with_byte 44 os) (ap (list_all are_labels) same ∙ all) ∙ ap (λ (found : List (List ℕ)). Some found) same

parts_some : (text : List ℕ) → comma_parts text ≢ []
parts_some [] = λ e. cc
parts_some (b ∷ bs) = by_byte (b == 44) refl
  where
    by_byte : (d : Bool) → (b == 44) ≡ d → comma_parts (b ∷ bs) ≢ []
    by_byte true e = λ is. let none = sym (slice_split-cons_yes (λ b. b == 44) b bs e) ∙ is in cc
    by_byte false e = λ is. onto_some b (comma_parts bs) (sym (slice_split-cons_no (λ b. b == 44) b bs e) ∙ is)

-- operands that are some, and have the text
pub record AreOperandsOf (text : List ℕ) (os : List (List ℕ)) : Type 0 where
  pub some : os ≢ []
  pub labels : list_all are_labels os ≡ true
  pub text_is : text ≡ join_with_byte 44 os

operands_sound : (text : List ℕ) (os : List (List ℕ)) → operands_of text ≡ Some os → AreOperandsOf text os
operands_sound text os e = by_test (list_all are_labels (comma_parts text)) refl
  where
    by_test : (d : Bool) → list_all are_labels (comma_parts text) ≡ d → AreOperandsOf text os
    by_test true p =
        subst (AreOperandsOf text) (same_Some (comma_parts text) os (sym (operands_by_test text p) ∙ e))
        (record { some = parts_some text; labels = p; text_is = sym (join_with_byte-slice_split 44 text) })
    by_test false p = absurd (none-some os (sym (operands_refused text p) ∙ e))

output_empty : output_of [] ≡ None
unfolding output_of
output_empty = refl

output_by_test : (b : ℕ) (labels : List ℕ) → (b == 62 && are_labels labels) ≡ true → output_of (b ∷ labels) ≡ Some labels
unfolding output_of
output_by_test b labels e = rw e refl

output_refused : (b : ℕ) (labels : List ℕ) → (b == 62 && are_labels labels) ≡ false → output_of (b ∷ labels) ≡ None
unfolding output_of
output_refused b labels e = rw e refl

output_sound : (text labels : List ℕ) → output_of text ≡ Some labels → (are_labels labels ≡ true) × (text ≡ 62 ∷ labels)
output_sound [] labels e = absurd (none-some labels (sym output_empty ∙ e))
output_sound (b ∷ bs) labels e = by_test (b == 62 && are_labels bs) refl
  where
    by_test : (d : Bool) → (b == 62 && are_labels bs) ≡ d → (are_labels labels ≡ true) × (b ∷ bs ≡ 62 ∷ labels)
    by_test true p =
        let parts = and_parts (b == 62) (are_labels bs) p in
        subst (λ (found : List ℕ). (are_labels found ≡ true) × (b ∷ bs ≡ 62 ∷ found)) (same_Some bs labels (sym (output_by_test b bs p) ∙ e))
        (parts.1, ap (λ x. x ∷ bs) (eqb-true b 62 parts.0))
    by_test false p = absurd (none-some labels (sym (output_refused b bs p) ∙ e))

-- the text in front of the sizes
abbrev head_text : Einsum → List ℕ
head_text e = join_with_byte 44 e.operands ++ (45 ∷ 62 ∷ e.output)

text_halves : (e : Einsum) → text_of e ≡ head_text e ++ 64 ∷ join_with_byte 44 (map size_text e.sizes)
text_halves e = sym (append_assoc (join_with_byte 44 e.operands) (45 ∷ 62 ∷ e.output) (64 ∷ join_with_byte 44 (map size_text e.sizes)))

einsum_cut : (text : List ℕ) (halves sides : List ℕ × List ℕ) → cut 64 text ≡ Some halves → cut 45 halves.0 ≡ Some sides → einsum_of text ≡ einsum_in sides.0 sides.1 halves.1
unfolding einsum_of
einsum_cut text halves sides first second =
    ap (λ (o : Option (List ℕ × List ℕ)). o >>= λ (h : List ℕ × List ℕ). cut 45 h.0 >>= λ (s : List ℕ × List ℕ). einsum_in s.0 s.1 h.1) first
    ∙ ap (λ (o : Option (List ℕ × List ℕ)). o >>= λ (s : List ℕ × List ℕ). einsum_in s.0 s.1 halves.1) second

parts_read : (operands output sizes : List ℕ) (e : Einsum) → operands_of operands ≡ Some e.operands → output_of output ≡ Some e.output → sizes_of sizes ≡ Some e.sizes
    → einsum_in operands output sizes ≡ Some e
parts_read operands output sizes e p q r =
    ap (λ (o : Option (List (List ℕ))). o >>= λ (ops : List (List ℕ)). output_of output >>= λ (out : List ℕ). sizes_of sizes >>= λ (ss : List Size).
    Some (record { operands = ops; output = out; sizes = ss })) p
    ∙ ap (λ (o : Option (List ℕ)). o >>= λ (out : List ℕ). sizes_of sizes >>= λ (ss : List Size). Some (record { operands = e.operands; output = out; sizes = ss })) q
    ∙ ap (λ (o : Option (List Size)). o >>= λ (ss : List Size). Some (record { operands = e.operands; output = e.output; sizes = ss })) r

einsum_written : (text : List ℕ) (e : Einsum) → IsText text e → einsum_of text ≡ Some e
einsum_written text e is =
    let labels : lacks 45 (join_with_byte 44 e.operands) ≡ true = joined_lacks 45 44 e.operands refl (operands_lack 45 e.operands refl is.operands) in
    let head : lacks 64 (head_text e) ≡ true =
    list_all-append (λ b. not (b == 64)) (join_with_byte 44 e.operands) (45 ∷ 62 ∷ e.output)
    ∙ and_from (lacks 64 (join_with_byte 44 e.operands)) (lacks 64 e.output)
    (joined_lacks 64 44 e.operands refl (operands_lack 64 e.operands refl is.operands)) (labels_lack 64 e.output refl is.output) in
    einsum_cut text (head_text e, join_with_byte 44 (map size_text e.sizes)) (join_with_byte 44 e.operands, 62 ∷ e.output)
    (ap (cut 64) (is.text_is ∙ text_halves e) ∙ cut_front 64 (head_text e) (join_with_byte 44 (map size_text e.sizes)) head)
    (cut_front 45 (join_with_byte 44 e.operands) (62 ∷ e.output) labels)
    ∙ parts_read (join_with_byte 44 e.operands) (62 ∷ e.output) (join_with_byte 44 (map size_text e.sizes)) e
    (operands_written e.operands is.some is.operands) (output_by_test 62 e.output (and_from true (are_labels e.output) refl is.output)) (all_sizes_written e.sizes is.sizes)

parts_sound : (operands output sizes text : List ℕ) (e : Einsum) → text ≡ (operands ++ 45 ∷ output) ++ 64 ∷ sizes → einsum_in operands output sizes ≡ Some e → IsText text e
parts_sound operands output sizes text e joined is =
    let ops = bind_some (operands_of operands) _ e is in
    let out = bind_some (output_of output) _ e ops.2 in
    let ss = bind_some (sizes_of sizes) _ e out.2 in
    let found : Einsum = record { operands = ops.0; output = out.0; sizes = ss.0 } in
    let are = operands_sound operands ops.0 ops.1 in
    let labels = output_sound output out.0 out.1 in
    let given = all_sizes_sound sizes ss.0 ss.1 in
    subst (IsText text) (same_Some found e ss.2) (record {
      some = are.some;
      operands = are.labels;
      output = labels.0;
      sizes = given.0;
      text_is = joined ∙ (λ i. (are.text_is i ++ 45 ∷ labels.1 i) ++ 64 ∷ given.1 i) ∙ sym (text_halves found);
    })

einsum_steps : (text : List ℕ) (e : Einsum) → einsum_of text ≡ Some e
    → (cut 64 text >>= λ (h : List ℕ × List ℕ). cut 45 h.0 >>= λ (s : List ℕ × List ℕ). einsum_in s.0 s.1 h.1) ≡ Some e
unfolding einsum_of
einsum_steps text e is = is

einsum_sound : (text : List ℕ) (e : Einsum) → einsum_of text ≡ Some e → IsText text e
einsum_sound text e is =
    let first = bind_some (cut 64 text) _ e (einsum_steps text e is) in
    let second = bind_some (cut 45 first.0.0) _ e first.2 in
    let whole : text ≡ first.0.0 ++ 64 ∷ first.0.1 = subst (Joins 64 text) first.1 (cut_joins 64 text) in
    let head : first.0.0 ≡ second.0.0 ++ 45 ∷ second.0.1 = subst (Joins 45 first.0.0) second.1 (cut_joins 45 first.0.0) in
    parts_sound second.0.0 second.0.1 first.0.1 text e (whole ∙ ap (λ (xs : List ℕ). xs ++ 64 ∷ first.0.1) head) second.2

pub reading_is_the_grammar : ReadingIsTheGrammar
reading_is_the_grammar text e = (einsum_sound text e, einsum_written text e)

pub texts_have_one_reading : TextsHaveOneReading
texts_have_one_reading text a b p q = same_Some a b (sym (einsum_written text a p) ∙ einsum_written text b q)
