-- Lines as they are pushed.
use Rattle.std.proofs.Common.{◌≡◌, ℕ, ◌+◌, List, codes, [], ◌∷◌, ◌++◌, map, ap, sym, ◌∙◌, append_assoc, zero-add}
use Rattle.std.specs.List.{flat_map, range_with_len}
use Rattle.std.proofs.lemmas.List.{flat_map_more}
use Rattle.std.proofs.lemmas.List.FromFn.{map-range_with_len_more}
use Rattle.std.proofs.lemmas.Grind.{flat_map-append}
use Rattle.std.specs.Fmt.{decimal}
use Rattle.tce_space.proofs.Ranges.{range_next}
use Rattle.tce_cert.specs.Lines.{table_line}
use Rattle.tce_cert.specs.Certificate.{text_of}

pub text_of-append : (xs ys : List (List ℕ)) → text_of (xs ++ ys) ≡ text_of xs ++ text_of ys
text_of-append xs ys = flat_map-append (λ (line : List ℕ). line ++ 10 ∷ []) xs ys

-- one more line and its line feed
pub line_pushed : (old text new line : List ℕ) (lines : List (List ℕ)) → text ≡ old ++ text_of lines → new ≡ text ++ (line ++ 10 ∷ []) → new ≡ old ++ text_of (lines ++ line ∷ [])
line_pushed old text new line lines is_text is_new =
    is_new ∙ ap (λ t. t ++ (line ++ 10 ∷ [])) is_text ∙ flat_map_more (λ (l : List ℕ). l ++ 10 ∷ []) old lines line

pub lines_pushed : (old text new : List ℕ) (lines more : List (List ℕ)) → text ≡ old ++ text_of lines → new ≡ text ++ text_of more → new ≡ old ++ text_of (lines ++ more)
lines_pushed old text new lines more is_text is_new =
    is_new ∙ ap (λ t. t ++ text_of more) is_text ∙ append_assoc old (text_of lines) (text_of more) ∙ ap (λ t. old ++ t) (sym (text_of-append lines more))

pub range_lines_more : (f : ℕ → List ℕ) (v : ℕ) → map f (range_with_len 0 v) ++ f v ∷ [] ≡ map f (range_with_len 0 (v + 1))
range_lines_more f v = sym (map-range_with_len_more f 0 v v (zero-add v))

-- the parts of a certificate one behind the other
pub certificate_pushed : (t0 t1 t2 t3 t4 t5 first last memory : List ℕ) (nodes tables : List (List ℕ))
    → t0 ≡ [] → t1 ≡ t0 ++ (first ++ 10 ∷ []) → t2 ≡ t1 ++ text_of nodes → t3 ≡ t2 ++ (memory ++ 10 ∷ []) → t4 ≡ t3 ++ text_of tables → t5 ≡ t4 ++ (last ++ 10 ∷ [])
    → t5 ≡ text_of (first ∷ (nodes ++ (memory ∷ (tables ++ last ∷ []))))
certificate_pushed t0 t1 t2 t3 t4 t5 first last memory nodes tables e0 e1 e2 e3 e4 e5 =
    let l1 = line_pushed [] t0 t1 first [] e0 e1 in
    let l2 = lines_pushed [] t1 t2 (first ∷ []) nodes l1 e2 in
    let l3 = line_pushed [] t2 t3 memory (first ∷ nodes) l2 e3 in
    let l4 = lines_pushed [] t3 t4 (first ∷ (nodes ++ memory ∷ [])) tables l3 e4 in
    let l5 = line_pushed [] t4 t5 last (first ∷ ((nodes ++ memory ∷ []) ++ tables)) l4 e5 in
    l5 ∙ ap (λ ls. text_of (first ∷ ls)) (append_assoc (nodes ++ memory ∷ []) tables (last ∷ []) ∙ append_assoc nodes (memory ∷ []) (tables ++ last ∷ []))

fed : (text with_line with_feed line : List ℕ) → with_line ≡ text ++ line → with_feed ≡ with_line ++ 10 ∷ [] → with_feed ≡ text ++ (line ++ 10 ∷ [])
fed text with_line with_feed line e1 e2 = e2 ∙ ap (λ t. t ++ 10 ∷ []) e1 ∙ append_assoc text line (10 ∷ [])

pub node_pushed : (f : ℕ → List ℕ) (old text with_line with_feed line : List ℕ) (v : ℕ)
    → text ≡ old ++ text_of (map f (range_with_len 0 v)) → line ≡ f v → with_line ≡ text ++ line → with_feed ≡ with_line ++ 10 ∷ []
    → with_feed ≡ old ++ text_of (map f (range_with_len 0 (v + 1)))
node_pushed f old text with_line with_feed line v is_text is_line e1 e2 =
    line_pushed old text with_feed (f v) (map f (range_with_len 0 v)) is_text (fed text with_line with_feed (f v) (e1 ∙ ap (λ l. text ++ l) is_line) e2)
    ∙ ap (λ ls. old ++ text_of ls) (range_lines_more f v)

-- one more table: its head line and the lines of its rows
pub table_pushed : (f : ℕ → List (List ℕ)) (old text head new first : List ℕ) (rest : List (List ℕ)) (v : ℕ)
    → text ≡ old ++ text_of (flat_map f (range_with_len 0 v)) → head ≡ text ++ (first ++ 10 ∷ []) → new ≡ head ++ text_of rest → f v ≡ first ∷ rest
    → new ≡ old ++ text_of (flat_map f (range_with_len 0 (v + 1)))
table_pushed f old text head new first rest v is_text is_head is_new is_table =
    lines_pushed old text new (flat_map f (range_with_len 0 v)) (f v) is_text
    (is_new ∙ ap (λ t. t ++ text_of rest) is_head ∙ append_assoc text (first ++ 10 ∷ []) (text_of rest) ∙ ap (λ ls. text ++ text_of ls) (sym is_table))
    ∙ ap (λ ls. old ++ text_of ls) (flat_range_more f v)
  where
    flat_range_more : (f : ℕ → List (List ℕ)) (v : ℕ) → flat_map f (range_with_len 0 v) ++ f v ≡ flat_map f (range_with_len 0 (v + 1))
    flat_range_more f v = flat_map_more f [] (range_with_len 0 v) v ∙ ap (flat_map f) (sym (range_next v))

pub table_head : (v rows : ℕ) → codes "table " ++ (decimal v ++ (codes " " ++ (decimal rows ++ codes "\n"))) ≡ table_line v rows ++ 10 ∷ []
table_head v rows = ap (λ t. codes "table " ++ t) (sym (append_assoc (decimal v) (codes " " ++ decimal rows) (10 ∷ [])))
