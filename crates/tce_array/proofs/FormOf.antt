-- The form of a file, by its head.
use Rattle.std.proofs.Common.{◌≡◌, ◌∙◌, ℕ, ◌≤◌, Bool, true, false, if◌then◌else◌, nat_lt, List, ◌++◌, length, take, drop, sym, refl, ap, arith, codes, length-append}
use Rattle.std.specs.Str.{bytes_eq}
use Rattle.std.proofs.lemmas.List.{take-append-drop}
use Rattle.tce_space.specs.Tiling.{Tiling}
use Rattle.tce_array.specs.declared.form.Form.{Form}
use Rattle.tce_array.specs.declared.form.Form.TheVariants.{One, Narrow, Wide}
use Rattle.tce_base.specs.Word.{word_bytes, word_of_bytes}
use Rattle.tce_array.specs.Forms.{form_by, form_of, head, head_len, IsForm}
use Rattle.tce_array.proofs.Contents.{length-head}

-- from the length on, the first bytes tell
told_by : List ℕ → Bool → Form
told_by bytes b = if b then One else form_by (bytes_eq (take 8 bytes) (codes "TCARRAY2")) (word_of_bytes 8 (drop 16 bytes))

long_enough : (bytes : List ℕ) (n : ℕ) → n ≤ length bytes → 24 ≤ n → nat_lt (length bytes) 24 ≡ false
long_enough bytes n is le = grind (arith, is, le)

behind_head : (form : Form) (s : Tiling) (rest : List ℕ) → form_of (head form s ++ rest) ≡ form
unfolding word_bytes word_of_bytes told_by
behind_head One s rest = elim (nat_lt (length (head One s ++ rest)) 24) as (λ b. told_by (head One s ++ rest) b ≡ One) [ true ↦ refl | false ↦ refl ]
behind_head Narrow s rest = ap (told_by (head Narrow s ++ rest)) (long_enough (head Narrow s ++ rest) (head_len Narrow s) (omega (arith, length-append (head Narrow s) rest, length-head Narrow s)) (omega arith))
behind_head Wide s rest = ap (told_by (head Wide s ++ rest)) (long_enough (head Wide s ++ rest) (head_len Wide s) (omega (arith, length-append (head Wide s) rest, length-head Wide s)) (omega arith))

-- a file of a form tells it
pub form_of_file : (form : Form) (s : Tiling) (bytes : List ℕ) → IsForm form s bytes → form_of bytes ≡ form
form_of_file form s bytes h =
    let whole : head form s ++ drop (head_len form s) bytes ≡ bytes = ap (λ l. l ++ drop (head_len form s) bytes) (sym h.begins) ∙ take-append-drop (head_len form s) bytes in
    ap form_of (sym whole) ∙ behind_head form s (drop (head_len form s) bytes)
