-- The lines of rows, one after the other.
use Rattle.std.proofs.Common.{◌≡◌, ℕ, ◌+◌, ◌<◌, ◌≤◌, List, [], ◌∷◌, ◌++◌, length, get_or, map, take, sym, ap, ◌∙◌, subst, inl, inr, arith, append_assoc, append-nil}
use Rattle.std.specs.List.{All}
use Rattle.std.proofs.lemmas.Bool.{cases_lt}
use Rattle.std.proofs.lemmas.Grind.{flat_map-append}
use Rattle.std.proofs.lemmas.List.{map-append, take_all, take_more}
use Rattle.std.proofs.lemmas.List.Elements.{at_read}
use Rattle.tce_space.specs.Space.{IndexSpace}
use Rattle.tce_fusion.specs.Row.{Row}
use Rattle.tce_cert.specs.Lines.{row_line}
use Rattle.tce_cert.specs.Certificate.{text_of, with_row, with_rows}

-- the text of the first rows
abbrev pub with_first : List ℕ → IndexSpace → List Row → ℕ → List ℕ
with_first text space rows k = text ++ text_of (map (row_line space) (take k rows))

pub row_pushed : (space : IndexSpace) (rows : List Row) (k : ℕ) (row : Row) (old mid new : List ℕ) → k < length rows → row ≡ get_or rows k row
    → mid ≡ with_first old space rows k → new ≡ with_row mid space row → new ≡ with_first old space rows (k + 1)
row_pushed space rows k row old mid new low is before pushed =
    pushed ∙ ap (λ t. with_row t space row) before ∙ append_assoc old (text_of (map (row_line space) (take k rows))) (row_line space row ++ 10 ∷ []) ∙ ap (λ t. old ++ t) (sym further)
  where
    further : text_of (map (row_line space) (take (k + 1) rows)) ≡ text_of (map (row_line space) (take k rows)) ++ (row_line space row ++ 10 ∷ [])
    further =
        ap (λ rs. text_of (map (row_line space) rs)) (take_more rows k row low ∙ ap (λ r. take k rows ++ r ∷ []) (sym is))
        ∙ ap text_of (map-append (row_line space) (take k rows) (row ∷ []))
        ∙ flat_map-append (λ line. line ++ 10 ∷ []) (map (row_line space) (take k rows)) (row_line space row ∷ [])
        ∙ ap (λ t. text_of (map (row_line space) (take k rows)) ++ t) (append-nil (row_line space row ++ 10 ∷ []))

pub all_pushed : (space : IndexSpace) (rows : List Row) (k : ℕ) (old new : List ℕ) → length rows ≤ k → new ≡ with_first old space rows k → new ≡ with_rows old space rows
all_pushed space rows k old new end before = before ∙ ap (λ rs. old ++ text_of (map (row_line space) rs)) (take_all k rows end)

-- what holds of the first rows
pub row_further : (P : Row → Type 0) (rows : List Row) (k : ℕ) (row : Row) → k < length rows → row ≡ get_or rows k row → ((j : ℕ) (d : Row) → j < k → P (get_or rows j d)) → P row
    → (j : ℕ) (d : Row) → j < k + 1 → P (get_or rows j d)
row_further P rows k row low is before here j d under = elim (cases_lt j k) [
  | inl earlier ↦ before j d earlier
  | inr later ↦ let at : k ≡ j = omega (arith, under, later) in subst (λ n. P (get_or rows n d)) at (at_read rows P k row low is here d)
]

pub all_rows : (P : Row → Type 0) (rows : List Row) (k : ℕ) → length rows ≤ k → ((j : ℕ) (d : Row) → j < k → P (get_or rows j d)) → All P rows
all_rows P rows k end before j d low = before j d (omega (arith, low, end))
