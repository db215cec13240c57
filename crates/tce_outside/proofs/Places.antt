-- The first file of a name in a list, against the map that the list stands for.
use Rattle.std.proofs.Common.{◌≡◌, ◌≢◌, ◌++◌, ◌∙◌, ap, sym, refl, [], ◌∷◌, List, ℕ, zero, suc, Option, Some, None, position, ◌<◌, ◌⊎◌, inl, inr, length, Bool, true, false, cond, map, get_or, arith}
use Rattle.std.proofs.Math.ListN.{set}
use Rattle.std.proofs.lemmas.Grind.{common_steps}
use Rattle.std.proofs.lemmas.List.{map-append}
use Rattle.std.proofs.lemmas.List.Quantifiers.{position-Some}
use Rattle.std.proofs.lemmas.List.Sums.{fails_before_first}
use Rattle.std.proofs.lemmas.Map.Text.{is_eq-slice_cmp}
use Rattle.std.proofs.lemmas.Slice.Eq.{bytes_eq-Decides}
use Rattle.std.proofs.lemmas.Cmp.{nat_list_cmp_total}
use Rattle.std.proofs.lemmas.Bool.Decides.{not_from_Decides}
use Rattle.std.specs.Bool.{Decides}
use Rattle.std.specs.Ordering.{nat_cmp, eq_by_cmp}
use Rattle.std.specs.Cmp.Lexicographic.{slice_cmp}
use Rattle.std.specs.Str.{bytes_eq}
use Rattle.std.specs.String.{string_bytes}
use Rattle.std.specs.FinMap.{find, same_map, from_entries, get-from_entries, get-insert, from_entries_push, slice_cmp-IsAntisymmetric, nat_cmp-IsAntisymmetric}
use Rattle.tce_outside.specs.Files.{file, with_file}
use Rattle.tce_outside.specs.Memory.{entry, files_of}
use Rattle.tce_outside.specs.declared.memory.MemFile.{MemFile}

abbrev pub tied : List ℕ → List ℕ → Bool
tied p q = eq_by_cmp (slice_cmp nat_cmp) p q

pub tied_decides : (p q : List ℕ) → Decides (tied p q) (p ≡ q)
tied_decides p q = rw is_eq-slice_cmp (bytes_eq-Decides p q)

-- two names are the same, or not
pub same_name : (p q : List ℕ) → ((tied p q ≡ true) × (p ≡ q)) ⊎ ((tied p q ≡ false) × (p ≢ q))
same_name p q =
    elim (tied p q) as (λ b. tied p q ≡ b → ((b ≡ true) × (p ≡ q)) ⊎ ((b ≡ false) × (p ≢ q))) [
      | true ↦ λ e. inl (refl, (tied_decides p q).0 e)
      | false ↦ λ e. inr (refl, not_from_Decides _ (tied_decides p q) e)
    ] refl

abbrev find_file : List ℕ → List MemFile → Option (List ℕ)
find_file q fs = find (slice_cmp nat_cmp) q (map entry fs)

abbrev pub name_of : MemFile → List ℕ
name_of f = string_bytes f.name

find_absent : (q : List ℕ) (d : MemFile) (fs : List MemFile) → ((k : ℕ) → k < length fs → name_of (get_or fs k d) ≢ q) → find_file q fs ≡ None
find_absent q d [] h = refl
find_absent q d (f ∷ fs) h =
    let here : name_of f ≢ q = h 0 (omega arith) in
    let rest : find_file q fs ≡ None = find_absent q d fs (λ k l. h (suc k) (omega arith)) in
    elim (same_name q (name_of f)) [
      | inl s ↦ absurd (here (sym s.1))
      | inr s ↦ ap (λ b. cond b (Some f.bytes.items) (find_file q fs)) s.0 ∙ rest
    ]

find_first : (q : List ℕ) (d : MemFile) (fs : List MemFile) (i : ℕ) → i < length fs → name_of (get_or fs i d) ≡ q → ((k : ℕ) → k < i → name_of (get_or fs k d) ≢ q) → find_file q fs ≡ Some (get_or fs i d).bytes.items
find_first q d [] i l e h = absurd (omega arith)
find_first q d (f ∷ fs) zero l e h =
    elim (same_name q (name_of f)) [
      | inl s ↦ ap (λ b. cond b (Some f.bytes.items) (find_file q fs)) s.0
      | inr s ↦ absurd (s.1 (sym e))
    ]
find_first q d (f ∷ fs) (suc i) l e h =
    let here : name_of f ≢ q = h 0 (omega arith) in
    let rest = find_first q d fs i (omega arith) e (λ k m. h (suc k) (omega arith)) in
    elim (same_name q (name_of f)) [
      | inl s ↦ absurd (here (sym s.1))
      | inr s ↦ ap (λ b. cond b (Some f.bytes.items) (find_file q fs)) s.0 ∙ rest
    ]

find_set : (p q : List ℕ) (d x : MemFile) (fs : List MemFile) (i : ℕ) → name_of x ≡ q → i < length fs → name_of (get_or fs i d) ≡ q → ((k : ℕ) → k < i → name_of (get_or fs k d) ≢ q)
    → find_file p (set fs i x) ≡ cond (tied p q) (Some x.bytes.items) (find_file p fs)
find_set p q d x [] i n l e h = absurd (omega arith)
find_set p q d x (f ∷ fs) zero n l e h =
    rw (n, e) (elim (tied p q) as (λ b. cond b (Some x.bytes.items) (find_file p fs) ≡ cond b (Some x.bytes.items) (cond b (Some f.bytes.items) (find_file p fs))) [ true ↦ refl | false ↦ refl ])
find_set p q d x (f ∷ fs) (suc i) n l e h =
    let here : name_of f ≢ q = h 0 (omega arith) in
    let rest = find_set p q d x fs i n (omega arith) e (λ k m. h (suc k) (omega arith)) in
    elim (same_name p (name_of f)) [
      | inl s ↦ elim (same_name p q) [
        | inl t ↦ absurd (here (sym s.1 ∙ t.1))
        | inr t ↦ rw (s.0, t.0) refl
      ]
      | inr s ↦ rw (s.0) rest
    ]

abbrev pub is_named : List ℕ → MemFile → Bool
is_named q f = bytes_eq (name_of f) q

place_none : (q : List ℕ) (fs : List MemFile) → position (is_named q) fs ≡ None → find_file q fs ≡ None
place_none q [] e = refl
place_none q (f ∷ fs) e = find_absent q f (f ∷ fs) (λ k l. not_from_Decides _ (bytes_eq-Decides _ q) (fails_before_first (is_named q) (f ∷ fs) k f (grind (arith, common_steps))))

place_some : (q : List ℕ) (d : MemFile) (fs : List MemFile) (i : ℕ) → position (is_named q) fs ≡ Some i → find_file q fs ≡ Some (get_or fs i d).bytes.items
place_some q d fs i e =
    let found = position-Some (is_named q) fs i d e in
    find_first q d fs i found.0 ((bytes_eq-Decides _ q).0 found.1) (λ k l. not_from_Decides _ (bytes_eq-Decides _ q) (found.2 k l))

-- what a look-up in the list finds is what the map has
pub file-none : (q : List ℕ) (fs : List MemFile) → position (is_named q) fs ≡ None → file (files_of fs) q ≡ None
file-none q fs e = get-from_entries nat_list_cmp_total _ q ∙ place_none q fs e

pub file-some : (q : List ℕ) (d : MemFile) (fs : List MemFile) (i : ℕ) → position (is_named q) fs ≡ Some i → file (files_of fs) q ≡ Some (get_or fs i d).bytes.items
file-some q d fs i e = get-from_entries nat_list_cmp_total _ q ∙ place_some q d fs i e

-- the file that a look-up finds has the name
pub name-some : (q : List ℕ) (d : MemFile) (fs : List MemFile) (i : ℕ) → position (is_named q) fs ≡ Some i → (i < length fs) × (name_of (get_or fs i d) ≡ q)
name-some q d fs i e =
    let found = position-Some (is_named q) fs i d e in
    (found.0, (bytes_eq-Decides _ q).0 found.1)

-- to put other bytes in the first file of a name is to set that file
pub files_of-set : (q bytes : List ℕ) (x : MemFile) (fs : List MemFile) (i : ℕ) → position (is_named q) fs ≡ Some i → name_of x ≡ q → x.bytes.items ≡ bytes → files_of (set fs i x) ≡ with_file (files_of fs) q bytes
files_of-set q bytes x fs i e n b =
    (let found = position-Some (is_named q) fs i x e in
    same_map nat_list_cmp_total (slice_cmp-IsAntisymmetric nat_cmp-IsAntisymmetric) _ _ (λ p.
    get-from_entries nat_list_cmp_total _ p
    ∙ find_set p q x x fs i n found.0 ((bytes_eq-Decides _ q).0 found.1) (λ k l. not_from_Decides _ (bytes_eq-Decides _ q) (found.2 k l))
    ∙ sym (get-insert nat_list_cmp_total (files_of fs) q x.bytes.items p ∙ ap (cond (tied p q) (Some x.bytes.items)) (get-from_entries nat_list_cmp_total _ p))))
    ∙ ap (with_file (files_of fs) q) b

-- to push a file of a new name is to set that file
pub files_of-push : (q : List ℕ) (x : MemFile) (fs : List MemFile) → position (is_named q) fs ≡ None → name_of x ≡ q → files_of (fs ++ x ∷ []) ≡ with_file (files_of fs) q x.bytes.items
files_of-push q x fs e n =
    ap from_entries (map-append entry fs (x ∷ []))
    ∙ from_entries_push nat_list_cmp_total (slice_cmp-IsAntisymmetric nat_cmp-IsAntisymmetric) (map entry fs) (name_of x) x.bytes.items (rw n (place_none q fs e))
    ∙ ap (λ k. with_file (files_of fs) k x.bytes.items) n
