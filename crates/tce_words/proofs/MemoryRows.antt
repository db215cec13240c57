-- Words side by side in memory, and room for words. Assumes `Logic`.
use Rattle.std.proofs.Common.{◌≡◌, ℕ, suc, ◌+◌, ◌*◌, List, [], ◌∷◌, ◌++◌, length, refl, ap, arith, w64}
use seplogic.Ra.Ura.{Ura}
use base.Fml.{ftrue, fsep, fat, froom}
use base.Fraction.{full_share}
use base.Logic.{ent, sep}
use lib.Dec.{T, lit<}
use mir.Syntax.{ty_int, ty_ptr, ty_struct, tcons, tnil}
use mir.Val.{Val, vint, vstruct, vcons, vnil, has_ty, WT}
use types.Kit.{‵, ◌$◌, ◌∵◌, !, qed, move, drop, use1, use2, fsplit, fjoin, rewrite, done}
use types.Logic.{Logic, sem}
use types.SemTy.{cells}
use denote.Builtin.{u64}
use denote.Index.{row}
use denote.Memory.{mem, part_at}
use denote.Plain.{uint_out}
use Rattle.tce_words.specs.Memory.{words_type}
use denote.RawPtr.{Ptr, block_ptr, null_ptr, ptr_val}

pub row_is_cells : (words : List ℕ) (b o : ℕ) → row u64 full_share words b o ≡ cells (mem u64) words b o
row_is_cells [] b o = refl
row_is_cells (w ∷ words) b o = ap (fsep (part_at u64 full_share w b o)) (row_is_cells words b (o + 8))

-- a struct of one pointer, as the machine stores it
abbrev pub base_val : Ptr → Val
base_val p = vstruct (vcons (ptr_val p) vnil)

pub base_val-typed : (p : Ptr) → T (has_ty (ty_struct [] (tcons ty_ptr tnil)) (base_val p)) × WT (base_val p)
base_val-typed (block_ptr b o) = (tt, (tt, tt))
base_val-typed null_ptr = (tt, (record { fits = lit< tt }, tt))

module _ {M : Type 1} {𝓤 : Ura M} (𝓛 : Logic 𝓤) (b : ℕ) where
  -- one word more, right behind the others
  pub row_more : (words : List ℕ) (word o at : ℕ) → at ≡ length words * 8 + o
      → ent 𝓤 (sep 𝓤 (sem 𝓛 (row u64 full_share words b o)) (sem 𝓛 (part_at u64 full_share word b at))) (sem 𝓛 (row u64 full_share (words ++ word ∷ []) b o))
  row_more [] word o at e =
      let here : at ≡ o = omega arith in
      qed 𝓛 (‵ ftrue ∷ ‵ (part_at u64 full_share word b at) ∷ []) ∵
      rewrite ! 1 (λ (k : ℕ). ‵ (part_at u64 full_share word b k)) here refl $ move ! (1 ∷ []) $ fjoin ! $ done !
  row_more (w ∷ words) word o at e =
      qed 𝓛 (‵ (row u64 full_share (w ∷ words) b o) ∷ ‵ (part_at u64 full_share word b at) ∷ []) ∵ fsplit ! $ move ! (1 ∷ 2 ∷ []) $
      use2 𝓛 (‵ (row u64 full_share (words ++ word ∷ []) b (o + 8))) (row_more words word (o + 8) at (omega arith)) $ move ! (1 ∷ 0 ∷ []) $ fjoin ! $ done !

  -- the words' places are room again, with what is behind them
  pub row_freed : (words : List ℕ) (left o at n : ℕ) → at ≡ length words * 8 + o → n ≡ length words + left
      → ent 𝓤 (sep 𝓤 (sem 𝓛 (row u64 full_share words b o)) (sem 𝓛 (froom (words_type left) b at))) (sem 𝓛 (froom (words_type n) b o))
  row_freed [] left o at n e total =
      let here : at ≡ o = omega arith in let all : left ≡ n = omega arith in
      qed 𝓛 (‵ ftrue ∷ ‵ (froom (words_type left) b at) ∷ []) ∵ drop ! $
      rewrite ! 0 (λ (k : ℕ). ‵ (froom (words_type left) b k)) here refl $ rewrite ! 0 (λ (k : ℕ). ‵ (froom (words_type k) b o)) all refl $ done !
  row_freed (w ∷ words) left o at n e total =
      let m : ℕ = length words + left in let one_more : suc m ≡ n = omega arith in
      qed 𝓛 (‵ (row u64 full_share (w ∷ words) b o) ∷ ‵ (froom (words_type left) b at) ∷ []) ∵ fsplit ! $
      use1 𝓛 (‵ (fat full_share (ty_int w64) b o (vint w64 w))) (uint_out 𝓛 full_share w64 w b o) $ use1 𝓛 (‵ (froom (ty_int w64) b o)) (𝓛.laws.at_room (ty_int w64) b o (vint w64 w)) $ move ! (1 ∷ 2 ∷ []) $
      use2 𝓛 (‵ (froom (words_type m) b (o + 8))) (row_freed words left (o + 8) at m (omega arith) refl) $ move ! (1 ∷ 0 ∷ []) $
      use2 𝓛 (‵ (froom (words_type (suc m)) b o)) (𝓛.laws.room_cons (ty_int w64) m b o) $ rewrite ! 0 (λ (k : ℕ). ‵ (froom (words_type k) b o)) one_more refl $ done !
