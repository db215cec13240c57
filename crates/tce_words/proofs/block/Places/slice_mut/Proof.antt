-- `slice_mut` lends the words, and the places end with those that are left behind it. Assumes `Logic`.
use Rattle.std.proofs.Common.{◌≡◌, ℕ, ◌+◌, ◌*◌, ◌^◌, ◌<◌, List, [], ◌∷◌, length, refl, sym, ◌∙◌, arith, w64}
use Rattle.std.proofs.raw_atomic.Walks.{proved}
use Rattle.std.proofs.VecSteps.Shapes.{after}
use base.Fml.{ftrue, fat, flft, froom, fsep, fex, GName, Fml}
use base.Fraction.{full_share}
use base.Logic.{id⊢, ent, sep}
use contract.Monad.{fact}
use contract.Running.{tables}
use mir.Syntax.{named}
use mir.Val.{Val, vptr, vint}
use types.Kit.{‵, raw, ◌⊛◌, prop, regoal, some, later, await, pick, at_ret, ◌$◌, ◌∵◌, !, qed, move, keep, drop, use1, split, split3, join, group, fsplit, fsplit3, fjoin, fjoin3, fpack, rewrite, suffices, frame, done}
use types.Logic.{Logic, sem}
use types.SemTy.{cells}
use seplogic.Ra.Ura.{Ura}
use prog.Wp.{WpFn}
use denote.FollowSlice.{Elements, lends_Elements}
use denote.Memory.{mem, part_of, cell_at}
use denote.Struct.Struct.{within}
use denote.Struct.Owning.{shape}
use Rattle.tce_words.specs.declared.block.Places.{Places}
use Rattle.tce_words.specs.PlacesLends.{with_words}
use lib.ListN.{drop as drop_l}
use lib.Seq.{take_at as take_front}
use denote.Array.{Array}
use denote.Follow.{follows}
use denote.Slice.{MutSlice, slice_val}
use Rattle.std.specs.List.{refill}
use types.Part.{whole, sub, agg}
use types.Run.{stop, fld, of_opd, and_then, no_more, first, blocks, exec, returns, enter}
use types.ByLocal.{alloc_all, pass_all, free_all, take_at, give_at, look_at, get, get_in, sets, sets_last, env}
use denote.Builtin.{u64, usize}
use denote.Exit.{yes, no}
use denote.Param.{layout}
use denote.Plain.{uint_vals, uint_Tells}
use denote.RawPtr.{Ptr, block_ptr, in_a_block}
use denote.Ref.{MutBor, MutRef, mut_vals, mut_Tells}
use denote.Signature.{plain, mut_ref_to}
use denote.Steps.{nothing, heard, opens}
use denote.Triple.Walked.{says, Stays, stay_dropped, walk_of, ends_at, Goes-spent_ref, Goes-dropped}
use Rattle.tce_words.specs.Memory.{words_type, places_own}
use Rattle.tce_words.specs.contracts.block.Base.{the_row as B}
use Rattle.tce_words.specs.contracts.block.Places.{the_row as P, the_type}
use Rattle.tce_words.specs.contracts.block.Places.slice_mut as f
use Rattle.tce_words.proofs.MemoryRows.{base_val, base_val-typed, row_is_cells}
use Rattle.tce_words.proofs.block.Base.TheLaws.{lowers}
use Rattle.tce_words.proofs.block.Places.slice_mut.Statement.{statement}
use Rattle.tce_words.proofs.block.Places.slice_mut.Code as code

abbrev stayed : Stays f.ended.signature.params f.ended.kept
stayed = (stay_dropped (mut_ref_to (0 ∷ []) tt (plain (λ _. P))) no, (stay_dropped (plain (λ _. B)) yes, (stay_dropped (plain (λ _. usize)) yes, tt)))

-- what the fields of the struct own: there are none
abbrev fields : List Val → Fml
fields us = fex (Unit {0}) (within (shape the_type) tt us)

module _ {M : Type 1} {𝓤 : Ura M} (𝓛 : Logic 𝓤) (d : Places) (us : List Val) (rb ro b o : ℕ) where
  -- all of the struct but the words
  abbrev Rest : Fml
  Rest = fsep (froom (words_type d.left) b (length d.words * 8 + o)) (fsep (fields us) (cell_at full_share P.mir us rb ro))

  -- any words, as many, make the struct whole again
  back : d.at ≡ block_ptr b o → (ws : List ℕ) → length ws ≡ length d.words → ent 𝓤 (sep 𝓤 (sem 𝓛 (cells (mem u64) ws b o)) (sem 𝓛 Rest)) (sem 𝓛 ((mem P).own_at (with_words d ws) rb ro))
  unfolding part_of
  back e ws same =
      let all : refill (length d.words) d.words ws ≡ ws = take_front ws (drop_l (length ws) d.words) (length d.words) same in
      let new = with_words d ws in
      qed 𝓛 (‵ (cells (mem u64) ws b o) ∷ ‵ Rest ∷ []) ∵ rewrite ! 0 (λ (F : Fml). ‵ F) (sym (row_is_cells ws b o)) refl $ move ! (1 ∷ []) $ fsplit3 ! $
      -- [the room; the fields; the cell; the words]
      rewrite ! 0 (λ (k : ℕ). ‵ (froom (words_type d.left) b (k * 8 + o))) (sym same) refl $ move ! (3 ∷ 0 ∷ []) $ fjoin ! $
      rewrite ! 0 (λ (l : List ℕ). ‵ (places_own (block_ptr b o) l d.left)) (sym all) refl $ rewrite ! 0 (λ (p : Ptr). ‵ (places_own p new.words d.left)) (sym e) refl $
      move ! (1 ∷ 0 ∷ []) $ fjoin ! $ move ! (1 ∷ 0 ∷ []) $ fjoin ! $ fpack ! (List Val) (λ vs. fsep (cell_at full_share P.mir vs rb ro) (P.own_val new vs)) us $ done !

pub slice_mut_spec : {M : Type 1} → statement M
slice_mut_spec 𝓤 𝓛 𝓜 𝓡 wired =
    let c = f.clauses 𝓛 𝓜.mem 𝓡.returns in let W = walk_of 𝓛 f.ended stayed c in let 𝓣 = tables 𝓤 𝓛.H 𝓜 𝓡 𝓡.env in
    proved 𝓛 f.ended stayed c 𝓜 𝓡
    (Goes-spent_ref 𝓛 1 (0 ∷ []) tt (plain (λ _. P)), (Goes-dropped 𝓛 1 (plain (λ _. B)) yes (λ κs x w. refl), (Goes-dropped 𝓛 1 (plain (λ _. usize)) yes (λ κs x w. refl), tt)))
    f.Key.name code.function (code.unfolded 𝓤 𝓛.H 𝓜 𝓡 wired)
    (λ κs. (mut_vals, ((λ base. base_val base.ptr ∷ []), (uint_vals w64, tt)))) (λ κs. (mut_Tells (named 0) κs.0 P, (lowers.val_is, (uint_Tells w64, tt)))) (λ κs qs bounds a _ are.
    let κ = κs.0 in let q = qs.0 in let d = a.0.now in let rb = a.0.ref_ptr.0 in let ro = a.0.ref_ptr.1 in let γ = a.0.ghost_name in let base = a.1.0 in let len = a.1.1.0 in
    let y : W.Ghost = ((κs, qs, bounds, a, (mut_vals a.0, (base_val base.ptr ∷ [], (vint w64 len ∷ [], tt)))), tt) in
    qed 𝓛 (((‵ (flft κ q) ⊛ ‵ ftrue) ⊛ ‵ ((MutRef (named 0) κ P).own_val a.0 (mut_vals a.0)) ⊛ ‵ (B.own_val base (base_val base.ptr ∷ [])) ⊛ ‵ (usize.own_val len (vint w64 len ∷ [])) ⊛ ‵ ftrue)
    ∷ (raw (fact 𝓤 (base.ptr ≡ d.at)) ⊛ raw (fact 𝓤 (len ≡ length d.words)) ⊛ raw (fact 𝓤 (len < 2 ^ 60))) ∷ []) ∵
    move ! (1 ∷ []) $ split ! $ heard ! _ (λ based. split ! $ heard ! _ (λ counted. heard ! _ (λ limited. split ! $ split ! $ move ! (2 ∷ []) $ split ! $ keep ! (0 ∷ 2 ∷ []) $ fsplit3 ! $ drop ! $
    -- [what the name is seen at; the borrow; the token]
    let n : ℕ = length d.words in let fits : n < 2 ^ 64 = omega arith in let small : n * 8 < 2 ^ 63 = omega arith in
    regoal ! (λ (k : ℕ). prop (WpFn 𝓤 𝓛.H 𝓣.C 𝓣.Λ code.function (vptr rb ro ∷ base_val base.ptr ∷ vint w64 k ∷ []) (W.post y))) counted refl $
    enter ! _ _ _ _ _ $ alloc_all ! (λ l. pass_all ! refl ((tt, tt), (base_val-typed base.ptr, ((tt, record { fits = fits }), tt))) $
    opens ! tt P rb ro (λ us. move ! (1 ∷ []) $ fsplit ! $ move ! (1 ∷ []) $
    in_a_block ! d.at (λ p. places_own p d.words d.left) (id⊢ 𝓤 _) (λ b o e. fsplit ! $
    take_at ! 2 $ rewrite ! 0 (λ (p : Ptr). ‵ (fat full_share (layout B) (l 2) 0 (base_val p))) (based ∙ e) refl $ give_at ! 2 $ first ! $ blocks ! $
    sets_last ! (agg ! (and_then ! (get_in ! (fld ! refl (stop !)) (sub ! 0 refl (whole !))) (and_then ! (get ! refl) (no_more !)))) refl (tt, (tt, (record { fits = fits }, tt))) $
    exec ! 𝓣.C 𝓣.Λ (env code.Mir.locals l) (after 1 (code.function).body) (at_ret _ (W.post y)) $ sets ! (of_opd ! (get ! refl)) refl (tt, (tt, (record { fits = fits }, tt))) $
    -- [the words; the room; the struct's fields; its cell; the open borrow, in three entries]
    rewrite ! 0 (λ (F : Fml). ‵ F) (row_is_cells d.words b o) refl $ move ! (1 ∷ 2 ∷ 3 ∷ []) $ fjoin3 ! $ move ! (2 ∷ 3 ∷ 4 ∷ 1 ∷ 0 ∷ []) $ group ! 5 $
    let way = back 𝓛 d us rb ro b o e in let slice : GName → MutBor (List ℕ) = λ δ. record { ref_ptr = (b, o); ghost_name = δ; now = d.words } in
    use1 𝓛 (later (some (λ (δ : GName). raw (Elements 𝓛 P u64 (with_words d) (named 0) κ q rb ro b o γ d.words (fits, small) (sem 𝓛 (Rest 𝓛 d us rb ro b o)) way δ))))
    (lends_Elements 𝓛 P u64 (with_words d) (named 0) κ q rb ro b o γ d.words (fits, small) (sem 𝓛 (Rest 𝓛 d us rb ro b o)) way (P.coded.code d) (P.coded.code d)) $ await ! tt $ pick ! (λ δ.
    returns ! (look_at ! 0 refl) $ free_all ! refl $ keep ! (0 ∷ []) $
    -- [the slice, the token, and what the places end as]
    use1 𝓛 (‵ ((MutSlice (named 0) κ u64).own_val (slice δ) (slice_val (b, o) n ∷ [])) ⊛ ‵ (flft κ q) ⊛ ‵ (follows P (Array u64 0) γ δ (with_words d))) (id⊢ 𝓤 _) $ split3 ! $
    suffices ! _ (ends_at 𝓛 f.ended stayed c y (slice_val (b, o) n) (slice δ) (tt, (tt, (tt, tt))) (tt, (tt, (tt, tt)))) $
    nothing ! $ nothing ! $ fjoin ! $ nothing ! $ fjoin ! $ nothing ! $ fjoin ! $ join ! $ nothing ! $ move ! (2 ∷ 0 ∷ []) $ join ! $ join ! $ frame ! $ says ! refl $ done !))))))))
