-- `deallocate` hands the block back, with the right to free it. Assumes `Logic`.
use Rattle.std.proofs.Common.{◌≡◌, ℕ, ◌+◌, ◌*◌, ◌^◌, ◌<◌, List, [], ◌∷◌, ◌++◌, length, refl, sym, ap, ◌∙◌, subst, arith, lit<, w64}
use Rattle.std.proofs.raw_atomic.Walks.{proved_at, leaves}
use Rattle.core.proofs.alloc.Calls.{Al, seen, Goes-blank, Gives, at_gives, Gives-goes, Gives-Gives}
use Rattle.core.proofs.alloc.Shapes.{after}
use Rattle.core.proofs.atomic.Steps.{fm}
use base.Fml.{Lft, Share, ftrue, flft, froom}
use base.Logic.{SProp, id⊢}
use contract.BorrowLft.{◌⊑◌, ⊑_trans}
use contract.Monad.{fact}
use contract.Running.{tables}
use lib.Dec.{T as IsTrueBool}
use mir.MapTy.{inst_fn}
use mir.Syntax.{Ty, Fn, Args, a_type, dcons, dnil, ty_unit}
use mir.Val.{Val, vint, vptr, vunit, vstruct, of_list, has_ty, WT}
use prog.Capped.{capped_is}
use prog.Wp.{Env, WpFn}
use types.Kit.{‵, raw, ◌⊛◌, given, later, learn, prop, at_ret, ◌$◌, ◌∵◌, !, qed, by, move, keep, drop, use1, use2, split, join, group, regoal, rewrite, fsplit, fjoin, feq_i, await}
use types.Part.{whole, sub}
use types.Run.{stop, fld, lit, unit_lit, of_opd, bin, no_more, and_then, first, blocks, exec, returns, enter}
use types.ByLocal.{alloc_all, pass_all, free_all, look_at, get, get_in, sets, lands_last, env}
use denote.Builtin.{usize, RefOf}
use denote.Exit.{yes, no}
use denote.Param.{param, bounded}
use denote.RattleType.{RattleType, owns}
use denote.RawPtr.{Ptr, block_ptr, in_a_block}
use denote.Signature.{plain, types_at}
use denote.Steps.{nothing, heard}
use denote.Triple.Call.{calls_at_last}
use denote.Triple.Entry.{alive}
use denote.Triple.Walked.{Stays, stay_dropped, walk_of, Goes-dropped}
use Rattle.tce_words.specs.Block.{IsBlock}
use Rattle.tce_words.specs.Memory.{words_type, places_own}
use Rattle.tce_words.specs.contracts.block.Base as Base
use Rattle.tce_words.specs.contracts.block.Deed as Deed
use Rattle.tce_words.specs.contracts.block.Places as Places
use Rattle.tce_words.specs.contracts.block.Deed.deallocate as f
use Rattle.tce_words.proofs.MemoryMade.{places_val, deed_val}
use Rattle.tce_words.proofs.MemoryRows.{base_val, row_freed}
use Rattle.tce_words.proofs.block.Deed.deallocate.Statement.{statement}
use Rattle.tce_words.proofs.block.Deed.deallocate.Code as code

pub deallocate_spec : {M : Type 1} → statement M
deallocate_spec 𝓤 𝓛 𝓜 𝓡 wired A L g d dd met md =
    let H = 𝓛.H in let Z : RattleType = param 0 A in let Y : Al = record { row = A; laws = L; g = g; d = d; drops = dd } in
    let D : RattleType = Deed.the_row Z g in
    let T = f.ended A g d dd in let c = f.clauses A g d dd 𝓛 𝓜.mem 𝓡.returns in
    let args : Args = bounded (a_type ∷ []) (A, tt) (dcons d (dcons dd dnil)) in let fn : Fn = inst_fn args code.function in
    let handle = RefOf (0 ∷ []) tt (plain (λ _. Z)) (λ _. tt) in
    let stays : Stays T.signature.params T.kept = (stay_dropped handle yes, (stay_dropped (plain (λ _. Base.the_row)) yes, (stay_dropped (plain (λ _. usize)) yes, (stay_dropped (plain (λ _. Places.the_row)) yes, (stay_dropped (plain (λ _. D)) no, tt))))) in
    let C = (tables 𝓤 H 𝓜 𝓡 𝓡.env).C in let Λ = (tables 𝓤 H 𝓜 𝓡 𝓡.env).Λ in
    proved_at 𝓛 T stays c 𝓜 𝓡
    (Goes-dropped 𝓛 2 handle yes (λ κs x w. refl), (Goes-dropped 𝓛 2 (plain (λ _. Base.the_row)) yes (λ κs x w. refl), (Goes-dropped 𝓛 2 (plain (λ _. usize)) yes (λ κs x w. refl), (Goes-blank 𝓛 2 (plain (λ _. Places.the_row)) yes (λ κs x w. tt), (Goes-blank 𝓛 2 (plain (λ _. D)) no (λ κs x w. tt), tt)))))
    (f.Key.name args) fn (code.unfolded 𝓤 H 𝓜 𝓡 wired (A, tt) d dd) (λ y are.
    let Post : Val → SProp 𝓤 = (walk_of 𝓛 T stays c).post y in let a = y.0.3 in
    let κ : Lft = y.0.0.0 in let q : Share = y.0.1.0 in let h = a.0.now in let at = a.0.ref_ptr in let base = a.1.0 in let len = a.1.1.0 in let places = a.1.1.1.0 in let deed = a.1.1.1.1.0 in
    let Asked : Type 0 = IsBlock base len places deed h in
    let τ : Ty = words_type len in
    qed 𝓛 ((raw (alive 𝓛 T.signature y.0.0 y.0.1) ⊛ ‵ (owns (types_at T.signature.params y.0.0) a y.0.4)) ∷ (raw (fact 𝓤 (y.0.0.1.0 ⊑ A.lives)) ⊛ raw (fact 𝓤 Asked)) ∷ []) ∵
    move ! (1 ∷ []) $ split ! $ heard ! (y.0.0.1.0 ⊑ A.lives) (λ lasts. heard ! Asked (λ asked. split ! $ move ! (1 ∷ []) $
    fsplit ! $ fsplit ! $ drop ! $ use1 𝓛 (‵ (seen Y κ at h)) (id⊢ 𝓤 _) $ move ! (1 ∷ []) $ fsplit ! $ drop ! $ fsplit ! $ drop ! $ fsplit ! $ fsplit ! $ drop ! $
    -- [the places; the deed; the handle; the tokens]
    in_a_block ! places.at (λ p. places_own p places.words places.left) (id⊢ 𝓤 _) (λ b o e. fsplit ! $
    use2 𝓛 (‵ (froom τ b o)) (row_freed 𝓛 b places.words places.left o (length places.words * 8 + o) len refl (sym asked.counted)) $ move ! (1 ∷ []) $ fsplit ! $ fsplit ! $ drop ! $
    rewrite ! 0 (λ (u : A.Denot × ℕ × Ptr). ‵ (g.dealloc_token u.0 (words_type u.1) u.2)) (λ i. (asked.deed_owned i, asked.deed_counted i, (asked.deed_based ∙ sym asked.based ∙ e) i)) refl $
    move ! (1 ∷ []) $ drop ! $ move ! (3 ∷ []) $ use1 𝓛 (‵ (flft κ q) ⊛ ‵ (flft y.0.0.1.0 y.0.1.1.0) ⊛ ‵ ftrue) (id⊢ 𝓤 _) $ split ! $ move ! (3 ∷ 2 ∷ 4 ∷ 0 ∷ []) $
    -- [the room; the right to free it; the handle; its token; the other tokens]
    let bytes : len * 8 < 2 ^ 64 = omega (arith, asked.limited) in let z = at_gives Y 𝓛 𝓜.mem 𝓡.returns κ q at h b o (len * 8) 8 τ in
    -- the machine values of the parameters
    let wrapped : List Val → List Val = λ us. vstruct (of_list (us ++ [])) ∷ [] in
    let base_is : y.0.4.1.0 ≡ base_val (block_ptr b o) ∷ [] = are.1.0.1.0 ∙ ap wrapped are.1.0.1.1.0 ∙ ap (λ (p : Ptr). base_val p ∷ []) (sym asked.based ∙ e) in
    let places_is : y.0.4.1.1.1.0 ≡ places_val ∷ [] = are.1.1.1.0.0.1.0 in
    let deed_is : y.0.4.1.1.1.1.0 ≡ deed_val ∷ [] = are.1.1.1.1.0.0.1.0 ∙ ap wrapped are.1.1.1.1.0.0.1.1.0.1.0 in
    regoal ! (λ (us : List Val). prop (WpFn 𝓤 H C Λ fn us Post)) (λ i. are.0.0 i ++ (base_is i ++ (are.1.1.0.0 i ++ (places_is i ++ (deed_is i ++ []))))) refl $
    enter ! C Λ fn (vptr at.0 at.1 ∷ base_val (block_ptr b o) ∷ vint w64 len ∷ places_val ∷ deed_val ∷ []) Post $
    alloc_all ! (λ l. pass_all ! refl ((tt, tt), ((tt, (tt, tt)), ((tt, record { fits = are.1.1.0.1 }), ((tt, tt), ((tt, (tt, tt)), tt))))) $ let En : Env 𝓤 H = env fn.locals l in first ! $ blocks ! $
    sets ! (of_opd ! (get_in ! (fld ! refl (stop !)) (sub ! 0 refl (whole !)))) refl (tt, tt) $ sets ! (bin ! (get ! refl) (lit ! tt) (record { fits = bytes })) refl (tt, record { fits = bytes }) $
    group ! 4 $ use1 𝓛 (raw ((Gives Y 𝓛 𝓜.mem 𝓡.returns).pre z)) (Gives-goes Y 𝓛 𝓜.mem 𝓡.returns κ q at h (⊑_trans κ y.0.0.1.0 A.lives y.0.2.0 lasts) b o (len * 8) 8 τ (capped_is (len * 8) bytes) refl bytes (lit< tt)) $
    calls_at_last ! (fm 𝓛 𝓜 𝓡) (Gives Y 𝓛 𝓜.mem 𝓡.returns) (met.deallocate dd) z (and_then ! (get ! refl) (and_then ! (get ! refl) (and_then ! (get ! refl) (and_then ! (lit ! tt) (no_more !))))) (λ v.
    use1 𝓛 (later (given (v ≡ vunit) (‵ (flft κ q)))) (Gives-Gives Y 𝓛 𝓜.mem 𝓡.returns κ q at h b o (len * 8) 8 τ v) $ await ! tt $ learn ! (λ gave.
    lands_last ! refl (subst (λ (u : Val). IsTrueBool (has_ty ty_unit u) × WT u) (sym gave) (tt, tt)) $ exec ! C Λ En (after 1 fn.body) (at_ret En Post) $
    sets ! (of_opd ! (unit_lit !)) refl (tt, tt) $ returns ! (look_at ! 0 refl) $ free_all ! refl $ keep ! (0 ∷ 1 ∷ []) $ join ! $
    feq_i ! (List Val) (vunit ∷ []) (vunit ∷ []) refl $ nothing ! $ nothing ! $ nothing ! $ fjoin ! $ nothing ! $ fjoin ! $ nothing ! $ fjoin ! $ nothing ! $ fjoin ! $ nothing ! $ fjoin ! $
    move ! (3 ∷ 0 ∷ 2 ∷ 1 ∷ []) $ by ! (leaves 𝓛 T stays c y vunit tt (tt, (tt, (tt, (tt, (tt, tt))))) (tt, (tt, (tt, (tt, (tt, tt)))))))))))))
