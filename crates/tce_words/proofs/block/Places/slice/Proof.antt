-- `slice` shows the words that the places lend. Assumes `Logic`.
use Rattle.std.proofs.Common.{◌≡◌, ℕ, ◌*◌, ◌^◌, ◌<◌, List, [], ◌∷◌, length, refl, ap, ◌∙◌, arith, w64}
use Rattle.std.proofs.raw_atomic.Walks.{proved}
use Rattle.std.proofs.VecSteps.Shapes.{after}
use base.Fml.{ftrue, flft}
use base.Logic.{id⊢}
use contract.Monad.{fact}
use contract.Running.{tables}
use mir.Syntax.{named}
use mir.Val.{Val, vptr, vint, vstruct, vcons, vnil}
use prog.Wp.{WpFn}
use types.Kit.{‵, raw, ◌⊛◌, prop, at_ret, ◌$◌, ◌∵◌, !, qed, move, keep, drop, split, join, fsplit, fjoin, feq_i, flt_i, regoal, suffices, frame, done}
use types.Part.{whole, sub, agg}
use types.Run.{stop, fld, of_opd, and_then, no_more, first, blocks, exec, returns, enter}
use types.ByLocal.{alloc_all, pass_all, free_all, look_at, get, get_in, sets, sets_last, env}
use denote.Builtin.{usize, RefOf}
use denote.Exit.{yes}
use denote.Opens.{hide, unhide}
use denote.Plain.{uint_vals, uint_Tells}
use denote.RawPtr.{Ptr, ptr_val, in_a_block}
use denote.Ref.{ShrRef, shr_vals, shr_Tells}
use denote.Signature.{plain}
use denote.Slice.{slice_val}
use denote.Steps.{nothing, heard}
use denote.Triple.Walked.{says, Stays, stay_dropped, walk_of, ends_at, Goes-dropped}
use Rattle.tce_words.specs.Memory.{places_lent}
use Rattle.tce_words.specs.contracts.block.Base.{the_row as B}
use Rattle.tce_words.specs.contracts.block.Places.{the_row as P}
use Rattle.tce_words.specs.contracts.block.Places.slice as f
use Rattle.tce_words.proofs.block.Base.TheLaws.{lowers}
use Rattle.tce_words.proofs.block.Places.slice.Statement.{statement}
use Rattle.tce_words.proofs.block.Places.slice.Code as code

abbrev stayed : Stays f.ended.signature.params f.ended.kept
stayed = (stay_dropped (RefOf (0 ∷ []) tt (plain (λ _. P)) (λ _. tt)) yes, (stay_dropped (plain (λ _. B)) yes, (stay_dropped (plain (λ _. usize)) yes, tt)))

pub slice_spec : {M : Type 1} → statement M
slice_spec 𝓤 𝓛 𝓜 𝓡 wired =
    let c = f.clauses 𝓛 𝓜.mem 𝓡.returns in let W = walk_of 𝓛 f.ended stayed c in let 𝓣 = tables 𝓤 𝓛.H 𝓜 𝓡 𝓡.env in
    proved 𝓛 f.ended stayed c 𝓜 𝓡
    (Goes-dropped 𝓛 1 (RefOf (0 ∷ []) tt (plain (λ _. P)) (λ _. tt)) yes (λ κs x w. refl), (Goes-dropped 𝓛 1 (plain (λ _. B)) yes (λ κs x w. refl), (Goes-dropped 𝓛 1 (plain (λ _. usize)) yes (λ κs x w. refl), tt)))
    f.Key.name code.function (code.unfolded 𝓤 𝓛.H 𝓜 𝓡 wired)
    (λ κs. (shr_vals, ((λ base. lowers.lowered base ∷ []), (uint_vals w64, tt)))) (λ κs. (shr_Tells (named 0) κs.0 P, (lowers.val_is, (uint_Tells w64, tt)))) (λ κs qs bounds a _ are.
    let κ = κs.0 in let q = qs.0 in let d = a.0.now in let base = a.1.0 in let len = a.1.1.0 in
    let y : W.Ghost = ((κs, qs, bounds, a, (shr_vals a.0, (lowers.lowered base ∷ [], (vint w64 len ∷ [], tt)))), tt) in
    qed 𝓛 (((‵ (flft κ q) ⊛ ‵ ftrue) ⊛ ‵ ((ShrRef (named 0) κ P).own_val a.0 (shr_vals a.0)) ⊛ ‵ (B.own_val base (lowers.lowered base ∷ [])) ⊛ ‵ (usize.own_val len (vint w64 len ∷ [])) ⊛ ‵ ftrue)
    ∷ (raw (fact 𝓤 (base.ptr ≡ d.at)) ⊛ raw (fact 𝓤 (len ≡ length d.words)) ⊛ raw (fact 𝓤 (len < 2 ^ 60))) ∷ []) ∵
    move ! (1 ∷ []) $ split ! $ heard ! _ (λ based. split ! $ heard ! _ (λ counted. heard ! _ (λ limited. split ! $ split ! $ move ! (2 ∷ []) $ split ! $ keep ! (0 ∷ 2 ∷ []) $ fsplit ! $ drop ! $
    -- [what the `&` holds; the token]
    unhide ! $ fsplit ! $ drop ! $ in_a_block ! d.at (λ p. places_lent p d.words κ) (id⊢ 𝓤 _) (λ b o e.
    regoal ! (λ (p : Ptr). prop (WpFn 𝓤 𝓛.H 𝓣.C 𝓣.Λ code.function (vptr a.0.ref_ptr.0 a.0.ref_ptr.1 ∷ vstruct (vcons (ptr_val p) vnil) ∷ vint w64 len ∷ []) (W.post y))) (based ∙ e) refl $
    let fits : len < 2 ^ 64 = omega arith in
    enter ! _ _ _ _ _ $ alloc_all ! (λ l. pass_all ! refl ((tt, tt), ((tt, (tt, tt)), ((tt, record { fits = fits }), tt))) $ first ! $ blocks ! $
    sets_last ! (agg ! (and_then ! (get_in ! (fld ! refl (stop !)) (sub ! 0 refl (whole !))) (and_then ! (get ! refl) (no_more !)))) refl (tt, (tt, (record { fits = fits }, tt))) $
    exec ! 𝓣.C 𝓣.Λ (env code.Mir.locals l) (after 1 (code.function).body) (at_ret _ (W.post y)) $
    sets ! (of_opd ! (get ! refl)) refl (tt, (tt, (record { fits = fits }, tt))) $
    -- the slice is made
    let n : ℕ = length d.words in let v : Val = slice_val (b, o) len in
    hide ! $ flt_i ! (n * 8) (2 ^ 63) (omega arith) $ flt_i ! n (2 ^ 64) (omega arith) $ fjoin ! $
    feq_i ! (List Val) (v ∷ []) (slice_val (b, o) n ∷ []) (ap (λ k. slice_val (b, o) k ∷ []) counted) $ fjoin ! $ fjoin ! $
    returns ! (look_at ! 0 refl) $ free_all ! refl $
    suffices ! _ (ends_at 𝓛 f.ended stayed c y v (record { ref_ptr = (b, o); now = d.words }) (tt, (tt, (tt, tt))) (tt, (tt, (tt, tt)))) $ says ! refl $
    move ! (1 ∷ []) $ nothing ! $ move ! (1 ∷ 0 ∷ []) $ join ! $ frame ! $ nothing ! $ nothing ! $ fjoin ! $ nothing ! $ fjoin ! $ nothing ! $ fjoin ! $ done !))))))
