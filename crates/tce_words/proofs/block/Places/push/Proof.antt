-- `push` writes a word into the first place that is left. Assumes `Logic`.
use Rattle.std.proofs.Common.{◌≡◌, ℕ, suc, ◌+◌, ◌-◌, ◌*◌, ◌^◌, ◌<◌, List, [], ◌∷◌, ◌++◌, length, length-append, refl, sym, ap, ◌∙◌, arith, w64}
use Rattle.std.proofs.raw_atomic.Walks.{proved}
use Rattle.std.proofs.VecSteps.Shapes.{after}
use base.Fml.{ftrue, fat, flft, froom}
use base.Fraction.{full_share}
use base.Logic.{id⊢}
use contract.Monad.{fact}
use contract.Running.{tables}
use mir.Syntax.{named, ty_int}
use mir.Val.{Val, vptr, vint, vunit}
use types.Kit.{‵, raw, ◌⊛◌, at_ret, ◌$◌, ◌∵◌, !, qed, move, keep, drop, use1, use2, split, join, fsplit, fsplit3, fjoin, fjoin3, feq_i, rewrite, suffices, frame, done}
use types.Part.{whole, sub}
use types.Run.{init, stop, fld, lit, unit_lit, of_opd, bin, assigns_last, first, blocks, exec, returns, enter}
use types.ByLocal.{alloc_all, pass_all, free_all, take_at, give_at, look_at, get, get_in, through, sets, env}
use denote.Builtin.{u64, usize}
use denote.Exit.{yes}
use denote.Index.{row}
use denote.Memory.{part_at}
use denote.Param.{layout}
use denote.Plain.{uint_vals, uint_Tells, uint_in}
use denote.RawPtr.{Ptr, in_a_block}
use denote.Ref.{MutRef, mut_vals, mut_Tells}
use denote.Signature.{plain}
use denote.Steps.{nothing, heard, opens, closes}
use denote.Triple.Walked.{says, Stays, stay_ref, stay_dropped, walk_of, ends_at, Goes-ref, Goes-dropped}
use Rattle.tce_words.specs.Memory.{words_type, places_own}
use Rattle.tce_words.specs.contracts.block.Base.{the_row as B}
use Rattle.tce_words.specs.contracts.block.Places.{the_row as P}
use Rattle.tce_words.specs.contracts.block.Places.push as f
use Rattle.tce_words.proofs.MemoryRows.{base_val, base_val-typed, row_more}
use Rattle.tce_words.proofs.block.Base.TheLaws.{lowers}
use Rattle.tce_words.proofs.block.Places.push.Statement.{statement}
use Rattle.tce_words.proofs.block.Places.push.Code as code

abbrev stayed : Stays f.ended.signature.params f.ended.kept
stayed = (stay_ref (0 ∷ []) tt (plain (λ _. P)), (stay_dropped (plain (λ _. B)) yes, (stay_dropped (plain (λ _. usize)) yes, (stay_dropped (plain (λ _. u64)) yes, tt))))

pub push_spec : {M : Type 1} → statement M
push_spec 𝓤 𝓛 𝓜 𝓡 wired =
    let c = f.clauses 𝓛 𝓜.mem 𝓡.returns in let W = walk_of 𝓛 f.ended stayed c in let 𝓣 = tables 𝓤 𝓛.H 𝓜 𝓡 𝓡.env in
    proved 𝓛 f.ended stayed c 𝓜 𝓡
    (Goes-ref 𝓛 1 0 tt (plain (λ _. P)), (Goes-dropped 𝓛 1 (plain (λ _. B)) yes (λ κs x w. refl), (Goes-dropped 𝓛 1 (plain (λ _. usize)) yes (λ κs x w. refl), (Goes-dropped 𝓛 1 (plain (λ _. u64)) yes (λ κs x w. refl), tt))))
    f.Key.name code.function (code.unfolded 𝓤 𝓛.H 𝓜 𝓡 wired)
    (λ κs. (mut_vals, ((λ base. base_val base.ptr ∷ []), (uint_vals w64, (uint_vals w64, tt))))) (λ κs. (mut_Tells (named 0) κs.0 P, (lowers.val_is, (uint_Tells w64, (uint_Tells w64, tt))))) (λ κs qs bounds a _ are.
    let κ = κs.0 in let q = qs.0 in let d = a.0.now in let rb = a.0.ref_ptr.0 in let ro = a.0.ref_ptr.1 in let base = a.1.0 in let at = a.1.1.0 in let word = a.1.1.1.0 in
    let fits = are.1.1.1.0.1 in
    let y : W.Ghost = ((κs, qs, bounds, a, (mut_vals a.0, (base_val base.ptr ∷ [], (vint w64 at ∷ [], (vint w64 word ∷ [], tt))))), tt) in
    qed 𝓛 (((‵ (flft κ q) ⊛ ‵ ftrue) ⊛ ‵ ((MutRef (named 0) κ P).own_val a.0 (mut_vals a.0)) ⊛ ‵ (B.own_val base (base_val base.ptr ∷ [])) ⊛ ‵ (usize.own_val at (vint w64 at ∷ [])) ⊛ ‵ (u64.own_val word (vint w64 word ∷ [])) ⊛ ‵ ftrue)
    ∷ (raw (fact 𝓤 (base.ptr ≡ d.at)) ⊛ raw (fact 𝓤 (at ≡ length d.words)) ⊛ raw (fact 𝓤 (at < 2 ^ 60)) ⊛ raw (fact 𝓤 (0 < d.left))) ∷ []) ∵
    move ! (1 ∷ []) $ split ! $ heard ! _ (λ based. split ! $ heard ! _ (λ counted. split ! $ heard ! _ (λ limited. heard ! _ (λ some. split ! $ split ! $ move ! (2 ∷ []) $ split ! $ keep ! (0 ∷ 2 ∷ []) $ fsplit3 ! $ drop ! $
    -- [what the name is seen at; the borrow; the token]
    let left : ℕ = d.left - 1 in let one_less : d.left ≡ suc left = omega arith in
    let fits_at : at < 2 ^ 64 = omega arith in let far : at * 8 < 2 ^ 64 = omega arith in
    enter ! _ _ _ _ _ $ alloc_all ! (λ l. pass_all ! refl ((tt, tt), (base_val-typed base.ptr, ((tt, record { fits = fits_at }), ((tt, record { fits = fits }), tt)))) $
    opens ! tt P rb ro (λ us. move ! (1 ∷ []) $ fsplit ! $ move ! (1 ∷ []) $
    in_a_block ! d.at (λ p. places_own p d.words d.left) (id⊢ 𝓤 _) (λ b o e. fsplit ! $
    -- [the words; the room; the struct's fields; its cell; the open borrow, in three entries]
    let rest : ℕ = length d.words * 8 + o in let new = record d { words = d.words ++ word ∷ []; left = left } in
    let behind : rest + 8 ≡ length new.words * 8 + o = omega (arith, length-append d.words (word ∷ [])) in
    move ! (1 ∷ []) $ rewrite ! 0 (λ (n : ℕ). ‵ (froom (words_type n) b rest)) one_less refl $
    use1 𝓛 (‵ (froom (ty_int w64) b rest) ⊛ ‵ (froom (words_type left) b (rest + 8))) (𝓛.laws.room_uncons (ty_int w64) left b rest) $ split ! $
    rewrite ! 0 (λ (n : ℕ). ‵ (froom (ty_int w64) b (n * 8 + o))) (sym counted) refl $
    take_at ! 2 $ rewrite ! 0 (λ (p : Ptr). ‵ (fat full_share (layout B) (l 2) 0 (base_val p))) (based ∙ e) refl $ give_at ! 2 $ first ! $ blocks ! $
    sets ! (bin ! (get ! refl) (lit ! tt) (record { fits = far })) refl (tt, record { fits = far }) $
    sets ! (bin ! (get_in ! (fld ! refl (stop !)) (sub ! 0 refl (whole !))) (get ! refl) tt) refl (tt, tt) $
    assigns_last ! (of_opd ! (get ! refl)) (through ! refl (stop !)) (init ! 0 refl (tt, record { fits = fits })) $
    exec ! 𝓣.C 𝓣.Λ (env code.Mir.locals l) (after 1 (code.function).body) (at_ret _ (W.post y)) $ sets ! (of_opd ! (unit_lit !)) refl (tt, tt) $
    -- [the new word; the rest of the room; the words; the fields; ..]
    use1 𝓛 (‵ (part_at u64 full_share word b (at * 8 + o))) (uint_in 𝓛 full_share w64 word b (at * 8 + o)) $ move ! (2 ∷ 0 ∷ []) $
    use2 𝓛 (‵ (row u64 full_share new.words b o)) (row_more 𝓛 b d.words word o (at * 8 + o) (ap (λ n. n * 8 + o) counted)) $
    rewrite ! 1 (λ (k : ℕ). ‵ (froom (words_type left) b k)) behind refl $ fjoin ! $ rewrite ! 0 (λ (p : Ptr). ‵ (places_own p new.words left)) (sym e) refl $
    move ! (1 ∷ 0 ∷ []) $ fjoin ! $ move ! (1 ∷ 0 ∷ []) $ closes ! tt P new us rb ro $
    returns ! (look_at ! 0 refl) $ free_all ! refl $ keep ! (0 ∷ 1 ∷ 2 ∷ []) $
    -- [what the name is seen at; the borrow; the token]
    suffices ! _ (ends_at 𝓛 f.ended stayed c y vunit tt (new, (tt, (tt, (tt, tt)))) (tt, (tt, (tt, (tt, tt))))) $ says ! refl $
    feq_i ! (List Val) (vunit ∷ []) (vunit ∷ []) refl $ move ! (1 ∷ 2 ∷ 3 ∷ 0 ∷ []) $ nothing ! $ move ! (3 ∷ 0 ∷ []) $ join ! $ frame ! $
    feq_i ! (List Val) (vptr rb ro ∷ []) (vptr rb ro ∷ []) refl $ fjoin3 ! $ nothing ! $ nothing ! $ fjoin ! $ nothing ! $ fjoin ! $ nothing ! $ fjoin ! $ move ! (1 ∷ 0 ∷ []) $ fjoin ! $ done !))))))))
