use Rattle.std.proofs.lemmas.Result.{err_from_is_err_and}
use Rattle.std.proofs.Common.{◌≡◌, ℕ, ◌<◌, List, ◌∷◌, ◌++◌, get_or, length, sym, ap, ◌∙◌, subst, arith}
use Rattle.std.specs.List.{All}
use Rattle.std.proofs.lemmas.List.{take_all}
use Rattle.tce_space.specs.Space.{index_at}
use Rattle.tce_report.specs.Names.{index_list}
use Rattle.tce_report.proofs.Lists.{name_pushed}
use Rattle.tce_cert.proofs.Sets.{holds_of_tail}
use Rattle.tce_cert.proofs.names.push_names.Goals as goal

pub push_name-requires-in-loop-index : goal.push_name-requires-in-loop-index
push_name-requires-in-loop-index c =
    holds_of_tail (λ i. i < length c.args.space.now.indexes) c.args.indexes.now c.in-Some.first.now c.in-Some.rest.now c.in-Some.ensures.cases.0 c.requires _ _ c.loop-index-test.true

pub loop-index-preserved : goal.loop-index-preserved
loop-index-preserved c =
    name_pushed c.args.space.now (get_or c.args.indexes.now 0 0) c.in-Some.rest.now c.loop-index.index-index 0 c.args.text.now.items _ _ _ c.loop-index-test.true c.loop-index.invariant
    c.in_ok-push-2.ensures.items c.in_ok-push_name-2.ensures

pub returns-in_err-push : goal.returns-in_err-push
returns-in_err-push c =
    let p = err_from_is_err_and c.from_residual.result c.from_residual.ensures.1 in
    rw p.1 tt

pub returns-in_err-push_name : goal.returns-in_err-push_name
returns-in_err-push_name c =
    let p = err_from_is_err_and c.from_residual-in_err-push_name.result c.from_residual-in_err-push_name.ensures.1 in
    rw p.1 tt

pub returns-in_err-push-2 : goal.returns-in_err-push-2
returns-in_err-push-2 c =
    let p = err_from_is_err_and c.from_residual-in_err-push-2.result c.from_residual-in_err-push-2.ensures.1 in
    rw p.1 tt

pub returns-in_err-push_name-2 : goal.returns-in_err-push_name-2
returns-in_err-push_name-2 c =
    let p = err_from_is_err_and c.from_residual-in_err-push_name-2.result c.from_residual-in_err-push_name-2.ensures.1 in
    rw p.1 tt

-- the whole list, where these are its first and the rest
whole : (xs : List ℕ) (x : ℕ) (rest : List ℕ) → xs ≡ x ∷ rest → get_or xs 0 0 ∷ rest ≡ xs
whole xs x rest is = ap (λ ys. get_or ys 0 0 ∷ rest) is ∙ sym is

pub push_name-requires : goal.push_name-requires
push_name-requires c = subst (All (λ i. i < length c.args.space.now.indexes)) c.in-Some.ensures.cases.0 c.requires 0 0 (omega arith)

pub loop-index-init : goal.loop-index-init
loop-index-init c = c.in_ok-push_name.ensures ∙ ap (λ i. c.args.text.now.items ++ (index_at c.args.space.now i).name) (sym (ap (λ xs. get_or xs 0 0) c.in-Some.ensures.cases.0))

pub returns : goal.returns
returns c =
    let rest = take_all c.loop-index.index-index c.in-Some.rest.now c.loop-index-test.false in
    c.loop-index.invariant ∙ ap (λ xs. c.args.text.now.items ++ index_list c.args.space.now xs) (ap (λ xs. get_or c.args.indexes.now 0 0 ∷ xs) rest ∙ whole c.args.indexes.now c.in-Some.first.now c.in-Some.rest.now c.in-Some.ensures.cases.0)
