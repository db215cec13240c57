use Rattle.std.proofs.Common.{◌≡◌, ◌+◌, ◌*◌, ◌<◌, ◌≤◌, ◌∙◌, ℕ, List, [], ◌∷◌, get_or, length, length-set, slice_set, refl, sym, ap, ap₂, subst, take, arith}
use Rattle.std.specs.List.{fold}
use Rattle.std.proofs.lemmas.List.Sums.{fold_more}
use Rattle.tce_exec.specs.ChainRows.{put_along, IsLinkAlong}
use Rattle.tce_exec.specs.Links.{word_along, IsAlongWithin}
use Rattle.tce_exec.specs.Operands.{combined}
use Rattle.tce_exec.specs.declared.links.Link.{Link}
use Rattle.tce_exec.proofs.LinkLaws.{no_link}
use Rattle.tce_exec.proofs.row.run_turn.Goals as goal

pub read_source-left-requires-clause-within : goal.read_source-left-requires-clause-within
read_source-left-requires-clause-within c =
    let here = get_or c.args.links.now c.loop-link.link-index no_link in
    let at = c.requires.within c.loop-link.link-index no_link c.loop-link-test.true in
    subst (λ n. IsAlongWithin n c.args.step.index c.args.step.by here.left) (sym c.loop-link.invariant.long) at.left

pub read_source-right-requires-clause-within : goal.read_source-right-requires-clause-within
read_source-right-requires-clause-within c =
    let here = get_or c.args.links.now c.loop-link.link-index no_link in
    let at = c.requires.within c.loop-link.link-index no_link c.loop-link-test.true in
    subst (λ n. IsAlongWithin n c.args.step.index c.args.step.by here.right) (sym c.loop-link.invariant.long) at.right

pub place_along-at-requires-clause-limit : goal.place_along-at-requires-clause-limit
place_along-at-requires-clause-limit c =
    let at = c.requires.within c.loop-link.link-index no_link c.loop-link-test.true in
    omega (arith, at.out, c.loop-link.invariant.long, c.len-len.ensures.limit)

pub put-requires : goal.put-requires
put-requires c =
    let at = c.requires.within c.loop-link.link-index no_link c.loop-link-test.true in
    omega (arith, at.out, c.loop-link.invariant.long, c.place_along-at.ensures)

pub loop-link-preserved : goal.loop-link-preserved
loop-link-preserved c =
    let index = c.args.step.index in
    let by = c.args.step.by in
    let links = c.args.links.now in
    let k : ℕ = c.loop-link.link-index in
    let here : Link = get_or links k no_link in
    let next = fold_more (put_along index by) c.args.words.now links k no_link c.loop-link-test.true in
    let put : c.put.new.self ≡ put_along index by c.loop-link.words here =
    (c.put.ensures ∙ ap₂ (slice_set c.loop-link.words) c.place_along-at.ensures (c.combine.ensures ∙ ap₂ (combined here.kind) c.read_source-left.ensures c.read_source-right.ensures)) in
    record {
      done = put ∙ ap (λ ws. put_along index by ws here) c.loop-link.invariant.done ∙ sym next;
      long = ap length c.put.ensures ∙ length-set c.loop-link.words c.place_along-at.result c.combine.result ∙ c.loop-link.invariant.long;
    }

taken : {X : Type 0} (xs : List X) → take (length xs) xs ≡ xs
taken [] = refl
taken (x ∷ xs) = ap (λ l. x ∷ l) (taken xs)

pub returns : goal.returns
returns c =
    let all : c.loop-link.link-index ≡ length c.args.links.now = omega (arith, c.loop-link-test.false, c.loop-link.auto) in
    c.loop-link.invariant.done
    ∙ ap (λ n. fold (put_along c.args.step.index c.args.step.by) c.args.words.now (take n c.args.links.now)) all
    ∙ ap (fold (put_along c.args.step.index c.args.step.by) c.args.words.now) (taken c.args.links.now)
