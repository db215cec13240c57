use Rattle.std.proofs.Common.{◌≡◌, ◌+◌, ◌<◌, ◌∙◌, ℕ, suc, add-one, length, sym, ap, subst, arith}
use Rattle.std.specs.List.{All}
use Rattle.tce_exec.specs.ChainRows.{after_row, after_turn, IsLinkAlong}
use Rattle.tce_exec.proofs.ChainRows.{turn_long}
use Rattle.tce_exec.proofs.row.run_turns.Goals as goal

pub run_turn-requires-clause-within : goal.run_turn-requires-clause-within
run_turn-requires-clause-within c =
    subst (λ n. All (IsLinkAlong n c.args.index c.loop-by.by) c.args.links.now) (sym c.loop-by.invariant.long) (c.requires.within c.loop-by.by c.loop-by-test.true)

pub loop-by-preserved : goal.loop-by-preserved
loop-by-preserved c =
    let links = c.args.links.now in
    let by : ℕ = c.loop-by.by in
    record {
      done = c.run_turn.ensures ∙ ap (after_turn links c.args.index by) c.loop-by.invariant.done ∙ ap (λ n. after_row links c.args.index n c.args.words.now) (sym (add-one by));
      long = ap length c.run_turn.ensures ∙ turn_long links c.args.index by c.loop-by.words ∙ c.loop-by.invariant.long;
    }

pub returns : goal.returns
returns c =
    let all : c.loop-by.by ≡ c.args.count = omega (arith, c.loop-by-test.false, c.loop-by.auto) in
    c.loop-by.invariant.done ∙ ap (λ n. after_row c.args.links.now c.args.index n c.args.words.now) all
