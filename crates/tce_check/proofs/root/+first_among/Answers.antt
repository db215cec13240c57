use Rattle.std.proofs.Common.{◌≡◌, ℕ, ◌+◌, ◌≤◌, List, ◌++◌, All, subst, take, drop}
use Rattle.std.proofs.lemmas.List.{take-append-drop}
use Rattle.std.proofs.lemmas.List.Elements.{All-append}
use Rattle.tce_fusion.specs.Row.{Row}
use Rattle.tce_check.specs.First.{First, FirstPair}
use Rattle.tce_check.specs.Verdict.{WhereJoined, IsBelow}
use Rattle.tce_check.proofs.Firsts.{first_front, first_back}
use Rattle.tce_check.proofs.FromTables.{match_map}
use Rattle.tce_check.proofs.root.+first_among.Goals as goal

parts : (rows : List Row) (mid : ℕ) (front back : List Row) → front ≡ take mid rows → back ≡ drop mid rows → front ++ back ≡ rows
parts rows mid front back is are = rw is (rw are (take-append-drop mid rows))

pub returns-in-Some : goal.returns-in-Some
returns-in-Some t c =
    let Holds = WhereJoined c.args.tree.now c.args.root (λ (l r : Row). c.args.total ≤ l.cost + r.cost) in
    let Fails = IsBelow c.args.tree.now c.args.root c.args.total c.in-Some.sum in
    subst (λ rows. FirstPair Holds Fails rows c.args.rights.now) (parts c.args.lefts.now _ c.split_at.result.0.now c.split_at.result.1.now c.split_at.ensures.front c.split_at.ensures.back)
    (first_front (λ (left : Row). All (Holds left) c.args.rights.now) (λ (left : Row). First (Holds left) (Fails left) c.args.rights.now) c.split_at.result.0.now c.split_at.result.1.now c.in-Some.ensures)

pub returns : goal.returns
returns t c =
    let Holds = WhereJoined c.args.tree.now c.args.root (λ (l r : Row). c.args.total ≤ l.cost + r.cost) in
    let Each = λ (left : Row). All (Holds left) c.args.rights.now in
    let front = c.split_at.result.0.now in
    let back = c.split_at.result.1.now in
    let whole = parts c.args.lefts.now _ front back c.split_at.ensures.front c.split_at.ensures.back in
    match_map c.first_among-2.result (All Each back) (All Each c.args.lefts.now)
    (λ sum. FirstPair Holds (IsBelow c.args.tree.now c.args.root c.args.total sum) back c.args.rights.now)
    (λ sum. FirstPair Holds (IsBelow c.args.tree.now c.args.root c.args.total sum) c.args.lefts.now c.args.rights.now)
    (λ all. subst (All Each) whole (All-append Each front back c.in_default.ensures all))
    (λ sum first. subst (λ rows. FirstPair Holds (IsBelow c.args.tree.now c.args.root c.args.total sum) rows c.args.rights.now) whole
    (first_back Each (λ (left : Row). First (Holds left) (IsBelow c.args.tree.now c.args.root c.args.total sum left) c.args.rights.now) front back c.in_default.ensures first))
    c.first_among-2.ensures
