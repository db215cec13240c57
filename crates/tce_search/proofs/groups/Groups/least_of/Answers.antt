use Rattle.std.proofs.Common.{arith}
use Rattle.tce_search.proofs.Grouping.{least_found}
use Rattle.tce_search.proofs.groups.Groups.least_of.Goals as goal

pub returns : goal.returns
returns c e inn =
    let least = least_found c.self.inside.lists.items (λ list. list.items) c.args.self.now c.self.inside.leasts.items c.len.result c.number_of-number.result c.args.key c.index.result.now c.self.view_is
    c.self.invariant c.number_of-number.ensures.value c.number_of-number.ensures.inside (omega (arith, c.len.ensures, c.self.inside.lists.ok.0)) c.index.ensures e inn in
    omega (arith, least, c.from.ensures)
