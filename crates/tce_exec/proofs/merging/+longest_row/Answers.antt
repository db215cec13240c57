use Rattle.std.proofs.Common.{◌≡◌, ◌+◌, ◌-◌, ◌*◌, ◌<◌, ◌≤◌, ◌∙◌, ℕ, drop, get_or, length, sym, ap, ap₂, arith}
use Rattle.std.proofs.lemmas.List.{drop_more}
use Rattle.tce_space.specs.Box.{product}
use Rattle.tce_exec.proofs.MergedRows.{alike_more}
use Rattle.tce_exec.proofs.merging.+longest_row.Goals as goal

pub longest_row-requires : goal.longest_row-requires
longest_row-requires t c =
    let b = c.args.at.now in
    let depth : ℕ = c.args.row.depth in
    let some : 0 < depth = omega (arith, c.if-row-eq0.false) in
    let low : depth - 1 < length b.len.now = omega (arith, c.requires.depth, c.requires.each) in
    let next : depth - 1 + 1 ≡ depth = omega (arith, some) in
    let whole : get_or b.len.now (depth - 1) 0 * product (drop depth b.len.now) ≡ product (drop (depth - 1) b.len.now) =
    ap (λ n. get_or b.len.now (depth - 1) 0 * product (drop n b.len.now)) (sym next) ∙ sym (ap product (drop_more b.len.now (depth - 1) 0 low)) in (
      omega (arith, some),
      (
        c.requires.known,
        (
          c.requires.each,
          (
            omega (arith, c.requires.depth),
            (
              alike_more b c.args.links.now depth some c.requires.alike (c.are_links_alike.ensures c.if-not-are_links_alike.false),
              c.in-Some.ensures.1 ∙ ap (λ n. get_or b.len.now (depth - 1) 0 * n) c.requires.count ∙ whole,
            ),
          ),
        ),
      ),
    )
