use Rattle.std.proofs.Common.{◌≡◌, ◌+◌, ◌/◌, ◌%◌, get_or, refl, sym, subst, arith, List, ℕ, length}
use Rattle.tce_space.specs.Box.{IsInside, place}
use Rattle.tce_tools.proofs.Coords.{IsReached, reached_split, reached_more, reached_end}
use Rattle.tce_tools.proofs.run.coords_at.Goals as goal

pub loop-extent-preserved : goal.loop-extent-preserved
loop-extent-preserved c = record {
  len = omega (arith, c.push.ensures.len, c.loop-extent.invariant.len);
  reached =
      let n : ℕ = get_or c.extents-extents.result.now c.loop-extent.extent-index 0 in
      subst (λ (cs : List ℕ). IsReached c.extents-extents.result.now cs (c.loop-extent.extent-index + 1) (c.loop-extent.rest / n) (c.loop-extent.left % (c.loop-extent.rest / n)) c.args.number) (sym c.push.ensures.items)
      (reached_more c.extents-extents.result.now c.loop-extent.coords.items c.loop-extent.extent-index c.loop-extent.rest c.loop-extent.left c.args.number (c.loop-extent.rest / n) c.loop-extent-test.true c.loop-extent.invariant.reached refl);
}

pub returns-clause-inside : goal.returns-clause-inside
returns-clause-inside c =
    let end : length c.extents-extents.result.now ≡ c.loop-extent.extent-index = omega (arith, c.loop-extent-test.false) in
    subst (λ (ns : List ℕ). IsInside ns c.loop-extent.coords.items) c.extents-extents.ensures.items
    (reached_end c.extents-extents.result.now c.loop-extent.coords.items c.loop-extent.extent-index c.loop-extent.rest c.loop-extent.left c.args.number end c.loop-extent.invariant.reached).0

pub returns-clause-place : goal.returns-clause-place
returns-clause-place c =
    let end : length c.extents-extents.result.now ≡ c.loop-extent.extent-index = omega (arith, c.loop-extent-test.false) in
    subst (λ (ns : List ℕ). place ns c.loop-extent.coords.items ≡ c.args.number) c.extents-extents.ensures.items
    (reached_end c.extents-extents.result.now c.loop-extent.coords.items c.loop-extent.extent-index c.loop-extent.rest c.loop-extent.left c.args.number end c.loop-extent.invariant.reached).1

pub nonzero_div-rest : goal.nonzero_div-rest
nonzero_div-rest c = (reached_split c.extents-extents.result.now c.loop-extent.coords.items c.loop-extent.extent-index c.loop-extent.rest c.loop-extent.left c.args.number c.loop-extent-test.true c.loop-extent.invariant.reached).some

pub nonzero_div-left : goal.nonzero_div-left
nonzero_div-left c =
    let parts = reached_split c.extents-extents.result.now c.loop-extent.coords.items c.loop-extent.extent-index c.loop-extent.rest c.loop-extent.left c.args.number c.loop-extent-test.true c.loop-extent.invariant.reached in
    omega (arith, parts.rest_is, parts.next)

pub nonzero_rem-left : goal.nonzero_rem-left
nonzero_rem-left c =
    let parts = reached_split c.extents-extents.result.now c.loop-extent.coords.items c.loop-extent.extent-index c.loop-extent.rest c.loop-extent.left c.args.number c.loop-extent-test.true c.loop-extent.invariant.reached in
    omega (arith, parts.rest_is, parts.next)
