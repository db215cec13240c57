use Rattle.std.proofs.Common.{◌≡◌, ℕ, ◌<◌, ◌≤◌, AllPairs, IsPermutation, filter, length, insert, All, sym, ap, ◌∙◌, subst, arith, lit<}
use Rattle.std.specs.List.{range_with_len}
use Rattle.arrayvec.specs.ArrayVec.{ArrayVec}
use Rattle.tce_space.specs.IndexSet.{has, members}
use Rattle.tce_space.proofs.Ranges.{filter_same}
use Rattle.tce_fusion.specs.Scope.{StandsBefore}
use Rattle.tce_fusion.specs.Tops.{row, size_in}
use Rattle.tce_fusion.proofs.Inserting.{order_below, order_room, insert_permutes, insert_precedes}
use Rattle.tce_fusion.proofs.orders.standard_order.Goals as goal
use Rattle.tce_fusion.proofs.orders.standard_order.Goals.{then-has, else-has}

pub place_behind-place-requires-clause-indexes : goal.place_behind-place-requires-clause-indexes
place_behind-place-requires-clause-indexes c k d l =
    let below : All (λ x. x < c.loop-i.i) c.as_slice.result.now =
    rw c.as_slice.ensures.value (order_below (has c.args.loops) c.loop-i.i c.loop-i.order.items c.loop-i.invariant.permutes) in
    omega (arith, below k d l, c.loop-i-test.true)

pub insert-requires : goal.insert-requires
insert-requires c =
    let room : length c.loop-i.order.items < 10 =
    order_room c.args.loops c.loop-i.i c.loop-i.order.items c.loop-i-test.true (sym c.has.ensures ∙ c.if-has.true) c.requires.limit c.loop-i.invariant.permutes in
    let within : c.place_behind-place.result ≤ length c.loop-i.order.items = rw c.as_slice.ensures.value at c.place_behind-place.ensures.within in
    (lit< tt, (within, room))

pub loop-i-preserved : goal.loop-i-preserved
loop-i-preserved c =
    elim c.if-has.branch [
      | then-has w ↦
          let is : c.if-has.order.items ≡ insert c.loop-i.order.items w.place_behind-place.result c.loop-i.i = ap (λ (v : ArrayVec ℕ). v.items) w.order-is ∙ w.insert.ensures.items in
          record {
            permutes = rw is (insert_permutes (has c.args.loops) c.loop-i.i w.place_behind-place.result c.loop-i.order.items (sym c.has.ensures ∙ w.if-has.true) c.loop-i.invariant.permutes);
            standard =
                let sorted : AllPairs (StandsBefore (λ i. size_in c.args.count (row c.args.scopes.now.0 i) c.args.v)) (insert c.loop-i.order.items w.place_behind-place.result c.loop-i.i) =
                insert_precedes (λ i. size_in c.args.count (row c.args.scopes.now.0 i) c.args.v) c.loop-i.i w.scope_size-size.result w.place_behind-place.result c.loop-i.order.items
                (w.scope_size-size.ensures ∙ ap (λ tops. size_in c.args.count tops c.args.v) w.tops_in.ensures)
                (rw w.as_slice.ensures.value at w.place_behind-place.ensures.within)
                (order_below (has c.args.loops) c.loop-i.i c.loop-i.order.items c.loop-i.invariant.permutes)
                c.loop-i.invariant.standard
                (rw w.as_slice.ensures.value at w.place_behind-place.ensures.before)
                (rw w.as_slice.ensures.value at w.place_behind-place.ensures.behind) in
                subst (λ xs. AllPairs (StandsBefore (λ i. size_in c.args.count (row c.args.scopes.now.0 i) c.args.v)) xs) (sym is) sorted;
          }
      | else-has w ↦
          let is : c.if-has.order.items ≡ c.loop-i.order.items = ap (λ (v : ArrayVec ℕ). v.items) w.order-is in
          record {
            permutes = rw (is, filter_same (has c.args.loops) c.loop-i.i (sym c.has.ensures ∙ w.if-has.false)) c.loop-i.invariant.permutes;
            standard = subst (λ xs. AllPairs (StandsBefore (λ i. size_in c.args.count (row c.args.scopes.now.0 i) c.args.v)) xs) (sym is) c.loop-i.invariant.standard;
          }
    ]

pub returns-clause-permutes : goal.returns-clause-permutes
unfolding members
returns-clause-permutes c =
    let all : c.loop-i.i ≡ 24 = omega arith in
    subst (λ n. IsPermutation (filter (has c.args.loops) (range_with_len 0 n)) c.loop-i.order.items) all c.loop-i.invariant.permutes
