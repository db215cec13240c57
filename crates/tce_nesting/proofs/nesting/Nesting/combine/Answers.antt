use Rattle.std.proofs.Common.{◌≡◌, ℕ, ◌+◌, ◌<◌, ◌≤◌, length, true, false, refl, sym, subst, arith}
use Rattle.std.proofs.lemmas.Bool.{false≢true}
use Rattle.tce_space.specs.IndexSet.{count}
use Rattle.tce_fusion.specs.Relation.{above}
use Rattle.tce_nesting.proofs.Joins.{IsPartOfJoin, IsNextClass, no_class, part_start, class_apart, class_size, part_further, join_end, join_quiet, inhabited_from, rest_within}
use Rattle.tce_nesting.proofs.Counts.{count-inhabited}
use Rattle.tce_nesting.proofs.nesting.Nesting.combine.Goals as goal

room_left : (classes rest loops limit : ℕ) → 0 < rest → classes + rest ≤ loops → loops ≤ limit → classes < limit
room_left classes rest loops limit some room few = omega (arith, some, room, few)

pub loop-rest-init : goal.loop-rest-init
loop-rest-init c =
    let a = above c.args.a.now in
    let b = above c.args.b.now in
    subst (λ cs. IsPartOfJoin c.args.loops a b cs c.args.loops) (sym c.none-nesting.ensures) (part_start c.args.loops a b)

pub returns-then-is_empty-clause-joins : goal.returns-then-is_empty-clause-joins
returns-then-is_empty-clause-joins c = tt

pub returns-then-is_empty-clause-conflict : goal.returns-then-is_empty-clause-conflict
returns-then-is_empty-clause-conflict c =
    let a = above c.args.a.now in
    let b = above c.args.b.now in
    let next : IsNextClass a b c.loop-rest.rest c.outermost.result c.outermost-in-loop-rest.result c.meet-class.result =
    record { left = c.outermost.ensures; right = c.outermost-in-loop-rest.ensures; both = c.meet-class.ensures.members } in (
      λ h. absurd (let e : false ≡ true = h in false≢true e),
      λ quiet. absurd (no_class c.args.loops a b c.loop-rest.rest c.outermost.result c.outermost-in-loop-rest.result c.meet-class.result next
          (rest_within c.args.loops a b c.loop-rest.nesting c.loop-rest.rest c.loop-rest.invariant)
          (inhabited_from c.loop-rest.rest c.is_empty.result c.is_empty.ensures.none c.loop-rest-test.true)
          (c.is_empty-in-loop-rest.ensures.none.0 c.if-is_empty.true) quiet),
    )

pub with_class-nesting-requires-clause-room : goal.with_class-nesting-requires-clause-room
with_class-nesting-requires-clause-room c =
    let some = count-inhabited c.loop-rest.rest c.is_empty.ensures.bounded (inhabited_from c.loop-rest.rest c.is_empty.result c.is_empty.ensures.none c.loop-rest-test.true) in
    room_left (length c.loop-rest.nesting) (count c.loop-rest.rest) (count c.args.loops) 10 some c.loop-rest.invariant.room c.requires

pub with_class-nesting-requires-clause-inhabited : goal.with_class-nesting-requires-clause-inhabited
with_class-nesting-requires-clause-inhabited c = inhabited_from c.meet-class.result c.is_empty-in-loop-rest.result c.is_empty-in-loop-rest.ensures.none c.if-is_empty.false

pub with_class-nesting-requires-clause-apart : goal.with_class-nesting-requires-clause-apart
with_class-nesting-requires-clause-apart c =
    class_apart c.args.loops (above c.args.a.now) (above c.args.b.now) c.loop-rest.nesting c.loop-rest.rest c.outermost.result c.outermost-in-loop-rest.result c.meet-class.result c.loop-rest.invariant
    (record { left = c.outermost.ensures; right = c.outermost-in-loop-rest.ensures; both = c.meet-class.ensures.members })

pub loop-rest-smaller : goal.loop-rest-smaller
loop-rest-smaller c =
    class_size (above c.args.a.now) (above c.args.b.now) c.loop-rest.rest c.outermost.result c.outermost-in-loop-rest.result c.meet-class.result c.minus-rest.result
    (record { left = c.outermost.ensures; right = c.outermost-in-loop-rest.ensures; both = c.meet-class.ensures.members })
    c.is_empty-in-loop-rest.ensures.bounded
    (inhabited_from c.meet-class.result c.is_empty-in-loop-rest.result c.is_empty-in-loop-rest.ensures.none c.if-is_empty.false) c.minus-rest.ensures.members

pub loop-rest-preserved : goal.loop-rest-preserved
loop-rest-preserved c =
    rw c.with_class-nesting.ensures
    (part_further c.args.loops (above c.args.a.now) (above c.args.b.now) c.loop-rest.nesting c.loop-rest.rest c.outermost.result c.outermost-in-loop-rest.result c.meet-class.result c.minus-rest.result
    c.loop-rest.invariant
    (record { left = c.outermost.ensures; right = c.outermost-in-loop-rest.ensures; both = c.meet-class.ensures.members })
    c.is_empty-in-loop-rest.ensures.bounded
    (inhabited_from c.meet-class.result c.is_empty-in-loop-rest.result c.is_empty-in-loop-rest.ensures.none c.if-is_empty.false) c.minus-rest.ensures.members)

pub returns-clause-joins : goal.returns-clause-joins
returns-clause-joins c =
    join_end c.args.loops (above c.args.a.now) (above c.args.b.now) c.loop-rest.nesting c.loop-rest.rest c.loop-rest.invariant (c.is_empty.ensures.none.0 c.loop-rest-test.false)

pub returns-clause-conflict : goal.returns-clause-conflict
returns-clause-conflict c = (
  λ _. join_quiet c.args.loops (above c.args.a.now) (above c.args.b.now) c.loop-rest.nesting
      (join_end c.args.loops (above c.args.a.now) (above c.args.b.now) c.loop-rest.nesting c.loop-rest.rest c.loop-rest.invariant (c.is_empty.ensures.none.0 c.loop-rest-test.false)),
  λ _. refl,
)
