use Rattle.std.proofs.Common.{subst, arith}
use Rattle.tce_fields.proofs.Named.{AreFound, found_more, all_found, one_unnamed, name_each}
use Rattle.tce_fields.proofs.indexes.indexes_named.Goals as goal

pub index_named-requires : goal.index_named-requires
index_named-requires g c = name_each c.args.names.now c.loop-name.name-index c.loop-name-test.true c.requires.named

pub returns-in_default : goal.returns-in_default
returns-in_default g c = one_unnamed c.args.space.now c.args.names.now c.loop-name.name-index c.loop-name-test.true c.in_default.ensures

pub loop-name-preserved : goal.loop-name-preserved
loop-name-preserved g c =
    found_more c.args.space.now c.args.names.now c.loop-name.name-index c.loop-name.indexes.items c.push.new.self.items c.in-Some.index c.loop-name.invariant c.in-Some.ensures c.push.ensures.items

pub returns : goal.returns
returns g c =
    all_found c.args.space.now c.args.names.now c.loop-name.indexes.items
    (subst (λ k. AreFound c.args.space.now c.args.names.now k c.loop-name.indexes.items) (omega (arith, c.loop-name.auto.name-index-end, c.loop-name-test.false)) c.loop-name.invariant)
