use Rattle.std.proofs.Common.{arith, ◌++◌, ℕ, List, length, ap}
use Rattle.tce_grammar.specs.Code.{names}
use Rattle.tce_spec.specs.Meaning.{indexes_of}
use Rattle.tce_spec.proofs.FirstNames.{behind_shorter, first_is_name, behind_are, numbered_behind, room_behind, all_numbered}
use Rattle.tce_spec.proofs.expression.indexes_of.Goals as goal

pub loop-rest-init : goal.loop-rest-init
loop-rest-init g c = record {
  named = c.requires.names;
  numbered = ap (λ (ns : List ℕ). ns ++ indexes_of c.args.space.now (names c.args.indexes.now)) c.new-numbers.ensures;
  room = omega (arith, ap length c.new-numbers.ensures, c.requires.few);
}

pub index_named-requires : goal.index_named-requires
index_named-requires g c = first_is_name c.loop-rest.rest.now _ c.in-len1-up.len_at_least c.loop-rest.invariant.named

pub loop-rest-smaller : goal.loop-rest-smaller
loop-rest-smaller g c = behind_shorter c.loop-rest.rest.now c.in-len1-up.len_at_least

pub loop-rest-preserved : goal.loop-rest-preserved
loop-rest-preserved g c = record {
  named = behind_are c.loop-rest.rest.now c.in-len1-up.len_at_least c.loop-rest.invariant.named;
  numbered = numbered_behind c.args.space.now c.loop-rest.rest.now _ c.loop-rest.numbers.items c.push.new.self.items (indexes_of c.args.space.now (names c.args.indexes.now)) c.index_named.result c.unwrap_or.result
      c.in-len1-up.len_at_least c.loop-rest.invariant.numbered c.index_named.ensures c.unwrap_or.ensures c.push.ensures.items;
  room = room_behind c.loop-rest.rest.now c.loop-rest.numbers.items c.push.new.self.items c.unwrap_or.result g.row.N c.in-len1-up.len_at_least c.loop-rest.invariant.room c.push.ensures.items;
}

pub returns : goal.returns
returns g c =
    all_numbered c.args.space.now c.loop-rest.rest.now c.loop-rest.numbers.items (indexes_of c.args.space.now (names c.args.indexes.now)) c.in_default.len_below c.loop-rest.invariant.numbered
