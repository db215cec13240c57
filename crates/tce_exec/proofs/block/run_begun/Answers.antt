use Rattle.tce_exec.proofs.block.run_begun.Goals as goal

pub run_sum-requires-clause-at : goal.run_sum-requires-clause-at
run_sum-requires-clause-at g c = c.requires.at

pub run_sum-requires-clause-position : goal.run_sum-requires-clause-position
run_sum-requires-clause-position g c = c.requires.position

pub run_sum-requires-clause-few : goal.run_sum-requires-clause-few
run_sum-requires-clause-few g c = c.requires.few

pub run_sum-requires-clause-first : goal.run_sum-requires-clause-first
run_sum-requires-clause-first g c = c.requires.first

pub run_sum-requires-clause-nest : goal.run_sum-requires-clause-nest
run_sum-requires-clause-nest g c = c.requires.nest

pub returns-in_default-clause-changed : goal.returns-in_default-clause-changed
returns-in_default-clause-changed g c = c.run_sum.ensures.changed

pub returns-in_default-clause-upheld : goal.returns-in_default-clause-upheld
returns-in_default-clause-upheld g c = c.run_sum.ensures.upheld

pub returns-in_default-clause-nest : goal.returns-in_default-clause-nest
returns-in_default-clause-nest g c = c.run_sum.ensures.nest

pub run_pair-requires-clause-at : goal.run_pair-requires-clause-at
run_pair-requires-clause-at g c = c.requires.at

pub run_pair-requires-clause-position : goal.run_pair-requires-clause-position
run_pair-requires-clause-position g c = c.requires.position

pub run_pair-requires-clause-few : goal.run_pair-requires-clause-few
run_pair-requires-clause-few g c = c.requires.few

pub run_pair-requires-clause-first : goal.run_pair-requires-clause-first
run_pair-requires-clause-first g c = c.requires.first

pub run_pair-requires-clause-nest : goal.run_pair-requires-clause-nest
run_pair-requires-clause-nest g c = c.requires.nest

pub returns-in-None-clause-changed : goal.returns-in-None-clause-changed
returns-in-None-clause-changed g c = c.run_pair.ensures.changed

pub returns-in-None-clause-upheld : goal.returns-in-None-clause-upheld
returns-in-None-clause-upheld g c = c.run_pair.ensures.upheld

pub returns-in-None-clause-nest : goal.returns-in-None-clause-nest
returns-in-None-clause-nest g c = c.run_pair.ensures.nest

pub run_joined-requires-clause-at : goal.run_joined-requires-clause-at
run_joined-requires-clause-at g c = c.requires.at

pub run_joined-requires-clause-position : goal.run_joined-requires-clause-position
run_joined-requires-clause-position g c = c.requires.position

pub run_joined-requires-clause-few : goal.run_joined-requires-clause-few
run_joined-requires-clause-few g c = c.requires.few

pub run_joined-requires-clause-first : goal.run_joined-requires-clause-first
run_joined-requires-clause-first g c = c.requires.first

pub run_joined-requires-clause-nest : goal.run_joined-requires-clause-nest
run_joined-requires-clause-nest g c = c.requires.nest

pub returns-in-Some-sum-clause-changed : goal.returns-in-Some-sum-clause-changed
returns-in-Some-sum-clause-changed g c = c.run_joined.ensures.changed

pub returns-in-Some-sum-clause-upheld : goal.returns-in-Some-sum-clause-upheld
returns-in-Some-sum-clause-upheld g c = c.run_joined.ensures.upheld

pub returns-in-Some-sum-clause-nest : goal.returns-in-Some-sum-clause-nest
returns-in-Some-sum-clause-nest g c = c.run_joined.ensures.nest
