use Rattle.std.proofs.Common.{refl, subst}
use Rattle.tce_space.specs.Space.{IndexSpace}
use Rattle.tce_tree.specs.ContractionTree.{ContractionTree}
use Rattle.tce_layout.specs.Layout.{IsLayout}
use Rattle.tce_layout.specs.Places.{PlacesFill}
use Rattle.tce_job.proofs.preparing.take_memory.Goals as goal

pub orders_of-orders-requires-clause-enough : goal.orders_of-orders-requires-clause-enough
orders_of-orders-requires-clause-enough g c = c.requires.enough

pub orders_of-orders-requires-clause-plan : goal.orders_of-orders-requires-clause-plan
orders_of-orders-requires-clause-plan g c = c.requires.plan

pub code_and_report-requires-clause-enough : goal.code_and_report-requires-clause-enough
code_and_report-requires-clause-enough g c = c.requires.enough

pub code_and_report-requires-clause-plan : goal.code_and_report-requires-clause-plan
code_and_report-requires-clause-plan g c = c.requires.plan

pub code_and_report-requires-clause-fit : goal.code_and_report-requires-clause-fit
code_and_report-requires-clause-fit g c = c.orders_of-orders.ensures.fit

pub code_and_report-requires-clause-carried : goal.code_and_report-requires-clause-carried
code_and_report-requires-clause-carried g c = c.orders_of-orders.ensures.carried

pub cache_and_words-requires-clause-enough : goal.cache_and_words-requires-clause-enough
cache_and_words-requires-clause-enough g c = c.requires.enough

pub cache_and_words-requires-clause-limit : goal.cache_and_words-requires-clause-limit
cache_and_words-requires-clause-limit g c = c.requires.limit

pub cache_and_words-requires-clause-small : goal.cache_and_words-requires-clause-small
cache_and_words-requires-clause-small g c = c.requires.small

pub returns-in-Err-clause-refused : goal.returns-in-Err-clause-refused
returns-in-Err-clause-refused g c = refl

pub returns-in-Ok-cache_and_words-clause-prepared : goal.returns-in-Ok-cache_and_words-clause-prepared
returns-in-Ok-cache_and_words-clause-prepared g c = record {
  plan = c.requires.plan;
  small = c.requires.small;
  orders = c.orders_of-orders.ensures.fit;
  code = c.in-Ok.ensures.code;
  slots = subst (λ (x : IndexSpace). IsLayout x c.args.spec.now.tree c.args.plan.fusion.0.items c.lay_out-layout.result.0.items) c.space.ensures.space
      (subst (λ (x : ContractionTree). IsLayout c.space.result.now x c.args.plan.fusion.0.items c.lay_out-layout.result.0.items) c.tree.ensures.tree c.lay_out-layout.ensures.slots);
  places = subst (λ (x : IndexSpace). PlacesFill x c.args.spec.now.tree c.args.plan.fusion.0.items c.lay_out-layout.result.0.items) c.space.ensures.space
      (subst (λ (x : ContractionTree). PlacesFill c.space.result.now x c.args.plan.fusion.0.items c.lay_out-layout.result.0.items) c.tree.ensures.tree c.lay_out-layout.ensures.places);
  words = c.in-Ok-cache_and_words.ensures.words;
  cache = c.in-Ok-cache_and_words.ensures.cache;
  report = c.in-Ok.ensures.report;
}

pub returns-in-Ok-cache_and_words-clause-plan : goal.returns-in-Ok-cache_and_words-clause-plan
returns-in-Ok-cache_and_words-clause-plan g c = refl

pub returns-in-Ok-cache_and_words-clause-taken : goal.returns-in-Ok-cache_and_words-clause-taken
returns-in-Ok-cache_and_words-clause-taken g c = c.in-Ok-cache_and_words.ensures.taken

pub returns-in-Err-cache_and_words-clause-refused : goal.returns-in-Err-cache_and_words-clause-refused
returns-in-Err-cache_and_words-clause-refused g c = c.in-Err-cache_and_words.ensures.refused
