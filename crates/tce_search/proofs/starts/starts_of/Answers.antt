use Rattle.std.proofs.lemmas.Result.{err_from_is_err_and}
use Rattle.std.proofs.Common.{ℕ, ◌<◌, length, get_or, sym, ap, subst, arith}
use Rattle.std.specs.List.{All}
use Rattle.std.proofs.lemmas.List.Elements.{All-push, All-nil}
use Rattle.tce_search.proofs.RunParts.{rows_count}
use Rattle.tce_search.proofs.StartParts.{settled_out, settled_more}
use Rattle.tce_search.proofs.starts.starts_of.Goals as goal

pub loop-place-preserved-then-is_ruled_out : goal.loop-place-preserved-then-is_ruled_out
loop-place-preserved-then-is_ruled_out c =
    let rights = c.args.rights.now in
    let place = c.loop-place.place in
    let runs = rights.runs.now in
    let is = ap (λ r. get_or runs place r) c.index-rights-place.is in
    record {
      inside = c.loop-place.invariant.inside;
      each = settled_out rights.limit place runs c.args.ends c.args.cost c.loop-place.places.items (get_or runs place c.index-rights-place.result) is c.loop-place.invariant.each
          (c.is_ruled_out.ensures c.if-is_ruled_out.true);
    }

pub loop-place-preserved : goal.loop-place-preserved
loop-place-preserved c =
    let rights = c.args.rights.now in
    let places = c.loop-place.places.items in
    let place = c.loop-place.place in
    let runs = rights.runs.now in
    let is = ap (λ r. get_or runs place r) c.index-rights-place.is in
    let below = λ (p : ℕ). p < length rights.candidates.now in
    let grown = c.in_ok-push.ensures.items in
    record {
      inside = subst (All below) (sym grown) (All-push below places place c.loop-place.invariant.inside c.loop-place-test.true);
      each = settled_more rights.limit place runs c.args.ends c.args.cost places (get_or runs place c.index-rights-place.result) is c.loop-place.invariant.each c.push.new.self.items grown;
    }

pub loop-place-init : goal.loop-place-init
loop-place-init c =
    let below = λ (p : ℕ). p < length c.args.rights.now.candidates.now in
    record {
      inside = subst (All below) (sym c.new-places.ensures.items) (All-nil below);
      each = λ k low. absurd (omega (arith, low));
    }

pub bounds-rights-place : goal.bounds-rights-place
bounds-rights-place c = omega (arith, c.requires.count, rows_count c.args.rights.now.candidates.now, c.loop-place-test.true)

pub returns-clause-starts : goal.returns-clause-starts
returns-clause-starts c = record {
  inside = c.loop-place.invariant.inside;
  each = λ k low. c.loop-place.invariant.each k (omega (arith, low, c.loop-place-test.false));
}

pub returns-in_err-push : goal.returns-in_err-push
returns-in_err-push c =
    let p = err_from_is_err_and c.from_residual.result c.from_residual.ensures.1 in
    rw p.1 (record { starts = tt; ends = tt; cost = tt })
