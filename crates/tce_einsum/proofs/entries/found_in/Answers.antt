use Rattle.std.proofs.Common.{◌≡◌, Bool, true, false, ◌||◌, List, [], ◌∷◌, sym, ap, refl, ◌∙◌}
use Rattle.std.specs.List.{list_any}
use Rattle.std.proofs.lemmas.List.Folds.{list_any-append}
use Rattle.tce_space.specs.IndexSet.{has}
use Rattle.tce_einsum.specs.declared.entries.Entry.{Entry}
use Rattle.tce_einsum.proofs.entries.found_in.Goals as goal

-- by f, e and b: whether a label was found, stands in the entry, and in one before it
one_more : (f e b : Bool) → ((f || e) || b) ≡ (f || (b || (e || false)))
one_more true e b = refl
one_more false true true = refl
one_more false true false = refl
one_more false false true = refl
one_more false false false = refl

pub returns-then-is_within : goal.returns-then-is_within
returns-then-is_within c i inside =
    let here : has c.loop-entry.found.bits i ≡ true = c.is_within.ensures.0 c.if-is_within.true i inside in
    here ∙ ap (λ f. f || list_any (λ (e : Entry). has e.free.bits i) c.loop-entry.rest.now) (sym here) ∙ c.loop-entry.invariant i

pub loop-entry-preserved : goal.loop-entry-preserved
loop-entry-preserved c i =
    let before : List Entry = c.in-Some.before.now in
    let entry : Entry = c.in-Some.entry.now in
    ap (λ f. f || list_any (λ (e : Entry). has e.free.bits i) before) (c.union-found.ensures i)
    ∙ one_more (has c.loop-entry.found.bits i) (has entry.free.bits i) (list_any (λ (e : Entry). has e.free.bits i) before)
    ∙ ap (λ b. has c.loop-entry.found.bits i || b)
    (sym (ap (list_any (λ (e : Entry). has e.free.bits i)) c.in-Some.ensures.cases.0 ∙ list_any-append (λ (e : Entry). has e.free.bits i) before (entry ∷ [])))
    ∙ c.loop-entry.invariant i
