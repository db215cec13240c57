use Rattle.std.proofs.Common.{[], ◌∷◌, arith}
use Rattle.std.proofs.lemmas.Result.{err_from_is_err_and}
use Rattle.tce_cert.specs.Faults.{memory, ending, tables_due}
use Rattle.tce_cert.proofs.Whole.{of_whole, past_opening, past_memory, plan_read}
use Rattle.tce_cert.proofs.NoFault.{refused}
use Rattle.tce_cert.proofs.read.read_cert.Goals as goal

pub returns-in_err-first-clause-fault : goal.returns-in_err-first-clause-fault
returns-in_err-first-clause-fault c =
    let p = err_from_is_err_and c.from_residual.result c.from_residual.ensures.1 in
    rw (p.1, p.2) (λ other.
    of_whole c.args.space.now c.args.tree.now c.new.result.number c.new.result.rest.now c.args.bytes.now c.in_err-first.field-0.0 c.new.ensures.number c.new.ensures.rest
    (c.in_err-first.ensures.err _))

pub returns-in_err-nodes-clause-fault : goal.returns-in_err-nodes-clause-fault
returns-in_err-nodes-clause-fault c =
    let p = err_from_is_err_and c.from_residual-in_err-nodes.result c.from_residual-in_err-nodes.ensures.1 in
    rw (p.1, p.2) (λ other.
    of_whole c.args.space.now c.args.tree.now c.new.result.number c.new.result.rest.now c.args.bytes.now c.in_err-nodes.field-0.0 c.new.ensures.number c.new.ensures.rest
    (past_opening c.args.space.now c.args.tree.now c.new.result.number c.in_ok-first.first.number c.new.result.rest.now c.in_ok-first.first.rest.now c.in_err-nodes.field-0.0 c.in_ok-first.ensures.ok
    (c.in_err-nodes.ensures.err (memory ∷ tables_due c.args.tree.now))))

pub returns-in_err-memory-clause-fault : goal.returns-in_err-memory-clause-fault
returns-in_err-memory-clause-fault c =
    let p = err_from_is_err_and c.from_residual-in_err-memory.result c.from_residual-in_err-memory.ensures.1 in
    rw (p.1, p.2) (λ other.
    of_whole c.args.space.now c.args.tree.now c.new.result.number c.new.result.rest.now c.args.bytes.now c.in_err-memory.field-0.0 c.new.ensures.number c.new.ensures.rest
    (past_opening c.args.space.now c.args.tree.now c.new.result.number c.in_ok-first.first.number c.new.result.rest.now c.in_ok-first.first.rest.now c.in_err-memory.field-0.0 c.in_ok-first.ensures.ok
    (c.in_ok-nodes.ensures.on (memory ∷ tables_due c.args.tree.now) c.in_err-memory.field-0.0
    (c.in_err-memory.ensures.err (tables_due c.args.tree.now)))))

pub returns-in_err-tables-clause-fault : goal.returns-in_err-tables-clause-fault
returns-in_err-tables-clause-fault c =
    let p = err_from_is_err_and c.from_residual-in_err-tables.result c.from_residual-in_err-tables.ensures.1 in
    rw (p.1, p.2) (λ other.
    of_whole c.args.space.now c.args.tree.now c.new.result.number c.new.result.rest.now c.args.bytes.now c.in_err-tables.field-0.0 c.new.ensures.number c.new.ensures.rest
    (past_opening c.args.space.now c.args.tree.now c.new.result.number c.in_ok-first.first.number c.new.result.rest.now c.in_ok-first.first.rest.now c.in_err-tables.field-0.0 c.in_ok-first.ensures.ok
    (c.in_ok-nodes.ensures.on (memory ∷ tables_due c.args.tree.now) c.in_err-tables.field-0.0
    (past_memory c.args.space.now c.args.tree.now c.in_ok-memory.memory c.in_ok-nodes.behind.number c.in_ok-memory.heads.number c.in_ok-nodes.behind.rest.now c.in_ok-memory.heads.rest.now c.in_err-tables.field-0.0 c.in_ok-memory.ensures.ok
    (c.in_err-tables.ensures.err other (ending ∷ []))))))

pub returns-in_err-read_end-clause-fault : goal.returns-in_err-read_end-clause-fault
returns-in_err-read_end-clause-fault c =
    let p = err_from_is_err_and c.from_residual-in_err-read_end.result c.from_residual-in_err-read_end.ensures.1 in
    rw (p.1, p.2) (λ other.
    of_whole c.args.space.now c.args.tree.now c.new.result.number c.new.result.rest.now c.args.bytes.now c.in_err-read_end.field-0.0 c.new.ensures.number c.new.ensures.rest
    (past_opening c.args.space.now c.args.tree.now c.new.result.number c.in_ok-first.first.number c.new.result.rest.now c.in_ok-first.first.rest.now c.in_err-read_end.field-0.0 c.in_ok-first.ensures.ok
    (c.in_ok-nodes.ensures.on (memory ∷ tables_due c.args.tree.now) c.in_err-read_end.field-0.0
    (past_memory c.args.space.now c.args.tree.now c.in_ok-memory.memory c.in_ok-nodes.behind.number c.in_ok-memory.heads.number c.in_ok-nodes.behind.rest.now c.in_ok-memory.heads.rest.now c.in_err-read_end.field-0.0 c.in_ok-memory.ensures.ok
    (c.in_ok-tables.ensures.on (ending ∷ []) c.in_err-read_end.field-0.0 c.in_err-read_end.ensures.err)))))

pub returns-clause-ok : goal.returns-clause-ok
returns-clause-ok c =
    plan_read c.args.space.now c.args.tree.now _ c.in_ok-first.first.number c.in_ok-nodes.behind.number c.in_ok-memory.heads.number
    c.args.bytes.now c.new.result.rest.now c.in_ok-first.first.rest.now c.in_ok-nodes.behind.rest.now c.in_ok-memory.heads.rest.now c.in_ok-tables.last.rest.now c.new.result.number c.new.ensures.rest
    (omega (arith, c.in_ok-nodes.ensures.sizes)) c.in_ok-nodes.ensures.sizes c.in_ok-tables.ensures.each
    c.in_ok-first.ensures.ok c.in_ok-nodes.ensures.ok c.in_ok-memory.ensures.ok c.in_ok-tables.ensures.ok c.in_ok-read_end.ensures.ok

pub returns-in_err-first-clause-exact : goal.returns-in_err-first-clause-exact
returns-in_err-first-clause-exact c plan fits nestings whole =
    refused c.from_residual.result c.args.space.now c.args.tree.now c.args.bytes.now plan c.index_count-declared.ensures.limits c.count-count.ensures.kept c.requires fits nestings whole
    (returns-in_err-first-clause-fault c)

pub returns-in_err-nodes-clause-exact : goal.returns-in_err-nodes-clause-exact
returns-in_err-nodes-clause-exact c plan fits nestings whole =
    refused c.from_residual-in_err-nodes.result c.args.space.now c.args.tree.now c.args.bytes.now plan c.index_count-declared.ensures.limits c.count-count.ensures.kept c.requires fits nestings whole
    (returns-in_err-nodes-clause-fault c)

pub returns-in_err-memory-clause-exact : goal.returns-in_err-memory-clause-exact
returns-in_err-memory-clause-exact c plan fits nestings whole =
    refused c.from_residual-in_err-memory.result c.args.space.now c.args.tree.now c.args.bytes.now plan c.index_count-declared.ensures.limits c.count-count.ensures.kept c.requires fits nestings whole
    (returns-in_err-memory-clause-fault c)

pub returns-in_err-tables-clause-exact : goal.returns-in_err-tables-clause-exact
returns-in_err-tables-clause-exact c plan fits nestings whole =
    refused c.from_residual-in_err-tables.result c.args.space.now c.args.tree.now c.args.bytes.now plan c.index_count-declared.ensures.limits c.count-count.ensures.kept c.requires fits nestings whole
    (returns-in_err-tables-clause-fault c)

pub returns-in_err-read_end-clause-exact : goal.returns-in_err-read_end-clause-exact
returns-in_err-read_end-clause-exact c plan fits nestings whole =
    refused c.from_residual-in_err-read_end.result c.args.space.now c.args.tree.now c.args.bytes.now plan c.index_count-declared.ensures.limits c.count-count.ensures.kept c.requires fits nestings whole
    (returns-in_err-read_end-clause-fault c)

pub returns-in_err-first-clause-ok : goal.returns-in_err-first-clause-ok
returns-in_err-first-clause-ok c =
    let p = err_from_is_err_and c.from_residual.result c.from_residual.ensures.1 in
    rw p.1 tt

pub returns-in_err-nodes-clause-ok : goal.returns-in_err-nodes-clause-ok
returns-in_err-nodes-clause-ok c =
    let p = err_from_is_err_and c.from_residual-in_err-nodes.result c.from_residual-in_err-nodes.ensures.1 in
    rw p.1 tt

pub returns-in_err-memory-clause-ok : goal.returns-in_err-memory-clause-ok
returns-in_err-memory-clause-ok c =
    let p = err_from_is_err_and c.from_residual-in_err-memory.result c.from_residual-in_err-memory.ensures.1 in
    rw p.1 tt

pub returns-in_err-tables-clause-ok : goal.returns-in_err-tables-clause-ok
returns-in_err-tables-clause-ok c =
    let p = err_from_is_err_and c.from_residual-in_err-tables.result c.from_residual-in_err-tables.ensures.1 in
    rw p.1 tt

pub returns-in_err-read_end-clause-ok : goal.returns-in_err-read_end-clause-ok
returns-in_err-read_end-clause-ok c =
    let p = err_from_is_err_and c.from_residual-in_err-read_end.result c.from_residual-in_err-read_end.ensures.1 in
    rw p.1 tt
