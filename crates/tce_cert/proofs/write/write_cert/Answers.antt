use Rattle.std.proofs.Common.{◌++◌, ap, ◌∙◌}
use Rattle.tce_tree.specs.ContractionTree.{operations}
use Rattle.tce_cert.specs.Lines.{opening_line, memory_line, end_line}
use Rattle.tce_cert.specs.Certificate.{certificate, certificate_lines, nodes_lines, tables_lines}
use Rattle.std.proofs.Common.{length}
use Rattle.tce_cert.proofs.Sets.{rows_declared}
use Rattle.tce_cert.proofs.Texts.{certificate_pushed}
use Rattle.tce_cert.proofs.write.write_cert.Goals as goal

pub push_tables-requires : goal.push_tables-requires
push_tables-requires c =
    rows_declared c.args.space.now c.args.tree.now c.args.plan.now.tables c.index_count-declared.ensures.limits.index_limit c.requires.declared
    c.requires.fits.tables c.requires.fits.rows

pub returns-clause-text : goal.returns-clause-text
unfolding certificate certificate_lines
returns-clause-text c =
    certificate_pushed _ _ _ _ _ _ opening_line end_line (memory_line c.args.plan.now.memory)
    (nodes_lines c.args.space.now c.args.tree.now c.args.plan.now (operations c.args.tree.now))
    (tables_lines c.args.space.now c.args.plan.now.tables (length c.args.plan.now.tables))
    c.new-text.ensures.items c.in_ok-extend_from_slice.ensures.items c.in_ok-push_nodes.ensures
    (c.in_ok-extend_from_slice-2.ensures.items
    ∙ ap (λ t. c.push_nodes.new.text.items ++ t) (c.as_bytes.ensures.value ∙ c.as_str.ensures.value ∙ c.in_ok-memory.ensures.ok))
    c.in_ok-push_tables.ensures.text c.in_ok-extend_from_slice-3.ensures.items
