use Rattle.tce_exec.specs.Storages.{work_of}
use Rattle.tce_exec.specs.Workspace.{Workspace}
use Rattle.tce_exec.proofs.MergedRows.{rows_small, rows_fit, rows_left}
use Rattle.tce_exec.proofs.chain.turn_row.Goals as goal

pub run_row-requires-clause-small : goal.run_row-requires-clause-small
run_row-requires-clause-small g c =
    let x : Workspace = work_of g.D.Disk.files c.args.evaluation.now c.args.store.now in
    let rows = c.args.rows.now in
    rows_small x rows.at c.args._numbers.now c.args.links.now rows.row.depth (record {
      prepared = c.requires.prepared;
      space = c.index_count-indexes.ensures.limits;
      tree = c.count-nodes.ensures.kept;
      low = c.len-len.ensures.words;
      inside = c.requires.row.inside;
      many = c.requires.row.many;
      long = c.told-_numbers;
      begun = c.requires.begun;
      body = c.requires.body;
      links_are = c.requires.links;
      alike = c.requires.row.alike;
    })

pub run_row-requires-clause-within : goal.run_row-requires-clause-within
run_row-requires-clause-within g c =
    let x : Workspace = work_of g.D.Disk.files c.args.evaluation.now c.args.store.now in
    let rows = c.args.rows.now in
    rows_fit x rows.at c.args._numbers.now c.args.links.now rows.row.depth rows.row.count (record {
      prepared = c.requires.prepared;
      space = c.index_count-indexes.ensures.limits;
      tree = c.count-nodes.ensures.kept;
      low = c.len-len.ensures.words;
      inside = c.requires.row.inside;
      many = c.requires.row.many;
      long = c.told-_numbers;
      begun = c.requires.begun;
      body = c.requires.body;
      links_are = c.requires.links;
      alike = c.requires.row.alike;
    }) c.requires.row.count_is

pub returns-clause-changed : goal.returns-clause-changed
returns-clause-changed g c =
    let x : Workspace = work_of g.D.Disk.files c.args.evaluation.now c.args.store.now in
    let rows = c.args.rows.now in
    (rows_left x rows.at c.args._numbers.now c.run_row.new.words c.args.links.now rows.row.depth rows.row.count (record {
      prepared = c.requires.prepared;
      space = c.index_count-indexes.ensures.limits;
      tree = c.count-nodes.ensures.kept;
      low = c.len-len.ensures.words;
      inside = c.requires.row.inside;
      many = c.requires.row.many;
      long = c.told-_numbers;
      begun = c.requires.begun;
      body = c.requires.body;
      links_are = c.requires.links;
      alike = c.requires.row.alike;
    }) c.requires.row.count_is c.run_row.ensures).changed

pub returns-clause-kept : goal.returns-clause-kept
returns-clause-kept g c =
    let x : Workspace = work_of g.D.Disk.files c.args.evaluation.now c.args.store.now in
    let rows = c.args.rows.now in
    (rows_left x rows.at c.args._numbers.now c.run_row.new.words c.args.links.now rows.row.depth rows.row.count (record {
      prepared = c.requires.prepared;
      space = c.index_count-indexes.ensures.limits;
      tree = c.count-nodes.ensures.kept;
      low = c.len-len.ensures.words;
      inside = c.requires.row.inside;
      many = c.requires.row.many;
      long = c.told-_numbers;
      begun = c.requires.begun;
      body = c.requires.body;
      links_are = c.requires.links;
      alike = c.requires.row.alike;
    }) c.requires.row.count_is c.run_row.ensures).kept
