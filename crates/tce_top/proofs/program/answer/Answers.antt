use Rattle.std.proofs.Common.{ap}
use Rattle.tce_system.specs.Told.{Told}
use Rattle.tce_top.proofs.Reported.{reported}
use Rattle.tce_top.proofs.program.answer.Goals as goal

pub returns : goal.returns
returns g c = record {
  status = c.tce-status.result;
  code_is = c.exit_code.ensures;
  done = λ is.
      let done = c.tce-status.ensures.done is in
      (done.0, reported _ c.new-disk.result.files c.tce-status.new.disk.files c.new-room.result c.tce-status.new.room done.0 (ap (λ (d : Told). d.files) c.new-disk.ensures) c.new-room.ensures done.1, done.2);
  cut_short = λ is.
      let cut = c.tce-status.ensures.cut_short is in
      (cut.0, reported _ c.new-disk.result.files c.tce-status.new.disk.files c.new-room.result c.tce-status.new.room cut.0 (ap (λ (d : Told). d.files) c.new-disk.ensures) c.new-room.ensures cut.1, cut.2);
  bad_words = c.tce-status.ensures.bad_words;
  no_command = c.tce-status.ensures.no_command;
  refused = c.tce-status.ensures.refused;
  well_formed = c.tce-status.ensures.well_formed;
  sink_fault = c.tce-status.ensures.sink_fault;
  line = c.tce-status.ensures.line;
  cert_line = λ trouble is. let line = c.tce-status.ensures.cert_line trouble is in (line.0, line.2);
}
