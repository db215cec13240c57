use Rattle.std.proofs.Common.{◌≡◌, ◌++◌}
use Rattle.tce_cert.specs.Certificate.{text_of, nodes_lines}
use Rattle.tce_cert.proofs.write.push_nodes.Given as goal

abbrev pub invariant-loop-v : goal.invariant-loop-v
invariant-loop-v l = l.text.items ≡ l.fn.text.items ++ text_of (nodes_lines l.space l.tree l.plan l.v)
