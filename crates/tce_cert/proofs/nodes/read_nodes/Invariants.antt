use Rattle.std.proofs.Common.{◌≡◌, ◌-◌, length, map}
use Rattle.std.specs.List.{range_with_len}
use Rattle.tce_tree.specs.ContractionTree.{operations}
use Rattle.tce_tree.specs.Orders.{lists_of}
use Rattle.tce_cert.specs.Faults.{node}
use Rattle.tce_cert.specs.Reading.{ReadsNodes, saying, KeepsFaults}
use Rattle.tce_cert.proofs.nodes.read_nodes.Given as goal

abbrev pub invariant-loop-v : goal.invariant-loop-v
invariant-loop-v l = record {
  read : ReadsNodes l.space l.tree l.v (saying l.fusion.items (lists_of l.orders.items) l.sizes.items) l.from.rest.now l.at.rest.now;
  fusion : length l.fusion.items ≡ l.v;
  orders : length l.orders.items ≡ l.v;
  sizes : length l.sizes.items ≡ l.v;
  keeps : KeepsFaults l.space l.tree (map node (range_with_len 0 (operations l.tree))) l.from.number l.from.rest.now (map node (range_with_len l.v (operations l.tree - l.v))) l.at.number l.at.rest.now;
}
