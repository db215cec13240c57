use Rattle.std.proofs.Common.{◌+◌, ◌<◌, length, map, slice_index, arith}
use Rattle.tce_exec.proofs.Touched.{element_room}
use Rattle.tce_exec.proofs.elements.touch_element.Goals as goal

pub overflow_add-result : goal.overflow_add-result
overflow_add-result g c =
    let e = c.in_ok-first.ensures in
    let low : c.in_ok-first.first + c.find_element-at.result.place < length c.touch.new.words =
    element_room c.args.store.now.cache.now c.touch.new.self c.args.leaf.now.tensor c.find_element-at.result.tile c.find_element-at.result.place c.args.write c.in_ok-first.first
    (map (slice_index c.args.numbers.now) c.args.leaf.now.indexes.items) c.args.store.now.words.now c.touch.new.words c.find_element-at.ensures c.requires.room e.cache e.touched e.outside in
    omega (arith, low, c.len-len.ensures.value, c.len-len.ensures.limit, e.outside.same_length)

pub returns-clause-within : goal.returns-clause-within
returns-clause-within g c =
    let e = c.in_ok-first.ensures in
    element_room c.args.store.now.cache.now c.touch.new.self c.args.leaf.now.tensor c.find_element-at.result.tile c.find_element-at.result.place c.args.write c.in_ok-first.first
    (map (slice_index c.args.numbers.now) c.args.leaf.now.indexes.items) c.args.store.now.words.now c.touch.new.words c.find_element-at.ensures c.requires.room e.cache e.touched e.outside
