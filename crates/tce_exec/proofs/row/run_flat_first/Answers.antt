use Rattle.std.proofs.Common.{refl}
use Rattle.tce_base.specs.Word.{wrapping_add, wrapping_sub, wrapping_mul}
use Rattle.tce_base.proofs.Words.{plus_comm}
use Rattle.tce_tree.specs.declared.node.Kind.TheVariants.{Product, Sum, Add, Sub}
use Rattle.tce_exec.proofs.FlatRows.{flat_row, number_first}
use Rattle.tce_exec.proofs.row.run_flat_first.Goals as goal

pub returns-in-Product : goal.returns-in-Product
returns-in-Product c =
    flat_row (wrapping_mul c.args.number) c.args.link.now c.args.window.now c.args._index c.args.count c.args.words.now c.mul_number.new.self c.requires.flat c.requires.within
    (number_first (wrapping_mul c.args.number) Product c.args.link.now c.args.window.now c.args.number c.args._index c.in-Product.is c.requires.left c.requires.right (λ x. refl))
    c.mul_number.ensures

pub returns-in-Sum : goal.returns-in-Sum
returns-in-Sum c =
    flat_row (wrapping_add c.args.number) c.args.link.now c.args.window.now c.args._index c.args.count c.args.words.now c.plus_number.new.self c.requires.flat c.requires.within
    (number_first (wrapping_add c.args.number) Sum c.args.link.now c.args.window.now c.args.number c.args._index c.in-Sum.is c.requires.left c.requires.right (λ x. plus_comm x c.args.number))
    c.plus_number.ensures

pub returns-in-Add : goal.returns-in-Add
returns-in-Add c =
    flat_row (wrapping_add c.args.number) c.args.link.now c.args.window.now c.args._index c.args.count c.args.words.now c.plus_number-in-Add.new.self c.requires.flat c.requires.within
    (number_first (wrapping_add c.args.number) Add c.args.link.now c.args.window.now c.args.number c.args._index c.in-Add.is c.requires.left c.requires.right (λ x. refl))
    c.plus_number-in-Add.ensures

pub returns-in-Sub : goal.returns-in-Sub
returns-in-Sub c =
    flat_row (wrapping_sub c.args.number) c.args.link.now c.args.window.now c.args._index c.args.count c.args.words.now c.number_minus.new.self c.requires.flat c.requires.within
    (number_first (wrapping_sub c.args.number) Sub c.args.link.now c.args.window.now c.args.number c.args._index c.in-Sub.is c.requires.left c.requires.right (λ x. refl))
    c.number_minus.ensures
