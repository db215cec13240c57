use Rattle.std.proofs.Common.{sym, ◌∙◌}
use Rattle.tce_einsum.proofs.Tasks.{is_product_of, not_product_of}
use Rattle.tce_einsum.proofs.formula.is_product.Goals as goal

pub returns-in-Product : goal.returns-in-Product
returns-in-Product c ss =
    is_product_of ss c.args.nodes.now c.args.place c.in-Product.field-0 c.in-Product.field-1 c.index-nodes-place.result c.requires (sym c.index-nodes-place.is ∙ c.in-Product.is)

pub returns-in_default : goal.returns-in_default
returns-in_default c ss =
    not_product_of ss c.args.nodes.now c.args.place c.index-nodes-place.result c.index-nodes-place.result c.requires (sym c.index-nodes-place.is) c.in_default.not-Product
