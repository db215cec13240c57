use Rattle.std.proofs.Common.{◌≡◌, ◌∙◌, ap, refl}
use Rattle.std.proofs.lemmas.Result.{IfOk-from_err}
use Rattle.tce_array.specs.declared.form.Form.TheVariants.{One}
use Rattle.tce_array.specs.Forms.{form_len}
use Rattle.tce_spec.specs.Operands.{shape_of}
use Rattle.tce_job.specs.TensorFiles.{file_of}
use Rattle.tce_job.specs.Takings.{tile_take}
use Rattle.tce_job.proofs.preparing.report_of.Goals as goal

pub tile_take-tiles-requires : goal.tile_take-tiles-requires
tile_take-tiles-requires c = c.requires.enough

pub returns-in_err-text : goal.returns-in_err-text
returns-in_err-text c = IfOk-from_err c.from_residual.result _ c.from_residual.ensures.0

pub returns : goal.returns
returns c =
    let space : c.space.result.now ≡ c.args.spec.now.declarations.space = c.space.ensures.space in
    let tree : c.tree.result.now ≡ c.args.spec.now.tree = c.tree.ensures.tree in
    let tiles : c.tile_take-tiles.result ≡ tile_take c.args.spec.now c.args.budget = c.tile_take-tiles.ensures.words in
    let file : c.file_of-file.result.bytes ≡ file_of c.args.spec.now c.args.spec.now.result = c.file_of-file.ensures ∙ ap (file_of c.args.spec.now) c.result.ensures.tensor in
    let bytes : c.form_len-bytes.result ≡ form_len One (shape_of c.args.spec.now c.args.spec.now.result) =
    c.form_len-bytes.ensures.bytes ∙ ap (form_len One) (c.tensor.ensures.shape ∙ ap (shape_of c.args.spec.now) c.result.ensures.tensor) in record {
      memory = refl;
      tiles = tiles;
      bytes = bytes;
      text = c.of.ensures ∙ c.in_ok-text.ensures ∙ (cc);
    }
