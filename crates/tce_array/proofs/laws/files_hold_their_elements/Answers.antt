use Rattle.tce_array.specs.Forms.{form_bytes}
use Rattle.tce_array.proofs.Contents.{form_bytes_is, cell_of_file}
use Rattle.tce_array.proofs.FormOf.{form_of_file}
use Rattle.tce_array.proofs.Rows.{outer, largest, highest, too_large, tiled, narrow, narrow_read, narrow_form, wide_form, wide_len, one_form, narrow_tiled}
use Rattle.tce_array.proofs.laws.files_hold_their_elements.Goals as goal

-- the worked rows stand here, since only lemmas that are cited are checked
pub returns : goal.returns
returns c =
    let row0 = outer in
    let row1 = tiled in
    let row2 = narrow in
    let row3 = narrow_read in
    let row4 = narrow_form in
    let row5 = wide_form in
    let row6 = wide_len in
    let row7 = one_form in
    let row8 = narrow_tiled in
    let row9 = largest in
    let row10 = highest in
    let row11 = too_large in
    λ form s element t. (form_bytes_is form s element, form_of_file form s (form_bytes form s element) (form_bytes_is form s element), cell_of_file form s element t)
