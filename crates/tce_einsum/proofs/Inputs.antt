-- What is read of a text and a path.
use Rattle.std.proofs.Common.{◌≡◌, ℕ, List, length, Some, None, Err, sym, subst, ◌∙◌}
use Rattle.std.proofs.lemmas.Option.{none-some}
use Rattle.tce_einsum.specs.Text.{Einsum}
use Rattle.tce_einsum.specs.Sizes.{IsBadSize, AreSized}
use Rattle.tce_einsum.specs.Path.{Item, IsPath, IsBadItem, item_texts}
use Rattle.tce_einsum.specs.Reading.{einsum_of}
use Rattle.tce_einsum.specs.Code.{Gives, AnswersItems}
use Rattle.tce_einsum.specs.Input.{IsBadText, IsInput, HasBadSize, AnswersInput}
use Rattle.tce_einsum.specs.declared.fault.EinsumFault.{EinsumFault}
use Rattle.tce_einsum.specs.declared.fault.EinsumFault.TheVariants.{BadText, BadPath, Memory}
use Rattle.tce_einsum.proofs.OneReading.{reading_is_the_grammar}

-- the fault of a text that is not read
no_text : (text : List ℕ) → einsum_of text ≡ None → IsBadText text
no_text text none e is = none-some e (sym none ∙ (reading_is_the_grammar text e).1 is)

pub text_fault : {X : Type 0} (text path : List ℕ) (view : X → Einsum) (fault : EinsumFault) → Gives view (Err fault) (einsum_of text) → AnswersInput text path (Err fault)
text_fault text path view BadText none = no_text text none
text_fault text path view Memory told = told
text_fault text path view fault told = absurd told

pub bad_size_of : (text : List ℕ) (e : Einsum) (label : ℕ) → einsum_of text ≡ Some e → IsBadSize e label → HasBadSize text label
bad_size_of text e label is bad = record { einsum = e; of_text = (reading_is_the_grammar text e).0 is; bad = bad }

-- the fault of a path that is not read
pub path_fault : {X : Type 0} (text path : List ℕ) (e : Einsum) (count : ℕ) (view : X → List Item) (fault : EinsumFault) → einsum_of text ≡ Some e → AreSized e
    → count ≡ length e.operands → AnswersItems view count (item_texts path) (Err fault) → AnswersInput text path (Err fault)
path_fault text path e count view (BadPath k) is sized all bad = record {
  einsum = e;
  of_text = (reading_is_the_grammar text e).0 is;
  sized = sized;
  bad = subst (λ n. IsBadItem n (item_texts path) k) all bad;
}
path_fault text path e count view Memory is sized all told = told
path_fault text path e count view fault is sized all told = absurd told

pub input_read : (text path : List ℕ) (e : Einsum) (count : ℕ) (items : List Item) → einsum_of text ≡ Some e → AreSized e → count ≡ length e.operands → IsPath count path items
    → IsInput text path e items
input_read text path e count items is sized all of_path =
    record { of_text = (reading_is_the_grammar text e).0 is; sized = sized; of_path = subst (λ n. IsPath n path items) all of_path }
