-- Calls one after the other.
use Rattle.std.proofs.Common.{◌≡◌, ℕ, ◌+◌, ◌≤◌, Option, Some, None, refl, ap, ◌∙◌, arith}
use Rattle.std.specs.Option.{ForSome, option_map}
use Rattle.tce_code.specs.Execution.{State}
use Rattle.tce_walk.proofs.TermBands.{both_mapped}
use Rattle.tce_exec.specs.Workspace.{Workspace, state_in}
use Rattle.tce_exec.specs.Steps.{IsKept, IsRead, IsChanged}
use Rattle.tce_exec.specs.Storages.{IsSame}
use Rattle.tce_exec.specs.declared.storage.Storage.{Storage}
use Rattle.tce_exec.specs.Following.{continued_on}

pub read_on : (n m l : ℕ) (x y z : Workspace) → n + m ≤ l → IsKept x y → IsRead n x y → IsRead m y z → IsRead l x z
read_on n m l x y z le k i j = record {
  prepared = j.prepared;
  state = j.state ∙ i.state;
  few = omega (arith, le, i.few, j.few);
  continued = continued_on x y z k i.continued j.continued;
}

pub change_on : (n m l : ℕ) (f : State → State) (x y z : Workspace) → n + m ≤ l → IsKept x y → IsRead n x y → IsChanged f m y z → IsChanged f l x z
change_on n m l f x y z le k i j = record {
  prepared = j.prepared;
  state = j.state ∙ ap (option_map f) i.state;
  few = omega (arith, le, i.few, j.few);
  continued = continued_on x y z k i.continued j.continued;
}

mapped : (f g : State → State) (o : Option State) → ForSome o (λ s. f s ≡ g s) → option_map f o ≡ option_map g o
mapped f g None h = refl
mapped f g (Some s) h = ap (λ t. Some t) (h s refl)

-- the same change, said in another way
pub changed_as : (f g : State → State) (n : ℕ) (x z : Workspace) → ForSome (state_in x) (λ s. f s ≡ g s) → IsChanged f n x z → IsChanged g n x z
changed_as f g n x z same h = record {
  prepared = h.prepared;
  state = h.state ∙ mapped f g (state_in x) same;
  few = h.few;
  continued = h.continued;
}

pub changed_twice : (n m l : ℕ) (f g : State → State) (x y z : Workspace) → n + m ≤ l → IsKept x y → IsChanged f n x y → IsChanged g m y z → IsChanged (λ state. g (f state)) l x z
changed_twice n m l f g x y z le k i j = record {
  prepared = j.prepared;
  state = j.state ∙ ap (option_map g) i.state ∙ both_mapped f g (state_in x);
  few = omega (arith, le, i.few, j.few);
  continued = continued_on x y z k i.continued j.continued;
}

-- two calls lend the same
pub same_on : {D : Type 0} (x y z : Storage D) → IsSame x y → IsSame y z → IsSame x z
same_on x y z h k = (k.0 ∙ h.0, k.1 ∙ h.1, k.2 ∙ h.2)
