-- A refused file of stored pairs is that of the tensor of the words.
use Rattle.std.proofs.Common.{◌≡◌, inl, inr, sym, subst, ℕ, List}
use Rattle.arrayvec.specs.ArrayString.{ArrayString}
use Rattle.tce_command.specs.Command.{Command, expand, IsCommand}
use Rattle.tce_command.proofs.Commands.{one_command}
use Rattle.tce_command.specs.declared.trouble.SymTrouble.{SymTrouble}
use Rattle.tce_command.specs.declared.refusal.Refusal.TheVariants.{Symmetry}
use Rattle.tce_command.specs.declared.command_refusal.CommandRefusal.TheVariants.{Common}
use Rattle.tce_command.specs.declared.status.Status.TheVariants.{SymRefused}
use Rattle.tce_flat.specs.May.{MayRefuseExpand}
use Rattle.tce_top.specs.Performed.{MayRefuse}
use Rattle.tce_top.specs.Outcome.{IsTensorOf}

own_tensor : (spec tensor : List ℕ) (name : ArrayString) (fault : SymTrouble) → MayRefuseExpand spec tensor (Symmetry name fault) → name.bytes ≡ tensor
own_tensor spec tensor name fault (inl (inl source)) = absurd source
own_tensor spec tensor name fault (inl (inr lacks)) = absurd lacks
own_tensor spec tensor name fault (inr named) = named

pub words_tensor : (words : List (List ℕ)) (command : Command) (tensor : List ℕ) (name : ArrayString) (fault : SymTrouble) → IsCommand words command
    → MayRefuse command (Common (Symmetry name fault)) → IsTensorOf words (SymRefused fault) tensor → name.bytes ≡ tensor
words_tensor words command tensor name fault is may (spec, other) =
    own_tensor spec tensor name fault (subst (λ k. MayRefuse k (Common (Symmetry name fault))) (sym (one_command words command (expand spec tensor) is other)) may)
