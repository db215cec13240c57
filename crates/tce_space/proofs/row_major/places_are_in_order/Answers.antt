use Rattle.tce_space.proofs.Boxes.{length-places, place-lt, get-places, place_injective, places_every}
use Rattle.tce_space.proofs.Examples.{box_examples}
use Rattle.tce_space.proofs.row_major.places_are_in_order.Goals as goal

pub returns : goal.returns
returns c =
    let worked = box_examples in
    record { count = length-places; within = place-lt; at = get-places; apart = place_injective; every = places_every }
