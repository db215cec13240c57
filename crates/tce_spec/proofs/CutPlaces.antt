-- Coordinates as assignments of numbers to the members of a set.
use Rattle.std.proofs.Common.{◌≡◌, ℕ, ◌<◌, true, List, [], ◌∷◌, map, arith}
use Rattle.tce_space.specs.IndexSet.{IsIndexSet, has, members}
use Rattle.tce_space.specs.Box.{IsInside}
use Rattle.tce_space.proofs.Members.{sets_are_their_members}
use Rattle.tce_tree.specs.Value.{Assignment, assignment}
use Rattle.tce_tree.specs.WellFormed.{among}
use Rattle.tce_tree.proofs.Lists.{contains-among, among-contains}
use Rattle.tce_tree.proofs.Assignments.{assignment-at, assignment_inside, numbers_inside}

-- the same extents have the same places inside
pub inside_same : (f g : ℕ → ℕ) (is xs : List ℕ) → ((i : ℕ) → f i ≡ g i) → IsInside (map f is) xs → IsInside (map g is) xs
inside_same f g [] [] h p = tt
inside_same f g [] (x ∷ xs) h p = absurd p
inside_same f g (i ∷ is) [] h p = absurd p
inside_same f g (i ∷ is) (x ∷ xs) h p = let first : x < f i = p.0 in (omega (arith, first, h i), inside_same f g is xs h p.1)

-- the members of a set are those of its list
pub is_member : (set i : ℕ) → IsIndexSet set → has set i ≡ true → among (members set) i ≡ true
is_member set i small m = contains-among (members set) i ((sets_are_their_members.listed set i small).1 m)

pub member_is : (set i : ℕ) → IsIndexSet set → among (members set) i ≡ true → has set i ≡ true
member_is set i small m = (sets_are_their_members.listed set i small).0 (among-contains (members set) i m)

pub assignment-member : (set : ℕ) (a : Assignment) (i : ℕ) → IsIndexSet set → has set i ≡ true → assignment (members set) (map a (members set)) i ≡ a i
assignment-member set a i small m = assignment-at (members set) a i (is_member set i small m)

pub member_inside : (extent : ℕ → ℕ) (set : ℕ) (at : List ℕ) (i : ℕ) → IsIndexSet set → IsInside (map extent (members set)) at → has set i ≡ true
    → assignment (members set) at i < extent i
member_inside extent set at i small h m = assignment_inside extent (members set) at i h (is_member set i small m)

pub members_inside : (extent : ℕ → ℕ) (a : Assignment) (set : ℕ) → IsIndexSet set → ((i : ℕ) → has set i ≡ true → a i < extent i)
    → IsInside (map extent (members set)) (map a (members set))
members_inside extent a set small h = numbers_inside extent a (members set) (λ i m. h i (member_is set i small m))
