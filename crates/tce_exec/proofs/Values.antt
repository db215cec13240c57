-- What a run leaves as the result.
use Rattle.std.proofs.Common.{◌≡◌, ℕ, ◌+◌, ◌*◌, ◌<◌, ◌≤◌, Bool, false, not, IsTrue, List, map, Option, Some, is_some, sym, ap, ap₂, ◌∙◌, subst, arith}
use Rattle.std.specs.Option.{option_map}
use Rattle.std.proofs.lemmas.Bool.{and_from}
use Rattle.std.proofs.lemmas.List.{length-map}
use Rattle.tce_outside.specs.Files.{Files}
use Rattle.tce_space.specs.Box.{IsInside}
use Rattle.tce_space.specs.IndexSet.{has}
use Rattle.tce_space.specs.Space.{extent_at}
use Rattle.tce_space.specs.Tiling.{tile_words, tile_number, place_in_tile}
use Rattle.tce_space.proofs.Boxes.{length_inside}
use Rattle.tce_space.proofs.IndexSetLaws.{has-minus, has-empty}
use Rattle.tce_space.proofs.Tilings.{tile_number-lt, place_in_tile-lt}
use Rattle.tce_cache.specs.Held.{Held}
use Rattle.tce_cache.specs.Cache.{State as CacheState}
use Rattle.tce_cache.specs.Touch.{with_held}
use Rattle.tce_tree.specs.ContractionTree.{dims, operations, node, node_dims}
use Rattle.tce_tree.specs.FlatTree.{IsTree}
use Rattle.tce_tree.specs.Fusion.{kept_dims, fused_at}
use Rattle.tce_tree.specs.Value.{Assignment, Elements, value, assignment}
use Rattle.tce_tree.specs.WellFormed.{is_distinct}
use Rattle.tce_tree.proofs.Nodes.{node-root}
use Rattle.tce_tree.proofs.Assignments.{assignment_inside}
use Rattle.tce_code.specs.Execution.{State, coordinates, exec}
use Rattle.tce_code.specs.Program.{program_of}
use Rattle.tce_code.specs.declared.op.Op.{Op}
use Rattle.tce_exec.specs.NodeStates.{root, root_dims, state_of, current_cell}
use Rattle.tce_exec.specs.OperandLaws.{IsRootAt}
use Rattle.tce_exec.proofs.Assignments.{map-assignment}
use Rattle.tce_exec.proofs.States.{places_have_their_words}
use Rattle.tce_walk.specs.Touches.{touch_bound}
use Rattle.tce_walk.specs.Machine.{after}
use Rattle.tce_walk.specs.Run.{zeros, IsCodeOf}
use Rattle.tce_exec.specs.declared.evaluation.Evaluation.{Evaluation}
use Rattle.tce_exec.specs.Workspace.{Workspace, workspace, setting_in, state_in, result_shape}
use Rattle.tce_exec.specs.Prepared.{IsPrepared}
use Rattle.tce_exec.specs.Steps.{IsKept, IsContinued}
use Rattle.tce_exec.specs.Following.{told_between, named, touched_to}
use Rattle.tce_exec.proofs.Workspaces.{is_result}
use Rattle.tce_exec.specs.Keeping.{IsLater}
use Rattle.tce_exec.specs.Run.{IsZero, HasValues, IsRun}

-- the root keeps all dims of the tree
kept_by_root : (x : Workspace) (i : ℕ) → IsPrepared x → 0 < operations x.places.tree → IsTrue (has (dims x.places.tree) i) → IsTrue (has (root_dims x.places) i)
unfolding kept_dims node_dims
kept_by_root x i is some h =
    let v : ℕ = root x.places in
    has-minus (dims (node x.places.tree v)) (fused_at x.places.fusion v) i
    ∙ and_from (has (dims (node x.places.tree v)) i) (not (has (fused_at x.places.fusion v) i))
    (ap (λ t. has (dims t) i) (node-root x.places.tree v (omega (arith, some))) ∙ h)
    (ap (λ s. not (has s i)) is.fits.root ∙ ap not (has-empty i))

-- the numbers that the coordinates of an element give to the result's indexes
record IsElement (x : Workspace) (coords : List ℕ) : Type 0 where
  back : map (assignment x.places.result coords) x.places.result ≡ coords
  inside : IsRootAt x.places (assignment x.places.result coords)

element : (x : Workspace) (coords : List ℕ) → IsPrepared x → IsTrue (is_distinct x.places.result) → IsInside (result_shape x).extents coords → IsElement x coords
element x coords is distinct h = record {
  back = map-assignment x.places.result coords distinct (length_inside (map (extent_at x.places.space) x.places.result) coords h ∙ length-map x.places.result (extent_at x.places.space));
  inside = λ i m. assignment_inside (extent_at x.places.space) x.places.result coords i h (is.root i ∙ m);
}

-- an element of the result, by the place of the root
root_element : (x : Workspace) (files : Files) (coords : List ℕ) → IsPrepared x → 0 < operations x.places.tree → IsElement x coords
    → state_of x.places x.words (current_cell x.cache files x.words x.tensor (result_shape x)) (root x.places) (coordinates (root_dims x.places) (assignment x.places.result coords))
    ≡ current_cell x.cache files x.words x.tensor (result_shape x) coords
root_element x files coords is some at =
    places_have_their_words.root x.places x.words (current_cell x.cache files x.words x.tensor (result_shape x)) (result_shape x) (assignment x.places.result coords) some (is_result x is) at.inside
    ∙ ap (current_cell x.cache files x.words x.tensor (result_shape x)) at.back

was_zero : (x : Workspace) (files : Files) (coords : List ℕ) → IsPrepared x → IsZero x → x.files ≡ Some files → IsInside (result_shape x).extents coords
    → current_cell x.cache files x.words x.tensor (result_shape x) coords ≡ 0
was_zero x files coords is zero told h =
    zero files told (tile_number (result_shape x) coords) (place_in_tile (result_shape x) coords)
    (tile_number-lt (result_shape x) coords is.tiling.same_rank is.tiling.positive h) (place_in_tile-lt (result_shape x) coords is.tiling.same_rank is.tiling.positive h)

states_then : (f : State → State) (before after : Option Files) (s : Files → State) (t : Files → State) (fs gs : Files) → option_map t after ≡ option_map f (option_map s before)
    → before ≡ Some fs → after ≡ Some gs → t gs ≡ f (s fs)
states_then f before after s t fs gs e told now =
    let both : Some (t gs) ≡ Some (f (s fs)) = sym (ap (option_map t) now) ∙ e ∙ ap (λ o. option_map f (option_map s o)) told in
    cc

ran_to : (x : Workspace) (words : List ℕ) (held : List Held) (touches : ℕ) (files : Option Files) (ops : List Op) → IsTree x.places.tree → IsPrepared x
    → IsPrepared (touched_to x words held touches files) → IsKept x (touched_to x words held touches files) → IsContinued x (touched_to x words held touches files)
    → IsTrue (is_distinct x.places.result) → IsZero x → IsCodeOf x.places.tree x.places.fusion ops
    → state_in (touched_to x words held touches files) ≡ after (setting_in x) (program_of ops) zeros (state_in x)
    → touches ≤ x.cache.touches + touch_bound x.places.space x.places.tree (program_of ops) → IsRun x (touched_to x words held touches files) ops
ran_to x words held touches files ops tree is now kept continued distinct zero code state few = record {
  prepared = now;
  values = λ gs told. values_in gs told;
  state = state;
  touches = few;
  continued = continued;
}
  where
    y : Workspace
    y = touched_to x words held touches files

    e : Elements
    e = (setting_in x).elements

    values_in : (gs : Files) → files ≡ Some gs → HasValues (touched_to x words held touches files) (setting_in x).elements gs
    values_in gs told =
        let before = told_after x.files files gs kept.files.tells told in
        record {
          values = λ coords h.
              let at = element x coords is distinct h in
              let a : Assignment = assignment x.places.result coords in
              let s₀ : State = state_of x.places x.words (current_cell x.cache before.0 x.words x.tensor (result_shape x)) in
              let left : exec (setting_in x) (program_of ops) s₀ zeros (root x.places) (coordinates (root_dims x.places) a) ≡ value (setting_in x).elements x.places.tree a =
              code.code.leaves (setting_in x).elements s₀ zeros a (λ i m. at.inside i (kept_by_root x i is tree.some m))
              (root_element x before.0 coords is tree.some at ∙ was_zero x before.0 coords is zero before.1 h) in
              sym (root_element (touched_to x words held touches files) gs coords now tree.some (record { back = at.back; inside = at.inside }))
              ∙ ap (λ s. s (root x.places) (coordinates (root_dims x.places) a))
              (states_then (λ st. exec (setting_in x) (program_of ops) st zeros) x.files files
              (λ fs. state_of x.places x.words (current_cell x.cache fs x.words x.tensor (result_shape x)))
              (λ fs. state_of x.places words (current_cell (with_held x.cache held touches) fs words x.tensor (result_shape x))) before.0 gs state before.1 told)
              ∙ left;
          padding = λ tile k in_array in_tile pad.
              continued.padding before.0 before.1 gs told tile k
              (in_tile, λ xs inside t p. pad xs inside (ap₂ (λ m n. tile_words (result_shape x) * m + n) t p))
              ∙ zero before.0 before.1 tile k in_array in_tile;
        }
      where
        told_after : (o p : Option Files) (gs : Files) → is_some p ≡ is_some o → p ≡ Some gs → (fs : Files) × (o ≡ Some fs)
        told_after o p gs tells now = told_between p o gs (sym tells) now

pub ran : (x y : Workspace) (ops : List Op) → IsTree x.places.tree → IsPrepared x → IsPrepared y → IsKept x y → IsContinued x y
    → IsTrue (is_distinct x.places.result) → IsZero x → IsCodeOf x.places.tree x.places.fusion ops
    → state_in y ≡ after (setting_in x) (program_of ops) zeros (state_in x)
    → y.cache.touches ≤ x.cache.touches + touch_bound x.places.space x.places.tree (program_of ops) → IsRun x y ops
ran x y ops tree is now kept continued distinct zero code state few =
    let e = named x y kept in
    subst (λ w. IsRun x w ops) (sym e)
    (ran_to x y.words y.cache.held y.cache.touches y.files ops tree is (subst IsPrepared e now) (subst (IsKept x) e kept) (subst (IsContinued x) e continued) distinct zero code
    (subst (λ w. state_in w ≡ after (setting_in x) (program_of ops) zeros (state_in x)) e state) few)

-- what a run leaves on a runner
pub ran_on : (e f : Evaluation) (words words' : List ℕ) (c c' : CacheState) (files files' : Option Files) (ops code : List Op) (failed failed' : Bool) → f ≡ e → ops ≡ code
    → IsTree e.tree.now → IsPrepared (workspace e words c files) → IsTrue (is_distinct e.result.now.indexes.items) → IsZero (workspace e words c files)
    → IsCodeOf e.tree.now e.fusion.now.0.items code → IsPrepared (workspace f words' c' files') × (failed' ≡ false) → IsLater (workspace e words c files) (workspace f words' c' files') failed failed'
    → state_in (workspace f words' c' files') ≡ after (setting_in (workspace e words c files)) (program_of ops) zeros (state_in (workspace e words c files))
    → c'.touches ≤ c.touches + touch_bound e.space.now e.tree.now (program_of ops) → IsRun (workspace e words c files) (workspace e words' c' files') code
ran_on e f words words' c c' files files' ops code failed failed' same spelled tree is distinct zero of now later state few =
    let l : IsLater (workspace e words c files) (workspace e words' c' files') failed failed' = subst (λ v. IsLater (workspace e words c files) (workspace v words' c' files') failed failed') same later in
    ran (workspace e words c files) (workspace e words' c' files') code tree is
    (subst (λ v. IsPrepared (workspace v words' c' files')) same now.0) l.kept (l.continued now.1) distinct zero of
    (subst (λ p. state_in (workspace e words' c' files') ≡ after (setting_in (workspace e words c files)) (program_of p) zeros (state_in (workspace e words c files))) spelled
    (subst (λ v. state_in (workspace v words' c' files') ≡ after (setting_in (workspace e words c files)) (program_of ops) zeros (state_in (workspace e words c files))) same state))
    (subst (λ p. c'.touches ≤ c.touches + touch_bound e.space.now e.tree.now (program_of p)) spelled few)
