-- The parts of a new block, as `allocate` hands them out. Assumes `Logic`.
use Rattle.std.proofs.Common.{◌≡◌, ℕ, ◌+◌, List, [], ◌∷◌, refl, arith}
use Rattle.core.specs.declared.alloc.Allocator.{Ghosts}
use seplogic.Ra.Ura.{Ura}
use base.Fml.{Fml, froom}
use base.Logic.{ent, sep, emp}
use mir.Val.{Val, vstruct, vcons, vnil}
use types.Kit.{‵, ◌$◌, ◌∵◌, !, qed, move, use0, fjoin, fpack, feq_i, rewrite, done}
use types.Logic.{Logic, sem}
use denote.RattleType.{RattleType, Valss}
use denote.RawPtr.{Ptr, block_ptr, ptr_val}
use denote.Shadow.{makes_shadow}
use denote.Steps.{nothing}
use denote.Struct.Declared as Declared
use denote.Struct.Owning.{shape}
use denote.Struct.Struct.{Struct, within}
use denote.Struct.Tuple.{Tuple, tuple_type}
use Rattle.tce_words.specs.Memory.{words_type}
use Rattle.tce_words.specs.contracts.block.Base as Base
use Rattle.tce_words.specs.contracts.block.Deed as Deed
use Rattle.tce_words.specs.contracts.block.Places as Places
use Rattle.tce_words.proofs.MemoryRows.{base_val}

-- the machine values of the owners, which take no bytes
abbrev pub places_val : Val
places_val = vstruct vnil

abbrev pub deed_val : Val
deed_val = vstruct (vcons (vstruct vnil) vnil)

abbrev pub parts_val : Ptr → Val
parts_val p = vstruct (vcons (base_val p) (vcons places_val (vcons deed_val vnil)))

module _ (A : RattleType) (g : Ghosts A.Denot) where
  abbrev Rows : List RattleType
  Rows = Base.the_row ∷ Places.the_row ∷ Deed.the_row A g ∷ []

  abbrev pub Parts : RattleType
  Parts = Tuple Rows

  -- a block of len places at p, all of them left
  abbrev pub parts : Ptr → ℕ → A.Denot → Parts.Denot
  parts p len h = (record { ptr = p }, record { at = p; words = []; left = len }, record { mark = record {}; at = p; len = len; alloc = h })

  module _ {M : Type 1} {𝓤 : Ura M} (𝓛 : Logic 𝓤) where
    -- each part of the values that owns no memory is made of nothing
    base_made : (p : Ptr) → ent 𝓤 (emp 𝓤) (sem 𝓛 ((Base.the_row).own_val (record { ptr = p }) (base_val p ∷ [])))
    base_made p = makes_shadow 𝓛 ((Base.the_row).own_val (record { ptr = p }) (base_val p ∷ [])) (λ vss. (tt, (tt, tt))) ((ptr_val p ∷ [], tt), (refl, (refl, tt)))

    abbrev PlacesFields : Fml
    PlacesFields = (Struct (shape Places.the_type)).own_val tt (places_val ∷ [])

    abbrev DeedFields : Fml
    DeedFields = (Struct (shape (Deed.the_type A g))).own_val (tt, tt) (deed_val ∷ [])

    places_fields_made : ent 𝓤 (emp 𝓤) (sem 𝓛 PlacesFields)
    places_fields_made = makes_shadow 𝓛 PlacesFields (λ vss. (tt, tt)) (tt, (refl, tt))

    deed_fields_made : ent 𝓤 (emp 𝓤) (sem 𝓛 DeedFields)
    deed_fields_made = makes_shadow 𝓛 DeedFields (λ vss. (tt, ((λ uss. (tt, tt)), tt))) ((vstruct vnil ∷ [], tt), (refl, ((tt, (refl, tt)), tt)))

    pub parts_made : (b o len : ℕ) (h : A.Denot) → ent 𝓤 (sep 𝓤 (sem 𝓛 (froom (words_type len) b o)) (sem 𝓛 (g.dealloc_token h (words_type len) (block_ptr b o)))) (sem 𝓛 (Parts.own_val (parts (block_ptr b o) len h) (parts_val (block_ptr b o) ∷ [])))
    parts_made b o len h =
        let p = block_ptr b o in let x = parts p len h in let here : o ≡ 0 + o = omega arith in
        qed 𝓛 (‵ (froom (words_type len) b o) ∷ ‵ (g.dealloc_token h (words_type len) p) ∷ []) ∵
        rewrite ! 0 (λ (k : ℕ). ‵ (froom (words_type len) b k)) here refl $ nothing ! $ fjoin ! $ use0 𝓛 (‵ PlacesFields) places_fields_made $ fjoin ! $
        move ! (1 ∷ []) $ use0 𝓛 (‵ DeedFields) deed_fields_made $ fjoin ! $ use0 𝓛 (‵ ((Base.the_row).own_val x.0 (base_val p ∷ []))) (base_made p) $
        -- [the base; the deed; the places]
        nothing ! $ move ! (2 ∷ 0 ∷ []) $ fjoin ! $ move ! (2 ∷ 0 ∷ []) $ fjoin ! $ move ! (1 ∷ 0 ∷ []) $ fjoin ! $
        feq_i ! (List Val) (parts_val p ∷ []) (parts_val p ∷ []) refl $ fjoin ! $
        fpack ! (Valss Rows) (within (Declared.shape (tuple_type Rows)) (x.0, (x.1, (x.2, tt))) (parts_val p ∷ [])) (base_val p ∷ [], (places_val ∷ [], (deed_val ∷ [], tt))) $ done !
