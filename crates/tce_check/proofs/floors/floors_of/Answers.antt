use Rattle.std.proofs.Common.{◌∙◌, length, get_or, arith, sym, subst, ap}
use Rattle.std.proofs.lemmas.List.{length-set}
use Rattle.std.proofs.lemmas.List.Elements.{All-set}
use Rattle.tce_check.specs.declared.parts.PartCost.{PartCost}
use Rattle.tce_check.specs.Reach.{IsFloor, AreFloors}
use Rattle.tce_check.proofs.Reaches.{floor_next}
use Rattle.tce_check.proofs.floors.floors_of.Goals.{then-classes-eq1+then-place-lt-PARTS, then-classes-eq1+else-place-lt-PARTS, else-classes-eq1}
use Rattle.tce_check.proofs.floors.floors_of.Goals as goal

pub loop-row-preserved : goal.loop-row-preserved
loop-row-preserved c =
    let outer = c.args.outer in
    let rows = c.args.rows.now in
    let old = c.loop-row.floors in
    let Floor = λ (f : PartCost). IsFloor outer rows f.part f.cost in
    elim c.if-classes-eq1.branch [
      | then-classes-eq1+then-place-lt-PARTS w ↦
          let place = w.place_among-place.result in
          let floor = get_or old place w.index-floors-place.result in
          let so_far = c.loop-row.invariant.floors place w.index-floors-place.result (omega (arith, w.if-place-lt-PARTS, c.loop-row.invariant.count)) in
          let next = floor_next outer rows floor w.lower.result c.loop-row.row-index c.row-item.result c.loop-row-test.true c.row-item.is so_far w.lower.ensures in
          record {
            floors = subst (AreFloors outer rows) (sym w.floors-is) (All-set Floor old place w.lower.result next c.loop-row.invariant.floors);
            count = ap length w.floors-is ∙ length-set old place w.lower.result ∙ c.loop-row.invariant.count;
          }
      | then-classes-eq1+else-place-lt-PARTS w ↦
          record { floors = subst (AreFloors outer rows) (sym w.floors-is) c.loop-row.invariant.floors; count = ap length w.floors-is ∙ c.loop-row.invariant.count }
      | else-classes-eq1 w ↦
          record { floors = subst (AreFloors outer rows) (sym w.floors-is) c.loop-row.invariant.floors; count = ap length w.floors-is ∙ c.loop-row.invariant.count }
    ]
