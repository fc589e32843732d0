use Rattle.std.proofs.Common.{All, drop, nat_eq}
use Rattle.indexmap.specs.IndexMap.{get}
use Rattle.farm_types.specs.Farm.{Farm}
use Rattle.farm_depends.specs.Follow.{IsMovable, put_opened}
use Rattle.farm_depends.specs.FollowRows.{Stands}
use Rattle.farm_depends.proofs.RowLemmas.FramesRead.{IsMoving}
use Rattle.farm_depends.proofs.rows.moved.open_rows.Given as goal

abbrev pub invariant-loop-slot : goal.invariant-loop-slot
invariant-loop-slot l =
    (g f : Farm) → Stands g l.books.farm.slots f l.fn.rows.items (get nat_eq l.fn.frames) → All (IsMovable f.slots) l.slots
    → IsMoving put_opened g l.books.farm.slots (record f { slots = put_opened l.slots f.slots }) l.rows.items (get nat_eq l.frames) (drop l.slot-index l.slots)
