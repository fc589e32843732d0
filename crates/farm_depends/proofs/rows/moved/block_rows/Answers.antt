use Rattle.std.proofs.Common.{◌≡◌, ℕ, List, [], drop, nat_eq, refl, subst, arith}
use Rattle.std.specs.List.{AllByRecursion}
use Rattle.std.proofs.lemmas.List.{drop_all}
use Rattle.indexmap.specs.IndexMap.{get}
use Rattle.farm_types.specs.Farm.{changed_at}
use Rattle.farm_types.specs.Settle.{blocked_row}
use Rattle.farm_depends.specs.Follow.{IsMovable, change_of, put_blocked}
use Rattle.farm_depends.proofs.RowLemmas.FramesRead.{IsMoving, end_moving, blocked_stands}
use Rattle.farm_depends.proofs.MovingLemmas.MovedSlots.{drop_next, blocked_step}
use Rattle.farm_depends.proofs.rows.moved.block_rows.Goals as goal

pub loop-slot-preserved : goal.loop-slot-preserved
loop-slot-preserved c = λ g f stands movable.
    let l = c.loop-slot in
    let slots = c.args.slots.now in
    let own = c.args.books.now.farm.slots in
    let m = l.invariant g f stands movable in
    let slot = c.slot-item.result in
    let next = record m.farm { slots = changed_at m.farm.slots slot (blocked_row (change_of c.args.raises)) } in
    let last = record f { slots = put_blocked c.args.raises slots f.slots } in
    let left = subst (AllByRecursion (IsMovable m.farm.slots)) (drop_next slots l.slot-index slot (omega arith) c.slot-item.is) m.movable in
    let step = blocked_step c.args.raises m.farm next last slots l.slot-index slot (omega arith) c.slot-item.is refl m.movable m.leads in
    record {
      farm = next;
      stands = blocked_stands c.args.raises g own m.farm l.rows.items c.block_row.new.rows.items (get nat_eq l.frames) (get nat_eq c.block_row.new.frames) slot left.0 m.stands c.in_ok-block_row.ensures;
      movable = step.0;
      leads = step.1;
    }

pub returns : goal.returns
returns c = λ g f stands movable.
    let l = c.loop-slot in
    let slots = c.args.slots.now in
    let own = c.args.books.now.farm.slots in
    let last = record f { slots = put_blocked c.args.raises slots f.slots } in
    let none : drop l.slot-index slots ≡ [] = drop_all l.slot-index slots (omega arith) in
    end_moving (put_blocked c.args.raises) g own last l.rows.items (get nat_eq l.frames) (λ ss. refl)
    (subst (λ (ns : List ℕ). IsMoving (put_blocked c.args.raises) g own last l.rows.items (get nat_eq l.frames) ns) none (l.invariant g f stands movable))
