use Rattle.std.proofs.Common.{◌≡◌, ℕ, List, [], drop, nat_eq, refl, subst, arith}
use Rattle.std.specs.List.{AllByRecursion}
use Rattle.std.proofs.lemmas.List.{drop_all}
use Rattle.indexmap.specs.IndexMap.{get}
use Rattle.farm_types.specs.declared.states.FrameState.TheVariants as frame_state
use Rattle.farm_types.specs.Farm.{changed_at}
use Rattle.farm_types.specs.Settle.{in_state}
use Rattle.farm_depends.specs.Follow.{IsMovable, put_opened}
use Rattle.farm_depends.proofs.RowLemmas.FramesRead.{IsMoving, end_moving, opened_stands}
use Rattle.farm_depends.proofs.MovingLemmas.MovedSlots.{drop_next, opened_step}
use Rattle.farm_depends.proofs.rows.moved.open_rows.Goals as goal

pub loop-slot-preserved : goal.loop-slot-preserved
loop-slot-preserved c = λ g f stands movable.
    let l = c.loop-slot in
    let slots = c.args.slots.now in
    let own = c.args.books.now.farm.slots in
    let m = l.invariant g f stands movable in
    let slot = c.slot-item.result in
    let next = record m.farm { slots = changed_at m.farm.slots slot (in_state frame_state.Waiting) } in
    let last = record f { slots = put_opened slots f.slots } in
    let left = subst (AllByRecursion (IsMovable m.farm.slots)) (drop_next slots l.slot-index slot (omega arith) c.slot-item.is) m.movable in
    let step = opened_step m.farm next last slots l.slot-index slot (omega arith) c.slot-item.is refl m.movable m.leads in
    record {
      farm = next;
      stands = opened_stands g own m.farm l.rows.items c.open_row.new.rows.items (get nat_eq l.frames) (get nat_eq c.open_row.new.frames) slot left.0 m.stands c.in_ok-open_row.ensures;
      movable = step.0;
      leads = step.1;
    }

pub returns : goal.returns
returns c = λ g f stands movable.
    let l = c.loop-slot in
    let slots = c.args.slots.now in
    let own = c.args.books.now.farm.slots in
    let last = record f { slots = put_opened slots f.slots } in
    let none : drop l.slot-index slots ≡ [] = drop_all l.slot-index slots (omega arith) in
    end_moving put_opened g own last l.rows.items (get nat_eq l.frames) (λ ss. refl)
    (subst (λ (ns : List ℕ). IsMoving put_opened g own last l.rows.items (get nat_eq l.frames) ns) none (l.invariant g f stands movable))
