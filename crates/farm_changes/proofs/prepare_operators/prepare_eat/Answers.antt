use Rattle.farm_types.specs.declared.entry.Act.TheVariants as act
use Rattle.farm_types.specs.declared.states.FrameState.TheVariants as frame_state
use Rattle.farm_types.specs.Operators.{may_eat, state_refusal, stopped_row}
use Rattle.farm_changes.proofs.OperatedFrames.{check_fails, find_fails, frame_makes, eats}
use Rattle.farm_changes.proofs.prepare_operators.prepare_eat.Goals as goal

pub returns-in_err-slot : goal.returns-in_err-slot
returns-in_err-slot c =
    let f = c.args.books.now.farm in
    let p = c.args.place.now in
    let m = c.args.moment in
    find_fails f m p (act.EatFrame p) (state_refusal may_eat) (stopped_row frame_state.Eaten) (eats f m p) _ c.from_residual.result c.from_residual.ensures.1 c.in_err-slot.ensures.found

pub returns-in_err-check_eat : goal.returns-in_err-check_eat
returns-in_err-check_eat c =
    let f = c.args.books.now.farm in
    let p = c.args.place.now in
    let m = c.args.moment in
    let found = c.in_ok-slot.ensures.found in
    check_fails f m p (act.EatFrame p) (state_refusal may_eat) (stopped_row frame_state.Eaten) (eats f m p) c.in_ok-slot.slot found.0 found.1
    _ c.from_residual-in_err-check_eat.result c.from_residual-in_err-check_eat.ensures.1 c.in_err-check_eat.ensures

pub returns : goal.returns
returns c =
    let f = c.args.books.now.farm in
    let p = c.args.place.now in
    let m = c.args.moment in
    let found = c.in_ok-slot.ensures.found in
    frame_makes f m p (act.EatFrame p) (state_refusal may_eat) (stopped_row frame_state.Eaten) (eats f m p) c.in_ok-slot.slot found.0 found.1 c.in_ok-stop.field-0 c.requires.ahead c.in_ok-slot.ensures.frame
    c.in_ok-check_eat.ensures c.in_ok-stop.ensures
