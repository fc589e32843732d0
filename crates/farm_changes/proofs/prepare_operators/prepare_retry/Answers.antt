use Rattle.farm_types.specs.declared.entry.Act.TheVariants as act
use Rattle.farm_types.specs.Operators.{retried_row}
use Rattle.farm_changes.proofs.OperatedFrames.{check_fails, find_fails, frame_makes, retries, row_refusal}
use Rattle.farm_changes.proofs.prepare_operators.prepare_retry.Goals as goal

pub returns-in_err-slot : goal.returns-in_err-slot
returns-in_err-slot c =
    let f = c.args.books.now.farm in
    let p = c.args.place.now in
    let m = c.args.moment in
    find_fails f m p (act.RetryFrame p) (row_refusal p) retried_row (retries f m p) _ c.from_residual.result c.from_residual.ensures.1 c.in_err-slot.ensures.found

pub returns-in_err-check_retry : goal.returns-in_err-check_retry
returns-in_err-check_retry c =
    let f = c.args.books.now.farm in
    let p = c.args.place.now in
    let m = c.args.moment in
    let found = c.in_ok-slot.ensures.found in
    check_fails f m p (act.RetryFrame p) (row_refusal p) retried_row (retries f m p) c.in_ok-slot.slot found.0 found.1
    _ c.from_residual-in_err-check_retry.result c.from_residual-in_err-check_retry.ensures.1 c.in_err-check_retry.ensures

pub returns : goal.returns
returns c =
    let f = c.args.books.now.farm in
    let p = c.args.place.now in
    let m = c.args.moment in
    let found = c.in_ok-slot.ensures.found in
    frame_makes f m p (act.RetryFrame p) (row_refusal p) retried_row (retries f m p) c.in_ok-slot.slot found.0 found.1 c.in_ok-retry.field-0 c.requires.ahead c.in_ok-slot.ensures.frame
    c.in_ok-check_retry.ensures c.in_ok-retry.ensures
