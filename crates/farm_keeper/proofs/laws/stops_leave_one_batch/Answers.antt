use Rattle.farm_keeper.proofs.KeepingLaws.{HasKept-loaded, HasKept-refused, HasKept-taken}
use Rattle.farm_keeper.proofs.laws.stops_leave_one_batch.Goals as goal

pub returns : goal.returns
returns g c =
    let holds = g.K.Keeper.holds c.args.earlier.now in
    let left = g.K.Keeper.left c.args.earlier.now in
    let holds' = g.K.Keeper.holds c.args.later.now in
    let left' = g.K.Keeper.left c.args.later.now in
    let some = g.met.K.Keeper.leaves c.args.later.now in
    record {
      taken = λ batch rows tells held takes leaves. HasKept-taken batch holds holds' left' rows held takes leaves (some tells);
      refused = λ batch rows refused tells kept keeps leaves. HasKept-refused batch holds left holds' left' rows refused kept keeps leaves (some tells);
      loaded = λ rows refused tells kept keeps leaves. HasKept-loaded holds left holds' left' rows refused kept keeps leaves (some tells);
      some = some;
      held = λ rows tells only. g.met.K.Keeper.leaves_held c.args.later.now rows tells only;
    }
