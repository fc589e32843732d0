use Rattle.dispatcher.proofs.Booked.{offers}
use Rattle.dispatcher.proofs.rounds.offer_due.Goals as goal

pub returns : goal.returns
returns g c =
    offers g.K.Keeper.commits g.K.Keeper.tells g.K.Keeper.faults c.args.left c.args.recorder.now c.book-came.new.self c.args.candidate.now c.args.moment c.requires.some
    c.requires.ready c.book-came.ensures.same c.requires.room c.book-came.result c.left_after.result c.left_after.ensures c.book-came.ensures.farm
    c.book-came.ensures.journal c.book-came.ensures.keeper c.book-came.ensures.told
