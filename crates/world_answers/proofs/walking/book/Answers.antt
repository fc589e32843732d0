use Rattle.world_answers.proofs.Begun.{walks_booked}
use Rattle.world_answers.proofs.walking.book.Goals as goal

pub book-requires : goal.book-requires
book-requires c = c.requires.booking

pub returns : goal.returns
returns c =
    walks_booked c.batches_make_the_rows.ensures.rows c.farms_differ_in_their_stores.ensures c.legal_runs_keep_farms.ensures.runs c.args.walk.now _
    c.args.candidate.now c.args.moment c.args.booking.now c.kept.ensures c.requires.asked c.requires.booking c.batch.result.now c.batch.ensures
    c.is_empty.result c.is_empty.ensures c.book.ensures c.in_ok-push.ensures.ok c.in_ok-push-2.ensures.ok
