use Rattle.std.proofs.Common.{◌∙◌, ◌+◌, drop, arith}
use Rattle.depend_book.specs.Rows.{last_in, with_last}
use Rattle.depend_book.proofs.Chained.{last_alike, next_last}
use Rattle.depend_book.proofs.room.note_all.Goals as goal

pub loop-place-preserved : goal.loop-place-preserved
loop-place-preserved c =
    let xs = c.args.places.now in
    let i = c.loop-place.place-index in
    let so_far = c.loop-place.invariant in
    record {
      last = λ job.
          last_alike (last_in c.note_place.new.newest) (with_last c.place-item.result (last_in c.loop-place.newest)) c.note_place.ensures.last (drop (i + 1) xs) job
          ∙ (next_last xs i c.place-item.result (last_in c.loop-place.newest) job (omega arith) c.place-item.is ∙ so_far.last job);
      fewer = omega (arith, so_far.fewer, c.note_place.ensures.count);
      room = omega (arith, so_far.room, c.note_place.ensures.capacity);
    }
