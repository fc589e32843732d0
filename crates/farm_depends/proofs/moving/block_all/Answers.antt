use Rattle.std.proofs.Common.{arith}
use Rattle.farm_books.specs.Books.{with_farm}
use Rattle.farm_depends.specs.Follow.{put_blocked}
use Rattle.farm_depends.proofs.MovingLemmas.MovedSlots.{books_blocked}
use Rattle.farm_depends.proofs.moving.block_all.Goals as goal

pub loop-slot-preserved : goal.loop-slot-preserved
loop-slot-preserved c =
    let l = c.loop-slot in
    let first = with_farm c.args.books.now (record c.args.books.now.farm { slots = put_blocked c.args.raises c.args.slots.now c.args.books.now.farm.slots }) in
    let step = books_blocked c.args.raises l.books c.block.new.books first c.args.slots.now l.slot-index c.slot-item.result (omega arith) c.slot-item.is c.block.ensures l.invariant.movable l.invariant.put in
    record { movable = step.0; put = step.1 }
