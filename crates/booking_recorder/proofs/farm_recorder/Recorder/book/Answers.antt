use Rattle.std.proofs.Common.{rules}
use Rattle.booking_recorder.proofs.AloneBooked.{booked_home, may_count_book}
use Rattle.booking_recorder.proofs.farm_recorder.Recorder.book.Goals as goal

pub counted-self-inside-requires : goal.counted-self-inside-requires
counted-self-inside-requires g c =
    may_count_book c.self.inside.count c.book_in-result.result c.is_booked.result (search rules) c.book_in-result.ensures.room c.is_booked.ensures

pub invariant_of-self : goal.invariant_of-self
invariant_of-self g c =
    booked_home g.N.Naming.table c.self.inside.plain.farm c.book_in-result.new.plain.farm c.self.inside.seat c.book_in-result.new.seat c.self.inside.count
    c.counted-self-inside.result c.self.inside.split c.args.slot c.args.host c.args.moment c.self.inside.count c.book_in-result.result c.is_booked.result
    c.self.invariant (search rules) c.book_in-result.ensures.farm c.book_in-result.ensures.seat c.book_in-result.ensures.rests c.book_in-result.ensures.leads
    c.counted-self-inside.ensures c.book_in-result.ensures.journal c.is_booked.ensures
