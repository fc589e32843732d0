use Rattle.std.proofs.Common.{◌≡◌, rules, ◌∙◌}
use Rattle.booking_table.specs.Seats.{view}
use Rattle.recording_core.specs.Records.{raise_by}
use Rattle.recording_table.proofs.Writing.{burst_writes}
use Rattle.recording_table.proofs.sizes.set_burst.Goals as goal

pub add-found-requires-clause-writes : goal.add-found-requires-clause-writes
add-found-requires-clause-writes c =
    let old : c.old.inside.0 ≡ c.args.old = search rules in
    let new : c.new.inside.0 ≡ c.args.new = search rules in
    let is : c.difference.result ≡ raise_by c.args.old c.args.new = c.difference.ensures.difference ∙ (λ i. raise_by (old i) (new i)) in
    burst_writes (view c.args.seat.now) c.args.sub c.args.old c.args.new c.difference.result is c.requires.may
