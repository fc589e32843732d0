use Rattle.std.proofs.Common.{ap, ◌∙◌}
use Rattle.farm_types.specs.Farm.{Farm}
use Rattle.booking_rule.specs.Link.{stand_at}
use Rattle.booking_rule.specs.Recorded.{Stand}
use Rattle.recorder.specs.Recording.{booking}
use Rattle.booking_recorder.proofs.Booked.{booking_legal, stopped_ahead}
use Rattle.booking_recorder.proofs.claiming.book_decided.Goals as goal

pub live_row-requires : goal.live_row-requires
live_row-requires g c =
    let f : Farm = c.args.plain.now.farm in
    let slot = c.args.slot in
    let host = c.args.host in
    let e = booking slot host c.args.moment in
    let alone = c.books_alone.ensures f e slot host (booking_legal f slot host c.args.moment c.ranges.moment.fits (c.requires.can.0 c.requires.still))
    (λ i. e.act) in
    ap (λ (x : Farm). (stand_at x slot).phase) (c.read.ensures ∙ c.in_ok-book_now.ensures.farm slot host c.args.moment c.requires.asked)
    ∙ ap (λ (s : Stand). s.phase) alone.booked

pub returns-in_err-book_now-clause-farm : goal.returns-in_err-book_now-clause-farm
returns-in_err-book_now-clause-farm g c =
    stopped_ahead c.args.plain.now.farm c.book_now.new.plain.farm c.args.count c.args.slot c.args.host c.args.moment _ c.from_residual.result
    c.from_residual.ensures.1 c.requires.room c.requires.still
    (c.in_err-book_now.ensures.farm c.args.slot c.args.host c.args.moment c.requires.asked)

pub returns-clause-told : goal.returns-clause-told
returns-clause-told g c = c.in_ok-book_now.ensures.told c.args.slot c.args.host c.args.moment c.requires.asked
