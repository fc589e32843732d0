use Rattle.std.proofs.Common.{ap, sym, subst, ◌∙◌}
use Rattle.std.specs.Result.{result_err}
use Rattle.farm_types.specs.Farm.{Farm}
use Rattle.booking_recorder.specs.Claims.{IsAgainst}
use Rattle.booking_recorder.proofs.Reasons.{against, may_still}
use Rattle.booking_recorder.proofs.claiming.book_found.Goals as goal

pub book_decided-requires-clause-still : goal.book_decided-requires-clause-still
book_decided-requires-clause-still g c =
    may_still c.args.plain.now.farm c.args.slot c.args.host c.requires.can.1 (sym c.requires.why ∙ ap result_err c.in-Ok.is)

pub stands_against-requires-clause-why : goal.stands_against-requires-clause-why
stands_against-requires-clause-why g c =
    let f : Farm = c.args.plain.now.farm in
    subst (λ (x : Farm). IsAgainst x c.args.slot c.args.host c.in-Err.why) (sym (c.books.ensures.farm ∙ c.read.ensures))
    (against f c.args.slot c.args.host c.in-Err.why c.requires.can.1 (sym c.requires.why ∙ ap result_err c.in-Err.is))
