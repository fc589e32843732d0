use Rattle.std.proofs.Common.{ℕ, [], ◌∷◌, ◌∙◌, refl, sym, subst}
use Rattle.std.specs.Prelude.{Option}
use Rattle.booking_rule.specs.Views.{take_of}
use Rattle.shared_bot.specs.booking_recorder.specs.Alone.{places_in}
use Rattle.shared_rounds.specs.Holding.{HoldsJust}
use Rattle.shared_rounds.specs.Steps.{TakesPlace}
use Rattle.shared_rounds.proofs.claiming.take_place.Goals as goal

-- the layer has no limit
pub take_room-requires-clause-holds : goal.take_room-requires-clause-holds
take_room-requires-clause-holds g c =
    let v = c.args.pass.now.view in
    subst (λ (o : Option ℕ). HoldsJust (take_of c.args.candidate.now.sub c.args.seen.cores ∷ []) (places_in o) [] v) (sym c.in-None.is) c.requires.holds

pub take_room-requires-clause-burst : goal.take_room-requires-clause-burst
take_room-requires-clause-burst g c =
    c.requires.burst ∙ λ i. record { sub = c.args.candidate.now.sub; cores = c.args.seen.cores; limit = sym c.in-None.is i }

pub returns-in-None-clause-answer : goal.returns-in-None-clause-answer
returns-in-None-clause-answer g c v had =
    let u = c.args.pass.now.view in
    c.take_room.ensures.answer v (u, had, subst (λ (o : Option ℕ). TakesPlace u o u) (sym c.in-None.is) refl)
