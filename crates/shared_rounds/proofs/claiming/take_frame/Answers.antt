use Rattle.std.proofs.Common.{[], ◌∷◌, ◌∙◌, ap, inr, refl, subst}
use Rattle.booking_rule.specs.Views.{room_of, take_of}
use Rattle.booking_table.specs.declared.holds.Claim.{Claim}
use Rattle.booking_table.specs.declared.holds.Hold.{Hold}
use Rattle.booking_table.specs.Calls.{IsClaimed, IsTaken, hold_given}
use Rattle.booking_table.specs.Holds.{claim_of}
use Rattle.shared_bot.specs.booking_recorder.specs.Alone.{places_in}
use Rattle.shared_rounds.specs.Steps.{GivesAll, claim_for, held_for}
use Rattle.shared_rounds.proofs.Held.{claim_held, goes_then, hold_back, noted_held}
use Rattle.shared_rounds.proofs.Sought.{claim_is, has_claim, has_hold, seen_for_it, suits_it}
use Rattle.shared_rounds.proofs.claiming.take_frame.Goals as goal

pub claim-requires-clause-held : goal.claim-requires-clause-held
claim-requires-clause-held g c =
    let v = c.args.pass.now.view in
    has_hold v c.args.candidate.now c.args.seen c.requires.wanted c.args.hold c.requires.hold v c.requires.holds

pub claim-requires-clause-looked : goal.claim-requires-clause-looked
claim-requires-clause-looked g c = c.requires.wanted.look

pub claim-requires-clause-seen : goal.claim-requires-clause-seen
claim-requires-clause-seen g c =
    seen_for_it c.args.pass.now.view c.args.candidate.now c.args.seen c.requires.wanted c.args.hold c.requires.hold

pub claim-requires-clause-suits : goal.claim-requires-clause-suits
claim-requires-clause-suits g c =
    suits_it c.args.pass.now.view c.args.candidate.now c.args.seen c.requires.wanted c.args.hold c.requires.hold

-- it is claimed
pub returns-in-Ok-clause-goes : goal.returns-in-Ok-clause-goes
returns-in-Ok-clause-goes g c =
    let v = c.args.pass.now.view in
    let w = c.claim.new.self.view in
    let k = claim_for c.args.candidate.now c.args.seen in
    let same = claim_is v c.args.candidate.now c.args.seen c.requires.wanted c.args.hold c.requires.hold in
    claim_held v w (claim_of k) c.args.seen.limit _ c.requires.holds refl (subst (λ (x : Claim). IsClaimed v x w) same c.in-Ok.ensures.answer.1)

pub returns-in-Ok-clause-has : goal.returns-in-Ok-clause-has
returns-in-Ok-clause-has g c =
    let v = c.args.pass.now.view in
    let w = c.claim.new.self.view in
    let same = claim_is v c.args.candidate.now c.args.seen c.requires.wanted c.args.hold c.requires.hold in
    has_claim v w c.args.candidate.now c.args.seen c.in-Ok.claim c.requires.wanted (c.in-Ok.ensures.answer.0 ∙ same)
    (subst (λ (x : Claim). IsClaimed v x w) same c.in-Ok.ensures.answer.1)

pub returns-in-Ok-clause-answer : goal.returns-in-Ok-clause-answer
returns-in-Ok-clause-answer g c v had =
    let u = c.args.pass.now.view in
    let w = c.claim.new.self.view in
    let same = claim_is u c.args.candidate.now c.args.seen c.requires.wanted c.args.hold c.requires.hold in
    (c.in-Ok.ensures.answer.0 ∙ same, (u, had, subst (λ (x : Claim). IsClaimed u x w) same c.in-Ok.ensures.answer.1))

-- another word was found
pub give_back-requires-clause-held : goal.give_back-requires-clause-held
give_back-requires-clause-held g c =
    let v = c.args.pass.now.view in
    let u = c.claim.new.self.view in
    let seen = c.args.seen in
    let sub = c.args.candidate.now.sub in
    let host = c.args.candidate.now.host in
    let goes = noted_held (take_of sub seen.cores ∷ []) (places_in seen.limit) (room_of host seen.cores seen.memory ∷ []) v u _ c.requires.holds c.in-Err.ensures.answer.1.1 in
    has_hold v c.args.candidate.now seen c.requires.wanted c.in-Err.hold (c.in-Err.ensures.answer.0 ∙ c.requires.hold) u goes.holds

pub returns-in-Err-clause-goes : goal.returns-in-Err-clause-goes
returns-in-Err-clause-goes g c =
    let v = c.args.pass.now.view in
    let u = c.claim.new.self.view in
    let w = c.give_back.new.self.view in
    let seen = c.args.seen in
    let sub = c.args.candidate.now.sub in
    let host = c.args.candidate.now.host in
    let goes = noted_held (take_of sub seen.cores ∷ []) (places_in seen.limit) (room_of host seen.cores seen.memory ∷ []) v u _ c.requires.holds c.in-Err.ensures.answer.1.1 in
    let given = c.give_back.ensures.given in
    let is = c.in-Err.ensures.answer.0 ∙ c.requires.hold in
    goes_then [] [] [] v u w goes.steps
    (hold_back u w (held_for c.args.candidate.now seen) given.0 given.1 given.2 goes.holds
    (given.3 ∙ ap (λ (h : Hold). hold_given u h given.0 given.1 given.2) is))

pub returns-in-Err-clause-answer : goal.returns-in-Err-clause-answer
returns-in-Err-clause-answer g c v had =
    let u = c.args.pass.now.view in
    let back = c.claim.new.self.view in
    let w = c.give_back.new.self.view in
    let same = claim_is u c.args.candidate.now c.args.seen c.requires.wanted c.args.hold c.requires.hold in
    let is = c.in-Err.ensures.answer.0 ∙ c.requires.hold in
    inr (
      c.args.seen,
      u,
      back,
      c.in-Err.taken,
      had,
      subst (λ (x : Claim). IsTaken u x c.in-Err.taken back) same c.in-Err.ensures.answer.1,
      refl,
      subst (λ (h : Hold). GivesAll back h w) is c.give_back.ensures.given,
    )
