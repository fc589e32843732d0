use Rattle.std.proofs.Common.{◌≡◌, ℕ, ◌∙◌, ap, subst, sym}
use Rattle.std.proofs.lemmas.Bool.{false≢true}
use Rattle.farm_types.specs.Farm.{Farm}
use Rattle.booking_rule.specs.Link.{stand_at}
use Rattle.booking_table.specs.declared.seen.Seen.{Seen}
use Rattle.booking_table.specs.Alone.{SawStand}
use Rattle.booking_table.specs.Seats.{view}
use Rattle.recording_core.proofs.Confirming.{desk_seated}
use Rattle.recording_turns.proofs.RestingAlone.{alone_at_rest}
use Rattle.booking_recorder.proofs.AloneFarms.{look_lost, looked_want, slot_within}
use Rattle.booking_recorder.proofs.AloneViews.{looked_on}
use Rattle.booking_recorder.proofs.alone_claim.look_for.Goals as goal

pub look-seen-requires-clause-seated : goal.look-seen-requires-clause-seated
look-seen-requires-clause-seated c =
    let s = c.requires.rests.settled in
    desk_seated (view c.args.seat.now) s.desk s.first

pub look-seen-requires-clause-within : goal.look-seen-requires-clause-within
look-seen-requires-clause-within c = slot_within c.args.farm.now c.args.slot c.args.host c.args.version c.args.sub c.kept.ensures c.requires.suits

pub returns-then-is_waiting_at-clause-answer : goal.returns-then-is_waiting_at-clause-answer
returns-then-is_waiting_at-clause-answer c =
    let v = view c.args.seat.now in
    let f : Farm = c.args.farm.now in
    let slot = c.args.slot in
    let seen : Seen = c.look-seen.result in
    let e = c.look-seen.ensures in
    let shows = e.alone (alone_at_rest v c.requires.rests c.requires.alone) in
    let at : seen.slot ≡ slot = ap (λ (s : Seen). s.slot) e.looked.2 in
    let saw = subst (λ (x : Farm × ℕ). SawStand (stand_at x.0 x.1) seen) (λ i. (sym c.requires.leads i, at i)) shows.0 in
    let is = c.is_waiting_at.ensures.0 c.if-is_waiting_at.true in
    let want = looked_want f slot c.args.host c.args.version c.args.sub c.kept.ensures c.requires.suits seen c.requires.version at saw is.0 is.1 e.fits.2
    (e.cores is.0) (e.memory is.0) e.fits.3 in
    record {
      wanted = want;
      look = e.look is.0 want.below;
      goes = looked_on v (view c.look-seen.new.seat) slot e.looked.0 e.looked.1 c.requires.rests c.requires.alone shows.1 e.looked.3;
    }

pub returns-clause-answer : goal.returns-clause-answer
returns-clause-answer c =
    let v = view c.args.seat.now in
    let f : Farm = c.args.farm.now in
    let slot = c.args.slot in
    let seen : Seen = c.look-seen.result in
    let e = c.look-seen.ensures in
    let shows = e.alone (alone_at_rest v c.requires.rests c.requires.alone) in
    let at : seen.slot ≡ slot = ap (λ (s : Seen). s.slot) e.looked.2 in
    let saw = subst (λ (x : Farm × ℕ). SawStand (stand_at x.0 x.1) seen) (λ i. (sym c.requires.leads i, at i)) shows.0 in
    record {
      lost = tt;
      may = look_lost f slot c.args.host c.args.version c.args.sub seen c.requires.suits c.kept.ensures saw
          (λ waits same. false≢true (sym c.if-is_waiting_at.false ∙ c.is_waiting_at.ensures.1 (waits, same)));
      goes = looked_on v (view c.look-seen.new.seat) slot e.looked.0 e.looked.1 c.requires.rests c.requires.alone shows.1 e.looked.3;
    }
