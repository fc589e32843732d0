-- A round by the recorder, candidate by candidate: the farm, the keeper, the journal, and the candidates that are left.
use Rattle.std.proofs.Common.{◌≡◌, ℕ, ◌+◌, ◌-◌, ◌<◌, ◌≤◌, ◌^◌, Bool, false, List, [], ◌∷◌, length, get_or, drop, take, Ok, Err, refl, sym, ap, subst, ◌∙◌, arith}
use Rattle.farm_types.specs.declared.dispatch.Candidate.{Candidate}
use Rattle.farm_types.specs.declared.dispatch.Cut.TheVariants as cut
use Rattle.farm_types.specs.declared.entry.Entry.{Entry}
use Rattle.farm_types.specs.declared.limits.TheConstants.{BOOKINGS_EACH}
use Rattle.farm_types.specs.Dispatch.{round_from}
use Rattle.farm_keeper.proofs.KeepingLaws.{Continues-as, Continues-same, Continues-then}
use Rattle.farm_keeper.specs.Keeping.{Committing, Continues}
use Rattle.booking_recorder.specs.recorder.specs.declared.refusal.RecordFault.{RecordFault}
use Rattle.booking_recorder.specs.recorder.specs.Faults.{is_of_store}
use Rattle.booking_recorder.specs.recorder.specs.Recording.{ChangesNone}
use Rattle.booking_recorder.specs.recorder.specs.Telling.{EndsTelling, TakesEach}
use Rattle.booking_recorder.specs.recording_turns.specs.Resting.{split_in}
use Rattle.booking_recorder.specs.Going.{GoesOn, Journals}
use Rattle.booking_recorder.specs.Recording.{Recording}
use Rattle.booking_recorder.proofs.Journaled.{journals_none}
use Rattle.dispatcher.specs.declared.walked.Walked.{Walked}
use Rattle.dispatcher.specs.Ready.{AreReady, IsReady}
use Rattle.dispatcher.specs.Rounds.{HasWalked, Offers, cut_of, is_store_cut}
use Rattle.dispatcher.proofs.Journaling.{alone_still, journals_next, journals_to, ready_at, ready_next, room_at}
use Rattle.dispatcher.proofs.Told.{none_walked, taken_next, told_to, told_whole}
use Rattle.dispatcher.proofs.UnderWay.{IsUnderWay, store_cut, then_ends, then_offered, then_stopped, unstored_at}
use Rattle.std.proofs.lemmas.List.{drop_all}

module _ {K : Type 0} (commits : Committing K) (tells : K → Type 0) (faults : K → ℕ) (start : Recording K) (moment : ℕ) (all : List Candidate) where
  abbrev round : List Entry
  round = round_from BOOKINGS_EACH start.farm moment all

  -- so many bookings and these candidates are left
  pub record IsWalking (now : Recording K) (left : ℕ) (rest : List Candidate) : Type 0 where
    pub round_goes : IsUnderWay start.farm moment all left now.farm rest
    pub ready : AreReady now.farm rest
    pub keeper : Continues tells faults start.keeper now.keeper false
    pub told : TakesEach commits start.farm (take (BOOKINGS_EACH - left) (round_from BOOKINGS_EACH start.farm moment all)) start.keeper now.keeper
    pub journals : Journals start.view now.view (take (BOOKINGS_EACH - left) (round_from BOOKINGS_EACH start.farm moment all))
    pub same : ChangesNone start.farm (round_from BOOKINGS_EACH start.farm moment all) → now.keeper ≡ start.keeper

  pub begins_walking : AreReady start.farm all → IsWalking start BOOKINGS_EACH all
  begins_walking ready =
      record {
        round_goes = record { booked = []; counted = refl; made = refl; goes_on = refl };
        ready = ready;
        keeper = Continues-same tells faults start.keeper;
        told = refl;
        journals = journals_none start.view;
        same = λ none. refl;
      }

  -- how it went
  pub record WentSo (walked : Walked) (now : Recording K) : Type 0 where
    pub round_is : HasWalked start.farm (round_from BOOKINGS_EACH start.farm moment all) walked now.farm
    pub went : GoesOn commits tells faults start now (round_from BOOKINGS_EACH start.farm moment all)
        (take walked.booked (round_from BOOKINGS_EACH start.farm moment all)) (is_store_cut walked.cut)
    pub same : ChangesNone start.farm (round_from BOOKINGS_EACH start.farm moment all) → now.keeper ≡ start.keeper

  -- no candidate was tried
  pub none_went : (walked : Walked) → walked.cut ≡ cut.Memory → walked.booked ≡ 0 → WentSo walked start
  none_went walked by none =
      let failed : is_store_cut walked.cut ≡ false = ap is_store_cut by in
      record {
        round_is = subst (λ (w : Walked). HasWalked start.farm round w start.farm) (sym cut_short) (omega arith, refl);
        went = record {
          keeper = Continues-as tells faults start.keeper start.keeper false (is_store_cut walked.cut) (sym failed) (Continues-same tells faults start.keeper);
          told = none_walked commits start.farm round walked.booked (is_store_cut walked.cut) start.keeper none failed;
          journals = subst (λ (k : ℕ). Journals start.view start.view (take k round)) (sym none) (journals_none start.view);
        };
        same = λ _. refl;
      }
    where
      cut_short : walked ≡ record { cut = cut.Memory; booked = 0 }
      cut_short = λ i. record { cut = by i; booked = none i }

  module _ (now : Recording K) (left : ℕ) (c : Candidate) (i : ℕ) (so : IsWalking now left (drop i all)) where
    pub alone_at : split_in start.view.desk ≡ 0 → split_in now.view.desk ≡ 0
    alone_at alone = alone_still start.view now.view (take (BOOKINGS_EACH - left) round) so.journals alone

    pub room_left : length start.view.journal + BOOKINGS_EACH < 2 ^ 64 → length now.view.journal + left < 2 ^ 64
    room_left room = room_at start.farm moment all left now.farm c (drop i all) start.view now.view so.round_goes so.journals room

    module _ (within : i < length all) (is : c ≡ get_or all i c) where
      pub ready_now : IsReady now.farm c
      ready_now = ready_at now.farm all c i within is so.ready

      -- the candidate at hand was tried
      pub walks_on : (then_so : Recording K) (left_then : ℕ) → Offers commits tells faults left now c moment (Ok left_then) then_so → IsWalking then_so left_then (drop (i + 1) all)
      walks_on next left_then offers =
          record {
            round_goes = then_offered start.farm moment all left now.farm c i within is so.round_goes next.farm left_then offers.went;
            ready = ready_next now.farm all c i within is so.ready next.farm offers.ready;
            keeper = Continues-then tells faults start.keeper now.keeper next.keeper false so.keeper offers.keeper;
            told = taken_next commits start.farm moment all left now.farm c i within is so.round_goes next.farm left_then offers.went start.keeper now.keeper next.keeper so.told offers.told;
            journals = journals_next start.farm moment all left now.farm c i within is so.round_goes next.farm left_then offers.went start.view now.view next.view so.journals offers.journals;
            same = λ none. offers.same (unstored_at start.farm moment all left now.farm c i within is so.round_goes none) ∙ so.same none;
          }

      -- a fault ended the round there
      pub walk_stops : (why : RecordFault) (walked : Walked) (next : Recording K) → walked.cut ≡ cut_of why → walked.booked ≡ BOOKINGS_EACH - left
          → Offers commits tells faults left now c moment (Err why) next → WentSo walked next
      walk_stops why walked next by many offers =
          let failed : is_of_store why ≡ is_store_cut walked.cut = store_cut why walked by in
          record {
            round_is = then_stopped start.farm moment all left now.farm c walked many i within is so.round_goes next.farm why by offers.failed;
            went = record {
              keeper = Continues-then tells faults start.keeper now.keeper next.keeper (is_store_cut walked.cut) so.keeper
                  (Continues-as tells faults now.keeper next.keeper (is_of_store why) (is_store_cut walked.cut) failed offers.keeper);
              told = told_to commits start.farm moment all left now.farm c i within is so.round_goes (is_store_cut walked.cut) walked.booked start.keeper now.keeper next.keeper many so.told
                  (subst (λ (b : Bool). EndsTelling commits now.farm (round_from left now.farm moment (c ∷ [])) b now.keeper next.keeper) failed offers.told);
              journals = journals_to start.farm moment all left now.farm c walked.booked start.view now.view next.view many so.journals offers.journals;
            };
            same = λ none. offers.same (unstored_at start.farm moment all left now.farm c i within is so.round_goes none) ∙ so.same none;
          }

  -- all candidates were tried
  pub walk_ends : (now : Recording K) (left i : ℕ) (walked : Walked) → length all ≤ i → IsWalking now left (drop i all) → walked.cut ≡ cut.Whole
      → walked.booked ≡ BOOKINGS_EACH - left → WentSo walked now
  walk_ends now left i walked past so by many =
      let failed : is_store_cut walked.cut ≡ false = ap is_store_cut by in
      let none_left : IsUnderWay start.farm moment all left now.farm [] = subst (IsUnderWay start.farm moment all left now.farm) (drop_all i all past) so.round_goes in
      record {
        round_is = then_ends start.farm moment all left now.farm nobody walked many by none_left;
        went = record {
          keeper = Continues-as tells faults start.keeper now.keeper false (is_store_cut walked.cut) (sym failed) so.keeper;
          told = told_whole commits start.farm moment all left now.farm i past so.round_goes walked.booked (is_store_cut walked.cut) start.keeper now.keeper many failed so.told;
          journals = subst (λ (k : ℕ). Journals start.view now.view (take k round)) (sym many) so.journals;
        };
        same = so.same;
      }
    where
      -- of whom nothing is said
      nobody : Candidate
      nobody = record { slot = 0; version = 0; sub = 0; host = 0 }
