-- A word that runs ahead of its booking: what the steps ask, and what they leave.
use Rattle.std.proofs.Common.{◌≡◌, ℕ, ◌+◌, ◌==◌, ◌||◌, ◌&&◌, not, Bool, true, false, List, [], ◌∷◌, ◌++◌, length, sym, refl, ap, ◌∙◌, subst, arith}
use Rattle.std.specs.Prelude.{Option, Some, None, if◌then◌else◌}
use Rattle.std.proofs.lemmas.Bool.Decides.{nat_tests}
use Rattle.farm_types.specs.declared.entry.Act.TheVariants.{Book}
use Rattle.farm_types.specs.declared.entry.Entry.{Entry}
use Rattle.farm_types.specs.Farm.{Farm}
use Rattle.farm_types.specs.Run.{run_of}
use Rattle.farm_types.specs.Step.{after}
use Rattle.frame_words.specs.Bits.{frame_bits}
use Rattle.booking_rule.specs.declared.desk.Desk.{Desk}
use Rattle.booking_rule.specs.declared.hold.Claim.{Claim}
use Rattle.booking_rule.specs.declared.noted.Noted.{Noted}
use Rattle.booking_rule.specs.declared.opening.Opening.{Opening}
use Rattle.booking_rule.specs.declared.view.View.{View}
use Rattle.booking_rule.specs.Link.{IsDone, farm_of, recorded_in, stand_at}
use Rattle.booking_rule.specs.Kept.{farm_in}
use Rattle.booking_rule.specs.Recorded.{Stand}
use Rattle.booking_rule.specs.Views.{confirmed, desk_after, noted, same_claim, with_pending, without}
use Rattle.booking_core.specs.Kinds.{claim_item, setup_for}
use Rattle.entry_law.specs.Alone.{BooksAlone}
use Rattle.recording_core.specs.Machine.{IsFormed, MayEnter, MayRecord, stand_recorded}
use Rattle.recording_core.specs.Records.{booked, desk_booked, desk_in, entry_item, running_for}
use Rattle.recording_core.specs.Records.RecorderKind.{books, confirms, withdraws}
use Rattle.recording_table.specs.Booking.{IsAllowed, IsWhyLeft, burst_left, paused_at, place_left, takes_at}
use Rattle.recording_table.specs.Calls.{withdrawn}
use Rattle.recording_table.specs.Steps.{MayTake}
use Rattle.recording_turns.specs.Resting.{HoldsNothing, IsAtRest, IsSettled, split_in}
use Rattle.booking_recorder.specs.Claims.{CanStill, RunsAhead, WasAhead}
use Rattle.booking_recorder.specs.Views.{Entered, Stays}
use Rattle.booking_recorder.proofs.Rests.{prefix_then, stays_then}

-- ---- a seat at rest

pub may_record_settled : (v : View) → IsSettled v → MayRecord v None
may_record_settled v s = (s.desk, s.first, s.pending, s.done)

pub may_record_at_rest : (v : View) → IsAtRest v → MayRecord v None
may_record_at_rest v rests = may_record_settled v rests.settled

pub may_confirm_settled : (v : View) (c : Claim) → IsSettled v → IsFormed c → MayTake v (confirms c)
may_confirm_settled v c settled formed = λ s. (may_record_settled v settled, formed)

pub may_confirm : (v : View) (c : Claim) → IsAtRest v → IsFormed c → MayTake v (confirms c)
may_confirm v c rests formed = may_confirm_settled v c rests.settled formed

rests_noted_then : (v : View) (item : Noted) → IsAtRest v → IsAtRest (noted v item)
rests_noted_then v item rests =
    let s = rests.settled in let h = rests.free in record {
      settled = record { desk = s.desk; first = s.first; log = s.log; placed = s.placed; pending = s.pending; done = s.done };
      free = record { takes = h.takes; limits = h.limits; rooms = h.rooms; claims = h.claims; burst = h.burst; place = h.place };
    }

pub rests_noted : (v w : View) (item : Noted) → IsAtRest v → w ≡ noted v item → IsAtRest w
rests_noted v w item rests is = subst IsAtRest (sym is) (rests_noted_then v item rests)

pub stays_noted : (v w : View) (item : Noted) → w ≡ noted v item → Stays v w
stays_noted v w item is = subst (λ (x : View). Stays v x) (sym is) (record { like = refl; split = refl; trail = (item ∷ [], refl) })

-- ---- which booking may be recorded

all_four : (a b c d : Bool) → a ≡ false → b ≡ true → c ≡ true → d ≡ true → (not a && (b && (c && d))) ≡ true
all_four a b c d p q r s = λ i. not (p i) && (q i && (r i && s i))

pub can_still : (f g : Farm) (slot host : ℕ) → f ≡ g → IsAllowed g slot host → IsWhyLeft g slot host → CanStill f slot host
can_still f g slot host is law why =
    subst (λ (x : Farm). CanStill x slot host) (sym is)
    (λ may. law ∙ all_four (paused_at g slot) (takes_at g host) (burst_left g slot host) (place_left g slot) may.0 may.1 may.2 may.3, why)

-- ---- the desk of a seat whose slot runs ahead

pub split_pending : (slot : Option ℕ) (host : ℕ) (o : Option Desk) → split_in (with_pending slot host o) ≡ split_in o
split_pending slot host None = refl
split_pending slot host (Some d) = refl

stays_confirmed : (v w : View) (slot : Option ℕ) (host : ℕ) (item : Noted) → w ≡ confirmed v slot host item → Stays v w
stays_confirmed v w slot host item is =
    subst (λ (x : View). Stays v x) (sym is) (record { like = refl; split = split_pending slot host v.desk; trail = (item ∷ [], refl) })

pub stays_ahead : (v w : View) (c : Claim) → RunsAhead v c w → Stays v w
stays_ahead v w c ahead = stays_confirmed v w (Some c.slot) c.host _ ahead.like

desk_ahead : (v w : View) (c : Claim) (settled : IsSettled v) → RunsAhead v c w → w.desk ≡ Some (record settled.desk { pending = Some c.slot; on = c.host })
desk_ahead v w c settled ahead = ap (λ (x : View). x.desk) ahead.like ∙ ap (with_pending (Some c.slot) c.host) settled.first

done_on : (o : Opening) (log : List Entry) (d : Desk) (slot : Option ℕ) (host : ℕ) → IsDone o log d → IsDone o log (record d { pending = slot; on = host })
done_on o log d slot host done =
    record { slot = done.slot; cores = done.cores; memory = done.memory; alloc = done.alloc; burst = done.burst; most = done.most }

done_at : (v w : View) (d : Desk) → Stays v w → IsDone v.opening v.journal d → IsDone w.opening w.journal d
done_at v w d stays done =
    subst (λ (x : Opening × List Entry). IsDone x.0 x.1 d)
    (λ i. (sym (ap (λ (x : View). x.opening) stays.like) i, sym (ap (λ (x : View). x.journal) stays.like) i)) done

may_ahead : (v w : View) (c : Claim) → IsSettled v → RunsAhead v c w → MayRecord w (Some c.slot)
may_ahead v w c settled ahead =
    let d = settled.desk in
    let D : Desk = record d { pending = Some c.slot; on = c.host } in
    (D, desk_ahead v w c settled ahead, refl, done_at v w D (stays_ahead v w c ahead) (done_on v.opening v.journal d (Some c.slot) c.host settled.done))

on_host : (v w : View) (c : Claim) (settled : IsSettled v) → RunsAhead v c w → (d : Desk) → w.desk ≡ Some d → d.on ≡ c.host
on_host v w c settled ahead d is = sym (ap (λ (o : Option Desk). (desk_in o).on) (sym (desk_ahead v w c settled ahead) ∙ is))

holds_ahead : (v w : View) → IsAtRest v → Stays v w → HoldsNothing w
holds_ahead v w rests stays =
    let h = rests.free in record {
      takes = ap (λ (x : View). x.takes) stays.like ∙ h.takes;
      limits = ap (λ (x : View). x.limits) stays.like ∙ h.limits;
      rooms = ap (λ (x : View). x.rooms) stays.like ∙ h.rooms;
      claims = ap (λ (x : View). x.claims) stays.like ∙ h.claims;
      burst = ap (λ (x : View). x.ungranted) stays.like ∙ h.burst;
      place = ap (λ (x : View). x.ungranted_limit) stays.like ∙ h.place;
    }

-- ---- the word comes back

same_stand : (v : View) (slot : Option ℕ) (host : ℕ) (item : Noted) (n : ℕ) → stand_recorded (confirmed v slot host item) n ≡ stand_recorded v n
same_stand v slot host item n = go v.desk
  where
    go : (o : Option Desk)
        → (recorded_in v.opening v.journal (desk_in (with_pending slot host o))).slot n ≡ (recorded_in v.opening v.journal (desk_in o)).slot n
    go None = refl
    go (Some d) = refl

pub may_withdraw_settled : (v w : View) (c : Claim) → IsSettled v → RunsAhead v c w → IsFormed c → MayTake w (withdraws c)
may_withdraw_settled v w c settled ahead formed =
    let item : Noted = claim_item 10 c (running_for c) (frame_bits (setup_for c)) (frame_bits (running_for c)) in
    let same : stand_recorded w c.slot ≡ stand_recorded v c.slot =
    ap (λ (x : View). stand_recorded x c.slot) ahead.like ∙ same_stand v (Some c.slot) c.host item c.slot in
    λ s. (
      may_ahead v w c settled ahead,
      formed,
      ahead.can.version ∙ ap (λ (x : Stand). x.version + 1) (sym same),
      ahead.can.cores ∙ ap (λ (x : Stand). x.cores) (sym same),
      on_host v w c settled ahead,
    )

pub may_withdraw : (w : View) (c : Claim) → WasAhead c w → IsFormed c → MayTake w (withdraws c)
may_withdraw w c was formed = may_withdraw_settled was.0 w c was.1.settled was.2 formed

pub stays_back : (v u w : View) (c : Claim) → RunsAhead v c u → w ≡ withdrawn u c → Stays v w
stays_back v u w c ahead is = stays_then v u w (stays_ahead v u c ahead) (stays_confirmed u w None c.host _ is)

pub settled_back : (v u w : View) (c : Claim) → IsSettled v → RunsAhead v c u → w ≡ withdrawn u c → IsSettled w
settled_back v u w c s ahead is =
    let D : Desk = record s.desk { pending = None; on = c.host } in
    record {
      desk = D;
      first = ap (λ (x : View). x.desk) is ∙ ap (with_pending None c.host) (desk_ahead v u c s ahead);
      log = s.log;
      placed = s.placed;
      pending = refl;
      done = done_at v w D (stays_back v u w c ahead is) (done_on v.opening v.journal s.desk None c.host s.done);
    }

pub rests_back : (u w : View) (c : Claim) → WasAhead c u → w ≡ withdrawn u c → IsAtRest w
rests_back u w c was is =
    record { settled = settled_back was.0 u w c was.1.settled was.2 is; free = holds_ahead was.0 w was.1 (stays_back was.0 u w c was.2 is) }

-- ---- the booking is recorded

pub may_book_settled : (v w : View) (c : Claim) (e : Entry) → IsSettled v → RunsAhead v c w → IsFormed c → MayEnter w e → e.act ≡ Book c.slot c.host
    → MayTake w (books c e)
may_book_settled v w c e settled ahead formed may is =
    λ s. (may_ahead v w c settled ahead, may, formed.0, is, on_host v w c settled ahead)

pub may_book_it : (w : View) (c : Claim) (e : Entry) → WasAhead c w → IsFormed c → MayEnter w e → e.act ≡ Book c.slot c.host → MayTake w (books c e)
may_book_it w c e was formed may is = may_book_settled was.0 w c e was.1.settled was.2 formed may is

pub split_booked : (slot : ℕ) (log : List Entry) (o : Option Desk) → split_in (desk_booked slot (desk_after log o)) ≡ split_in o
split_booked slot log None = refl
split_booked slot log (Some d) = refl

-- nothing is left to do then
module _ (v u w : View) (c : Claim) (e : Entry) (n : ℕ) (settled : IsSettled v) (ahead : RunsAhead v c u) (is : w ≡ booked u c e n)
    (alone : BooksAlone (farm_in u) (after (farm_in u) e) c.slot c.host) where
  abbrev D : Desk
  D = record settled.desk { before = Some u.journal; slots = c.slot ∷ []; hosts = []; subs = []; limits = []; pending = None; on = c.host }

  now_is : run_of (farm_of u.opening) (u.journal ++ e ∷ []) ≡ after (farm_in u) e
  now_is = go (farm_of u.opening) u.journal
    where
      go : (f : Farm) (log : List Entry) → run_of f (log ++ e ∷ []) ≡ after (run_of f log) e
      go f [] = refl
      go f (x ∷ xs) = go (after f x) xs

  both : BooksAlone (farm_in u) (run_of (farm_of u.opening) (u.journal ++ e ∷ [])) c.slot c.host
  both = subst (λ (g : Farm). BooksAlone (farm_in u) g c.slot c.host) (sym now_is) alone

  done : IsDone u.opening (u.journal ++ e ∷ []) D
  done = record {
    slot = λ k. go k (c.slot == k) refl;
    cores = λ k. sym (both.cores k);
    memory = λ k. sym (both.memory k);
    alloc = λ k. sym (both.alloc k);
    burst = λ k. sym (both.burst k);
    most = λ k. sym (both.most k);
  }
    where
      go : (k : ℕ) (b : Bool) → (c.slot == k) ≡ b
          → (if b || false then stand_at (run_of (farm_of u.opening) (u.journal ++ e ∷ [])) k else stand_at (farm_in u) k)
          ≡ stand_at (run_of (farm_of u.opening) (u.journal ++ e ∷ [])) k
      go k true q = refl
      go k false q = sym (both.others k (grind (arith, nat_tests)))

  pub settled_booked : IsSettled w
  settled_booked = record {
    desk = D;
    first = ap (λ (x : View). x.desk) is ∙ ap (λ (o : Option Desk). desk_booked c.slot (desk_after u.journal o)) (desk_ahead v u c settled ahead);
    log = u.journal;
    placed = refl;
    pending = refl;
    done = subst (λ (x : View). IsDone x.opening x.journal D) (sym is) done;
  }

module _ (v u w : View) (c : Claim) (e : Entry) (n : ℕ) (rests : IsAtRest v) (ahead : RunsAhead v c u) (is : w ≡ booked u c e n) where
  stays : Stays v u
  stays = stays_ahead v u c ahead

  log_is : u.journal ≡ v.journal
  log_is = ap (λ (x : View). x.journal) stays.like

  claims_is : w.claims ≡ []
  claims_is = ap (λ (x : View). x.claims) is ∙ ap (without same_claim c) (ap (λ (x : View). x.claims) stays.like ∙ rests.free.claims)

  pub entered_booking : Entered v e w
  entered_booking = record {
    like = λ i. record {
      desk = w.desk;
      number = (ap (λ (x : View). x.number) is ∙ ap (λ (x : View). x.number) stays.like) i;
      opening = (ap (λ (x : View). x.opening) is ∙ ap (λ (x : View). x.opening) stays.like) i;
      journal = (ap (λ (x : View). x.journal) is ∙ ap (λ (l : List Entry). l ++ e ∷ []) log_is) i;
      told = (ap (λ (x : View). x.told) is ∙ ap (λ (x : View). x.told) stays.like) i;
      takes = (ap (λ (x : View). x.takes) is ∙ ap (λ (x : View). x.takes) stays.like) i;
      limits = (ap (λ (x : View). x.limits) is ∙ ap (λ (x : View). x.limits) stays.like) i;
      rooms = (ap (λ (x : View). x.rooms) is ∙ ap (λ (x : View). x.rooms) stays.like) i;
      claims = (claims_is ∙ sym rests.free.claims) i;
      ungranted = (ap (λ (x : View). x.ungranted) is ∙ ap (λ (x : View). x.ungranted) stays.like) i;
      ungranted_limit = (ap (λ (x : View). x.ungranted_limit) is ∙ ap (λ (x : View). x.ungranted_limit) stays.like) i;
      trail = w.trail;
      desk_trail = (ap (λ (x : View). x.desk_trail) is ∙ ap (λ (x : View). x.desk_trail) stays.like) i;
      told_trail = (ap (λ (x : View). x.told_trail) is ∙ ap (λ (x : View). x.told_trail) stays.like) i;
      receipts = (ap (λ (x : View). x.receipts) is ∙ (λ j. ap (λ (x : View). x.receipts) stays.like j ++ length (log_is j) ∷ [])) i;
    };
    split = ap split_in (ap (λ (x : View). x.desk) is) ∙ split_booked c.slot u.journal u.desk ∙ stays.split;
    trail = prefix_then v.trail u.trail w.trail stays.trail (entry_item n ∷ [], sym (ap (λ (x : View). x.trail) is));
  }

  pub rests_booked : BooksAlone (farm_in u) (after (farm_in u) e) c.slot c.host → IsAtRest w
  rests_booked alone = record {
    settled = settled_booked v u w c e n rests.settled ahead is alone;
    free = record {
      takes = ap (λ (x : View). x.takes) is ∙ ap (λ (x : View). x.takes) stays.like ∙ rests.free.takes;
      limits = ap (λ (x : View). x.limits) is ∙ ap (λ (x : View). x.limits) stays.like ∙ rests.free.limits;
      rooms = ap (λ (x : View). x.rooms) is ∙ ap (λ (x : View). x.rooms) stays.like ∙ rests.free.rooms;
      claims = claims_is;
      burst = ap (λ (x : View). x.ungranted) is ∙ ap (λ (x : View). x.ungranted) stays.like ∙ rests.free.burst;
      place = ap (λ (x : View). x.ungranted_limit) is ∙ ap (λ (x : View). x.ungranted_limit) stays.like ∙ rests.free.place;
    };
  }
