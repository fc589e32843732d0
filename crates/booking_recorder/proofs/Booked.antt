-- Bookings that the farm lets be, and what stops them.
use Rattle.std.proofs.Common.{◌≡◌, ℕ, ◌+◌, ◌<◌, ◌^◌, ◌==◌, true, false, length, [], ◌∷◌, Result, Ok, Err, IsErrAnd, refl, sym, ap, ◌∙◌, subst, arith}
use Rattle.std.specs.Prelude.{Option, Some, None, IfOk, MatchResult, option_and_then, slice_get}
use Rattle.std.proofs.lemmas.Bool.Decides.{nat_tests}
use Rattle.std.proofs.lemmas.Result.{err_from_is_err_and}
use Rattle.farm_types.specs.declared.attempt.ProcRow.{ProcRow}
use Rattle.farm_types.specs.declared.entry.Entry.{Entry}
use Rattle.farm_types.specs.declared.slot_row.Frame.{Frame}
use Rattle.farm_types.specs.declared.slot_row.SlotRow.{SlotRow}
use Rattle.farm_types.specs.declared.states.FrameState.{FrameState}
use Rattle.farm_types.specs.declared.states.FrameState.TheVariants as frame_state
use Rattle.farm_types.specs.Booking.{may_record}
use Rattle.farm_types.specs.Farm.{Farm}
use Rattle.farm_types.specs.Kept.{IsKeptFarm}
use Rattle.farm_types.specs.Run.{HasItsAttempt, IsAttemptOf, IsLegalStep, live_at}
use Rattle.farm_types.specs.Step.{after}
use Rattle.farm_keeper.specs.Keeping.{Committing}
use Rattle.booking_rule.specs.declared.view.View.{View}
use Rattle.booking_rule.specs.Kept.{farm_in}
use Rattle.booking_rule.specs.Link.{frame_stand, phase_of, slot_stand, stand_at}
use Rattle.booking_table.specs.declared.holds.Claim.{Claim}
use Rattle.booking_table.specs.Holds.{claim_of}
use Rattle.recorder.specs.declared.refusal.RecordFault as plain
use Rattle.recorder.specs.declared.refusal.RecordFault.TheVariants as plain_fault
use Rattle.recorder.specs.Faults as plain_faults
use Rattle.recorder.specs.Recording as plain_records
use Rattle.recorder.specs.Recording.{booking}
use Rattle.recorder.specs.Telling as plain_telling
use Rattle.recording_core.specs.Machine.{MayEnter}
use Rattle.recording_table.specs.Booking.{CanBook}
use Rattle.recording_table.specs.Calls.{IsConfirmed}
use Rattle.booking_recorder.specs.declared.refusal.ConfirmRefusal.{ConfirmRefusal}
use Rattle.booking_recorder.specs.declared.refusal.ConfirmRefusal.TheVariants as refusal
use Rattle.booking_recorder.specs.Claims.{BooksAhead, BooksNow, CanStill, Confirms, IsCause, IsWithdrawn, IsNoStop, IsStop, MayStill, RunsAhead, TellsAhead, TellsAtStop, TellsConfirm, entry_for, left_with, stopped_by}
use Rattle.booking_recorder.specs.Faults.{is_at_store, is_store_left, is_store_stop}
use Rattle.booking_recorder.specs.Recording.{most_entries}
use Rattle.booking_recorder.specs.Views.{Entered, Enters, Stays}
use Rattle.booking_recorder.proofs.Ahead.{stays_ahead}
use Rattle.booking_recorder.proofs.Rests.{farm_entered, farm_stays}

-- ---- a booking that may be recorded

pub booking_legal : (f : Farm) (slot host moment : ℕ) → moment < 2 ^ 64 → may_record f slot host ≡ true → IsLegalStep f (booking slot host moment)
booking_legal f slot host moment lt may = record { formed = record { moment_within = lt; act_formed = tt }; accepted = refl; condition = may }

pub books_now : (f g : Farm) (slot host moment : ℕ) (r : Result (Unit {0}) plain.RecordFault)
    → plain_records.Records f (after f (booking slot host moment)) r g → BooksNow f slot host moment (stopped_by r) g
books_now f g slot host moment (Ok done) is = is
books_now f g slot host moment (Err plain_fault.Store) is = (is.0, tt)
books_now f g slot host moment (Err plain_fault.NoMemory) is = (is, tt)

pub store_now : (r : Result (Unit {0}) plain.RecordFault) → plain_faults.is_store_fault r ≡ is_store_stop (stopped_by r)
store_now (Ok done) = refl
store_now (Err plain_fault.Store) = refl
store_now (Err plain_fault.NoMemory) = refl

pub no_stop_store : (why : ConfirmRefusal) → IsNoStop why → is_at_store why ≡ false
no_stop_store (refusal.Withdrawn found) no_stop = refl
no_stop_store refusal.EntriesSpent no_stop = refl
no_stop_store refusal.Paused no_stop = refl
no_stop_store (refusal.HostClosed state lock) no_stop = refl
no_stop_store (refusal.BurstLowered booked burst) no_stop = refl
no_stop_store (refusal.LimitLowered running most) no_stop = refl
no_stop_store refusal.Memory no_stop = absurd no_stop
no_stop_store refusal.Store no_stop = absurd no_stop

pub never_stored : {T : Type 0} (why : ConfirmRefusal) (r : Result T ConfirmRefusal) → IsErrAnd r (λ said. said ≡ why) → IsNoStop why → is_store_stop r ≡ false
never_stored why r err no_stop =
    let p = err_from_is_err_and r err in
    ap is_store_stop p.1 ∙ ap is_at_store p.2 ∙ no_stop_store why no_stop

pub store_passed : {T : Type 0} (why : ConfirmRefusal) (r : Result T ConfirmRefusal) → IsErrAnd r (λ said. said ≡ why) → is_at_store why ≡ is_store_stop r
store_passed why r err =
    let p = err_from_is_err_and r err in
    sym (ap is_store_stop p.1 ∙ ap is_at_store p.2)

module _ {K : Type 0} (commits : Committing K) where
  pub told_now : (f : Farm) (slot host moment : ℕ) (r : Result (Unit {0}) plain.RecordFault) (before now : K)
      → plain_telling.TellsOf commits f (booking slot host moment ∷ []) r before now → TellsAhead commits f slot host moment (stopped_by r) before now
  told_now f slot host moment (Ok done) before now told = told
  told_now f slot host moment (Err plain_fault.Store) before now told = told
  told_now f slot host moment (Err plain_fault.NoMemory) before now told = told

  pub untold : (f : Farm) (slot host moment : ℕ) (why : ConfirmRefusal) (k : K) → IsNoStop why → TellsAtStop commits f slot host moment why k k
  untold f slot host moment (refusal.Withdrawn found) k no_stop = refl
  untold f slot host moment refusal.EntriesSpent k no_stop = refl
  untold f slot host moment refusal.Paused k no_stop = refl
  untold f slot host moment (refusal.HostClosed state lock) k no_stop = refl
  untold f slot host moment (refusal.BurstLowered booked burst) k no_stop = refl
  untold f slot host moment (refusal.LimitLowered running most) k no_stop = refl
  untold f slot host moment refusal.Memory k no_stop = absurd no_stop
  untold f slot host moment refusal.Store k no_stop = absurd no_stop

  pub never_told : (f : Farm) (slot host moment : ℕ) (why : ConfirmRefusal) (r : Result ProcRow ConfirmRefusal) (k : K) → IsErrAnd r (λ said. said ≡ why)
      → IsNoStop why → TellsAhead commits f slot host moment r k k
  never_told f slot host moment why r k err no_stop =
      let p = err_from_is_err_and r err in
      subst (λ (q : Result ProcRow ConfirmRefusal). TellsAhead commits f slot host moment q k k) (sym (p.1 ∙ ap Err p.2))
      (untold f slot host moment why k no_stop)

  pub told_passed : (f : Farm) (slot host moment : ℕ) (why : ConfirmRefusal) (r : Result ProcRow ConfirmRefusal) (before now : K)
      → IsErrAnd r (λ said. said ≡ why) → TellsAtStop commits f slot host moment why before now → TellsAhead commits f slot host moment r before now
  told_passed f slot host moment why r before now err told =
      let p = err_from_is_err_and r err in
      subst (λ (q : Result ProcRow ConfirmRefusal). TellsAhead commits f slot host moment q before now) (sym (p.1 ∙ ap Err p.2)) told

  pub told_left : (f : Farm) (c : Claim) (moment : ℕ) (booked : Result ProcRow ConfirmRefusal) (r : Result ProcRow (Claim × ConfirmRefusal)) (before now : K)
      → r ≡ left_with c booked → TellsAhead commits f c.slot c.hold.host moment booked before now → TellsConfirm commits f c moment r before now
  told_left f c moment booked r before now is told =
      subst (λ (q : Result ProcRow (Claim × ConfirmRefusal)). TellsConfirm commits f c moment q before now) (sym is) (go booked told)
    where
      go : (b : Result ProcRow ConfirmRefusal) → TellsAhead commits f c.slot c.hold.host moment b before now
          → TellsConfirm commits f c moment (left_with c b) before now
      go (Ok row) t = t
      go (Err why) t = t

pub store_left : (c : Claim) (booked : Result ProcRow ConfirmRefusal) (r : Result ProcRow (Claim × ConfirmRefusal)) → r ≡ left_with c booked
    → is_store_stop booked ≡ is_store_left r
store_left c booked r is = go booked ∙ sym (ap is_store_left is)
  where
    go : (b : Result ProcRow ConfirmRefusal) → is_store_stop b ≡ is_store_left (left_with c b)
    go (Ok row) = refl
    go (Err why) = refl

-- ---- what is said of it

pub refused_ahead : (f : Farm) (n slot host moment : ℕ) (why : ConfirmRefusal) (r : Result ProcRow ConfirmRefusal) → IsErrAnd r (λ said. said ≡ why)
    → IsCause (λ found. ⊥) f n slot host why → BooksAhead f n slot host moment r f
refused_ahead f n slot host moment why r err cause =
    let p = err_from_is_err_and r err in
    subst (λ (q : Result ProcRow ConfirmRefusal). BooksAhead f n slot host moment q f) (sym (p.1 ∙ ap Err p.2)) (refl, cause)

stop_cause : (f : Farm) (n slot host : ℕ) (why : ConfirmRefusal) → (n == most_entries) ≡ false → MayStill f slot host → IsStop why
    → IsCause (λ found. ⊥) f n slot host why
stop_cause f n slot host (refusal.Withdrawn found) unspent may stop = absurd stop
stop_cause f n slot host refusal.EntriesSpent unspent may stop = absurd stop
stop_cause f n slot host refusal.Paused unspent may stop = absurd stop
stop_cause f n slot host (refusal.HostClosed state lock) unspent may stop = absurd stop
stop_cause f n slot host (refusal.BurstLowered booked burst) unspent may stop = absurd stop
stop_cause f n slot host (refusal.LimitLowered running most) unspent may stop = absurd stop
stop_cause f n slot host refusal.Memory unspent may stop = (unspent, may)
stop_cause f n slot host refusal.Store unspent may stop = (unspent, may)

pub stopped_ahead : (f g : Farm) (n slot host moment : ℕ) (why : ConfirmRefusal) (r : Result ProcRow ConfirmRefusal) → IsErrAnd r (λ said. said ≡ why)
    → (n == most_entries) ≡ false → MayStill f slot host → (g ≡ f) × IsStop why → BooksAhead f n slot host moment r g
stopped_ahead f g n slot host moment why r err unspent may stop =
    let p = err_from_is_err_and r err in
    subst (λ (q : Result ProcRow ConfirmRefusal). BooksAhead f n slot host moment q g) (sym (p.1 ∙ ap Err p.2))
    (stop.0, stop_cause f n slot host why unspent may stop.1)

cause_on : (withdrawn : ℕ → Type 0) (f : Farm) (n slot host : ℕ) (why : ConfirmRefusal) → IsCause (λ found. ⊥) f n slot host why
    → IsCause withdrawn f n slot host why
cause_on withdrawn f n slot host (refusal.Withdrawn found) is = absurd is
cause_on withdrawn f n slot host refusal.EntriesSpent is = is
cause_on withdrawn f n slot host refusal.Paused is = is
cause_on withdrawn f n slot host (refusal.HostClosed state lock) is = is
cause_on withdrawn f n slot host (refusal.BurstLowered booked burst) is = is
cause_on withdrawn f n slot host (refusal.LimitLowered running most) is = is
cause_on withdrawn f n slot host refusal.Memory is = is
cause_on withdrawn f n slot host refusal.Store is = is

pub confirms_by : (f g : Farm) (v w : View) (c : Claim) (moment n : ℕ) (booked : Result ProcRow ConfirmRefusal) (r : Result ProcRow (Claim × ConfirmRefusal))
    → n ≡ length v.journal → r ≡ left_with c booked → BooksAhead f n c.slot c.hold.host moment booked g → Enters v (entry_for c moment) booked w
    → Confirms f v c moment r g w
confirms_by f g v w c moment n booked r count is books enters =
    subst (λ (q : Result ProcRow (Claim × ConfirmRefusal)). Confirms f v c moment q g w) (sym is)
    (go booked (subst (λ (k : ℕ). BooksAhead f k c.slot c.hold.host moment booked g) count books) enters)
  where
    go : (b : Result ProcRow ConfirmRefusal) → BooksAhead f (length v.journal) c.slot c.hold.host moment b g → Enters v (entry_for c moment) b w
        → Confirms f v c moment (left_with c b) g w
    go (Ok row) made entered = (made.0, made.1, made.2, made.3, entered)
    go (Err why) made stays = (refl, made.0, stays, cause_on _ f (length v.journal) c.slot c.hold.host why made.1)

-- .. of the seat whose slot runs ahead
pub books_of : (f g : Farm) (v u : View) (c : Claim) (moment n : ℕ) (booked : Result ProcRow ConfirmRefusal) → f ≡ farm_in v → n ≡ length v.journal
    → RunsAhead v (claim_of c) u → BooksAhead f n c.slot c.hold.host moment booked g
    → BooksAhead (farm_in u) (length u.journal) c.slot c.hold.host moment booked g
books_of f g v u c moment n booked leads count ahead books =
    let stays : Stays v u = stays_ahead v u (claim_of c) ahead in
    subst (λ (x : Farm × ℕ). BooksAhead x.0 x.1 c.slot c.hold.host moment booked g)
    (λ i. ((leads ∙ sym (farm_stays v u stays)) i, (count ∙ sym (ap (λ (x : View). length x.journal) stays.like)) i)) books

pub leads_booked : (g : Farm) (v u w : View) (c : Claim) (moment n : ℕ) (booked : Result ProcRow ConfirmRefusal) → RunsAhead v (claim_of c) u
    → BooksAhead (farm_in u) n c.slot c.hold.host moment booked g → Enters v (entry_for c moment) booked w → g ≡ farm_in w
leads_booked g v u w c moment n (Ok row) ahead books enters =
    books.2 ∙ ap (λ (x : Farm). after x (entry_for c moment)) (farm_stays v u (stays_ahead v u (claim_of c) ahead))
    ∙ sym (farm_entered v w (entry_for c moment) enters)
leads_booked g v u w c moment n (Err why) ahead books enters =
    books.0 ∙ farm_stays v u (stays_ahead v u (claim_of c) ahead) ∙ sym (farm_stays v w enters)

-- ---- a frame that runs has an attempt

runs_none : (place version : ℕ) (state : FrameState) → phase_of state ≡ 4 → IsAttemptOf place version state None → ⊥
runs_none place version frame_state.Running is none = none
runs_none place version frame_state.Waiting is none = omega (arith, is)
runs_none place version frame_state.Depend is none = omega (arith, is)
runs_none place version frame_state.Setup is none = omega (arith, is)
runs_none place version frame_state.Succeeded is none = omega (arith, is)
runs_none place version frame_state.Dead is none = omega (arith, is)
runs_none place version frame_state.Eaten is none = omega (arith, is)

frame_lives : (f : Farm) (place : ℕ) (s : SlotRow) (frame : Option Frame) → (frame_stand f s frame).phase ≡ 4 → HasItsAttempt place s.version frame None → ⊥
frame_lives f place s None is has = omega (arith, is)
frame_lives f place s (Some x) is has = runs_none place s.version x.state is has

alive_by : (f : Farm) (slot : ℕ) → IsKeptFarm f → (slot_stand f (slice_get f.slots slot)).phase ≡ 4 → live_at f slot ≡ None → ⊥
alive_by f slot kept runs none = go (slice_get f.slots slot) refl runs none
  where
    go : (o : Option SlotRow) → slice_get f.slots slot ≡ o → (slot_stand f o).phase ≡ 4 → option_and_then (λ (s : SlotRow). s.proc) o ≡ None → ⊥
    go None at is free = omega (arith, is)
    go (Some s) at is free =
        frame_lives f slot s s.frame is (subst (λ (p : Option ProcRow). HasItsAttempt slot s.version s.frame p) free (kept.rows.sound.attempts slot s at))

pub runs_alive : (f : Farm) (slot : ℕ) → IsKeptFarm f → (stand_at f slot).phase ≡ 4 → live_at f slot ≡ None → ⊥
unfolding stand_at
runs_alive f slot kept runs none = alive_by f slot kept runs none

-- ---- what may be entered

unspent_below : (n : ℕ) → n < 2 ^ 64 → (n == most_entries) ≡ false → n + 1 < 2 ^ 64
unspent_below n lt unspent = grind (arith, nat_tests)

pub may_enter : (g : Farm) (u : View) (c : Claim) (moment : ℕ) (booked : Result ProcRow ConfirmRefusal) (row : ProcRow) → booked ≡ Ok row → moment < 2 ^ 64
    → length u.journal < 2 ^ 64 → BooksAhead (farm_in u) (length u.journal) c.slot c.hold.host moment booked g → MayEnter u (entry_for c moment)
may_enter g u c moment booked row is lt few books =
    let b = subst (λ (q : Result ProcRow ConfirmRefusal). BooksAhead (farm_in u) (length u.journal) c.slot c.hold.host moment q g) is books in
    (booking_legal (farm_in u) c.slot c.hold.host moment lt b.1, unspent_below (length u.journal) few b.0)

pub enters_ok : (v w : View) (e : Entry) (booked : Result ProcRow ConfirmRefusal) (row : ProcRow) → booked ≡ Ok row → Entered v e w → Enters v e booked w
enters_ok v w e booked row is entered = subst (λ (q : Result ProcRow ConfirmRefusal). Enters v e q w) (sym is) entered

pub enters_err : (v w : View) (e : Entry) (booked : Result ProcRow ConfirmRefusal) (why : ConfirmRefusal) → booked ≡ Err why → Stays v w → Enters v e booked w
enters_err v w e booked why is stays = subst (λ (q : Result ProcRow ConfirmRefusal). Enters v e q w) (sym is) stays

-- the word of a claim was found, or another one
pub ran : (f : Farm) (v w : View) (c : Claim) (r : Result (Unit {0}) ℕ) → IsConfirmed v (claim_of c) r w → IfOk r (λ done. CanBook v (claim_of c))
    → (CanBook v (claim_of c) → CanStill f c.slot c.hold.host)
    → MatchResult r (λ done. RunsAhead v (claim_of c) w × CanStill f c.slot c.hold.host) (λ found. IsWithdrawn v c w found)
ran f v w c (Ok done) is can still = (record { like = is; can = can }, still can)
ran f v w c (Err found) is can still = is
