-- What a call of the program did, by how it ended.
use Rattle.std.proofs.Common.{◌≡◌, ◌↔◌, ◌<◌, ◌≤◌, ◌^◌, ◌⊎◌, ℕ, true, false, List, [], ◌∷◌, length, take, drop, length-drop, take-append-drop, inl, inr, refl, sym, ◌∙◌, subst, Option, None, Some, ap, arith}
use Rattle.std.specs.Prelude.{option_map}
use Rattle.std.specs.List.{All}
use Rattle.fault_counts.specs.Counts.{HasRisen, HasRisenBy}
use Rattle.cue_io.specs.Input.{Takes-none}
use Rattle.cue_io.specs.Output.{Adds, Adds-none}
use Rattle.cue_io.specs.declared.limits.TheConstants.{BYTE_LIMIT}
use Rattle.cue_io.specs.Readings.{Tells, Tells-append, Tells-none}
use Rattle.farm_types.specs.declared.entry.Entry.{Entry}
use Rattle.farm_types.specs.Farm.{Farm}
use Rattle.farm_types.specs.Kept.{IsKeptFarm}
use Rattle.farm_types.specs.Run.{IsSound, HasItsHosts, IsLegal, IsSafe}
use Rattle.farm_law.proofs.KeptChanges.{kept_hosts}
use Rattle.command_line.specs.Codes.{code_of}
use Rattle.command_line.specs.declared.status.Status.{Status}
use Rattle.command_line.specs.declared.status.Status.TheVariants as exit
use Rattle.farm_keeper.specs.Keeping.{Committing, Continues}
use Rattle.farm_keeper.specs.Rows.{Rows}
use Rattle.farm_lines.specs.Transcript.{Exchange, entries_in, lines_in}
use Rattle.farm_lines.specs.Reply.{bad_store_line}
use Rattle.recovery.specs.declared.fault.RecoverFault.{RecoverFault}
use Rattle.recovery.specs.declared.fault.RecoverFault.TheVariants.{BadBytes, BreaksFarm, NoMemory}
use Rattle.line_exchanges.specs.declared.exchanged.Exchanged.{Exchanged}
use Rattle.session.specs.declared.words.Form.{Form}
use Rattle.line_exchanges.specs.declared.exchanged.Exchanged.TheVariants as exchanged
use Rattle.session.specs.declared.opening.OpenFault.{OpenFault}
use Rattle.session.specs.declared.opening.OpenFault.TheVariants as fault
use Rattle.session.specs.Opening.{BeginsWith, HasFailed, HoldsFarm, IsLeftOld, IsOpened, IsPartOpened, is_of_store}
use Rattle.session.specs.Loads.{AnswersLoad}
use Rattle.line_exchanges.specs.Calls.{HasLines, HasMoved, Streams, streams}
use Rattle.session.specs.Sessions.{AnswersAll, AnswersForm, AnswersLoadCall, Call, EndsEarly, EndsSession, EndsWell, GoesOnOpened, GoesOnOver, RecordsOver, IsBadStore, IsCall, IsOldStore, IsOpening, IsUnopened, MayTell, TellsBad, TellsFault, TellsLine, status_of, store_marks}
use Rattle.atomic_table.specs.declared.shared.Seat.{Seat}
use Rattle.farm_load.specs.booking_recorder.specs.Going.{Journals}
use Rattle.farm_load.specs.booking_recorder.specs.Recording.{Recording}
use Rattle.booking_rule.specs.declared.view.View.{View}
use Rattle.booking_table.specs.Seats.{view}
use Rattle.farm_load.specs.recording_turns.specs.Resting.{IsAtRest}
use Rattle.session.specs.Words.{WordForm, Demo, Script, Load, TakesLines, form_of, opened_farm, opening_entries, word_form}
use Rattle.session.proofs.KeeperLemmas.{over_risen}
use Rattle.session.proofs.LoadLemmas.{called_load}
use Rattle.session.proofs.SeatLemmas.{gives_seat}

-- the code found no form
pub no_form : (found : Option Form) (formed : Option WordForm) → option_map word_form found ≡ formed → ((form : Form) → found ≡ Some form → ⊥) → formed ≡ None
no_form None formed is never = sym is
no_form (Some form) formed is never = absurd (never form refl)

-- the form that is said, or another one
abbrev form_or : WordForm → Option WordForm → WordForm
form_or other None = other
form_or other (Some form) = form

-- words that are said to have none have none
abbrev IsFormed : Option WordForm → Type 0
IsFormed None = ⊥
IsFormed (Some form) = Unit {0}

none_formed : (said : Option WordForm) (form : WordForm) → said ≡ None → said ≡ Some form → ⊥
none_formed said form none formed = subst IsFormed (sym formed ∙ none) tt

-- the valid words have no other form
formed_as : (said : Option WordForm) (form other : WordForm) → said ≡ Some form → said ≡ Some other → other ≡ form
formed_as said form other one two = some_is (sym two ∙ one) where
  some_is : Some other ≡ Some form → other ≡ form
  some_is is = ap (λ (o : Option WordForm). form_or other o) is

-- ---- no session

-- nothing was taken, this was written, and the clock was read so
abbrev pub told_call : List ℕ → List ℕ → Call
told_call wrote seen = record { taken = []; written = wrote; readings = seen; exchanges = [] }

abbrev pub idle : List ℕ → Call
idle seen = told_call [] seen

-- a status that isn't 8, with nothing taken
unspent_idle : (status : Status) → (status ≡ exit.Spent → ⊥) → (status ≡ exit.Spent) ↔ ((0 ≡ BYTE_LIMIT) × (status ≡ exit.WriteFailed → ⊥))
unspent_idle status other = (λ is. absurd (other is), λ both. absurd (omega (arith, both.0)))

-- a status of a number below 8
not_spent : (status : Status) → code_of status ≤ 7 → status ≡ exit.Spent → ⊥
not_spent status low is = let eight : code_of status ≡ 8 = ap code_of is in omega (arith, low, eight)

-- so it ends well, whatever was asked for
ends_early : (form : WordForm) (status : Status) (call : Call) → EndsEarly status call → EndsWell form status call
ends_early Demo status call early = early
ends_early (Script store) status call early = early
ends_early (Load n) status call early = inl early

-- the arguments are invalid
pub called_for_usage : (words : List (List ℕ)) (left : Option (List ℕ)) (r : ℕ) (written : Option (List ℕ)) (w : ℕ) (readings : Option (List ℕ)) (k : ℕ)
    (says : WordForm → Farm → Type 0) (bad : WordForm → RecoverFault → Type 0) (same untouched : Type 0) (unmigrated : Farm → Type 0) (goes_on : Farm → List Exchange → Type 0)
    (holds : Farm → Type 0)
    → same → form_of words ≡ None → Tells readings readings []
    → IsCall words exit.WrongWords (streams left r written w readings k) (streams left r written w readings k) (idle []) None says bad same untouched unmigrated goes_on holds
called_for_usage words left r written w readings k says bad same untouched unmigrated goes_on holds kept none tells = record {
  moved = record { taken = Takes-none left; written = Adds-none written; readings = tells };
  session = inl (record { status_is = inl refl; still = refl; none_taken = refl; none_written = refl; none_read = refl; no_lines = refl; keeper_same = kept; no_seat = refl });
  spent = λ lines. unspent_idle exit.WrongWords (not_spent exit.WrongWords (omega arith));
  complete = λ form formed right unfailed unread unwritten few. absurd (none_formed (form_of words) form none formed);
}

-- memory ran out before the store was read
pub called_for_memory : (words : List (List ℕ)) (left : Option (List ℕ)) (r : ℕ) (written : Option (List ℕ)) (w : ℕ) (readings : Option (List ℕ)) (k : ℕ)
    (says : WordForm → Farm → Type 0) (bad : WordForm → RecoverFault → Type 0) (same untouched : Type 0) (unmigrated : Farm → Type 0) (goes_on : Farm → List Exchange → Type 0)
    (holds : Farm → Type 0)
    → same → Tells readings readings []
    → IsCall words exit.NoMemory (streams left r written w readings k) (streams left r written w readings k) (idle []) None says bad same untouched unmigrated goes_on holds
called_for_memory words left r written w readings k says bad same untouched unmigrated goes_on holds kept tells = record {
  moved = record { taken = Takes-none left; written = Adds-none written; readings = tells };
  session = inl (record { status_is = inr refl; still = refl; none_taken = refl; none_written = refl; none_read = refl; no_lines = refl; keeper_same = kept; no_seat = refl });
  spent = λ lines. unspent_idle exit.NoMemory (not_spent exit.NoMemory (omega arith));
  complete = λ form formed right unfailed unread unwritten few. ends_early form exit.NoMemory (idle []) (inr (refl, refl, refl));
}

-- ---- no farm was opened

-- a front of the line was written
pub told_part : (text line : List ℕ) (count : ℕ) → text ≡ line → count < length text → MayTell (TellsLine line exit.WriteFailed (take count text)) exit.WriteFailed (take count text)
told_part text line count is short =
    let part : List ℕ = take count text in
    subst (λ (whole : List ℕ). MayTell (TellsLine whole exit.WriteFailed part) exit.WriteFailed part) is (inl (inr (refl, drop count text, omega (arith, length-drop count text), take-append-drop count text)))

-- the status is none that tells spent bytes
low_by : (status known : Status) → status ≡ known → code_of known ≤ 7 → code_of status ≤ 7
low_by status known is low = subst (λ (s : Status). code_of s ≤ 7) (sym is) low

line_low : (line : List ℕ) (status : Status) (wrote : List ℕ) → TellsLine line status wrote → code_of status ≤ 7
line_low line status wrote (inl six) = low_by status exit.BadStore six.0 (omega arith)
line_low line status wrote (inr five) = low_by status exit.WriteFailed five.0 (omega arith)

bad_low : (why : RecoverFault) (status : Status) (wrote : List ℕ) → TellsBad why status wrote → code_of status ≤ 7
bad_low (BadBytes kind id) status wrote told = line_low (bad_store_line kind id) status wrote told
bad_low (BreaksFarm kind id) status wrote told = line_low (bad_store_line kind id) status wrote told
bad_low NoMemory status wrote told = absurd told

may_low : (why : RecoverFault) (status : Status) (wrote : List ℕ) → MayTell (TellsBad why status wrote) status wrote → code_of status ≤ 7
may_low why status wrote (inl told) = bad_low why status wrote told
may_low why status wrote (inr seven) = low_by status exit.NoMemory seven.0 (omega arith)

fault_low : (why : OpenFault) (status : Status) (wrote : List ℕ) → TellsFault why status wrote → code_of status ≤ 7
fault_low fault.Store status wrote told = low_by status exit.StoreFailed told.0 (omega arith)
fault_low (fault.Bad why) status wrote told = may_low why status wrote told
fault_low fault.NoMemory status wrote told = low_by status exit.NoMemory told.0 (omega arith)

module _ (words : List (List ℕ)) (form : WordForm) (opened : ℕ) (says : WordForm → Farm → Type 0) (bad : WordForm → RecoverFault → Type 0) (untouched : Type 0)
    (unmigrated holds : Farm → Type 0) (formed : form_of words ≡ Some form) where
  -- nothing was done, the rows weren't migrated, or the opening went so far
  part_opened : (call : Call) → call.readings ≡ opened ∷ [] → untouched ⊎ (IsLeftOld (says form) unmigrated ⊎ IsPartOpened (says form) holds form opened)
      → untouched ⊎ (IsOldStore words says unmigrated ⊎ IsOpening words call says holds)
  part_opened call reads (inl kept) = inl kept
  part_opened call reads (inr (inl old)) = inr (inl (record { form = form; first = old.first; formed = formed; said = old.said; left_old = old.left_old }))
  part_opened call reads (inr (inr part)) =
      inr (inr (record {
        form = form;
        opened = opened;
        first = part.first;
        done = part.done;
        formed = formed;
        said = part.said;
        readings = reads;
        opening_legal = part.legal;
        held = part.held;
      }))

  -- the store failed, or memory ran out
  unopened : (status : Status) (call : Call) → (status ≡ exit.StoreFailed) ⊎ (status ≡ exit.NoMemory) → call.taken ≡ [] → call.written ≡ [] → call.exchanges ≡ []
      → call.readings ≡ opened ∷ [] → untouched ⊎ (IsOldStore words says unmigrated ⊎ IsOpening words call says holds) → IsUnopened words status call None says untouched unmigrated holds
  unopened status call is none silent lineless reads kept =
      record { status_is = is; reading = opened; readings = reads; none_taken = none; none_written = silent; no_lines = lineless; kept = kept; no_seat = refl }

  -- a row at fault was told, or memory ran out for it
  bad_told : (why : RecoverFault) (status : Status) (call : Call) (More : Type 0) → call.taken ≡ [] → call.exchanges ≡ [] → call.readings ≡ opened ∷ []
      → MayTell (TellsBad why status call.written) status call.written → bad form why → untouched
      → IsUnopened words status call None says untouched unmigrated holds ⊎ (IsBadStore words status call None bad untouched ⊎ More)
  bad_told why status call More none lineless reads (inl told) is_bad kept = inr (inl (record {
    form = form;
    fault = why;
    reading = opened;
    formed = formed;
    is_bad = is_bad;
    told = told;
    readings = reads;
    none_taken = none;
    no_lines = lineless;
    kept = kept;
    no_seat = refl;
  }))
  bad_told why status call More none lineless reads (inr told) is_bad kept = inl (unopened status call (inr told.0) none told.1 lineless reads (inl kept))

  -- how no farm was opened
  failed_session : (why : OpenFault) (status : Status) (call : Call) (More : Type 0) → call.taken ≡ [] → call.exchanges ≡ [] → call.readings ≡ opened ∷ []
      → TellsFault why status call.written → HasFailed why (bad form) untouched (IsLeftOld (says form) unmigrated) (IsPartOpened (says form) holds form opened)
      → IsUnopened words status call None says untouched unmigrated holds ⊎ (IsBadStore words status call None bad untouched ⊎ More)
  failed_session fault.Store status call More none lineless reads told failed =
      inl (unopened status call (inl told.0) none told.1 lineless reads (part_opened call reads failed))
  failed_session (fault.Bad why) status call More none lineless reads told failed = bad_told why status call More none lineless reads told failed.0 failed.1
  failed_session fault.NoMemory status call More none lineless reads told failed =
      inl (unopened status call (inr told.0) none told.1 lineless reads (part_opened call reads failed))

  -- it ends early by a fault of the store, a row at fault or memory alone
  failed_complete : (why : OpenFault) (status : Status) (call : Call) (risen : Type 0) → call.taken ≡ [] → TellsFault why status call.written → (is_of_store why ≡ true → risen)
      → HasFailed why (bad form) untouched (IsLeftOld (says form) unmigrated) (IsPartOpened (says form) holds form opened) → ((why : RecoverFault) → bad form why → ⊥) → (risen → ⊥) → EndsEarly status call
  failed_complete fault.Store status call risen none told rises failed right unfailed = absurd (unfailed (rises refl))
  failed_complete (fault.Bad why) status call risen none told rises failed right unfailed = absurd (right why failed.0)
  failed_complete fault.NoMemory status call risen none told rises failed right unfailed = inr (told.0, none, told.1)

  pub called_failed : (why : OpenFault) (status : Status) (wrote : List ℕ) (left : Option (List ℕ)) (r : ℕ) (written written' : Option (List ℕ)) (w w' : ℕ)
      (readings readings' : Option (List ℕ)) (k k' : ℕ) (same : Type 0) (goes_on : Farm → List Exchange → Type 0)
      → Tells readings readings' (opened ∷ []) → Adds written written' wrote → TellsFault why status wrote
      → HasFailed why (bad form) untouched (IsLeftOld (says form) unmigrated) (IsPartOpened (says form) holds form opened) → (is_of_store why ≡ true → HasRisen k k')
      → IsCall words status (streams left r written w readings k) (streams left r written' w' readings' k') (told_call wrote (opened ∷ [])) None says bad same untouched unmigrated goes_on holds
  called_failed why status wrote left r written written' w w' readings readings' k k' same goes_on reads adds told failed rises =
      let call : Call = told_call wrote (opened ∷ []) in
      record {
        moved = record { taken = Takes-none left; written = adds; readings = reads };
        session = inr (failed_session why status call _ refl refl refl told failed);
        spent = λ lines. unspent_idle status (not_spent status (fault_low why status wrote told));
        complete = λ other said right unfailed unread unwritten few.
            ends_early other status call
            (failed_complete why status call (HasRisen k k') refl told rises failed
            (λ fault is. right fault (subst (λ (f : WordForm). bad f fault) (sym (formed_as (form_of words) form other formed said)) is)) unfailed);
      }

-- ---- a session

-- status 8 comes exactly where the bytes are spent and no write failed
spent_session : (ended : Exchanged) (status : Status) (call : Call) (unread : Option (List ℕ)) → status ≡ status_of ended
    → HasLines ended call.taken (lines_in call.exchanges) unread → (status ≡ exit.Spent) ↔ ((length call.taken ≡ BYTE_LIMIT) × (status ≡ exit.WriteFailed → ⊥))
spent_session exchanged.Went status call unread is lines = absurd lines
spent_session exchanged.End status call unread is lines =
    (λ eight. absurd (not_spent status (low_by status exit.Done is (omega arith)) eight), λ both. absurd (omega (arith, lines.1, both.0)))
spent_session exchanged.Read status call unread is lines =
    (λ eight. absurd (not_spent status (low_by status exit.ReadFailed is (omega arith)) eight), λ both. absurd (omega (arith, lines.1, both.0)))
spent_session exchanged.Spent status call unread is lines =
    (λ eight. (lines.1, λ five. not_spent status (low_by status exit.WriteFailed five (omega arith)) eight), λ both. is)
spent_session exchanged.Write status call unread is lines =
    (λ eight. absurd (not_spent status (low_by status exit.WriteFailed is (omega arith)) eight), λ both. absurd (both.1 is))

-- nothing else ends it early
complete_session : (ended : Exchanged) (status : Status) (call : Call) (unread : Option (List ℕ)) (ReadFails WriteFails : Type 0) → status ≡ status_of ended
    → HasLines ended call.taken (lines_in call.exchanges) unread → (status ≡ exit.ReadFailed → ReadFails) → (status ≡ exit.WriteFailed → WriteFails)
    → (ReadFails → ⊥) → (WriteFails → ⊥) → length call.taken < BYTE_LIMIT → status ≡ exit.Done
complete_session exchanged.Went status call unread ReadFails WriteFails is lines read write unfailed unwritten few = absurd lines
complete_session exchanged.End status call unread ReadFails WriteFails is lines read write unfailed unwritten few = is
complete_session exchanged.Read status call unread ReadFails WriteFails is lines read write unfailed unwritten few = absurd (unfailed (read is))
complete_session exchanged.Write status call unread ReadFails WriteFails is lines read write unfailed unwritten few = absurd (unwritten (write is))
complete_session exchanged.Spent status call unread ReadFails WriteFails is lines read write unfailed unwritten few = absurd (omega (arith, lines.1, few))

-- a session over a farm that keeps what every farm keeps is legal and safe
pub answers_all : (status : Status) (ended : Exchanged) (first last : Farm) (before after : Streams) (call : Call) (goes_on : List Exchange → Type 0) (holds : Farm → Type 0)
    → status ≡ status_of ended → IsKeptFarm first
    → ((f : Farm) (exchanges : List Exchange) → All (λ (t : Exchange). t.moment < 2 ^ 64) exchanges → IsLegal f (entries_in f exchanges))
    → ((f : Farm) (es : List Entry) → IsSound f → HasItsHosts f → IsLegal f es → IsSafe f es)
    → HasMoved before after call → EndsSession ended first last call after.unread goes_on → holds last → AnswersAll status first before after call goes_on holds
answers_all status ended first last before after call goes_on holds is kept legal_law safe_law moved ends held =
    let legal : IsLegal first (entries_in first call.exchanges) = legal_law first call.exchanges ends.within in
    record {
      ended = ended;
      last = last;
      status_is = is;
      moved = moved;
      ends = ends;
      legal = legal;
      safe = safe_law first (entries_in first call.exchanges) kept.rows.sound (kept_hosts first kept.rows) legal;
      held = held;
    }

-- with the reading at the opening
abbrev pub opened_call : ℕ → Call → Call
opened_call opened call = record { taken = call.taken; written = call.written; readings = opened ∷ call.readings; exchanges = call.exchanges }

-- what the store said before it says where the keeper still tells the truth
begins_still : (form : WordForm) (told_then told_now : Type 0) (held : Rows → Type 0) (f : Farm) → (told_now → told_then) → BeginsWith form told_then held f
    → BeginsWith form told_now held f
begins_still Demo told_then told_now held f told is = is
begins_still (Script store) told_then told_now held f told says = λ tells. says (told tells)
begins_still (Load n) told_then told_now held f told is = is

pub opened_still : (told_then told_now : Type 0) (held : Rows → Type 0) (form : WordForm) (opened : ℕ) (farm : Farm) (v : View) → (told_now → told_then)
    → IsOpened (BeginsWith form told_then held) form opened farm v → IsOpened (BeginsWith form told_now held) form opened farm v
opened_still told_then told_now held form opened farm v told o =
    record { first = o.first; said = begins_still form told_then told_now held o.first told o.said; legal = o.legal; farm_is = o.farm_is; begun = o.begun }

-- its count of faults rose by the marks of the store alone
opened_risen : {K : Type 0} (commits : Committing K) (tells : K → Type 0) (holds left : K → Rows → Type 0) (faults : K → ℕ) (given opened now : K) (f : Farm)
    (ts : List Exchange) → Continues tells faults given opened false → GoesOnOver commits tells holds left faults f ts opened now
    → HasRisenBy (store_marks ts) (faults given) (faults now)
opened_risen commits tells holds left faults given opened now f ts begins over =
    subst (λ (count : ℕ). HasRisenBy (store_marks ts) count (faults now)) begins.counted (over_risen commits tells holds left faults f ts opened now over)

module _ {K : Type 0} (commits : Committing K) (tells : K → Type 0) (held left : K → Rows → Type 0) (faults : K → ℕ) (given : K) (middle : Recording K) (now : K)
    (seat : Seat (Unit {0}) View) (words : List (List ℕ))
    (status : Status) (opened : ℕ) (call : Call)
    (before after : Streams) (mid : Option (List ℕ)) (says : WordForm → Farm → Type 0) (bad : WordForm → RecoverFault → Type 0) (same untouched : Type 0) (unmigrated holds : Farm → Type 0)
    (begins : Continues tells faults given middle.keeper false)
    (recorded : HoldsFarm (tells middle.keeper) (held middle.keeper) (left middle.keeper) middle.farm) (rests : IsAtRest (view seat)) (was : before.store_faults ≡ faults given) (is_now : after.store_faults ≡ faults now) where
  -- what the call began with, after the opening
  abbrev begun : Streams
  begun = streams before.unread before.read_faults before.written before.write_faults mid (faults middle.keeper)

  -- a session over a farm that was opened
  called_session : (form : WordForm) → TakesLines form → form_of words ≡ Some form → IsOpened (says form) form opened middle.farm middle.view → Tells before.readings mid (opened ∷ [])
      → AnswersAll status middle.farm begun after call (RecordsOver commits tells held left faults middle now (view seat)) holds
      → (status ≡ exit.ReadFailed → HasRisen before.read_faults after.read_faults) → (status ≡ exit.WriteFailed → HasRisen before.write_faults after.write_faults)
      → IsCall words status before after (opened_call opened call) (Some seat) says bad same untouched unmigrated (GoesOnOpened commits tells held left faults given now) holds
  called_session form of_lines formed opening reads answered read write =
      let first : Farm = opened_farm form opening.first opened in
      let over : AnswersAll status first begun after call (RecordsOver commits tells held left faults (record middle { farm = first }) now (view seat)) holds
      = subst (λ (f : Farm). AnswersAll status f begun after call (RecordsOver commits tells held left faults (record middle { farm = f }) now (view seat)) holds) opening.farm_is answered in
      let moved = over.moved in
      let ends = over.ends in
      record {
        moved = record {
          taken = moved.taken;
          written = moved.written;
          readings = Tells-append before.readings mid after.readings (opened ∷ []) call.readings reads moved.readings;
        };
        session = inr (inr (inr (inl (record {
          form = form;
          opened = opened;
          ended = over.ended;
          first = opening.first;
          formed = formed;
          of_lines = of_lines;
          said = opening.said;
          status_is = over.status_is;
          lines = ends.lines;
          replies = ends.replies;
          readings = ap (λ later. opened ∷ later) ends.moments;
          opening_legal = opening.legal;
          legal = over.legal;
          safe = over.safe;
          marked = ends.marked;
          keeper = record {
            opened = middle.keeper;
            begins = begins;
            recorded = subst (HoldsFarm (tells middle.keeper) (held middle.keeper) (left middle.keeper)) opening.farm_is recorded;
            lines = ends.keeper.lines;
          };
          causes = subst (λ (count : ℕ). HasRisenBy (store_marks call.exchanges) count after.store_faults) (sym was)
              (subst (λ (count : ℕ). HasRisenBy (store_marks call.exchanges) (faults given) count) (sym is_now)
              (opened_risen commits tells held left faults given middle.keeper now first call.exchanges begins ends.keeper.lines));
          held = subst holds ends.farm_is over.held;
          on_words = gives_seat seat middle.view opening.first (opening_entries form opened) (entries_in first call.exchanges) opening.begun ends.keeper.journals rests;
        }))));
        spent = λ lines. spent_session over.ended status call after.unread over.status_is ends.lines;
        complete = λ other said right unfailed unread unwritten few.
            ends_early other status (opened_call opened call)
            (inl (complete_session over.ended status call after.unread _ _ over.status_is ends.lines read write unread unwritten few));
      }

  -- a session or a load over a farm that was opened
  pub called_opened : (form : WordForm) → form_of words ≡ Some form → IsOpened (says form) form opened middle.farm middle.view → Tells before.readings mid (opened ∷ [])
      → AnswersForm form status middle.farm begun after call (RecordsOver commits tells held left faults middle now (view seat)) holds (Journals middle.view (view seat))
      → (status ≡ exit.ReadFailed → HasRisen before.read_faults after.read_faults) → (status ≡ exit.WriteFailed → HasRisen before.write_faults after.write_faults)
      → IsCall words status before after (opened_call opened call) (Some seat) says bad same untouched unmigrated (GoesOnOpened commits tells held left faults given now) holds
  called_opened Demo formed opening reads answered read write = called_session Demo tt formed opening reads answered read write
  called_opened (Script store) formed opening reads answered read write = called_session (Script store) tt formed opening reads answered read write
  called_opened (Load n) formed opening reads answered read write =
      called_load words n status opened middle seat call before after mid (faults middle.keeper) says bad same untouched unmigrated (GoesOnOpened commits tells held left faults given now) holds formed opening reads
      (begins.counted ∙ sym was) rests answered write

-- a load moves nothing but its sink and the keeper
pub load_called : (n : ℕ) (status : Status) (first : Farm) (left : Option (List ℕ)) (r : ℕ) (written written' : Option (List ℕ)) (w w' : ℕ) (readings : Option (List ℕ)) (k k' : ℕ)
    (wrote : List ℕ) (holds : Farm → Type 0) (journals : List Entry → Type 0) → Adds written written' wrote → AnswersLoad n first status wrote k k' holds journals
    → AnswersLoadCall n status first (streams left r written w readings k) (streams left r written' w' readings k') (told_call wrote []) holds journals
load_called n status first left r written written' w w' readings k k' wrote holds journals adds answered = record {
  moved = record { taken = Takes-none left; written = adds; readings = Tells-none readings };
  none_taken = refl;
  none_read = refl;
  no_lines = refl;
  answered = answered;
}
