-- Claims that are booked, or not.
use Rattle.std.specs.Prelude.{◌≡◌, ◌≢◌, ℕ, ◌==◌, Bool, true, false, [], ◌∷◌, length, Some, Result, Ok, Err}
use Rattle.farm_types.specs.declared.attempt.ProcRow.{ProcRow}
use Rattle.farm_types.specs.declared.entry.Entry.{Entry}
use Rattle.farm_types.specs.Booking.{may_record}
use Rattle.farm_types.specs.Farm.{Farm}
use Rattle.farm_types.specs.Run.{limit_at, live_at}
use Rattle.farm_types.specs.Step.{after}
use Rattle.farm_keeper.specs.Keeping.{Committing}
use Rattle.frame_words.specs.Bits.{frame_bits}
use Rattle.booking_rule.specs.declared.view.View.{View}
use Rattle.booking_rule.specs.declared.hold.Claim as rule
use Rattle.booking_rule.specs.Views.{confirmed, noted}
use Rattle.booking_core.specs.Kinds.{setup_for, claim_item}
use Rattle.booking_table.specs.declared.holds.Claim.{Claim}
use Rattle.booking_table.specs.Holds.{claim_of}
use Rattle.recorder.specs.Recording.{booking}
use Rattle.recorder.specs.Telling.{EndsTelling, TakesEach}
use Rattle.recording_core.specs.Records.{running_for}
use Rattle.booking_reasons.specs.declared.not_booked.NotBooked.{NotBooked}
use Rattle.booking_reasons.specs.declared.not_booked.NotBooked.TheVariants as reason
use Rattle.recording_table.specs.Booking.{CanBook, IsWhyLeft, burst_left, paused_at, place_left, takes_at}
use Rattle.recording_turns.specs.Resting.{IsAtRest}
use Rattle.recorder.specs.declared.refusal.RecordFault as plain
use Rattle.recorder.specs.declared.refusal.RecordFault.TheVariants as plain_fault
use Rattle.booking_recorder.specs.declared.refusal.ConfirmRefusal.{ConfirmRefusal}
use Rattle.booking_recorder.specs.declared.refusal.ConfirmRefusal.TheVariants as refusal
use Rattle.booking_recorder.specs.Readers.{booked_by, burst_by, limit_for, lock_at, most_by, running_by, state_at, sub_for}
use Rattle.booking_recorder.specs.Recording.{most_entries}
use Rattle.booking_recorder.specs.Views.{Entered, Stays}

-- ---- why not

-- the farm alone decides
abbrev pub MayStill : Farm → ℕ → ℕ → Type 0
MayStill f slot host = (paused_at f slot ≡ false) × (takes_at f host ≡ true) × (burst_left f slot host ≡ true) × (place_left f slot ≡ true)

-- .. and nothing but these four stands against a booking, in this order
abbrev pub CanStill : Farm → ℕ → ℕ → Type 0
CanStill f slot host = (MayStill f slot host → may_record f slot host ≡ true) × IsWhyLeft f slot host

-- what a reason says of the four
abbrev pub Decides : Bool → Bool → Bool → Bool → NotBooked → Type 0
Decides paused takes burst place reason.JobPaused = paused ≡ true
Decides paused takes burst place reason.HostClosed = (paused ≡ false) × (takes ≡ false)
Decides paused takes burst place reason.PastBurst = (paused ≡ false) × (takes ≡ true) × (burst ≡ false)
Decides paused takes burst place reason.AtLimit = (paused ≡ false) × (takes ≡ true) × (burst ≡ true) × (place ≡ false)
Decides paused takes burst place other = ⊥

abbrev pub IsAgainst : Farm → ℕ → ℕ → NotBooked → Type 0
IsAgainst f slot host why = Decides (paused_at f slot) (takes_at f host) (burst_left f slot host) (place_left f slot) why

-- Of a farm with a journal of n entries: each cause is so, and none of those before it is. `withdrawn` says it of a word that was found.
abbrev pub IsCause : (ℕ → Type 0) → Farm → ℕ → ℕ → ℕ → ConfirmRefusal → Type 0
IsCause withdrawn f n slot host (refusal.Withdrawn found) = withdrawn found
IsCause withdrawn f n slot host refusal.EntriesSpent = (n == most_entries) ≡ true
IsCause withdrawn f n slot host refusal.Paused = ((n == most_entries) ≡ false) × (paused_at f slot ≡ true)
IsCause withdrawn f n slot host (refusal.HostClosed state lock) =
    ((n == most_entries) ≡ false) × (paused_at f slot ≡ false) × (takes_at f host ≡ false) × (state ≡ state_at f host) × (lock ≡ lock_at f host)
IsCause withdrawn f n slot host (refusal.BurstLowered booked burst) =
    ((n == most_entries) ≡ false) × (paused_at f slot ≡ false) × (takes_at f host ≡ true) × (burst_left f slot host ≡ false)
    × (booked ≡ booked_by f (sub_for f slot host)) × (burst ≡ burst_by (sub_for f slot host))
IsCause withdrawn f n slot host (refusal.LimitLowered running most) =
    ((n == most_entries) ≡ false) × (paused_at f slot ≡ false) × (takes_at f host ≡ true) × (burst_left f slot host ≡ true) × (place_left f slot ≡ false)
    × (running ≡ running_by f (limit_at f slot) (limit_for f slot)) × (most ≡ most_by (limit_for f slot))
IsCause withdrawn f n slot host refusal.Memory = ((n == most_entries) ≡ false) × MayStill f slot host
IsCause withdrawn f n slot host refusal.Store = ((n == most_entries) ≡ false) × MayStill f slot host

-- it is no want of memory, and no failure of the store
abbrev pub IsNoStop : ConfirmRefusal → Type 0
IsNoStop (refusal.Withdrawn found) = Unit {0}
IsNoStop refusal.EntriesSpent = Unit {0}
IsNoStop refusal.Paused = Unit {0}
IsNoStop (refusal.HostClosed state lock) = Unit {0}
IsNoStop (refusal.BurstLowered booked burst) = Unit {0}
IsNoStop (refusal.LimitLowered running most) = Unit {0}
IsNoStop refusal.Memory = ⊥
IsNoStop refusal.Store = ⊥

-- ---- the booking, ahead of which the word runs

abbrev pub BooksAhead : Farm → ℕ → ℕ → ℕ → ℕ → Result ProcRow ConfirmRefusal → Farm → Type 0
BooksAhead f n slot host moment (Ok row) g =
    ((n == most_entries) ≡ false) × (may_record f slot host ≡ true) × (g ≡ after f (booking slot host moment)) × (live_at g slot ≡ Some row)
BooksAhead f n slot host moment (Err why) g = (g ≡ f) × IsCause (λ found. ⊥) f n slot host why

abbrev pub TellsAtStop : {K : Type 0} → Committing K → Farm → ℕ → ℕ → ℕ → ConfirmRefusal → K → K → Type 0
TellsAtStop commits f slot host moment (refusal.Withdrawn found) before now = now ≡ before
TellsAtStop commits f slot host moment refusal.EntriesSpent before now = now ≡ before
TellsAtStop commits f slot host moment refusal.Paused before now = now ≡ before
TellsAtStop commits f slot host moment (refusal.HostClosed state lock) before now = now ≡ before
TellsAtStop commits f slot host moment (refusal.BurstLowered booked burst) before now = now ≡ before
TellsAtStop commits f slot host moment (refusal.LimitLowered running most) before now = now ≡ before
TellsAtStop commits f slot host moment refusal.Memory before now = EndsTelling commits f (booking slot host moment ∷ []) false before now
TellsAtStop commits f slot host moment refusal.Store before now = EndsTelling commits f (booking slot host moment ∷ []) true before now

abbrev pub TellsAhead : {K T : Type 0} → Committing K → Farm → ℕ → ℕ → ℕ → Result T ConfirmRefusal → K → K → Type 0
TellsAhead commits f slot host moment (Ok _) before now = TakesEach commits f (booking slot host moment ∷ []) before now
TellsAhead commits f slot host moment (Err why) before now = TellsAtStop commits f slot host moment why before now

-- ---- a claim

abbrev pub entry_for : Claim → ℕ → Entry
entry_for c moment = booking c.slot c.hold.host moment

-- another word than the claim's was found in the slot, and nothing was changed
abbrev pub IsWithdrawn : View → Claim → View → ℕ → Type 0
IsWithdrawn v c w found =
    (found ≢ frame_bits (setup_for (claim_of c))) × (w ≡ noted v (claim_item 10 (claim_of c) (running_for (claim_of c)) found found))

-- The booking is recorded, for which the journal had room, and the slot's live attempt is told; or the claim is handed back, and the farm and the journal
-- are as before
abbrev pub Confirms : Farm → View → Claim → ℕ → Result ProcRow (Claim × ConfirmRefusal) → Farm → View → Type 0
Confirms f v c moment (Ok row) g w =
    ((length v.journal == most_entries) ≡ false) × (may_record f c.slot c.hold.host ≡ true) × (g ≡ after f (entry_for c moment)) × (live_at g c.slot ≡ Some row)
    × Entered v (entry_for c moment) w
Confirms f v c moment (Err left) g w =
    (left.0 ≡ c) × (g ≡ f) × Stays v w × IsCause (IsWithdrawn v c w) f (length v.journal) c.slot c.hold.host left.1

-- what the keeper was told of it
abbrev pub TellsConfirm : {K : Type 0} → Committing K → Farm → Claim → ℕ → Result ProcRow (Claim × ConfirmRefusal) → K → K → Type 0
TellsConfirm commits f c moment (Ok row) before now = TakesEach commits f (entry_for c moment ∷ []) before now
TellsConfirm commits f c moment (Err left) before now = TellsAtStop commits f c.slot c.hold.host moment left.1 before now

abbrev pub left_with : {T C : Type 0} → C → Result T ConfirmRefusal → Result T (C × ConfirmRefusal)
left_with c (Ok row) = Ok row
left_with c (Err why) = Err (c, why)

-- ---- a word that runs ahead

-- it was the claim's, and a seat that was at rest knows it to run ahead; the booking could be recorded, as far as the words decide it
pub record RunsAhead (v : View) (c : rule.Claim) (w : View) : Type 0 where
  pub like : w ≡ confirmed v (Some c.slot) c.host (claim_item 10 c (running_for c) (frame_bits (setup_for c)) (frame_bits (running_for c)))
  pub can : CanBook v c

abbrev pub WasAhead : rule.Claim → View → Type 0
WasAhead c w = (v : View) × IsAtRest v × RunsAhead v c w

-- ---- the booking in the farm and in the keeper

abbrev pub stop_of : plain.RecordFault → ConfirmRefusal
stop_of plain_fault.Store = refusal.Store
stop_of plain_fault.NoMemory = refusal.Memory

abbrev pub stopped_by : {T : Type 0} → Result T plain.RecordFault → Result (Unit {0}) ConfirmRefusal
stopped_by (Ok done) = Ok tt
stopped_by (Err why) = Err (stop_of why)

-- only the store and want of memory stop it
abbrev pub IsStop : ConfirmRefusal → Type 0
IsStop (refusal.Withdrawn found) = ⊥
IsStop refusal.EntriesSpent = ⊥
IsStop refusal.Paused = ⊥
IsStop (refusal.HostClosed state lock) = ⊥
IsStop (refusal.BurstLowered booked burst) = ⊥
IsStop (refusal.LimitLowered running most) = ⊥
IsStop refusal.Memory = Unit {0}
IsStop refusal.Store = Unit {0}

abbrev pub BooksNow : {T : Type 0} → Farm → ℕ → ℕ → ℕ → Result T ConfirmRefusal → Farm → Type 0
BooksNow f slot host moment (Ok _) g = g ≡ after f (booking slot host moment)
BooksNow f slot host moment (Err why) g = (g ≡ f) × IsStop why
