-- Lists of steps of claimants and of the recorder's seat: what a step asks, and what it does to the table.
use Rattle.std.specs.Prelude.{◌≡◌, ◌≢◌, ℕ, ◌<◌, ◌+◌, ◌^◌, ◌==◌, false, List, [], ◌∷◌, ◌++◌, length, slice_set, Option, Some, None, ◌&&◌, if◌then◌else◌, ◌-◌, ◌≤◌}
use mathlib.Core.Option.{some}
use lib.ListN.{get_elem?}
use Rattle.farm_types.specs.declared.entry.Act.{Act}
use Rattle.farm_types.specs.declared.entry.Act.TheVariants.{Book}
use Rattle.farm_types.specs.declared.entry.Entry.{Entry}
use Rattle.farm_types.specs.Farm.{empty_farm}
use Rattle.farm_types.specs.Kept.{IsKeptFarm}
use Rattle.farm_types.specs.Run.{IsLegal, IsLegalStep}
use Rattle.farm_types.specs.Step.{after}
use Rattle.frame_words.specs.Bits.{FitsFrame, frame_of, amount_of}
use Rattle.booking_rule.specs.declared.desk.Desk.{Desk}
use Rattle.booking_rule.specs.declared.hold.Claim.{Claim}
use Rattle.booking_rule.specs.declared.opening.Opening.{Opening}
use Rattle.booking_rule.specs.declared.view.View.{View}
use Rattle.booking_rule.specs.Recorded.{Stand, Recorded}
use Rattle.booking_rule.specs.Rule.{is_booked, word_of, cores_in, memory_in}
use Rattle.booking_rule.specs.Resizing.{IsOfSize, IsResized}
use Rattle.booking_rule.specs.Totals.{total, sum_to}
use Rattle.booking_rule.specs.Amounts.{last_amount}
use Rattle.booking_rule.specs.Link.{farm_of, opening_of, stand_at, host_cores, host_memory, burst_at, most_at, IsDone}
use Rattle.booking_rule.specs.Kept.{farm_in}
use Rattle.booking_rule.specs.Placing.{IsLent, runs_cores, runs_memory, FirstHost, sub_uses, FirstSub, limit_uses, FirstLimit}
use Rattle.booking_core.specs.Kinds.{Kind, setup_for}
use Rattle.booking_core.specs.Machine.{Table, word}
use Rattle.booking_core.specs.Machine as claiming
use Rattle.recording_core.specs.Records.{RecorderKind, place, wrote, knows, records_in, amounts_of}
use Rattle.recording_core.specs.Records.RecorderKind.{opens, closes, records, books, confirms, withdraws, leaves, ends, turns, sets_amount, sets_burst, sets_most, sets_size, places, places_size, places_burst, places_most}

-- ---- what a step asks of the recorder's seat

-- nothing is left to do for the last entry, and this slot runs ahead of its booking, or none
abbrev pub MayRecord : View → Option ℕ → Type 0
MayRecord v pending = (d : Desk) × (v.desk ≡ Some d) × (d.pending ≡ pending) × IsDone v.opening v.journal d

-- the last entry is carried out: no slot runs ahead
abbrev pub MayChange : View → Type 0
MayChange v = (d : Desk) × (v.desk ≡ Some d) × (d.pending ≡ None)

-- no farm was placed yet, nothing is recorded, no seat was split off, and the seat has no claim
abbrev pub MayOpen : View → Type 0
MayOpen v =
    ((d : Desk) × (v.desk ≡ Some d) × (d.pending ≡ None) × IsDone v.opening v.journal d × (d.split ≡ 0)) × (v.journal ≡ [])
    × (v.opening ≡ opening_of empty_farm) × (v.claims ≡ [])

-- the words are placed for the first time, and nothing is left to do
abbrev pub MayClose : View → Type 0
MayClose v = (d : Desk) × (v.desk ≡ Some d) × (d.pending ≡ None) × (d.before ≡ None) × IsDone v.opening v.journal d

-- a word is placed for the first time
abbrev pub MayPlace : View → (Desk → Type 0) → Type 0
MayPlace v may = (d : Desk) × (v.desk ≡ Some d) × (d.pending ≡ None) × may d

abbrev pub IsBooking : Act → Type 0
IsBooking (Book slot host) = Unit {0}
IsBooking act = ⊥

-- ---- .. of an entry

-- what a frame that runs on the host uses
abbrev pub cores_used : ℕ → Stand → ℕ
cores_used host s = if (s.phase == 4) && (s.host == host) then s.cores else 0

abbrev pub memory_used : ℕ → Stand → ℕ
memory_used host s = if (s.phase == 4) && (s.host == host) then s.memory else 0

-- the seat's room on the host, with what the frames there use, is all of its size
pub record HasAllOf (host : ℕ) (v : View) : Type 0 where
  pub cores : sum_to 65536 (λ slot. cores_used host (stand_at (farm_in v) slot)) + total (cores_in host) v.rooms ≡ host_cores (farm_in v) host
  pub memory : sum_to 65536 (λ slot. memory_used host (stand_at (farm_in v) slot)) + total (memory_in host) v.rooms ≡ host_memory (farm_in v) host

-- the seat has all that is free of each host that the entry gives another size
abbrev pub MayResize : View → Entry → Type 0
MayResize v e = (host : ℕ) → host < 4096 → IsResized (host_cores (farm_in v) host) (host_memory (farm_in v) host) (after (farm_in v) e) host → HasAllOf host v

-- the farm takes the entry, and the journal's word has room for one more
abbrev pub MayEnter : View → Entry → Type 0
MayEnter v e = IsLegalStep (farm_in v) e × (length v.journal + 1 < 2 ^ 64)

-- the words of the claim's slot have room for what it says
abbrev pub IsFormed : Claim → Type 0
IsFormed c = (c.slot < 65536) × FitsFrame (setup_for c)

-- what the records say of a slot, and what the farm says
abbrev pub stand_recorded : View → ℕ → Stand
stand_recorded v slot = (records_in v).slot slot

abbrev pub stand_now : View → ℕ → Stand
stand_now v slot = stand_at (farm_in v) slot

-- the slot's word doesn't show yet what the farm says, where no frame runs, and this word does
pub record IsDue (v : View) (slot bits : ℕ) : Type 0 where
  pub within : slot < 65536
  pub fits : bits < 2 ^ 64
  pub left : stand_recorded v slot ≢ stand_now v slot
  pub shows : frame_of bits ≡ word_of (stand_now v slot)
  pub over : is_booked (stand_now v slot).phase ≡ false

-- the trail wrote last what the stand has as its amounts
abbrev pub WroteAmounts : Stand → Option ℕ → Type 0
WroteAmounts s None = ⊥
WroteAmounts s (Some bits) = amount_of bits ≡ amounts_of s

-- a frame that comes to a free slot has its amounts there
abbrev pub HasItsAmounts : View → ℕ → Type 0
HasItsAmounts v slot = (stand_recorded v slot).phase ≡ 0 → ((stand_now v slot).phase == 0) ≡ false → WroteAmounts (stand_now v slot) (last_amount slot v.trail)

-- no running frame is lent by the step: none runs there, or the words were placed before
pub record LendsAlike (R S : Recorded) : Type 0 where
  pub each : (slot : ℕ) → (R.roomed slot ≡ S.roomed slot) × (R.billed slot ≡ S.billed slot) × (R.counted slot ≡ S.counted slot)

abbrev pub Asks : Table → View → RecorderKind → Type 0
Asks s v (opens f) = MayOpen v × IsKeptFarm f
Asks s v closes = MayClose v
Asks s v (records e) = MayRecord v None × MayEnter v e × (IsBooking e.act → ⊥) × MayResize v e
Asks s v (books c e) =
    MayRecord v (Some c.slot) × MayEnter v e × (c.slot < 65536) × (e.act ≡ Book c.slot c.host) × ((d : Desk) → v.desk ≡ Some d → d.on ≡ c.host)
Asks s v (confirms c) = MayRecord v None × IsFormed c
-- the claim is of the frame that is recorded as waiting, and of the host that the word names
Asks s v (withdraws c) =
    MayRecord v (Some c.slot) × IsFormed c × (c.version ≡ (stand_recorded v c.slot).version + 1) × (c.cores ≡ (stand_recorded v c.slot).cores)
    × ((d : Desk) → v.desk ≡ Some d → d.on ≡ c.host)
Asks s v (leaves slot bits) = MayChange v × IsDue v slot bits × ((stand_recorded v slot).phase ≡ 1)
Asks s v (ends slot bits) = MayChange v × IsDue v slot bits × ((stand_recorded v slot).phase ≡ 4)
Asks s v (turns slot bits) = MayChange v × IsDue v slot bits × ((stand_recorded v slot).phase ≢ 1) × ((stand_recorded v slot).phase ≢ 4) × HasItsAmounts v slot
Asks s v (sets_amount slot bits) =
    MayChange v × (slot < 65536) × (bits < 2 ^ 64) × ((stand_recorded v slot).phase ≡ 0) × (((stand_now v slot).phase == 0) ≡ false)
    × (amount_of bits ≡ amounts_of (stand_now v slot))
Asks s v (sets_burst sub old new) =
    MayChange v × (sub < 1024) × (old ≢ new) × ((records_in v).burst sub ≡ old) × (burst_at (farm_in v) sub ≡ new)
    × LendsAlike (records_in v) (records_in (knows v (sets_burst sub old new) 0))
Asks s v (sets_most limit old new) =
    MayChange v × (limit < 255) × (old ≢ new) × ((records_in v).most limit ≡ old) × (most_at (farm_in v) limit ≡ new)
    × LendsAlike (records_in v) (records_in (knows v (sets_most limit old new) 0))
-- no frame is recorded as running there: what ran was ended before
Asks s v (sets_size host cores memory) =
    MayChange v × (host < 4096) × (cores ≡ host_cores (farm_in v) host) × (memory ≡ host_memory (farm_in v) host)
    × (IsOfSize ((records_in v).cores host) ((records_in v).memory host) (farm_in v) host → ⊥)
    × ((slot : ℕ) → slot < 65536 → (stand_recorded v slot).phase ≡ 4 → (stand_recorded v slot).host ≢ host)
    × LendsAlike (records_in v) (records_in (knows v (sets_size host cores memory) 0))
-- where the words are placed for the first time, hosts first, slots last: a running frame's word, which was lent
Asks s v (places slot bits) =
    MayPlace v (λ d. IsLent v d slot) × (slot < 65536) × (bits < 2 ^ 64) × (frame_of bits ≡ word_of (stand_now v slot))
    × WroteAmounts (stand_now v slot) (last_amount slot v.trail)
-- a host's size less what its running frames use
Asks s v (places_size host cores memory) =
    MayPlace v (λ d. FirstHost v d host) × (host < 4096) × (cores ≡ host_cores (farm_in v) host - sum_to 65536 (λ k. runs_cores host (stand_now v k)))
    × (memory ≡ host_memory (farm_in v) host - sum_to 65536 (λ k. runs_memory host (stand_now v k)))
-- a burst, and a most, with what running frames use; the seat holds nothing of them
Asks s v (places_burst sub burst booked) =
    MayPlace v (λ d. FirstSub v d sub) × (sub < 1024) × (burst ≡ burst_at (farm_in v) sub)
    × (booked ≡ sum_to 65536 (λ k. sub_uses (farm_in v) sub (stand_now v k)))
    × (booked ≤ 4096000000) × (v.takes ≡ []) × (v.ungranted ≡ None)
Asks s v (places_most limit most running) =
    MayPlace v (λ d. FirstLimit v d limit) × (limit < 255) × (most ≡ most_at (farm_in v) limit)
    × (running ≡ sum_to 65536 (λ k. limit_uses limit (stand_now v k))) × (v.limits ≡ []) × (v.ungranted_limit ≡ None)

-- ---- what it does

-- the step's word becomes what the step writes, and the seat knows what it found
abbrev pub acts : Table → ℕ → View → RecorderKind → Table
acts s id v k =
    record {
      words = slice_set s.words (place k) (wrote k (word s (place k)));
      homes = s.homes;
      views = slice_set s.views id (knows v k (word s (place k)));
    }

-- ---- many of them, with those of claimants

pub data AnyKind : Type 0 where
  of_claimant : Kind → AnyKind
  of_recorder : RecorderKind → AnyKind

-- a seat's number, and the kind of its step
abbrev pub Move : Type 0
Move = ℕ × AnyKind

abbrev pub MayStep : Table → ℕ → View → AnyKind → Type 0
MayStep s id v (of_claimant k) = claiming.Asks s id v k
MayStep s id v (of_recorder k) = Asks s v k

abbrev pub steps : Table → ℕ → View → AnyKind → Table
steps s id v (of_claimant k) = claiming.acts s id v k
steps s id v (of_recorder k) = acts s id v k

-- the steps lead from s to t
abbrev pub Runs : Table → List Move → Table → Type 0
Runs s [] t = s ≡ t
Runs s (m ∷ ms) t = (v : View) × (get_elem? s.views m.0 ≡ some v) × MayStep s m.0 v m.1 × Runs (steps s m.0 v m.1) ms t

-- ---- what they record

abbrev pub entries_in : AnyKind → List Entry
entries_in (of_recorder (records e)) = e ∷ []
entries_in (of_recorder (books c e)) = e ∷ []
entries_in k = []

abbrev pub entries_of : List Move → List Entry
entries_of [] = []
entries_of (m ∷ ms) = entries_in m.1 ++ entries_of ms

-- .. and the farm from which the journal starts
abbrev pub opening_in : AnyKind → Opening → Opening
opening_in (of_recorder (opens f)) o = opening_of f
opening_in k o = o

abbrev pub opening_after : List Move → Opening → Opening
opening_after [] o = o
opening_after (m ∷ ms) o = opening_after ms (opening_in m.1 o)

-- the recorder's seat stays one; its journal goes on with the entries of the steps, from the farm that they leave, all of it legal
pub record HasRecorded (v : View) (ms : List Move) (w : View) : Type 0 where
  pub desk : (d : Desk) × (w.desk ≡ Some d)
  pub opening : w.opening ≡ opening_after ms v.opening
  pub journal : w.journal ≡ v.journal ++ entries_of ms
  pub legal : IsLegal (farm_of w.opening) w.journal
