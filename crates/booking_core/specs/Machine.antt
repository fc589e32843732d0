-- Lists of steps, each of one seat: what a step asks, and what it does to the table.
use Rattle.std.specs.Prelude.{◌≡◌, ◌≢◌, ℕ, ◌<◌, ◌≤◌, ◌-◌, true, List, [], ◌∷◌, ◌++◌, slice_index, slice_set, Some, None}
use mathlib.Core.Option.{Option, some, none}
use lib.ListN.{get_elem?}
use Rattle.atomic_table.specs.Table.{State}
use Rattle.farm_types.specs.Limits.{IsBetween}
use Rattle.farm_types.specs.declared.limits.TheConstants.{LEAST_CORES, MOST_CORES}
use Rattle.frame_words.specs.declared.amount_word.AmountWord.{AmountWord}
use Rattle.frame_words.specs.Bits.{FitsFrame, host_of}
use Rattle.booking_rule.specs.declared.view.View.{View}
use Rattle.booking_rule.specs.declared.desk.Desk.{Desk}
use Rattle.booking_rule.specs.declared.hold.Claim.{Claim}
use Rattle.booking_rule.specs.Words.{all_words}
use Rattle.booking_rule.specs.Views.{take_of, room_of, same_take, same_limit, same_room, same_claim, holds, holds_limit, take_in, room_in}
use Rattle.booking_rule.specs.Link.{farm_of, recorded_in, IsDone}
use Rattle.booking_rule.specs.Kept.{farm_in}
use Rattle.booking_rule.specs.Resizing.{IsResized}
use Rattle.booking_rule.specs.Looks.{Look, HasLook}
use Rattle.booking_rule.specs.Seats.{seats, IsSeated}
use Rattle.booking_rule.specs.Suits.{SuitsOnce}
use Rattle.booking_rule.specs.Splits.{MaySplit, one_more, numbered, without_receipts, note_of, informed, blank, settled, IsNote}
use Rattle.booking_core.specs.Kinds.{Kind, place, wrote, loaded, tried_burst, gave_burst, retracted_burst, tried_limit, gave_limit, retracted_limit}
use Rattle.booking_core.specs.Kinds.{tried_host, gave_host, tried_claim, tried_drop, setup_for}
use Rattle.booking_core.specs.Kinds.Kind.{loads, takes_burst, gives_burst, retracts_burst, takes_limit, gives_limit, retracts_limit, takes_host}
use Rattle.booking_core.specs.Kinds.Kind.{gives_host, claims, drops, settles, splits, notes, joins}

abbrev pub Table : Type 0
Table = State (Unit {0}) View

abbrev pub word : Table → ℕ → ℕ
word s i = slice_index s.words i

-- ---- what a step asks of its seat

-- the seat may have a take in flight, and has none
abbrev pub CanTake : View → Type 0
CanTake v = (seats v ≡ 1) × (v.ungranted ≡ None) × (v.ungranted_limit ≡ None)

-- the recorder's seat gives nothing back while the words are placed for the first time
abbrev pub MayGive : View → Type 0
MayGive v = IsSeated v × ((d : Desk) → v.desk ≡ Some d → d.before ≢ None)

-- the recorder's seat keeps its room on a host that is to be resized
abbrev pub MayGiveRoom : View → ℕ → Type 0
MayGiveRoom v host =
    (d : Desk) → v.desk ≡ Some d
    → IsResized ((recorded_in v.opening v.journal d).cores host) ((recorded_in v.opening v.journal d).memory host) (farm_in v) host → ⊥

-- the recorder's seat claims only where no word has to be changed and none runs ahead
abbrev pub IsIdle : View → Type 0
IsIdle v = (d : Desk) → v.desk ≡ Some d → IsDone v.opening v.journal d × (d.pending ≡ None)

-- the claim's slot is one, and its words have room for what it says
abbrev pub IsFormedClaim : Claim → Type 0
IsFormedClaim c = (c.slot < 65536) × (0 < c.version) × FitsFrame (setup_for c)

-- the frame was found waiting at the version before the claim's, with its amounts
abbrev pub look_for : Claim → AmountWord → Look
look_for c seen = record { slot = c.slot; version = c.version - 1; cores = c.cores; amount = Some seen }

abbrev pub HasSeen : View → Claim → Type 0
HasSeen v c = (seen : AmountWord) × HasLook v.trail (look_for c seen) × (seen.limit ≡ c.limit) × (seen.memory ≡ c.memory)

-- what the claim books is held: its cores of the subscription, its place in the limit, its room
abbrev pub HoldsFor : View → Claim → Type 0
HoldsFor v c = (holds same_take (take_in c) v.takes ≡ true) × (holds_limit c.limit v.limits ≡ true) × (holds same_room (room_in c) v.rooms ≡ true)

-- by the kind: of the seat's own view, and of the other's where a note is taken in
abbrev pub Asks : Table → ℕ → View → Kind → Type 0
Asks s id v (loads i) = IsSeated v × (i < all_words)
Asks s id v (takes_burst sub cores) = CanTake v × (sub < 1024) × IsBetween LEAST_CORES MOST_CORES cores
Asks s id v (gives_burst sub cores) = MayGive v × (sub < 1024) × (holds same_take (take_of sub cores) v.takes ≡ true)
Asks s id v (retracts_burst sub cores) = IsSeated v × (sub < 1024) × (v.ungranted ≡ Some (take_of sub cores))
Asks s id v (takes_limit limit) = CanTake v × (limit < 255)
Asks s id v (gives_limit limit) = MayGive v × (limit < 255) × (holds same_limit limit v.limits ≡ true)
Asks s id v (retracts_limit limit) = IsSeated v × (limit < 255) × (v.ungranted_limit ≡ Some limit)
Asks s id v (takes_host host cores memory expected) = IsSeated v × (host < 4096) × (cores ≤ (host_of expected).cores) × (memory ≤ (host_of expected).memory)
Asks s id v (gives_host host cores memory) = MayGive v × (host < 4096) × (holds same_room (room_of host cores memory) v.rooms ≡ true) × MayGiveRoom v host
Asks s id v (claims c) = (seats v ≡ 1) × IsIdle v × IsFormedClaim c × HoldsFor v c × HasSeen v c × SuitsOnce (farm_of v.opening) v.journal c
Asks s id v (drops c) = IsSeated v × IsFormedClaim c × (holds same_claim c v.claims ≡ true)
Asks s id v settles = Unit {0}
Asks s id v splits = MaySplit v
Asks s id v notes = Unit {0}
Asks s id v (joins other) = (u : View) × (get_elem? s.views other ≡ some u) × (other ≢ id) × IsNote u

-- ---- what it does

-- the step's word becomes what the step writes, and the seat's view w
abbrev pub on_word : Table → ℕ → Kind → View → Table
on_word s id k w = record { words = slice_set s.words (place k) (wrote k (word s (place k))); homes = s.homes; views = slice_set s.views id w }

-- the seat's view follows from the word that it found
abbrev pub finding : Table → ℕ → Kind → (ℕ → View) → Table
finding s id k seen = on_word s id k (seen (word s (place k)))

-- a seat more: the first view stays with the seat, the second is the new one's
abbrev pub cut_in_two : Table → ℕ → View → View → Table
cut_in_two s id left right = record { words = s.words; homes = s.homes; views = slice_set s.views id left ++ right ∷ [] }

-- what a note tells the seat that takes it in
abbrev pub told_by : View → Option View → View
told_by v none = v
told_by v (some u) = informed v u

-- the table after the step
abbrev pub acts : Table → ℕ → View → Kind → Table
acts s id v (loads i) = finding s id (loads i) (loaded v i)
acts s id v (takes_burst sub cores) = finding s id (takes_burst sub cores) (tried_burst v sub cores)
acts s id v (gives_burst sub cores) = finding s id (gives_burst sub cores) (gave_burst v sub cores)
acts s id v (retracts_burst sub cores) = finding s id (retracts_burst sub cores) (retracted_burst v sub cores)
acts s id v (takes_limit limit) = finding s id (takes_limit limit) (tried_limit v limit)
acts s id v (gives_limit limit) = finding s id (gives_limit limit) (gave_limit v limit)
acts s id v (retracts_limit limit) = finding s id (retracts_limit limit) (retracted_limit v limit)
acts s id v (takes_host host cores memory expected) = finding s id (takes_host host cores memory expected) (tried_host v host cores memory expected)
acts s id v (gives_host host cores memory) = finding s id (gives_host host cores memory) (gave_host v host cores memory)
acts s id v (claims c) = finding s id (claims c) (tried_claim v c)
acts s id v (drops c) = finding s id (drops c) (tried_drop v c)
acts s id v settles = finding s id settles (settled v)
acts s id v splits = cut_in_two s id (one_more v) (numbered v)
acts s id v notes = cut_in_two s id (without_receipts v) (note_of v)
acts s id v (joins other) =
    record { words = s.words; homes = s.homes; views = slice_set (slice_set s.views id (told_by v (get_elem? s.views other))) other blank }

-- ---- many of them

-- a seat's number, and the kind of its step
abbrev pub Move : Type 0
Move = ℕ × Kind

-- the steps lead from s to t
abbrev pub Runs : Table → List Move → Table → Type 0
Runs s [] t = s ≡ t
Runs s (m ∷ ms) t = (v : View) × (get_elem? s.views m.0 ≡ some v) × Asks s m.0 v m.1 × Runs (acts s m.0 v m.1) ms t

-- a view with a desk stays one, with the same opening farm and the same journal
abbrev pub RecordsNothing : View → View → Type 0
RecordsNothing v w = (d : Desk) → v.desk ≡ Some d → (e : Desk) × (w.desk ≡ Some e) × (w.opening ≡ v.opening) × (w.journal ≡ v.journal)
