-- What each call answers, with what the seat knows after it.
use Rattle.std.specs.Prelude.{◌≡◌, ◌≢◌, ◌⊎◌, ℕ, zero, suc, ◌+◌, ◌<◌, ◌≤◌, true, length, take, Option, Some, None}
use Rattle.farm_types.specs.Booking.{suits}
use Rattle.farm_types.specs.Run.{run_of}
use Rattle.frame_words.specs.declared.amount_word.AmountWord.{AmountWord}
use Rattle.frame_words.specs.declared.frame_word.FrameWord.{FrameWord}
use Rattle.frame_words.specs.declared.host_word.HostWord.{HostWord}
use Rattle.frame_words.specs.Bits.{frame_bits, frame_of, amount_of, host_bits, host_of, sub_of, limit_of}
use Rattle.booking_rule.specs.declared.view.View.{View}
use Rattle.booking_rule.specs.Words.{frame_place, amount_place, host_place}
use Rattle.booking_rule.specs.Link.{farm_of, limit_code}
use Rattle.booking_rule.specs.Looks.{Look}
use Rattle.booking_rule.specs.Views.{take_of, room_of, noted, granted, asked, granted_limit, asked_limit, with_room, claimed, dropped}
use Rattle.booking_core.specs.Kinds.{loaded, burst_taken, gave_burst, retracted_burst, limit_taken, gave_limit, retracted_limit, host_less, host_taken, host_tried, gave_host, waiting_for, setup_for, claim_item}
use Rattle.booking_table.specs.declared.burst.BurstFull.{BurstFull}
use Rattle.booking_table.specs.declared.limit.LimitFull.{LimitFull}
use Rattle.booking_table.specs.declared.room.HostShort.{HostShort}
use Rattle.booking_table.specs.declared.room.HostShort.TheVariants as host_short
use Rattle.booking_table.specs.declared.seen.Seen.{Seen}
use Rattle.booking_table.specs.declared.claiming.Taken.{Taken}
use Rattle.booking_table.specs.declared.claiming.Dropped.{Dropped}
use Rattle.booking_table.specs.declared.claiming.Dropped.TheVariants as dropping
use Rattle.booking_table.specs.declared.holds.Hold.{Hold}
use Rattle.booking_table.specs.declared.holds.Claim.{Claim}
use Rattle.booking_table.specs.Holds.{claim_of}

-- ---- a subscription's burst

-- what was found had room for the cores
abbrev pub IsBurstTaken : View → ℕ → ℕ → View → Type 0
IsBurstTaken v sub cores w =
    (found : ℕ) × ((sub_of found).booked ≤ 4160000000) × ((sub_of found).booked + cores ≤ (sub_of found).burst)
    × (w ≡ granted v (take_of sub cores) (burst_taken sub cores found))

abbrev pub burst_full : ℕ → BurstFull
burst_full found = record { booked = (sub_of found).booked; burst = (sub_of found).burst }

-- what was found had none, and the cores were taken off again
abbrev pub IsBurstFull : View → ℕ → ℕ → BurstFull → View → Type 0
IsBurstFull v sub cores full w =
    (found back : ℕ) × (full ≡ burst_full found) × (full.booked ≤ 4160000000) × (full.burst < full.booked + cores)
    × (w ≡ retracted_burst (asked v (take_of sub cores) (burst_taken sub cores found)) sub cores back)

-- ---- a limit's place

abbrev pub IsLimitTaken : View → ℕ → View → Type 0
IsLimitTaken v limit w =
    (found : ℕ) × ((limit_of found).running ≤ 65600) × ((limit_of found).running + 1 ≤ (limit_of found).most)
    × (w ≡ granted_limit v limit (limit_taken limit found))

abbrev pub limit_full : ℕ → LimitFull
limit_full found = record { running = (limit_of found).running; most = (limit_of found).most }

abbrev pub IsLimitFull : View → ℕ → LimitFull → View → Type 0
IsLimitFull v limit full w =
    (found back : ℕ) × (full ≡ limit_full found) × (full.running ≤ 65600) × (full.most < full.running + 1)
    × (w ≡ retracted_limit (asked_limit v limit (limit_taken limit found)) limit back)

-- the place in a limit goes back, if there is one
abbrev pub place_given : View → Option ℕ → ℕ → View
place_given v None found = v
place_given v (Some limit) found = gave_limit v limit found

-- ---- room on a host

abbrev pub IsRoomTaken : View → ℕ → ℕ → ℕ → View → Type 0
IsRoomTaken v host cores memory w =
    (found : ℕ) × (cores ≤ (host_of found).cores) × (memory ≤ (host_of found).memory)
    × (w ≡ with_room (loaded v (host_place host) found) (room_of host cores memory) (host_taken host (host_less found cores memory) found))

-- less was free; or it was enough, and changed before the exchange
abbrev pub IsShort : View → ℕ → ℕ → ℕ → HostShort → View → Type 0
IsShort v host cores memory (host_short.NoRoom free_cores free_memory) w =
    (found : ℕ) × (free_cores ≡ (host_of found).cores) × (free_memory ≡ (host_of found).memory)
    × ((free_cores < cores) ⊎ (free_memory < memory)) × (w ≡ loaded v (host_place host) found)
IsShort v host cores memory (host_short.Moved expected found) w =
    (found ≢ expected) × (cores ≤ (host_of expected).cores) × (memory ≤ (host_of expected).memory)
    × (w ≡ noted (loaded v (host_place host) expected) (host_tried host (host_less expected cores memory) found))

-- all that was free was exactly this, and is taken
abbrev pub IsWholeTaken : View → ℕ → HostWord → View → Type 0
IsWholeTaken v host free w =
    w ≡ with_room (loaded v (host_place host) (host_bits free)) (room_of host free.cores free.memory)
    (host_taken host (host_less (host_bits free) free.cores free.memory) (host_bits free))

-- other amounts were found free, by the look or by the exchange
abbrev pub IsOtherFree : View → ℕ → HostWord → HostWord → View → Type 0
IsOtherFree v host free found w =
    (found ≢ free)
    × ((w ≡ loaded v (host_place host) (host_bits found))
    ⊎ (w ≡ noted (loaded v (host_place host) (host_bits free)) (host_tried host (host_less (host_bits free) free.cores free.memory) (host_bits found))))

-- the host's room goes back, then the place in the limit, then the cores
abbrev pub hold_given : View → Hold → ℕ → ℕ → ℕ → View
hold_given v h room place found =
    gave_burst (place_given (gave_host v h.host h.burst.cores h.memory room) h.burst.limit place) h.burst.sub h.burst.cores found

-- ---- a look

-- the limit that an amount word names
abbrev pub limit_in : ℕ → Option ℕ
limit_in zero = None
limit_in (suc n) = Some n

abbrev pub seen_in : ℕ → FrameWord → AmountWord → Seen
seen_in slot f a =
    record { slot = slot; phase = f.phase; version = f.version; cores = f.cores; show = a.show; limit = limit_in a.limit; memory = a.memory }

abbrev pub seen_of : ℕ → ℕ → ℕ → Seen
seen_of slot frame amount = seen_in slot (frame_of frame) (amount_of amount)

abbrev pub looked : View → ℕ → ℕ → ℕ → View
looked v slot frame amount = loaded (loaded v (frame_place slot) frame) (amount_place slot) amount

-- the look that it was
abbrev pub look_by : Seen → Look
look_by seen =
    record {
      slot = seen.slot;
      version = seen.version;
      cores = seen.cores;
      amount = Some (record { show = seen.show; limit = limit_code seen.limit; memory = seen.memory });
    }

-- ---- a claim

-- it was waiting, below the last version, with the amounts and the limit of what is held
abbrev pub IsSeenFor : Seen → Hold → Type 0
IsSeenFor seen h =
    (seen.slot < 65536) × (seen.phase ≡ 1) × (seen.version < 16777215) × (seen.cores ≡ h.burst.cores)
    × (seen.limit ≡ h.burst.limit) × (seen.memory ≡ h.memory)

-- the slot at that version suits the host and the subscription in a farm of the seat's journal
abbrev pub SuitsAt : View → ℕ → ℕ → ℕ → ℕ → Type 0
SuitsAt v slot version host sub =
    (p : ℕ) × (p ≤ length v.journal) × (suits (run_of (farm_of v.opening) (take p v.journal)) slot version host sub ≡ true)

abbrev pub claim_by : Hold → Seen → Claim
claim_by h seen = record { slot = seen.slot; version = seen.version + 1; hold = h }

-- it was found as it was seen
abbrev pub IsClaimed : View → Claim → View → Type 0
IsClaimed v c w =
    w ≡ claimed v (claim_of c)
    (claim_item 6 (claim_of c) (setup_for (claim_of c)) (frame_bits (waiting_for (claim_of c))) (frame_bits (setup_for (claim_of c))))

-- it wasn't
abbrev pub IsTaken : View → Claim → Taken → View → Type 0
IsTaken v c taken w =
    (taken.found ≢ frame_bits (waiting_for (claim_of c)))
    × (w ≡ noted v (claim_item 6 (claim_of c) (setup_for (claim_of c)) taken.found taken.found))

-- ---- a claim that ends

abbrev pub unclaimed : View → Claim → View
unclaimed v c =
    dropped v (claim_of c)
    (claim_item 7 (claim_of c) (waiting_for (claim_of c)) (frame_bits (setup_for (claim_of c))) (frame_bits (waiting_for (claim_of c))))

abbrev pub IsDropped : View → Claim → Dropped → View → Type 0
IsDropped v c dropping.Back w = (room place found : ℕ) × (w ≡ hold_given (unclaimed v c) c.hold room place found)
IsDropped v c (dropping.Withdrawn found) w =
    (found ≢ frame_bits (setup_for (claim_of c)))
    × (w ≡ noted v (claim_item 7 (claim_of c) (waiting_for (claim_of c)) found found))
