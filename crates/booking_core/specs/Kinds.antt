-- The kinds of a claimant's steps: which word each changes, what the word becomes, and what the seat knows then.
use Rattle.std.specs.Prelude.{ℕ, ◌+◌, ◌-◌, ◌==◌, Bool, if◌then◌else◌, nat_le}
use Rattle.frame_words.specs.declared.frame_word.FrameWord.{FrameWord}
use Rattle.frame_words.specs.Bits.{frame_bits, host_of, host_bits, sub_of, limit_of}
use Rattle.booking_rule.specs.declared.view.View.{View}
use Rattle.booking_rule.specs.declared.hold.Claim.{Claim}
use Rattle.booking_rule.specs.declared.noted.Noted.{Noted}
use Rattle.booking_rule.specs.Words.{frame_place, host_place, sub_place, limit_place}
use Rattle.booking_rule.specs.Views.{take_of, room_of, noted, granted, asked, given, retracted, granted_limit, asked_limit, given_limit, with_room}
use Rattle.booking_rule.specs.Views.{without_room, claimed, dropped}
use Rattle.booking_rule.specs.Splits.{look_at}

-- an item of a trail
abbrev pub item_of : ℕ → ℕ → ℕ → ℕ → ℕ → Noted
item_of did word operand found wrote = record { did = did; word = word; operand = operand; found = found; wrote = wrote }

-- ---- a load of any word

abbrev pub loaded : View → ℕ → ℕ → View
loaded v word found = noted v (look_at word found)

-- ---- a subscription's burst: the cores are added to what is booked, and count as granted where they fit

abbrev pub fits_burst : ℕ → ℕ → Bool
fits_burst cores found = nat_le ((sub_of found).booked + cores) (sub_of found).burst

abbrev pub burst_taken : ℕ → ℕ → ℕ → Noted
burst_taken sub cores found = item_of 2 (sub_place sub) cores found (found + cores)

abbrev pub burst_given : ℕ → ℕ → ℕ → Noted
burst_given sub cores found = item_of 3 (sub_place sub) cores found (found - cores)

abbrev pub tried_burst : View → ℕ → ℕ → ℕ → View
tried_burst v sub cores found =
    if fits_burst cores found then granted v (take_of sub cores) (burst_taken sub cores found) else asked v (take_of sub cores) (burst_taken sub cores found)

abbrev pub gave_burst : View → ℕ → ℕ → ℕ → View
gave_burst v sub cores found = given v (take_of sub cores) (burst_given sub cores found)

abbrev pub retracted_burst : View → ℕ → ℕ → ℕ → View
retracted_burst v sub cores found = retracted v (burst_given sub cores found)

-- ---- a limit's place: 1 is added to what runs, and counts as granted where it fits

abbrev pub fits_limit : ℕ → Bool
fits_limit found = nat_le ((limit_of found).running + 1) (limit_of found).most

abbrev pub limit_taken : ℕ → ℕ → Noted
limit_taken limit found = item_of 18 (limit_place limit) 1 found (found + 1)

abbrev pub limit_given : ℕ → ℕ → Noted
limit_given limit found = item_of 19 (limit_place limit) 1 found (found - 1)

abbrev pub tried_limit : View → ℕ → ℕ → View
tried_limit v limit found =
    if fits_limit found then granted_limit v limit (limit_taken limit found) else asked_limit v limit (limit_taken limit found)

abbrev pub gave_limit : View → ℕ → ℕ → View
gave_limit v limit found = given_limit v limit (limit_given limit found)

abbrev pub retracted_limit : View → ℕ → ℕ → View
retracted_limit v limit found = Rattle.booking_rule.specs.Views.retracted_limit v (limit_given limit found)

-- ---- a host's room: what is free becomes less by an exchange, which wins where the word is the expected one

-- the word's amounts, less these
abbrev pub host_less : ℕ → ℕ → ℕ → ℕ
host_less expected cores memory = host_bits (record { cores = (host_of expected).cores - cores; memory = (host_of expected).memory - memory })

abbrev pub host_amounts : ℕ → ℕ → ℕ
host_amounts cores memory = host_bits (record { cores = cores; memory = memory })

abbrev pub host_tried : ℕ → ℕ → ℕ → Noted
host_tried host wanted found = item_of 4 (host_place host) wanted found found

abbrev pub host_taken : ℕ → ℕ → ℕ → Noted
host_taken host wanted found = item_of 4 (host_place host) wanted found wanted

abbrev pub host_given : ℕ → ℕ → ℕ → Noted
host_given host amounts found = item_of 5 (host_place host) amounts found (found + amounts)

abbrev pub tried_host : View → ℕ → ℕ → ℕ → ℕ → ℕ → View
tried_host v host cores memory expected found =
    if found == expected
    then with_room v (room_of host cores memory) (host_taken host (host_less expected cores memory) found)
    else noted v (host_tried host (host_less expected cores memory) found)

abbrev pub gave_host : View → ℕ → ℕ → ℕ → ℕ → View
gave_host v host cores memory found = without_room v (room_of host cores memory) (host_given host (host_amounts cores memory) found)

-- ---- a claim: a slot's word goes from WAITING to SETUP at the next version by an exchange, and back by another

abbrev pub waiting_for : Claim → FrameWord
waiting_for c = record { phase = 1; version = c.version - 1; host = 0; cores = c.cores }

abbrev pub setup_for : Claim → FrameWord
setup_for c = record { phase = 3; version = c.version; host = c.host; cores = c.cores }

abbrev pub claim_item : ℕ → Claim → FrameWord → ℕ → ℕ → Noted
claim_item did c wanted found wrote = item_of did (frame_place c.slot) (frame_bits wanted) found wrote

abbrev pub tried_claim : View → Claim → ℕ → View
tried_claim v c found =
    if found == frame_bits (waiting_for c)
    then claimed v c (claim_item 6 c (setup_for c) found (frame_bits (setup_for c)))
    else noted v (claim_item 6 c (setup_for c) found found)

abbrev pub tried_drop : View → Claim → ℕ → View
tried_drop v c found =
    if found == frame_bits (setup_for c)
    then dropped v c (claim_item 7 c (waiting_for c) found (frame_bits (waiting_for c)))
    else noted v (claim_item 7 c (waiting_for c) found found)

-- ---- the kinds, with their operands

-- splits off a numbered seat, makes a note, takes in the note with that number; settles looks at the journal's word,
-- after which what was told counts
pub data Kind : Type 0 where
  loads : ℕ → Kind
  takes_burst : ℕ → ℕ → Kind
  gives_burst : ℕ → ℕ → Kind
  retracts_burst : ℕ → ℕ → Kind
  takes_limit : ℕ → Kind
  gives_limit : ℕ → Kind
  retracts_limit : ℕ → Kind
  takes_host : ℕ → ℕ → ℕ → ℕ → Kind
  gives_host : ℕ → ℕ → ℕ → Kind
  claims : Claim → Kind
  drops : Claim → Kind
  settles : Kind
  splits : Kind
  notes : Kind
  joins : ℕ → Kind

-- the word of the step: the journal's for those that touch no other
abbrev pub place : Kind → ℕ
place (loads word) = word
place (takes_burst sub cores) = sub_place sub
place (gives_burst sub cores) = sub_place sub
place (retracts_burst sub cores) = sub_place sub
place (takes_limit limit) = limit_place limit
place (gives_limit limit) = limit_place limit
place (retracts_limit limit) = limit_place limit
place (takes_host host cores memory expected) = host_place host
place (gives_host host cores memory) = host_place host
place (claims c) = frame_place c.slot
place (drops c) = frame_place c.slot
place settles = 0
place splits = 0
place notes = 0
place (joins other) = 0

-- what the found word becomes; it stays where an exchange didn't find the expected one
abbrev pub wrote : Kind → ℕ → ℕ
wrote (loads word) found = found
wrote (takes_burst sub cores) found = found + cores
wrote (gives_burst sub cores) found = found - cores
wrote (retracts_burst sub cores) found = found - cores
wrote (takes_limit limit) found = found + 1
wrote (gives_limit limit) found = found - 1
wrote (retracts_limit limit) found = found - 1
wrote (takes_host host cores memory expected) found = if found == expected then host_less expected cores memory else found
wrote (gives_host host cores memory) found = found + host_amounts cores memory
wrote (claims c) found = if found == frame_bits (waiting_for c) then frame_bits (setup_for c) else found
wrote (drops c) found = if found == frame_bits (setup_for c) then frame_bits (waiting_for c) else found
wrote settles found = found
wrote splits found = found
wrote notes found = found
wrote (joins other) found = found
