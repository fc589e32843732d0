-- The kinds of the recorder's steps: which word each changes, what the word becomes, and what the recorder's seat knows then.
use Rattle.std.specs.Prelude.{ℕ, ◌+◌, ◌-◌, ◌*◌, ◌%◌, ◌^◌, ◌==◌, if◌then◌else◌, [], ◌∷◌, Option, Some, None}
use Rattle.farm_types.specs.declared.entry.Entry.{Entry}
use Rattle.farm_types.specs.Farm.{Farm}
use Rattle.frame_words.specs.declared.amount_word.AmountWord.{AmountWord}
use Rattle.frame_words.specs.declared.frame_word.FrameWord.{FrameWord}
use Rattle.frame_words.specs.Bits.{frame_of, frame_bits, pair_bits}
use Rattle.booking_rule.specs.declared.desk.Desk.{Desk}
use Rattle.booking_rule.specs.declared.hold.Claim.{Claim}
use Rattle.booking_rule.specs.declared.noted.Noted.{Noted}
use Rattle.booking_rule.specs.declared.view.View.{View}
use Rattle.booking_rule.specs.Words.{frame_place, amount_place, host_place, sub_place, limit_place}
use Rattle.booking_rule.specs.Recorded.{Stand, Recorded}
use Rattle.booking_rule.specs.Link.{opening_of, recorded_in}
use Rattle.booking_rule.specs.Rule.{is_booked, claim_in}
use Rattle.booking_rule.specs.Views.{same_claim, without, noted, turned, freed, burst_set, most_set, size_set, confirmed, recorded}
use Rattle.booking_rule.specs.Splits.{look_at}
use Rattle.booking_rule.specs.Kept.{no_desk}
use Rattle.booking_core.specs.Kinds.{item_of, host_amounts, setup_for, claim_item}

-- ---- what the recorder's seat knows of the words

abbrev pub desk_in : Option Desk → Desk
desk_in None = no_desk
desk_in (Some d) = d

-- what the words have to show, by the seat's own view
abbrev pub records_in : View → Recorded
records_in v = recorded_in v.opening v.journal (desk_in v.desk)

-- the amount word of a slot with a frame
abbrev pub amounts_of : Stand → AmountWord
amounts_of s = record { show = s.show; limit = s.limit; memory = s.memory }

-- the claim that a booked word of the slot is of
abbrev pub claim_by : Recorded → ℕ → FrameWord → Claim
claim_by R slot f = claim_in R.alloc slot f (amounts_of (R.slot slot))

-- ---- the recorder begins to place a farm: no word was changed yet. It looks at the journal's word, which is 0

abbrev pub desk_opened : Option Desk → Option Desk
desk_opened None = None
desk_opened (Some d) = Some (record d { before = None; slots = []; hosts = []; subs = []; limits = [] })

abbrev pub with_opening : View → Farm → View
with_opening v f = record v { desk = desk_opened v.desk; opening = opening_of f }

abbrev pub opened : View → Farm → ℕ → View
opened v f found = with_opening (noted v (look_at 0 found)) f

-- .. and is done with it: nothing is left to do, and from now on each word shows the farm. It looks at the journal's word again

abbrev pub desk_closed : Option Desk → Option Desk
desk_closed None = None
desk_closed (Some d) = Some (record d { before = Some []; slots = []; hosts = []; subs = []; limits = [] })

abbrev pub with_closing : View → View
with_closing v = record v { desk = desk_closed v.desk }

abbrev pub closed : View → ℕ → View
closed v found = with_closing (noted v (look_at 0 found))

-- ---- an entry: 1 is added to the journal's word

abbrev pub entry_item : ℕ → Noted
entry_item found = item_of 9 0 1 found (found + 1)

abbrev pub entered : View → Entry → ℕ → View
entered v e found = recorded v e (entry_item found)

-- of a booking: its slot's word shows the farm already and runs ahead no more, and the claim is used up
abbrev pub desk_booked : ℕ → Option Desk → Option Desk
desk_booked slot None = None
desk_booked slot (Some d) = Some (record d { slots = slot ∷ []; pending = None })

abbrev pub with_booking : View → Claim → View
with_booking v c = record v { desk = desk_booked c.slot v.desk; claims = without same_claim c v.claims }

abbrev pub booked : View → Claim → Entry → ℕ → View
booked v c e found = with_booking (entered v e found) c

-- ---- a claim runs ahead of its booking by an exchange from SETUP to RUNNING, and comes back by another

abbrev pub running_for : Claim → FrameWord
running_for c = record { phase = 4; version = c.version; host = c.host; cores = c.cores }

abbrev pub tried_confirm : View → Claim → ℕ → View
tried_confirm v c found =
    if found == frame_bits (setup_for c)
    then confirmed v (Some c.slot) c.host (claim_item 10 c (running_for c) found (frame_bits (running_for c)))
    else noted v (claim_item 10 c (running_for c) found found)

abbrev pub tried_withdraw : View → Claim → ℕ → View
tried_withdraw v c found =
    if found == frame_bits (running_for c)
    then confirmed v None c.host (claim_item 10 c (setup_for c) found (frame_bits (setup_for c)))
    else noted v (claim_item 10 c (setup_for c) found found)

-- ---- a slot's word becomes the farm's, whatever it was: what a booked one booked is then held

abbrev pub turn_item : ℕ → ℕ → ℕ → ℕ → Noted
turn_item did slot word found = item_of did (frame_place slot) word found word

abbrev pub freed_by : View → ℕ → Noted → View
freed_by v slot item = freed v slot (claim_by (records_in v) slot (frame_of item.found)) item

-- of a waiting frame, which a seat may have claimed
abbrev pub left_word : View → ℕ → ℕ → ℕ → View
left_word v slot word found =
    if is_booked (frame_of found).phase then freed_by v slot (turn_item 11 slot word found) else turned v slot (turn_item 11 slot word found)

-- of a running one
abbrev pub ended_word : View → ℕ → ℕ → ℕ → View
ended_word v slot word found = freed_by v slot (turn_item 12 slot word found)

-- of any other, and of a free slot
abbrev pub turned_word : View → ℕ → ℕ → ℕ → View
turned_word v slot word found = turned v slot (turn_item 13 slot word found)

-- ---- a free slot's amount word is written

abbrev pub wrote_amount : View → ℕ → ℕ → ℕ → View
wrote_amount v slot word found = noted v (item_of 14 (amount_place slot) word found word)

-- ---- a subscription's burst and a limit's most: the difference is added to the word's upper half, or taken off

abbrev pub raised : ℕ → ℕ → ℕ → ℕ
raised old new found = found + new * 2 ^ 32 - old * 2 ^ 32

-- the difference as a word
abbrev pub raise_by : ℕ → ℕ → ℕ
raise_by old new = (new * 2 ^ 32 + (2 ^ 64 - old * 2 ^ 32)) % 2 ^ 64

abbrev pub raised_burst : View → ℕ → ℕ → ℕ → ℕ → View
raised_burst v sub old new found = burst_set v sub (item_of 15 (sub_place sub) (raise_by old new) found (raised old new found))

abbrev pub raised_most : View → ℕ → ℕ → ℕ → ℕ → View
raised_most v limit old new found = most_set v limit (item_of 20 (limit_place limit) (raise_by old new) found (raised old new found))

-- ---- a host's size is added to its word, and the recorder's seat's room there goes

abbrev pub sized : View → ℕ → ℕ → ℕ → ℕ → View
sized v host cores memory found = size_set v host (item_of 16 (host_place host) (host_amounts cores memory) found (found + host_amounts cores memory))

-- ---- a subscription's burst, or a limit's most, and what running frames use of it come to a word that is 0

abbrev pub cap_and_used : ℕ → ℕ → ℕ
cap_and_used cap used = pair_bits (cap, used)

abbrev pub placed_burst : View → ℕ → ℕ → ℕ → ℕ → View
placed_burst v sub burst booked found = burst_set v sub (item_of 15 (sub_place sub) (cap_and_used burst booked) found (found + cap_and_used burst booked))

abbrev pub placed_most : View → ℕ → ℕ → ℕ → ℕ → View
placed_most v limit most running found = most_set v limit (item_of 20 (limit_place limit) (cap_and_used most running) found (found + cap_and_used most running))

-- ---- the kinds, with their operands

pub data RecorderKind : Type 0 where
  opens : Farm → RecorderKind
  closes : RecorderKind
  records : Entry → RecorderKind
  books : Claim → Entry → RecorderKind
  confirms : Claim → RecorderKind
  withdraws : Claim → RecorderKind
  leaves : ℕ → ℕ → RecorderKind
  ends : ℕ → ℕ → RecorderKind
  turns : ℕ → ℕ → RecorderKind
  sets_amount : ℕ → ℕ → RecorderKind
  sets_burst : ℕ → ℕ → ℕ → RecorderKind
  sets_most : ℕ → ℕ → ℕ → RecorderKind
  sets_size : ℕ → ℕ → ℕ → RecorderKind
  places : ℕ → ℕ → RecorderKind
  places_size : ℕ → ℕ → ℕ → RecorderKind
  places_burst : ℕ → ℕ → ℕ → RecorderKind
  places_most : ℕ → ℕ → ℕ → RecorderKind

-- the word of the step
abbrev pub place : RecorderKind → ℕ
place (opens f) = 0
place closes = 0
place (records e) = 0
place (books c e) = 0
place (confirms c) = frame_place c.slot
place (withdraws c) = frame_place c.slot
place (leaves slot word) = frame_place slot
place (ends slot word) = frame_place slot
place (turns slot word) = frame_place slot
place (sets_amount slot word) = amount_place slot
place (sets_burst sub old new) = sub_place sub
place (sets_most limit old new) = limit_place limit
place (sets_size host cores memory) = host_place host
place (places slot word) = frame_place slot
place (places_size host cores memory) = host_place host
place (places_burst sub burst booked) = sub_place sub
place (places_most limit most running) = limit_place limit

-- what the found word becomes; it stays where an exchange didn't find the expected one
abbrev pub wrote : RecorderKind → ℕ → ℕ
wrote (opens f) found = found
wrote closes found = found
wrote (records e) found = found + 1
wrote (books c e) found = found + 1
wrote (confirms c) found = if found == frame_bits (setup_for c) then frame_bits (running_for c) else found
wrote (withdraws c) found = if found == frame_bits (running_for c) then frame_bits (setup_for c) else found
wrote (leaves slot word) found = word
wrote (ends slot word) found = word
wrote (turns slot word) found = word
wrote (sets_amount slot word) found = word
wrote (sets_burst sub old new) found = raised old new found
wrote (sets_most limit old new) found = raised old new found
wrote (sets_size host cores memory) found = found + host_amounts cores memory
wrote (places slot word) found = word
wrote (places_size host cores memory) found = found + host_amounts cores memory
wrote (places_burst sub burst booked) found = found + cap_and_used burst booked
wrote (places_most limit most running) found = found + cap_and_used most running

-- what the seat knows, once it found the word
abbrev pub knows : View → RecorderKind → ℕ → View
knows v (opens f) found = opened v f found
knows v closes found = closed v found
knows v (records e) found = entered v e found
knows v (books c e) found = booked v c e found
knows v (confirms c) found = tried_confirm v c found
knows v (withdraws c) found = tried_withdraw v c found
knows v (leaves slot word) found = left_word v slot word found
knows v (ends slot word) found = ended_word v slot word found
knows v (turns slot word) found = turned_word v slot word found
knows v (sets_amount slot word) found = wrote_amount v slot word found
knows v (sets_burst sub old new) found = raised_burst v sub old new found
knows v (sets_most limit old new) found = raised_most v limit old new found
knows v (sets_size host cores memory) found = sized v host cores memory found
knows v (places slot word) found = turned_word v slot word found
knows v (places_size host cores memory) found = sized v host cores memory found
knows v (places_burst sub burst booked) found = placed_burst v sub burst booked found
knows v (places_most limit most running) found = placed_most v limit most running found
