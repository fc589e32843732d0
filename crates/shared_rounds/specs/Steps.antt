-- The steps of one candidate up to its claim: what each of them found, and what the seat of the pass knows then.
use Rattle.std.specs.Prelude.{◌≡◌, ◌⊎◌, ℕ, ◌+◌, Option, None, Some}
use Rattle.farm_types.specs.declared.dispatch.Candidate.{Candidate}
use Rattle.frame_words.specs.Bits.{frame_bits}
use Rattle.booking_rule.specs.declared.view.View.{View}
use Rattle.booking_core.specs.Kinds.{gave_burst}
use Rattle.booking_table.specs.declared.claiming.Taken.{Taken}
use Rattle.booking_table.specs.declared.holds.BurstHold.{BurstHold}
use Rattle.booking_table.specs.declared.holds.Claim.{Claim}
use Rattle.booking_table.specs.declared.holds.Hold.{Hold}
use Rattle.booking_table.specs.declared.seen.Seen.{Seen}
use Rattle.booking_table.specs.Calls.{IsBurstFull, IsBurstTaken, IsClaimed, IsLimitFull, IsLimitTaken, IsRoomTaken, IsShort, IsTaken, hold_given, looked, place_given, seen_of}
use Rattle.booking_table.specs.Holds.{burst_hold}
use Rattle.shared_bot.specs.booking_recorder.specs.declared.book_result.BookResult.{BookResult}
use Rattle.shared_bot.specs.booking_recorder.specs.declared.book_result.BookResult.TheVariants as came
use Rattle.shared_bot.specs.booking_recorder.specs.Alone.{burst_for, hold_for}

-- ---- up to the claim

-- a look saw this in the candidate's slot
abbrev pub Saw : Candidate → View → Seen → View → Type 0
Saw c v seen w = (frame amount : ℕ) × (seen ≡ seen_of c.slot frame amount) × (w ≡ looked v c.slot frame amount)

-- the frame waits, at the candidate's version
abbrev pub Waits : Candidate → Seen → Type 0
Waits c seen = (seen.phase ≡ 1) × (seen.version ≡ c.version)

abbrev pub HasSeen : Candidate → View → Seen → View → Type 0
HasSeen c v seen w = Saw c v seen w × Waits c seen

-- then the layer's cores were taken of the subscription
abbrev pub HasCores : Candidate → View → Seen → View → Type 0
HasCores c v seen w = (u : View) × HasSeen c v seen u × IsBurstTaken u c.sub seen.cores w

-- then a place in the layer's limit, where it has one
abbrev pub TakesPlace : View → Option ℕ → View → Type 0
TakesPlace v None w = w ≡ v
TakesPlace v (Some limit) w = IsLimitTaken v limit w

abbrev pub HasPlace : Candidate → View → Seen → View → Type 0
HasPlace c v seen w = (u : View) × HasCores c v seen u × TakesPlace u seen.limit w

-- then room on the host
abbrev pub HasRoom : Candidate → View → Seen → View → Type 0
HasRoom c v seen w = (u : View) × HasPlace c v seen u × IsRoomTaken u c.host seen.cores seen.memory w

-- then the frame, with all of that
abbrev pub held_for : Candidate → Seen → Hold
held_for c seen = hold_for c.sub c.host seen

abbrev pub claim_for : Candidate → Seen → Claim
claim_for c seen = record { slot = c.slot; version = seen.version + 1; hold = held_for c seen }

abbrev pub HasFrame : Candidate → View → Seen → View → Type 0
HasFrame c v seen w = (u : View) × HasRoom c v seen u × IsClaimed u (claim_for c seen) w

-- ---- what was held goes back

abbrev pub GivesBurst : View → BurstHold → View → Type 0
GivesBurst v b w = (place found : ℕ) × (w ≡ gave_burst (place_given v b.limit place) b.sub b.cores found)

abbrev pub GivesAll : View → Hold → View → Type 0
GivesAll v h w = (room place found : ℕ) × (w ≡ hold_given v h room place found)

-- ---- a step that was lost, after which nothing is held any more

-- the word of what was seen, with host 0
abbrev pub word_of : Seen → ℕ
word_of seen = frame_bits (record { phase = seen.phase; version = seen.version; host = 0; cores = seen.cores })

-- the look saw another phase or version
abbrev pub SawOther : Candidate → View → ℕ → View → Type 0
SawOther c v found w = (seen : Seen) × Saw c v seen w × (Waits c seen → ⊥) × (found ≡ word_of seen)

-- the exchange of the claim found another word
abbrev pub LostFrame : Candidate → View → ℕ → View → Type 0
LostFrame c v found w =
    (seen : Seen) × (u back : View) × (taken : Taken) × HasRoom c v seen u × IsTaken u (claim_for c seen) taken back × (found ≡ taken.found)
    × GivesAll back (held_for c seen) w

-- by what was lost: the frame, the subscription's burst, the place in the limit, or the host's room
abbrev pub IsLost : Candidate → View → BookResult → View → Type 0
IsLost c v (came.Taken found) w = SawOther c v found w ⊎ LostFrame c v found w
IsLost c v (came.Burst why) w = (seen : Seen) × (u : View) × HasSeen c v seen u × IsBurstFull u c.sub seen.cores why w
IsLost c v (came.Limit why) w =
    (seen : Seen) × (limit : ℕ) × (u back : View) × HasCores c v seen u × (seen.limit ≡ Some limit) × IsLimitFull u limit why back
    × GivesBurst back (burst_hold c.sub seen.cores) w
IsLost c v (came.Host why) w =
    (seen : Seen) × (u back : View) × HasPlace c v seen u × IsShort u c.host seen.cores seen.memory why back × GivesBurst back (burst_for c.sub seen) w
IsLost c v (came.Booked row) w = ⊥
IsLost c v (came.Confirm why) w = ⊥
