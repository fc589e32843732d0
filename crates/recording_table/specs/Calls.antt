-- What a call asks and answers, with what the recorder's seat knows after it.
use Rattle.std.specs.Prelude.{◌≡◌, ◌≢◌, ℕ, ◌==◌, if◌then◌else◌, Some, None, Result, Ok, Err}
use Rattle.frame_words.specs.Bits.{frame_bits}
use Rattle.booking_rule.specs.declared.hold.Claim.{Claim}
use Rattle.booking_rule.specs.declared.view.View.{View}
use Rattle.booking_rule.specs.Views.{noted, confirmed}
use Rattle.booking_core.specs.Kinds.{setup_for, claim_item}
use Rattle.recording_core.specs.Records.{running_for, left_word, ended_word, turned_word}
use Rattle.recording_core.specs.Machine.{MayChange, IsDue, HasItsAmounts}

-- ---- a slot

-- its word has still to become this one, and a frame that comes to it has its amounts there
abbrev pub MayChangeSlot : View → ℕ → ℕ → Type 0
MayChangeSlot v slot bits = MayChange v × IsDue v slot bits × HasItsAmounts v slot

-- what the seat knows once the word became this one, by the phase that was recorded
abbrev pub changed_word : ℕ → View → ℕ → ℕ → ℕ → View
changed_word phase v slot bits found =
    if phase == 1 then left_word v slot bits found else (if phase == 4 then ended_word v slot bits found else turned_word v slot bits found)

-- ---- a claim

-- the word was the claim's, and runs ahead; or another one was found
abbrev pub IsConfirmed : View → Claim → Result (Unit {0}) ℕ → View → Type 0
IsConfirmed v c (Ok _) w = w ≡ confirmed v (Some c.slot) c.host (claim_item 10 c (running_for c) (frame_bits (setup_for c)) (frame_bits (running_for c)))
IsConfirmed v c (Err found) w = (found ≢ frame_bits (setup_for c)) × (w ≡ noted v (claim_item 10 c (running_for c) found found))

-- what the seat knows once the word that ran ahead is the claim's again
abbrev pub withdrawn : View → Claim → View
withdrawn v c = confirmed v None c.host (claim_item 10 c (setup_for c) (frame_bits (running_for c)) (frame_bits (setup_for c)))
