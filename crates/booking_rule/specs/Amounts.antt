-- Amount words that the recorder wrote.
use Rattle.std.specs.Prelude.{◌≡◌, ℕ, ◌<◌, ◌==◌, ◌&&◌, if◌then◌else◌, List, [], ◌∷◌, Option, Some, None}
use Rattle.frame_words.specs.declared.amount_word.AmountWord.{AmountWord}
use Rattle.frame_words.specs.Bits.{amount_of}
use Rattle.booking_rule.specs.declared.noted.Noted.{Noted}
use Rattle.booking_rule.specs.Words.{amount_place}

-- what the step wrote as the slot's amount word, if it did
abbrev pub wrote_by : ℕ → Noted → Option ℕ
wrote_by slot n = if n.did == 14 && (n.word == amount_place slot) then Some n.wrote else None

abbrev pub later_of : Option ℕ → Option ℕ → Option ℕ
later_of None earlier = earlier
later_of (Some word) earlier = Some word

-- what a trail wrote last as the slot's amount word
abbrev pub last_amount : ℕ → List Noted → Option ℕ
last_amount slot [] = None
last_amount slot (n ∷ ns) = later_of (last_amount slot ns) (wrote_by slot n)

abbrev pub IsWritten : AmountWord → Option ℕ → Type 0
IsWritten a None = Unit {0}
IsWritten a (Some word) = a ≡ amount_of word

pub record Written (amount : ℕ → AmountWord) (trail : List Noted) : Type 0 where
  pub each : (slot : ℕ) → slot < 65536 → IsWritten (amount slot) (last_amount slot trail)
