-- What seats saw of waiting frames.
use Rattle.std.specs.Prelude.{◌≡◌, ◌⊎◌, ℕ, ◌+◌, ◌-◌, ◌≤◌, ◌==◌, ◌&&◌, Bool, true, if◌then◌else◌, nat_le, nat_lt, List, [], ◌∷◌, Option, Some, None}
use mathlib.Core.Option.{some}
use lib.ListN.{get_elem?}
use Rattle.frame_words.specs.declared.amount_word.AmountWord.{AmountWord}
use Rattle.frame_words.specs.Bits.{frame_of, amount_of}
use Rattle.booking_rule.specs.declared.noted.Noted.{Noted}
use Rattle.booking_rule.specs.declared.view.View.{View}
use Rattle.booking_rule.specs.Recorded.{Stand}
use Rattle.booking_rule.specs.Rule.{SameAmounts}

-- a frame word that was found WAITING, with the amount word that was loaded after it
pub record Look : Type 0 where
  pub slot : ℕ
  pub version : ℕ
  pub cores : ℕ
  pub amount : Option AmountWord

abbrev pub AgreesWith : Stand → Option AmountWord → Type 0
AgreesWith s None = Unit {0}
AgreesWith s (Some a) = SameAmounts s a

-- while the slot's recorded version is the one that was seen, the recorded frame waits, with what was seen
pub record StillStands (s : Stand) (l : Look) : Type 0 where
  pub waits : s.phase ≡ 1
  pub cores : s.cores ≡ l.cores
  pub amount : AgreesWith s l.amount

pub record Stands (stand : ℕ → Stand) (l : Look) : Type 0 where
  pub not_later : l.version ≤ (stand l.slot).version
  pub still : (stand l.slot).version ≡ l.version → StillStands (stand l.slot) l

-- ---- what a trail says

-- it found a frame word WAITING, below the last version
abbrev pub is_look : Noted → Bool
is_look n = nat_le 1 n.word && (nat_le n.word 65536 && ((frame_of n.found).phase == 1 && nat_lt (frame_of n.found).version 16777215))

-- the slot's amount word, where the next step loaded it
abbrev pub amount_after : ℕ → Option Noted → Option AmountWord
amount_after word None = None
amount_after word (Some m) = if m.did == 1 && (m.word == word + 65536) then Some (amount_of m.found) else None

abbrev pub look_of : Noted → Option Noted → Look
look_of n m =
    record {
      slot = n.word - 1;
      version = (frame_of n.found).version;
      cores = (frame_of n.found).cores;
      amount = amount_after n.word m;
    }

-- what was found stands, with what the next step found
abbrev pub Saw : (ℕ → Stand) → Noted → Option Noted → Type 0
Saw stand n m = is_look n ≡ true → Stands stand (look_of n m)

abbrev pub first_of : List Noted → Option Noted
first_of [] = None
first_of (n ∷ ns) = Some n

-- everything stands that a trail has of waiting frames
abbrev pub AllStand : (ℕ → Stand) → List Noted → Type 0
AllStand stand [] = Unit {0}
AllStand stand (n ∷ ns) = Saw stand n (first_of ns) × AllStand stand ns

-- the trail has that look
abbrev pub HasLook : List Noted → Look → Type 0
HasLook [] l = ⊥
HasLook (n ∷ ns) l = ((is_look n ≡ true) × (look_of n (first_of ns) ≡ l)) ⊎ HasLook ns l

pub record Looks (stand : ℕ → Stand) (views : List View) : Type 0 where
  pub each : (id : ℕ) (v : View) → get_elem? views id ≡ some v → AllStand stand v.trail
