-- The amounts of slots that aren't free are a layer's.
use Rattle.std.specs.Prelude.{◌≡◌, ◌⊎◌, ℕ, ◌<◌, ◌==◌, ◌&&◌, ◌||◌, Bool, true, false, not, List, [], ◌∷◌}
use mathlib.Core.Option.{some}
use lib.ListN.{get_elem?}
use Rattle.farm_types.specs.Limits.{IsBetween}
use Rattle.farm_types.specs.declared.limits.TheConstants.{LEAST_CORES, LEAST_MEMORY, MOST_CORES, MOST_MEMORY}
use Rattle.frame_words.specs.declared.frame_word.FrameWord.{FrameWord}
use Rattle.frame_words.specs.declared.amount_word.AmountWord.{AmountWord}
use Rattle.frame_words.specs.Bits.{frame_of}
use Rattle.booking_rule.specs.declared.noted.Noted.{Noted}
use Rattle.booking_rule.specs.declared.view.View.{View}
use Rattle.booking_rule.specs.Words.{frame_place}

-- the slot's frame word was found, and wasn't FREE
abbrev pub found_used : ℕ → List Noted → Bool
found_used slot [] = false
found_used slot (n ∷ ns) = (n.word == frame_place slot && not ((frame_of n.found).phase == 0)) || found_used slot ns

abbrev pub IsFoundUsed : ℕ → List View → Type 0
IsFoundUsed slot views = (id : ℕ) × (v : View) × (get_elem? views id ≡ some v) × (found_used slot v.trail ≡ true)

pub record Ranged (frame : ℕ → FrameWord) (amount : ℕ → AmountWord) (views : List View) : Type 0 where
  pub cores : (slot : ℕ) → slot < 65536 → ((frame slot).phase == 0) ≡ false → IsBetween LEAST_CORES MOST_CORES (frame slot).cores
  pub memory : (slot : ℕ) → slot < 65536 → (((frame slot).phase == 0) ≡ false) ⊎ IsFoundUsed slot views
      → IsBetween LEAST_MEMORY MOST_MEMORY (amount slot).memory
