-- What the recorder's seat knows after an entry was recorded, or wasn't.
use Rattle.std.specs.Prelude.{◌≡◌, ℕ, ◌+◌, ◌<◌, ◌^◌, List, [], ◌∷◌, ◌++◌, length, Option, Some, None, Result, Ok, Err}
use mathlib.Core.List.{IsPrefix}
use Rattle.farm_types.specs.declared.entry.Entry.{Entry}
use Rattle.farm_types.specs.Farm.{Farm}
use Rattle.farm_types.specs.Kept.{IsKeptFarm}
use Rattle.farm_types.specs.Run.{IsLegalStep}
use Rattle.farm_types.specs.Step.{after}
use Rattle.frame_words.specs.declared.host_word.HostWord.{HostWord}
use Rattle.booking_rule.specs.declared.view.View.{View}
use Rattle.booking_rule.specs.Kept.{farm_in}
use Rattle.recording_core.specs.Machine.{IsBooking, MayResize}
use Rattle.farm_stands.specs.declared.turn.Turn.{Turn}
use Rattle.farm_stands.specs.Turns.{Covers}
use Rattle.recording_turns.specs.Owing.{AreOn, Resizes}
use Rattle.recording_turns.specs.Resting.{IsAtRest, IsSettled, split_in}
use Rattle.recording_turns.specs.Sizes.{HasSize, IsStillHeld}

-- ---- an entry

-- nothing more is recorded: only the desk's own lists may be others, and the trail grew
pub record Stays (v w : View) : Type 0 where
  pub like : w ≡ record v { desk = w.desk; trail = w.trail }
  pub split : split_in w.desk ≡ split_in v.desk
  pub trail : IsPrefix v.trail w.trail

-- the journal has exactly the entry more, and the receipts exactly its place
pub record Entered (v : View) (e : Entry) (w : View) : Type 0 where
  pub like : w ≡ record v { desk = w.desk; journal = v.journal ++ e ∷ []; trail = w.trail; receipts = v.receipts ++ length v.journal ∷ [] }
  pub split : split_in w.desk ≡ split_in v.desk
  pub trail : IsPrefix v.trail w.trail

-- the entry was recorded, or nothing was
abbrev pub Enters : {T E : Type 0} → View → Entry → Result T E → View → Type 0
Enters v e (Ok _) w = Entered v e w
Enters v e (Err _) w = Stays v w

-- ---- room on a host that an entry gives another size

-- all that is free there was taken; where no host gets another size nothing was
abbrev pub HasRoom : View → Option ℕ → HostWord → View → Type 0
HasRoom v None room w = w ≡ v
HasRoom v (Some host) room w = HasSize v host room w

-- other amounts were free there than its size less what its frames use
abbrev pub IsHeldOn : View → Farm → Option ℕ → HostWord → View → Type 0
IsHeldOn v f None found w = ⊥
IsHeldOn v f (Some host) found w = IsStillHeld v f host found w

-- the seat was at rest before
abbrev pub HadRoom : Option ℕ → HostWord → View → Type 0
HadRoom resized room w = (v : View) × IsAtRest v × HasRoom v resized room w

-- some entry gives it another size
abbrev pub ResizesIn : Farm → Option ℕ → Type 0
ResizesIn f resized = (g : Farm) × Resizes f g resized

abbrev pub ResizesSome : Option ℕ → Type 0
ResizesSome resized = (f : Farm) × ResizesIn f resized

-- ---- just before an entry is recorded

-- a legal entry, which is no booking, may be recorded; it makes the farm g. The turns cover it, and the seat has room on the host that it resizes, and
-- holds nothing else
pub record IsReadyFor (v : View) (e : Entry) (g : Farm) (ts : List Turn) (resized : Option ℕ) : Type 0 where
  pub settled : IsSettled v
  pub takes : v.takes ≡ []
  pub limits : v.limits ≡ []
  pub rooms : AreOn resized v.rooms
  pub claims : v.claims ≡ []
  pub burst : v.ungranted ≡ None
  pub place : v.ungranted_limit ≡ None
  pub kept : IsKeptFarm (farm_in v)
  pub legal : IsLegalStep (farm_in v) e
  pub unbooked : IsBooking e.act → ⊥
  pub counted : length v.journal + 1 < 2 ^ 64
  pub leads : after (farm_in v) e ≡ g
  pub covers : Covers (farm_in v) g ts
  pub resizes : Resizes (farm_in v) g resized
  pub sizes : MayResize v e
