-- The words of rows that change, with what the farm before says of them.
use Rattle.std.specs.Prelude.{◌≡◌, ◌⊎◌, ℕ, ◌<◌, ◌==◌, ◌&&◌, ◌||◌, Bool, false, true, List, [], ◌∷◌, Option, Some, None, if◌then◌else◌, slice_get}
use Rattle.farm_types.specs.Farm.{Farm}
use Rattle.farm_types.specs.declared.rows.HostRow.{HostRow}
use Rattle.farm_types.specs.declared.limits.TheConstants.{MOST_HOSTS, MOST_LIMITS, SLOT_LIMIT, SUB_NUMBERS}
use Rattle.farm_rows.specs.Changes.{is_key, row_key}
use Rattle.farm_rows.specs.declared.farm_row.FarmRow.{FarmRow}
use Rattle.farm_rows.specs.declared.farm_row.FarmRow.TheVariants as row
use Rattle.farm_rows.specs.declared.row_change.RowChange.{RowChange}
use Rattle.farm_rows.specs.declared.row_change.RowChange.TheVariants as change
use Rattle.farm_rows.specs.declared.row_key.RowKey.{RowKey}
use Rattle.farm_rows.specs.declared.row_key.RowKey.TheVariants as key
use Rattle.frame_words.specs.declared.amount_word.AmountWord.{AmountWord}
use Rattle.booking_rule.specs.declared.desk.Desk.{Desk}
use Rattle.booking_rule.specs.Link.{burst_at, has, host_alloc, host_cores, host_memory, most_at, stand_at}
use Rattle.booking_rule.specs.Recorded.{Stand}
use Rattle.booking_rule.specs.Rule.{word_of}
use Rattle.farm_stands.specs.declared.bounds.HostSize.{HostSize}
use Rattle.farm_stands.specs.declared.words.SlotWords.{SlotWords}
use Rattle.farm_stands.specs.declared.turn.Turn.{Turn}
use Rattle.farm_stands.specs.declared.turn.Turn.TheVariants as turn

-- ---- what a farm says

-- a slot's second word
abbrev pub amounts_in : Stand → AmountWord
amounts_in s = record { show = s.show; limit = s.limit; memory = s.memory }

abbrev pub words_in : Stand → SlotWords
words_in s = record { frame = word_of s; amount = amounts_in s }

abbrev pub size_at : Farm → ℕ → HostSize
size_at f host = record { cores = host_cores f host; memory = host_memory f host; alloc = host_alloc f host }

abbrev pub slot_turn : Farm → ℕ → Turn
slot_turn f slot = turn.Slot slot (word_of (stand_at f slot)) (amounts_in (stand_at f slot))

-- what the farm says of the words of a row: none where the row has no words
abbrev pub turn_of : Farm → RowKey → Option Turn
turn_of f (key.Frame slot) = Some (slot_turn f slot)
turn_of f (key.Host host) = Some (turn.Host host (size_at f host))
turn_of f (key.Sub sub) = Some (turn.Sub sub (burst_at f sub))
turn_of f (key.Limit limit) = Some (turn.Limit limit (most_at f limit))
turn_of f other = None

-- ---- the turns of changes

-- the row says the size and the allocation that the farm says of the host
abbrev pub keeps_size : Farm → ℕ → HostRow → Bool
keeps_size f host r = host_cores f host == r.cores && (host_memory f host == r.memory && host_alloc f host == r.alloc)

abbrev pub host_turn : Farm → ℕ → HostRow → Option Turn
host_turn f host r = if keeps_size f host r then None else Some (turn.Host host (size_at f host))

abbrev pub row_turn : Farm → FarmRow → Option Turn
row_turn f (row.Host host r) = host_turn f host r
row_turn f other = turn_of f (row_key other)

-- of one change: none where the row has no words, or is of a host that keeps its size and its allocation
abbrev pub turn_for : Farm → RowChange → Option Turn
turn_for f (change.Put r) = row_turn f r
turn_for f (change.Delete gone) = turn_of f gone

abbrev pub with_turn : Option Turn → List Turn → List Turn
with_turn None ts = ts
with_turn (Some t) ts = t ∷ ts

abbrev pub turns_of : Farm → List RowChange → List Turn
turns_of f [] = []
turns_of f (c ∷ cs) = with_turn (turn_for f c) (turns_of f cs)

-- the row whose words a turn is of
abbrev pub turn_key : Turn → RowKey
turn_key (turn.Slot slot frame amount) = key.Frame slot
turn_key (turn.Host host size) = key.Host host
turn_key (turn.Sub sub burst) = key.Sub sub
turn_key (turn.Limit limit most) = key.Limit limit

abbrev pub has_turn : List Turn → RowKey → Bool
has_turn [] k = false
has_turn (t ∷ ts) k = is_key (turn_key t) k || has_turn ts k

-- the farm says this of the turn's words
abbrev pub Says : Farm → Turn → Type 0
Says f (turn.Slot slot frame amount) = (frame ≡ word_of (stand_at f slot)) × (amount ≡ amounts_in (stand_at f slot))
Says f (turn.Host host size) = size ≡ size_at f host
Says f (turn.Sub sub burst) = burst ≡ burst_at f sub
Says f (turn.Limit limit most) = most ≡ most_at f limit

-- the turn's words stand in the table
abbrev pub IsInTable : Turn → Type 0
IsInTable (turn.Slot slot frame amount) = slot < SLOT_LIMIT
IsInTable (turn.Host host size) = host < MOST_HOSTS
IsInTable (turn.Sub sub burst) = sub < SUB_NUMBERS
IsInTable (turn.Limit limit most) = limit < MOST_LIMITS

-- what no turn names is the same in both farms; each turn says what the farm before says, of words of the table, and none is named twice
pub record Covers (f g : Farm) (ts : List Turn) : Type 0 where
  pub slot : (n : ℕ) → has_turn ts (key.Frame n) ≡ false → stand_at g n ≡ stand_at f n
  pub cores : (n : ℕ) → has_turn ts (key.Host n) ≡ false → host_cores g n ≡ host_cores f n
  pub memory : (n : ℕ) → has_turn ts (key.Host n) ≡ false → host_memory g n ≡ host_memory f n
  pub alloc : (n : ℕ) → has_turn ts (key.Host n) ≡ false → host_alloc g n ≡ host_alloc f n
  pub burst : (n : ℕ) → has_turn ts (key.Sub n) ≡ false → burst_at g n ≡ burst_at f n
  pub most : (n : ℕ) → has_turn ts (key.Limit n) ≡ false → most_at g n ≡ most_at f n
  pub was : (i : ℕ) (t : Turn) → slice_get ts i ≡ Some t → Says f t
  pub in_table : (i : ℕ) (t : Turn) → slice_get ts i ≡ Some t → IsInTable t
  pub once : (i k : ℕ) (t u : Turn) → slice_get ts i ≡ Some t → slice_get ts k ≡ Some u → is_key (turn_key t) (turn_key u) ≡ true → i ≡ k

-- ---- carrying them out

-- the desk has noted that the row's words were changed
abbrev pub is_done : Desk → RowKey → Bool
is_done d (key.Frame slot) = has slot d.slots
is_done d (key.Host host) = has host d.hosts
is_done d (key.Sub sub) = has sub d.subs
is_done d (key.Limit limit) = has limit d.limits
is_done d other = false

-- of each turn the words were changed, or the farm still says of them what the farm before said
abbrev pub AllTurned : Farm → Desk → List Turn → Type 0
AllTurned g d ts = (i : ℕ) (t : Turn) → slice_get ts i ≡ Some t → (is_done d (turn_key t) ≡ true) ⊎ Says g t
