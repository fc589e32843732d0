-- What is kept beside rows, and what finding them by their numbers rests on.
use Rattle.std.specs.Prelude.{ℕ, ℤ, ◌+◌, ◌++◌, Bool, true, false, not, List, [], ◌∷◌, is_some, nat_lt, slice_get, if◌then◌else◌, Option, None, Some}
use Rattle.std.specs.List.{list_any}
use Rattle.farm_types.specs.declared.rows.JobRow.{JobRow}
use Rattle.farm_types.specs.declared.rows.LayerRow.{LayerRow}
use Rattle.farm_types.specs.declared.rows.SubRow.{SubRow}
use Rattle.farm_types.specs.Farm.{changed_at}
use Rattle.farm_types.specs.Finish.{is_finished}
use Rattle.farm_types.specs.declared.limits.TheConstants.{MOST_LAYERS, SUB_NUMBERS}

-- the hosts' names, and how many cores and how much memory the attempts on each use
pub record HostsKnown : Type 0 where
  pub names : List (List ℕ)
  pub cores : List ℕ
  pub memory : List ℕ

-- with one more host, on which nothing is used
abbrev pub with_name : List ℕ → HostsKnown → HostsKnown
with_name name k = record { names = k.names ++ name ∷ []; cores = k.cores ++ 0 ∷ []; memory = k.memory ++ 0 ∷ [] }

-- an attempt on the host uses so much
abbrev pub with_used : ℕ → ℕ → ℕ → HostsKnown → HostsKnown
with_used host cores memory k =
    record { names = k.names; cores = changed_at k.cores host (λ n. n + cores); memory = changed_at k.memory host (λ n. n + memory) }

-- the jobs' names, the numbers of the finished ones' finishes, and for each job whether a frame of it is left
pub record JobsKnown : Type 0 where
  pub names : List (List ℕ)
  pub finished : List ℕ
  pub left : List Bool

-- with one more job
abbrev pub known_with : JobRow → JobsKnown → JobsKnown
known_with j k =
    record { names = k.names ++ j.name ∷ []; finished = if is_finished j then k.finished ++ j.finish ∷ [] else k.finished; left = k.left ++ false ∷ [] }

-- a frame of the job at a place is left
abbrev pub with_frame_left : ℕ → JobsKnown → JobsKnown
with_frame_left at k = record { names = k.names; finished = k.finished; left = changed_at k.left at (λ _. true) }

-- the slot at a position
abbrev pub found_in : Option (Option ℕ) → Option ℕ
found_in None = None
found_in (Some slot) = slot

abbrev pub found_at : List (Option ℕ) → ℕ → Option ℕ
found_at slots position = found_in (slice_get slots position)

-- a layer's numbers, and the slot of each
pub record LayerKnown : Type 0 where
  pub numbers : List ℤ
  pub slots : List (Option ℕ)

-- the number at a position has that slot
abbrev pub found_with : ℕ → ℕ → LayerKnown → LayerKnown
found_with position slot k = record { numbers = k.numbers; slots = changed_at k.slots position (λ _. Some slot) }

-- a number has no slot
abbrev pub lacks_any : LayerKnown → Bool
lacks_any k = list_any (λ slot. not (is_some slot)) k.slots

-- ---- numbers

abbrev pub is_placed_below : LayerRow → Bool
is_placed_below l = nat_lt l.place MOST_LAYERS

-- the subscription's number is one of a show and an allocation
abbrev pub is_numbered_sub : SubRow → Bool
is_numbered_sub s = nat_lt s.sub SUB_NUMBERS
