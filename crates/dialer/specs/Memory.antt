-- A dialer in memory: what comes over its connections, and the places that it was asked for.
use Rattle.std.specs.Prelude.{ℕ, ◌≡◌, List, [], ◌∷◌, map, Option, None, Some, Result, Ok, Err}
use Rattle.cue_io.specs.Memory.{Store, Supply}
use Rattle.dialer.specs.declared.dial.DialFault.{DialFault}
use Rattle.dialer.specs.declared.dial.DialFault.TheVariants as dial_faults
use Rattle.dialer.specs.declared.memory.Asked.{Asked}
use Rattle.dialer.specs.declared.memory.MemoryLink.{MemoryLink}
use Rattle.dialer.specs.Dials.{Connection, Dial, Place, place_at}

-- what comes over each connection, where it connects, and the places that it was asked for
pub record Linked : Type 0 where
  pub has : Option (List ℕ)
  pub asked : List Place

abbrev pub bytes_over : Option MemoryLink → Option (List ℕ)
bytes_over None = None
bytes_over (Some link) = Some link.bytes.items

abbrev pub places_of : List Asked → List Place
places_of asked = map (λ (a : Asked). place_at a.address a.port) asked

-- a connection as it begins
abbrev pub new_connection : List ℕ → Connection
new_connection bytes = record { left = Some bytes; read_faults = 0; written = Some []; write_faults = 0 }

-- what comes of asking for one, but for want of memory
abbrev pub came_of : Option (List ℕ) → Result Connection DialFault
came_of None = Err dial_faults.Failed
came_of (Some bytes) = Ok (new_connection bytes)

-- the connections that it was asked for
abbrev pub dials_of : Linked → List Dial
dials_of d = map (λ (place : Place). record { place = place; came = came_of d.has }) d.asked

-- this is what came of it, or memory ran out
abbrev pub Joins : Option (List ℕ) → Result Connection DialFault → Type 0
Joins has (Err dial_faults.NoMemory) = Unit {0}
Joins has came = came ≡ came_of has

-- what sources and sinks in memory tell
abbrev pub source_left : Supply → Option (List ℕ)
source_left s = Some s.left

abbrev pub read_faults_of : Supply → ℕ
read_faults_of s = s.plan.faults

abbrev pub sink_written : Store → Option (List ℕ)
sink_written s = Some s.written

abbrev pub write_faults_of : Store → ℕ
write_faults_of s = s.plan.faults
