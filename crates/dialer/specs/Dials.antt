-- Where the programs connect to, and what comes of that.
use Rattle.std.specs.Prelude.{ℕ, List, [], ◌∷◌, Option, None, Some, option_map, option_and_then, Result, Ok, Err, if◌then◌else◌}
use Rattle.farm_types.specs.Forms.{is_between}
use Rattle.farm_lines.specs.Points.{number_of}
use Rattle.dialer.specs.declared.dial.DialFault.{DialFault}
use Rattle.dialer.specs.declared.dial.DialFault.TheVariants as dial_faults

-- an address and a port
pub record Place : Type 0 where
  pub address : List ℕ
  pub port : ℕ

abbrev pub place_at : List ℕ → ℕ → Place
place_at address port = record { address = address; port = port }

-- a connection at one moment: what its source has left and what its sink was given, each where that is told, and their counts of faults
pub record Connection : Type 0 where
  pub left : Option (List ℕ)
  pub read_faults : ℕ
  pub written : Option (List ℕ)
  pub write_faults : ℕ

-- the connection that a source and a sink are, by what sources have left, what sinks were given, and their counts of faults
abbrev pub connected : {In Out : Type 0} → (In → Option (List ℕ)) → (In → ℕ) → (Out → Option (List ℕ)) → (Out → ℕ) → In × Out → Connection
connected left read_faults written write_faults ends =
    record { left = left ends.0; read_faults = read_faults ends.0; written = written ends.1; write_faults = write_faults ends.1 }

-- what came of asking for one
abbrev pub came_by : {In Out : Type 0} → (In → Option (List ℕ)) → (In → ℕ) → (Out → Option (List ℕ)) → (Out → ℕ) → Result (In × Out) DialFault
    → Result Connection DialFault
came_by left read_faults written write_faults (Ok ends) = Ok (connected left read_faults written write_faults ends)
came_by left read_faults written write_faults (Err fault) = Err fault

-- the connection that a call gives back, if any
abbrev pub given_back : {In Out : Type 0} → (In → Option (List ℕ)) → (In → ℕ) → (Out → Option (List ℕ)) → (Out → ℕ) → Option (In × Out) → Option Connection
given_back left read_faults written write_faults ends = option_map (connected left read_faults written write_faults) ends

-- a connection that was asked for: its place, and what came of that
pub record Dial : Type 0 where
  pub place : Place
  pub came : Result Connection DialFault

-- what is told of asking for one; one that found no memory isn't told
abbrev pub dial_told : Place → Result Connection DialFault → List Dial
dial_told place (Ok connection) = record { place = place; came = Ok connection } ∷ []
dial_told place (Err dial_faults.Failed) = record { place = place; came = Err dial_faults.Failed } ∷ []
dial_told place (Err dial_faults.NoMemory) = []

-- where to connect to, and the words after that
pub record Target : Type 0 where
  pub place : Place
  pub words : List (List ℕ)

-- a port: 1 to 10 digits that write 1 to 65,535
abbrev pub port_in : ℕ → Option ℕ
port_in port = if is_between 1 65535 port then Some port else None

abbrev pub port_of : List ℕ → Option ℕ
port_of text = option_and_then port_in (number_of 10 text)

abbrev pub target_at : List ℕ → List (List ℕ) → ℕ → Target
target_at address words port = record { place = place_at address port; words = words }

abbrev pub target_of : List (List ℕ) → Option Target
target_of (address ∷ port ∷ words) = option_map (target_at address words) (port_of port)
target_of words = None
