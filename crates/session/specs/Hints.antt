-- What the program says on standard error before it begins.
use Rattle.std.specs.Prelude.{ℕ, List, [], Bool, true, false, codes, Option, ◌⊎◌, None, Some}
use Rattle.cue_io.specs.Output.{Adds, AddsPart}
use Rattle.session.specs.Words.{WordForm, Load}

-- the usage for invalid arguments, and at a terminal what is waited for; a load waits for nothing
abbrev pub hint_of : Option WordForm → Bool → List ℕ
hint_of None at_terminal = codes "usage: cuebot demo | script STORE | load N | serve STORE PORT WORKERS CONNECTIONS\n"
hint_of (Some (Load n)) at_terminal = []
hint_of (Some form) true = codes "cuebot: waiting for lines, each a JSON object; end the input with Ctrl-D\n"
hint_of (Some form) false = []

-- all of the hint was written; or a write failed, and a front of it was written
abbrev pub HasTold : List ℕ → Option (List ℕ) → Option (List ℕ) → Type 0 → Type 0
HasTold hint old new WriteFails = Adds old new hint ⊎ (AddsPart old new hint × WriteFails)
