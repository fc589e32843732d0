-- One exchange: what the reader gave, and how much of the reply was written.
use Rattle.std.specs.Prelude.{◌≡◌, ◌<◌, ◌++◌, [], ℕ, List, true, false, length, Option, Result, Ok, Err}
use Rattle.cue_io.specs.declared.line.LineFault.{LineFault}
use Rattle.cue_io.specs.declared.line.LineFault.TheVariants as line_fault
use Rattle.cue_io.specs.Input.{IsAtEnd}
use Rattle.cue_io.specs.Reader.{Held, Given, AtEnd, Goes}
use Rattle.line_exchanges.specs.declared.exchanged.Exchanged.{Exchanged}
use Rattle.line_exchanges.specs.declared.exchanged.Exchanged.TheVariants as exchanged

-- all of the reply's text was written, or a front of it
abbrev pub Sends : Exchanged → List ℕ → List ℕ → Type 0
Sends exchanged.Went text wrote = wrote ≡ text
Sends exchanged.Write text wrote = (unwritten : List ℕ) × (0 < length unwritten) × (wrote ++ unwritten ≡ text)
Sends exchanged.End text wrote = ⊥
Sends exchanged.Read text wrote = ⊥
Sends exchanged.Spent text wrote = ⊥

-- what came of a call of the reader: what it gave was answered, of which this was written and this wasn't; or nothing was
abbrev pub Exchanges : Exchanged → Result Given LineFault → List ℕ → (Given → List ℕ → List ℕ → Type 0) → Type 0 → Type 0
Exchanges exchanged.Went answer wrote answers none = (given : Given) × (answer ≡ Ok given) × answers given wrote []
Exchanges exchanged.Write answer wrote answers none =
    (given : Given) × (unwritten : List ℕ) × (answer ≡ Ok given) × (0 < length unwritten) × answers given wrote unwritten
Exchanges exchanged.End answer wrote answers none = (answer ≡ Ok AtEnd) × none
Exchanges exchanged.Read answer wrote answers none = (answer ≡ Err line_fault.Read) × none
Exchanges exchanged.Spent answer wrote answers none = (answer ≡ Err line_fault.Spent) × none

-- one step of a session: what the reader did with the bytes taken, and what was done with what it gave
pub record IsStepOf (result : Exchanged) (old new : Held) (unread : Option (List ℕ)) (took wrote : List ℕ) (answers : Given → List ℕ → List ℕ → Type 0)
    (none : Type 0) : Type 0 where
  pub answer : Result Given LineFault
  pub moves : Goes old took answer new
  pub at_end : old.ended ≡ false → new.ended ≡ true → IsAtEnd unread
  pub exchanges : Exchanges result answer wrote answers none
