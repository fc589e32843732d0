-- What a reader of lines holds between its calls, and what a call does to it.
use Rattle.std.specs.Prelude.{◌≡◌, ℕ, ◌+◌, ◌-◌, ◌<◌, ◌≤◌, Bool, true, false, List, [], ◌∷◌, ◌++◌, length, take, Option, None, Some, Result, Ok, Err, ◌⊎◌}
use Rattle.cue_io.specs.declared.line.Line.{Line}
use Rattle.cue_io.specs.declared.line.Line.TheVariants.{Bytes, TooLong, End}
use Rattle.cue_io.specs.declared.line.LineFault.{LineFault}
use Rattle.cue_io.specs.declared.line.LineFault.TheVariants.{Read, Spent}
use Rattle.cue_io.specs.Input.{Takes, IsAtEnd}
use Rattle.cue_io.specs.Lines.{has_newline}
use Rattle.cue_io.specs.declared.limits.TheConstants.{BYTE_LIMIT}

-- a reader between two calls: its limit, how many bytes it took, whether it let go the first bytes of a line that is
-- longer than the limit, whether the source has ended, the bytes that it took and neither gave nor let go, and the
-- line that it gave last
pub record Held : Type 0 where
  pub limit : ℕ
  pub taken : ℕ
  pub passing : Bool
  pub ended : Bool
  pub bytes : List ℕ
  pub line : List ℕ

-- a reader that has taken nothing
abbrev pub new_reader : ℕ → Held
new_reader limit = record { limit = limit; taken = 0; passing = false; ended = false; bytes = []; line = [] }

-- the first bytes of a line that is longer than the limit
pub record AreOfLongLine (limit : ℕ) (bytes : List ℕ) : Type 0 where
  pub in_line : has_newline bytes ≡ false
  pub long : limit < length bytes

-- the bytes that a reader let go, by whether it let any go
abbrev pub ArePassed : Bool → ℕ → List ℕ → Type 0
ArePassed false limit passed = passed ≡ []
ArePassed true limit passed = AreOfLongLine limit passed

-- the bytes that a reader took and hasn't given: those that it let go, and those that it holds
pub record IsPending (reader : Held) (pending : List ℕ) : Type 0 where
  pub passed : List ℕ
  pub are_passed : ArePassed reader.passing reader.limit passed
  pub pending_is : pending ≡ passed ++ reader.bytes

-- a reader that can answer without a read: its source has ended, or it holds a whole line
abbrev pub IsAhead : Held → Type 0
IsAhead reader = (reader.ended ≡ true) ⊎ (has_newline reader.bytes ≡ true)

-- where the source tells its bytes, those that were held and those that it gave before its last read have no newline
abbrev pub WasNeeded : List ℕ → Option (List ℕ) → Option (List ℕ) → ℕ → Type 0
WasNeeded held None new last = Unit {0}
WasNeeded held (Some old) None last = Unit {0}
WasNeeded held (Some old) (Some new) last = has_newline (held ++ take (length old - (length new + last)) old) ≡ false

-- what an answer that is no fault says: a line, that a line was too long, or that there is no more
pub data Given : Type 0 where
  Whole : List ℕ → Given
  Long : Given
  AtEnd : Given

-- what the answer of a call says
abbrev pub given_by : Result Line LineFault → Result Given LineFault
given_by (Ok (Bytes line)) = Ok (Whole line.now)
given_by (Ok TooLong) = Ok Long
given_by (Ok End) = Ok AtEnd
given_by (Err fault) = Err fault

-- the line is the first of the bytes, and a newline ends it
pub record IsLine (all line rest : List ℕ) (new : Held) : Type 0 where
  pub cut : all ≡ line ++ 10 ∷ rest
  pub in_line : has_newline line ≡ false
  pub going : new.ended ≡ false

-- the line is all of the bytes, and the end of the source ends it
pub record IsLast (all line rest : List ℕ) (new : Held) : Type 0 where
  pub cut : all ≡ line
  pub in_line : has_newline line ≡ false
  pub some : 0 < length line
  pub none_left : rest ≡ []
  pub ended : new.ended ≡ true

-- the line comes next in the bytes, and the rest comes after it
abbrev pub IsNext : List ℕ → List ℕ → List ℕ → Held → Type 0
IsNext all line rest new = IsLine all line rest new ⊎ IsLast all line rest new

-- no byte is left and none will come
pub record IsOver (all rest : List ℕ) (new : Held) : Type 0 where
  pub none : all ≡ []
  pub none_left : rest ≡ []
  pub ended : new.ended ≡ true

-- the bytes hold no whole line, and all of them are left
pub record IsUncut (all rest : List ℕ) (new : Held) : Type 0 where
  pub kept : rest ≡ all
  pub in_line : has_newline all ≡ false
  pub going : new.ended ≡ false

-- of all bytes that were pending, this answer is the right one, and it leaves the rest
abbrev pub Cuts : ℕ → List ℕ → Result Given LineFault → List ℕ → Held → Type 0
Cuts limit all (Ok (Whole line)) rest new = IsNext all line rest new × (length line ≤ limit)
Cuts limit all (Ok Long) rest new = (line : List ℕ) × IsNext all line rest new × (limit < length line)
Cuts limit all (Ok AtEnd) rest new = IsOver all rest new
Cuts limit all (Err Read) rest new = IsUncut all rest new × (new.taken < BYTE_LIMIT)
Cuts limit all (Err Spent) rest new = IsUncut all rest new × (new.taken ≡ BYTE_LIMIT)

-- whether an answer gives a line or passes over one
abbrev pub IsLineGiven : Result Given LineFault → Type 0
IsLineGiven (Ok (Whole line)) = Unit {0}
IsLineGiven (Ok Long) = Unit {0}
IsLineGiven (Ok AtEnd) = ⊥
IsLineGiven (Err fault) = ⊥

-- 1 where the source can still end, and 0 after its end
abbrev pub ends_left : Bool → ℕ
ends_left false = 1
ends_left true = 0

-- at most how many more lines a reader can give
abbrev pub lines_left : Held → ℕ
lines_left reader = (BYTE_LIMIT - reader.taken) + length reader.bytes + ends_left reader.ended

-- after the end nothing is taken, nothing changes, and each answer is the end
pub record StaysAtEnd (old : Held) (took : List ℕ) (answer : Result Given LineFault) (new : Held) : Type 0 where
  pub answer_is : answer ≡ Ok AtEnd
  pub took_none : took ≡ []
  pub same : new ≡ old

-- the bytes pending before and those taken are cut by the answer, and the rest is pending
pub record Leaves (old : Held) (before took : List ℕ) (answer : Result Given LineFault) (new : Held) : Type 0 where
  pub rest : List ℕ
  pub is_pending : IsPending new rest
  pub cuts : Cuts old.limit (before ++ took) answer rest new

-- what a call does that took these bytes and gave this answer
pub record Goes (old : Held) (took : List ℕ) (answer : Result Given LineFault) (new : Held) : Type 0 where
  pub limit_is : new.limit ≡ old.limit
  pub taken_is : new.taken ≡ old.taken + length took
  pub within : new.taken ≤ BYTE_LIMIT
  pub unspent : new.ended ≡ true → new.taken < BYTE_LIMIT
  pub at_end : old.ended ≡ true → StaysAtEnd old took answer new
  pub fewer : IsLineGiven answer → lines_left new < lines_left old
  pub leaves : (before : List ℕ) → IsPending old before → Leaves old before took answer new

-- a call that gave this answer, and took bytes of what the source had left
pub record Moves (left left' : Option (List ℕ)) (old : Held) (answer : Result Given LineFault) (new : Held) : Type 0 where
  pub took : List ℕ
  pub takes : Takes left left' took
  pub goes : Goes old took answer new
  pub end : old.ended ≡ false → new.ended ≡ true → IsAtEnd left'
