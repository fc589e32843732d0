-- The steps of one call of a reader of lines.
use Rattle.std.specs.Prelude.{◌≡◌, ℕ, ◌+◌, ◌-◌, ◌<◌, ◌≤◌, Option, Bool, true, false, ◌||◌, ◌==◌, nat_lt, List, [], ◌∷◌, ◌++◌, length, take, drop, Result, Ok, Err, if◌then◌else◌}
use Rattle.cue_io.specs.declared.line.Found.{Found}
use Rattle.cue_io.specs.declared.line.Found.TheVariants.{Bytes, TooLong, End}
use Rattle.cue_io.specs.declared.line.LineFault.{LineFault}
use Rattle.cue_io.specs.Lines.{has_newline}
use Rattle.cue_io.specs.Input.{Takes, IsAtEnd}
use Rattle.cue_io.specs.Reader.{Held, Given, Whole, Long, AtEnd, IsPending}
use Rattle.cue_io.specs.declared.limits.TheConstants.{BYTE_LIMIT}

-- whether a line is too long of which the reader holds this many bytes
abbrev pub is_long : Held → ℕ → Bool
is_long reader count = reader.passing || nat_lt reader.limit count

-- what the line up to a newline at this place is
abbrev pub found_at : Held → ℕ → Found
found_at reader at = if is_long reader at then TooLong else Bytes

-- the reader when that line was given
abbrev pub after_line : Held → ℕ → Held
after_line reader at = record reader { line = take at reader.bytes; bytes = drop (at + 1) reader.bytes; passing = false }

-- what is there at the end of the source, where no newline is held
abbrev pub found_last : Held → Found
found_last reader = if is_long reader (length reader.bytes) then TooLong else (if length reader.bytes == 0 then End else Bytes)

-- the reader when that was given
abbrev pub after_last : Held → Held
after_last reader = record reader { line = reader.bytes; bytes = []; passing = false; ended = true }

-- the reader when it has let go what it holds of a line that is too long
abbrev pub passed_over : Held → Held
passed_over reader = if is_long reader (length reader.bytes) then record reader { passing = true; bytes = []; line = [] } else reader

-- the reader when it has taken these bytes
abbrev pub filled : Held → List ℕ → Held
filled reader fresh = record reader { line = []; bytes = reader.bytes ++ fresh; taken = reader.taken + length fresh }

-- what was found, with the line that is shown
abbrev pub shown_as : Result Found LineFault → List ℕ → Result Given LineFault
shown_as (Ok Bytes) line = Ok (Whole line)
shown_as (Ok TooLong) line = Ok Long
shown_as (Ok End) line = Ok AtEnd
shown_as (Err fault) line = Err fault

-- the first newline stands at this place
pub record IsFirstNewline (bytes : List ℕ) (at : ℕ) : Type 0 where
  pub before : has_newline (take at bytes) ≡ false
  pub here : drop at bytes ≡ 10 ∷ drop (at + 1) bytes

-- what a reader always is: within the most bytes; at the end of the source it holds nothing and passes over nothing
pub record IsSound (taken : ℕ) (passing ended : Bool) (bytes : List ℕ) : Type 0 where
  pub within : taken ≤ BYTE_LIMIT
  pub empty : ended ≡ true → bytes ≡ []
  pub still : ended ≡ true → passing ≡ false
  pub unspent : ended ≡ true → taken < BYTE_LIMIT

-- a read that took these bytes
pub record Fetches (left left' : Option (List ℕ)) (count : ℕ) (fresh : List ℕ) (old new : Held) : Type 0 where
  pub count_is : length fresh ≡ count
  pub takes : Takes left left' fresh
  pub end : count ≡ 0 → IsAtEnd left'
  pub within : old.taken + count ≤ BYTE_LIMIT
  pub new_is : new ≡ filled old fresh

-- a call that took these bytes so far, found no newline, and goes on
pub record GoesOn (old : Held) (took : List ℕ) (new : Held) : Type 0 where
  pub limit_is : new.limit ≡ old.limit
  pub was_going : old.ended ≡ false
  pub going : new.ended ≡ false
  pub taken_is : new.taken ≡ old.taken + length took
  pub within : new.taken ≤ BYTE_LIMIT
  pub no_more : (BYTE_LIMIT - new.taken) + length new.bytes ≤ (BYTE_LIMIT - old.taken) + length old.bytes
  pub pending : (before : List ℕ) → IsPending old before → IsPending new (before ++ took)
