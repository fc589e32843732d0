-- Step by step, a session moves its streams and answers the lines of the bytes taken.
use Rattle.std.proofs.Common.{◌≡◌, ◌<◌, ◌+◌, ℕ, List, ◌++◌, length, sym, ap, ◌∙◌, subst, Option, Result, Ok, Err, length-append}
use Rattle.cue_io.specs.declared.line.LineFault.{LineFault}
use Rattle.cue_io.specs.declared.line.LineFault.TheVariants as line_fault
use Rattle.cue_io.specs.History.{Continues, HasGiven, HasGiven-next}
use Rattle.cue_io.specs.Input.{Takes, Takes-append}
use Rattle.cue_io.specs.Output.{Adds, Adds-append}
use Rattle.cue_io.specs.Readings.{Tells, Tells-append}
use Rattle.cue_io.specs.Reader.{Held, Given, AtEnd, Goes}
use Rattle.cue_io.specs.declared.limits.TheConstants.{BYTE_LIMIT}
use Rattle.line_exchanges.specs.declared.exchanged.Exchanged.{Exchanged}
use Rattle.line_exchanges.specs.declared.exchanged.Exchanged.TheVariants as exchanged
use Rattle.line_exchanges.specs.Calls.{CallOf, HasLines, HasMoved, Streams}
use Rattle.line_exchanges.specs.Exchanges.{IsStepOf}

-- what was taken, written and read in one step more
pub moved_more : {Exchange : Type 0} (before mid after : Streams) (call : CallOf Exchange) (took w s : List ℕ) (exchanges : List Exchange) → HasMoved before mid call
    → Takes mid.unread after.unread took → Adds mid.written after.written w → Tells mid.readings after.readings s
    → HasMoved before after (record { taken = call.taken ++ took; written = call.written ++ w; readings = call.readings ++ s; exchanges = exchanges })
moved_more before mid after call took w s exchanges moved takes adds tells = record {
  taken = Takes-append before.unread mid.unread after.unread call.taken took moved.taken takes;
  written = Adds-append before.written mid.written after.written call.written w moved.written adds;
  readings = Tells-append before.readings mid.readings after.readings call.readings s moved.readings tells;
}

-- no line was answered in the step, in which the session ended
abbrev pub IsLast : Exchanged → Type 0
IsLast exchanged.Went = ⊥
IsLast exchanged.Write = ⊥
IsLast other = Unit {0}

-- one step more, after these lines of the bytes taken
module _ (limit : ℕ) (taken : List ℕ) (lines : List (List ℕ)) (reader new : Held) (left left' : Option (List ℕ)) (took wrote : List ℕ)
    (answers : Given → List ℕ → List ℕ → Type 0) (none : Type 0) (given : HasGiven limit taken lines reader left) (takes : Takes left left' took) where
  -- where the reader stands after the step
  pub stands : (answer : Result Given LineFault) (result : Exchanged) (step : IsStepOf result reader new left' took wrote answers none) → step.answer ≡ answer
      → Continues limit (taken ++ took) lines answer new left'
  stands answer result step is =
      let Stands : Result Given LineFault → Type 0 = λ a. Continues limit (taken ++ took) lines a new left' in
      subst Stands is (HasGiven-next limit taken lines reader left step.answer new left' given
      (record { took = took; takes = takes; goes = step.moves; end = step.at_end }))

  -- at the end of the source the reader took fewer bytes than it takes at most
  unspent : (result : Exchanged) (step : IsStepOf result reader new left' took wrote answers none) → step.answer ≡ Ok AtEnd → length (taken ++ took) < BYTE_LIMIT
  unspent result step is =
      let moves : Goes reader took (Ok AtEnd) new = subst (λ (a : Result Given LineFault). Goes reader took a new) is step.moves in
      subst (λ (count : ℕ). count < BYTE_LIMIT)
      (moves.taken_is ∙ ap (λ count. count + length took) given.taken_is ∙ sym (length-append taken took))
      (moves.unspent (moves.leaves given.pending given.is_pending).cuts.ended)

  -- the lines that were answered, at the end of the session
  pub last_lines : (result : Exchanged) → IsLast result → IsStepOf result reader new left' took wrote answers none → HasLines result (taken ++ took) lines left' × none
  last_lines exchanged.Went last step = absurd last
  last_lines exchanged.Write last step = absurd last
  last_lines exchanged.End last step =
      let at = stands (Ok AtEnd) exchanged.End step step.exchanges.0 in
      ((record { cut = at.0; none_left = at.1 }, unspent exchanged.End step step.exchanges.0), step.exchanges.1)
  last_lines exchanged.Read last step =
      let at = stands (Err line_fault.Read) exchanged.Read step step.exchanges.0 in
      ((at.0, at.1), step.exchanges.1)
  last_lines exchanged.Spent last step =
      let at = stands (Err line_fault.Spent) exchanged.Spent step step.exchanges.0 in
      ((at.0, at.1), step.exchanges.1)
