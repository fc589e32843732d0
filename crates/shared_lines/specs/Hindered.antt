-- An entry that the farm takes, hindered by what others hold, or by the journal's end.
use Rattle.std.specs.Prelude.{◌≡◌, ℕ, true, false, List, [], length, Some, None}
use mathlib.Core.List.{IsPrefix}
use Rattle.farm_types.specs.declared.entry.Entry.{Entry}
use Rattle.farm_types.specs.Farm.{Farm}
use Rattle.farm_types.specs.Step.{after, refusal_of}
use Rattle.farm_lines.specs.declared.reply.Reply.{Reply}
use Rattle.farm_lines.specs.declared.reply.Reply.TheVariants as reply
use Rattle.frame_words.specs.declared.host_word.HostWord.{HostWord}
use Rattle.booking_rule.specs.declared.view.View.{View}
use Rattle.booking_rule.specs.Kept.{farm_in}
use Rattle.booking_table.specs.Calls.{IsOtherFree}
use Rattle.line_answers.specs.booking_recorder.specs.Passing.{Passing}
use Rattle.line_answers.specs.recording_turns.specs.Owing.{Resizes}
use Rattle.line_answers.specs.recording_turns.specs.Sizes.{free_of}
use Rattle.line_answers.specs.declared.hindered.Hindered.{Hindered}
use Rattle.line_answers.specs.declared.hindered.Hindered.TheVariants as hindered
use Rattle.line_answers.specs.Lines.{IsLineOf}
use Rattle.shared_rounds.specs.shared_bot.specs.Passes.{CaughtUp}
use Rattle.shared_lines.specs.Answered.{is_full}

-- The entry gives a host another size. The recorder found other amounts free there than its size less what its frames use, in the part of the recorder's
-- trail that the pass took in here.
pub record IsFoundHeld (v : Passing) (f : Farm) (e : Entry) (found : HostWord) (w : Passing) : Type 0 where
  pub host : ℕ
  pub resizes : Resizes f (after f e) (Some host)
  pub before : View
  pub behind : View
  pub finds : IsOtherFree before host (free_of f host) found behind
  pub since : IsPrefix v.view.desk_trail before.trail
  pub until : IsPrefix behind.trail w.view.desk_trail

-- room on a host isn't free, which is told with so much that is; or the journal is full, which is looked for first
abbrev pub HindersBeside : Passing → Entry → Hindered → Passing → Type 0
HindersBeside v e (hindered.Held cores memory) w =
    (is_full (length w.view.journal) ≡ false) × IsFoundHeld v (farm_in w.view) e (record { cores = cores; memory = memory }) w
HindersBeside v e hindered.Spent w = is_full (length w.view.journal) ≡ true

-- Nothing was recorded for the line: the farm that the pass has then seen takes the entry, and this hindered it.
pub record IsHinderedBy (v : Passing) (e : Entry) (why : Hindered) (w : Passing) : Type 0 where
  pub caught : CaughtUp v w [] 0
  pub accepted : refusal_of (farm_in w.view) e ≡ None
  pub hinders : HindersBeside v e why w

abbrev pub hindered_reply : Hindered → Reply
hindered_reply (hindered.Held cores memory) = reply.StillHeld cores memory
hindered_reply hindered.Spent = reply.EntriesFull

abbrev pub IsHinderedAt : Passing → Entry → List ℕ → Passing → Type 0
IsHinderedAt v e text w = (why : Hindered) × IsHinderedBy v e why w × IsLineOf (hindered_reply why) text
