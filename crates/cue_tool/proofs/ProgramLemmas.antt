-- A run of the program, by what its parts did.
use Rattle.std.proofs.Common.{◌≡◌, ℕ, List, [], ◌∷◌, inl, refl, sym, subst, Option, None, Some, Result, Ok, Err, ap, arith}
use Rattle.command_line.specs.Codes.{code_of}
use Rattle.command_line.specs.declared.status.Status.{Status}
use Rattle.command_line.specs.declared.status.Status.TheVariants as exit
use Rattle.cue_words.specs.Commands.{words_of}
use Rattle.cue_words.specs.Parts.{WordsError, Usage, BadSpec}
use Rattle.cue_words.specs.declared.asked.ToolWords.{ToolWords}
use Rattle.cue_words.specs.declared.asked.ToolWords.TheVariants.{Help}
use Rattle.cue_words.specs.declared.asked.WordsFault.{WordsFault}
use Rattle.cue_words.specs.declared.asked.WordsFault.TheVariants as words_fault
use Rattle.dialer.specs.Dials.{Dial, Target, target_of}
use Rattle.cue_tool.specs.declared.program.SpecFault.{SpecFault}
use Rattle.cue_tool.specs.declared.program.Wanted.{Wanted}
use Rattle.cue_tool.specs.declared.program.Wanted.TheVariants as wanted
use Rattle.cue_tool.specs.Calls.{Call}
use Rattle.cue_tool.proofs.EndLemmas.{no_call}
use Rattle.cue_tool.specs.Programs.{Dials, EndsWith, IsRun, IsRunAt, IsWanted, Opens, Outcome, Output, Reads, RunsWith, StaysApart, file_of, outcome}

-- nothing was done
pub ended : (status : Status) (out : Output) → EndsWith status (outcome status None out out) no_call
ended status out = record { status_is = refl; no_connection = refl; apart = (refl, refl); none_printed = refl }

-- the words ask this
pub reads_by : (target : Target) (spec : Option (List ℕ)) (came : Outcome) (dialled : List Dial) (call : Call) (asked : Result ToolWords WordsError)
    → words_of target.words spec ≡ asked → Dials asked target spec came dialled call → Reads target spec came dialled call
reads_by target spec came dialled call asked is dials = inl (subst (λ (a : Result ToolWords WordsError). Dials a target spec came dialled call) (sym is) dials)

-- the words name no file
pub ran_alone : (target : Target) (came : Outcome) (dialled : List Dial) (call : Call) → file_of target.words ≡ None → Reads target None came dialled call
    → IsRunAt (Some target) came (record { dialled = dialled; opened = []; call = call })
ran_alone target came dialled call is reads =
    subst (λ (file : Option (List ℕ)). RunsWith file target came (record { dialled = dialled; opened = []; call = call })) (sym is) (refl, reads)

-- the words name a file
pub ran_with : (target : Target) (file : List ℕ) (text : Result (List ℕ) SpecFault) (came : Outcome) (dialled : List Dial) (call : Call) → file_of target.words ≡ Some file
    → Opens text target came dialled call → IsRunAt (Some target) came (record { dialled = dialled; opened = record { file = file; text = text } ∷ []; call = call })
ran_with target file text came dialled call is opens =
    subst (λ (named : Option (List ℕ)). RunsWith named target came (record { dialled = dialled; opened = record { file = file; text = text } ∷ []; call = call })) (sym is) (text, refl, opens)

-- the words don't say where to connect
pub unplaced : (words : List (List ℕ)) (out : Output) → target_of words ≡ None
    → IsRun words (outcome exit.WrongWords None out out) (record { dialled = []; opened = []; call = no_call })
unplaced words out is =
    subst (λ (target : Option Target). IsRunAt target (outcome exit.WrongWords None out out) (record { dialled = []; opened = []; call = no_call })) (sym is)
    (refl, refl, ended exit.WrongWords out)

-- the words want the help text
pub wants_help : (want : Wanted) (asked : Result ToolWords WordsError) → want ≡ wanted.HelpText → IsWanted (Ok want) asked → asked ≡ Ok Help
wants_help want asked is wants = subst (λ (w : Wanted). IsWanted (Ok w) asked) is wants

-- a word is wrong
pub wants_none : (at : ℕ) (fault : WordsFault) (asked : Result ToolWords WordsError) → fault ≡ words_fault.Usage at → IsWanted (Err fault) asked → asked ≡ Err (Usage at)
wants_none at fault asked is wants = subst (λ (f : WordsFault). IsWanted (Err f) asked) is wants

-- the job spec is none
pub wants_bad : (fault : WordsFault) (asked : Result ToolWords WordsError) → fault ≡ words_fault.BadSpec → IsWanted (Err fault) asked → asked ≡ Err BadSpec
wants_bad fault asked is wants = subst (λ (f : WordsFault). IsWanted (Err f) asked) is wants

-- wrong words ended the program
pub stayed : (error : WordsError) (out : Output) → StaysApart (Err error) (outcome exit.WrongWords None out out) [] no_call
stayed error out = record {
  none_dialled = refl;
  no_connection = refl;
  went = (refl, (refl, refl), refl);
  write = λ failed. absurd (not_failed failed);
}
  where
    not_failed : exit.WrongWords ≡ exit.WriteFailed → ⊥
    not_failed failed = omega (arith, ap code_of failed)
