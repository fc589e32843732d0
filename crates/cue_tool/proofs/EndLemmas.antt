-- A whole call, by what its parts did.
use Rattle.std.proofs.Common.{◌≡◌, ℕ, List, [], ◌∷◌, ◌++◌, length, take, inl, inr, refl, sym, ap, subst, Option, Result, Ok, Err, ◌⊎◌, arith, length-append}
use Rattle.command_line.specs.declared.status.Status.{Status}
use Rattle.command_line.specs.declared.status.Status.TheVariants as exit
use Rattle.fault_counts.specs.Counts.{HasRisen}
use Rattle.cue_io.specs.Input.{Takes, Takes-none}
use Rattle.cue_io.specs.Output.{Adds, AddsPart, Adds-none}
use Rattle.cue_words.specs.declared.asked.ToolWords.{ToolWords}
use Rattle.cue_words.specs.declared.asked.ToolWords.TheVariants.{Ask, Help}
use Rattle.cue_words.specs.declared.asked.WordsFault.{WordsFault}
use Rattle.cue_words.specs.declared.asked.WordsFault.TheVariants as words_fault
use Rattle.cue_words.specs.Parts.{WordsError, Usage, BadSpec}
use Rattle.cue_words.specs.Results.{IsWords}
use Rattle.cue_tool.specs.Calls.{Call, Comes, DoesAsked, Goes, IsComplete, MaySend, OrRanOut, Prints, RanOut, Streams, WriteFailed, help_shown}
use Rattle.cue_tool.proofs.CallLemmas.{cut_part}
use Rattle.cue_tool.proofs.CompleteLemmas.{reply_complete}

abbrev pub no_call : Call
no_call = record { taken = []; sent = []; printed = [] }

may_send_none : (asked : Result ToolWords WordsError) → MaySend asked []
may_send_none (Ok (Ask line)) = inl refl
may_send_none (Ok Help) = refl
may_send_none (Err error) = refl

-- memory ran out before anything was done
pub ran_out : (asked : Result ToolWords WordsError) (words : List (List ℕ)) (before : Streams) → DoesAsked asked words exit.NoMemory before before no_call
ran_out asked words before = record {
  moved = record { takes = Takes-none before.left; sends = Adds-none before.written; prints = Adds-none before.printed };
  went = inr (record { status_is = refl; none_printed = refl; sent = may_send_none asked; none_taken = λ _. refl });
  complete = λ no_read no_write fewer. inr refl;
}

-- the words are wrong
refused : (error : WordsError) (words : List (List ℕ)) (before : Streams) → DoesAsked (Err error) words exit.WrongWords before before no_call
refused error words before = record {
  moved = record { takes = Takes-none before.left; sends = Adds-none before.written; prints = Adds-none before.printed };
  went = inl (refl, (refl, refl), refl);
  complete = λ no_read no_write fewer. inl refl;
}

-- a word is wrong
pub wrong_word : (at : ℕ) (fault : WordsFault) (asked : Result ToolWords WordsError) (words : List (List ℕ)) (before : Streams) → fault ≡ words_fault.Usage at → IsWords (Err fault) asked
    → DoesAsked asked words exit.WrongWords before before no_call
wrong_word at fault asked words before is wrong =
    let asks : asked ≡ Err (Usage at) = subst (λ (f : WordsFault). IsWords (Err f) asked) is wrong in
    subst (λ (a : Result ToolWords WordsError). DoesAsked a words exit.WrongWords before before no_call) (sym asks) (refused (Usage at) words before)

-- the job spec is none
pub bad_spec : (fault : WordsFault) (asked : Result ToolWords WordsError) (words : List (List ℕ)) (before : Streams) → fault ≡ words_fault.BadSpec → IsWords (Err fault) asked
    → DoesAsked asked words exit.WrongWords before before no_call
bad_spec fault asked words before is wrong =
    let asks : asked ≡ Err BadSpec = subst (λ (f : WordsFault). IsWords (Err f) asked) is wrong in
    subst (λ (a : Result ToolWords WordsError). DoesAsked a words exit.WrongWords before before no_call) (sym asks) (refused BadSpec words before)

-- the help text was printed, where no write failed
help_complete : (status : Status) (call : Call) (left : Option (List ℕ)) (ReadFails WriteFails : Type 0) → Prints status call.printed help_shown
    → (status ≡ exit.WriteFailed → WriteFails) → IsComplete (Ok Help) status call left ReadFails WriteFails
help_complete status call left ReadFails WriteFails (inl printed) write = λ no_read no_write fewer. inl printed.0
help_complete status call left ReadFails WriteFails (inr failed) write = λ no_read no_write fewer. absurd (no_write (write failed.0))

-- the help text was printed, or less than all of it
pub helped : (words : List (List ℕ)) (status : Status) (before after : Streams) (text : List ℕ) → Takes before.left after.left [] → Adds before.written after.written []
    → Adds before.printed after.printed text → Prints status text help_shown → (status ≡ exit.WriteFailed → HasRisen before.print_faults after.print_faults)
    → DoesAsked (Ok Help) words status before after (record { taken = []; sent = []; printed = text })
helped words status before after text takes sends prints shown write = record {
  moved = record { takes = takes; sends = sends; prints = prints };
  went = inl ((refl, refl), shown);
  complete = help_complete status (record { taken = []; sent = []; printed = text }) after.left (HasRisen before.read_faults after.read_faults)
      (WriteFailed before after) shown (λ failed. inr (write failed));
}

-- less than all of the request was sent
pub unsent : (line : List ℕ) (words : List (List ℕ)) (before after : Streams) → Takes before.left after.left [] → AddsPart before.written after.written (line ++ 10 ∷ [])
    → Adds before.printed after.printed [] → HasRisen before.write_faults after.write_faults
    → (call : Call) × DoesAsked (Ok (Ask line)) words exit.WriteFailed before after call
unsent line words before after takes part prints rose =
    let text : List ℕ = line ++ 10 ∷ [] in (
      record { taken = []; sent = take part.count text; printed = [] },
      record {
        moved = record { takes = takes; sends = part.adds; prints = prints };
        went = inl (inl (record { status_is = refl; cut = cut_part text part.count part.cut; none_taken = refl; none_printed = refl }));
        complete = λ no_read no_write fewer. absurd (no_write (inl rose));
      },
    )

went_by : (line : List ℕ) (words : List (List ℕ)) (status : Status) (taken printed : List ℕ) (left : Option (List ℕ)) → OrRanOut (Comes words status taken printed left) status printed
    → Goes (Ok (Ask line)) words status (record { taken = taken; sent = line ++ 10 ∷ []; printed = printed }) left
    ⊎ RanOut (Ok (Ask line)) status (record { taken = taken; sent = line ++ 10 ∷ []; printed = printed })
went_by line words status taken printed left (inl comes) = inl (inr (record { sent = refl; came = comes }))
went_by line words status taken printed left (inr none) = inr (record {
  status_is = none.0;
  none_printed = none.1;
  sent = inr refl;
  none_taken = λ e. absurd (omega (arith, ap length e, length-append line (10 ∷ [])));
})

-- the request was sent, and this came of it
pub asked : (line : List ℕ) (words : List (List ℕ)) (status : Status) (before after : Streams) (took text : List ℕ) → Adds before.written after.written (line ++ 10 ∷ [])
    → Takes before.left after.left took → Adds before.printed after.printed text → OrRanOut (Comes words status took text after.left) status text
    → (status ≡ exit.ReadFailed → HasRisen before.read_faults after.read_faults) → (status ≡ exit.WriteFailed → HasRisen before.print_faults after.print_faults)
    → DoesAsked (Ok (Ask line)) words status before after (record { taken = took; sent = line ++ 10 ∷ []; printed = text })
asked line words status before after took text sent takes prints came read write = record {
  moved = record { takes = takes; sends = sent; prints = prints };
  went = went_by line words status took text after.left came;
  complete = reply_complete line words status (record { taken = took; sent = line ++ 10 ∷ []; printed = text }) after.left
      (HasRisen before.read_faults after.read_faults) (WriteFailed before after) came read (λ failed. inr (write failed));
}
