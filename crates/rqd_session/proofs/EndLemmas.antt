-- A whole call, by what came of its words and of its rounds.
use Rattle.std.proofs.Common.{◌≡◌, ◌<◌, ◌≤◌, ◌⊎◌, ◌↔◌, inl, inr, ℕ, Bool, true, false, List, [], ◌∷◌, ◌++◌, arith, refl, sym, ap, ◌∙◌, subst, length, nat_le, Option, None, Some, option_and_then, option_map, if◌then◌else◌, length-append}
use Rattle.std.proofs.lemmas.Bool.{and_parts, leb-true}
use Rattle.command_line.specs.declared.status.Status.{Status}
use Rattle.command_line.specs.declared.status.Status.TheVariants as exit
use Rattle.fault_counts.specs.Counts.{HasRisen}
use Rattle.cue_io.specs.History.{AreFirstLines, HasGiven-first}
use Rattle.cue_io.specs.Input.{IsAtEnd, Takes-none}
use Rattle.cue_io.specs.Lines.{lines_of}
use Rattle.cue_io.specs.Output.{Adds-none}
use Rattle.cue_io.specs.Reader.{Held}
use Rattle.cue_io.specs.declared.limits.TheConstants.{BYTE_LIMIT}
use Rattle.farm_lines.specs.declared.limits.TheConstants.{REPLY_LIMIT}
use Rattle.farm_types.specs.Forms.{is_between}
use Rattle.farm_lines.specs.Points.{cores_of, number_of}
use Rattle.rqd_core.specs.declared.config.RqdConfig.{RqdConfig}
use Rattle.rqd_core.specs.Life.{Life, line_of, new_life}
use Rattle.cue_io.specs.Growth.{Grows-none}
use Rattle.rqd_session.specs.declared.cut.Cut.{Cut}
use Rattle.rqd_session.specs.declared.cut.Cut.TheVariants as cut
use Rattle.rqd_session.specs.Rounds.{AreRounds, Part, Polling, Sending, Waiting, Reading, Acting, line_after, replies_in}
use Rattle.rqd_session.specs.Runs.{AreRun, Call, Goes, HasEnded, HasMoved, HasReplies, IsCall, IsCutOff, IsIdle, IsUnanswered, IsUnsent, StopsAt, Surroundings}
use Rattle.rqd_session.specs.Steps.{status_of}
use Rattle.rqd_session.specs.Words.{Asked, amount_of, asked_of, asked_words, asked_with, checked_between, config_of, rounds_of}
use Rattle.rqd_session.specs.declared.words.AskedWords.{AskedWords}
use Rattle.rqd_session.specs.declared.words.TheConstants.{MOST_ROUNDS}
use Rattle.rqd_session.proofs.CallLemmas.{HasMade}
use Rattle.rqd_launcher.proofs.Carrying.{HaveCauses-none}
use Rattle.rqd_session.proofs.RoundLemmas.{front_none, replies_count}

-- ---- nothing was done

abbrev pub no_call : Call
no_call = record { taken = []; sent = []; told = []; rounds = []; part = None }

pub idle : IsIdle no_call
idle = record { none_taken = refl; none_sent = refl; none_told = refl; no_rounds = refl; no_part = refl }

nothing_moved : (before : Surroundings) (part : Option Part) → HasMoved before before (record { taken = []; sent = []; told = []; rounds = []; part = part })
nothing_moved before part = record {
  takes = Takes-none before.left;
  sends = Adds-none before.written;
  tells = Grows-none before.calls;
  causes = HaveCauses-none before.spawn_faults;
}

no_replies : (asked : Option Asked) (left : Option (List ℕ)) (taken : List ℕ) → asked ≡ None → HasReplies asked left taken → ⊥
no_replies None left taken none replies = replies
no_replies (Some asked) left taken none replies = absurd (Prim.cc)

-- the words are wrong
pub refused : (words : List (List ℕ)) (before : Surroundings) → asked_of words ≡ None → IsCall words exit.WrongWords before before no_call
refused words before none = record {
  moved = nothing_moved before None;
  went = subst (λ (asked : Option Asked). Goes asked exit.WrongWords no_call before.left) (sym none) (refl, idle);
  read = λ is. absurd (Prim.cc);
  write = λ is. absurd (Prim.cc);
  complete = λ replies no_read no_write fewer. absurd (no_replies (asked_of words) before.left [] none replies);
}

-- ---- memory ran out before the first line

-- of the first round nothing was done
abbrev pub begun : Call
begun = record { taken = []; sent = []; told = []; rounds = []; part = Some (Sending [] []) }

rounds_in : (c : Option RqdConfig) (r : Option ℕ) (asked : Asked) → asked_with c r ≡ Some asked → r ≡ Some asked.rounds
rounds_in None r asked is = absurd (Prim.cc)
rounds_in (Some config) None asked is = absurd (Prim.cc)
rounds_in (Some config) (Some rounds) asked is = ap (option_map (λ (a : Asked). a.rounds)) is

abbrev number_in : Option ℕ → ℕ
number_in None = 0
number_in (Some n) = n

some_checked : (n m : ℕ) (within : Bool) → is_between 1 MOST_ROUNDS n ≡ within → (if within then Some n else None) ≡ Some m → 0 < m
some_checked n m true is same =
    let some : 1 ≤ n = leb-true 1 n (and_parts (nat_le 1 n) (nat_le n MOST_ROUNDS) is).0 in
    let one : n ≡ m = ap number_in same in
    omega (arith, some, one)
some_checked n m false is same = absurd (Prim.cc)

some_rounds : (o : Option ℕ) (m : ℕ) → option_and_then (checked_between 1 MOST_ROUNDS) o ≡ Some m → 0 < m
some_rounds None m is = absurd (Prim.cc)
some_rounds (Some n) m is = some_checked n m (is_between 1 MOST_ROUNDS n) refl is

-- valid words ask for a round or more
asked_rounds : (words : List (List ℕ)) (asked : Asked) → asked_of words ≡ Some asked → 0 < asked.rounds
asked_rounds (name ∷ alloc ∷ cores ∷ memory ∷ nonce ∷ rounds ∷ []) asked is =
    some_rounds (number_of 10 rounds) asked.rounds (rounds_in (config_of name alloc (cores_of cores) (amount_of memory) (amount_of nonce)) (rounds_of rounds) asked is)
asked_rounds words asked is = absurd (Prim.cc)

pub ran_out : (words : List (List ℕ)) (asked : Asked) (before : Surroundings) → asked_of words ≡ Some asked → IsCall words exit.NoMemory before before begun
ran_out words asked before is =
    let first : Life = new_life asked.config in
    let unsent = front_none (line_after first []) (omega (arith, length-append (line_of first) (10 ∷ []))) in
    let none_taken : AreFirstLines [] [] before.left = inl ([], record { cut = refl; in_lines = tt }) in
    let ended : IsCutOff first asked.rounds (Sending [] []) exit.NoMemory begun before.left
    = record { fewer = asked_rounds words asked is; is_part = (refl, unsent); sent = refl; told = refl; cuts = (refl, none_taken) } in
    record {
      moved = nothing_moved before (Some (Sending [] []));
      went = subst (λ (o : Option Asked). Goes o exit.NoMemory begun before.left) (sym is) (record { are_rounds = tt; stops = ended });
      read = λ is. absurd (Prim.cc);
      write = λ is. absurd (Prim.cc);
      complete = λ replies no_read no_write fewer. inr refl;
    }

-- ---- rounds were made

-- all rounds were
pub all_made : (first life : Life) (rounds : ℕ) (before after : Surroundings) (call : Call) (reader : Held) → HasMoved before after call → HasMade first life call reader after.left
    → length call.rounds ≡ rounds → AreRun first rounds exit.Done before after call
all_made first life rounds before after call reader moved made all =
    let ended : HasEnded first rounds exit.Done call after.left = record {
      status_is = refl;
      all = all;
      sent = made.sent;
      told = made.told;
      replies = HasGiven-first REPLY_LIMIT call.taken (replies_in call.rounds) reader after.left made.given;
    } in
    record {
      moved = moved;
      ran = record {
        are_rounds = made.are_rounds;
        stops = subst (λ (part : Option Part). StopsAt part first rounds exit.Done call after.left) (sym made.no_part) ended;
      };
    }

-- one was cut off
pub cut_off : (first : Life) (rounds : ℕ) (why : Cut) (status : Status) (before after : Surroundings) (call : Call) (part : Part) → status ≡ status_of why → call.part ≡ Some part
    → HasMoved before after call → AreRounds first call.rounds → IsCutOff first rounds part (status_of why) call after.left → AreRun first rounds status before after call
cut_off first rounds why status before after call part is at moved are ended = record {
  moved = moved;
  ran = record {
    are_rounds = are;
    stops = subst (λ (p : Option Part). StopsAt p first rounds status call after.left) (sym at)
        (subst (λ (s : Status). IsCutOff first rounds part s call after.left) (sym is) ended);
  };
}

-- ---- wrong words are told of words alone

unanswered_not_wrong : (status : Status) (taken : List ℕ) (lines : List (List ℕ)) (left : Option (List ℕ)) → IsUnanswered status taken lines left → status ≡ exit.WrongWords → ⊥
unanswered_not_wrong status taken lines left cuts wrong = subst (λ (s : Status). IsUnanswered s taken lines left) wrong cuts

unsent_not_wrong : (status : Status) (wrote : List ℕ) → IsUnsent status wrote → status ≡ exit.WrongWords → ⊥
unsent_not_wrong status wrote unsent wrong = subst (λ (s : Status). IsUnsent s wrote) wrong unsent

done_not_wrong : exit.Done ≡ exit.WrongWords → ⊥
done_not_wrong is = absurd (Prim.cc)

memory_not_wrong : exit.NoMemory ≡ exit.WrongWords → ⊥
memory_not_wrong is = absurd (Prim.cc)

cut_not_wrong : (first : Life) (rounds : ℕ) (status : Status) (call : Call) (left : Option (List ℕ)) (part : Part) → IsCutOff first rounds part status call left
    → status ≡ exit.WrongWords → ⊥
cut_not_wrong first rounds status call left (Polling polls) ended wrong = memory_not_wrong (sym ended.cuts.0 ∙ wrong)
cut_not_wrong first rounds status call left (Sending polls wrote) ended wrong = unsent_not_wrong status wrote ended.cuts.0 wrong
cut_not_wrong first rounds status call left (Waiting polls) ended wrong = unanswered_not_wrong status call.taken (replies_in call.rounds ++ []) left ended.cuts wrong
cut_not_wrong first rounds status call left (Reading polls reply) ended wrong = memory_not_wrong (sym ended.cuts.0 ∙ wrong)
cut_not_wrong first rounds status call left (Acting polls reply acts) ended wrong = memory_not_wrong (sym ended.cuts.0 ∙ wrong)

pub stops_not_wrong : (first : Life) (rounds : ℕ) (status : Status) (call : Call) (left : Option (List ℕ)) (part : Option Part) → StopsAt part first rounds status call left
    → status ≡ exit.WrongWords → ⊥
stops_not_wrong first rounds status call left None ended wrong = done_not_wrong (sym ended.status_is ∙ wrong)
stops_not_wrong first rounds status call left (Some part) ended wrong = cut_not_wrong first rounds status call left part ended wrong

-- ---- nothing but a fault ends the rounds early

-- fewer replies came than were asked for, and they were all lines of an input that had more
too_few : (taken : List ℕ) (lines : List (List ℕ)) (count rounds : ℕ) → lines_of taken ≡ lines → length lines ≡ count → count < rounds → rounds ≤ length (lines_of taken) → ⊥
too_few taken lines count rounds all is fewer enough =
    let same : length (lines_of taken) ≡ length lines = ap length all in
    omega (arith, same, is, fewer, enough)

unanswered_well : (status : Status) (taken : List ℕ) (lines : List (List ℕ)) (left : Option (List ℕ)) (rounds : ℕ) → IsUnanswered status taken lines left
    → length lines < rounds → (IsAtEnd left → rounds ≤ length (lines_of taken)) → (status ≡ exit.ReadFailed → ⊥) → length taken < BYTE_LIMIT
    → (status ≡ exit.Done) ⊎ (status ≡ exit.NoMemory)
unanswered_well exit.ReadFailed taken lines left rounds is fewer replies no_read within = absurd (no_read refl)
unanswered_well exit.Spent taken lines left rounds is fewer replies no_read within = absurd (omega (arith, is.1, within))
unanswered_well exit.InputEnded taken lines left rounds is fewer replies no_read within =
    absurd (too_few taken lines (length lines) rounds is.cut refl fewer (replies is.none_left))
unanswered_well status taken lines left rounds is fewer replies no_read within = absurd is

unsent_well : (status : Status) (wrote : List ℕ) → IsUnsent status wrote → (status ≡ exit.WriteFailed → ⊥) → (status ≡ exit.Done) ⊎ (status ≡ exit.NoMemory)
unsent_well exit.WriteFailed wrote is no_write = absurd (no_write refl)
unsent_well exit.NoMemory wrote is no_write = inr refl
unsent_well status wrote is no_write = absurd is

module _ (first : Life) (rounds : ℕ) (status : Status) (call : Call) (left : Option (List ℕ)) (replies : IsAtEnd left → rounds ≤ length (lines_of call.taken))
    (no_read : status ≡ exit.ReadFailed → ⊥) (no_write : status ≡ exit.WriteFailed → ⊥) (within : length call.taken < BYTE_LIMIT) where
  cut_well : (part : Part) → IsCutOff first rounds part status call left → (status ≡ exit.Done) ⊎ (status ≡ exit.NoMemory)
  cut_well (Polling polls) ended = inr ended.cuts.0
  cut_well (Sending polls wrote) ended = unsent_well status wrote ended.cuts.0 no_write
  cut_well (Waiting polls) ended =
      let count : length (replies_in call.rounds ++ []) ≡ length call.rounds = replies_count call.rounds in
      unanswered_well status call.taken (replies_in call.rounds ++ []) left rounds ended.cuts (omega (arith, count, ended.fewer)) replies no_read within
  cut_well (Reading polls reply) ended = inr ended.cuts.0
  cut_well (Acting polls reply acts) ended = inr ended.cuts.0

  stops_well : (part : Option Part) → StopsAt part first rounds status call left → (status ≡ exit.Done) ⊎ (status ≡ exit.NoMemory)
  stops_well None ended = inl ended.status_is
  stops_well (Some part) ended = cut_well part ended

-- ---- a call

-- where the words are valid, only a fault ends the rounds of a life early
complete_with : (o : Option Asked) (asked : Asked) (status : Status) (before after : Surroundings) (call : Call) → o ≡ Some asked
    → AreRun (new_life asked.config) asked.rounds status before after call
    → (status ≡ exit.ReadFailed → HasRisen before.read_faults after.read_faults) → (status ≡ exit.WriteFailed → HasRisen before.write_faults after.write_faults)
    → HasReplies o after.left call.taken → (HasRisen before.read_faults after.read_faults → ⊥) → (HasRisen before.write_faults after.write_faults → ⊥)
    → length call.taken < BYTE_LIMIT → (status ≡ exit.Done) ⊎ (status ≡ exit.NoMemory)
complete_with o asked status before after call is run read write replies no_read no_write within =
    stops_well (new_life asked.config) asked.rounds status call after.left (subst (λ (p : Option Asked). HasReplies p after.left call.taken) is replies)
    (λ s. no_read (read s)) (λ s. no_write (write s)) within call.part run.ran.stops

-- the rounds of valid words
pub called : (words : List (List ℕ)) (asked : Asked) (status : Status) (before after : Surroundings) (call : Call) → asked_of words ≡ Some asked
    → AreRun (new_life asked.config) asked.rounds status before after call
    → (status ≡ exit.ReadFailed → HasRisen before.read_faults after.read_faults) → (status ≡ exit.WriteFailed → HasRisen before.write_faults after.write_faults)
    → IsCall words status before after call
called words asked status before after call is run read write = record {
  moved = run.moved;
  went = subst (λ (o : Option Asked). Goes o status call after.left) (sym is) run.ran;
  read = read;
  write = write;
  complete = complete_with (asked_of words) asked status before after call is run read write;
}

-- ---- causes

pub read_of : (why : Cut) → status_of why ≡ exit.ReadFailed → why ≡ cut.Read
read_of cut.Read is = refl
read_of cut.Write is = absurd (Prim.cc)
read_of cut.NoMemory is = absurd (Prim.cc)
read_of cut.Spent is = absurd (Prim.cc)
read_of cut.End is = absurd (Prim.cc)

pub write_of : (why : Cut) → status_of why ≡ exit.WriteFailed → why ≡ cut.Write
write_of cut.Read is = absurd (Prim.cc)
write_of cut.Write is = refl
write_of cut.NoMemory is = absurd (Prim.cc)
write_of cut.Spent is = absurd (Prim.cc)
write_of cut.End is = absurd (Prim.cc)

-- ---- the code's words

pub no_asked : (found : Option AskedWords) (asked : Option Asked) → option_map asked_words found ≡ asked → ((a : AskedWords) → found ≡ Some a → ⊥) → asked ≡ None
no_asked None asked is never = sym is
no_asked (Some a) asked is never = absurd (never a refl)

some_none : (a : Asked) → Some a ≡ None → ⊥
some_none a is = absurd (Prim.cc)

-- valid words are no wrong ones
pub no_usage : (words : List (List ℕ)) (a : Asked) (status : Status) → asked_of words ≡ Some a → (status ≡ exit.WrongWords → ⊥) → (status ≡ exit.WrongWords) ↔ (asked_of words ≡ None)
no_usage words a status is never = (λ wrong. absurd (never wrong), λ none. absurd (some_none a (sym is ∙ none)))
