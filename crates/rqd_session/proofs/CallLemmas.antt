-- Round by round, a call is the rounds of one life, and the one that was cut off.
use Rattle.std.proofs.Common.{◌≡◌, ◌<◌, inl, inr, ℕ, List, [], ◌∷◌, ◌++◌, refl, sym, ap, ◌∙◌, subst, length, Option, None, Some, Result, Ok, Err, append-nil}
use Rattle.std.specs.Prelude.{⊤}
use Rattle.command_line.specs.declared.status.Status.{Status}
use Rattle.command_line.specs.declared.status.Status.TheVariants as exit
use Rattle.cue_io.specs.Growth.{Grows, Grows-append}
use Rattle.cue_io.specs.History.{AreFirstLines, HasGiven, HasGiven-first, HasGiven-next, HasGiven-new, Continues}
use Rattle.cue_io.specs.Input.{Takes, Takes-none, Takes-append}
use Rattle.cue_io.specs.Output.{Adds, Adds-append}
use Rattle.cue_io.specs.Reader.{Held, Given, Whole, Long, AtEnd, new_reader}
use Rattle.cue_io.specs.declared.line.LineFault.{LineFault}
use Rattle.cue_io.specs.declared.line.LineFault.TheVariants as line_fault
use Rattle.farm_lines.specs.declared.limits.TheConstants.{REPLY_LIMIT}
use Rattle.rqd_core.specs.Life.{Life}
use Rattle.rqd_launcher.specs.declared.call.SpawnCall.{SpawnCall}
use Rattle.rqd_launcher.specs.Carries.{HaveCauses}
use Rattle.rqd_launcher.proofs.Carrying.{HaveCauses-append}
use Rattle.rqd_session.specs.declared.cut.Cut.{Cut}
use Rattle.rqd_session.specs.declared.cut.Cut.TheVariants as cut
use Rattle.rqd_session.specs.Rounds.{Round, Part, Polling, Sending, Waiting, Reading, Acting, AreRounds, IsPart, IsRound, after_round, after_rounds, calls_by, calls_in, line_after, lines_sent, replies_by, replies_in, sent_by}
use Rattle.rqd_session.specs.Runs.{Call, Cuts, HasMoved, IsCutOff, Surroundings}
use Rattle.rqd_session.specs.Steps.{Done, Gave, GaveSo, IsCutAt, IsWhole, Makes, RanOutEarly, RanOutLate, round_of, status_of}
use Rattle.rqd_session.proofs.RoundLemmas.{after_rounds-append, are_rounds-append, calls_in-append, lines_sent-append, replies_in-append}

-- ---- what was moved

-- what was taken, sent and told in one round more
pub moved_more : (before mid after : Surroundings) (call : Call) (took sent : List ℕ) (told : List SpawnCall) (rounds : List Round) (part : Option Part) → HasMoved before mid call
    → Takes mid.left after.left took → Adds mid.written after.written sent → Grows mid.calls after.calls told → HaveCauses told mid.spawn_faults after.spawn_faults
    → HasMoved before after (record { taken = call.taken ++ took; sent = call.sent ++ sent; told = call.told ++ told; rounds = rounds; part = part })
moved_more before mid after call took sent told rounds part moved takes sends tells causes = record {
  takes = Takes-append before.left mid.left after.left call.taken took moved.takes takes;
  sends = Adds-append before.written mid.written after.written call.sent sent moved.sends sends;
  tells = Grows-append before.calls mid.calls after.calls call.told told moved.tells tells;
  causes = HaveCauses-append call.told told before.spawn_faults mid.spawn_faults after.spawn_faults moved.causes causes;
}

-- ---- the rounds so far

-- whole rounds of a life, and where it and the reader stand after them
pub record HasMade (first life : Life) (call : Call) (reader : Held) (left : Option (List ℕ)) : Type 0 where
  pub are_rounds : AreRounds first call.rounds
  pub life_is : life ≡ after_rounds first call.rounds
  pub sent : call.sent ≡ lines_sent first call.rounds
  pub told : call.told ≡ calls_in call.rounds
  pub given : HasGiven REPLY_LIMIT call.taken (replies_in call.rounds) reader left
  pub no_part : call.part ≡ None

-- before the first round
pub made_none : (first : Life) (reader : Held) (left : Option (List ℕ)) → reader ≡ new_reader REPLY_LIMIT
    → HasMade first first (record { taken = []; sent = []; told = []; rounds = []; part = None }) reader left
made_none first reader left is = record {
  are_rounds = tt;
  life_is = refl;
  sent = refl;
  told = refl;
  given = subst (λ (held : Held). HasGiven REPLY_LIMIT [] [] held left) (sym is) (HasGiven-new REPLY_LIMIT left);
  no_part = refl;
}

-- what a call comes to with what one round did
abbrev pub call_with : Call → List ℕ → Done → List Round → Option Part → Call
call_with call took done rounds part =
    record { taken = call.taken ++ took; sent = call.sent ++ done.sent; told = call.told ++ (done.polls ++ done.acts); rounds = rounds; part = part }

module _ (first life life' : Life) (call : Call) (reader reader' : Held) (left left' : Option (List ℕ)) (done : Done) (made : HasMade first life call reader left) where
  -- one whole round more
  whole_more : (took reply : List ℕ) → IsWhole life life' reply done → HasGiven REPLY_LIMIT (call.taken ++ took) (replies_in call.rounds ++ reply ∷ []) reader' left'
      → HasMade first life' (call_with call took done (call.rounds ++ round_of done reply ∷ []) None) reader' left'
  whole_more took reply whole given =
      let r : Round = round_of done reply in
      record {
        are_rounds = are_rounds-append first call.rounds r made.are_rounds (subst (λ (l : Life). IsRound l r) made.life_is whole.is_round);
        life_is = whole.life_is ∙ ap (λ l. after_round l r) made.life_is ∙ sym (after_rounds-append first call.rounds r);
        sent = ap (λ bytes. bytes ++ done.sent) made.sent
            ∙ ap (λ bytes. lines_sent first call.rounds ++ bytes) (whole.sent ∙ ap (λ l. line_after l done.polls) made.life_is)
            ∙ sym (lines_sent-append first call.rounds r);
        told = ap (λ calls. calls ++ (done.polls ++ done.acts)) made.told ∙ sym (calls_in-append call.rounds r);
        given = subst (λ (lines : List (List ℕ)). HasGiven REPLY_LIMIT (call.taken ++ took) lines reader' left') (sym (replies_in-append call.rounds r)) given;
        no_part = refl;
      }

  -- a round was whole, by where the reader stands after it
  whole_by : (ok : ⊤) (took : List ℕ) (answer : Result Given LineFault) → Makes life (Ok ok) life' (Some answer) done
      → Continues REPLY_LIMIT (call.taken ++ took) (replies_in call.rounds) answer reader' left'
      → (r : Round) × HasMade first life' (call_with call took done (call.rounds ++ r ∷ []) None) reader' left'
  whole_by ok took (Ok (Whole reply)) makes continues = (round_of done reply, whole_more took reply (makes continues.0) continues.1)
  whole_by ok took (Ok Long) makes continues = (round_of done continues.0, whole_more took continues.0 (makes continues.0 continues.1) continues.2)
  whole_by ok took answer makes continues = absurd makes

  -- one more round was made
  pub made_more : (ok : ⊤) (gave : Gave) → Makes life (Ok ok) life' gave done → GaveSo left left' reader gave reader'
      → (took : List ℕ) × (r : Round) × Takes left left' took × HasMade first life' (call_with call took done (call.rounds ++ r ∷ []) None) reader' left'
  made_more ok None makes so = absurd makes
  made_more ok (Some answer) makes moves =
      let more = whole_by ok moves.took answer makes (HasGiven-next REPLY_LIMIT call.taken (replies_in call.rounds) reader left answer reader' left' made.given moves) in
      (moves.took, more.0, moves.takes, more.1)

  -- ---- the round that was cut off

  module _ (rounds : ℕ) (fewer : length call.rounds < rounds) where
    -- it was cut off there
    ended_at : (took : List ℕ) (part : Part) (status : Status) → IsCutAt life part done → done.polls ++ done.acts ≡ calls_by part
        → Cuts part status (call.taken ++ took) (replies_in call.rounds ++ replies_by part) left'
        → IsCutOff first rounds part status (call_with call took done call.rounds (Some part)) left'
    ended_at took part status is calls cuts = record {
      fewer = fewer;
      is_part = subst (λ (l : Life). IsPart l part) made.life_is is.is_part;
      sent = ap (λ bytes. bytes ++ done.sent) made.sent ∙ ap (λ bytes. lines_sent first call.rounds ++ bytes) (is.sent ∙ ap (λ l. sent_by l part) made.life_is);
      told = ap (λ calls. calls ++ (done.polls ++ done.acts)) made.told ∙ ap (λ calls. calls_in call.rounds ++ calls) calls;
      cuts = cuts;
    }

    -- nothing was ordered
    no_acts : done.acts ≡ [] → done.polls ++ done.acts ≡ done.polls
    no_acts none = ap (λ acts. done.polls ++ acts) none ∙ append-nil done.polls

    -- the reader wasn't asked, and the source is as it was: the lines are as before
    unasked : left' ≡ left → AreFirstLines (call.taken ++ []) (replies_in call.rounds ++ []) left'
    unasked same =
        let taken : call.taken ≡ call.taken ++ [] = sym (append-nil call.taken) in
        let lines : replies_in call.rounds ≡ replies_in call.rounds ++ [] = sym (append-nil (replies_in call.rounds)) in
        subst (λ (now : Option (List ℕ)). AreFirstLines (call.taken ++ []) (replies_in call.rounds ++ []) now) (sym same)
        (subst (λ (bytes : List ℕ). AreFirstLines bytes (replies_in call.rounds ++ []) left) taken
        (subst (λ (given : List (List ℕ)). AreFirstLines call.taken given left) lines
        (HasGiven-first REPLY_LIMIT call.taken (replies_in call.rounds) reader left made.given)))

    -- what is said of the round that was cut off
    abbrev IsEnded : List ℕ → Status → Type 0
    IsEnded took status = (part : Part) × IsCutOff first rounds part status (call_with call took done call.rounds (Some part)) left'

    early : left' ≡ left → RanOutEarly life done → IsEnded [] exit.NoMemory
    early same (none, inl polling) = (Polling done.polls, ended_at [] (Polling done.polls) exit.NoMemory polling (no_acts none) (refl, unasked same))
    early same (none, inr sending) = (Sending done.polls [], ended_at [] (Sending done.polls []) exit.NoMemory sending (no_acts none) (refl, unasked same))

    late : (took reply : List ℕ) → RanOutLate life reply done → AreFirstLines (call.taken ++ took) (replies_in call.rounds ++ reply ∷ []) left' → IsEnded took exit.NoMemory
    late took reply (inl read) lines = (Reading done.polls reply, ended_at took (Reading done.polls reply) exit.NoMemory read.1 (no_acts read.0) (refl, lines))
    late took reply (inr acting) lines = (Acting done.polls reply done.acts, ended_at took (Acting done.polls reply done.acts) exit.NoMemory acting refl (refl, lines))

    -- no reply line came
    waiting : (took : List ℕ) (status : Status) → (done.acts ≡ []) × IsCutAt life (Waiting done.polls) done
        → Cuts (Waiting done.polls) status (call.taken ++ took) (replies_in call.rounds) left' → IsEnded took status
    waiting took status (none, is) cuts = (
      Waiting done.polls,
      ended_at took (Waiting done.polls) status is (no_acts none)
          (subst (λ (lines : List (List ℕ)). Cuts (Waiting done.polls) status (call.taken ++ took) lines left') (sym (append-nil (replies_in call.rounds))) cuts),
    )

    -- by where the reader stands
    cut_by : (why : Cut) (took : List ℕ) (answer : Result Given LineFault) → Makes life (Err why) life' (Some answer) done
        → Continues REPLY_LIMIT (call.taken ++ took) (replies_in call.rounds) answer reader' left' → IsEnded took (status_of why)
    cut_by cut.NoMemory took (Ok (Whole reply)) makes continues =
        late took reply (makes continues.0) (HasGiven-first REPLY_LIMIT (call.taken ++ took) (replies_in call.rounds ++ reply ∷ []) reader' left' continues.1)
    cut_by cut.Read took (Err line_fault.Read) makes continues = waiting took exit.ReadFailed makes (continues.0, continues.1)
    cut_by cut.Spent took (Err line_fault.Spent) makes continues = waiting took exit.Spent makes (continues.0, continues.1)
    cut_by cut.End took (Ok AtEnd) makes continues = waiting took exit.InputEnded makes (record { cut = continues.0; none_left = continues.1 })
    cut_by why took answer makes continues = absurd makes

    cut_unasked : (why : Cut) → left' ≡ left → Makes life (Err why) life' None done → IsEnded [] (status_of why)
    cut_unasked cut.Write same makes = (Sending done.polls done.sent, ended_at [] (Sending done.polls done.sent) exit.WriteFailed makes.1 (no_acts makes.0) (tt, unasked same))
    cut_unasked cut.NoMemory same makes = early same makes
    cut_unasked why same makes = absurd makes

    -- the round was cut off
    pub cut_more : (why : Cut) (gave : Gave) → Makes life (Err why) life' gave done → GaveSo left left' reader gave reader'
        → (took : List ℕ) × (part : Part) × Takes left left' took × IsCutOff first rounds part (status_of why) (call_with call took done call.rounds (Some part)) left'
    cut_more why None makes so =
        let ended = cut_unasked why so.1 makes in
        ([], ended.0, subst (λ (now : Option (List ℕ)). Takes left now []) (sym so.1) (Takes-none left), ended.1)
    cut_more why (Some answer) makes moves =
        let ended = cut_by why moves.took answer makes
        (HasGiven-next REPLY_LIMIT call.taken (replies_in call.rounds) reader left answer reader' left' made.given moves) in
        (moves.took, ended.0, moves.takes, ended.1)
