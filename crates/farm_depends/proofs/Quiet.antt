-- Acts that nothing follows: the farm stays settled.
use Rattle.std.proofs.Common.{◌≡◌, inl, ℕ, true, List, [], Option, None, Some, refl, sym, subst, ap, ◌∙◌}
use Rattle.std.specs.List.{IsDistinct}
use Rattle.std.specs.Prelude.{nat_eq}
use Rattle.std.proofs.lemmas.List.Elements.{All-nil}
use Rattle.farm_types.specs.declared.entry.Act.{Act}
use Rattle.farm_types.specs.declared.entry.Act.TheVariants.{Opened, Show, Alloc, Sub, Limit, Boot, Heard, Submit, AddDepend, DropDepend, Pause, KillJob, KillFrame, EatFrame, RetryFrame, Lock, Tick, Book}
use Rattle.farm_types.specs.declared.entry.Entry.{Entry}
use Rattle.farm_types.specs.declared.boot.BootLine.{BootLine}
use Rattle.farm_types.specs.declared.depend.DependSpec.{DependSpec}
use Rattle.farm_types.specs.declared.entry.FramePlace.{FramePlace}
use Rattle.farm_types.specs.declared.entry.HeardAct.{HeardAct}
use Rattle.farm_types.specs.declared.job.JobSpec.{JobSpec}
use Rattle.farm_types.specs.declared.states.LockState.{LockState}
use Rattle.farm_types.specs.declared.sub_line.SubLine.{SubLine}
use Rattle.farm_types.specs.Booking.{may_record}
use Rattle.farm_types.specs.DependActs.{pending_named}
use Rattle.farm_types.specs.Depends.{is_done}
use Rattle.farm_types.specs.Farm.{Farm, alloc_named, changed_at, host_named, limit_named}
use Rattle.farm_types.specs.Run.{IsSound}
use Rattle.farm_types.specs.Settle.{with_met}
use Rattle.farm_types.specs.Step.{HasCondition, act_refusal, acted, after_act, after_boot, after_limit, after_lock, after_sub, at_moment, booked_row, expire, follow_refusal, followed, moment_of, new_proc, proc_of, sub_named, with_proc}
use Rattle.farm_law.proofs.Booked.{booking_makes}
use Rattle.farm_law.proofs.CanBook.{can_book}
use Rattle.farm_law.proofs.KeptRuns.{refusal_later}
use Rattle.farm_law.proofs.Lost.{expire_sound}
use Rattle.farm_law.proofs.SafeRuns.{allowed_later}
use Rattle.depend_law.proofs.Carries.{CarriesAll, all_same, all_turns, carries_then}
use Rattle.depend_law.proofs.KeptTurns.{boot_frames, boot_turns, booked_turn, expire_carries}
use Rattle.depend_law.proofs.Shapes.{booked_frames}
use Rattle.depend_law.proofs.Stable.{met_stays}
use Rattle.depend_law.proofs.Stops.{kill_frame_carries, pause_carries}
use Rattle.depend_law.proofs.Turns.{turns_changed}
use Rattle.depend_book.specs.Book.{DependLists, joined}
use Rattle.farm_changes.specs.Change.{Makes, after_change}
use Rattle.farm_changes.specs.declared.change.Change.{Change}
use Rattle.depend_book.specs.Fits.{IsBeside}
use Rattle.farm_depends.specs.Follow.{Counts, FollowFits, Follows, nothing_follows}
use Rattle.farm_depends.proofs.Beside.{refusal_joined}
use Rattle.farm_depends.proofs.Joined.{joined_acted}
use Rattle.farm_depends.proofs.CompletionLemmas.Reopened.{none_reopened}

-- nothing follows the act
abbrev pub IsQuiet : Act → Type 0
IsQuiet (Heard heard) = ⊥
IsQuiet (Submit spec) = ⊥
IsQuiet (AddDepend spec) = ⊥
IsQuiet (DropDepend depend) = ⊥
IsQuiet (KillJob job) = ⊥
IsQuiet (EatFrame p) = ⊥
IsQuiet (RetryFrame p) = ⊥
IsQuiet act = Unit {0}

-- ---- one after the other

all_then : (f g k : Farm) → CarriesAll f g → CarriesAll g k → CarriesAll f k
all_then f g k first second =
    record {
      carries = carries_then f g k first.carries second.carries;
      done = λ slot. second.done slot ∙ first.done slot;
      blocked = λ slot h. first.blocked slot (second.blocked slot h);
    }

-- ---- what each act leaves

sub_carries : (f : Farm) (line : SubLine) (o : Option ℕ) → CarriesAll f (after_sub f line o)
sub_carries f line None = all_same f f refl refl refl refl refl refl
sub_carries f line (Some sub) = all_same f (after_sub f line (Some sub)) refl refl refl refl refl refl

limit_carries : (f : Farm) (name : List ℕ) (most : ℕ) (o : Option ℕ) → CarriesAll f (after_limit f name most o)
limit_carries f name most None = all_same f (after_limit f name most None) refl refl refl refl refl refl
limit_carries f name most (Some limit) = all_same f (after_limit f name most (Some limit)) refl refl refl refl refl refl

lock_carries : (f : Farm) (lock : LockState) (o : Option ℕ) → CarriesAll f (after_lock f lock o)
lock_carries f lock None = all_same f f refl refl refl refl refl refl
lock_carries f lock (Some host) = all_same f (after_lock f lock (Some host)) refl refl refl refl refl refl

boot_carries : (f : Farm) (line : BootLine) (moment : ℕ) (o : Option ℕ) → IsSound f → CarriesAll f (after_boot f line moment o)
boot_carries f line moment None ok = all_same f f refl refl refl refl refl refl
boot_carries f line moment (Some alloc) ok =
    all_turns f (after_boot f line moment (Some alloc)) refl refl refl refl refl (boot_frames f line (host_named f line.host)) (boot_turns f ok line (host_named f line.host))

book_carries : (f : Farm) (slot host moment : ℕ) → may_record f slot host ≡ true → CarriesAll f (with_proc f slot (new_proc f slot host moment))
book_carries f slot host moment allowed =
    let found = can_book f slot host allowed in
    let r = found.0 in
    let can = found.1 in
    let p = proc_of slot host moment r.slot r.job r.layer r.host in
    let g = record f { slots = changed_at f.slots slot (booked_row p) } in
    subst (CarriesAll f) (sym (booking_makes f slot host moment r can))
    (all_turns f g refl refl refl refl refl (booked_frames p f.slots slot)
    (turns_changed f.slots slot (booked_row p) r.slot can.slot_is (booked_turn p r.slot r.frame can.frame_is can.waits)))

act_carries : (f : Farm) (moment : ℕ) (act : Act) → IsQuiet act → act_refusal f act ≡ None → HasCondition f act → IsSound f → CarriesAll f (after_act f moment act)
act_carries f moment Opened quiet accepted allowed ok = all_same f (after_act f moment Opened) refl refl refl refl refl refl
act_carries f moment (Show name) quiet accepted allowed ok = all_same f (after_act f moment (Show name)) refl refl refl refl refl refl
act_carries f moment (Alloc facility tag) quiet accepted allowed ok = all_same f (after_act f moment (Alloc facility tag)) refl refl refl refl refl refl
act_carries f moment (Sub line) quiet accepted allowed ok = sub_carries f line (sub_named f line)
act_carries f moment (Limit name most) quiet accepted allowed ok = limit_carries f name most (limit_named f name)
act_carries f moment (Boot line) quiet accepted allowed ok =
    all_then f (expire f moment) (after_act f moment (Boot line)) (expire_carries f moment ok)
    (boot_carries (expire f moment) line moment (alloc_named f line.alloc) (expire_sound f moment ok))
act_carries f moment (Heard heard) quiet accepted allowed ok = absurd quiet
act_carries f moment (Submit spec) quiet accepted allowed ok = absurd quiet
act_carries f moment (AddDepend spec) quiet accepted allowed ok = absurd quiet
act_carries f moment (DropDepend depend) quiet accepted allowed ok = absurd quiet
act_carries f moment (Pause job paused) quiet accepted allowed ok = pause_carries f paused (pending_named f job)
act_carries f moment (KillJob job) quiet accepted allowed ok = absurd quiet
act_carries f moment (KillFrame p) quiet accepted allowed ok = kill_frame_carries f p accepted
act_carries f moment (EatFrame p) quiet accepted allowed ok = absurd quiet
act_carries f moment (RetryFrame p) quiet accepted allowed ok = absurd quiet
act_carries f moment (Lock host lock) quiet accepted allowed ok = lock_carries f lock (host_named f host)
act_carries f moment Tick quiet accepted allowed ok = expire_carries f moment ok
act_carries f moment (Book slot host) quiet accepted allowed ok = book_carries f slot host moment allowed

sound_later : (f : Farm) (moment : ℕ) → IsSound f → IsSound (at_moment f moment)
sound_later f moment ok = record { cores = ok.cores; memory = ok.memory; attempts = ok.attempts }

-- at the entry's moment
pub quiet_carries : (f : Farm) (e : Entry) → IsQuiet e.act → act_refusal f e.act ≡ None → HasCondition f e.act → IsSound f → CarriesAll f (acted f e)
quiet_carries f e quiet accepted allowed ok =
    let moment = moment_of f e.moment in
    let now = at_moment f moment in
    all_then f now (acted f e) (all_same f now refl refl refl refl refl refl)
    (act_carries now moment e.act quiet (refusal_later f moment e.act ∙ accepted) (allowed_later f moment e.act allowed) (sound_later f moment ok))

-- ---- what follows

-- what the definitions say of an act that nothing follows
record SaysNothing (f g : Farm) (act : Act) : Type 0 where
  pub accepted : follow_refusal f act ≡ None
  pub farm : followed act g ≡ g
  pub counts : Counts f act 0

says_nothing : (f g : Farm) (act : Act) → IsQuiet act → SaysNothing f g act
says_nothing f g Opened quiet = record { accepted = refl; farm = refl; counts = tt }
says_nothing f g (Show name) quiet = record { accepted = refl; farm = refl; counts = tt }
says_nothing f g (Alloc facility tag) quiet = record { accepted = refl; farm = refl; counts = tt }
says_nothing f g (Sub line) quiet = record { accepted = refl; farm = refl; counts = tt }
says_nothing f g (Limit name most) quiet = record { accepted = refl; farm = refl; counts = tt }
says_nothing f g (Boot line) quiet = record { accepted = refl; farm = refl; counts = tt }
says_nothing f g (Heard heard) quiet = absurd quiet
says_nothing f g (Submit spec) quiet = absurd quiet
says_nothing f g (AddDepend spec) quiet = absurd quiet
says_nothing f g (DropDepend depend) quiet = absurd quiet
says_nothing f g (Pause job paused) quiet = record { accepted = refl; farm = refl; counts = tt }
says_nothing f g (KillJob job) quiet = absurd quiet
says_nothing f g (KillFrame p) quiet = record { accepted = refl; farm = refl; counts = tt }
says_nothing f g (EatFrame p) quiet = absurd quiet
says_nothing f g (RetryFrame p) quiet = absurd quiet
says_nothing f g (Lock host lock) quiet = record { accepted = refl; farm = refl; counts = tt }
says_nothing f g Tick quiet = record { accepted = refl; farm = refl; counts = tt }
says_nothing f g (Book slot host) quiet = record { accepted = refl; farm = refl; counts = tt }

pub none_differ : IsDistinct nat_eq []
unfolding IsDistinct
none_differ = tt

pub nothing_fits : (f g : Farm) → CarriesAll f g → FollowFits f g nothing_follows
nothing_fits f g c =
    record {
      groups_stay = λ i d at unmet. c.carries.same.groups i d at unmet;
      one_kind = inl ((refl, refl), refl);
      room = tt;
      drop_there = tt;
      done_differ = none_differ;
      undone = All-nil _;
      done_are = λ slot. c.done slot ∙ none_reopened (is_done f.slots slot);
      opened_movable = All-nil _;
      blocked_movable = All-nil _;
    }

nothing_after : (f g : Farm) (act : Act) → IsQuiet act → CarriesAll f g → with_met f ≡ f → Follows f g act nothing_follows
nothing_after f g act quiet c met =
    let says = says_nothing f g act quiet in
    record {
      accepted = says.accepted;
      fits = nothing_fits f g c;
      unreserved = refl;
      farm = met_stays f g c.carries.same c.done met ∙ sym says.farm;
      counts = says.counts;
    }

-- nothing follows
pub quiet_follows : (f : Farm) (b : DependLists) (e : Entry) (change : Change) → IsBeside f b → HasCondition (joined f b) e.act → Makes f e change → IsQuiet e.act
    → Follows (joined f b) (joined (after_change f change) b) e.act nothing_follows
quiet_follows f b e change whole allowed made quiet =
    let after : joined (after_change f change) b ≡ acted (joined f b) e = ap (λ (g : Farm). joined g b) made.farm ∙ joined_acted b f e in
    subst (λ (g : Farm). Follows (joined f b) g e.act nothing_follows) (sym after)
    (nothing_after (joined f b) (acted (joined f b) e) e.act quiet (quiet_carries (joined f b) e quiet (refusal_joined f b e.act ∙ made.accepted) allowed whole.kept.rows.sound) whole.kept.depends.met)

-- an act that none of these is
pub quiet_by : (act : Act) → ((heard : HeardAct) → act ≡ Heard heard → ⊥) → ((spec : JobSpec) → act ≡ Submit spec → ⊥) → ((spec : DependSpec) → act ≡ AddDepend spec → ⊥) → ((depend : ℕ) → act ≡ DropDepend depend → ⊥)
    → ((job : List ℕ) → act ≡ KillJob job → ⊥) → ((p : FramePlace) → act ≡ EatFrame p → ⊥) → ((p : FramePlace) → act ≡ RetryFrame p → ⊥) → IsQuiet act
quiet_by Opened heard submit add drop kill eat retry = tt
quiet_by (Show name) heard submit add drop kill eat retry = tt
quiet_by (Alloc facility tag) heard submit add drop kill eat retry = tt
quiet_by (Sub line) heard submit add drop kill eat retry = tt
quiet_by (Limit name most) heard submit add drop kill eat retry = tt
quiet_by (Boot line) heard submit add drop kill eat retry = tt
quiet_by (Heard of) heard submit add drop kill eat retry = heard of refl
quiet_by (Submit spec) heard submit add drop kill eat retry = submit spec refl
quiet_by (AddDepend spec) heard submit add drop kill eat retry = add spec refl
quiet_by (DropDepend depend) heard submit add drop kill eat retry = drop depend refl
quiet_by (Pause job paused) heard submit add drop kill eat retry = tt
quiet_by (KillJob job) heard submit add drop kill eat retry = kill job refl
quiet_by (KillFrame p) heard submit add drop kill eat retry = tt
quiet_by (EatFrame p) heard submit add drop kill eat retry = eat p refl
quiet_by (RetryFrame p) heard submit add drop kill eat retry = retry p refl
quiet_by (Lock host lock) heard submit add drop kill eat retry = tt
quiet_by Tick heard submit add drop kill eat retry = tt
quiet_by (Book slot host) heard submit add drop kill eat retry = tt
