-- A line that is answered.
use Rattle.std.proofs.Common.{◌≡◌, ◌∙◌, ℕ, List, [], ◌∷◌, ◌++◌, Option, None, Some, Result, Ok, Err, Bool, true, false, IsSomeAnd, inl, inr, refl, sym, subst}
use Rattle.std.specs.Prelude.{⊤, option_to_list, slice_get}
use Rattle.std.proofs.lemmas.Option.{none-some}
use Rattle.farm_types.specs.declared.entry.Entry.{Entry}
use Rattle.farm_types.specs.Farm.{Farm}
use Rattle.farm_types.specs.Run.{run_of}
use Rattle.farm_lines.specs.declared.reply.Reply.{Reply}
use Rattle.farm_lines.specs.Reply.{reply_text}
use Rattle.farm_lines.specs.Transcript.{answer_to}
use Rattle.world_law.specs.declared.event.Event.TheVariants as event
use Rattle.world_law.specs.declared.fault.WorldFault.{WorldFault}
use Rattle.world_law.specs.declared.fault.WorldFault.TheVariants as fault
use Rattle.world_law.specs.declared.lines.Sent.{Sent}
use Rattle.world_law.specs.declared.lines.Told.{Told}
use Rattle.world_law.specs.Counting.{counts_from}
use Rattle.world_law.specs.Lines.{AreLeft, IsAnswered, MayRefuse, entries_of, mark_of, refused_history, replies_to, with_answer}
use Rattle.world_law.specs.World.{History, World}
use Rattle.world_answers.specs.declared.trial.Further.{Further}
use Rattle.world_answers.specs.declared.trial.Trial.{Trial}
use Rattle.world_answers.specs.Trials.{AreStored, HasFurther, IsTrial}
use Rattle.world_core.specs.declared.answering.Turn.{Turn}
use Rattle.world_core.specs.Answering.{Installs, IsTurn, Puts, Turns, answered_world, history_if, left_if, reply_if, turned}
use Rattle.world_core.specs.Stepping.{Comes}

-- ---- what an answer changes

pub puts_turn : (w : World) (x : Turn) (r : Result ⊤ WorldFault) (now : History) (further : List History) (entries : List Entry) (told : List Told)
    → Puts w.now w.further w.entries w.told x r now further entries told
    → Turns w x r (record w { now = now; further = further; entries = entries; told = told })
unfolding Turns
puts_turn w x (Ok done) now further entries told (a, b, c, d) = λ i. record w { now = a i; further = b i; entries = c i; told = d i }
puts_turn w x (Err fault.NoMemory) now further entries told (a, b, c, d) = λ i. record w { now = a i; further = b i; entries = c i; told = d i }
puts_turn w x (Err fault.NoSuch) now further entries told never = absurd never
puts_turn w x (Err (fault.UsedNonce nonce)) now further entries told never = absurd never

turned_is : (w : World) (line : ℕ) (host : Option ℕ) (t : Trial) (x : Turn) → IsTurn w.now line host t x → turned w x ≡ answered_world w line host t
turned_is w line host t x is =
    λ i. record w {
      now = is.now i;
      further = left_if (is.stored i) w.further ++ option_to_list (is.made i);
      entries = w.entries ++ is.entries i;
      told = w.told ++ option_to_list (is.told i);
    }

pub turns_install : (w : World) (line : ℕ) (host : Option ℕ) (t : Trial) (x : Turn) (r : Result ⊤ WorldFault) (new : World) → IsTurn w.now line host t x
    → Turns w x r new → Installs w line host t r new
unfolding Turns
turns_install w line host t x (Ok done) new is turns = turns ∙ turned_is w line host t x is
turns_install w line host t x (Err fault.NoMemory) new is turns = turns
turns_install w line host t x (Err fault.NoSuch) new is never = absurd never
turns_install w line host t x (Err (fault.UsedNonce nonce)) new is never = absurd never

-- ---- what it does

are_left : (stored : Bool) (f g : Farm) (olds : List History) → AreStored stored f g → AreLeft f g olds (left_if stored olds)
are_left true f g olds differ = inl (differ, refl)
are_left false f g olds same = inr (same, refl)

-- the refused commit's history stands alone, where there is one
refused_is : (h : History) (line : ℕ) (host : Option ℕ) (es : List Entry) (refused : Option ℕ) (made : Option Further) → HasFurther h.farm es refused made
    → option_to_list (history_if h.counted line host made) ≡ refused_history h line host es refused
refused_is h line host es None None has = refl
refused_is h line host es None (Some further) has = absurd has
refused_is h line host es (Some k) None has = absurd has
refused_is h line host es (Some k) (Some further) has = λ i. record { farm = has.farm i; counted = h.counted ++ counts_from line host (has.ends i) } ∷ []

reply_is : (host : Option ℕ) (line : List ℕ) (r : Reply) → line ≡ reply_text r → option_to_list (reply_if host line) ≡ replies_to host r
reply_is None line r is = refl
reply_is (Some host) line r is = λ i. record { host = host; line = is i } ∷ []

answer_is : (w : World) (line : ℕ) (s : Sent) (moment : ℕ) (refused : Option ℕ) (t : Trial) → IsTrial w.now.farm (answer_to w.now.farm s.line moment) refused t
    → answered_world w line s.host t ≡ with_answer w line s moment refused (left_if t.stored w.further)
answer_is w line s moment refused t is =
    let further = refused_is w.now line s.host (entries_of w s moment) refused t.further is.further in
    let reply = reply_is s.host t.reply (answer_to w.now.farm s.line moment (mark_of refused)).reply is.reply in
    λ i. record w {
      now = record { farm = is.farm i; counted = w.now.counted ++ counts_from line s.host (is.ends i) };
      further = left_if t.stored w.further ++ further i;
      entries = w.entries ++ is.entries i;
      told = w.told ++ reply i;
    }

is_answered : (w : World) (line : ℕ) (s : Sent) (moment : ℕ) (refused : Option ℕ) (t : Trial) (new : World)
    → IsTrial w.now.farm (answer_to w.now.farm s.line moment) refused t
    → new ≡ answered_world w line s.host t → IsAnswered w line s moment refused new
is_answered w line s moment refused t new is same =
    record {
      may = is.may;
      left = left_if t.stored w.further;
      are_left = are_left t.stored w.now.farm (run_of w.now.farm (answer_to w.now.farm s.line moment (mark_of refused)).entries) w.further is.stored;
      is = same ∙ answer_is w line s moment refused t is;
    }

pub answered_comes : (w : World) (line : ℕ) (s : Sent) (moment : ℕ) (refused : Option ℕ) (t : Trial) (done : ⊤) (new : World) → slice_get w.sent line ≡ Some s
    → IsTrial w.now.farm (answer_to w.now.farm s.line moment) refused t → new ≡ answered_world w line s.host t
    → Comes w (event.ToCue line moment refused) (Ok done) new
unfolding Comes
answered_comes w line s moment refused t done new there is same =
    subst (λ (o : Option Sent). IsSomeAnd o (λ s. IsAnswered w line s moment refused new)) (sym there) (is_answered w line s moment refused t new is same)

pub installed_comes : (w : World) (line : ℕ) (s : Sent) (moment : ℕ) (refused : Option ℕ) (t : Trial) (r : Result ⊤ WorldFault) (new : World)
    → slice_get w.sent line ≡ Some s
    → IsTrial w.now.farm (answer_to w.now.farm s.line moment) refused t → Installs w line s.host t r new → Comes w (event.ToCue line moment refused) r new
unfolding Comes
installed_comes w line s moment refused t (Ok done) new there is same = answered_comes w line s moment refused t done new there is same
installed_comes w line s moment refused t (Err fault.NoMemory) new there is same = same
installed_comes w line s moment refused t (Err fault.NoSuch) new there is never = absurd never
installed_comes w line s moment refused t (Err (fault.UsedNonce nonce)) new there is never = absurd never

-- there is no such line
pub unsent_comes : (w : World) (line moment : ℕ) (refused : Option ℕ) → slice_get w.sent line ≡ None
    → Comes w (event.ToCue line moment refused) (Err fault.NoSuch) w
unfolding Comes
unsent_comes w line moment refused none = (none_sent (slice_get w.sent line) none, refl)
  where
    none_sent : (o : Option Sent) → o ≡ None → IsSomeAnd o (λ (s : Sent). MayRefuse w s moment refused) → ⊥
    none_sent None is there = there
    none_sent (Some s) is there = none-some s (sym is)

-- the line has no such commit
pub unmade_comes : (w : World) (line : ℕ) (s : Sent) (moment : ℕ) (refused : Option ℕ) → slice_get w.sent line ≡ Some s → (MayRefuse w s moment refused → ⊥)
    → Comes w (event.ToCue line moment refused) (Err fault.NoSuch) w
unfolding Comes
unmade_comes w line s moment refused there never =
    ((λ named. never (subst (λ (o : Option Sent). IsSomeAnd o (λ s. MayRefuse w s moment refused)) there named)), refl)
