-- What an event names, by the parts of a world.
use Rattle.std.proofs.Common.{◌≡◌, ◌∙◌, ℕ, List, Option, None, Some, Result, Ok, Err, IfSome, IsSome, IsSomeAnd, true, false, refl, sym, subst}
use Rattle.std.specs.Prelude.{⊤, slice_get}
use Rattle.std.proofs.lemmas.Bool.{false≢true}
use Rattle.std.proofs.lemmas.Option.{none-some}
use Rattle.farm_types.specs.declared.attempt.Attempt.{Attempt}
use Rattle.farm_types.specs.declared.attempt.Exit.{Exit}
use Rattle.rqd_core.specs.Life.{is_run}
use Rattle.world_law.specs.declared.event.Event.{Event}
use Rattle.world_law.specs.declared.event.Event.TheVariants as event
use Rattle.world_law.specs.declared.fault.WorldFault.{WorldFault}
use Rattle.world_law.specs.declared.fault.WorldFault.TheVariants as fault
use Rattle.world_law.specs.declared.lines.Sent.{Sent}
use Rattle.world_law.specs.declared.lines.Told.{Told}
use Rattle.world_law.specs.Lines.{MayRefuse}
use Rattle.world_law.specs.World.{History, Host, World}
use Rattle.world_core.specs.Naming.{HasFresh, HasFurther, HasHost, HasOne, HasRunning, IsFresh, IsLast, IsRunning, Names}
use Rattle.world_core.specs.Stepping.{Steps}
use Rattle.world_core.proofs.Steps.{none_there}

-- ---- what is found

none_and : {X : Type 0} (o : Option X) (P : X → Type 0) → o ≡ None → IsSomeAnd o P → ⊥
none_and None P is there = there
none_and (Some x) P is there = none-some x (sym is)

pub told_host : (found : Option Told) (t : Told) (hosts : List Host) (r : Result ⊤ WorldFault) → found ≡ Some t → HasOne (slice_get hosts t.host) r
    → HasHost found hosts r
told_host found t hosts r there one = subst (λ (o : Option Told). HasHost o hosts r) (sym there) (of_one r one)
  where
    of_one : (r : Result ⊤ WorldFault) → HasOne (slice_get hosts t.host) r → HasHost (Some t) hosts r
    of_one (Ok done) one = one
    of_one (Err fault.NoSuch) none = none
    of_one (Err (fault.UsedNonce nonce)) never = never
    of_one (Err fault.NoMemory) never = never

pub told_none : (found : Option Told) (hosts : List Host) → found ≡ None → HasHost found hosts (Err fault.NoSuch)
told_none found hosts none = subst (λ (o : Option Told). HasHost o hosts (Err fault.NoSuch)) (sym none) tt

pub running_there : (found : Option Host) (h : Host) (a : Attempt) (r : Result ⊤ WorldFault) → found ≡ Some h → IsRunning h a r → HasRunning found a r
running_there found h a r there runs = subst (λ (o : Option Host). HasRunning o a r) (sym there) (of_host r runs)
  where
    of_host : (r : Result ⊤ WorldFault) → IsRunning h a r → HasRunning (Some h) a r
    of_host (Ok done) runs = runs
    of_host (Err fault.NoSuch) idle = idle
    of_host (Err (fault.UsedNonce nonce)) never = never
    of_host (Err fault.NoMemory) never = never

pub running_none : (found : Option Host) (a : Attempt) → found ≡ None → HasRunning found a (Err fault.NoSuch)
running_none found a none = subst (λ (o : Option Host). HasRunning o a (Err fault.NoSuch)) (sym none) tt

pub fresh_there : (found : Option Host) (h : Host) (nonce : ℕ) (r : Result ⊤ WorldFault) → found ≡ Some h → IsFresh h nonce r → HasFresh found nonce r
fresh_there found h nonce r there fresh = subst (λ (o : Option Host). HasFresh o nonce r) (sym there) (of_host r fresh)
  where
    of_host : (r : Result ⊤ WorldFault) → IsFresh h nonce r → HasFresh (Some h) nonce r
    of_host (Ok done) fresh = fresh
    of_host (Err fault.NoSuch) never = absurd never
    of_host (Err (fault.UsedNonce told)) used = used
    of_host (Err fault.NoMemory) never = never

-- ---- what is named

names_host : (w : World) (host : ℕ) (r : Result ⊤ WorldFault) → HasOne (slice_get w.hosts host) r → Names w (event.Send host) r
unfolding Names
names_host w host (Ok done) one = one
names_host w host (Err fault.NoSuch) none = none_there (slice_get w.hosts host) none
names_host w host (Err (fault.UsedNonce nonce)) never = absurd never
names_host w host (Err fault.NoMemory) never = absurd never

names_line : (w : World) (line moment : ℕ) (refused : Option ℕ) (r : Result ⊤ WorldFault) → HasOne (slice_get w.sent line) r
    → Names w (event.ToCue line moment refused) r
unfolding Names
names_line w line moment refused (Ok done) one = one
names_line w line moment refused (Err fault.NoSuch) none = none_and (slice_get w.sent line) (λ (s : Sent). MayRefuse w s moment refused) none
names_line w line moment refused (Err (fault.UsedNonce nonce)) never = absurd never
names_line w line moment refused (Err fault.NoMemory) never = absurd never

names_told : (w : World) (line : ℕ) (r : Result ⊤ WorldFault) → HasHost (slice_get w.told line) w.hosts r → Names w (event.ToHost line) r
unfolding Names
names_told w line (Ok done) has = has
names_told w line (Err fault.NoSuch) none = no_host (slice_get w.told line) none
  where
    no_host : (o : Option Told) → IfSome o (λ (t : Told). slice_get w.hosts t.host ≡ None) → IsSomeAnd o (λ (t : Told). IsSome (slice_get w.hosts t.host)) → ⊥
    no_host None none there = there
    no_host (Some t) none there = none_there (slice_get w.hosts t.host) none there
names_told w line (Err (fault.UsedNonce nonce)) never = absurd never
names_told w line (Err fault.NoMemory) never = absurd never

names_attempt : (w : World) (host : ℕ) (a : Attempt) (exit : Exit) (r : Result ⊤ WorldFault) → HasRunning (slice_get w.hosts host) a r
    → Names w (event.Ended host a exit) r
unfolding Names
names_attempt w host a exit (Ok done) has = has
names_attempt w host a exit (Err fault.NoSuch) idle = not_running (slice_get w.hosts host) idle
  where
    not_running : (o : Option Host) → IfSome o (λ (h : Host). is_run a h.life.running ≡ false) → IsSomeAnd o (λ (h : Host). is_run a h.life.running ≡ true) → ⊥
    not_running None idle there = there
    not_running (Some h) idle there = false≢true (sym idle ∙ there)
names_attempt w host a exit (Err (fault.UsedNonce nonce)) never = absurd never
names_attempt w host a exit (Err fault.NoMemory) never = absurd never

names_nonce : (w : World) (host nonce : ℕ) (r : Result ⊤ WorldFault) → HasFresh (slice_get w.hosts host) nonce r → Names w (event.NewLife host nonce) r
unfolding Names
names_nonce w host nonce (Ok done) fresh = fresh
names_nonce w host nonce (Err fault.NoSuch) none = none_there (slice_get w.hosts host) none
names_nonce w host nonce (Err (fault.UsedNonce told)) used = used
names_nonce w host nonce (Err fault.NoMemory) never = absurd never

names_further : (w : World) (further : Option ℕ) (moment : ℕ) (r : Result ⊤ WorldFault) → HasFurther w.further further r
    → Names w (event.Restart further moment) r
unfolding Names
names_further w None moment (Ok done) has = tt
names_further w None moment (Err why) never = absurd never
names_further w (Some place) moment (Ok done) one = one
names_further w (Some place) moment (Err fault.NoSuch) none = none_there (slice_get w.further place) none
names_further w (Some place) moment (Err (fault.UsedNonce nonce)) never = absurd never
names_further w (Some place) moment (Err fault.NoMemory) never = absurd never

-- ---- so of an event, by lists that are those of a world

module _ (w v : World) (e : Event) (r : Result ⊤ WorldFault) (view : w ≡ v) where
  of_event : (named : Event) → e ≡ named → Names w named r → Names v e r
  of_event named is names = subst (λ (x : World). Names x e r) view (subst (λ (y : Event). Names w y r) (sym is) names)

  pub send_names : (hosts : List Host) (host : ℕ) → e ≡ event.Send host → hosts ≡ w.hosts → HasOne (slice_get hosts host) r → Names v e r
  send_names hosts host is same one =
      of_event (event.Send host) is (names_host w host r (subst (λ (xs : List Host). HasOne (slice_get xs host) r) same one))

  pub answer_names : (sent : List Sent) (line moment : ℕ) (refused : Option ℕ) → e ≡ event.ToCue line moment refused → sent ≡ w.sent
      → HasOne (slice_get sent line) r
      → Names v e r
  answer_names sent line moment refused is same one =
      of_event (event.ToCue line moment refused) is (names_line w line moment refused r (subst (λ (xs : List Sent). HasOne (slice_get xs line) r) same one))

  pub tell_names : (told : List Told) (hosts : List Host) (line : ℕ) → e ≡ event.ToHost line → told ≡ w.told → hosts ≡ w.hosts
      → HasHost (slice_get told line) hosts r → Names v e r
  tell_names told hosts line is same_told same has =
      of_event (event.ToHost line) is
      (names_told w line r
      (subst (λ (xs : List Told). HasHost (slice_get xs line) w.hosts r) same_told (subst (λ (xs : List Host). HasHost (slice_get told line) xs r) same has)))

  pub end_names : (hosts : List Host) (host : ℕ) (a : Attempt) (exit : Exit) → e ≡ event.Ended host a exit → hosts ≡ w.hosts
      → HasRunning (slice_get hosts host) a r → Names v e r
  end_names hosts host a exit is same has =
      of_event (event.Ended host a exit) is (names_attempt w host a exit r (subst (λ (xs : List Host). HasRunning (slice_get xs host) a r) same has))

  pub begin_names : (hosts : List Host) (host nonce : ℕ) → e ≡ event.NewLife host nonce → hosts ≡ w.hosts → HasFresh (slice_get hosts host) nonce r
      → Names v e r
  begin_names hosts host nonce is same has =
      of_event (event.NewLife host nonce) is (names_nonce w host nonce r (subst (λ (xs : List Host). HasFresh (slice_get xs host) nonce r) same has))

  pub restart_names : (histories : List History) (further : Option ℕ) (moment : ℕ) → e ≡ event.Restart further moment → histories ≡ w.further
      → HasFurther histories further r → Names v e r
  restart_names histories further moment is same has =
      of_event (event.Restart further moment) is (names_further w further moment r (subst (λ (xs : List History). HasFurther xs further r) same has))

-- ---- what comes of it

pub named_last : (w : World) (e : Event) (done : ⊤) (r : Result ⊤ WorldFault) → Names w e (Ok done) → IsLast w e r
unfolding Names
named_last w e done (Ok stepped) named = tt
named_last w e done (Err fault.NoSuch) named = tt
named_last w e done (Err (fault.UsedNonce nonce)) named = tt
named_last w e done (Err fault.NoMemory) named = named

pub unnamed_last : (w : World) (e : Event) (why : WorldFault) → Names w e (Err why) → IsLast w e (Err why)
unfolding Names
unnamed_last w e fault.NoSuch never = tt
unnamed_last w e (fault.UsedNonce nonce) used = tt
unnamed_last w e fault.NoMemory never = absurd never

pub unnamed_steps : (w : World) (e : Event) (why : WorldFault) → Names w e (Err why) → Steps w e (Err why) w
unfolding Names Steps
unnamed_steps w e fault.NoSuch not_there = (not_there, refl)
unnamed_steps w e (fault.UsedNonce nonce) used = (used, refl)
unnamed_steps w e fault.NoMemory never = absurd never
