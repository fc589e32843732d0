-- An event has one outcome: it happens in one way, or it has one fault.
use Rattle.std.proofs.Common.{◌≡◌, ℕ, List, [], ◌∷◌, ◌++◌, Option, None, Some, Result, Ok, Err, refl, sym, ap, ◌∙◌, inl, inr, append-nil, append_assoc}
use Rattle.std.specs.List.{slice_get}
use Rattle.std.specs.Prelude.{⊤, IsSome, IsSomeAnd}
use Rattle.std.proofs.lemmas.Bool.{false≢true}
use Rattle.farm_types.specs.Farm.{Farm}
use Rattle.farm_types.specs.Run.{run_of}
use Rattle.world_law.specs.declared.event.Event.{Event}
use Rattle.world_law.specs.declared.event.Event.TheVariants as event
use Rattle.world_law.specs.declared.fault.WorldFault.{WorldFault}
use Rattle.world_law.specs.declared.fault.WorldFault.TheVariants as fault
use Rattle.world_law.specs.declared.lines.Sent.{Sent}
use Rattle.world_law.specs.declared.lines.Told.{Told}
use Rattle.world_law.specs.Happens.{Does, Happen, noted}
use Rattle.world_law.specs.Lines.{AreLeft, IsAnswered, answered, with_answer}
use Rattle.world_law.specs.Outcomes.{HasMemory, IsThere, IsUsed, Outcome}
use Rattle.world_law.specs.World.{History, World}

-- ---- what is there once

module _ {X : Type 0} (C : Type 0) (P Q : X → Type 0) (joined : (x : X) → P x → Q x → C) where
  with_both : (o : Option X) → IsSomeAnd o P → IsSomeAnd o Q → C
  with_both None p q = absurd p
  with_both (Some x) p q = joined x p q

module _ {X : Type 0} (P Q : X → Type 0) (goes : (x : X) → P x → Q x) where
  and_goes : (o : Option X) → IsSomeAnd o P → IsSomeAnd o Q
  and_goes None p = absurd p
  and_goes (Some x) p = goes x p

module _ {X : Type 0} (P : X → Type 0) where
  and_there : (o : Option X) → IsSomeAnd o P → IsSome o
  and_there None p = absurd p
  and_there (Some x) p = refl

-- ---- an event happens in one way

left_once : (f g : Farm) (olds a b : List History) → AreLeft f g olds a → AreLeft f g olds b → b ≡ a
left_once f g olds a b (inl x) (inl y) = y.1 ∙ sym x.1
left_once f g olds a b (inl x) (inr y) = absurd (x.0 y.0)
left_once f g olds a b (inr x) (inl y) = absurd (y.0 x.0)
left_once f g olds a b (inr x) (inr y) = y.1 ∙ sym x.1

answered_once : (w : World) (line : ℕ) (s : Sent) (moment : ℕ) (refused : Option ℕ) (a b : World) → IsAnswered w line s moment refused a → IsAnswered w line s moment refused b → b ≡ a
answered_once w line s moment refused a b x y =
    y.is ∙ (ap (λ (left : List History). with_answer w line s moment refused left) (left_once w.now.farm (run_of w.now.farm (answered w s moment refused).entries) w.further x.left y.left x.are_left y.are_left) ∙ sym x.is)

does_once : (w : World) (e : Event) (a b : World) → Does w e a → Does w e b → b ≡ a
does_once w (event.Send host) a b x y = with_both (b ≡ a) _ _ (λ h p q. q ∙ sym p) (slice_get w.hosts host) x y
does_once w (event.ToCue line moment refused) a b x y = with_both (b ≡ a) _ _ (λ s p q. answered_once w line s moment refused a b p q) (slice_get w.sent line) x y
does_once w (event.ToHost line) a b x y =
    with_both (b ≡ a) _ _ (λ (t : Told) p q. with_both (b ≡ a) _ _ (λ h r s. s ∙ sym r) (slice_get w.hosts t.host) p q) (slice_get w.told line) x y
does_once w (event.Ended host attempt exit) a b x y = with_both (b ≡ a) _ _ (λ h p q. q.1 ∙ sym p.1) (slice_get w.hosts host) x y
does_once w (event.NewLife host nonce) a b x y = with_both (b ≡ a) _ _ (λ h p q. q.1 ∙ sym p.1) (slice_get w.hosts host) x y
does_once w (event.Restart None moment) a b x y = y ∙ sym x
does_once w (event.Restart (Some place) moment) a b x y = with_both (b ≡ a) _ _ (λ h p q. q ∙ sym p) (slice_get w.further place) x y

-- ---- what happens is there, and its nonce is new

does_there : (w : World) (e : Event) (a : World) → Does w e a → IsThere w e
does_there w (event.Send host) a x = and_there _ (slice_get w.hosts host) x
does_there w (event.ToCue line moment refused) a x = and_goes _ _ (λ s p. p.may) (slice_get w.sent line) x
does_there w (event.ToHost line) a x = and_goes _ _ (λ (t : Told) p. and_there _ (slice_get w.hosts t.host) p) (slice_get w.told line) x
does_there w (event.Ended host attempt exit) a x = and_goes _ _ (λ h p. p.0) (slice_get w.hosts host) x
does_there w (event.NewLife host nonce) a x = and_there _ (slice_get w.hosts host) x
does_there w (event.Restart None moment) a x = tt
does_there w (event.Restart (Some place) moment) a x = and_there _ (slice_get w.further place) x

does_fresh : (w : World) (e : Event) (a : World) (told : ℕ) → Does w e a → IsUsed w e told → ⊥
does_fresh w (event.NewLife host nonce) a told x used = with_both ⊥ _ _ (λ h p q. false≢true (sym p.0 ∙ q)) (slice_get w.hosts host) x used.1
does_fresh w (event.Send host) a told x used = used
does_fresh w (event.ToCue line moment refused) a told x used = used
does_fresh w (event.ToHost line) a told x used = used
does_fresh w (event.Ended host attempt exit) a told x used = used
does_fresh w (event.Restart further moment) a told x used = used

used_there : (w : World) (e : Event) (told : ℕ) → IsUsed w e told → IsThere w e
used_there w (event.NewLife host nonce) told used = and_there _ (slice_get w.hosts host) used.1
used_there w (event.Send host) told used = absurd used
used_there w (event.ToCue line moment refused) told used = absurd used
used_there w (event.ToHost line) told used = absurd used
used_there w (event.Ended host attempt exit) told used = absurd used
used_there w (event.Restart further moment) told used = absurd used

used_once : (w : World) (e : Event) (m n : ℕ) → IsUsed w e m → IsUsed w e n → n ≡ m
used_once w (event.NewLife host nonce) m n x y = y.0 ∙ sym x.0
used_once w (event.Send host) m n x y = absurd x
used_once w (event.ToCue line moment refused) m n x y = absurd x
used_once w (event.ToHost line) m n x y = absurd x
used_once w (event.Ended host attempt exit) m n x y = absurd x
used_once w (event.Restart further moment) m n x y = absurd x

-- what is said of the world with the event noted is said of the world
noted_there : (w : World) (e : Event) → IsThere (noted w e) e → IsThere w e
noted_there w (event.Send host) x = x
noted_there w (event.ToCue line moment refused) x = x
noted_there w (event.ToHost line) x = x
noted_there w (event.Ended host attempt exit) x = x
noted_there w (event.NewLife host nonce) x = x
noted_there w (event.Restart None moment) x = x
noted_there w (event.Restart (Some place) moment) x = x

used_noted : (w : World) (e : Event) (told : ℕ) → IsUsed w e told → IsUsed (noted w e) e told
used_noted w (event.NewLife host nonce) told x = x
used_noted w (event.Send host) told x = x
used_noted w (event.ToCue line moment refused) told x = x
used_noted w (event.ToHost line) told x = x
used_noted w (event.Ended host attempt exit) told x = x
used_noted w (event.Restart further moment) told x = x

-- ---- outcomes

abbrev refused : ℕ → Result ⊤ WorldFault
refused nonce = Err (fault.UsedNonce nonce)

pub one_outcome : (w : World) (e : Event) (r s : Result ⊤ WorldFault) (a b : World) → Outcome w e r a → Outcome w e s b → HasMemory r → HasMemory s → (s ≡ r) × (b ≡ a)
one_outcome w e (Ok x) (Ok y) a b first second m n = (refl, does_once (noted w e) e a b first second)
one_outcome w e (Ok x) (Err fault.NoSuch) a b first second m n = absurd (second.0 (noted_there w e (does_there (noted w e) e a first)))
one_outcome w e (Ok x) (Err (fault.UsedNonce nonce)) a b first second m n = absurd (does_fresh (noted w e) e a nonce first (used_noted w e nonce second.0))
one_outcome w e (Ok x) (Err fault.NoMemory) a b first second m n = absurd n
one_outcome w e (Err fault.NoSuch) (Ok y) a b first second m n = absurd (first.0 (noted_there w e (does_there (noted w e) e b second)))
one_outcome w e (Err fault.NoSuch) (Err fault.NoSuch) a b first second m n = (refl, second.1 ∙ sym first.1)
one_outcome w e (Err fault.NoSuch) (Err (fault.UsedNonce nonce)) a b first second m n = absurd (first.0 (used_there w e nonce second.0))
one_outcome w e (Err fault.NoSuch) (Err fault.NoMemory) a b first second m n = absurd n
one_outcome w e (Err (fault.UsedNonce nonce)) (Ok y) a b first second m n = absurd (does_fresh (noted w e) e b nonce second (used_noted w e nonce first.0))
one_outcome w e (Err (fault.UsedNonce nonce)) (Err fault.NoSuch) a b first second m n = absurd (second.0 (used_there w e nonce first.0))
one_outcome w e (Err (fault.UsedNonce nonce)) (Err (fault.UsedNonce other)) a b first second m n =
    (ap (λ (k : ℕ). refused k) (used_once w e nonce other first.0 second.0), second.1 ∙ sym first.1)
one_outcome w e (Err (fault.UsedNonce nonce)) (Err fault.NoMemory) a b first second m n = absurd n
one_outcome w e (Err fault.NoMemory) s a b first second m n = absurd m

-- ---- the events of a world are those that were taken

does_noted : (w : World) (e : Event) (a : World) → Does w e a → a.events ≡ w.events
does_noted w (event.Send host) a x = with_both (a.events ≡ w.events) _ _ (λ h p q. ap (λ (v : World). v.events) q) (slice_get w.hosts host) x x
does_noted w (event.ToCue line moment refused) a x = with_both (a.events ≡ w.events) _ _ (λ s p q. ap (λ (v : World). v.events) q.is) (slice_get w.sent line) x x
does_noted w (event.ToHost line) a x =
    with_both (a.events ≡ w.events) _ _ (λ (t : Told) p q. with_both (a.events ≡ w.events) _ _ (λ h r s. ap (λ (v : World). v.events) s) (slice_get w.hosts t.host) q q)
    (slice_get w.told line) x x
does_noted w (event.Ended host attempt exit) a x = with_both (a.events ≡ w.events) _ _ (λ h p q. ap (λ (v : World). v.events) q.1) (slice_get w.hosts host) x x
does_noted w (event.NewLife host nonce) a x = with_both (a.events ≡ w.events) _ _ (λ h p q. ap (λ (v : World). v.events) q.1) (slice_get w.hosts host) x x
does_noted w (event.Restart None moment) a x = ap (λ (v : World). v.events) x
does_noted w (event.Restart (Some place) moment) a x = with_both (a.events ≡ w.events) _ _ (λ h p q. ap (λ (v : World). v.events) q) (slice_get w.further place) x x

pub all_noted : (w : World) (es : List Event) (new : World) → Happen w es new → new.events ≡ w.events ++ es
all_noted w [] new happen = ap (λ (v : World). v.events) happen ∙ sym (append-nil w.events)
all_noted w (e ∷ es) new happen =
    all_noted happen.0 es new happen.2 ∙ (ap (λ (xs : List Event). xs ++ es) (does_noted (noted w e) e happen.0 happen.1) ∙ append_assoc w.events (e ∷ []) es)
