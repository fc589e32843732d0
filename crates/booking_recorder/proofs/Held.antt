-- A host that isn't given another size, as not all of it is free.
use Rattle.std.proofs.Common.{◌≡◌, ℕ, [], ◌∷◌, Result, Err, inl, inr, refl, sym, ap, ◌∙◌, subst}
use Rattle.std.specs.Prelude.{Option, Some, None, false}
use Rattle.farm_types.specs.declared.entry.Entry.{Entry}
use Rattle.farm_types.specs.Farm.{Farm}
use Rattle.farm_types.specs.Step.{after}
use Rattle.farm_keeper.specs.Keeping.{Committing}
use Rattle.frame_words.specs.declared.host_word.HostWord.{HostWord}
use Rattle.frame_words.specs.Bits.{host_bits}
use Rattle.booking_rule.specs.declared.noted.Noted.{Noted}
use Rattle.booking_rule.specs.declared.view.View.{View}
use Rattle.booking_rule.specs.Kept.{farm_in}
use Rattle.booking_rule.specs.Views.{noted}
use Rattle.booking_rule.specs.Words.{host_place}
use Rattle.booking_core.specs.Kinds.{host_less, host_tried, loaded}
use Rattle.booking_table.specs.Calls.{IsOtherFree}
use Rattle.recording_turns.specs.Owing.{Resizes}
use Rattle.recording_turns.specs.Resting.{IsAtRest}
use Rattle.recording_turns.specs.Sizes.{free_of}
use Rattle.booking_recorder.specs.declared.refusal.RecordFault.{RecordFault}
use Rattle.booking_recorder.specs.declared.refusal.RecordFault.TheVariants as fault
use Rattle.booking_recorder.specs.Entries.{IsHeldBy, Records, TellsRecord}
use Rattle.booking_recorder.specs.Faults.{is_store_fault}
use Rattle.booking_recorder.specs.Views.{Enters, IsHeldOn, Stays}
use Rattle.booking_recorder.proofs.Rests.{farm_stays, stays_then}

one_more : (v : View) (item : Noted) → Stays v (noted v item)
one_more v item = record { like = refl; split = refl; trail = (item ∷ [], refl) }

stays_other : (v : View) (host : ℕ) (free found : HostWord) (w : View) → IsOtherFree v host free found w → Stays v w
stays_other v host free found w (other, inl is) = subst (Stays v) (sym is) (one_more v _)
stays_other v host free found w (other, inr is) =
    let u : View = loaded v (host_place host) (host_bits free) in
    subst (Stays v) (sym is)
    (stays_then v u _ (one_more v _) (one_more u (host_tried host (host_less (host_bits free) free.cores free.memory) (host_bits found))))

stays_held : (v : View) (f : Farm) (resized : Option ℕ) (found : HostWord) (w : View) → IsHeldOn v f resized found w → Stays v w
stays_held v f None found w held = absurd held
stays_held v f (Some host) found w held = stays_other v host (free_of f host) found w held.other

pub rests_held : (v : View) (f : Farm) (resized : Option ℕ) (found : HostWord) (w : View) → IsHeldOn v f resized found w → IsAtRest w
rests_held v f None found w held = absurd held
rests_held v f (Some host) found w held = held.rests

pub leads_held : (v : View) (f : Farm) (resized : Option ℕ) (found : HostWord) (w : View) → f ≡ farm_in v → IsHeldOn v f resized found w → f ≡ farm_in w
leads_held v f resized found w leads held = leads ∙ sym (farm_stays v w (stays_held v f resized found w held))

held_on : (f : Farm) (e : Entry) (v : View) (resized : Option ℕ) (found : HostWord) (w : View) → Resizes f (after f e) resized → IsHeldOn v f resized found w
    → IsHeldBy {T = Unit {0}} f e v (Err (fault.Held found.cores found.memory)) w
held_on f e v None found w resizes held = absurd held
held_on f e v (Some host) found w resizes held = record { host = host; resizes = resizes; held = held }

pub is_held : (f : Farm) (e : Entry) (v : View) (resized : Option ℕ) (found : HostWord) (w : View) (r : Result (Unit {0}) RecordFault)
    → r ≡ Err (fault.Held found.cores found.memory) → Resizes f (after f e) resized → IsHeldOn v f resized found w → IsHeldBy f e v r w
is_held f e v resized found w r is resizes held =
    subst (λ (q : Result (Unit {0}) RecordFault). IsHeldBy f e v q w) (sym is) (held_on f e v resized found w resizes held)

-- ---- a fault that is known

pub enters_none : (v w : View) (e : Entry) (why : RecordFault) (r : Result (Unit {0}) RecordFault) → r ≡ Err why → Stays v w → Enters v e r w
enters_none v w e why r is stays = subst (λ (q : Result (Unit {0}) RecordFault). Enters v e q w) (sym is) stays

pub enters_held : (v : View) (f : Farm) (e : Entry) (resized : Option ℕ) (found : HostWord) (w : View) (why : RecordFault) (r : Result (Unit {0}) RecordFault)
    → r ≡ Err why → IsHeldOn v f resized found w → Enters v e r w
enters_held v f e resized found w why r is held = enters_none v w e why r is (stays_held v f resized found w held)

pub is_held_none : (f : Farm) (e : Entry) (v w : View) (r : Result (Unit {0}) RecordFault) → r ≡ Err fault.NoMemory → IsHeldBy f e v r w
is_held_none f e v w r is = subst (λ (q : Result (Unit {0}) RecordFault). IsHeldBy f e v q w) (sym is) tt

pub is_held_spent : (f : Farm) (e : Entry) (v w : View) (r : Result (Unit {0}) RecordFault) → r ≡ Err fault.Spent → IsHeldBy f e v r w
is_held_spent f e v w r is = subst (λ (q : Result (Unit {0}) RecordFault). IsHeldBy f e v q w) (sym is) tt

pub records_none : (f changed : Farm) (r : Result (Unit {0}) RecordFault) → r ≡ Err fault.NoMemory → Records f changed r f
records_none f changed r is = subst (λ (q : Result (Unit {0}) RecordFault). Records f changed q f) (sym is) refl

pub records_held : (f changed : Farm) (cores memory : ℕ) (r : Result (Unit {0}) RecordFault) → r ≡ Err (fault.Held cores memory) → Records f changed r f
records_held f changed cores memory r is = subst (λ (q : Result (Unit {0}) RecordFault). Records f changed q f) (sym is) refl

pub records_spent : (f changed : Farm) (r : Result (Unit {0}) RecordFault) → r ≡ Err fault.Spent → Records f changed r f
records_spent f changed r is = subst (λ (q : Result (Unit {0}) RecordFault). Records f changed q f) (sym is) refl

pub unstored_none : (r : Result (Unit {0}) RecordFault) → r ≡ Err fault.NoMemory → is_store_fault r ≡ false
unstored_none r is = ap is_store_fault is

pub unstored_held : (cores memory : ℕ) (r : Result (Unit {0}) RecordFault) → r ≡ Err (fault.Held cores memory) → is_store_fault r ≡ false
unstored_held cores memory r is = ap is_store_fault is

pub unstored_spent : (r : Result (Unit {0}) RecordFault) → r ≡ Err fault.Spent → is_store_fault r ≡ false
unstored_spent r is = ap is_store_fault is

module _ {K : Type 0} (commits : Committing K) (f : Farm) (e : Entry) (k : K) (r : Result (Unit {0}) RecordFault) where
  pub tells_none : r ≡ Err fault.NoMemory → TellsRecord commits f e r k k
  tells_none is = subst (λ (q : Result (Unit {0}) RecordFault). TellsRecord commits f e q k k) (sym is) (inl refl)

  pub tells_held : (cores memory : ℕ) → r ≡ Err (fault.Held cores memory) → TellsRecord commits f e r k k
  tells_held cores memory is = subst (λ (q : Result (Unit {0}) RecordFault). TellsRecord commits f e q k k) (sym is) refl

  pub tells_spent : r ≡ Err fault.Spent → TellsRecord commits f e r k k
  tells_spent is = subst (λ (q : Result (Unit {0}) RecordFault). TellsRecord commits f e q k k) (sym is) refl
