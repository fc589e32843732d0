-- Attempts that are spent: their slot was used, and they are of a version below its own, or of its own while it has no live attempt.
use Rattle.std.proofs.Common.{◌≡◌, ℕ, ◌<◌, Bool, true, false, cond, eqb, ◌&&◌, List, length, Option, Some, None, refl, sym, ap, subst, ◌∙◌, arith, ◌⊎◌, inl, inr, ◌≢◌}
use Rattle.std.specs.List.{slice_get}
use Rattle.std.proofs.lemmas.Option.{none-some, same_Some, slice_get_within}
use Rattle.std.proofs.lemmas.Bool.{eqb-true}
use Rattle.farm_types.specs.declared.attempt.Attempt.{Attempt}
use Rattle.farm_types.specs.declared.attempt.DoneItem.{DoneItem}
use Rattle.farm_types.specs.declared.attempt.ProcRow.{ProcRow}
use Rattle.farm_types.specs.declared.slot_row.SlotRow.{SlotRow}
use Rattle.farm_types.specs.Farm.{Farm, changed_at}
use Rattle.farm_types.specs.Run.{IsSound, HasItsAttempt, is_same}
use Rattle.farm_types.specs.Step.{is_live, ended_row, end_attempt}
use Rattle.farm_types.proofs.Lists.{and_both, for_some_true, slice_get_below}
use Rattle.farm_types.proofs.Changed.{changed_at_each, length-changed_at, places}
use Rattle.farm_law.proofs.RowsStay.{SlotStays}
use Rattle.farm_law.proofs.RunningFrames.{frame_runs}
use Rattle.farm_types.proofs.Stays.{EachStays}

abbrev pub IsSpentAt : Attempt → SlotRow → Type 0
IsSpentAt a s = (a.version < s.version) ⊎ ((a.version ≡ s.version) × (s.proc ≡ None))

abbrev pub IsSpentIn : List SlotRow → Attempt → Type 0
IsSpentIn slots a = (a.slot < length slots) × ((s : SlotRow) → slice_get slots a.slot ≡ Some s → IsSpentAt a s)

abbrev pub IsSpent : Farm → Attempt → Type 0
IsSpent f a = IsSpentIn f.slots a

-- ---- a live attempt has its slot's version

live_version : (place : ℕ) (s : SlotRow) (p : ProcRow) → s.proc ≡ Some p → HasItsAttempt place s.version s.frame s.proc → p.version ≡ s.version
live_version place s p e h = (frame_runs place s.version s.frame p (subst (λ (o : Option ProcRow). HasItsAttempt place s.version s.frame o) e h)).4

-- the slot and the record of an attempt that is live
record LiveIn (f : Farm) (a : Attempt) : Type 0 where
  slot : SlotRow
  live : ProcRow
  slot_is : slice_get f.slots a.slot ≡ Some slot
  live_is : slot.proc ≡ Some live
  version : a.version ≡ slot.version

live_in : (f : Farm) (host boot : ℕ) (a : Attempt) → IsSound f → is_live f host boot a.slot a.version ≡ true → LiveIn f a
live_in f host boot a ok h =
    let s = for_some_true (slice_get f.slots a.slot) _ h in
    let p = for_some_true s.0.proc _ s.2 in
    let both = and_both (eqb p.0.version a.version && eqb p.0.host host) (eqb p.0.boot boot) p.2 in
    let first = and_both (eqb p.0.version a.version) (eqb p.0.host host) both.0 in
    record {
      slot = s.0;
      live = p.0;
      slot_is = s.1;
      live_is = p.1;
      version = sym (eqb-true p.0.version a.version first.0) ∙ live_version a.slot s.0 p.0 p.1 (ok.attempts a.slot s.0 s.1);
    }

spent_or_live : (a : Attempt) (s : SlotRow) (p : ProcRow) → s.proc ≡ Some p → a.version ≡ s.version → IsSpentAt a s → ⊥
spent_or_live a s p e v (inl below) = omega arith
spent_or_live a s p e v (inr h) = none-some p (sym h.1 ∙ e)

not_live_by : (f : Farm) (host boot : ℕ) (a : Attempt) (b : Bool) → IsSound f → IsSpent f a → is_live f host boot a.slot a.version ≡ b → b ≡ false
not_live_by f host boot a true ok spent e =
    let l = live_in f host boot a ok e in
    absurd (spent_or_live a l.slot l.live l.live_is l.version (spent.1 l.slot l.slot_is))
not_live_by f host boot a false ok spent e = refl

-- a spent attempt is never live
pub spent_not_live : (f : Farm) (host boot : ℕ) (a : Attempt) → IsSound f → IsSpent f a → is_live f host boot a.slot a.version ≡ false
spent_not_live f host boot a ok spent = not_live_by f host boot a (is_live f host boot a.slot a.version) ok spent refl

-- ---- spent stays spent

rises_or_stays : (a : Attempt) (old new : SlotRow) → SlotStays old new → a.version ≡ old.version → old.proc ≡ None → (old.version ≡ new.version) ⊎ (old.version ≢ new.version) → IsSpentAt a new
rises_or_stays a old new stays at none (inl same) = inr (at ∙ same, stays.proc same none)
rises_or_stays a old new stays at none (inr apart) = inl (omega (arith, stays.version, at, apart))

stays_spent : (a : Attempt) (old new : SlotRow) → SlotStays old new → IsSpentAt a old → IsSpentAt a new
stays_spent a old new stays (inl below) = inl (omega (arith, stays.version, below))
stays_spent a old new stays (inr has) = rises_or_stays a old new stays has.0 has.1 (places old.version new.version)

-- an attempt that is spent stays so while slots stay
pub spent_stays : (f g : Farm) → EachStays SlotStays f.slots g.slots → (a : Attempt) → IsSpent f a → IsSpent g a
spent_stays f g stays a spent =
    let old = slice_get_below f.slots a.slot spent.0 in
    let new = stays a.slot old.0 old.1 in (
      slice_get_within g.slots a.slot new.0 new.1,
      λ s at. subst (IsSpentAt a) (same_Some new.0 s (sym new.1 ∙ at)) (stays_spent a old.0 new.0 new.2 (spent.1 old.0 old.1)),
    )

-- ---- what counts is spent

live_ends : (f : Farm) (d : DoneItem) → LiveIn f d.attempt → IsSpent (record f { slots = changed_at f.slots d.attempt.slot (ended_row f d.exit) }) d.attempt
live_ends f d l = (
  omega (arith, length-changed_at f.slots d.attempt.slot (ended_row f d.exit), slice_get_within f.slots d.attempt.slot l.slot l.slot_is),
  λ s at.
      changed_at_each (λ k y. d.attempt.slot ≡ k → IsSpentAt d.attempt y) f.slots d.attempt.slot (ended_row f d.exit)
      (λ x here e. inr (l.version ∙ ap (λ (r : SlotRow). r.version) (same_Some l.slot x (sym l.slot_is ∙ here)), refl))
      (λ k x apart there e. absurd (apart (sym e)))
      d.attempt.slot s at refl,
)

-- a completion that counts leaves its attempt spent
pub counted_spent : (f : Farm) (host boot : ℕ) (d : DoneItem) → IsSound f → is_live f host boot d.attempt.slot d.attempt.version ≡ true → IsSpent (end_attempt f host boot d) d.attempt
counted_spent f host boot d ok h =
    subst (λ (b : Bool). IsSpent (cond b (record f { slots = changed_at f.slots d.attempt.slot (ended_row f d.exit) }) f) d.attempt) (sym h) (live_ends f d (live_in f host boot d.attempt ok h))

same_slot : (a b : Attempt) → is_same a b ≡ true → (a.slot ≡ b.slot) × (a.version ≡ b.version)
same_slot a b h =
    let both = and_both (eqb a.slot b.slot) (eqb a.version b.version) h in
    (eqb-true a.slot b.slot both.0, eqb-true a.version b.version both.1)

at_version : (a b : Attempt) (s : SlotRow) → a.version ≡ b.version → IsSpentAt a s → IsSpentAt b s
at_version a b s e (inl below) = inl (omega arith)
at_version a b s e (inr h) = inr (sym e ∙ h.0, h.1)

-- an attempt of the same slot and version is spent with it
pub spent_same : (f : Farm) (a b : Attempt) → is_same a b ≡ true → IsSpent f a → IsSpent f b
spent_same f a b h spent =
    let same = same_slot a b h in (
      omega (arith, same.0, spent.0),
      λ s at. at_version a b s same.1 (spent.1 s (subst (λ (n : ℕ). slice_get f.slots n ≡ Some s) (sym same.0) at)),
    )
