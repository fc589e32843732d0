-- The live attempts stay known, and the subscriptions' numbers small.
use Rattle.std.proofs.Common.{◌≡◌, ℕ, zero, suc, ◌+◌, ◌<◌, ◌≤◌, Bool, true, false, cond, eqb, ltb, List, [], ◌∷◌, ◌++◌, length, replicate, Option, Some, None, refl, sym, ap, subst, ◌∙◌, inl, inr, arith, length-append}
use Rattle.std.specs.Prelude.{is_some}
use Rattle.std.specs.Cmp.Derive.{both_true}
use Rattle.std.specs.List.{find, list_all, slice_get, slice_set}
use Rattle.std.proofs.Math.ListN.{length-set}
use Rattle.std.proofs.lemmas.Bool.{eqb-true, false≢true, lt-ltb, ltb-true}
use Rattle.std.proofs.lemmas.List.{length-replicate}
use Rattle.std.proofs.lemmas.Option.{none-some, same_Some}
use Rattle.farm_types.specs.declared.attempt.ProcRow.{ProcRow}
use Rattle.farm_types.specs.declared.limits.TheConstants.{SLOT_LIMIT, SUB_NUMBERS}
use Rattle.farm_types.specs.declared.rows.SubRow.{SubRow}
use Rattle.farm_types.specs.Subs.{with_sub}
use Rattle.farm_types.proofs.Changed.{places, slice_get-set_other, slice_get-set_same}
use Rattle.farm_types.proofs.Lists.{and_both, find_passes, found_is}
use Rattle.sub_ledger.specs.Ledger.{IsWithin, Ledger, no_subs}
use Rattle.attempt_book.specs.Book.{AttemptLists, flat, live_in, no_attempts}
use Rattle.attempt_book.specs.Inside.{IsKnown, KeepsKnown}
use Rattle.attempt_book.proofs.KeptWays.{live_before}

abbrev is_there : ℕ → List SubRow → Type 0
is_there n ss = is_some (find (λ (s : SubRow). eqb s.sub n) ss) ≡ true

abbrev is_below : SubRow → Bool
is_below s = ltb s.sub SUB_NUMBERS

-- ---- a subscription that is there

there_by : (o : Option SubRow) (booked : ℕ) → IsWithin o booked → is_some o ≡ true
there_by None booked within = absurd within
there_by (Some s) booked within = refl

pub within_there : (subs : List SubRow) (n booked : ℕ) → IsWithin (find (λ (s : SubRow). eqb s.sub n) subs) booked → is_some (find (λ (s : SubRow). eqb s.sub n) subs) ≡ true
within_there subs n booked within = there_by (find (λ (s : SubRow). eqb s.sub n) subs) booked within

number_by : (subs : List SubRow) (n : ℕ) (o : Option SubRow) → list_all is_below subs ≡ true → find (λ (s : SubRow). eqb s.sub n) subs ≡ o → is_some o ≡ true → n < SUB_NUMBERS
number_by subs n None all found there = absurd (false≢true there)
number_by subs n (Some s) all found there =
    let wanted : SubRow → Bool = λ s. eqb s.sub n in
    let same : s.sub ≡ n = eqb-true s.sub n (found_is wanted subs s found) in
    let below : s.sub < SUB_NUMBERS = ltb-true s.sub SUB_NUMBERS (find_passes wanted is_below subs s all found) in
    omega arith

-- its number is below the most
pub number_below : (subs : List SubRow) (n : ℕ) → list_all is_below subs ≡ true → is_there n subs → n < SUB_NUMBERS
number_below subs n all there = number_by subs n (find (λ (s : SubRow). eqb s.sub n) subs) all refl there

-- ---- a subscription is set

found_by : (n : ℕ) (b : Bool) (s : SubRow) (ss ts : List SubRow) → eqb s.sub n ≡ b → (is_there n ss → is_there n ts) → is_there n (s ∷ ss) → is_there n (s ∷ ts)
found_by n true s ss ts same more h = rw same refl
found_by n false s ss ts same more h = rw same (more (rw same at h))

found_more : (n : ℕ) (b : Bool) (row : SubRow) (ss : List SubRow) → eqb row.sub n ≡ b → is_there n ss → is_there n (row ∷ ss)
found_more n true row ss same h = rw same refl
found_more n false row ss same h = rw same h

found_renamed : (n : ℕ) (b : Bool) (row s : SubRow) (ss : List SubRow) → eqb s.sub n ≡ b → s.sub ≡ row.sub → is_there n (s ∷ ss) → is_there n (row ∷ ss)
found_renamed n true row s ss is same h = rw (subst (λ (k : ℕ). eqb k n ≡ true) same is) refl
found_renamed n false row s ss is same h = rw (subst (λ (k : ℕ). eqb k n ≡ false) same is) (rw is at h)

found_set : (n : ℕ) (row s : SubRow) (ss : List SubRow) (b d : Bool) → eqb s.sub row.sub ≡ b → (is_there n ss → is_there n (with_sub row ss)) → is_there n (s ∷ ss)
    → is_there n (cond b (row ∷ ss) (cond d (row ∷ s ∷ ss) (s ∷ with_sub row ss)))
found_set n row s ss true d same more h = found_renamed n (eqb s.sub n) row s ss refl (eqb-true s.sub row.sub same) h
found_set n row s ss false true same more h = found_more n (eqb row.sub n) row (s ∷ ss) refl h
found_set n row s ss false false same more h = found_by n (eqb s.sub n) s ss (with_sub row ss) refl more h

-- one that is there is there also when one is set
set_there : (n : ℕ) (row : SubRow) (ss : List SubRow) → is_there n ss → is_there n (with_sub row ss)
set_there n row [] h = absurd (false≢true h)
set_there n row (s ∷ ss) h = found_set n row s ss (eqb s.sub row.sub) (ltb row.sub s.sub) refl (set_there n row ss) h

within_by : (row s : SubRow) (ss : List SubRow) (b d : Bool) → is_below row ≡ true → is_below s ≡ true → list_all is_below ss ≡ true → list_all is_below (with_sub row ss) ≡ true
    → list_all is_below (cond b (row ∷ ss) (cond d (row ∷ s ∷ ss) (s ∷ with_sub row ss))) ≡ true
within_by row s ss true d new first rest more = both_true new rest
within_by row s ss false true new first rest more = both_true new (both_true first rest)
within_by row s ss false false new first rest more = both_true first more

set_within : (row : SubRow) (ss : List SubRow) → is_below row ≡ true → list_all is_below ss ≡ true → list_all is_below (with_sub row ss) ≡ true
set_within row [] new all = both_true new refl
set_within row (s ∷ ss) new all =
    let both = and_both (is_below s) (list_all is_below ss) all in
    within_by row s ss (eqb s.sub row.sub) (ltb row.sub s.sub) new both.0 both.1 (set_within row ss new both.1)

-- ---- a slot's live attempt

live_by : (o : Option (Option ProcRow)) (p : ProcRow) → flat o ≡ Some p → o ≡ Some (Some p)
live_by None p live = absurd (none-some p live)
live_by (Some o) p live = ap (λ (x : Option ProcRow). Some x) live

-- the attempt that a call has read of the slot
pub live_there : (procs seen : List (Option ProcRow)) (slot : ℕ) (p : ProcRow) (result : Option ProcRow) → seen ≡ procs → result ≡ live_in seen slot → result ≡ Some p → slice_get procs slot ≡ Some (Some p)
live_there procs seen slot p result same read is =
    live_by (slice_get procs slot) p (ap (λ (ps : List (Option ProcRow)). live_in ps slot) (sym same) ∙ (sym read ∙ is))

-- a slot without one stays as it is
pub slice_set-none : (procs : List (Option ProcRow)) (slot : ℕ) → live_in procs slot ≡ None → slice_set procs slot None ≡ procs
slice_set-none [] slot none = refl
slice_set-none (o ∷ os) zero none = λ j. sym none j ∷ os
slice_set-none (o ∷ os) (suc slot) none = λ j. o ∷ slice_set-none os slot none j

-- ---- what a call keeps

module _ (b : AttemptLists) (kept : KeepsKnown b) where
  pub set_known : (row : SubRow) → row.sub < SUB_NUMBERS → KeepsKnown (record b { subs = with_sub row b.subs })
  set_known row below =
      record {
        attempts_known = λ i p at.
            let was = kept.attempts_known i p at in
            record { host_within = was.host_within; sub_there = set_there p.sub row b.subs was.sub_there; cores_within = was.cores_within; memory_within = was.memory_within };
        subs_within = set_within row b.subs (lt-ltb row.sub SUB_NUMBERS below) kept.subs_within;
        count_within = kept.count_within;
      }

  pub grown_known : (added : ℕ) → length b.procs + added ≤ SLOT_LIMIT → KeepsKnown (record b { procs = b.procs ++ replicate added None })
  grown_known added within =
      record {
        attempts_known = λ i p at. kept.attempts_known i p (live_before added b.procs i p at);
        subs_within = kept.subs_within;
        count_within = omega (arith, length-append b.procs (replicate added None), length-replicate {A = Option ProcRow} added None);
      }

  module _ (slot : ℕ) (old new : Option ProcRow) (at_slot : slice_get b.procs slot ≡ Some old) (known : (p : ProcRow) → new ≡ Some p → IsKnown b.subs p) where
    known_at : (i : ℕ) (p : ProcRow) → slice_get (slice_set b.procs slot new) i ≡ Some (Some p) → IsKnown b.subs p
    known_at i p at =
        elim (places i slot) as (λ c. IsKnown b.subs p) [
          | inl here ↦ known p (same_Some new (Some p) (sym (slice_get-set_same b.procs slot old new at_slot) ∙ ap (slice_get (slice_set b.procs slot new)) (sym here) ∙ at))
          | inr away ↦ kept.attempts_known i p (sym (slice_get-set_other b.procs slot i new away) ∙ at)
        ]

    pub changed_known : KeepsKnown (record b { procs = slice_set b.procs slot new })
    changed_known =
        record {
          attempts_known = known_at;
          subs_within = kept.subs_within;
          count_within = omega (arith, length-set b.procs slot new, kept.count_within);
        }

-- ---- no subscriptions and no slots

pub subs_made : (s : Ledger) → s ≡ no_subs → s.subs ≡ []
unfolding no_subs
subs_made s is = ap (λ (t : Ledger). t.subs) is

pub booked_made : (s : Ledger) → s ≡ no_subs → s.booked ≡ replicate SUB_NUMBERS 0
unfolding no_subs
booked_made s is = ap (λ (t : Ledger). t.booked) is

abbrev pub lists_of_parts : List SubRow → List (Option ProcRow) → AttemptLists
lists_of_parts subs procs = record { subs = subs; procs = procs }

pub lists_made : (subs : List SubRow) (procs : List (Option ProcRow)) → subs ≡ [] → procs ≡ [] → lists_of_parts subs procs ≡ no_attempts
lists_made subs procs no_rows no_slots = λ j. record { subs = no_rows j; procs = no_slots j }

pub made_known : (b : AttemptLists) → b ≡ no_attempts → KeepsKnown b
made_known b none =
    subst KeepsKnown (sym none)
    (record {
      attempts_known = λ i p at. absurd (none-some (Some p) at);
      subs_within = refl;
      count_within = omega arith;
    })
