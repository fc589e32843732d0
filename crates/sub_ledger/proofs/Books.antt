-- The ledger that the places make: what is read of it, and what a call changes in it.
use Rattle.std.proofs.Common.{◌≡◌, ℕ, zero, suc, ◌+◌, ◌-◌, ◌<◌, ◌≤◌, ◌^◌, List, [], ◌∷◌, length, map, replicate, Option, is_some, Some, None, true, refl, sym, ap, subst, ◌∙◌, arith}
use Rattle.std.specs.List.{slice_get}
use Rattle.std.specs.Option.{option_map}
use Rattle.std.proofs.lemmas.Bool.{false≢true}
use Rattle.std.proofs.lemmas.Option.{slice_get-map}
use Rattle.farm_types.specs.declared.rows.SubRow.{SubRow}
use Rattle.farm_types.specs.Farm.{changed_at}
use Rattle.farm_types.specs.Subs.{with_sub}
use Rattle.farm_types.specs.Sums.{total_in, total_at}
use Rattle.sub_ledger.specs.declared.subs.SubState.{SubState}
use Rattle.sub_ledger.specs.Ledger.{Ledger, no_subs, row_of, state_for, state_of, IsWithin, CanAdd, CanCount, CanRemove}
use Rattle.sub_ledger.specs.Inside.{row_for, with_place, rows_from, booked_of, ledger_for, state_in, set_to, with_more, with_less, CountsCores, TakesCores, GivesCores}
use Rattle.farm_types.proofs.ChangedLists.{map-changed_at, map-changed_at_kept}
use Rattle.sub_ledger.proofs.Rows.{row_from, rows_set, rows_kept}
use Rattle.farm_types.specs.declared.limits.TheConstants.{SUB_NUMBERS}

-- ---- what is read

booked_in_place : (o : Option (Option SubState)) → total_in (option_map booked_of o) ≡ booked_of (state_in o)
booked_in_place None = refl
booked_in_place (Some p) = refl

-- what is booked by number is what is booked at the place
pub booked_at : (places : List (Option SubState)) (sub : ℕ) → total_at (map booked_of places) sub ≡ booked_of (state_in (slice_get places sub))
booked_at places sub = ap total_in (slice_get-map booked_of places sub) ∙ booked_in_place (slice_get places sub)

module _ (places : List (Option SubState)) (sub : ℕ) where
  abbrev state : Option SubState
  state = state_in (slice_get places sub)

  pub row_at : row_of (ledger_for places) sub ≡ option_map (row_for sub) state
  row_at = row_from 0 sub sub places (omega arith)

  state_again : (o : Option SubState) → option_map (state_for (booked_of o)) (option_map (row_for sub) o) ≡ o
  state_again None = refl
  state_again (Some s) = refl

  pub state_is : state ≡ state_of (ledger_for places) sub
  state_is = sym (ap (λ (r : Option SubRow). option_map (state_for (total_at (map booked_of places) sub)) r) row_at ∙ (ap (λ (n : ℕ). option_map (state_for n) (option_map (row_for sub) state)) (booked_at places sub) ∙ state_again state))

  takes : (o : Option SubState) (cores : ℕ) → IsWithin (option_map (row_for sub) o) (booked_of o + cores) → TakesCores o cores
  takes None cores h = h
  takes (Some s) cores h = h

  -- the subscription at the place takes what the ledger takes
  pub takes_cores : (cores : ℕ) → CanAdd (ledger_for places) sub cores → TakesCores state cores
  takes_cores cores can =
      takes state cores (subst (λ (n : ℕ). IsWithin (option_map (row_for sub) state) (n + cores)) (booked_at places sub)
      (subst (λ (r : Option SubRow). IsWithin r (total_at (map booked_of places) sub + cores)) row_at can))

  counts : (o : Option SubState) (cores : ℕ) → is_some (option_map (row_for sub) o) ≡ true → booked_of o + cores < 2 ^ 32 → CountsCores o cores
  counts None cores there room = absurd (false≢true there)
  counts (Some s) cores there room = room

  -- the subscription at the place has the room that the ledger has
  pub counts_cores : (cores : ℕ) → CanCount (ledger_for places) sub cores → CountsCores state cores
  counts_cores cores can =
      counts state cores (subst (λ (r : Option SubRow). is_some r ≡ true) row_at can.there) (subst (λ (n : ℕ). n + cores < 2 ^ 32) (booked_at places sub) can.room)

  gives : (o : Option SubState) (cores : ℕ) → is_some (option_map (row_for sub) o) ≡ true → cores ≤ booked_of o → GivesCores o cores
  gives None cores there enough = absurd (false≢true there)
  gives (Some s) cores there enough = enough

  -- the subscription at the place gives what the ledger gives
  pub gives_cores : (cores : ℕ) → CanRemove (ledger_for places) sub cores → GivesCores state cores
  gives_cores cores can =
      gives state cores (subst (λ (r : Option SubRow). is_some r ≡ true) row_at can.there) (subst (λ (n : ℕ). cores ≤ n) (booked_at places sub) can.enough)

-- ---- what a call changes

two_lists : (xs ys : List SubRow) (ms ns : List ℕ) → xs ≡ ys → ms ≡ ns → ◌≡◌ {A = Ledger} (record { subs = xs; booked = ms }) (record { subs = ys; booked = ns })
two_lists xs ys ms ns a b = rw (a, b) refl

pub ledger_set : (places : List (Option SubState)) (sub size burst : ℕ) → sub < length places
    → ledger_for (changed_at places sub (set_to size burst)) ≡ record (ledger_for places) { subs = with_sub (record { sub = sub; size = size; burst = burst }) (rows_from 0 places) }
ledger_set places sub size burst within =
    two_lists _ _ _ _ (rows_set sub size burst 0 sub places (omega arith) within)
    (map-changed_at_kept booked_of (set_to size burst) (λ p. refl) places sub)

more_keeps : (cores sub : ℕ) (p : Option SubState) (rows : List SubRow) → with_place sub (with_more cores p) rows ≡ with_place sub p rows
more_keeps cores sub None rows = refl
more_keeps cores sub (Some s) rows = refl

more_booked : (cores : ℕ) (p : Option SubState) → TakesCores p cores → booked_of (with_more cores p) ≡ booked_of p + cores
more_booked cores None takes = absurd takes
more_booked cores (Some s) takes = refl

counted_booked : (cores : ℕ) (p : Option SubState) → CountsCores p cores → booked_of (with_more cores p) ≡ booked_of p + cores
counted_booked cores None counts = absurd counts
counted_booked cores (Some s) counts = refl

pub ledger_counted : (places : List (Option SubState)) (sub cores : ℕ) → CountsCores (state_in (slice_get places sub)) cores
    → ledger_for (changed_at places sub (with_more cores)) ≡ record (ledger_for places) { booked = changed_at (map booked_of places) sub (λ total. total + cores) }
ledger_counted places sub cores counts =
    two_lists _ _ _ _ (rows_kept (with_more cores) (more_keeps cores) 0 sub places)
    (map-changed_at booked_of (with_more cores) places sub (λ total. total + cores) (λ p at. counted_booked cores p (subst (λ (o : Option (Option SubState)). CountsCores (state_in o) cores) at counts)))

pub ledger_more : (places : List (Option SubState)) (sub cores : ℕ) → TakesCores (state_in (slice_get places sub)) cores
    → ledger_for (changed_at places sub (with_more cores)) ≡ record (ledger_for places) { booked = changed_at (map booked_of places) sub (λ total. total + cores) }
ledger_more places sub cores takes =
    two_lists _ _ _ _ (rows_kept (with_more cores) (more_keeps cores) 0 sub places)
    (map-changed_at booked_of (with_more cores) places sub (λ total. total + cores) (λ p at. more_booked cores p (subst (λ (o : Option (Option SubState)). TakesCores (state_in o) cores) at takes)))

less_keeps : (cores sub : ℕ) (p : Option SubState) (rows : List SubRow) → with_place sub (with_less cores p) rows ≡ with_place sub p rows
less_keeps cores sub None rows = refl
less_keeps cores sub (Some s) rows = refl

less_booked : (cores : ℕ) (p : Option SubState) → booked_of (with_less cores p) ≡ booked_of p - cores
less_booked cores None = omega arith
less_booked cores (Some s) = refl

pub ledger_less : (places : List (Option SubState)) (sub cores : ℕ)
    → ledger_for (changed_at places sub (with_less cores)) ≡ record (ledger_for places) { booked = changed_at (map booked_of places) sub (λ total. total - cores) }
ledger_less places sub cores =
    two_lists _ _ _ _ (rows_kept (with_less cores) (less_keeps cores) 0 sub places)
    (map-changed_at booked_of (with_less cores) places sub (λ total. total - cores) (λ p at. less_booked cores p))

-- ---- no subscription

no_rows : (low n : ℕ) → rows_from low (replicate n None) ≡ []
no_rows low zero = refl
no_rows low (suc n) = no_rows (low + 1) n

none_booked : (n : ℕ) → map booked_of (replicate n None) ≡ replicate n 0
none_booked zero = refl
none_booked (suc n) = ap (λ ms. 0 ∷ ms) (none_booked n)

pub no_subs_are : (places : List (Option SubState)) → places ≡ replicate SUB_NUMBERS None → ledger_for places ≡ no_subs
unfolding no_subs
no_subs_are places empty = ap ledger_for empty ∙ two_lists _ _ _ _ (no_rows 0 SUB_NUMBERS) (none_booked SUB_NUMBERS)
