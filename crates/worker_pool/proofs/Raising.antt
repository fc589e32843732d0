-- Counts that went up several times.
use Rattle.std.proofs.Common.{◌≡◌, ◌+◌, ◌<◌, ◌≤◌, ◌⊎◌, ℕ, zero, suc, true, inl, inr, refl, sym, ap, subst, arith}
use Rattle.std.proofs.lemmas.Bool.{cases_lt}
use Rattle.fault_counts.specs.Counts.{HasRisen, HasRisenBy, incremented, last_count}
use Rattle.fault_counts.proofs.CountLaws.{HasRisenBy-none, HasRisenBy-push}
use Rattle.worker_pool.specs.Taken.{HasRisenByLess, raised}

-- one more
pub raised_more : (many count : ℕ) → raised (many + 1) count ≡ incremented (raised many count)
raised_more many count = let more : many + 1 ≡ suc many = omega arith in ap (λ n. raised n count) more

-- it has risen by so many
pub raised_by : (many count : ℕ) → HasRisenBy many count (raised many count)
raised_by zero count = HasRisenBy-none count
raised_by (suc many) count =
    let more : many + 1 ≡ suc many = omega arith in
    subst
    (λ n. HasRisenBy n count (raised (suc many) count))
    more
    (HasRisenBy-push true many count (raised many count) (raised (suc many) count) (raised_by many count) refl)

-- all were taken
pub all_taken : (all taken old new : ℕ) → new ≡ raised taken old → taken ≡ all → HasRisenBy all old new
all_taken all taken old new is whole = subst (λ n. HasRisenBy n old new) whole (subst (HasRisenBy taken old) (sym is) (raised_by taken old))

-- fewer were
pub less_taken : (all taken old new : ℕ) → new ≡ raised taken old → taken < all → HasRisenByLess all old new
less_taken all taken old new is less = (taken, less, subst (HasRisenBy taken old) (sym is) (raised_by taken old))

-- a count that rose in a later call didn't come back, unless it stands at its last number
pub no_way_back : (old mid new : ℕ) → old ≤ mid → HasRisen mid new → new ≤ old → last_count ≤ new
no_way_back old mid new on (inl rose) back = absurd (omega arith)
no_way_back old mid new on (inr full) back = full

rose_or_full : (old new : ℕ) → (new ≤ old → last_count ≤ new) → (old < new) ⊎ (new ≤ old) → HasRisen old new
rose_or_full old new full (inl rose) = inl rose
rose_or_full old new full (inr back) = inr (full back)

-- one that didn't come back rose
pub rose : (old new : ℕ) → (new ≤ old → last_count ≤ new) → HasRisen old new
rose old new full = rose_or_full old new full (cases_lt old new)
