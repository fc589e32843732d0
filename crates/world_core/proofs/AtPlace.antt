-- What is done to one host is done to the host at its place.
use Rattle.std.proofs.Common.{◌≡◌, ◌∙◌, ℕ, suc, zero, ◌<◌, false, true, List, [], ◌∷◌, length, Option, None, Some, IfSome, IsSomeAnd, Result, Ok, Err, refl, sym, ap, subst, arith}
use Rattle.std.specs.Prelude.{⊤, slice_get, slice_set}
use Rattle.std.proofs.lemmas.Bool.{false≢true}
use Rattle.std.proofs.lemmas.Option.{none-some, same_Some, slice_get_within}
use Rattle.farm_types.specs.declared.attempt.Attempt.{Attempt}
use Rattle.farm_types.specs.declared.attempt.Exit.{Exit}
use Rattle.rqd_core.specs.Life.{is_run}
use Rattle.world_law.specs.declared.fault.WorldFault.{WorldFault}
use Rattle.world_law.specs.declared.fault.WorldFault.TheVariants as fault
use Rattle.world_law.specs.Hosts.{after_exit, has_used, reborn}
use Rattle.world_law.specs.World.{Host}
use Rattle.world_core.specs.Stepping.{Begins, BeginsOn, Ends, EndsOn}

-- past the end there is none
pub past_none : (hosts : List Host) (place n : ℕ) → n ≡ length hosts → (place < n → false ≡ true) → slice_get hosts place ≡ None
past_none hosts place n is never = by (slice_get hosts place) refl
  where
    by : (o : Option Host) → slice_get hosts place ≡ o → o ≡ None
    by None found = refl
    by (Some h) found = let within : place < n = omega (arith, is, slice_get_within hosts place h found) in absurd (false≢true (never within))

set_back : (hosts : List Host) (place : ℕ) (h : Host) → slice_get hosts place ≡ Some h → slice_set hosts place h ≡ hosts
set_back [] place h there = absurd (none-some h there)
set_back (x ∷ hosts) zero h there = ap (λ (y : Host). y ∷ hosts) (sym (same_Some x h there))
set_back (x ∷ hosts) (suc place) h there = ap (λ (ys : List Host). x ∷ ys) (set_back hosts place h there)

some_there : (o : Option Host) (h : Host) (P : Host → Type 0) → o ≡ Some h → P h → IsSomeAnd o P
some_there o h P there holds = subst (λ (found : Option Host). IsSomeAnd found P) (sym there) holds

if_there : (o : Option Host) (h : Host) (P : Host → Type 0) → o ≡ Some h → P h → IfSome o P
if_there o h P there holds = subst (λ (found : Option Host). IfSome found P) (sym there) holds

-- ---- ends

pub ends_at : (hosts : List Host) (place : ℕ) (h : Host) (a : Attempt) (exit : Exit) (r : Result ⊤ WorldFault) (new : Host)
    → slice_get hosts place ≡ Some h → EndsOn h a exit r new
    → Ends hosts place a exit r (slice_set hosts place new)
ends_at hosts place h a exit (Ok done) new there (runs, is) =
    some_there (slice_get hosts place) h (λ (x : Host). (is_run a x.life.running ≡ true) × (slice_set hosts place new ≡ slice_set hosts place (after_exit x a exit))) there
    (runs, ap (slice_set hosts place) is)
ends_at hosts place h a exit (Err fault.NoSuch) new there (idle, is) =
    (if_there (slice_get hosts place) h (λ (x : Host). is_run a x.life.running ≡ false) there idle, ap (slice_set hosts place) is ∙ set_back hosts place h there)
ends_at hosts place h a exit (Err (fault.UsedNonce nonce)) new there never = absurd never
ends_at hosts place h a exit (Err fault.NoMemory) new there never = absurd never

pub ends_none : (hosts : List Host) (place : ℕ) (a : Attempt) (exit : Exit) → slice_get hosts place ≡ None → Ends hosts place a exit (Err fault.NoSuch) hosts
ends_none hosts place a exit none = (subst (λ (found : Option Host). IfSome found (λ (x : Host). is_run a x.life.running ≡ false)) (sym none) tt, refl)

-- ---- new lives

pub begins_at : (hosts : List Host) (place : ℕ) (h : Host) (nonce : ℕ) (r : Result ⊤ WorldFault) (new : Host) → slice_get hosts place ≡ Some h
    → BeginsOn h nonce r new
    → Begins hosts place nonce r (slice_set hosts place new)
begins_at hosts place h nonce (Ok done) new there (fresh, is) =
    some_there (slice_get hosts place) h (λ (x : Host). (has_used x nonce ≡ false) × (slice_set hosts place new ≡ slice_set hosts place (reborn x nonce))) there
    (fresh, ap (slice_set hosts place) is)
begins_at hosts place h nonce (Err fault.NoSuch) new there never = absurd never
begins_at hosts place h nonce (Err (fault.UsedNonce told)) new there (same, used, is) =
    (same, some_there (slice_get hosts place) h (λ (x : Host). has_used x nonce ≡ true) there used, ap (slice_set hosts place) is ∙ set_back hosts place h there)
begins_at hosts place h nonce (Err fault.NoMemory) new there is = ap (slice_set hosts place) is ∙ set_back hosts place h there
