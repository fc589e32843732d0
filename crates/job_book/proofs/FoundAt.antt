-- A job's place that was found, and that stays where the numbers of the places do.
use Rattle.std.proofs.Common.{◌≡◌, ℕ, List, refl, sym, subst}
use Rattle.job_entries.specs.declared.entries.At.{At}
use Rattle.job_entries.specs.Entries.{IsAt, at_of}

pub found_at : {job : ℕ} (at : At) (numbers : List ℕ) → at ≡ at_of job numbers → IsAt at numbers
found_at at numbers is = subst (λ (a : At). IsAt a numbers) (sym is) refl

pub found_then : {job : ℕ} {new : List ℕ} (at : At) (numbers : List ℕ) → at ≡ at_of job numbers → new ≡ numbers → IsAt at new
found_then at numbers is same = subst (IsAt at) (sym same) (found_at at numbers is)
