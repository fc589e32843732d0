-- The depends in which a job waits, told the last one first.
use Rattle.std.proofs.Common.{◌≡◌, ℕ, Bool, true, false, cond, List, [], ◌∷◌, map, refl}
use Rattle.std.specs.List.{filter}
use mathlib.Core.List.{reverse_aux}
use Rattle.farm_types.specs.declared.depend.DependRow.{DependRow}
use Rattle.farm_types.specs.Finish.{waits_by}
use Rattle.farm_types.specs.Rising.{depend_key}
use Rattle.depend_book.specs.Book.{waiting_from}

-- they go before those found so far, each before the one of the turn before
pub told_back : (job : ℕ) (found : List ℕ) (ds : List DependRow) → waiting_from job found ds ≡ reverse_aux (map depend_key (filter (waits_by job) ds)) found
told_back job found [] = refl
told_back job found (d ∷ ds) = by (waits_by job d) (λ ns. told_back job ns ds)
  where
    by : (w : Bool) → ((ns : List ℕ) → waiting_from job ns ds ≡ reverse_aux (map depend_key (filter (waits_by job) ds)) ns)
        → waiting_from job (cond w (d.depend ∷ found) found) ds ≡ reverse_aux (map depend_key (cond w (d ∷ filter (waits_by job) ds) (filter (waits_by job) ds))) found
    by true later = later (d.depend ∷ found)
    by false later = later found
