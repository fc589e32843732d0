-- An attempt is one of those that run, exactly where it is among their attempts.
use Rattle.std.proofs.Common.{◌≡◌, ◌||◌, Bool, List, [], ◌∷◌, refl, ap}
use Rattle.std.specs.List.{list_any}
use Rattle.farm_types.specs.declared.attempt.Attempt.{Attempt}
use Rattle.farm_types.specs.Run.{is_same}
use Rattle.rqd_core.specs.declared.running.Running.{Running}
use Rattle.rqd_core.specs.Life.{attempts_of, is_run}

pub runs_among : (a : Attempt) (rs : List Running) → list_any (λ b. is_same b a) (attempts_of rs) ≡ is_run a rs
runs_among a [] = refl
runs_among a (r ∷ rs) = ap (λ (b : Bool). is_same r.attempt a || b) (runs_among a rs)
