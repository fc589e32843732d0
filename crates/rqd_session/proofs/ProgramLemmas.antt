-- A run of the program, by what its parts did.
use Rattle.std.proofs.Common.{◌≡◌, ℕ, List, [], refl, sym, subst, Option, None}
use Rattle.command_line.specs.declared.status.Status.{Status}
use Rattle.command_line.specs.declared.status.Status.TheVariants as exit
use Rattle.dialer.specs.Dials.{Target, target_of}
use Rattle.rqd_session.specs.Programs.{EndsWith, IsRun, IsRunAt, Spawning}
use Rattle.rqd_session.proofs.EndLemmas.{idle, no_call}

-- nothing was done
pub ended : (status : Status) (spawner : Spawning) → EndsWith status status spawner spawner no_call
ended status spawner = record { status_is = refl; idle = idle; same = refl }

-- the words don't say where to connect
pub unplaced : (words : List (List ℕ)) (spawner : Spawning) → target_of words ≡ None
    → IsRun words exit.WrongWords None spawner spawner (record { dialled = []; call = no_call })
unplaced words spawner is =
    subst (λ (target : Option Target). IsRunAt target exit.WrongWords None spawner spawner (record { dialled = []; call = no_call })) (sym is)
    (refl, refl, ended exit.WrongWords spawner)
