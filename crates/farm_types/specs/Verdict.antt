-- What becomes of a frame whose attempt completed.
use Rattle.std.specs.Prelude.{ℕ, ◌==◌, ◌&&◌, ◌+◌, Bool, nat_le, if◌then◌else◌}
use Rattle.farm_types.specs.declared.attempt.Exit.{Exit}
use Rattle.farm_types.specs.declared.verdict.Verdict.{Verdict}
use Rattle.farm_types.specs.declared.verdict.Verdict.TheVariants as verdict

-- The first case that applies: a clean exit succeeds; status 286 waits again, its retries unchanged; a job that eats its failures
-- eats it; status 256 is dead; so is a frame without a retry left; else it waits again, with one retry more.
abbrev pub verdict_of : Exit → ℕ → ℕ → Bool → Verdict
verdict_of exit retries most auto_eat =
    if exit.status == 0 && exit.signal == 0 then verdict.Succeeded
    else (if exit.status == 286 then verdict.Waiting retries
    else (if auto_eat then verdict.Eaten
    else (if exit.status == 256 then verdict.Dead
    else (if nat_le most retries then verdict.Dead
    else verdict.Waiting (retries + 1)))))
