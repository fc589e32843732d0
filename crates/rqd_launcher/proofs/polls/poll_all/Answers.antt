-- One more poll: what is left is behind the attempt, which has ended or runs on.
use Rattle.std.proofs.Common.{◌≡◌, ◌∷◌, ◌++◌, ◌+◌, ◌∙◌, Bool, List, drop, length, map, ap, sym, subst, arith}
use Rattle.std.specs.Prelude.{if◌then◌else◌}
use Rattle.std.specs.List.{IsDistinct}
use Rattle.farm_types.specs.declared.attempt.Attempt.{Attempt}
use Rattle.farm_types.specs.Run.{is_same}
use Rattle.rqd_core.specs.declared.running.Running.{Running}
use Rattle.rqd_core.specs.Life.{attempts_of, without}
use Rattle.cue_io.specs.Growth.{Grows-append}
use Rattle.rqd_launcher.specs.Carries.{poll_of}
use Rattle.rqd_launcher.proofs.Carrying.{cut_short, last_done, more_done}
use Rattle.rqd_launcher.proofs.Running.{at_ended, at_left, at_runs, is_at}
use Rattle.rqd_launcher.proofs.polls.poll_all.Goals as goal

pub poll-requires : goal.poll-requires
poll-requires g c =
    at_runs (is_at c.attempts.rqd.running c.attempts.place c.attempt_at-attempt.result c.attempt_at-attempt.ensures)

pub returns-in_err-poll : goal.returns-in_err-poll
returns-in_err-poll g c =
    let running = c.attempts.rqd.running in
    let a = c.attempt_at-attempt.result in
    let at = is_at running c.attempts.place a c.attempt_at-attempt.ensures in
    let left = ap (λ (attempts : List Attempt). map poll_of attempts) (at_left at) in
    let calls = g.P.Spawner.calls in
    let was = c.attempts.invariant in
    let step = c.in_err-poll.ensures.polled in (
      was.0 ++ step.0,
      last_done was.1.begun (cut_short (map poll_of (attempts_of (drop (c.attempts.place + 1) running))) c.from_residual.result c.from_residual.ensures.1 step.1 left),
      Grows-append (calls c.args.spawner.now) (calls c.attempts.spawner) (calls c.poll.new.spawner) was.0 step.0 was.1.grows step.2,
    )

pub attempts-smaller-then-branch : goal.attempts-smaller-then-branch
attempts-smaller-then-branch g c =
    let running = c.attempts.rqd.running in
    let a = c.attempt_at-attempt.result in
    let at = is_at running c.attempts.place a c.attempt_at-attempt.ensures in
    let differ : IsDistinct is_same (attempts_of running) = subst (IsDistinct is_same) c.running.ensures.value c.running.ensures.differ in
    let gone : c.poll.new.rqd.running ≡ without a running = c.in_ok-poll.ensures.running ∙ ap (λ (ended : Bool). if ended then without a running else running) c.if-branch.true in
    omega (
      arith,
      ap (λ (rs : List Running). length (drop c.attempts.place rs)) gone,
      ap (λ (rs : List Running). length rs) (at_ended differ at),
      ap (λ (rs : List Running). length rs) at.here,
    )

pub attempts-preserved-then-branch : goal.attempts-preserved-then-branch
attempts-preserved-then-branch g c =
    let running = c.attempts.rqd.running in
    let a = c.attempt_at-attempt.result in
    let at = is_at running c.attempts.place a c.attempt_at-attempt.ensures in
    let differ : IsDistinct is_same (attempts_of running) = subst (IsDistinct is_same) c.running.ensures.value c.running.ensures.differ in
    let gone : c.poll.new.rqd.running ≡ without a running = c.in_ok-poll.ensures.running ∙ ap (λ (ended : Bool). if ended then without a running else running) c.if-branch.true in
    let behind : drop c.attempts.place c.poll.new.rqd.running ≡ drop (c.attempts.place + 1) running =
    ap (λ (rs : List Running). drop c.attempts.place rs) gone ∙ at_ended differ at in
    let left = ap (λ (attempts : List Attempt). map poll_of attempts) (at_left at ∙ ap (λ (rs : List Running). a ∷ attempts_of rs) (sym behind)) in
    let calls = g.P.Spawner.calls in
    let was = c.attempts.invariant in
    let step = c.in_ok-poll.ensures.polled in (
      was.0 ++ step.0,
      record {
        begun = more_done was.1.begun (map poll_of (attempts_of (drop c.attempts.place c.poll.new.rqd.running))) step.1 left;
        grows = Grows-append (calls c.args.spawner.now) (calls c.attempts.spawner) (calls c.poll.new.spawner) was.0 step.0 was.1.grows step.2;
      },
    )

pub attempts-preserved : goal.attempts-preserved
attempts-preserved g c =
    let running = c.attempts.rqd.running in
    let a = c.attempt_at-attempt.result in
    let at = is_at running c.attempts.place a c.attempt_at-attempt.ensures in
    let stays : c.poll.new.rqd.running ≡ running = c.in_ok-poll.ensures.running ∙ ap (λ (ended : Bool). if ended then without a running else running) c.if-branch.false in
    let left = ap (λ (attempts : List Attempt). map poll_of attempts) (at_left at ∙ ap (λ (rs : List Running). a ∷ attempts_of (drop (c.attempts.place + 1) rs)) (sym stays)) in
    let calls = g.P.Spawner.calls in
    let was = c.attempts.invariant in
    let step = c.in_ok-poll.ensures.polled in (
      was.0 ++ step.0,
      record {
        begun = more_done was.1.begun (map poll_of (attempts_of (drop (c.attempts.place + 1) c.poll.new.rqd.running))) step.1 left;
        grows = Grows-append (calls c.args.spawner.now) (calls c.attempts.spawner) (calls c.poll.new.spawner) was.0 step.0 was.1.grows step.2;
      },
    )
