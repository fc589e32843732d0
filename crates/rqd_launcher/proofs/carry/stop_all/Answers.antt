-- One more stop, and the last one.
use Rattle.std.proofs.Common.{◌≡◌, ◌∷◌, [], ◌++◌, ◌+◌, ◌∙◌, drop, ap, sym, arith}
use Rattle.std.proofs.lemmas.List.{drop_all, drop_more}
use Rattle.farm_types.specs.declared.attempt.Attempt.{Attempt}
use Rattle.rqd_core.specs.Life.{Life}
use Rattle.cue_io.specs.Growth.{Grows-append}
use Rattle.rqd_launcher.specs.Carries.{stops_of}
use Rattle.rqd_launcher.proofs.Carrying.{all_done, cut_short, last_done, more_done}
use Rattle.rqd_launcher.proofs.carry.stop_all.Goals as goal

pub loop-attempt-preserved : goal.loop-attempt-preserved
loop-attempt-preserved g c =
    let stops = c.args.stops.now in
    let i = c.loop-attempt.attempt-index in
    let a = c.attempt-item.result in
    let rest = drop (i + 1) stops in
    let here : drop i stops ≡ a ∷ rest = drop_more stops i a (omega arith) ∙ ap (λ (x : Attempt). x ∷ rest) (sym c.attempt-item.is) in
    let calls = g.P.Spawner.calls in
    let was = c.loop-attempt.invariant in
    let step = c.in_ok-stop.ensures in (
      was.0 ++ step.0,
      record {
        begun = λ (life : Life). more_done (was.1.begun life) (stops_of rest) (step.1 life) (ap stops_of here);
        grows = Grows-append (calls c.args.spawner.now) (calls c.loop-attempt.spawner) (calls c.stop.new.spawner) was.0 step.0 was.1.grows step.2;
      },
    )

pub returns-in_err-stop : goal.returns-in_err-stop
returns-in_err-stop g c =
    let stops = c.args.stops.now in
    let i = c.loop-attempt.attempt-index in
    let a = c.attempt-item.result in
    let rest = drop (i + 1) stops in
    let here : drop i stops ≡ a ∷ rest = drop_more stops i a (omega arith) ∙ ap (λ (x : Attempt). x ∷ rest) (sym c.attempt-item.is) in
    let calls = g.P.Spawner.calls in
    let was = c.loop-attempt.invariant in
    let step = c.in_err-stop.ensures in (
      was.0 ++ step.0,
      λ (life : Life). last_done (was.1.begun life) (cut_short (stops_of rest) c.from_residual.result c.from_residual.ensures.1 (step.1 life) (ap stops_of here)),
      Grows-append (calls c.args.spawner.now) (calls c.loop-attempt.spawner) (calls c.stop.new.spawner) was.0 step.0 was.1.grows step.2,
    )

pub returns : goal.returns
returns g c =
    let was = c.loop-attempt.invariant in
    let none : drop c.loop-attempt.attempt-index c.args.stops.now ≡ [] = drop_all c.loop-attempt.attempt-index c.args.stops.now (omega arith) in
    (was.0, λ (life : Life). all_done (was.1.begun life) tt (ap stops_of none), was.1.grows)
