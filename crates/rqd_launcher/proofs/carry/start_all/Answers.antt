-- One more start, and the last one.
use Rattle.std.proofs.Common.{◌≡◌, ◌∷◌, ◌++◌, ◌+◌, ◌∙◌, List, drop, ap, sym, subst, arith}
use Rattle.std.proofs.lemmas.List.{drop_more}
use Rattle.farm_lines.specs.declared.launch.Launch.{Launch}
use Rattle.rqd_core.specs.Keeping.{AreStarted}
use Rattle.cue_io.specs.Growth.{Grows-append}
use Rattle.rqd_launcher.specs.Carries.{starts_of}
use Rattle.rqd_launcher.proofs.Carrying.{cut_short, last_done, more_done}
use Rattle.rqd_launcher.proofs.Running.{rest_started}
use Rattle.rqd_launcher.proofs.carry.start_all.Goals as goal

pub loop-launch-preserved : goal.loop-launch-preserved
loop-launch-preserved g c =
    let starts = c.args.starts.now in
    let i = c.loop-launch.launch-index in
    let k = c.launch-item.result in
    let rest = drop (i + 1) starts in
    let here : drop i starts ≡ k ∷ rest = drop_more starts i k (omega arith) ∙ ap (λ (x : Launch). x ∷ rest) (sym c.launch-item.is) in
    let calls = g.P.Spawner.calls in
    let was = c.loop-launch.invariant in
    let step = c.in_ok-start.ensures in (
      was.0 ++ step.0,
      record {
        begun = more_done was.1.begun (starts_of rest) step.1 (ap starts_of here);
        run = rest_started k rest step.1 (subst (λ (ks : List Launch). AreStarted ks c.loop-launch.rqd.running) here was.1.run);
        grows = Grows-append (calls c.args.spawner.now) (calls c.loop-launch.spawner) (calls c.start.new.spawner) was.0 step.0 was.1.grows step.2;
      },
    )

pub returns-in_err-start : goal.returns-in_err-start
returns-in_err-start g c =
    let starts = c.args.starts.now in
    let i = c.loop-launch.launch-index in
    let k = c.launch-item.result in
    let rest = drop (i + 1) starts in
    let here : drop i starts ≡ k ∷ rest = drop_more starts i k (omega arith) ∙ ap (λ (x : Launch). x ∷ rest) (sym c.launch-item.is) in
    let calls = g.P.Spawner.calls in
    let was = c.loop-launch.invariant in
    let step = c.in_err-start.ensures in (
      was.0 ++ step.0,
      last_done was.1.begun (cut_short (starts_of rest) c.from_residual.result c.from_residual.ensures.1 step.1 (ap starts_of here)),
      Grows-append (calls c.args.spawner.now) (calls c.loop-launch.spawner) (calls c.start.new.spawner) was.0 step.0 was.1.grows step.2,
    )
