use Rattle.std.proofs.Common.{◌∙◌, List, ap}
use Rattle.std.specs.List.{list_any}
use Rattle.farm_types.specs.declared.attempt.Attempt.{Attempt}
use Rattle.farm_types.specs.Run.{is_same}
use Rattle.rqd_core.specs.Life.{is_run}
use Rattle.world_law.specs.World.{Host}
use Rattle.world_host.proofs.RunsAmong.{runs_among}
use Rattle.world_host.proofs.host.Host.is_running.Goals as goal

pub returns : goal.returns
returns c =
    c.is_among.ensures
    ∙ (ap (λ (others : List Attempt). list_any (λ b. is_same b c.args.attempt.now) others) (c.as_slice.ensures ∙ c.running.ensures.value)
    ∙ (runs_among c.args.attempt.now c.self.inside.rqd.running ∙ ap (λ (h : Host). is_run c.args.attempt.now h.life.running) c.self.view_is))
