-- A world: one scheduler, many render hosts, and all lines that were ever sent between them.
use Rattle.std.specs.Prelude.{ℕ, List, [], ◌∷◌, map, None}
use Rattle.farm_types.specs.declared.attempt.Attempt.{Attempt}
use Rattle.farm_types.specs.declared.entry.Entry.{Entry}
use Rattle.farm_types.specs.Farm.{Farm}
use Rattle.farm_lines.specs.declared.request.Request.{Request}
use Rattle.farm_lines.specs.RequestText.{request_text}
use Rattle.rqd_core.specs.declared.config.RqdConfig.{RqdConfig}
use Rattle.rqd_core.specs.Life.{Life, new_life}
use Rattle.world_law.specs.declared.counted.Counted.{Counted}
use Rattle.world_law.specs.declared.event.Event.{Event}
use Rattle.world_law.specs.declared.lines.Sent.{Sent}
use Rattle.world_law.specs.declared.lines.Told.{Told}

-- a farm, and the completions that changed it on the way to it, in order
pub record History : Type 0 where
  pub farm : Farm
  pub counted : List Counted

-- A render host: the present life of its daemon, the nonces that it has used, the present one too, and the attempts that this life was told to start, in order.
pub record Host : Type 0 where
  pub life : Life
  pub nonces : List ℕ
  pub started : List Attempt

-- `further` are the histories that one refused commit more would have made, in order. `opened` is the farm with which the scheduler started last,
-- before its entry Opened, and `entries` are those since then. Hosts are numbered by their places; so are the lines to the scheduler (`sent`) and
-- those to hosts (`told`), in the order in which they were sent. `events` are those that were taken.
pub record World : Type 0 where
  pub now : History
  pub further : List History
  pub opened : Farm
  pub entries : List Entry
  pub hosts : List Host
  pub sent : List Sent
  pub told : List Told
  pub events : List Event

-- a host in its first life
abbrev pub new_host : RqdConfig → Host
new_host config = record { life = new_life config; nonces = config.nonce ∷ []; started = [] }

-- an operator's line
abbrev pub operators_line : Request → Sent
operators_line asked = record { host = None; line = request_text asked }

-- a world of a farm and hosts, in which operators have sent their lines and nothing has happened
abbrev pub made_world : Farm → List RqdConfig → List Request → World
made_world farm configs asked =
    record {
      now = record { farm = farm; counted = [] };
      further = [];
      opened = farm;
      entries = [];
      hosts = map new_host configs;
      sent = map operators_line asked;
      told = [];
      events = [];
    }
