-- What a daemon's words are within: each number is one of its type, and each text is UTF-8.
use Rattle.std.specs.Prelude.{◌≡◌, ◌<◌, ◌^◌, true, IfSome}
use Rattle.std.specs.List.{AllByRecursion}
use Rattle.std.specs.Str.{is_utf8}
use Rattle.farm_types.specs.declared.attempt.Attempt.{Attempt}
use Rattle.farm_types.specs.declared.attempt.DoneItem.{DoneItem}
use Rattle.rqd_core.specs.declared.config.RqdConfig.{RqdConfig}
use Rattle.rqd_core.specs.declared.running.Running.{Running}
use Rattle.rqd_core.specs.Life.{Life}

pub record IsAttemptWithin (a : Attempt) : Type 0 where
  pub slot : a.slot < 2 ^ 32
  pub version : a.version < 2 ^ 32

pub record IsItemWithin (d : DoneItem) : Type 0 where
  pub attempt : IsAttemptWithin d.attempt
  pub status : d.exit.status < 2 ^ 32
  pub signal : d.exit.signal < 2 ^ 32
  pub free : IfSome d.free (λ cores. cores < 2 ^ 32)

pub record IsConfigWithin (c : RqdConfig) : Type 0 where
  pub name : is_utf8 c.name ≡ true
  pub alloc : is_utf8 c.alloc ≡ true
  pub cores : c.cores < 2 ^ 32
  pub memory : c.memory < 2 ^ 64
  pub nonce : c.nonce < 2 ^ 64

abbrev pub IsRunningWithin : Running → Type 0
IsRunningWithin r = IsAttemptWithin r.attempt

pub record IsLifeWithin (l : Life) : Type 0 where
  pub config : IsConfigWithin l.config
  pub running : AllByRecursion IsRunningWithin l.running
  pub finished : AllByRecursion IsItemWithin l.finished
  pub boot : IfSome l.boot (λ boot. boot < 2 ^ 32)
  pub seq : l.seq < 2 ^ 64
