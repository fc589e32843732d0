-- What happens on a host: its daemon's own steps, and what this life was told to start.
use Rattle.std.specs.Prelude.{ℕ, ◌==◌, Bool, List, [], ◌∷◌, ◌++◌, map, Result, Ok, Err}
use Rattle.std.specs.List.{list_any}
use Rattle.farm_types.specs.declared.attempt.Attempt.{Attempt}
use Rattle.farm_types.specs.declared.attempt.Exit.{Exit}
use Rattle.farm_lines.specs.declared.launch.Launch.{Launch}
use Rattle.rqd_core.specs.declared.orders.Orders.{Orders}
use Rattle.rqd_core.specs.declared.orders.RqdFault.{RqdFault}
use Rattle.rqd_core.specs.Life.{after_end, after_line, new_life}
use Rattle.rqd_core.specs.Replies.{Taken, take_line}
use Rattle.world_law.specs.World.{Host}

-- once its next line is sent
abbrev pub after_send : Host → Host
after_send h = record h { life = after_line h.life }

-- the attempts of launches
abbrev pub attempts_in : List Launch → List Attempt
attempts_in launches = map (λ (l : Launch). l.attempt) launches

-- the attempts that a reply starts
abbrev pub starts_of : Result Orders RqdFault → List Attempt
starts_of (Ok orders) = attempts_in orders.starts
starts_of (Err why) = []

abbrev pub with_taken : Host → Taken → Host
with_taken h t = record h { life = t.life; started = h.started ++ starts_of t.told }

-- once a line came to it; where its daemon acts on none, only that is known
abbrev pub after_told : Host → List ℕ → Host
after_told h line = with_taken h (take_line h.life line)

-- once a running attempt has ended
abbrev pub after_exit : Host → Attempt → Exit → Host
after_exit h a exit = record h { life = after_end h.life a exit }

-- the host has used the nonce
abbrev pub has_used : Host → ℕ → Bool
has_used h nonce = list_any (λ n. n == nonce) h.nonces

-- a new life, in which nothing runs
abbrev pub reborn : Host → ℕ → Host
reborn h nonce = record { life = new_life (record h.life.config { nonce = nonce }); nonces = h.nonces ++ nonce ∷ []; started = [] }
