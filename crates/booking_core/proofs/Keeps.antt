-- Each step keeps what holds of a table, and so does any list of them.
use Rattle.std.proofs.Common.{◌≡◌, ℕ, List, [], ◌∷◌, subst}
use mathlib.Core.Option.{some}
use lib.ListN.{get_elem?}
use Rattle.booking_rule.specs.declared.view.View.{View}
use Rattle.booking_rule.specs.Kept.{Holds}
use Rattle.booking_core.specs.Kinds.{Kind}
use Rattle.booking_core.specs.Kinds.Kind.{loads, takes_burst, gives_burst, retracts_burst, takes_limit, gives_limit, retracts_limit, takes_host}
use Rattle.booking_core.specs.Kinds.Kind.{gives_host, claims, drops, settles, splits, notes, joins}
use Rattle.booking_core.specs.Machine.{Table, Move, Asks, acts, Runs}
use Rattle.booking_core.proofs.Taking.{takes_burst_holds, gives_burst_holds, retracts_burst_holds, takes_limit_holds, gives_limit_holds, retracts_limit_holds}
use Rattle.booking_core.proofs.Rooms.{loads_holds, takes_host_holds, gives_host_holds}
use Rattle.booking_core.proofs.Claiming.{claims_holds, drops_holds}
use Rattle.booking_core.proofs.Sharing.{settles_holds, splits_holds, notes_holds, joins_holds}

pub step_holds : (s : Table) (id : ℕ) (v : View) (k : Kind) → Holds s → get_elem? s.views id ≡ some v → Asks s id v k → Holds (acts s id v k)
step_holds s id v (loads i) h at asks = loads_holds s id v h at i asks
step_holds s id v (takes_burst sub cores) h at asks = takes_burst_holds s id v h at sub cores asks
step_holds s id v (gives_burst sub cores) h at asks = gives_burst_holds s id v h at sub cores asks
step_holds s id v (retracts_burst sub cores) h at asks = retracts_burst_holds s id v h at sub cores asks
step_holds s id v (takes_limit limit) h at asks = takes_limit_holds s id v h at limit asks
step_holds s id v (gives_limit limit) h at asks = gives_limit_holds s id v h at limit asks
step_holds s id v (retracts_limit limit) h at asks = retracts_limit_holds s id v h at limit asks
step_holds s id v (takes_host host cores memory expected) h at asks = takes_host_holds s id v h at host cores memory expected asks
step_holds s id v (gives_host host cores memory) h at asks = gives_host_holds s id v h at host cores memory asks
step_holds s id v (claims c) h at asks = claims_holds s id v h at c asks
step_holds s id v (drops c) h at asks = drops_holds s id v h at c asks
step_holds s id v settles h at asks = settles_holds s id v h at
step_holds s id v splits h at asks = splits_holds s id v h at asks
step_holds s id v notes h at asks = notes_holds s id v h at
step_holds s id v (joins other) h at asks = joins_holds s id v h at other asks

pub steps_hold : (ms : List Move) (s t : Table) → Holds s → Runs s ms t → Holds t
steps_hold [] s t h runs = subst Holds runs h
steps_hold (m ∷ ms) s t h runs = steps_hold ms (acts s m.0 runs.0 m.1) t (step_holds s m.0 runs.0 m.1 h runs.1 runs.2) runs.3
