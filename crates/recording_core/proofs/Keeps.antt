-- Each step keeps what holds of a table, and so does any list of them.
use Rattle.std.proofs.Common.{◌≡◌, ℕ, List, [], ◌∷◌, subst}
use mathlib.Core.Option.{some}
use lib.ListN.{get_elem?}
use Rattle.booking_rule.specs.declared.view.View.{View}
use Rattle.booking_rule.specs.Kept.{Holds}
use Rattle.booking_core.specs.Machine.{Table}
use Rattle.booking_core.proofs.Keeps as claimants
use Rattle.recording_core.specs.Records.{RecorderKind}
use Rattle.recording_core.specs.Records.RecorderKind.{opens, closes, records, books, confirms, withdraws, leaves, ends, turns, sets_amount, sets_burst, sets_most, sets_size, places, places_size, places_burst, places_most}
use Rattle.recording_core.specs.Machine.{AnyKind, Move, Asks, acts, MayStep, steps, Runs}
use Rattle.recording_core.specs.Machine.AnyKind.{of_claimant, of_recorder}
use Rattle.recording_core.proofs.Booking.{books_holds}
use Rattle.recording_core.proofs.Closing.{closes_holds}
use Rattle.recording_core.proofs.Confirming.{confirms_holds, withdraws_holds}
use Rattle.recording_core.proofs.Opening.{opens_holds}
use Rattle.recording_core.proofs.Placing.{places_holds, places_size_holds, places_burst_holds, places_most_holds}
use Rattle.recording_core.proofs.Setting.{records_holds, sets_amount_holds, sets_burst_holds, sets_most_holds}
use Rattle.recording_core.proofs.Sizing.{sets_size_holds}
use Rattle.recording_core.proofs.Turning.{leaves_holds, ends_holds, turns_holds}

pub recorder_holds : (s : Table) (id : ℕ) (v : View) (k : RecorderKind) → Holds s → get_elem? s.views id ≡ some v → Asks s v k → Holds (acts s id v k)
recorder_holds s id v (opens f) h at asks = opens_holds s id v h at f asks
recorder_holds s id v closes h at asks = closes_holds s id v h at asks
recorder_holds s id v (records e) h at asks = records_holds s id v h at e asks
recorder_holds s id v (books c e) h at asks = books_holds s id v c e h at asks
recorder_holds s id v (confirms c) h at asks = confirms_holds s id v h at c asks
recorder_holds s id v (withdraws c) h at asks = withdraws_holds s id v h at c asks
recorder_holds s id v (leaves slot bits) h at asks = leaves_holds s id v h at slot bits asks
recorder_holds s id v (ends slot bits) h at asks = ends_holds s id v h at slot bits asks
recorder_holds s id v (turns slot bits) h at asks = turns_holds s id v h at slot bits asks
recorder_holds s id v (sets_amount slot bits) h at asks = sets_amount_holds s id v h at slot bits asks
recorder_holds s id v (sets_burst sub old new) h at asks = sets_burst_holds s id v h at sub old new asks
recorder_holds s id v (sets_most limit old new) h at asks = sets_most_holds s id v h at limit old new asks
recorder_holds s id v (sets_size host cores memory) h at asks = sets_size_holds s id v h at host cores memory asks
recorder_holds s id v (places slot bits) h at asks = places_holds s id v h at slot bits asks
recorder_holds s id v (places_size host cores memory) h at asks = places_size_holds s id v h at host cores memory asks
recorder_holds s id v (places_burst sub burst booked) h at asks = places_burst_holds s id v h at sub burst booked asks
recorder_holds s id v (places_most limit most running) h at asks = places_most_holds s id v h at limit most running asks

pub step_holds : (s : Table) (id : ℕ) (v : View) (k : AnyKind) → Holds s → get_elem? s.views id ≡ some v → MayStep s id v k → Holds (steps s id v k)
step_holds s id v (of_claimant k) h at asks = claimants.step_holds s id v k h at asks
step_holds s id v (of_recorder k) h at asks = recorder_holds s id v k h at asks

pub steps_hold : (ms : List Move) (s t : Table) → Holds s → Runs s ms t → Holds t
steps_hold [] s t h runs = subst Holds runs h
steps_hold (m ∷ ms) s t h runs = steps_hold ms (steps s m.0 runs.0 m.1) t (step_holds s m.0 runs.0 m.1 h runs.1 runs.2) runs.3
