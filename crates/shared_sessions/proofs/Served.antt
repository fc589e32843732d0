-- How a session ends, by its last exchange.
use Rattle.std.proofs.Common.{◌≡◌, ◌⊎◌, ◌<◌, ℕ, List, [], length, refl, sym, subst, inl, inr, Option, arith}
use Rattle.booking_rule.specs.declared.opening.Opening.{Opening}
use Rattle.booking_rule.specs.declared.view.View.{View}
use Rattle.booking_rule.specs.Link.{farm_of}
use Rattle.cue_io.specs.Input.{Takes-none}
use Rattle.cue_io.specs.Output.{Adds-none}
use Rattle.cue_io.specs.Readings.{Tells-none}
use Rattle.cue_io.specs.declared.limits.TheConstants.{BYTE_LIMIT}
use Rattle.fault_counts.specs.Counts.{HasRisen}
use Rattle.farm_law.proofs.KeptChanges.{kept_hosts}
use Rattle.farm_types.specs.declared.entry.Entry.{Entry}
use Rattle.farm_types.specs.Farm.{Farm}
use Rattle.farm_types.specs.Run.{HasItsHosts, IsLegal, IsSafe, IsSound}
use Rattle.line_exchanges.specs.Calls.{HasLines, HasMoved, Streams}
use Rattle.line_exchanges.specs.declared.exchanged.Exchanged.{Exchanged}
use Rattle.line_exchanges.specs.declared.exchanged.Exchanged.TheVariants as exchanged
use Rattle.shared_lines.specs.line_answers.specs.booking_recorder.specs.Passing.{Passing}
use Rattle.shared_lines.specs.shared_rounds.specs.shared_bot.specs.Passes.{IsFree}
use Rattle.shared_sessions.specs.declared.session_end.SessionEnd.{SessionEnd}
use Rattle.shared_sessions.specs.declared.session_end.SessionEnd.TheVariants as session_end
use Rattle.shared_sessions.specs.Sessions.{HasServed, IsServed, ServedCall, Serves, ended_by}

serves_of : (ended : Exchanged) (v : Passing) (call : ServedCall) (w : Passing) (unread : Option (List ℕ)) → HasServed ended v call w unread
    → Serves (ended_by ended) v call w unread
serves_of exchanged.Went v call w unread served = absurd served.lines
serves_of exchanged.End v call w unread served = served
serves_of exchanged.Read v call w unread served = served
serves_of exchanged.Write v call w unread served = served
serves_of exchanged.Spent v call w unread served = served

-- without a fault, and below the limit, it is the end of the source
ends_well : (ended : Exchanged) (taken : List ℕ) (lines : List (List ℕ)) (unread : Option (List ℕ)) (read_fails write_fails : Type 0) → HasLines ended taken lines unread
    → (ended ≡ exchanged.Read → read_fails) → (ended ≡ exchanged.Write → write_fails) → (read_fails → ⊥) → (write_fails → ⊥) → length taken < BYTE_LIMIT
    → (ended_by ended ≡ session_end.End) ⊎ (ended_by ended ≡ session_end.Memory)
ends_well exchanged.Went taken lines unread read_fails write_fails has read write no_read no_write few = absurd has
ends_well exchanged.End taken lines unread read_fails write_fails has read write no_read no_write few = inl refl
ends_well exchanged.Read taken lines unread read_fails write_fails has read write no_read no_write few = absurd (no_read (read refl))
ends_well exchanged.Write taken lines unread read_fails write_fails has read write no_read no_write few = absurd (no_write (write refl))
ends_well exchanged.Spent taken lines unread read_fails write_fails has read write no_read no_write few = absurd (omega (arith, has.1, few))

-- the lines of a connection were answered, up to this last exchange
pub served_by : (result : SessionEnd) (ended : Exchanged) (before after : Streams) (v : Passing) (call : ServedCall) (w : Passing) → result ≡ ended_by ended
    → HasMoved before after call → HasServed ended v call w after.unread → (ended ≡ exchanged.Read → HasRisen before.read_faults after.read_faults)
    → (ended ≡ exchanged.Write → HasRisen before.write_faults after.write_faults) → IsServed result before after v call w
served_by result ended before after v call w is moved served read write =
    subst (λ (r : SessionEnd). IsServed r before after v call w) (sym is) (record {
      moved = moved;
      serves = serves_of ended v call w after.unread served;
      complete = λ no_read no_write few.
          ends_well ended call.taken _ after.unread (HasRisen before.read_faults after.read_faults) (HasRisen before.write_faults after.write_faults) served.lines read write
          no_read no_write few;
    })

-- memory ran out before anything was done
pub served_none : (before : Streams) (v : Passing) → (call : ServedCall) × IsServed session_end.Memory before before v call v
served_none before v = (
  record { taken = []; written = []; readings = []; exchanges = [] },
  record {
    moved = record { taken = Takes-none before.unread; written = Adds-none before.written; readings = Tells-none before.readings };
    serves = record { taken = refl; written = refl; readings = refl; lines = refl; same = refl };
    complete = λ no_read no_write few. inr refl;
  },
)

-- what a pass has seen is safe
pub free_safe : (opening : Opening) (v : View) → IsFree opening v
    → ((f : Farm) (es : List Entry) → IsSound f → HasItsHosts f → IsLegal f es → IsSafe f es) → IsSafe (farm_of opening) v.journal
free_safe opening v free law = law (farm_of opening) v.journal free.begins.rows.sound (kept_hosts (farm_of opening) free.begins.rows) free.legal
