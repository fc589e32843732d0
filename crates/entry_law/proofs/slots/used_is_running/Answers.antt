use Rattle.entry_law.proofs.Running.{cores_booked, cores_used, frames_counted, memory_used}
use Rattle.entry_law.proofs.slots.used_is_running.Goals as goal

pub returns : goal.returns
returns c f k = record { cores = cores_used f k.rows; memory = memory_used f k.rows; booked = cores_booked f k.rows; running = frames_counted f k.rows }
