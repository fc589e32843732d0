-- So many workers were made, a seat for each was split off, and where there is one no receipt is left to take.
use Rattle.std.proofs.Common.{◌≡◌, ◌≤◌, ◌+◌, ◌==◌, false, length, vec_len, vec_capacity}
use Rattle.std.specs.Vec.Iter.{into_iter_items}
use Rattle.shared_sessions.specs.shared_bot.specs.Passes.{IsTaken}
use Rattle.shared_sessions.specs.shared_bot.specs.recording_turns.specs.Resting.{split_in}
use Rattle.serving.proofs.workers.make_workers.Given as goal

abbrev pub invariant-loop-gate : goal.invariant-loop-gate
invariant-loop-gate g l = record {
  can : (goal.iterator-loop-gate g).can_next l.gate-iterator;
  finite : (goal.iterator-loop-gate g).is_finite l.gate-iterator;
  counted : vec_len l.workers + length (into_iter_items l.gate-iterator) ≡ vec_len l.fn.gates;
  room : vec_len l.fn.gates ≤ vec_capacity l.workers;
  split : split_in l.recorder.view.desk ≡ vec_len l.workers;
  taken : (vec_len l.workers == 0) ≡ false → IsTaken l.recorder;
  opening : l.recorder.view.opening ≡ g.N.Opened.opening;
  farm : l.recorder.farm ≡ l.fn.recorder.farm;
  keeper : l.recorder.keeper ≡ l.fn.recorder.keeper;
}
