-- Slots that are freed of a job had no attempts.
use Rattle.std.proofs.Common.{◌≡◌, ℕ, Bool, true, false, cond, ◌&&◌, not, List, [], ◌∷◌, map, Option, Some, None, refl, sym}
use Rattle.std.specs.Prelude.{is_some}
use Rattle.std.specs.List.{list_all}
use Rattle.std.proofs.lemmas.Bool.{false≢true}
use Rattle.farm_types.specs.declared.attempt.ProcRow.{ProcRow}
use Rattle.farm_types.specs.declared.slot_row.SlotRow.{SlotRow}
use Rattle.farm_types.specs.Finish.{freed_row, is_frame_of}
use Rattle.farm_types.specs.Settle.{raised}
use Rattle.farm_types.proofs.Lists.{and_both}
use Rattle.farm_books.specs.Finish.{has_ended}
use Rattle.farm_books.specs.Install.{proc_in, procs_of}

abbrev free : SlotRow → SlotRow
free s = record { version = raised s.version; frame = None; proc = None }

freed : (s : SlotRow) (b : Bool) (o : Option ProcRow) → s.proc ≡ o → not (b && is_some o) ≡ true → proc_in (cond b (free s) s) ≡ proc_in s
freed s true None is ended = sym is
freed s true (Some p) is ended = absurd (false≢true ended)
freed s false o is ended = refl

pub freed_procs : (job : ℕ) (slots : List SlotRow) → list_all (has_ended job) slots ≡ true → procs_of (map (freed_row job) slots) ≡ procs_of slots
freed_procs job [] ended = refl
freed_procs job (s ∷ ss) ended =
    let both = and_both (has_ended job s) (list_all (has_ended job) ss) ended in
    let rest = freed_procs job ss both.1 in
    λ i. freed s (is_frame_of job s) s.proc refl both.0 i ∷ rest i
