-- What an act has to keep: the farm stays sound with its hosts, and its rows stay.
use Rattle.std.proofs.Common.{◌≡◌, ◌≤◌, List, length, Some, sym, subst}
use Rattle.std.specs.List.{slice_get, sum_by}
use Rattle.farm_types.specs.declared.rows.HostRow.{HostRow}
use Rattle.farm_types.specs.declared.slot_row.SlotRow.{SlotRow}
use Rattle.farm_types.specs.Farm.{Farm}
use Rattle.farm_types.specs.Run.{IsSound, HasItsHosts, OnHostOf}
use Rattle.farm_types.specs.Sums.{cores_on, memory_on}
use Rattle.farm_law.proofs.RowsStay.{RowsStay, rows_then, slots_same, hosts_same, allocs_same, jobs_same}

-- A change from the first farm to the second keeps the law.
pub record KeepsLaw (f g : Farm) : Type 0 where
  pub sound : IsSound f → HasItsHosts f → IsSound g
  pub hosts : IsSound f → HasItsHosts f → HasItsHosts g
  pub rows : RowsStay f g

pub law_same : (f : Farm) → KeepsLaw f f
law_same f =
    record {
      sound = λ ok there. ok;
      hosts = λ ok there. there;
      rows = record { slots = slots_same f.slots; hosts = hosts_same f.hosts; allocs = allocs_same f.allocs; jobs = jobs_same f.jobs };
    }

pub law_then : (f g k : Farm) → KeepsLaw f g → KeepsLaw g k → KeepsLaw f k
law_then f g k first second =
    record {
      sound = λ ok there. second.sound (first.sound ok there) (first.hosts ok there);
      hosts = λ ok there. second.hosts (first.sound ok there) (first.hosts ok there);
      rows = rows_then f g k first.rows second.rows;
    }

-- a farm with the same hosts and slots is sound, and has its hosts; what is left to show is what stays of its allocations and jobs
pub law_unchanged : (f g : Farm) → g.hosts ≡ f.hosts → g.slots ≡ f.slots → RowsStay f g → KeepsLaw f g
law_unchanged f g same_hosts same_slots rows =
    record {
      sound = λ ok there.
          record {
            cores = λ n row at. subst (λ (slots : List SlotRow). sum_by (λ (s : SlotRow). cores_on n s.proc) slots ≤ row.cores) (sym same_slots) (ok.cores n row (subst (λ (hosts : List HostRow). slice_get hosts n ≡ Some row) same_hosts at));
            memory = λ n row at. subst (λ (slots : List SlotRow). sum_by (λ (s : SlotRow). memory_on n s.proc) slots ≤ row.memory) (sym same_slots) (ok.memory n row (subst (λ (hosts : List HostRow). slice_get hosts n ≡ Some row) same_hosts at));
            attempts = λ i s at. ok.attempts i s (subst (λ (slots : List SlotRow). slice_get slots i ≡ Some s) same_slots at);
          };
      hosts = λ ok there i s at. subst (λ (hosts : List HostRow). OnHostOf (length hosts) s.proc) (sym same_hosts) (there i s (subst (λ (slots : List SlotRow). slice_get slots i ≡ Some s) same_slots at));
      rows = rows;
    }

-- a change of none of these rows
pub law_of_same_rows : (f g : Farm) → g.hosts ≡ f.hosts → g.slots ≡ f.slots → g.allocs ≡ f.allocs → g.jobs ≡ f.jobs → KeepsLaw f g
law_of_same_rows f g same_hosts same_slots same_allocs same_jobs =
    law_unchanged f g same_hosts same_slots
    (record {
      slots = rw same_slots (slots_same f.slots);
      hosts = rw same_hosts (hosts_same f.hosts);
      allocs = rw same_allocs (allocs_same f.allocs);
      jobs = rw same_jobs (jobs_same f.jobs);
    })
