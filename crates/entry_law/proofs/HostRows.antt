-- Hosts stay, each of its allocation.
use Rattle.std.proofs.Common.{◌≡◌, ℕ, Some, sym, ap, ◌∙◌}
use Rattle.std.specs.List.{slice_get}
use Rattle.booking_rule.specs.Link.{host_alloc, of_host}
use Rattle.farm_types.specs.declared.entry.Entry.{Entry}
use Rattle.farm_types.specs.declared.rows.HostRow.{HostRow}
use Rattle.farm_types.specs.Farm.{Farm}
use Rattle.farm_types.specs.Run.{IsLegalStep}
use Rattle.farm_types.specs.Step.{after}
use Rattle.farm_law.proofs.SafeRuns.{step_law}

-- the allocation of a host is its row's
pub alloc_is : (f : Farm) (host : ℕ) (row : HostRow) → slice_get f.hosts host ≡ Some row → host_alloc f host ≡ row.alloc
unfolding host_alloc
alloc_is f host row at = ap (of_host (λ r. r.alloc)) at

pub alloc_stays : (f : Farm) (e : Entry) (host : ℕ) (row : HostRow) → IsLegalStep f e → slice_get f.hosts host ≡ Some row
    → (now : HostRow) × (slice_get (after f e).hosts host ≡ Some now) × (host_alloc (after f e) host ≡ host_alloc f host)
alloc_stays f e host row legal at =
    let now = (step_law f e legal).rows.hosts host row at in
    (now.0, now.1, alloc_is (after f e) host now.0 now.1 ∙ (now.2 ∙ sym (alloc_is f host row at)))
