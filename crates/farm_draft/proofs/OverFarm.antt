-- The draft that is laid over a farm: with nothing laid over it, and with one row more.
use Rattle.std.proofs.Common.{◌≡◌, ℕ, false, nat_eq, List, Option, Some, None, refl, ap, ◌∙◌}
use Rattle.farm_types.specs.declared.rows.HostRow.{HostRow}
use Rattle.farm_types.specs.declared.slot_row.SlotRow.{SlotRow}
use Rattle.farm_types.specs.Farm.{Farm}
use Rattle.farm_types.specs.Step.{at_moment}
use Rattle.host_book.specs.Life.{with_life}
use Rattle.host_book.specs.declared.life.HostLife.{HostLife}
use Rattle.farm_draft.specs.Drafted.{Drafted, with_host, with_slot}
use Rattle.farm_draft.specs.Inside.{over_farm}
use Rattle.farm_draft.specs.Laid.{laid}
use Rattle.farm_draft.specs.Rows.{put_row}
use Rattle.farm_draft.specs.declared.slot_change.SlotChange.{SlotChange}
use Rattle.farm_draft.proofs.LaidRows.{changed_at-row, laid_none, laid_put}

-- the draft that comes to those hosts and slots
abbrev drafted_with : Farm → ℕ → List HostRow → List SlotRow → Drafted
drafted_with f moment hosts slots = record { base = f; moment = moment; farm = record (at_moment f moment) { hosts = hosts; slots = slots } }

pub over_farm-none : (f : Farm) (moment : ℕ) (hosts : ℕ → Option HostLife) (slots : ℕ → Option SlotChange) → ((j : ℕ) → hosts j ≡ None) → ((j : ℕ) → slots j ≡ None)
    → over_farm f moment hosts slots ≡ record { base = f; moment = moment; farm = at_moment f moment }
over_farm-none f moment hosts slots no_hosts no_slots =
    ap (λ (hs : List HostRow). drafted_with f moment hs (laid put_row slots f.slots)) (laid_none with_life 0 hosts f.hosts no_hosts)
    ∙ ap (λ (ss : List SlotRow). drafted_with f moment f.hosts ss) (laid_none put_row 0 slots f.slots no_slots)

module _ (f : Farm) (moment : ℕ) (hosts : ℕ → Option HostLife) (slots : ℕ → Option SlotChange) where
  pub over_farm-host : (next : ℕ → Option HostLife) (host : ℕ) (life : HostLife) → next host ≡ Some life → ((j : ℕ) → nat_eq host j ≡ false → next j ≡ hosts j)
      → over_farm f moment next slots ≡ with_host (over_farm f moment hosts slots) host life
  over_farm-host next host life is same =
      ap (λ (hs : List HostRow). drafted_with f moment hs (laid put_row slots f.slots)) (laid_put with_life (λ p q x. refl) hosts next f.hosts host life is same)

  pub over_farm-slot : (next : ℕ → Option SlotChange) (slot : ℕ) (change : SlotChange) → next slot ≡ Some change → ((j : ℕ) → nat_eq slot j ≡ false → next j ≡ slots j)
      → over_farm f moment hosts next ≡ with_slot (over_farm f moment hosts slots) slot change.row
  over_farm-slot next slot change is same =
      ap (λ (ss : List SlotRow). drafted_with f moment (laid with_life hosts f.hosts) ss)
      (laid_put put_row (λ p q x. refl) slots next f.slots slot change is same ∙ changed_at-row (laid put_row slots f.slots) slot change)
