-- Where a boot begins a new life of a host, and what is lost with the old one, are seen alike before and after silent hosts go down.
use Rattle.std.proofs.Common.{◌≡◌, ℕ, ◌+◌, Bool, true, false, cond, eqb, List, [], ◌∷◌, Option, Some, None, refl, ap, ◌∙◌, option_map}
use Rattle.std.specs.List.{slice_get}
use Rattle.std.proofs.lemmas.Option.{slice_get-map}
use Rattle.farm_types.specs.declared.boot.BootLine.{BootLine}
use Rattle.farm_types.specs.declared.rows.HostRow.{HostRow}
use Rattle.farm_types.specs.declared.slot_row.SlotRow.{SlotRow}
use Rattle.farm_types.specs.Farm.{Farm, host_from, host_named}
use Rattle.farm_types.specs.Hosts.{down_row, is_same_life, is_unheard, silenced, silenced_row}
use Rattle.farm_types.specs.Lost.{lose_on}
use Rattle.farm_types.specs.Step.{expire, lose_life, slots_at_boot}
use Rattle.farm_changes.specs.RowsOf.{ending_life, life_ends}

-- the slots without the attempts on the host whose life ends
abbrev pub slots_ended : Option ℕ → List SlotRow → List SlotRow
slots_ended None slots = slots
slots_ended (Some host) slots = lose_on (λ n. eqb n host) slots

name_by : (row : HostRow) (b : Bool) → (let new : HostRow = cond b (down_row row) row in new.name ≡ row.name)
name_by row true = refl
name_by row false = refl

-- names stay where hosts go down
pub silenced_named : (moment place : ℕ) (name : List ℕ) (hosts : List HostRow) → host_from place name (silenced moment hosts) ≡ host_from place name hosts
silenced_named moment place name [] = refl
silenced_named moment place name (row ∷ rows) = rw (name_by row (is_unheard moment row), silenced_named moment (place + 1) name rows) refl

nonce_by : (row : HostRow) (b : Bool) → (let new : HostRow = cond b (down_row row) row in new.nonce ≡ row.nonce)
nonce_by row true = refl
nonce_by row false = refl

ended_by : (b : Bool) (host : ℕ) (slots : List SlotRow) → cond b slots (lose_on (λ n. eqb n host) slots) ≡ slots_ended (cond b None (Some host)) slots
ended_by true host slots = refl
ended_by false host slots = refl

row_ended : (line : BootLine) (moment host : ℕ) (o : Option HostRow) (slots : List SlotRow) → lose_life line host (option_map (silenced_row moment) o) slots ≡ slots_ended (life_ends line host o) slots
row_ended line moment host None slots = refl
row_ended line moment host (Some row) slots =
    ap (λ (n : ℕ). cond (eqb n line.nonce) slots (lose_on (λ k. eqb k host) slots)) (nonce_by row (is_unheard moment row)) ∙ ended_by (is_same_life line row) host slots

at_boot : (f : Farm) (moment : ℕ) (line : BootLine) (o : Option ℕ) → slots_at_boot (expire f moment) line o ≡ slots_ended (ending_life f line o) (expire f moment).slots
at_boot f moment line None = refl
at_boot f moment line (Some host) = rw (slice_get-map (silenced_row moment) f.hosts host) (row_ended line moment host (slice_get f.hosts host) (expire f moment).slots)

pub boot_slots : (f : Farm) (moment : ℕ) (line : BootLine)
    → slots_at_boot (expire f moment) line (host_named (expire f moment) line.host) ≡ slots_ended (ending_life f line (host_named f line.host)) (expire f moment).slots
boot_slots f moment line = rw (silenced_named moment 0 line.host f.hosts) (at_boot f moment line (host_named f line.host))
