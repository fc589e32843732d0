-- How the value of a keeper in memory is told apart from others.
use Rattle.std.specs.Prelude.{ℕ, List, refl}
use Rattle.std.specs.Coded.{Coded, code_by, coded×, coded_list, coded_ℕ}
use Rattle.std.specs.FinMap.{code}
use Rattle.farm_keeper.specs.declared.row.Row.{Row}
use Rattle.farm_keeper.specs.declared.row.Batch.{Batch}
use Rattle.farm_keeper.specs.Rows.{Key, Rows}
use Rattle.fault_counts.specs.Plans.{Plan}
use Rattle.farm_keeper.specs.Memory.{Kept}

abbrev bytes_code : Coded (List ℕ)
bytes_code = coded_list coded_ℕ

abbrev key_code : Coded Key
key_code = coded× coded_ℕ coded_ℕ

abbrev rows_code : Coded Rows
rows_code = code key_code bytes_code

abbrev row_code : Coded Row
row_code = code_by (Key × List ℕ) (coded× key_code bytes_code) (λ r. ((r.kind, r.id), r.bytes))
    (λ p. record { kind = p.0.0; id = p.0.1; bytes = p.1 }) (λ _. refl)

abbrev batch_code : Coded Batch
batch_code = code_by (List Row × List Key) (coded× (coded_list row_code) (coded_list key_code)) (λ b. (b.puts, b.deletes))
    (λ p. record { puts = p.0; deletes = p.1 }) (λ _. refl)

abbrev plan_code : Coded Plan
plan_code = code_by (List ℕ × Key) (coded× bytes_code key_code) (λ p. (p.fails, (p.calls, p.faults)))
    (λ p. record { fails = p.0; calls = p.1.0; faults = p.1.1 }) (λ _. refl)

abbrev pub kept_code : Coded Kept
kept_code = code_by (Rows × (List Batch × Plan)) (coded× rows_code (coded× (coded_list batch_code) plan_code))
    (λ k. (k.rows, (k.refused, k.plan))) (λ p. record { rows = p.0; refused = p.1.0; plan = p.1.1 }) (λ _. refl)
