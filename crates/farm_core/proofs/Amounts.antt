-- What live attempts use of a host is within what any host has.
use Rattle.std.proofs.Common.{◌≡◌, ◌≤◌, ◌<◌, ◌∙◌, ℕ, true, length, Option, Some, None, refl, sym, arith}
use Rattle.std.specs.List.{slice_get}
use Rattle.std.specs.Prelude.{nat_le}
use Rattle.std.proofs.lemmas.Bool.{leb-true}
use Rattle.std.proofs.lemmas.Option.{none-some}
use Rattle.farm_types.proofs.Lists.{and_both, list_all-at, slice_get_below}
use Rattle.farm_types.specs.Farm.{Farm}
use Rattle.farm_types.specs.Forms.{is_between, is_name_text}
use Rattle.farm_types.specs.Kept.{KeepsRows, are_tags, is_formed_host}
use Rattle.farm_types.specs.Sums.{used_cores, used_memory}
use Rattle.farm_types.specs.declared.limits.TheConstants.{LEAST_CORES, LEAST_MEMORY, MOST_CORES, MOST_MEMORY}
use Rattle.farm_types.specs.declared.rows.HostRow.{HostRow}
use Rattle.farm_law.proofs.KeptChanges.{kept_hosts}
use Rattle.farm_law.proofs.Lost.{unused_host, unused_memory}

-- cores and memory within those of any host
pub record AreMost (cores memory : ℕ) : Type 0 where
  pub cores_within : cores ≤ MOST_CORES
  pub memory_within : memory ≤ MOST_MEMORY

host_most : (row : HostRow) → is_formed_host row ≡ true → AreMost row.cores row.memory
host_most row formed =
    let name = and_both (is_name_text row.name) _ formed in
    let tags = and_both (are_tags 0 row.tags) _ name.1 in
    let cores = and_both (is_between LEAST_CORES MOST_CORES row.cores) _ tags.1 in
    let memory = and_both (is_between LEAST_MEMORY MOST_MEMORY row.memory) _ cores.1 in
    record {
      cores_within = leb-true row.cores MOST_CORES (and_both (nat_le LEAST_CORES row.cores) _ cores.0).1;
      memory_within = leb-true row.memory MOST_MEMORY (and_both (nat_le LEAST_MEMORY row.memory) _ memory.0).1;
    }

used_by : (f : Farm) (host : ℕ) (o : Option HostRow) → slice_get f.hosts host ≡ o → KeepsRows f → AreMost (used_cores f host) (used_memory f host)
used_by f host None none k =
    let there = kept_hosts f k in
    let there_not : host < length f.hosts → ⊥ = λ below. let row = slice_get_below f.hosts host below in none-some row.0 (sym none ∙ row.1) in
    let past : length f.hosts ≤ host = omega arith in
    record { cores_within = omega (arith, unused_host f host there past); memory_within = omega (arith, unused_memory f host there past) }
used_by f host (Some row) at k =
    let most = host_most row (list_all-at is_formed_host f.hosts host row k.hosts.formed at) in
    record {
      cores_within = omega (arith, k.sound.cores host row at, most.cores_within);
      memory_within = omega (arith, k.sound.memory host row at, most.memory_within);
    }

-- the sums fit the row's types
pub used_most : (f : Farm) (host : ℕ) → KeepsRows f → AreMost (used_cores f host) (used_memory f host)
used_most f host k = used_by f host (slice_get f.hosts host) refl k
