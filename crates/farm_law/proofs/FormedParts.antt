-- The parts of hosts and layers that are within their forms and limits.
use Rattle.std.proofs.Common.{◌≡◌, ℕ, ◌<◌, ◌^◌, true, leb, ltb, length}
use Rattle.std.specs.Cmp.Derive.{both_true}
use Rattle.std.proofs.lemmas.Bool.{leb-true, le-leb, lt-ltb, ltb-true}
use Rattle.farm_types.specs.declared.limits.TheConstants.{LAST_BOOT, LEAST_CORES, LEAST_MEMORY, MOST_COMMAND, MOST_CORES, MOST_LAYERS, MOST_MEMORY}
use Rattle.farm_types.specs.declared.rows.HostRow.{HostRow}
use Rattle.farm_types.specs.declared.rows.LayerRow.{LayerRow}
use Rattle.farm_types.specs.Forms.{is_between, is_command_text, is_name_text}
use Rattle.farm_types.specs.Kept.{are_tags, is_formed_host, is_formed_layer}
use Rattle.farm_types.specs.Limits.{IsBetween}
use Rattle.farm_types.specs.Ranges.{is_range_text}
use Rattle.farm_types.proofs.Lists.{and_both}

-- a number within limits passes the test, and what passes is within them
pub between : (least most n : ℕ) → IsBetween least most n → is_between least most n ≡ true
between least most n within = both_true (le-leb least n within.0) (le-leb n most within.1)

pub between_is : (least most n : ℕ) → is_between least most n ≡ true → IsBetween least most n
between_is least most n passes =
    let both = and_both (leb least n) (leb n most) passes in
    (leb-true least n both.0, leb-true n most both.1)

pub record HostFormed (row : HostRow) : Type 0 where
  pub name : is_name_text row.name ≡ true
  pub tags : are_tags 0 row.tags ≡ true
  pub cores : IsBetween LEAST_CORES MOST_CORES row.cores
  pub memory : IsBetween LEAST_MEMORY MOST_MEMORY row.memory
  pub boot : IsBetween 1 LAST_BOOT row.boot
  pub nonce : row.nonce < 2 ^ 64
  pub seq : row.seq < 2 ^ 64

pub host_formed : (row : HostRow) → is_formed_host row ≡ true → HostFormed row
host_formed row h =
    let name = and_both (is_name_text row.name) _ h in
    let tags = and_both (are_tags 0 row.tags) _ name.1 in
    let cores = and_both (is_between LEAST_CORES MOST_CORES row.cores) _ tags.1 in
    let memory = and_both (is_between LEAST_MEMORY MOST_MEMORY row.memory) _ cores.1 in
    let boot = and_both (is_between 1 LAST_BOOT row.boot) _ memory.1 in
    let nonce = and_both (ltb row.nonce (2 ^ 64)) (ltb row.seq (2 ^ 64)) boot.1 in
    record {
      name = name.0;
      tags = tags.0;
      cores = between_is LEAST_CORES MOST_CORES row.cores cores.0;
      memory = between_is LEAST_MEMORY MOST_MEMORY row.memory memory.0;
      boot = between_is 1 LAST_BOOT row.boot boot.0;
      nonce = ltb-true row.nonce (2 ^ 64) nonce.0;
      seq = ltb-true row.seq (2 ^ 64) nonce.1;
    }

pub formed_host : (row : HostRow) → HostFormed row → is_formed_host row ≡ true
formed_host row p =
    both_true p.name
    (both_true p.tags
    (both_true (between LEAST_CORES MOST_CORES row.cores p.cores)
    (both_true (between LEAST_MEMORY MOST_MEMORY row.memory p.memory)
    (both_true (between 1 LAST_BOOT row.boot p.boot) (both_true (lt-ltb row.nonce (2 ^ 64) p.nonce) (lt-ltb row.seq (2 ^ 64) p.seq))))))

pub record LayerFormed (l : LayerRow) : Type 0 where
  pub name : is_name_text l.name ≡ true
  pub place : l.place < MOST_LAYERS
  pub range : is_range_text l.range ≡ true
  pub long : IsBetween 1 MOST_COMMAND (length l.command)
  pub command : is_command_text l.command ≡ true
  pub cores : IsBetween LEAST_CORES MOST_CORES l.cores
  pub memory : IsBetween LEAST_MEMORY MOST_MEMORY l.memory
  pub tags : are_tags 1 l.tags ≡ true

pub layer_formed : (l : LayerRow) → is_formed_layer l ≡ true → LayerFormed l
layer_formed l h =
    let name = and_both (is_name_text l.name) _ h in
    let place = and_both (ltb l.place MOST_LAYERS) _ name.1 in
    let range = and_both (is_range_text l.range) _ place.1 in
    let long = and_both (is_between 1 MOST_COMMAND (length l.command)) _ range.1 in
    let command = and_both (is_command_text l.command) _ long.1 in
    let cores = and_both (is_between LEAST_CORES MOST_CORES l.cores) _ command.1 in
    let memory = and_both (is_between LEAST_MEMORY MOST_MEMORY l.memory) (are_tags 1 l.tags) cores.1 in
    record {
      name = name.0;
      place = ltb-true l.place MOST_LAYERS place.0;
      range = range.0;
      long = between_is 1 MOST_COMMAND (length l.command) long.0;
      command = command.0;
      cores = between_is LEAST_CORES MOST_CORES l.cores cores.0;
      memory = between_is LEAST_MEMORY MOST_MEMORY l.memory memory.0;
      tags = memory.1;
    }
