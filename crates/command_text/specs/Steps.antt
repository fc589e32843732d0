-- What the expansion does at a `#`.
use Rattle.std.specs.Prelude.{◌≡◌, ℕ, ◌<◌, List, ◌++◌, length}
use Rattle.farm_types.specs.Names.{expanded_from}
use Rattle.command_text.specs.declared.expansion.Names.{Names}

-- what the rest of a command becomes
abbrev pub expanded_rest : Names → List ℕ → List ℕ
expanded_rest names rest = expanded_from 0 names.job.now names.layer.now names.number rest

-- a step that leaves less of the text, and writes just what the part that it took becomes
pub record IsStep (names : Names) (old text new rest : List ℕ) : Type 0 where
  pub shorter : length rest < length text
  pub same : new ++ expanded_rest names rest ≡ old ++ expanded_rest names text
