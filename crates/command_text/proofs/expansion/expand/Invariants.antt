use Rattle.std.proofs.Common.{◌≡◌, ◌++◌, length, string_bytes}
use denote.Text.{Utf8}
use denote.Shadow.{shadow}
use Rattle.farm_types.specs.Names.{expanded_from}
use Rattle.command_text.proofs.expansion.expand.Given as goal

abbrev pub invariant-loop-plain : goal.invariant-loop-plain
invariant-loop-plain l = shadow (Utf8 l.rest) × (string_bytes l.expanded ++ expanded_from 0 l.job l.layer l.number l.rest ≡ expanded_from 0 l.job l.layer l.number l.command)

abbrev pub decreases-loop-plain : goal.decreases-loop-plain
decreases-loop-plain l = length l.rest
