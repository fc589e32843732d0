use Rattle.std.proofs.Common.{◌≡◌, ◌≤◌, length, []}
use Rattle.frame_range.specs.Sets.{numbers_of, IsFaultless, sections_from, pieces}
use Rattle.frame_range.specs.declared.limits.TheConstants.{MOST_NUMBERS}
use Rattle.frame_range.proofs.frame_set.parse_set.Given as goal

abbrev pub invariant-loop-piece : goal.invariant-loop-piece
invariant-loop-piece l = record {
  listed : l.listing ≡ numbers_of l.sections.items;
  few : length l.listing ≤ MOST_NUMBERS;
  faultless : IsFaultless l.sections.items;
  so_far : sections_from l.sections.items (pieces l.rest) ≡ sections_from [] (pieces l.fn.text);
}

abbrev pub decreases-loop-piece : goal.decreases-loop-piece
decreases-loop-piece l = length l.rest
