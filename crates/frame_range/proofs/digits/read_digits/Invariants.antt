use Rattle.std.proofs.Common.{◌≡◌, ◌≤◌, min, drop}
use Rattle.std.specs.Str.{all_ascii_digits}
use Rattle.frame_range.specs.Number.{value_from}
use Rattle.frame_range.specs.declared.limits.TheConstants.{CAP}
use Rattle.frame_range.proofs.digits.read_digits.Given as goal

abbrev pub invariant-loop-digit : goal.invariant-loop-digit
invariant-loop-digit l = record {
  low : l.value ≤ CAP;
  digits : all_ascii_digits (drop l.digit-index l.digits) ≡ all_ascii_digits l.digits;
  value : min (value_from l.value (drop l.digit-index l.digits)) CAP ≡ min (value_from 0 l.digits) CAP;
}
