use Rattle.std.proofs.Common.{◌≡◌, ◌++◌, drop}
use Rattle.std.specs.String.{string_bytes}
use Rattle.frame_range.specs.Printed.{printed_rest}
use Rattle.frame_range.proofs.print.push_others.Given as goal

abbrev pub invariant-loop-section : goal.invariant-loop-section
invariant-loop-section l = string_bytes l.text ++ printed_rest (drop l.section-index l.sections) ≡ string_bytes l.fn.text ++ printed_rest l.sections
