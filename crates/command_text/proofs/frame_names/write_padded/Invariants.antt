-- The text so far and the zeros that are left are the text with all zeros.
use Rattle.std.proofs.Common.{◌≡◌, ◌-◌, ◌++◌, length, replicate, string_bytes}
use Rattle.command_text.proofs.frame_names.write_padded.Given as goal

abbrev pub invariant-loop-zero : goal.invariant-loop-zero
invariant-loop-zero l =
    string_bytes l.text ++ replicate (l.places - l._zero) 48 ≡ string_bytes l.fn.text ++ replicate (l.places - length l.digits) 48
