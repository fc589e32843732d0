-- Where the bytes before are plain, those that are left tell it.
use Rattle.std.proofs.Common.{◌≡◌, drop}
use Rattle.object_writer.specs.Written.{is_plain}
use Rattle.object_writer.proofs.put.is_plain.Given as goal

abbrev pub invariant-loop-byte : goal.invariant-loop-byte
invariant-loop-byte l = is_plain (drop l.byte-index l.text) ≡ is_plain l.text
