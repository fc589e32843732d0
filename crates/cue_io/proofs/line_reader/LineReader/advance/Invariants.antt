use Rattle.std.proofs.Common.{◌≡◌, ℕ, ◌-◌, ◌≤◌, ◌⊎◌, ◌++◌, false, true, List, length, take}
use Rattle.cue_io.specs.Input.{Takes}
use Rattle.cue_io.specs.Lines.{has_newline}
use Rattle.cue_io.specs.Reader.{WasNeeded}
use Rattle.cue_io.specs.Steps.{GoesOn}
use Rattle.cue_io.specs.declared.limits.TheConstants.{BYTE_LIMIT}
use Rattle.cue_io.proofs.line_reader.LineReader.advance.Given as goal

abbrev pub invariant-reads : goal.invariant-reads
invariant-reads g l = (took : List ℕ) × record {
  takes : Takes (g.S.Source.left l.fn.source) (g.S.Source.left l.source) took;
  goes_on : GoesOn l.fn.self took l.self;
  searched : l.searched ≤ length l.self.bytes;
  none : has_newline (take l.searched l.self.bytes) ≡ false;
  unread : has_newline l.fn.self.bytes ≡ true → (l.self ≡ l.fn.self) × (l.source ≡ l.fn.source);
  needed : (l.source ≡ l.fn.source) ⊎ WasNeeded l.fn.self.bytes (g.S.Source.left l.fn.source) (g.S.Source.left l.source) (g.S.Source.last l.source);
  front : has_newline l.self.bytes ≡ false → has_newline (l.fn.self.bytes ++ took) ≡ false;
  rises : g.S.Source.faults l.fn.source ≤ g.S.Source.faults l.source;
}

abbrev pub decreases-reads : goal.decreases-reads
decreases-reads g l = BYTE_LIMIT - l.self.taken
