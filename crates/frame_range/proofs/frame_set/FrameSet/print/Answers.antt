use Rattle.std.proofs.Common.{◌∙◌, ap, Ok}
use Rattle.frame_range.specs.Printed.{printed}
use Rattle.frame_range.specs.Sets.{set_of}
use Rattle.frame_range.proofs.AgainLemmas.{set_again}
use Rattle.frame_range.proofs.frame_set.FrameSet.print.Goals as goal

pub returns-clause-again : goal.returns-clause-again
returns-clause-again c =
    ap set_of (c.from_string.ensures ∙ c.in_ok-text.ensures ∙ ap printed c.as_slice.ensures.value)
    ∙ set_again c.self.inside.sections.items c.self.invariant.0
    ∙ ap Ok c.self.view_is
