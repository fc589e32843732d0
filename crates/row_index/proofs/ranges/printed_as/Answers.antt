use Rattle.std.proofs.Common.{ap, ◌∙◌, sym, List, ℕ}
use Rattle.std.specs.Str.{bytes_eq}
use Rattle.std.specs.Cmp.Lexicographic.{nat_list_eq_equiv}
use Rattle.frame_range.specs.Printed.{printed}
use Rattle.row_index.proofs.RangeTexts.{range_known, range_other}
use Rattle.row_index.proofs.ranges.printed_as.Goals as goal

pub returns-then-eq : goal.returns-then-eq
returns-then-eq c =
    let text = c.as_str.ensures ∙ c.in_ok-printed.ensures.text in
    range_known c.args.text.now c.args.set c.requires.read c.requires.short
    (nat_list_eq_equiv.symm c.args.text.now (printed c.args.set) ∙ ap (λ (t : List ℕ). bytes_eq t c.args.text.now) (sym text) ∙ sym c.eq.ensures ∙ c.if-eq.true)

pub returns : goal.returns
returns c =
    let text = c.as_str.ensures ∙ c.in_ok-printed.ensures.text in
    range_other c.args.text.now c.args.set c.requires.read
    (nat_list_eq_equiv.symm c.args.text.now (printed c.args.set) ∙ ap (λ (t : List ℕ). bytes_eq t c.args.text.now) (sym text) ∙ sym c.eq.ensures ∙ c.if-eq.false)
