-- When a text is that of a range.
use Rattle.std.proofs.Common.{◌≡◌, ◌≤◌, ◌<◌, ℕ, Bool, true, false, ◌&&◌, leb, List, length, Ok, Err, refl, ap, sym, ◌∙◌}
use Rattle.std.specs.Str.{bytes_eq}
use Rattle.std.proofs.lemmas.Bool.{false≢true, lt-leb}
use Rattle.std.proofs.lemmas.Slice.Eq.{bytes_eq-Decides}
use Rattle.farm_types.specs.Ranges.{is_range_text, prints_as}
use Rattle.farm_types.specs.declared.limits.TheConstants.{MOST_RANGE}
use Rattle.farm_types.proofs.Ranges.{numbers_said, range_formed}
use Rattle.frame_range.specs.declared.fault.RangeFault.{RangeFault}
use Rattle.frame_range.specs.declared.fault.RangeFault.TheVariants.{Empty, NoMemory, OutOfRange, Syntax, TooMany, WrongWay, ZeroStep}
use Rattle.frame_range.specs.ParseResults.{Fails}
use Rattle.frame_range.specs.declared.section.Section.{Section}
use Rattle.frame_range.specs.Printed.{printed}
use Rattle.frame_range.specs.Sets.{set_of}
use Rattle.row_index.specs.Ranges.{IsRangeOf, is_no_memory}

pub range_known : (text : List ℕ) (set : List Section) → set_of text ≡ Ok set → length text ≤ MOST_RANGE → bytes_eq text (printed set) ≡ true → IsRangeOf text set
range_known text set is short same =
    record { formed = range_formed text set is ((bytes_eq-Decides text (printed set)).0 same) short; numbers = numbers_said text set is }

none_by : (b : Bool) (c : Bool) → c ≡ false → (b && c) ≡ false
none_by true c h = h
none_by false c h = refl

pub range_other : (text : List ℕ) (set : List Section) → set_of text ≡ Ok set → bytes_eq text (printed set) ≡ false → is_range_text text ≡ false
unfolding is_range_text
range_other text set is other = none_by (leb (length text) MOST_RANGE) (prints_as text (set_of text)) (ap (prints_as text) is ∙ other)

pub range_fault : (text : List ℕ) (fault : RangeFault) → set_of text ≡ Err fault → is_range_text text ≡ false
unfolding is_range_text
range_fault text fault is = none_by (leb (length text) MOST_RANGE) (prints_as text (set_of text)) (ap (prints_as text) is)

pub range_long : (text : List ℕ) → MOST_RANGE < length text → is_range_text text ≡ false
unfolding is_range_text
range_long text long = ap (λ (b : Bool). b && prints_as text (set_of text)) (lt-leb (length text) MOST_RANGE long)

pub range_fails : (text : List ℕ) (fault : RangeFault) → Fails fault (set_of text) → is_no_memory fault ≡ false → is_range_text text ≡ false
range_fails text NoMemory h some = absurd (false≢true (sym some))
range_fails text (Syntax n) h some = range_fault text (Syntax n) h
range_fails text (OutOfRange n) h some = range_fault text (OutOfRange n) h
range_fails text (ZeroStep n) h some = range_fault text (ZeroStep n) h
range_fails text (WrongWay n) h some = range_fault text (WrongWay n) h
range_fails text (Empty n) h some = range_fault text (Empty n) h
range_fails text (TooMany n) h some = range_fault text (TooMany n) h
