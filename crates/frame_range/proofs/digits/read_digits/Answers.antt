use Rattle.std.proofs.Common.{◌∙◌, sym, arith}
use Rattle.frame_range.proofs.NumberLemmas.{one_more, one_less}
use Rattle.frame_range.proofs.digits.read_digits.Goals as goal

pub loop-digit-preserved : goal.loop-digit-preserved
loop-digit-preserved c = record {
  low = omega arith;
  digits = one_less _ _ c.loop-digit-test.true (sym c.is_ascii_digit.ensures.value ∙ c.if-not-is_ascii_digit.false) ∙ c.loop-digit.invariant.digits;
  value = one_more _ _ _ _ c.loop-digit-test.true (omega arith) ∙ c.loop-digit.invariant.value;
}
