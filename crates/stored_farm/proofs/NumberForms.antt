-- A number of the type is one of 32 bits with a sign.
use Rattle.std.proofs.Common.{◌≡◌, true, ◌&&◌, refl, SFits, w32, arith}
use Rattle.std.specs.Prelude.{ℤ, pos, negsuc, int_le}
use Rattle.std.specs.Cmp.Derive.{both_true}
use Rattle.std.proofs.lemmas.Bool.{le-leb}

pub number_fits : (z : ℤ) → SFits w32 z → (int_le (negsuc 2147483647) z && int_le z (pos 2147483647)) ≡ true
number_fits (pos n) h = le-leb n 2147483647 (omega (arith, h.sfits))
number_fits (negsuc n) h = both_true (le-leb n 2147483647 (omega (arith, h.sfits))) refl
