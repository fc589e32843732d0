-- Whole numbers with a sign as they are written.
use Rattle.std.proofs.Common.{◌≡◌, ℤ, pos, negsuc, refl}
use Rattle.std.specs.Fmt.{signed_decimal}
use Rattle.serde_json.specs.Find.{of_integer}
use Rattle.serde_json.specs.Written.{number_text}

pub signed_text : (z : ℤ) → number_text (of_integer z) ≡ signed_decimal z
signed_text (pos n) = refl
signed_text (negsuc n) = refl
