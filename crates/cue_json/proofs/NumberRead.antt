-- A number's text, by its sign.
use Rattle.std.proofs.Common.{◌≡◌, ℕ, List, Bool, true, false, cond, ◌==◌, Option, None, Some, option_and_then, drop, get_or, length, take, ◌-◌, refl, sym, arith, take_all, length-drop}
use Rattle.std.specs.Float.{binary64, float_is_finite}
use Rattle.fast_float.specs.Text.{Parts, digits_of, nearest, scan, with_sign}
use Rattle.serde_json.specs.Data.{Num, float, negative}
use Rattle.serde_json.specs.Find.{as_u64}
use Rattle.serde_json.specs.Read.{float_of, number_from, number_of}

pub with_minus : (text : List ℕ) → true ≡ (get_or text 0 0 == 45) → number_from true (scan (drop 1 text)) ≡ number_of text
unfolding number_of
with_minus text is = rw (sym is) refl

pub without_minus : (text : List ℕ) → false ≡ (get_or text 0 0 == 45) → number_from false (scan text) ≡ number_of text
unfolding number_of
without_minus text is = rw (sym is) refl

-- the text behind the first byte, as it is sliced
pub behind : (text : List ℕ) → take (length text - 1) (drop 1 text) ≡ drop 1 text
behind text = take_all (length text - 1) (drop 1 text) (omega (arith, length-drop 1 text))

float_is_none : (b : Bool) (x : Num) → as_u64 x ≡ None → option_and_then as_u64 (cond b (Some x) None) ≡ None
float_is_none true x is = is
float_is_none false x is = refl

either_none : (b : Bool) (o p : Option Num) → option_and_then as_u64 o ≡ None → option_and_then as_u64 p ≡ None → option_and_then as_u64 (cond b o p) ≡ None
either_none true o p left right = left
either_none false o p left right = right

pub no_whole : (p : Parts) → None ≡ option_and_then as_u64 (number_from true p)
no_whole p = sym (either_none _ (Some (negative (with_sign true (digits_of p)))) (float_of true p) refl (float_is_none (float_is_finite (nearest binary64 true p)) (float (nearest binary64 true p)) refl))
