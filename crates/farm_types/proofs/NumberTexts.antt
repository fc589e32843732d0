-- Numbers as texts are ASCII.
use Rattle.std.proofs.Common.{◌≡◌, ℕ, zero, suc, ℤ, pos, negsuc, ◌+◌, ◌-◌, ◌<◌, ◌/◌, ◌%◌, Bool, true, false, cond, eqb, ltb, List, [], ◌∷◌, length, replicate, refl, ◌∙◌, arith}
use Rattle.std.specs.Prelude.{decimal}
use Rattle.std.specs.Cmp.Derive.{both_true}
use Rattle.std.specs.Fmt.{digit_glyph, digits, digits_onto, signed_decimal}
use Rattle.std.specs.List.{list_all}
use Rattle.std.proofs.Math.Nat.{mod-lt}
use Rattle.std.proofs.lemmas.Bool.{lt-ltb}
use Rattle.std.proofs.lemmas.List.Folds.{list_all-append}
use Rattle.farm_types.specs.Names.{four_places, padded}
use Rattle.farm_types.proofs.Utf8.{is_ascii}

glyph_ascii : (d : ℕ) → d < 10 → is_ascii (digit_glyph false d) ≡ true
glyph_ascii d small = by (ltb d 10)
  where
    by : (b : Bool) → is_ascii (cond b (48 + d) (87 + d)) ≡ true
    by true = lt-ltb (48 + d) 128 (omega (arith, small))
    by false = lt-ltb (87 + d) 128 (omega (arith, small))

digits_ascii : (k n : ℕ) (acc : List ℕ) → list_all is_ascii acc ≡ true → list_all is_ascii (digits_onto k 10 false n acc) ≡ true
digits_ascii zero n acc all = all
digits_ascii (suc k) n acc all =
    let more : list_all is_ascii (digit_glyph false (n % 10) ∷ acc) ≡ true = both_true (glyph_ascii (n % 10) (mod-lt n (omega arith))) all in
    by (eqb (n / 10) 0) more (digits_ascii k (n / 10) (digit_glyph false (n % 10) ∷ acc) more)
  where
    by : (b : Bool) → list_all is_ascii (digit_glyph false (n % 10) ∷ acc) ≡ true → list_all is_ascii (digits_onto k 10 false (n / 10) (digit_glyph false (n % 10) ∷ acc)) ≡ true
        → list_all is_ascii (cond b (digit_glyph false (n % 10) ∷ acc) (digits_onto k 10 false (n / 10) (digit_glyph false (n % 10) ∷ acc))) ≡ true
    by true here later = here
    by false here later = later

pub decimal_ascii : (n : ℕ) → list_all is_ascii (decimal n) ≡ true
unfolding digits
decimal_ascii n = digits_ascii 64 n [] refl

pub signed_ascii : (number : ℤ) → list_all is_ascii (signed_decimal number) ≡ true
signed_ascii (pos n) = decimal_ascii n
signed_ascii (negsuc n) = both_true refl (decimal_ascii (suc n))

zeros_ascii : (n : ℕ) → list_all is_ascii (replicate n 48) ≡ true
zeros_ascii zero = refl
zeros_ascii (suc n) = both_true refl (zeros_ascii n)

padded_ascii : (places n : ℕ) → list_all is_ascii (padded places (decimal n)) ≡ true
padded_ascii places n =
    list_all-append is_ascii (replicate (places - length (decimal n)) 48) (decimal n) ∙ both_true (zeros_ascii (places - length (decimal n))) (decimal_ascii n)

pub places_ascii : (number : ℤ) → list_all is_ascii (four_places number) ≡ true
places_ascii (pos n) = padded_ascii 4 n
places_ascii (negsuc n) = both_true refl (padded_ascii 3 (suc n))
