-- Fields are read as the values that were written.
use Rattle.std.proofs.Common.{◌≡◌, ℕ, ℤ, ◌<◌, ◌≤◌, ◌^◌, pos, negsuc, Bool, List, [], ◌∷◌, Option, Some, Ok, refl, ap, ◌∙◌, arith, le-leb, leb-true, lt-ltb}
use Rattle.std.specs.Prelude.{map}
use Rattle.serde_json.specs.Data.{boolean, string, Members}
use Rattle.serde_json.specs.Find.{as_bool, as_array, as_str, get_member}
use Rattle.serde_json.specs.View.{items_of}
use Rattle.cue_json.specs.Fields.{◌>>=◌, as_signed, as_whole, flag_at, of_kind, of_member, text_at, whole_at, whole_in}
use Rattle.row_codec.specs.RowFields.{signed, texts, whole}
use Rattle.row_codec.specs.RowLaws.{IsSigned}
use Rattle.state_names.specs.Words.{word_at}
use Rattle.row_codec.specs.RowReading.{i32_at, texts_at, texts_in, u16_at, u32_at, u64_at}

within : (n most : ℕ) → n ≤ most → whole_in 0 most n ≡ Some n
within n most h = let least : 0 ≤ n = omega arith in rw (le-leb 0 n least, le-leb n most h) refl

module _ (field : List ℕ) (ms : Members) where
  pub whole_read : (n most : ℕ) → get_member field ms ≡ Some (whole n) → n ≤ most → whole_at field 0 most ms ≡ Ok n
  whole_read n most found h = ap (of_member field (as_whole 0 most)) found ∙ ap (of_kind field) (within n most h)

  pub u64_read : (n : ℕ) → get_member field ms ≡ Some (whole n) → n < 2 ^ 64 → u64_at field ms ≡ Ok n
  u64_read n found h = whole_read n 18446744073709551615 found (omega (arith, h))

  pub u32_read : (n : ℕ) → get_member field ms ≡ Some (whole n) → n < 2 ^ 32 → u32_at field ms ≡ Ok n
  u32_read n found h = whole_read n 4294967295 found (omega (arith, h))

  pub u16_read : (n : ℕ) → get_member field ms ≡ Some (whole n) → n < 2 ^ 16 → u16_at field ms ≡ Ok n
  u16_read n found h = whole_read n 65535 found (omega (arith, h))

  pub text_read : (text : List ℕ) → get_member field ms ≡ Some (string text) → text_at field ms ≡ Ok text
  text_read text found = ap (of_member field as_str) found

  pub flag_read : (b : Bool) → get_member field ms ≡ Some (boolean b) → flag_at field ms ≡ Ok b
  flag_read b found = ap (of_member field as_bool) found

  pub word_read : {X : Type 0} (of_word : List ℕ → Option X) (word : List ℕ) (x : X) → get_member field ms ≡ Some (string word) → of_word word ≡ Some x → word_at of_word field ms ≡ Ok x
  word_read of_word word x found is = ap (λ r. r >>= λ w. of_kind field (of_word w)) (text_read word found) ∙ ap (of_kind field) is

  texts_back : (ts : List (List ℕ)) → texts_in field (items_of (map string ts)) ≡ Ok ts
  texts_back [] = refl
  texts_back (t ∷ ts) = ap (λ r. r >>= λ rest. Ok (t ∷ rest)) (texts_back ts)

  pub texts_read : (ts : List (List ℕ)) → get_member field ms ≡ Some (texts ts) → texts_at field ms ≡ Ok ts
  texts_read ts found = ap (λ d. of_member field as_array d >>= texts_in field) found ∙ texts_back ts

  signed_back : (z : ℤ) → IsSigned z → as_signed (negsuc 2147483647) (pos 2147483647) (signed z) ≡ Some z
  signed_back (pos n) h =
      let most : n ≤ 2147483647 = leb-true n 2147483647 h in
      let fits : n < 2 ^ 63 = omega (arith, most) in
      rw (lt-ltb n (2 ^ 63) fits, h) refl
  signed_back (negsuc n) h = rw h refl

  pub i32_read : (z : ℤ) → get_member field ms ≡ Some (signed z) → IsSigned z → i32_at field ms ≡ Ok z
  i32_read z found h = ap (of_member field (as_signed (negsuc 2147483647) (pos 2147483647))) found ∙ ap (of_kind field) (signed_back z h)
