-- A command's text, piece by piece: a token, or what stands before the next one.
use Rattle.std.proofs.Common.{◌≡◌, ℕ, ◌-◌, ◌<◌, List, [], ◌∷◌, ◌++◌, length, drop, get_or, refl, ap, sym, ◌∙◌, arith, zero, suc, subst, append-nil, append_assoc, length-drop}
use Rattle.std.specs.Prelude.{◌≢◌, ℤ, Option, Some, None}
use Rattle.std.specs.Char.{encode_utf8}
use Rattle.std.proofs.lemmas.Bool.{cond-true, lt-ltb, ne_eqb, cases_lt}
use Rattle.std.proofs.lemmas.Str.{inside_one, encode_ascii}
use mathlib.Core.Logic.{⊎_elim}
use Rattle.farm_types.specs.Names.{expanded_from, token_at, text_for, rest_of, Token}
use Rattle.command_text.specs.Steps.{IsStep, expanded_rest}
use Rattle.command_text.specs.Tokens.{mark, size_of, meaning_of, token_of}
use Rattle.command_text.specs.declared.expansion.Names.{Names}
use Rattle.command_text.specs.declared.token.Token.{Token as Kind}
use Rattle.command_text.specs.declared.token.Token.TheVariants.{PlacedNumber, PlainNumber, Layer, Job, FrameName}

module _ (job layer : List ℕ) (number : ℤ) where
  -- bytes that are passed over leave no trace
  passed : (passing : ℕ) (bs : List ℕ) → expanded_from passing job layer number bs ≡ expanded_from 0 job layer number (drop passing bs)
  passed zero bs = refl
  passed (suc n) [] = refl
  passed (suc n) (b ∷ bs) =
      let lower : suc n - 1 ≡ n = omega arith in
      cond-true _ _ _ (lt-ltb 0 (suc n) (omega arith))
      ∙ ap (λ (k : ℕ). expanded_from k job layer number bs) lower
      ∙ passed n bs

  drop_below : (k b : ℕ) (bs : List ℕ) → 0 < k → drop k (b ∷ bs) ≡ drop (k - 1) bs
  drop_below zero b bs h = absurd (omega arith)
  drop_below (suc n) b bs h = let lower : suc n - 1 ≡ n = omega arith in rw lower

  -- what the first byte stands for, and then the rest
  first_byte : (b : ℕ) (bs : List ℕ) (found : Option Token) → token_at job layer number (b ∷ bs) ≡ found
      → expanded_from 0 job layer number (b ∷ bs) ≡ text_for b found ++ expanded_from (rest_of found) job layer number bs
  first_byte b bs found e = ap (λ (x : Option Token). text_for b x ++ expanded_from (rest_of x) job layer number bs) e

  -- a token at the front
  pub token_first : (token : Token) (text : List ℕ) → token_at job layer number text ≡ Some token → 0 < token.size → 0 < length text
      → expanded_from 0 job layer number text ≡ token.text ++ expanded_from 0 job layer number (drop token.size text)
  token_first token [] e sized some = absurd (omega arith)
  token_first token (b ∷ bs) e sized some =
      first_byte b bs (Some token) e
      ∙ ap (λ (x : List ℕ). token.text ++ x)
      (passed (token.size - 1) bs ∙ ap (λ (x : List ℕ). expanded_from 0 job layer number x) (sym (drop_below token.size b bs sized)))

  -- a token begins with `#`
  no_token : (b : ℕ) (bs : List ℕ) → b ≢ mark → token_at job layer number (b ∷ bs) ≡ None
  no_token b bs other = rw (ne_eqb b 35 other)

  -- what has no `#` stays
  plain_first : (bs rest : List ℕ) → ((k : ℕ) → k < length bs → get_or bs k 0 ≢ mark)
      → expanded_from 0 job layer number (bs ++ rest) ≡ bs ++ expanded_from 0 job layer number rest
  plain_first [] rest plain = refl
  plain_first (b ∷ bs) rest plain =
      first_byte b (bs ++ rest) None (no_token b (bs ++ rest) (plain 0 (omega arith)))
      ∙ ap (λ (x : List ℕ). b ∷ x) (plain_first bs rest (λ k l. plain (suc k) (omega arith)))

  -- what stands before a `#` is written as it is
  pub plain_step : (old text plain after new : List ℕ) → text ≡ plain ++ mark ∷ after → ((k : ℕ) → k < length plain → get_or plain k 0 ≢ mark)
      → new ≡ old ++ plain → new ++ expanded_from 0 job layer number (mark ∷ after) ≡ old ++ expanded_from 0 job layer number text
  plain_step old text plain after new cut free all =
      ap (λ (x : List ℕ). x ++ expanded_from 0 job layer number (mark ∷ after)) all
      ∙ append_assoc old plain (expanded_from 0 job layer number (mark ∷ after))
      ∙ ap (λ (x : List ℕ). old ++ x) (sym (plain_first plain (mark ∷ after) free))
      ∙ ap (λ (x : List ℕ). old ++ expanded_from 0 job layer number x) (sym cut)

  -- so is what stands behind the last one
  pub plain_end : (old text new : List ℕ) → ((k : ℕ) → k < length text → get_or text k 0 ≢ mark) → new ≡ old ++ text
      → new ≡ old ++ expanded_from 0 job layer number text
  plain_end old text new free all =
      all
      ∙ ap (λ (x : List ℕ). old ++ x) (sym (append-nil text) ∙ sym (plain_first text [] free))
      ∙ ap (λ (x : List ℕ). old ++ expanded_from 0 job layer number x) (append-nil text)

  -- a character at the front that begins no token
  pub char_first : (c : ℕ) (rest : List ℕ) → token_at job layer number (encode_utf8 c ++ rest) ≡ None
      → expanded_from 0 job layer number (encode_utf8 c ++ rest) ≡ encode_utf8 c ++ expanded_from 0 job layer number rest
  char_first c rest = ⊎_elim
      (λ low. let Copied : List ℕ → Type 0 = λ bs. token_at job layer number (bs ++ rest) ≡ None → expanded_from 0 job layer number (bs ++ rest) ≡ bs ++ expanded_from 0 job layer number rest in
      subst Copied (sym (encode_ascii c low)) (λ none. first_byte c rest None none))
      (λ high none. plain_first (encode_utf8 c) rest
      (λ k l is. let same : c ≡ get_or (encode_utf8 c) k 0 = inside_one c [] (encode_utf8 c) k (sym (append-nil (encode_utf8 c))) l (omega (arith, is)) in absurd (omega (arith, is))))
      (cases_lt c 128)

sized : (token : Kind) → 0 < size_of token
sized PlacedNumber = omega arith
sized PlainNumber = omega arith
sized Layer = omega arith
sized Job = omega arith
sized FrameName = omega arith

-- one step of the expansion: a token at the front of the text
pub token_step : (names : Names) (token : Kind) (old text new rest : List ℕ)
    → token_at names.job.now names.layer.now names.number text ≡ Some (token_of names.job.now names.layer.now names.number token)
    → rest ≡ drop (size_of token) text → new ≡ old ++ meaning_of names.job.now names.layer.now names.number token
    → 0 < length text → IsStep names old text new rest
token_step names token old text new rest found cut all some =
    let some_size : 0 < size_of token = sized token in
    let shorter : length rest ≡ length text - size_of token = ap length cut ∙ length-drop (size_of token) text in
    let meaning = meaning_of names.job.now names.layer.now names.number token in
    record {
      shorter = omega arith;
      same =
          ap (λ (x : List ℕ). x ++ expanded_rest names rest) all
          ∙ append_assoc old meaning (expanded_rest names rest)
          ∙ ap (λ (x : List ℕ). old ++ (meaning ++ expanded_rest names x)) cut
          ∙ ap (λ (x : List ℕ). old ++ x)
          (sym (token_first names.job.now names.layer.now names.number (token_of names.job.now names.layer.now names.number token) text found some_size some));
    }

-- a `#` that begins no token
pub mark_step : (names : Names) (old after new : List ℕ)
    → token_at names.job.now names.layer.now names.number (mark ∷ after) ≡ None → new ≡ old ++ encode_utf8 mark → IsStep names old (mark ∷ after) new after
mark_step names old after new none all =
    let written : new ≡ old ++ mark ∷ [] = all ∙ ap (λ (x : List ℕ). old ++ x) (encode_ascii mark (omega arith)) in
    record {
      shorter = omega arith;
      same =
          ap (λ (x : List ℕ). x ++ expanded_rest names after) written
          ∙ append_assoc old (mark ∷ []) (expanded_rest names after)
          ∙ ap (λ (x : List ℕ). old ++ x) (sym (first_byte names.job.now names.layer.now names.number mark after None none));
    }
