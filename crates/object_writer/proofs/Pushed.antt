-- A text that is written on.
use Rattle.std.proofs.Common.{◌≡◌, ℕ, Bool, true, false, cond, List, [], ◌∷◌, ◌++◌, IsUtf8, fold, take, refl, sym, ap, subst, ◌∙◌, append_assoc, append-nil, arith}
use Rattle.std.proofs.lemmas.Str.{IsUtf8-append}
use Rattle.json.specs.Lex.{tokens}
use Rattle.json.specs.Print.{ArePrintable, IsPrintable, begins, ends, print, print_from, quoted, separator, token_text}
use Rattle.json.specs.Token.{Token}
use Rattle.json.proofs.Printed.Tokens.{print_from-append, tokens-print}
use Rattle.json.proofs.Printed.Utf8.{IsUtf8-are_ascii, IsUtf8-key}
use Rattle.object_writer.specs.Written.{FillsRoom, HasWritten, IsWritten, KeepsText, is_plain}
use Rattle.object_writer.proofs.Plain.{plain_is}

-- ---- nothing yet

pub nothing : IsWritten [] false
unfolding ArePrintable print_from
nothing = record { printed = []; printable = tt; is = refl; place = refl; utf8 = IsUtf8-are_ascii [] refl }

pub no_text : (room : List ℕ) → FillsRoom room 0 false
no_text room = record { within = omega arith; written = nothing }

tokens_printed : (text : List ℕ) (after : Bool) (h : IsWritten text after) → tokens text ≡ h.printed
tokens_printed text after h = ap tokens h.is ∙ tokens-print h.printed h.printable

pub none : tokens [] ≡ []
unfolding nothing
none = tokens_printed [] false nothing

-- the text of the tokens that are seen
pub text_is : (text : List ℕ) (after : Bool) → IsWritten text after → text ≡ print (tokens text)
text_is text after h = h.is ∙ ap print (sym (tokens_printed text after h))

-- ---- more tokens

ends_more : (after : Bool) (ts us : List Token) → fold (λ _ t. ends t) after (ts ++ us) ≡ fold (λ _ t. ends t) (fold (λ _ t. ends t) after ts) us
ends_more after [] us = refl
ends_more after (t ∷ ts) us = ends_more (ends t) ts us

printable_more : (ts us : List Token) → ArePrintable ts → ArePrintable us → ArePrintable (ts ++ us)
unfolding ArePrintable
printable_more [] us h k = k
printable_more (t ∷ ts) us h k = (h.0, printable_more ts us h.1 k)

module _ (old new : List ℕ) (len end : ℕ) (after : Bool) (more : List Token) (bytes : List ℕ) (h : FillsRoom old len after) (put : HasWritten old new len bytes end)
    (is : bytes ≡ print_from after more) (printable : ArePrintable more) (utf8 : IsUtf8 bytes) where
  written : IsWritten (take end new) (fold (λ _ t. ends t) after more)
  written =
      let text = h.written in
      record {
        printed = text.printed ++ more;
        printable = printable_more text.printed more text.printable printable;
        is = put.text ∙ (λ i. text.is i ++ is i) ∙ (λ i. print text.printed ++ print_from (text.place i) more) ∙ sym (print_from-append false text.printed more);
        place = ap (λ b. fold (λ _ t. ends t) b more) text.place ∙ sym (ends_more false text.printed more);
        utf8 = subst IsUtf8 (sym put.text) (IsUtf8-append (take len old) bytes text.utf8 utf8);
      }

  pub wrote : FillsRoom new end (fold (λ _ t. ends t) after more)
  wrote = record { within = put.within; written = written }

  pub wrote_tokens : tokens (take end new) ≡ tokens (take len old) ++ more
  unfolding written
  wrote_tokens = tokens_printed (take end new) _ written ∙ ap (λ ts. ts ++ more) (sym (tokens_printed (take len old) after h.written))

-- the text stays
pub kept : (old new : List ℕ) (len : ℕ) (after : Bool) → FillsRoom old len after → KeepsText old new len → FillsRoom new len after
kept old new len after h stays = record { within = stays.within; written = subst (λ text. IsWritten text after) (sym stays.text) h.written }

-- ---- the bytes of tokens

comma_is : (after : Bool) (t : Token) → begins t ≡ true → cond after (44 ∷ []) [] ≡ separator after t
comma_is true t is = rw is refl
comma_is false t is = refl

no_comma : (after : Bool) (t : Token) → begins t ≡ false → separator after t ≡ []
no_comma true t is = rw is refl
no_comma false t is = refl

-- one token
alone_is : (after : Bool) (t : Token) → separator after t ++ token_text t ≡ print_from after (t ∷ [])
unfolding print_from
alone_is after t = ap (λ text. separator after t ++ text) (sym (append-nil (token_text t)))

pub one_is : (after : Bool) (t : Token) → begins t ≡ true → cond after (44 ∷ []) [] ++ token_text t ≡ print_from after (t ∷ [])
one_is after t is = ap (λ comma. comma ++ token_text t) (comma_is after t is) ∙ alone_is after t

-- one before which no comma stands
pub closing_is : (after : Bool) (t : Token) → begins t ≡ false → token_text t ≡ print_from after (t ∷ [])
closing_is after t is = sym (ap (λ comma. comma ++ token_text t) (no_comma after t is)) ∙ alone_is after t

-- a name
quoted_plain : (name : List ℕ) → is_plain name ≡ true → quoted name ≡ 34 ∷ (name ++ 34 ∷ [])
quoted_plain name plain = ap (λ text. 34 ∷ (text ++ 34 ∷ [])) (plain_is name plain)

name_then : (name value : List ℕ) → ((34 ∷ (name ++ 34 ∷ [])) ++ 58 ∷ []) ++ value ≡ 34 ∷ (name ++ 34 ∷ 58 ∷ value)
name_then name value = ap (λ text. 34 ∷ text) (ap (λ text. text ++ value) (append_assoc name (34 ∷ []) (58 ∷ [])) ∙ append_assoc name (34 ∷ 58 ∷ []) value)

pub name_is : (after : Bool) (name : List ℕ) → is_plain name ≡ true → cond after (44 ∷ []) [] ++ 34 ∷ (name ++ 34 ∷ 58 ∷ []) ≡ print_from after (Token.key name ∷ [])
name_is after name plain =
    let text : 34 ∷ (name ++ 34 ∷ 58 ∷ []) ≡ token_text (Token.key name) =
    sym (name_then name []) ∙ append-nil _ ∙ ap (λ text. text ++ 58 ∷ []) (sym (quoted_plain name plain)) in
    ap (λ text. cond after (44 ∷ []) [] ++ text) text ∙ one_is after (Token.key name) refl

-- a name and its value
pub member_is : (after : Bool) (name value : List ℕ) (t : Token) → is_plain name ≡ true → token_text t ≡ value
    → cond after (44 ∷ []) [] ++ 34 ∷ (name ++ 34 ∷ 58 ∷ value) ≡ print_from after (Token.key name ∷ t ∷ [])
unfolding print_from
member_is after name value t plain is =
    let text : 34 ∷ (name ++ 34 ∷ 58 ∷ value) ≡ token_text (Token.key name) ++ (token_text t ++ []) =
    sym (name_then name value) ∙ ap (λ text. (text ++ 58 ∷ []) ++ value) (sym (quoted_plain name plain)) ∙ ap (λ v. (quoted name ++ 58 ∷ []) ++ v) (sym is ∙ sym (append-nil (token_text t))) in
    ap (λ text. cond after (44 ∷ []) [] ++ text) text ∙ ap (λ comma. comma ++ (token_text (Token.key name) ++ (token_text t ++ []))) (comma_is after (Token.key name) refl)

-- what one token is printed as
pub alone : (t : Token) → print (t ∷ []) ≡ token_text t
unfolding print_from
alone t = append-nil (token_text t)

-- ---- what each call adds

utf8_comma : (after : Bool) → IsUtf8 (cond after (44 ∷ []) [])
utf8_comma true = IsUtf8-are_ascii (44 ∷ []) refl
utf8_comma false = IsUtf8-are_ascii [] refl

-- the writer goes on from these tokens by those
pub record GoesOn (old new : List ℕ) (len end : ℕ) (after : Bool) (more : List Token) : Type 0 where
  pub fills : FillsRoom new end after
  pub tokens_are : tokens (take end new) ≡ tokens (take len old) ++ more

module _ (old new : List ℕ) (len end : ℕ) (after : Bool) (h : FillsRoom old len after) where
  pub adds_one : (t : Token) → begins t ≡ true → IsPrintable t → IsUtf8 (token_text t) → HasWritten old new len (cond after (44 ∷ []) [] ++ token_text t) end
      → GoesOn old new len end (ends t) (t ∷ [])
  unfolding ArePrintable
  adds_one t is printable utf8 put =
      let bytes = cond after (44 ∷ []) [] ++ token_text t in
      let text = IsUtf8-append (cond after (44 ∷ []) []) (token_text t) (utf8_comma after) utf8 in
      record {
        fills = wrote old new len end after (t ∷ []) bytes h put (one_is after t is) (printable, tt) text;
        tokens_are = wrote_tokens old new len end after (t ∷ []) bytes h put (one_is after t is) (printable, tt) text;
      }

  pub adds_closing : (t : Token) → begins t ≡ false → IsPrintable t → IsUtf8 (token_text t) → HasWritten old new len (token_text t) end → GoesOn old new len end (ends t) (t ∷ [])
  unfolding ArePrintable
  adds_closing t is printable utf8 put =
      record {
        fills = wrote old new len end after (t ∷ []) (token_text t) h put (closing_is after t is) (printable, tt) utf8;
        tokens_are = wrote_tokens old new len end after (t ∷ []) (token_text t) h put (closing_is after t is) (printable, tt) utf8;
      }

  pub adds_name : (name : List ℕ) → is_plain name ≡ true → IsUtf8 name → HasWritten old new len (cond after (44 ∷ []) [] ++ 34 ∷ (name ++ 34 ∷ 58 ∷ [])) end
      → GoesOn old new len end false (Token.key name ∷ [])
  unfolding ArePrintable
  adds_name name plain utf8 put =
      let bytes = cond after (44 ∷ []) [] ++ 34 ∷ (name ++ 34 ∷ 58 ∷ []) in
      let is = name_is after name plain in
      let text = subst IsUtf8 (one_is after (Token.key name) refl ∙ sym is) (IsUtf8-append (cond after (44 ∷ []) []) (token_text (Token.key name)) (utf8_comma after) (IsUtf8-key name utf8)) in
      record {
        fills = wrote old new len end after (Token.key name ∷ []) bytes h put is (tt, tt) text;
        tokens_are = wrote_tokens old new len end after (Token.key name ∷ []) bytes h put is (tt, tt) text;
      }

  pub adds_member : (name value : List ℕ) (t : Token) → is_plain name ≡ true → IsUtf8 name → token_text t ≡ value → IsPrintable t → IsUtf8 value
      → HasWritten old new len (cond after (44 ∷ []) [] ++ 34 ∷ (name ++ 34 ∷ 58 ∷ value)) end → GoesOn old new len end (ends t) (Token.key name ∷ t ∷ [])
  unfolding ArePrintable
  adds_member name value t plain utf8 same printable utf8_value put =
      let bytes = cond after (44 ∷ []) [] ++ 34 ∷ (name ++ 34 ∷ 58 ∷ value) in
      let is = member_is after name value t plain same in
      let front = IsUtf8-append (cond after (44 ∷ []) []) (token_text (Token.key name)) (utf8_comma after) (IsUtf8-key name utf8) in
      let whole = IsUtf8-append _ value front utf8_value in
      let text : (cond after (44 ∷ []) [] ++ token_text (Token.key name)) ++ value ≡ bytes =
      append_assoc (cond after (44 ∷ []) []) (token_text (Token.key name)) value
      ∙ ap (λ rest. cond after (44 ∷ []) [] ++ rest) (ap (λ front. (front ++ 58 ∷ []) ++ value) (quoted_plain name plain) ∙ name_then name value) in
      record {
        fills = wrote old new len end after (Token.key name ∷ t ∷ []) bytes h put is (tt, (printable, tt)) (subst IsUtf8 text whole);
        tokens_are = wrote_tokens old new len end after (Token.key name ∷ t ∷ []) bytes h put is (tt, (printable, tt)) (subst IsUtf8 text whole);
      }

-- the tokens of a member, one by one behind those before
pub member_tokens : (seen before : List Token) (k t : Token) → seen ≡ before → seen ++ k ∷ t ∷ [] ≡ (before ++ k ∷ []) ++ t ∷ []
member_tokens seen before k t is = ap (λ ts. ts ++ k ∷ t ∷ []) is ∙ sym (append_assoc before (k ∷ []) (t ∷ []))
