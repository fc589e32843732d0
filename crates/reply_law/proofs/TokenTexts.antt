-- The keys and texts among the tokens of a text that is UTF-8 are UTF-8.
use Rattle.std.proofs.Common.{◌≡◌, ◌<◌, ℕ, Bool, true, false, cond, ◌==◌, List, [], ◌∷◌, ◌++◌, take, length, ◌-◌, Option, Some, None, refl, ap, sym, subst, arith, IsUtf8}
use Rattle.std.specs.List.{AllByRecursion}
use Rattle.std.proofs.lemmas.Bool.{eqb-true, false≢true}
use Rattle.std.proofs.lemmas.List.{append_assoc}
use Rattle.json.specs.Ascii as ascii
use Rattle.json.specs.Lex.{Class, Lexeme, Mode, Place, after_comma, after_key, after_value, backslash, begins_colon, between, class, colon, comma, fresh, if_allowed, in_escape, in_string, in_word, lex, lex_byte, may_begin, may_close, operator, operator_lexeme, other, place_token, punctuate, quote, space, string_token, token, tokens}
use Rattle.json.specs.Text.{content, plain}
use Rattle.json.specs.Token.{Token, bad, begin_array, begin_object, boolean, end_array, end_object, key, null, number, string}
use Rattle.json.specs.Word.{after_number, ends_word, head, is_operator, is_space, literal, number_before, word}
use Rattle.reply_law.proofs.StringTexts.{content_text, cut_at}

-- the token's text, if it has one, is UTF-8
abbrev pub TokenText : Token → Type 0
TokenText (key s) = IsUtf8 s
TokenText (string s) = IsUtf8 s
TokenText rest = Unit {0}

abbrev LexemeText : Lexeme → Type 0
LexemeText (token t) = TokenText t
LexemeText rest = Unit {0}

-- ---- lexemes without a text

cond_text : (b : Bool) (x y : Token) → TokenText x → TokenText y → TokenText (cond b x y)
cond_text true x y first second = first
cond_text false x y first second = second

number_text : (t : List ℕ) (o : Option (List ℕ)) → TokenText (number_before t o)
number_text t None = tt
number_text t (Some rest) = cond_text (ends_word rest) (number (take (length t - length rest) t)) bad tt tt

word_text : (t : List ℕ) → TokenText (word t)
unfolding word
word_text t =
    cond_text (head t == ascii.lower_t) (literal ascii.true_text (boolean true) t) _ (cond_text _ (boolean true) bad tt tt)
    (cond_text (head t == ascii.lower_f) (literal ascii.false_text (boolean false) t) _ (cond_text _ (boolean false) bad tt tt)
    (cond_text (head t == ascii.lower_n) (literal ascii.null_text null t) (number_before t (after_number t)) (cond_text _ null bad tt tt) (number_text t (after_number t))))

operator_by : (a b c d e : Bool) → LexemeText (cond a (token begin_object) (cond b (token end_object) (cond c (token begin_array) (cond d (token end_array) (cond e comma colon)))))
operator_by true b c d e = tt
operator_by false true c d e = tt
operator_by false false true d e = tt
operator_by false false false true e = tt
operator_by false false false false true = tt
operator_by false false false false false = tt

operator_text : (x : ℕ) → LexemeText (operator_lexeme x)
operator_text x = operator_by (x == ascii.open_brace) (x == ascii.close_brace) (x == ascii.open_bracket) (x == ascii.close_bracket) (x == ascii.comma)

-- ---- a byte

abbrev is_quote : Class → Bool
is_quote quote = true
is_quote rest = false

quote_by : (q b o s : Bool) → cond q quote (cond b backslash (cond o operator (cond s space other))) ≡ quote → q ≡ true
quote_by true b o s is = refl
quote_by false true o s is = absurd (false≢true (ap is_quote is))
quote_by false false true s is = absurd (false≢true (ap is_quote is))
quote_by false false false true is = absurd (false≢true (ap is_quote is))
quote_by false false false false is = absurd (false≢true (ap is_quote is))

at_quote : (x : ℕ) → class x ≡ quote → x ≡ 34
at_quote x is = eqb-true x 34 (quote_by (x == 34) (x == 92) (is_operator x) (is_space x) is)

text_of : (xs : List ℕ) (o : Option (List ℕ)) → content plain xs ≡ o → IsUtf8 xs → LexemeText (token (string_token o))
text_of xs None is text = tt
text_of xs (Some s) is text = content_text xs s text is

byte_texts : (m : Mode) (c : Class) (x : ℕ) (xs : List ℕ) (k : Mode → List Lexeme) → (c ≡ quote → IsUtf8 xs) → ((next : Mode) → AllByRecursion LexemeText (k next)) → AllByRecursion LexemeText (lex_byte m c x xs k)
byte_texts between quote x xs k cut later = (text_of xs (content plain xs) refl (cut refl), later in_string)
byte_texts between backslash x xs k cut later = (tt, later in_word)
byte_texts between operator x xs k cut later = (operator_text x, later between)
byte_texts between space x xs k cut later = later between
byte_texts between other x xs k cut later = (word_text (x ∷ xs), later in_word)
byte_texts in_word quote x xs k cut later = later in_word
byte_texts in_word backslash x xs k cut later = later in_word
byte_texts in_word operator x xs k cut later = (operator_text x, later between)
byte_texts in_word space x xs k cut later = later between
byte_texts in_word other x xs k cut later = later in_word
byte_texts in_string quote x xs k cut later = later between
byte_texts in_string backslash x xs k cut later = later in_escape
byte_texts in_string operator x xs k cut later = later in_string
byte_texts in_string space x xs k cut later = later in_string
byte_texts in_string other x xs k cut later = later in_string
byte_texts in_escape c x xs k cut later = later in_string

-- ---- all bytes

lexed : (m : Mode) (p xs : List ℕ) → IsUtf8 (p ++ xs) → AllByRecursion LexemeText (lex m xs)
unfolding lex
lexed m p [] text = tt
lexed m p (x ∷ xs) text =
    byte_texts m (class x) x xs (λ next. lex next xs) (λ is. (cut_at p x xs (low x is) text).1)
    (λ next. lexed next (p ++ x ∷ []) xs (subst IsUtf8 (sym (append_assoc p (x ∷ []) xs)) text))
  where
    low : (x : ℕ) → class x ≡ quote → x < 128
    low x is = let here = at_quote x is in omega (arith, here)

-- ---- commas and colons

allowed : (b : Bool) (t : Token) (k : Place → List Token) (next : Place) → TokenText t → AllByRecursion TokenText (k next) → AllByRecursion TokenText (if_allowed b t k next)
allowed true t k next text later = (text, later)
allowed false t k next text later = (tt, tt)

placed : (p : Place) (t : Token) (colon_next : Bool) (k : Place → List Token) → TokenText t → ((next : Place) → AllByRecursion TokenText (k next)) → AllByRecursion TokenText (place_token p t colon_next k)
placed p begin_object b k text later = allowed (may_begin p) begin_object k fresh tt (later fresh)
placed p end_object b k text later = allowed (may_close p) end_object k after_value tt (later after_value)
placed p begin_array b k text later = allowed (may_begin p) begin_array k fresh tt (later fresh)
placed p end_array b k text later = allowed (may_close p) end_array k after_value tt (later after_value)
placed p (key s) b k text later = (tt, tt)
placed p (string s) true k text later = allowed (may_begin p) (key s) k after_key text (later after_key)
placed p (string s) false k text later = allowed (may_begin p) (string s) k after_value text (later after_value)
placed p (number s) b k text later = allowed (may_begin p) (number s) k after_value tt (later after_value)
placed p (boolean v) b k text later = allowed (may_begin p) (boolean v) k after_value tt (later after_value)
placed p null b k text later = allowed (may_begin p) null k after_value tt (later after_value)
placed p bad b k text later = (tt, tt)

punctuated : (p : Place) (ls : List Lexeme) → AllByRecursion LexemeText ls → AllByRecursion TokenText (punctuate p ls)
unfolding punctuate
punctuated fresh [] all = tt
punctuated after_value [] all = tt
punctuated after_comma [] all = (tt, tt)
punctuated after_key [] all = (tt, tt)
punctuated fresh (token t ∷ ls) all = placed fresh t (begins_colon ls) (λ next. punctuate next ls) all.0 (λ next. punctuated next ls all.1)
punctuated after_value (token t ∷ ls) all = placed after_value t (begins_colon ls) (λ next. punctuate next ls) all.0 (λ next. punctuated next ls all.1)
punctuated after_comma (token t ∷ ls) all = placed after_comma t (begins_colon ls) (λ next. punctuate next ls) all.0 (λ next. punctuated next ls all.1)
punctuated after_key (token t ∷ ls) all = placed after_key t (begins_colon ls) (λ next. punctuate next ls) all.0 (λ next. punctuated next ls all.1)
punctuated fresh (comma ∷ ls) all = (tt, tt)
punctuated after_value (comma ∷ ls) all = punctuated after_comma ls all.1
punctuated after_comma (comma ∷ ls) all = (tt, tt)
punctuated after_key (comma ∷ ls) all = (tt, tt)
punctuated fresh (colon ∷ ls) all = (tt, tt)
punctuated after_value (colon ∷ ls) all = (tt, tt)
punctuated after_comma (colon ∷ ls) all = (tt, tt)
punctuated after_key (colon ∷ ls) all = punctuated fresh ls all.1

pub token_texts : (text : List ℕ) → IsUtf8 text → AllByRecursion TokenText (tokens text)
token_texts text is = punctuated fresh (lex between text) (lexed between [] text is)
