-- An object in its text is read back as it is.
use Rattle.std.proofs.Common.{◌≡◌, ℕ, suc, zero, ◌<◌, ◌≤◌, ◌^◌, ◌&&◌, pos, negsuc, Bool, true, false, List, [], ◌∷◌, ◌++◌, Ordering, Less, Equal, Greater, Option, Some, nat_cmp, refl, sym, ap, ◌∙◌, arith, append-nil, IsUtf8}
use Rattle.std.specs.Prelude.{⊤, option_and_then, option_map}
use Rattle.std.specs.Cmp.Derive.{both_true}
use Rattle.std.specs.Cmp.Lexicographic.{slice_cmp}
use Rattle.std.specs.Ordering.{ordering_reverse}
use Rattle.std.proofs.lemmas.Bool.{and_parts}
use Rattle.std.proofs.lemmas.Cmp.{nat_list_cmp_total}
use Rattle.std.proofs.lemmas.Fmt.{IsAscii-decimal, IsAscii-signed}
use Rattle.std.proofs.lemmas.Str.{IsUtf8-append, IsUtf8-from_ascii, is_utf8-from_IsUtf8}
use Rattle.json.specs.Json as json
use Rattle.json.specs.Lex.{tokens}
use Rattle.json.specs.Token.{Token}
use Rattle.json.specs.Print.{quoted}
use Rattle.json.specs.Tree as tree
use Rattle.json.proofs.Printed.Decimals.{IsNumber-decimal, IsNumber-signed_decimal}
use Rattle.json.proofs.Printed.Tokens.{tokens-print}
use Rattle.json.proofs.Printed.Trees.{ArePrintable-json_tokens, value-json_tokens}
use Rattle.json.proofs.Printed.Utf8.{are_ascii, IsUtf8-are_ascii, IsUtf8-boolean, IsUtf8-quoted}
use Rattle.serde_json.specs.Data.{Num, unsigned, negative, float, Data, null, boolean, number, string, array, object, Items, no_items, item, Members, no_members, member, put}
use Rattle.serde_json.specs.Read.{of_json, of_items, of_members, read, max_depth}
use Rattle.serde_json.specs.Written.{comma_if, compact_text, items_outline, items_text, members_outline, members_text, number_text, outline}
use Rattle.serde_json.proofs.Numbers.{number_of-decimal, number_of-negative}
use Rattle.serde_json.proofs.Texts.{print-outline}
use Rattle.cue_json.specs.Lines.{object_in}

-- ---- what is read back

abbrev pub NumFits : Num → Type 0
NumFits (unsigned n) = n < 2 ^ 64
NumFits (negative (pos n)) = ⊥
NumFits (negative (negsuc n)) = n < 2 ^ 62
NumFits (float x) = ⊥

abbrev is_less : Ordering → Bool
is_less Less = true
is_less Equal = false
is_less Greater = false

-- a key of ASCII that comes after the last one
abbrev pub is_next : List ℕ → List ℕ → Bool
is_next last key = are_ascii key && is_less (slice_cmp nat_cmp last key)

-- whole numbers, texts in UTF-8, keys that rise, and at most so many arrays and objects one in the other
abbrev mutual
  pub Fits : ℕ → Data → Type 0
  Fits n null = ⊤
  Fits n (boolean b) = ⊤
  Fits n (number x) = NumFits x
  Fits n (string s) = IsUtf8 s
  Fits zero (array ds) = ⊥
  Fits (suc n) (array ds) = ItemsFit n ds
  Fits zero (object ms) = ⊥
  Fits (suc n) (object ms) = MembersFit n [] ms

  pub ItemsFit : ℕ → Items → Type 0
  ItemsFit n no_items = ⊤
  ItemsFit n (item d ds) = Fits n d × ItemsFit n ds

  pub MembersFit : ℕ → List ℕ → Members → Type 0
  MembersFit n last no_members = ⊤
  MembersFit n last (member key d ms) = (is_next last key ≡ true) × Fits n d × MembersFit n key ms

-- ---- keys that rise

abbrev is_greater : Ordering → Bool
is_greater Less = false
is_greater Equal = false
is_greater Greater = true

abbrev is_above : List ℕ → Members → Bool
is_above k no_members = true
is_above k (member l d ms) = is_greater (slice_cmp nat_cmp k l) && is_above k ms

abbrev joined : Members → Members → Members
joined no_members more = more
joined (member k d ms) more = member k d (joined ms more)

less : (o : Ordering) → is_less o ≡ true → o ≡ Less
less Less e = refl
less Equal e = absurd (cc)
less Greater e = absurd (cc)

greater : (o : Ordering) → is_greater o ≡ true → o ≡ Greater
greater Less e = absurd (cc)
greater Equal e = absurd (cc)
greater Greater e = refl

put_last : (k : List ℕ) (d : Data) (ms : Members) → is_above k ms ≡ true → put k d ms ≡ joined ms (member k d no_members)
put_last k d no_members h = refl
put_last k d (member l e ms) h =
    let p = and_parts _ _ h in
    rw (greater (slice_cmp nat_cmp k l) p.0) (ap (member l e) (put_last k d ms p.1))

joined_none : (ms : Members) → joined ms no_members ≡ ms
joined_none no_members = refl
joined_none (member k d ms) = ap (member k d) (joined_none ms)

joined_twice : (ms more most : Members) → joined (joined ms more) most ≡ joined ms (joined more most)
joined_twice no_members more most = refl
joined_twice (member k d ms) more most = ap (member k d) (joined_twice ms more most)

-- each key after that one is above all of these
abbrev AreBefore : List ℕ → Members → Type 0
AreBefore last before = (k : List ℕ) → slice_cmp nat_cmp last k ≡ Less → is_above k before ≡ true

above_one : (k l : List ℕ) (d : Data) (before : Members) → slice_cmp nat_cmp l k ≡ Less → is_above k before ≡ true → is_above k (joined before (member l d no_members)) ≡ true
above_one k l d no_members later h = both_true (ap is_greater (nat_list_cmp_total.antisymm k l ∙ ap ordering_reverse later)) refl
above_one k l d (member m e ms) later h = let p = and_parts _ _ h in both_true p.0 (above_one k l d ms later p.1)

before_next : (last k : List ℕ) (d : Data) (before : Members) → slice_cmp nat_cmp last k ≡ Less → AreBefore last before → AreBefore k (joined before (member k d no_members))
before_next last k d before after h l later = above_one l k d before later (h l (nat_list_cmp_total.trans last k l after later))

-- what comes after a key comes after each earlier one
pub members_above : (n : ℕ) (last k : List ℕ) (ms : Members) → is_next last k ≡ true → MembersFit n k ms → MembersFit n last ms
members_above n last k no_members next h = tt
members_above n last k (member l d ms) next h =
    let p = and_parts _ _ next in
    let q = and_parts _ _ h.0 in
    (both_true q.0 (ap is_less (nat_list_cmp_total.trans last k l (less (slice_cmp nat_cmp last k) p.1) (less (slice_cmp nat_cmp k l) q.1))), h.1, h.2)

-- ---- the value of the JSON that is written

num_back : (n : Num) → NumFits n → of_json (json.number (number_text n)) ≡ Some (number n)
num_back (unsigned n) h = ap (option_map number) (number_of-decimal n h)
num_back (negative (pos n)) h = absurd h
num_back (negative (negsuc n)) h = ap (option_map number) (number_of-negative n (omega (arith, h)))
num_back (float x) h = absurd h

mutual
  value_back : (n : ℕ) (d : Data) → Fits n d → of_json (outline d) ≡ Some d
  value_back n null h = refl
  value_back n (boolean b) h = refl
  value_back n (number x) h = num_back x h
  value_back n (string s) h = refl
  value_back zero (array ds) h = absurd h
  value_back (suc n) (array ds) h = ap (option_map array) (items_back n ds h)
  value_back zero (object ms) h = absurd h
  value_back (suc n) (object ms) h = ap (option_map object) (members_back n [] ms no_members h (λ k later. refl))

  items_back : (n : ℕ) (ds : Items) → ItemsFit n ds → of_items (items_outline ds) ≡ Some ds
  items_back n no_items h = refl
  items_back n (item d ds) h = rw (value_back n d h.0, items_back n ds h.1) refl

  members_back : (n : ℕ) (last : List ℕ) (ms before : Members) → MembersFit n last ms → AreBefore last before → of_members (members_outline ms) before ≡ Some (joined before ms)
  members_back n last no_members before h rest = ap Some (sym (joined_none before))
  members_back n last (member k d ms) before h rest =
      let p = and_parts _ _ h.0 in
      let after = less (slice_cmp nat_cmp last k) p.1 in
      ap (option_and_then (λ d. of_members (members_outline ms) (put k d before))) (value_back n d h.1)
      ∙ ap (of_members (members_outline ms)) (put_last k d before (rest k after))
      ∙ members_back n k ms (joined before (member k d no_members)) h.2 (before_next last k d before after rest)
      ∙ ap Some (joined_twice before (member k d no_members) ms)

-- ---- its numbers, and how deep it nests

num_is : (n : Num) → NumFits n → tree.HasNumbers (json.number (number_text n))
num_is (unsigned n) h = IsNumber-decimal n h
num_is (negative (pos n)) h = absurd h
num_is (negative (negsuc n)) h = IsNumber-signed_decimal (negsuc n) (omega (arith, h))
num_is (float x) h = absurd h

mutual
  value_numbers : (n : ℕ) (d : Data) → Fits n d → tree.HasNumbers (outline d)
  value_numbers n null h = tt
  value_numbers n (boolean b) h = tt
  value_numbers n (number x) h = num_is x h
  value_numbers n (string s) h = tt
  value_numbers zero (array ds) h = absurd h
  value_numbers (suc n) (array ds) h = items_numbers n ds h
  value_numbers zero (object ms) h = absurd h
  value_numbers (suc n) (object ms) h = members_numbers n [] ms h

  items_numbers : (n : ℕ) (ds : Items) → ItemsFit n ds → tree.ItemsHaveNumbers (items_outline ds)
  items_numbers n no_items h = tt
  items_numbers n (item d ds) h = (value_numbers n d h.0, items_numbers n ds h.1)

  members_numbers : (n : ℕ) (last : List ℕ) (ms : Members) → MembersFit n last ms → tree.MembersHaveNumbers (members_outline ms)
  members_numbers n last no_members h = tt
  members_numbers n last (member k d ms) h = (value_numbers n d h.1, members_numbers n k ms h.2)

mutual
  value_depth : (n : ℕ) (d : Data) → Fits n d → tree.depth (outline d) ≤ n
  value_depth n null h = omega arith
  value_depth n (boolean b) h = omega arith
  value_depth n (number x) h = omega arith
  value_depth n (string s) h = omega arith
  value_depth zero (array ds) h = absurd h
  value_depth (suc n) (array ds) h = let flat = items_depth n ds h in omega (arith, flat)
  value_depth zero (object ms) h = absurd h
  value_depth (suc n) (object ms) h = let flat = members_depth n [] ms h in omega (arith, flat)

  items_depth : (n : ℕ) (ds : Items) → ItemsFit n ds → tree.items_depth (items_outline ds) ≤ n
  items_depth n no_items h = omega arith
  items_depth n (item d ds) h = let first = value_depth n d h.0 in let rest = items_depth n ds h.1 in omega (arith, first, rest)

  members_depth : (n : ℕ) (last : List ℕ) (ms : Members) → MembersFit n last ms → tree.members_depth (members_outline ms) ≤ n
  members_depth n last no_members h = omega arith
  members_depth n last (member k d ms) h = let first = value_depth n d h.1 in let rest = members_depth n k ms h.2 in omega (arith, first, rest)

-- ---- its text

num_text : (n : Num) → NumFits n → IsUtf8 (number_text n)
num_text (unsigned n) h = IsUtf8-from_ascii _ (IsAscii-decimal n h)
num_text (negative (pos n)) h = absurd h
num_text (negative (negsuc n)) h = IsUtf8-from_ascii _ (IsAscii-signed (negsuc n) (omega (arith, h)))
num_text (float x) h = absurd h

byte_then : (x : ℕ) (text : List ℕ) → are_ascii (x ∷ []) ≡ true → IsUtf8 text → IsUtf8 (x ∷ text)
byte_then x text small rest = IsUtf8-append (x ∷ []) text (IsUtf8-are_ascii (x ∷ []) small) rest

comma_text : (later : Bool) → IsUtf8 (comma_if later)
comma_text true = IsUtf8-are_ascii (44 ∷ []) refl
comma_text false = IsUtf8-are_ascii [] refl

mutual
  value_text : (n : ℕ) (d : Data) → Fits n d → IsUtf8 (compact_text d)
  value_text n null h = IsUtf8-are_ascii (110 ∷ 117 ∷ 108 ∷ 108 ∷ []) refl
  value_text n (boolean b) h = IsUtf8-boolean b
  value_text n (number x) h = num_text x h
  value_text n (string s) h = IsUtf8-quoted s h
  value_text zero (array ds) h = absurd h
  value_text (suc n) (array ds) h = byte_then 91 (items_text false ds) refl (list_text n false ds h)
  value_text zero (object ms) h = absurd h
  value_text (suc n) (object ms) h = byte_then 123 (members_text false ms) refl (object_text n [] false ms h)

  list_text : (n : ℕ) (later : Bool) (ds : Items) → ItemsFit n ds → IsUtf8 (items_text later ds)
  list_text n later no_items h = IsUtf8-are_ascii (93 ∷ []) refl
  list_text n later (item d ds) h = IsUtf8-append (comma_if later) _ (comma_text later) (IsUtf8-append (compact_text d) _ (value_text n d h.0) (list_text n true ds h.1))

  object_text : (n : ℕ) (last : List ℕ) (later : Bool) (ms : Members) → MembersFit n last ms → IsUtf8 (members_text later ms)
  object_text n last later no_members h = IsUtf8-are_ascii (125 ∷ []) refl
  object_text n last later (member k d ms) h =
      IsUtf8-append (comma_if later) _ (comma_text later)
      (IsUtf8-append (quoted k) _ (IsUtf8-quoted k (IsUtf8-are_ascii k (and_parts _ _ h.0).0))
      (byte_then 58 (compact_text d ++ members_text true ms) refl (IsUtf8-append (compact_text d) _ (value_text n d h.1) (object_text n k true ms h.2))))

-- ---- the whole

abbrev whole : Option (json.Json × List Token) → Option Data
whole found = option_and_then of_json (option_and_then (λ p. json.if_last p.0 p.1) found)

module _ (n : ℕ) (d : Data) (h : Fits n d) (shallow : n ≤ max_depth) where
  tokens_are : tokens (compact_text d) ≡ tree.json_tokens (outline d)
  tokens_are = ap tokens (sym (print-outline d)) ∙ tokens-print (tree.json_tokens (outline d)) (ArePrintable-json_tokens (outline d) (value_numbers n d h))

  depth_within : tree.depth (outline d) ≤ max_depth
  depth_within = let deep = value_depth n d h in omega (arith, deep, shallow)

  read_data : read (compact_text d) ≡ Some d
  read_data =
      ap whole (ap (json.value max_depth) (tokens_are ∙ sym (append-nil _)) ∙ value-json_tokens (outline d) max_depth [] depth_within)
      ∙ value_back n d h

-- the object in its text is itself
pub object_back : (n : ℕ) (ms : Members) → Fits n (object ms) → n ≤ max_depth → object_in (compact_text (object ms)) ≡ Some ms
unfolding object_in
object_back n ms h shallow = rw (is_utf8-from_IsUtf8 _ (value_text n (object ms) h), read_data n (object ms) h shallow) refl
