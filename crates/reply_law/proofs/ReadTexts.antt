-- All keys and texts of a JSON value that is read of a text that is UTF-8 are UTF-8.
use Rattle.std.proofs.Common.{◌≡◌, ℕ, zero, suc, true, List, [], ◌∷◌, length, Option, Some, None, option_and_then, option_map, Ordering, Less, Equal, Greater, refl, subst, IsUtf8}
use Rattle.std.specs.Ordering.{match_ordering, nat_cmp}
use Rattle.std.specs.Cmp.Lexicographic.{slice_cmp}
use Rattle.std.specs.List.{AllByRecursion}
use Rattle.std.specs.Str.{is_utf8}
use Rattle.std.proofs.lemmas.Option.{none-some, same_Some}
use Rattle.std.proofs.lemmas.Str.{IsUtf8-from_is_utf8, is_utf8-from_IsUtf8}
use Rattle.json.specs.Json as json
use Rattle.json.specs.Lex.{tokens}
use Rattle.json.specs.Token.{Token}
use Rattle.serde_json.specs.Data.{Data, Items, Members, array, boolean, item, member, no_items, no_members, null, number, object, put, string}
use Rattle.serde_json.specs.Read.{max_depth, number_of, of_items, of_json, of_members, read}
use Rattle.reply_law.proofs.TokenTexts.{TokenText, token_texts}

-- ---- values

-- all keys and texts are UTF-8
abbrev mutual
  pub DataTexts : Data → Type 0
  DataTexts null = Unit {0}
  DataTexts (boolean b) = Unit {0}
  DataTexts (number n) = Unit {0}
  DataTexts (string s) = is_utf8 s ≡ true
  DataTexts (array ds) = ItemsTexts ds
  DataTexts (object ms) = MembersTexts ms

  pub ItemsTexts : Items → Type 0
  ItemsTexts no_items = Unit {0}
  ItemsTexts (item d ds) = DataTexts d × ItemsTexts ds

  pub MembersTexts : Members → Type 0
  MembersTexts no_members = Unit {0}
  MembersTexts (member key d ms) = (is_utf8 key ≡ true) × DataTexts d × MembersTexts ms

-- ---- results of several steps

then_is : {X Y : Type 0} (next : X → Option Y) (o : Option X) (y : Y) → option_and_then next o ≡ Some y → (x : X) × (o ≡ Some x) × (next x ≡ Some y)
then_is next None y is = absurd (none-some y is)
then_is next (Some x) y is = (x, refl, is)

map_is : {X Y : Type 0} (f : X → Y) (o : Option X) (y : Y) → option_map f o ≡ Some y → (x : X) × (o ≡ Some x) × (f x ≡ y)
map_is f None y is = absurd (none-some y is)
map_is f (Some x) y is = (x, refl, same_Some (f x) y is)

-- ---- values as they are parsed

abbrev mutual
  JsonTexts : json.Json → Type 0
  JsonTexts json.null = Unit {0}
  JsonTexts (json.boolean b) = Unit {0}
  JsonTexts (json.number s) = Unit {0}
  JsonTexts (json.string s) = IsUtf8 s
  JsonTexts (json.array js) = AllJson js
  JsonTexts (json.object ms) = AllNamed ms

  AllJson : json.Items → Type 0
  AllJson json.no_items = Unit {0}
  AllJson (json.item j js) = JsonTexts j × AllJson js

  AllNamed : json.Members → Type 0
  AllNamed json.no_members = Unit {0}
  AllNamed (json.member k j ms) = IsUtf8 k × JsonTexts j × AllNamed ms

abbrev AllTexts : List Token → Type 0
AllTexts ts = AllByRecursion TokenText ts

-- what is parsed has such texts, and so has what is left
abbrev Keeps : {A : Type 0} → (A → Type 0) → json.Parse A → Type 0
Keeps {A = A} P parse = (ts : List Token) (r : A × List Token) → parse ts ≡ Some r → AllTexts ts → P r.0 × AllTexts r.1

array_end : (ts rest : List Token) → json.after_end_array ts ≡ Some rest → AllTexts ts → AllTexts rest
array_end [] rest is all = absurd (none-some rest is)
array_end (Token.begin_object ∷ ts) rest is all = absurd (none-some rest is)
array_end (Token.end_object ∷ ts) rest is all = absurd (none-some rest is)
array_end (Token.begin_array ∷ ts) rest is all = absurd (none-some rest is)
array_end (Token.end_array ∷ ts) rest is all = subst AllTexts (same_Some ts rest is) all.1
array_end (Token.key s ∷ ts) rest is all = absurd (none-some rest is)
array_end (Token.string s ∷ ts) rest is all = absurd (none-some rest is)
array_end (Token.number s ∷ ts) rest is all = absurd (none-some rest is)
array_end (Token.boolean b ∷ ts) rest is all = absurd (none-some rest is)
array_end (Token.null ∷ ts) rest is all = absurd (none-some rest is)
array_end (Token.bad ∷ ts) rest is all = absurd (none-some rest is)

-- a key that was read
abbrev KeyText : Option (List ℕ) → Type 0
KeyText None = Unit {0}
KeyText (Some k) = IsUtf8 k

key_keeps : Keeps KeyText json.read_key
key_keeps [] r is all = absurd (none-some r is)
key_keeps (Token.begin_object ∷ ts) r is all = absurd (none-some r is)
key_keeps (Token.end_object ∷ ts) r is all = subst (λ (q : Option (List ℕ) × List Token). KeyText q.0 × AllTexts q.1) (same_Some (None, ts) r is) (tt, all.1)
key_keeps (Token.begin_array ∷ ts) r is all = absurd (none-some r is)
key_keeps (Token.end_array ∷ ts) r is all = absurd (none-some r is)
key_keeps (Token.key s ∷ ts) r is all = subst (λ (q : Option (List ℕ) × List Token). KeyText q.0 × AllTexts q.1) (same_Some (Some s, ts) r is) (all.0, all.1)
key_keeps (Token.string s ∷ ts) r is all = absurd (none-some r is)
key_keeps (Token.number s ∷ ts) r is all = absurd (none-some r is)
key_keeps (Token.boolean b ∷ ts) r is all = absurd (none-some r is)
key_keeps (Token.null ∷ ts) r is all = absurd (none-some r is)
key_keeps (Token.bad ∷ ts) r is all = absurd (none-some r is)

-- what is parsed, made into something else
mapped_keeps : {A B : Type 0} (P : A → Type 0) (Q : B → Type 0) (f : A → B) → ((x : A) → P x → Q (f x)) → (o : Option (A × List Token)) (r : B × List Token) → json.parse_map f o ≡ Some r
    → ((q : A × List Token) → o ≡ Some q → P q.0 × AllTexts q.1) → Q r.0 × AllTexts r.1
mapped_keeps {A = A} {B = B} P Q f made o r is had =
    let q = map_is (λ (p : A × List Token). (f p.0, p.1)) o r is in
    let own = had q.0 q.1 in
    subst (λ (p : B × List Token). Q p.0 × AllTexts p.1) q.2 (made (q.0).0 own.0, own.1)

module _ (value : json.Parse json.Json) (keeps : Keeps JsonTexts value) where
  items_by : (more : json.Parse json.Items) → Keeps AllJson more → (ts : List Token) (o : Option (List Token)) → json.after_end_array ts ≡ o → (r : json.Items × List Token)
      → json.items_step value more ts o ≡ Some r → AllTexts ts → AllJson r.0 × AllTexts r.1
  items_by more later ts (Some rest) ends r is all = subst (λ (q : json.Items × List Token). AllJson q.0 × AllTexts q.1) (same_Some (json.no_items, rest) r is) (tt, array_end ts rest ends all)
  items_by more later ts None ends r is all =
      let first = then_is (λ (p : json.Json × List Token). json.parse_map (json.item p.0) (more p.1)) (value ts) r is in
      let own = keeps ts first.0 first.1 all in
      mapped_keeps AllJson AllJson (json.item (first.0).0) (λ js rest. (own.0, rest)) (more (first.0).1) r first.2 (λ q read. later (first.0).1 q read own.1)

  items_keep : (n : ℕ) → Keeps AllJson (json.items value n)
  unfolding json.items
  items_keep zero ts r is all = absurd (none-some r is)
  items_keep (suc n) ts r is all = items_by (json.items value n) (items_keep n) ts (json.after_end_array ts) refl r is all

  members_by : (more : json.Parse json.Members) → Keeps AllNamed more → (k : Option (List ℕ)) (ts : List Token) (r : json.Members × List Token) → KeyText k → AllTexts ts
      → json.members_step value more k ts ≡ Some r → AllNamed r.0 × AllTexts r.1
  members_by more later None ts r text all is = subst (λ (q : json.Members × List Token). AllNamed q.0 × AllTexts q.1) (same_Some (json.no_members, ts) r is) (tt, all)
  members_by more later (Some k) ts r text all is =
      let first = then_is (λ (p : json.Json × List Token). json.parse_map (json.member k p.0) (more p.1)) (value ts) r is in
      let own = keeps ts first.0 first.1 all in
      mapped_keeps AllNamed AllNamed (json.member k (first.0).0) (λ ms rest. (text, own.0, rest)) (more (first.0).1) r first.2 (λ q read. later (first.0).1 q read own.1)

  members_keep : (n : ℕ) → Keeps AllNamed (json.members value n)
  unfolding json.members
  members_keep zero ts r is all = absurd (none-some r is)
  members_keep (suc n) ts r is all =
      let first = then_is (λ (p : Option (List ℕ) × List Token). json.members_step value (json.members value n) p.0 p.1) (json.read_key ts) r is in
      let own = key_keeps ts first.0 first.1 all in
      members_by (json.members value n) (members_keep n) (first.0).0 (first.0).1 r own.0 own.1 first.2

value_by : (a : json.Parse json.Items) (o : json.Parse json.Members) → Keeps AllJson a → Keeps AllNamed o → Keeps JsonTexts (json.value_with a o)
value_by a o items named [] r is all = absurd (none-some r is)
value_by a o items named (Token.begin_object ∷ ts) r is all = mapped_keeps AllNamed JsonTexts json.object (λ ms h. h) (o ts) r is (λ q read. named ts q read all.1)
value_by a o items named (Token.end_object ∷ ts) r is all = absurd (none-some r is)
value_by a o items named (Token.begin_array ∷ ts) r is all = mapped_keeps AllJson JsonTexts json.array (λ js h. h) (a ts) r is (λ q read. items ts q read all.1)
value_by a o items named (Token.end_array ∷ ts) r is all = absurd (none-some r is)
value_by a o items named (Token.key s ∷ ts) r is all = absurd (none-some r is)
value_by a o items named (Token.string s ∷ ts) r is all = subst (λ (q : json.Json × List Token). JsonTexts q.0 × AllTexts q.1) (same_Some (json.string s, ts) r is) (all.0, all.1)
value_by a o items named (Token.number s ∷ ts) r is all = subst (λ (q : json.Json × List Token). JsonTexts q.0 × AllTexts q.1) (same_Some (json.number s, ts) r is) (tt, all.1)
value_by a o items named (Token.boolean b ∷ ts) r is all = subst (λ (q : json.Json × List Token). JsonTexts q.0 × AllTexts q.1) (same_Some (json.boolean b, ts) r is) (tt, all.1)
value_by a o items named (Token.null ∷ ts) r is all = subst (λ (q : json.Json × List Token). JsonTexts q.0 × AllTexts q.1) (same_Some (json.null, ts) r is) (tt, all.1)
value_by a o items named (Token.bad ∷ ts) r is all = absurd (none-some r is)

value_keeps : (depth : ℕ) → Keeps JsonTexts (json.value depth)
unfolding json.value
value_keeps zero = value_by (λ ts. None) (λ ts. None) (λ ts r is all. absurd (none-some r is)) (λ ts r is all. absurd (none-some r is))
value_keeps (suc depth) =
    value_by (λ ts. json.items (json.value depth) (length ts) ts) (λ ts. json.members (json.value depth) (length ts) ts)
    (λ ts. items_keep (json.value depth) (value_keeps depth) (length ts) ts) (λ ts. members_keep (json.value depth) (value_keeps depth) (length ts) ts)

last_is : (j k : json.Json) (ts : List Token) → json.if_last j ts ≡ Some k → j ≡ k
last_is j k [] is = same_Some j k is
last_is j k (t ∷ ts) is = absurd (none-some k is)

-- ---- values of what is parsed

ordered_each : {A : Type 0} (P : A → Type 0) (o : Ordering) (x y z : A) → P x → P y → P z → P (match_ordering o x y z)
ordered_each P Less x y z less same more = less
ordered_each P Equal x y z less same more = same
ordered_each P Greater x y z less same more = more

put_texts : (k : List ℕ) (d : Data) (ms : Members) → is_utf8 k ≡ true → DataTexts d → MembersTexts ms → MembersTexts (put k d ms)
put_texts k d no_members text own all = (text, own, tt)
put_texts k d (member l e ms) text own all =
    ordered_each MembersTexts (slice_cmp nat_cmp k l) (member k d (member l e ms)) (member l d ms) (member l e (put k d ms)) (text, own, all) (all.0, own, all.2)
    (all.0, all.1, put_texts k d ms text own all.2)

mutual
  data_texts : (j : json.Json) (d : Data) → of_json j ≡ Some d → JsonTexts j → DataTexts d
  data_texts json.null d is text = subst DataTexts (same_Some null d is) tt
  data_texts (json.boolean b) d is text = subst DataTexts (same_Some (boolean b) d is) tt
  data_texts (json.number s) d is text = let own = map_is number (number_of s) d is in subst DataTexts own.2 tt
  data_texts (json.string s) d is text = subst DataTexts (same_Some (string s) d is) (is_utf8-from_IsUtf8 s text)
  data_texts (json.array js) d is text = let own = map_is array (of_items js) d is in subst DataTexts own.2 (items_texts js own.0 own.1 text)
  data_texts (json.object ms) d is text = let own = map_is object (of_members ms no_members) d is in subst DataTexts own.2 (members_texts ms no_members own.0 own.1 text tt)

  items_texts : (js : json.Items) (ds : Items) → of_items js ≡ Some ds → AllJson js → ItemsTexts ds
  items_texts json.no_items ds is text = subst ItemsTexts (same_Some no_items ds is) tt
  items_texts (json.item j js) ds is text =
      let first = then_is (λ d. option_map (item d) (of_items js)) (of_json j) ds is in
      let rest = map_is (item first.0) (of_items js) ds first.2 in
      subst ItemsTexts rest.2 (data_texts j first.0 first.1 text.0, items_texts js rest.0 rest.1 text.1)

  members_texts : (ms : json.Members) (found all : Members) → of_members ms found ≡ Some all → AllNamed ms → MembersTexts found → MembersTexts all
  members_texts json.no_members found all is text had = subst MembersTexts (same_Some found all is) had
  members_texts (json.member k j ms) found all is text had =
      let first = then_is (λ d. of_members ms (put k d found)) (of_json j) all is in
      members_texts ms (put k first.0 found) all first.2 text.2 (put_texts k first.0 found (is_utf8-from_IsUtf8 k text.0) (data_texts j first.0 first.1 text.1) had)

pub read_texts : (text : List ℕ) (d : Data) → is_utf8 text ≡ true → read text ≡ Some d → DataTexts d
read_texts text d is found =
    let parsed = then_is of_json (option_and_then (λ p. json.if_last p.0 p.1) (json.value max_depth (tokens text))) d found in
    let whole = then_is (λ (p : json.Json × List Token). json.if_last p.0 p.1) (json.value max_depth (tokens text)) parsed.0 parsed.1 in
    let own = value_keeps max_depth (tokens text) whole.0 whole.1 (token_texts text (IsUtf8-from_is_utf8 text is)) in
    data_texts parsed.0 d parsed.2 (subst JsonTexts (last_is (whole.0).0 parsed.0 (whole.0).1 whole.2) own.0)
