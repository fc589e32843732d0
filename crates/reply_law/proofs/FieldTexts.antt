-- What a field reads as of an object whose texts are UTF-8: what it gives, and that the name in its fault is UTF-8.
use Rattle.std.proofs.Common.{◌≡◌, ◌≤◌, ℕ, ℤ, Bool, true, false, cond, List, Option, Some, None, Ordering, Less, Equal, Greater, Result, Ok, Err, refl, subst}
use Rattle.std.specs.Prelude.{◌&&◌, int_le}
use Rattle.std.specs.List.{All, list_all}
use Rattle.std.specs.Ordering.{match_ordering, nat_cmp}
use Rattle.std.specs.Cmp.Lexicographic.{slice_cmp}
use Rattle.std.proofs.lemmas.List.Elements.{All-cons, All-nil}
use Rattle.std.proofs.lemmas.Option.{none-some, same_Some}
use Rattle.serde_json.specs.Data.{Data, Items, Members, array, boolean, item, member, no_items, no_members, null, number, object, string}
use Rattle.serde_json.specs.Find.{as_array, as_object, as_str, get_member}
use Rattle.cue_json.specs.Fields.{Fault, WrongKind, ◌>>=◌, as_signed, as_whole, field_at, field_of, first_other, has_key, is_expected, list_at, no_other, object_at, of_kind, of_member, others_at, signed_at, text_at, whole_at}
use Rattle.cue_json.specs.Items.{item_at, items_at, list_of}
use Rattle.state_names.specs.Words.{word_at}
use Rattle.farm_types.specs.Forms.{is_name_text, is_tag_text}
use Rattle.farm_types.proofs.Utf8.{ascii_utf8, is_ascii}
use Rattle.farm_lines.specs.Fields.{name_at, optional_whole_at, or_default}
use Rattle.farm_lines.specs.FormedLines.{IsName, IsText}
use Rattle.farm_lines.specs.Spec.{of_form, tag_item, tags_at, tags_in, text_of}
use Rattle.farm_lines.proofs.FieldLemmas.{name_formed, signed_formed, whole_formed}
use Rattle.reply_law.proofs.ReadTexts.{DataTexts, ItemsTexts, MembersTexts}
use Rattle.reply_law.proofs.Saying.{Any, Says, one_of, step, with_ok}

-- the name that a fault carries is a text
abbrev pub NamesText : Fault → Type 0
NamesText fault = IsText (field_of fault)

-- the name of a field, in ASCII
abbrev pub IsPlain : List ℕ → Type 0
IsPlain field = list_all is_ascii field ≡ true

-- a field says what holds of what it gives, and its fault names a text
abbrev pub Reads : {X : Type 0} → (X → Type 0) → Result X Fault → Type 0
Reads P r = Says NamesText P r

pub then_reads : {A B : Type 0} (P : A → Type 0) (Q : B → Type 0) (r : Result A Fault) (k : A → Result B Fault) → Reads P r → ((x : A) → P x → Reads Q (k x)) → Reads Q (r >>= k)
then_reads P Q r k first next = step NamesText P Q r k first next

pub kind_reads : {X : Type 0} (P : X → Type 0) (field : List ℕ) (o : Option X) → IsPlain field → ((x : X) → o ≡ Some x → P x) → Reads P (of_kind field o)
kind_reads P field None plain holds = ascii_utf8 field plain
kind_reads P field (Some x) plain holds = holds x refl

-- ---- the value at a key

found_by : (key : List ℕ) (o : Ordering) (e d : Data) (ms : Members) → match_ordering o (get_member key ms) (Some e) (get_member key ms) ≡ Some d → DataTexts e
    → (get_member key ms ≡ Some d → DataTexts d) → DataTexts d
found_by key Less e d ms is own later = later is
found_by key Equal e d ms is own later = subst DataTexts (same_Some e d is) own
found_by key Greater e d ms is own later = later is

found_texts : (key : List ℕ) (ms : Members) (d : Data) → get_member key ms ≡ Some d → MembersTexts ms → DataTexts d
found_texts key no_members d is all = absurd (none-some d is)
found_texts key (member l e ms) d is all = found_by key (slice_cmp nat_cmp key l) e d ms is all.1 (λ there. found_texts key ms d there all.2)

text_in : (d : Data) (t : List ℕ) → DataTexts d → as_str d ≡ Some t → IsText t
text_in null t own is = absurd (none-some t is)
text_in (boolean b) t own is = absurd (none-some t is)
text_in (number n) t own is = absurd (none-some t is)
text_in (string s) t own is = subst IsText (same_Some s t is) own
text_in (array ds) t own is = absurd (none-some t is)
text_in (object ms) t own is = absurd (none-some t is)

items_in : (d : Data) (ds : Items) → DataTexts d → as_array d ≡ Some ds → ItemsTexts ds
items_in null ds own is = absurd (none-some ds is)
items_in (boolean b) ds own is = absurd (none-some ds is)
items_in (number n) ds own is = absurd (none-some ds is)
items_in (string s) ds own is = absurd (none-some ds is)
items_in (array es) ds own is = subst ItemsTexts (same_Some es ds is) own
items_in (object ms) ds own is = absurd (none-some ds is)

pub members_in : (d : Data) (ms : Members) → DataTexts d → as_object d ≡ Some ms → MembersTexts ms
members_in null ms own is = absurd (none-some ms is)
members_in (boolean b) ms own is = absurd (none-some ms is)
members_in (number n) ms own is = absurd (none-some ms is)
members_in (string s) ms own is = absurd (none-some ms is)
members_in (array ds) ms own is = absurd (none-some ms is)
members_in (object os) ms own is = subst MembersTexts (same_Some os ms is) own

-- ---- fields

member_reads : {X : Type 0} (P : X → Type 0) (field : List ℕ) (kind : Data → Option X) (o : Option Data) → IsPlain field → ((d : Data) → o ≡ Some d → (x : X) → kind d ≡ Some x → P x)
    → Reads P (of_member field kind o)
member_reads P field kind None plain holds = ascii_utf8 field plain
member_reads P field kind (Some d) plain holds = kind_reads P field (kind d) plain (holds d refl)

-- of whatever kind
pub any_reads : {X : Type 0} (field : List ℕ) (kind : Data → Option X) (ms : Members) → IsPlain field → Reads Any (field_at field kind ms)
any_reads field kind ms plain = member_reads Any field kind (get_member field ms) plain (λ d at x is. tt)

pub text_reads : (field : List ℕ) (ms : Members) → IsPlain field → MembersTexts ms → Reads IsText (text_at field ms)
text_reads field ms plain all = member_reads IsText field as_str (get_member field ms) plain (λ d at t is. text_in d t (found_texts field ms d at all) is)

pub object_reads : (field : List ℕ) (ms : Members) → IsPlain field → MembersTexts ms → Reads MembersTexts (object_at field ms)
object_reads field ms plain all = member_reads MembersTexts field as_object (get_member field ms) plain (λ d at os is. members_in d os (found_texts field ms d at all) is)

items_read : (field : List ℕ) (ms : Members) → IsPlain field → MembersTexts ms → Reads ItemsTexts (list_at field ms)
items_read field ms plain all = member_reads ItemsTexts field as_array (get_member field ms) plain (λ d at ds is. items_in d ds (found_texts field ms d at all) is)

pub whole_reads : (field : List ℕ) (least most : ℕ) (ms : Members) → IsPlain field → Reads (λ n. (least ≤ n) × (n ≤ most)) (whole_at field least most ms)
whole_reads field least most ms plain =
    with_ok NamesText Any (λ n. (least ≤ n) × (n ≤ most)) (whole_at field least most ms) (any_reads field (as_whole least most) ms plain) (whole_formed field least most ms)

pub signed_reads : (field : List ℕ) (least most : ℤ) (ms : Members) → IsPlain field → Reads (λ z. (int_le least z && int_le z most) ≡ true) (signed_at field least most ms)
signed_reads field least most ms plain =
    with_ok NamesText Any (λ z. (int_le least z && int_le z most) ≡ true) (signed_at field least most ms) (any_reads field (as_signed least most) ms plain) (signed_formed field least most ms)

pub form_reads : (form : List ℕ → Bool) (field : List ℕ) (ms : Members) → IsPlain field → Reads Any (text_of form field ms)
form_reads form field ms plain =
    then_reads Any Any (text_at field ms) (of_form form field) (any_reads field as_str ms plain) (λ t any. one_of NamesText Any (form t) (Ok t) (Err (WrongKind field)) tt (ascii_utf8 field plain))

pub name_reads : (field : List ℕ) (ms : Members) → IsPlain field → Reads IsName (name_at field ms)
name_reads field ms plain = with_ok NamesText Any IsName (name_at field ms) (form_reads is_name_text field ms plain) (name_formed field ms)

pub word_reads : {X : Type 0} (named : List ℕ → Option X) (field : List ℕ) (ms : Members) → IsPlain field → Reads Any (word_at named field ms)
word_reads named field ms plain =
    then_reads Any Any (text_at field ms) (λ word. of_kind field (named word)) (any_reads field as_str ms plain) (λ word any. kind_reads Any field (named word) plain (λ x is. tt))

-- ---- fields that may be left out

pub default_reads : {X : Type 0} (P : X → Type 0) (default : X) (read : List ℕ → Members → Result X Fault) (field : List ℕ) (ms : Members) → P default → Reads P (read field ms)
    → Reads P (or_default default read field ms)
default_reads P default read field ms own there = one_of NamesText P (has_key field ms) (read field ms) (Ok default) there own

pub optional_reads : (field : List ℕ) (least most : ℕ) (ms : Members) → IsPlain field → Reads Any (optional_whole_at field least most ms)
optional_reads field least most ms plain =
    one_of NamesText Any (has_key field ms) (whole_at field least most ms >>= λ n. Ok (Some n)) (Ok None)
    (then_reads Any Any (whole_at field least most ms) (λ n. Ok (Some n)) (any_reads field (as_whole least most) ms plain) (λ n any. tt)) tt

-- ---- keys that aren't expected

others_by : (b : Bool) (o : Option (List ℕ)) (key : List ℕ) → IsText key → Reads Any (no_other o) → Reads Any (no_other (cond b o (Some key)))
others_by true o key text later = later
others_by false o key text later = text

pub others_read : (fields : List (List ℕ)) (ms : Members) → MembersTexts ms → Reads Any (others_at fields ms)
others_read fields no_members all = tt
others_read fields (member key d ms) all = others_by (is_expected fields key) (first_other fields ms) key all.0 (others_read fields ms all.2)

-- ---- lists

item_reads : {X : Type 0} (P : X → Type 0) (field : List ℕ) (read : Members → Result X Fault) (d : Data) → IsPlain field → DataTexts d → ((ms : Members) → MembersTexts ms → Reads P (read ms))
    → Reads P (item_at field read d)
item_reads P field read d plain own each =
    then_reads MembersTexts P (of_kind field (as_object d)) read (kind_reads MembersTexts field (as_object d) plain (λ ms is. members_in d ms own is)) each

items_reads : {X : Type 0} (P : X → Type 0) (field : List ℕ) (read : Members → Result X Fault) (ds : Items) → IsPlain field → ItemsTexts ds → ((ms : Members) → MembersTexts ms → Reads P (read ms))
    → Reads (All P) (items_at field read ds)
items_reads P field read no_items plain all each = All-nil P
items_reads P field read (item d ds) plain all each =
    then_reads P (All P) (item_at field read d) _ (item_reads P field read d plain all.0 each) (λ x own.
    then_reads (All P) (All P) (items_at field read ds) _ (items_reads P field read ds plain all.1 each) (λ xs rest. All-cons P x xs own rest))

pub list_reads : {X : Type 0} (P : X → Type 0) (field : List ℕ) (read : Members → Result X Fault) (ms : Members) → IsPlain field → MembersTexts ms → ((inner : Members) → MembersTexts inner → Reads P (read inner))
    → Reads (All P) (list_of field read ms)
list_reads P field read ms plain all each =
    then_reads ItemsTexts (All P) (list_at field ms) (items_at field read) (items_read field ms plain all) (λ ds own. items_reads P field read ds plain own each)

tag_reads : (field : List ℕ) (d : Data) → IsPlain field → Reads Any (tag_item field d)
tag_reads field d plain =
    then_reads Any Any (of_kind field (as_str d)) (of_form is_tag_text field) (kind_reads Any field (as_str d) plain (λ t is. tt))
    (λ t any. one_of NamesText Any (is_tag_text t) (Ok t) (Err (WrongKind field)) tt (ascii_utf8 field plain))

tags_in_read : (field : List ℕ) (ds : Items) → IsPlain field → Reads Any (tags_in field ds)
tags_in_read field no_items plain = tt
tags_in_read field (item d ds) plain =
    then_reads Any Any (tag_item field d) _ (tag_reads field d plain) (λ tag any. then_reads Any Any (tags_in field ds) _ (tags_in_read field ds plain) (λ tags all. tt))

pub tags_read : (field : List ℕ) (ms : Members) → IsPlain field → Reads Any (tags_at field ms)
tags_read field ms plain = then_reads Any Any (list_at field ms) (tags_in field) (any_reads field as_array ms plain) (λ ds any. tags_in_read field ds plain)
