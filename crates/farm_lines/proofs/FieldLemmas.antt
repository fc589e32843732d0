-- What is read of a field is of the field's form.
use Rattle.std.proofs.Common.{◌≡◌, ℕ, ◌≤◌, List, Bool, true, false, cond, refl, Option, None, Some, Result, Ok, Err}
use Rattle.std.specs.Prelude.{IfOk, ℤ, ◌&&◌, int_le, nat_le, option_and_then}
use Rattle.std.specs.List.{All, list_all}
use Rattle.std.specs.Option.{IfSome}
use Rattle.std.proofs.lemmas.Bool.{and_parts, leb-true}
use Rattle.std.proofs.lemmas.List.Elements.{All-cons, All-nil}
use Rattle.serde_json.specs.Data.{Data, Items, no_items, item, Members}
use Rattle.serde_json.specs.Find.{get_member, as_i64, as_str, as_u64, as_number, as_object}
use Rattle.cue_json.specs.Fields.{Fault, WrongKind, ◌>>=◌, of_kind, of_member, signed_at, signed_in, whole_in, as_signed, as_whole, text_at, whole_at, list_at, has_key}
use Rattle.cue_json.specs.Items.{item_at, items_at, list_of}
use Rattle.farm_types.specs.Forms.{is_name_text, is_tag_text}
use Rattle.farm_lines.specs.Fields.{name_at, or_default}
use Rattle.farm_lines.specs.Spec.{of_form, text_of, tag_item, tags_in, tags_at}

-- ---- one step after another

-- what the first step gives is handed to the next
pub step : {A B E : Type 0} (P : A → Type 0) (Q : B → Type 0) (r : Result A E) (k : A → Result B E) → IfOk r P → ((x : A) → P x → IfOk (k x) Q) → IfOk (r >>= k) Q
step P Q (Ok x) k first next = next x first
step P Q (Err e) k first next = tt

-- whatever the first step gives
pub step_any : {A B E : Type 0} (Q : B → Type 0) (r : Result A E) (k : A → Result B E) → ((x : A) → IfOk (k x) Q) → IfOk (r >>= k) Q
step_any Q (Ok x) k next = next x
step_any Q (Err e) k next = tt

-- what holds of each result holds of the one that is
pub ok_at : {A E : Type 0} (P : A → Type 0) (r : Result A E) (x : A) → IfOk r P → r ≡ Ok x → P x
ok_at P (Ok y) x holds is = let same : y ≡ x = cc in subst_to P y x same holds
  where
    subst_to : {A : Type 0} (P : A → Type 0) (y x : A) → y ≡ x → P y → P x
    subst_to P y x e h = rw (← e) h
ok_at P (Err e) x holds is = absurd (cc)

-- one of two results
pub either : {A E : Type 0} (P : A → Type 0) (b : Bool) (x y : Result A E) → IfOk x P → IfOk y P → IfOk (cond b x y) P
either P true x y h k = h
either P false x y h k = k

-- ---- texts

tested : (form : List ℕ → Bool) (field text : List ℕ) (b : Bool) → form text ≡ b → IfOk {E = Fault} (cond b (Ok text) (Err (WrongKind field))) (λ t. form t ≡ true)
tested form field text true h = h
tested form field text false h = tt

of_form_formed : (form : List ℕ → Bool) (field text : List ℕ) → IfOk (of_form form field text) (λ t. form t ≡ true)
of_form_formed form field text = tested form field text (form text) refl

pub text_formed : (form : List ℕ → Bool) (field : List ℕ) (ms : Members) → IfOk (text_of form field ms) (λ t. form t ≡ true)
text_formed form field ms = step_any (λ t. form t ≡ true) (text_at field ms) (of_form form field) (of_form_formed form field)

pub name_formed : (field : List ℕ) (ms : Members) → IfOk (name_at field ms) (λ t. is_name_text t ≡ true)
name_formed field ms = text_formed is_name_text field ms

-- ---- numbers

pub kind_formed : {X : Type 0} (P : X → Type 0) (field : List ℕ) (o : Option X) → IfSome o P → IfOk (of_kind field o) P
kind_formed P field None h = tt
kind_formed P field (Some x) h = h

member_formed : {X : Type 0} (P : X → Type 0) (field : List ℕ) (kind : Data → Option X) (o : Option Data) → ((d : Data) → IfSome (kind d) P) → IfOk (of_member field kind o) P
member_formed P field kind None h = tt
member_formed P field kind (Some d) h = kind_formed P field (kind d) (h d)

then_some : {A B : Type 0} (P : B → Type 0) (f : A → Option B) (o : Option A) → ((x : A) → IfSome (f x) P) → IfSome (option_and_then f o) P
then_some P f None h = tt
then_some P f (Some x) h = h x

whole_some : (least most n : ℕ) (b : Bool) → (nat_le least n && nat_le n most) ≡ b → IfSome (cond b (Some n) None) (λ n. (least ≤ n) × (n ≤ most))
whole_some least most n true h = let parts = and_parts (nat_le least n) (nat_le n most) h in (leb-true least n parts.0, leb-true n most parts.1)
whole_some least most n false h = tt

pub whole_formed : (field : List ℕ) (least most : ℕ) (ms : Members) → IfOk (whole_at field least most ms) (λ n. (least ≤ n) × (n ≤ most))
whole_formed field least most ms =
    member_formed (λ n. (least ≤ n) × (n ≤ most)) field (as_whole least most) (get_member field ms)
    (λ d. then_some (λ n. (least ≤ n) × (n ≤ most)) (whole_in least most) (option_and_then as_u64 (as_number d)) (λ n. whole_some least most n (nat_le least n && nat_le n most) refl))

signed_some : (least most z : ℤ) (b : Bool) → (int_le least z && int_le z most) ≡ b → IfSome (cond b (Some z) None) (λ z. (int_le least z && int_le z most) ≡ true)
signed_some least most z true h = h
signed_some least most z false h = tt

pub signed_formed : (field : List ℕ) (least most : ℤ) (ms : Members) → IfOk (signed_at field least most ms) (λ z. (int_le least z && int_le z most) ≡ true)
signed_formed field least most ms =
    member_formed (λ z. (int_le least z && int_le z most) ≡ true) field (as_signed least most) (get_member field ms)
    (λ d. then_some (λ z. (int_le least z && int_le z most) ≡ true) (signed_in least most) (option_and_then as_i64 (as_number d)) (λ z. signed_some least most z (int_le least z && int_le z most) refl))

-- ---- lists

tag_formed : (field : List ℕ) (d : Data) → IfOk (tag_item field d) (λ t. is_tag_text t ≡ true)
tag_formed field d = step_any (λ t. is_tag_text t ≡ true) (of_kind field (as_str d)) (of_form is_tag_text field) (of_form_formed is_tag_text field)

both : (a b : Bool) → a ≡ true → b ≡ true → (a && b) ≡ true
both true b h k = k
both false b h k = h

tags_in_formed : (field : List ℕ) (ds : Items) → IfOk (tags_in field ds) (λ tags. list_all is_tag_text tags ≡ true)
tags_in_formed field no_items = refl
tags_in_formed field (item d ds) =
    step (λ t. is_tag_text t ≡ true) _ (tag_item field d) _ (tag_formed field d) (λ tag ok.
    step (λ tags. list_all is_tag_text tags ≡ true) _ (tags_in field ds) _ (tags_in_formed field ds) (λ tags oks. both (is_tag_text tag) (list_all is_tag_text tags) ok oks))

pub tags_formed : (field : List ℕ) (ms : Members) → IfOk (tags_at field ms) (λ tags. list_all is_tag_text tags ≡ true)
tags_formed field ms = step_any (λ tags. list_all is_tag_text tags ≡ true) (list_at field ms) (tags_in field) (tags_in_formed field)

items_formed : {X : Type 0} (P : X → Type 0) (field : List ℕ) (read : Members → Result X Fault) → ((ms : Members) → IfOk (read ms) P) → (ds : Items) → IfOk (items_at field read ds) (All P)
items_formed P field read each no_items = All-nil P
items_formed P field read each (item d ds) =
    step P _ (item_at field read d) _ (step_any P (of_kind field (as_object d)) read each) (λ x ok.
    step (All P) _ (items_at field read ds) _ (items_formed P field read each ds) (λ xs oks. All-cons P x xs ok oks))

pub list_formed : {X : Type 0} (P : X → Type 0) (field : List ℕ) (read : Members → Result X Fault) → ((ms : Members) → IfOk (read ms) P) → (ms : Members) → IfOk (list_of field read ms) (All P)
list_formed P field read each ms = step_any (All P) (list_at field ms) (items_at field read) (items_formed P field read each)

-- ---- fields that may be left out

pub default_formed : {X : Type 0} (P : X → Type 0) (default : X) (read : List ℕ → Members → Result X Fault) (field : List ℕ) (ms : Members) → P default → IfOk (read field ms) P
    → IfOk (or_default default read field ms) P
default_formed P default read field ms h k = either P (has_key field ms) (read field ms) (Ok default) k h
