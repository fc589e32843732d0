-- What a request's fields say is read from what was written, which fits.
use Rattle.std.proofs.Common.{◌≡◌, ℕ, ◌<◌, ◌≤◌, ◌^◌, pos, negsuc, true, cond, List, [], ◌∷◌, Some, None, Result, Ok, refl, ap, ◌∙◌, arith, leb-true, lt-ltb}
use Rattle.std.specs.Prelude.{ℤ, map}
use Rattle.std.specs.List.{All, list_all}
use Rattle.std.proofs.lemmas.Bool.{and_parts}
use Rattle.serde_json.specs.Data.{Data, string, array, object, Members}
use Rattle.serde_json.specs.Find.{as_array, get_member}
use Rattle.serde_json.specs.Read.{max_depth}
use Rattle.serde_json.specs.View.{items_of}
use Rattle.serde_json.specs.Written.{compact_text}
use Rattle.cue_json.specs.Fields.{Fault, ◌>>=◌, as_signed, has_key, of_kind, of_member, signed_at}
use Rattle.cue_json.specs.Items.{item_at, items_at, list_of}
use Rattle.farm_types.specs.Forms.{is_frame_number, is_name_or_empty, is_tag_text}
use Rattle.farm_types.specs.Limits.{IsBetween}
use Rattle.farm_types.proofs.Lists.{and_both}
use Rattle.farm_lines.specs.declared.limits.TheConstants.{LEAST_FRAME, MOST_FRAME}
use Rattle.farm_lines.specs.declared.request.Request.{Request}
use Rattle.farm_lines.specs.Fields.{or_default}
use Rattle.farm_lines.specs.Request.{request_at, request_of}
use Rattle.farm_lines.specs.RequestText.{texts_data}
use Rattle.farm_lines.specs.Spec.{number_at, tags_at, tags_in, text_of, within}
use Rattle.farm_lines.specs.Words.{signed, whole}
use Rattle.object_writer.proofs.DataBack.{Fits, ItemsFit, object_back}
use Rattle.client_codec.proofs.FieldsBack.{between, form_back, whole_back}
use Rattle.client_codec.proofs.ItemsBack.{items_back, items_seen}
use Rattle.client_codec.proofs.AskedLemmas.TextsFit.{tag_fits}

-- ---- texts that fit

pub texts_fit : (n : ℕ) (tags : List (List ℕ)) → list_all is_tag_text tags ≡ true → ItemsFit n (items_of (map string tags))
texts_fit n [] h = tt
texts_fit n (t ∷ ts) h = let p = and_both (is_tag_text t) (list_all is_tag_text ts) h in (tag_fits t p.0, texts_fit n ts p.1)

pub signed_fits : (n : ℕ) (z : ℤ) → is_frame_number z ≡ true → Fits n (signed z)
signed_fits n (pos k) h = let most : k ≤ 9999999 = leb-true k 9999999 h in omega (arith, most)
signed_fits n (negsuc k) h = let p = and_parts _ _ h in let most : k ≤ 9999998 = leb-true k 9999998 p.0 in omega (arith, most)

-- ---- amounts

pub within_back : (field : List ℕ) (least most n : ℕ) → IsBetween least most n → within field least most n ≡ Ok tt
within_back field least most n h = rw (between least most n h) refl

-- ---- fields

module _ (field : List ℕ) (ms : Members) where
  pub number_back : (n : ℕ) → get_member field ms ≡ Some (whole n) → n < 2 ^ 64 → number_at field ms ≡ Ok n
  number_back n found h = whole_back field ms 0 18446744073709551615 n found (omega arith, omega (arith, h))

  signed_is : (z : ℤ) → is_frame_number z ≡ true → as_signed LEAST_FRAME MOST_FRAME (signed z) ≡ Some z
  signed_is (pos n) h =
      let most : n ≤ 9999999 = leb-true n 9999999 h in
      let fits : n < 2 ^ 63 = omega (arith, most) in
      rw (lt-ltb n (2 ^ 63) fits, h) refl
  signed_is (negsuc n) h = rw h refl

  pub signed_back : (z : ℤ) → get_member field ms ≡ Some (signed z) → is_frame_number z ≡ true → signed_at field LEAST_FRAME MOST_FRAME ms ≡ Ok z
  signed_back z found h = ap (of_member field (as_signed LEAST_FRAME MOST_FRAME)) found ∙ ap (of_kind field) (signed_is z h)

  tags_are : (tags : List (List ℕ)) → list_all is_tag_text tags ≡ true → tags_in field (items_of (map string tags)) ≡ Ok tags
  tags_are [] h = refl
  tags_are (t ∷ ts) h = let p = and_both (is_tag_text t) (list_all is_tag_text ts) h in rw (p.0, tags_are ts p.1) refl

  pub tags_back : (tags : List (List ℕ)) → get_member field ms ≡ Some (texts_data tags) → list_all is_tag_text tags ≡ true → tags_at field ms ≡ Ok tags
  tags_back tags found h = ap (λ d. of_member field as_array d >>= tags_in field) found ∙ tags_are tags h

  -- a list of objects, each of which is read as what is seen of it
  pub list_seen : {X Y : Type 0} (spelled : X → Data) (view : X → Y) (read : Members → Result Y Fault) (P : X → Type 0) → ((x : X) → P x → item_at field read (spelled x) ≡ Ok (view x)) → (xs : List X)
      → get_member field ms ≡ Some (array (items_of (map spelled xs))) → All P xs → list_of field read ms ≡ Ok (map view xs)
  list_seen spelled view read P each xs found h = ap (λ d. of_member field as_array d >>= items_at field read) found ∙ items_seen spelled P view field read each xs h

  -- each of which is read back
  pub list_back : {X : Type 0} (spelled : X → Data) (read : Members → Result X Fault) (P : X → Type 0) → ((x : X) → P x → item_at field read (spelled x) ≡ Ok x) → (xs : List X)
      → get_member field ms ≡ Some (array (items_of (map spelled xs))) → All P xs → list_of field read ms ≡ Ok xs
  list_back spelled read P each xs found h = ap (λ d. of_member field as_array d >>= items_at field read) found ∙ items_back spelled P field read each xs h

  -- a field that is there though it may be left out
  pub there : {X : Type 0} (default x : X) (read : List ℕ → Members → Result X Fault) (d : Data) → get_member field ms ≡ Some d → read field ms ≡ Ok x → or_default default read field ms ≡ Ok x
  there default x read d found is = rw (found, is) refl

  -- so a name or none
  pub or_empty_back : (text : List ℕ) → get_member field ms ≡ Some (string text) → is_name_or_empty text ≡ true → or_default [] (text_of is_name_or_empty) field ms ≡ Ok text
  or_empty_back text found h = there [] text (text_of is_name_or_empty) (string text) found (form_back field ms is_name_or_empty text found h)

  pub told : {X : Type 0} (x : X) (r : Result X Fault) (d : Data) → get_member field ms ≡ Some d → r ≡ Ok x → cond (has_key field ms) (r >>= λ x. Ok (Some x)) (Ok None) ≡ Ok (Some x)
  told x r d found is = rw (found, is) refl

-- ---- the whole line

-- the object is read as that request
abbrev pub IsReadAs : Data → Request → Type 0
IsReadAs (object ms) asked = request_at ms ≡ Ok asked
IsReadAs other asked = ⊥

pub line_back : (n : ℕ) (d : Data) (asked : Request) → Fits n d → n ≤ max_depth → IsReadAs d asked → request_of (compact_text d) ≡ Ok asked
unfolding request_of
line_back n (object ms) asked fits shallow read = rw (object_back n ms fits shallow) read
line_back n other asked fits shallow read = absurd read
