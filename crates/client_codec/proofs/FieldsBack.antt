-- Fields are read as the values that were written.
use Rattle.std.proofs.Common.{◌≡◌, ℕ, Bool, true, List, Option, Some, Ok, refl, ap, ◌∙◌, le-leb}
use Rattle.serde_json.specs.Data.{Data, boolean, string, object, Members, no_members}
use Rattle.serde_json.specs.Find.{as_bool, as_str, get_member}
use Rattle.cue_json.specs.Fields.{◌>>=◌, as_whole, flag_at, of_kind, of_member, text_at, whole_at}
use Rattle.farm_types.specs.Forms.{is_between, is_name_text}
use Rattle.farm_types.specs.Limits.{IsBetween}
use Rattle.state_names.specs.Words.{word_at}
use Rattle.farm_lines.specs.Fields.{name_at}
use Rattle.farm_lines.specs.Spec.{of_form, text_of}
use Rattle.farm_lines.specs.Words.{whole}

-- the fields of an object
abbrev pub fields_in : Data → Members
fields_in (object ms) = ms
fields_in other = no_members

pub between : (least most n : ℕ) → IsBetween least most n → is_between least most n ≡ true
between least most n h = rw (le-leb least n h.0, le-leb n most h.1) refl

module _ (field : List ℕ) (ms : Members) where
  pub text_back : (text : List ℕ) → get_member field ms ≡ Some (string text) → text_at field ms ≡ Ok text
  text_back text found = ap (of_member field as_str) found

  pub form_back : (form : List ℕ → Bool) (text : List ℕ) → get_member field ms ≡ Some (string text) → form text ≡ true → text_of form field ms ≡ Ok text
  form_back form text found h = ap (λ r. r >>= of_form form field) (text_back text found) ∙ rw h refl

  pub name_back : (name : List ℕ) → get_member field ms ≡ Some (string name) → is_name_text name ≡ true → name_at field ms ≡ Ok name
  name_back name found h = form_back is_name_text name found h

  pub word_back : {X : Type 0} (of_word : List ℕ → Option X) (word : List ℕ) (x : X) → get_member field ms ≡ Some (string word) → of_word word ≡ Some x → word_at of_word field ms ≡ Ok x
  word_back of_word word x found is = ap (λ r. r >>= λ w. of_kind field (of_word w)) (text_back word found) ∙ ap (of_kind field) is

  pub flag_back : (b : Bool) → get_member field ms ≡ Some (boolean b) → flag_at field ms ≡ Ok b
  flag_back b found = ap (of_member field as_bool) found

  pub whole_back : (least most n : ℕ) → get_member field ms ≡ Some (whole n) → IsBetween least most n → whole_at field least most ms ≡ Ok n
  whole_back least most n found h = ap (of_member field (as_whole least most)) found ∙ rw (between least most n h) refl
