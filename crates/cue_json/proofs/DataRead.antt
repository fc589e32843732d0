-- A value's data is what it is read as, where each number in it fits.
use Rattle.std.proofs.Common.{◌≡◌, Bool, true, false, ◌&&◌, Option, Some, None, option_map, option_and_then, refl, ap, ◌∙◌}
use Rattle.std.specs.Prelude.{is_some}
use Rattle.json.specs.Json as json
use Rattle.serde_json.specs.Data.{Num, number, array, object, item, Members, no_members, put}
use Rattle.serde_json.specs.Read.{number_of, of_items, of_json, of_members}
use Rattle.cue_json.specs.View.{data_of, fits, items_data, items_fit, members_data, members_fit, number_or}

abbrev given : {A : Type 0} → Bool → A → Option A
given true x = Some x
given false x = None

mapped : {A B : Type 0} (f : A → B) (b : Bool) (x : A) → option_map f (given b x) ≡ given b (f x)
mapped f true x = refl
mapped f false x = refl

then : {A B : Type 0} (f : A → Option B) (b c : Bool) (x : A) (y : B) → f x ≡ given c y → option_and_then f (given b x) ≡ given (b && c) y
then f true c x y is = is
then f false c x y is = refl

number_read : (o : Option Num) → option_map number o ≡ given (is_some o) (number (number_or o))
number_read None = refl
number_read (Some n) = refl

mutual
  pub reads : (j : json.Json) → of_json j ≡ given (fits j) (data_of j)
  reads json.null = refl
  reads (json.boolean b) = refl
  reads (json.number s) = number_read (number_of s)
  reads (json.string s) = refl
  reads (json.array js) = ap (option_map array) (items_read js) ∙ mapped array (items_fit js) (items_data js)
  reads (json.object ms) = ap (option_map object) (members_read ms no_members) ∙ mapped object (members_fit ms) (members_data ms no_members)

  items_read : (js : json.Items) → of_items js ≡ given (items_fit js) (items_data js)
  items_read json.no_items = refl
  items_read (json.item j js) =
      ap (option_and_then (λ d. option_map (item d) (of_items js))) (reads j)
      ∙ then (λ d. option_map (item d) (of_items js)) (fits j) (items_fit js) (data_of j) (item (data_of j) (items_data js))
      (ap (option_map (item (data_of j))) (items_read js) ∙ mapped (item (data_of j)) (items_fit js) (items_data js))

  members_read : (ms : json.Members) (found : Members) → of_members ms found ≡ given (members_fit ms) (members_data ms found)
  members_read json.no_members found = refl
  members_read (json.member k j ms) found =
      ap (option_and_then (λ d. of_members ms (put k d found))) (reads j)
      ∙ then (λ d. of_members ms (put k d found)) (fits j) (members_fit ms) (data_of j) (members_data ms (put k (data_of j) found)) (members_read ms (put k (data_of j) found))

pub fitting : (j : json.Json) → fits j ≡ true → of_json j ≡ Some (data_of j)
fitting j is = reads j ∙ ap (λ b. given b (data_of j)) is

pub unfitting : (j : json.Json) → fits j ≡ false → of_json j ≡ None
unfitting j is = reads j ∙ ap (λ b. given b (data_of j)) is
