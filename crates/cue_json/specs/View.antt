-- The data that a value over a text stands for. A number is what it is read as, and of a key that comes twice the last value counts.
use Rattle.std.specs.Prelude.{ℕ, List, Bool, true, ◌&&◌, Option, None, Some, is_some, pos}
use Rattle.std.specs.Borrow.{Bor}
use Rattle.std.specs.Float.{binary64}
use Rattle.std.specs.Float.Ieee.{of_int}
use Rattle.json.specs.Json as json
use Rattle.json.specs.Value as tree
use Rattle.json.specs.declared.value.Value.{Value}
use Rattle.serde_json.specs.Data.{Num, float, Data, null, boolean, number, string, array, object, Items, no_items, item, Members, no_members, put}
use Rattle.serde_json.specs.Read.{number_of}

-- what a number is read as; one past all floats stands for a float, as no text is read that has it
abbrev pub number_or : Option Num → Num
number_or (Some n) = n
number_or None = float (of_int binary64 (pos 0))

abbrev mutual
  pub data_of : json.Json → Data
  data_of json.null = null
  data_of (json.boolean b) = boolean b
  data_of (json.number s) = number (number_or (number_of s))
  data_of (json.string s) = string s
  data_of (json.array js) = array (items_data js)
  data_of (json.object ms) = object (members_data ms no_members)

  pub items_data : json.Items → Items
  items_data json.no_items = no_items
  items_data (json.item j js) = item (data_of j) (items_data js)

  -- the members go in one after another
  pub members_data : json.Members → Members → Members
  members_data json.no_members found = found
  members_data (json.member k j ms) found = members_data ms (put k (data_of j) found)

-- whether each number is within the range of floats
abbrev mutual
  pub fits : json.Json → Bool
  fits json.null = true
  fits (json.boolean b) = true
  fits (json.number s) = is_some (number_of s)
  fits (json.string s) = true
  fits (json.array js) = items_fit js
  fits (json.object ms) = members_fit ms

  pub items_fit : json.Items → Bool
  items_fit json.no_items = true
  items_fit (json.item j js) = fits j && items_fit js

  pub members_fit : json.Members → Bool
  members_fit json.no_members = true
  members_fit (json.member k j ms) = fits j && members_fit ms

abbrev pub view : {A : Type 0} → Value A → Data
view v = data_of (tree.value_view v)

abbrev pub items_view : {A : Type 0} → List (Value A) → Items
items_view vs = items_data (tree.items_view vs)

abbrev pub members_view : {A : Type 0} → List (Bor (List ℕ) × Value A) → Members
members_view ms = members_data (tree.members_view ms) no_members
