-- An object of fields is read back from its text.
use Rattle.std.proofs.Common.{◌≡◌, ◌&&◌, ℕ, Bool, true, List, [], Some, arith, IsUtf8}
use Rattle.std.specs.Prelude.{⊤}
use Rattle.std.proofs.lemmas.Bool.{and_parts}
use Rattle.serde_json.specs.Data.{Data, null, boolean, number, string, array, object, Items, no_items, item, Members, no_members, member}
use Rattle.serde_json.specs.Written.{compact_text}
use Rattle.cue_json.specs.Lines.{object_in}
use Rattle.object_writer.proofs.DataBack as back

-- ---- what fields may be

abbrev pub TextFits : Data → Type 0
TextFits null = ⊥
TextFits (boolean b) = ⊥
TextFits (number n) = ⊥
TextFits (string s) = IsUtf8 s
TextFits (array ds) = ⊥
TextFits (object ms) = ⊥

abbrev pub ItemsFit : Items → Type 0
ItemsFit no_items = ⊤
ItemsFit (item d ds) = TextFits d × ItemsFit ds

abbrev pub ValueFits : Data → Type 0
ValueFits null = ⊥
ValueFits (boolean b) = ⊤
ValueFits (number n) = back.NumFits n
ValueFits (string s) = IsUtf8 s
ValueFits (array ds) = ItemsFit ds
ValueFits (object ms) = ⊥

abbrev pub FieldsFit : Members → Type 0
FieldsFit no_members = ⊤
FieldsFit (member k d ms) = ValueFits d × FieldsFit ms

-- the keys rise from the last one, and are of ASCII alone
abbrev pub are_keys : List ℕ → Members → Bool
are_keys last no_members = true
are_keys last (member k d ms) = back.is_next last k && are_keys k ms

-- ---- such an object is one that is read back

text_fits : (d : Data) → TextFits d → back.Fits 0 d
text_fits null h = absurd h
text_fits (boolean b) h = absurd h
text_fits (number n) h = absurd h
text_fits (string s) h = h
text_fits (array ds) h = absurd h
text_fits (object ms) h = absurd h

items_fit : (ds : Items) → ItemsFit ds → back.ItemsFit 0 ds
items_fit no_items h = tt
items_fit (item d ds) h = (text_fits d h.0, items_fit ds h.1)

value_fits : (d : Data) → ValueFits d → back.Fits 1 d
value_fits null h = absurd h
value_fits (boolean b) h = tt
value_fits (number n) h = h
value_fits (string s) h = h
value_fits (array ds) h = items_fit ds h
value_fits (object ms) h = absurd h

members_fit : (last : List ℕ) (ms : Members) → FieldsFit ms → are_keys last ms ≡ true → back.MembersFit 1 last ms
members_fit last no_members h keys = tt
members_fit last (member k d ms) h keys = let p = and_parts _ _ keys in (p.0, value_fits d h.0, members_fit k ms h.1 p.1)

-- the object in its text is itself
pub object_back : (ms : Members) → FieldsFit ms → are_keys [] ms ≡ true → object_in (compact_text (object ms)) ≡ Some ms
object_back ms h keys = back.object_back 2 ms (members_fit [] ms h keys) (omega arith)
