-- What is found at a key, in the order of a text and in byte order.
use Rattle.std.proofs.Common.{◌≡◌, ℕ, Bool, true, false, cond, List, Option, Some, None, option_map, refl, sym, ap, subst, ◌∙◌}
use Rattle.std.proofs.lemmas.Bool.{false≢true}
use Rattle.std.specs.Prelude.{bytes_eq}
use Rattle.std.specs.Cmp.Lexicographic.{bytes_decides}
use Rattle.json.specs.Find as json
use Rattle.json.specs.Json as json_of
use Rattle.serde_json.specs.Data.{Data, Members, no_members, put}
use Rattle.serde_json.specs.Find.{get_member}
use Rattle.serde_json.proofs.Views.{get_member-put, get_member-put_other}
use Rattle.cue_json.specs.View.{data_of, members_data}

-- what stands later in the text, or else before it
abbrev or_before : Option json_of.Json → Option Data → Option Data
or_before (Some j) earlier = Some (data_of j)
or_before None earlier = earlier

put_at : (b : Bool) (name k : List ℕ) (d : Data) (found : Members) → bytes_eq k name ≡ b → get_member name (put k d found) ≡ cond b (Some d) (get_member name found)
put_at true name k d found is = subst (λ key. get_member name (put key d found) ≡ Some d) (sym ((bytes_decides k name).0 is)) (get_member-put name d found)
put_at false name k d found is = get_member-put_other name k d found (λ same. false≢true (sym is ∙ (bytes_decides k name).1 (sym same)))

later_or_before : (later : Option json_of.Json) (b : Bool) (j : json_of.Json) (earlier : Option Data)
    → or_before later (cond b (Some (data_of j)) earlier) ≡ or_before (json.later_or later (cond b (Some j) None)) earlier
later_or_before None true j earlier = refl
later_or_before None false j earlier = refl
later_or_before (Some i) b j earlier = refl

found_from : (name : List ℕ) (ms : json_of.Members) (found : Members) → get_member name (members_data ms found) ≡ or_before (json.get_member name ms) (get_member name found)
found_from name json_of.no_members found = refl
found_from name (json_of.member k j ms) found =
    found_from name ms (put k (data_of j) found)
    ∙ ap (or_before (json.get_member name ms)) (put_at (bytes_eq k name) name k (data_of j) found refl)
    ∙ later_or_before (json.get_member name ms) (bytes_eq k name) j (get_member name found)

or_none : (found : Option json_of.Json) → option_map data_of found ≡ or_before found None
or_none None = refl
or_none (Some j) = refl

pub found_in : (name : List ℕ) (ms : json_of.Members) → option_map data_of (json.get_member name ms) ≡ get_member name (members_data ms no_members)
found_in name ms = or_none (json.get_member name ms) ∙ sym (found_from name ms no_members)
