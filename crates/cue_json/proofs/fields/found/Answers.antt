-- The member that is found is the one that the object's members have at the key.
use Rattle.std.proofs.Common.{◌≡◌, Option, Some, None, option_map, refl, ap, ◌∙◌}
use Rattle.json.specs.Value as tree
use Rattle.std.specs.Borrow.{Bor}
use Rattle.json.specs.declared.value.Value.{Value}
use Rattle.serde_json.specs.Find.{get_member}
use Rattle.cue_json.specs.View.{data_of, members_view, view}
use Rattle.cue_json.proofs.Members.{found_in}
use Rattle.cue_json.proofs.fields.found.Goals as goal

mapped : {A : Type 0} (o : Option (Bor (Value A))) → option_map (λ v. view v.now) o ≡ option_map data_of (option_map (λ v. tree.value_view v.now) o)
mapped None = refl
mapped (Some v) = refl

pub returns : goal.returns
returns c = mapped c.last_of.result ∙ ap (option_map data_of) c.last_of.ensures ∙ found_in c.args.field.now (tree.members_view c.as_slice.result.now)
    ∙ ap (λ ms. get_member c.args.field.now (members_view ms)) c.as_slice.ensures.value
