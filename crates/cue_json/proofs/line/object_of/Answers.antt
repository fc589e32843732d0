-- The object of the value that was read, or why there is none.
use Rattle.std.proofs.Common.{ℕ, List, Global, refl, ap, sym, ◌∙◌}
use Rattle.std.specs.Prelude.{option_and_then}
use Rattle.std.specs.Borrow.{Bor}
use Rattle.json.specs.declared.value.Value.{Value}
use Rattle.serde_json.specs.Find.{as_object}
use Rattle.serde_json.specs.Read.{read}
use Rattle.cue_json.specs.View.{members_view, view}
use Rattle.cue_json.proofs.Lines.{given_or_none, object_in-refused, object_in-text, refused}
use Rattle.cue_json.proofs.line.object_of.Goals as goal

pub returns-in_default : goal.returns-in_default
returns-in_default c = object_in-refused c.args.line.now c.in_default.ensures.cases.0

pub returns-in-Ok-value_of : goal.returns-in-Ok-value_of
returns-in-Ok-value_of c =
    let text = c.in-Ok.text.now in
    let found = object_in-text c.args.line.now text (read text) c.in-Ok.ensures.cases.0 c.in-Ok.ensures.cases.1 refl in
    rw c.ok_or.ensures.value (given_or_none _ c.object_within.result _ (c.object_within.ensures ∙ sym (found ∙ ap (option_and_then as_object) c.in-Ok-value_of.ensures)))

pub returns-in-Err : goal.returns-in-Err
returns-in-Err c =
    let text = c.in-Ok.text.now in
    let found = object_in-text c.args.line.now text (read text) c.in-Ok.ensures.cases.0 c.in-Ok.ensures.cases.1 refl in
    refused {X = Value Global} (λ v. view v) (λ (m : List (Bor (List ℕ) × Value Global)). members_view m) c.in-Err.fault c.args.line.now (read text) found c.in-Err.ensures
