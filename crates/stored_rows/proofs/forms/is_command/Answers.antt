-- A text is UTF-8, so that its bytes alone are looked at.
use Rattle.std.proofs.Common.{◌≡◌, Bool, true, ◌&&◌, ap, sym, ◌∙◌}
use Rattle.std.specs.List.{list_all}
use Rattle.std.specs.Str.{is_utf8}
use Rattle.std.proofs.lemmas.Str.{is_utf8-from_IsUtf8}
use Rattle.farm_types.specs.Forms.{is_command_byte}
use Rattle.stored_rows.proofs.forms.is_command.Goals as goal

pub returns : goal.returns
returns c =
    let utf8 : is_utf8 c.args.text.now ≡ true = is_utf8-from_IsUtf8 c.args.text.now c.utf8.text in
    c.are_command_bytes.ensures ∙ (ap (list_all is_command_byte) c.as_bytes.ensures.value ∙ sym (ap (λ (b : Bool). b && list_all is_command_byte c.args.text.now) utf8))
