use Rattle.std.proofs.Common.{ap, ◌∙◌, List, ℕ, string_bytes}
use Rattle.std.specs.List.{list_any}
use Rattle.std.specs.Str.{bytes_eq}
use Rattle.row_index.proofs.Named.{any_named}
use Rattle.row_index.proofs.names.Names.has.Goals as goal

pub returns : goal.returns
returns c =
    c.contains.ensures ∙ ap (λ (name : List ℕ). list_any (λ k. bytes_eq name (string_bytes k)) c.self.inside.set.keys) c.as_str.ensures
    ∙ any_named string_bytes c.args.name.now c.self.inside.set.keys ∙ ap (list_any (λ other. bytes_eq other c.args.name.now)) c.self.view_is
