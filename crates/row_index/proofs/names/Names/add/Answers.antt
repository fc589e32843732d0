use Rattle.std.proofs.Common.{◌≡◌, ◌++◌, ◌∷◌, [], ap, ◌∙◌, cond, Bool, false, List, ℕ, string_bytes, map}
use Rattle.std.specs.List.{list_any}
use Rattle.std.specs.Str.{bytes_eq}
use Rattle.std.proofs.lemmas.List.{map_push}
use Rattle.row_index.proofs.Named.{any_named}
use Rattle.row_index.proofs.names.Names.add.Goals as goal

pub returns-clause-ok : goal.returns-clause-ok
returns-clause-ok c =
    let keys = c.self.inside.set.keys in
    let copy = c.in_ok-copy.copy in
    let name : string_bytes copy ≡ c.args.name.now = c.in_ok-copy.ensures.ok ∙ c.as_str.ensures in
    let none : list_any (λ k. bytes_eq (string_bytes copy) (string_bytes k)) keys ≡ false =
    any_named string_bytes (string_bytes copy) keys ∙ ap (λ (n : List ℕ). list_any (λ other. bytes_eq other n) (map string_bytes keys)) name
    ∙ ap (list_any (λ other. bytes_eq other c.args.name.now)) c.self.view_is ∙ c.requires.new in
    ap (map string_bytes) c.in_ok-insert.ensures.keys ∙ ap (λ (b : Bool). map string_bytes (cond b keys (keys ++ copy ∷ []))) none ∙ map_push string_bytes keys copy
    ∙ (λ j. c.self.view_is j ++ name j ∷ [])
