-- One token is printed as its text.
use Rattle.std.proofs.Common.{[], ◌∷◌, ◌++◌, ap, ◌∙◌}
use Rattle.json.specs.Print.{print}
use Rattle.json.specs.Reads.{token_of}
use Rattle.object_writer.proofs.Pushed.{alone}
use Rattle.object_writer.proofs.put.escaped.Goals as goal

pub returns : goal.returns
returns c =
    let before = c.in_ok-token.ensures.room.0 ∙ c.new-writer.ensures.before ∙ c.new.ensures.items in
    let one = c.in_ok-token.ensures.ok ∙ ap (λ ts. ts ++ token_of c.args.token ∷ []) c.new-writer.ensures.tokens in
    c.into_inner.ensures.items ∙ (λ i. before i ++ print (one i)) ∙ alone (token_of c.args.token)
