use Rattle.std.proofs.Common.{◌∷◌, None, Some, sym, ◌∙◌}
use Rattle.std.proofs.lemmas.Bool.Decides.{Decides-eqb}
use Rattle.std.proofs.lemmas.Slice.Eq.{strip_prefix_is}
use Rattle.alloc_tags.proofs.Joined.{bytes_eq-no_front, bytes_eq-front}
use Rattle.alloc_tags.proofs.names.is_joined.Goals as goal

pub returns-in-None : goal.returns-in-None
returns-in-None c =
    sym (bytes_eq-no_front c.args.facility.now (46 ∷ c.args.tag.now) c.args.name.now (strip_prefix_is Decides-eqb c.args.name.now c.args.facility.now None c.in-None.ensures.cases))

pub returns-in-Some : goal.returns-in-Some
returns-in-Some c =
    c.is_point_and.ensures
    ∙ sym (bytes_eq-front c.args.facility.now (46 ∷ c.args.tag.now) c.args.name.now c.in-Some.rest.now (strip_prefix_is Decides-eqb c.args.name.now c.args.facility.now (Some c.in-Some.rest) c.in-Some.ensures.cases))
