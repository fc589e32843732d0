use Rattle.std.proofs.Common.{◌≡◌, ◌∙◌, ap, rules, sym, to_z, of_z, w32}
use Rattle.std.specs.Prelude.{position}
use Rattle.std.specs.Ordering.{int_eq}
use Rattle.std.proofs.lemmas.Int.{to_z-of_z}
use Rattle.frame_range.specs.Places.{place_of}
use Rattle.frame_range.proofs.PlaceLemmas.{place_is}
use Rattle.frame_range.proofs.listing.Listing.position.Goals as goal

pub returns : goal.returns
returns c =
    let same : to_z w32 (of_z w32 c.args.number) ≡ c.args.number = to_z-of_z w32 c.args.number c.ranges.number in
    let view : c.args.self.now ≡ c.self.inside.numbers.keys = search rules in
    c.get_index_of.ensures.index ∙ ap (λ z. position (int_eq z) c.self.inside.numbers.keys) same ∙ place_is c.args.number c.self.inside.numbers.keys ∙ ap (place_of c.args.number) (sym view)
