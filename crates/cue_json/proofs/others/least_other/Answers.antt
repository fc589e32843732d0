-- The least of the other keys is the first in byte order.
use Rattle.std.proofs.Common.{◌≡◌, [], map, option_map, drop, sym, ap, ◌∙◌, arith}
use Rattle.std.proofs.lemmas.List.{drop_all}
use Rattle.json.specs.Value.{members_view}
use Rattle.cue_json.proofs.Unexpected.{least_from, others_are_least}
use Rattle.cue_json.proofs.others.least_other.Goals as goal

pub returns : goal.returns
returns c =
    let fields = map (λ f. f.now) c.args.fields.now in
    let ended : drop c.loop-member.member-index c.args.members.now ≡ [] = drop_all c.loop-member.member-index c.args.members.now (omega (arith, c.loop-member-test.false, c.loop-member.auto.member-index-end)) in
    ap (λ ms. least_from fields (members_view ms) (option_map (λ k. k.now) c.loop-member.least)) (sym ended)
    ∙ c.loop-member.invariant ∙ sym (others_are_least fields (members_view c.args.members.now))
