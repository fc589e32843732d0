use Rattle.std.proofs.Common.{◌≡◌, length, refl, rules}
use Rattle.std.specs.Vec.{vec_len}
use Rattle.std.proofs.lemmas.Option.{slice_get_read}
use Rattle.world_core.proofs.AtPlace.{begins_at, past_none}
use Rattle.world_core.proofs.lives.begin_life.Goals as goal

pub returns-in-Some : goal.returns-in-Some
returns-in-Some c =
    let counted : vec_len c.args.hosts.now ≡ length c.args.hosts.now.items = search rules in
    let is_within = c.in-Some.ensures.variant.0 refl in
    let there = slice_get_read c.args.hosts.now.items (vec_len c.args.hosts.now) c.args.host c.in-Some.own.now counted is_within c.in-Some.ensures.value in
    begins_at c.args.hosts.now.items c.args.host c.in-Some.own.now c.args.nonce c.begin_on.result c.begin_on.new.host there c.begin_on.ensures

pub returns-in-None : goal.returns-in-None
returns-in-None c =
    let counted : vec_len c.args.hosts.now ≡ length c.args.hosts.now.items = search rules in
    (past_none c.args.hosts.now.items c.args.host (vec_len c.args.hosts.now) counted c.in-None.ensures.variant.1, refl)
