use Rattle.stored_farm.proofs.Changes.{mark_kept}
use Rattle.stored_farm.proofs.stored_farm.StoredFarm.keep_mark.Goals as goal

pub invariant_of-self-2 : goal.invariant_of-self-2
invariant_of-self-2 c =
    let a = c.self.inside in
    mark_kept a.rows a.last a.depends.items a.groups.items a.met.items a.left c.self.invariant c.args.self.now c.self.view_is c.kept.ensures c.args.mark c.id_of-id.result c.push.new.self.items
    c.requires.next c.requires.fits c.id_of-id.ensures c.in_ok-push.ensures.items
