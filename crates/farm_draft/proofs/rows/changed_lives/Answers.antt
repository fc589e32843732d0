use Rattle.std.proofs.Common.{refl, ◌∙◌, slice_get, true≢false, sym}
use Rattle.host_book.specs.Life.{with_life}
use Rattle.farm_draft.specs.Rows.{IsOtherLife}
use Rattle.farm_draft.proofs.PutRows.{picked_none, picked_more, picked_past, picked_all, idle_life, other_life, put_lives_all}
use Rattle.farm_draft.proofs.rows.changed_lives.Goals as goal

pub loop-host-init : goal.loop-host-init
loop-host-init c =
    let gives = c.into_iter-host-iterator.ensures.into_iter_gives in
    picked_none with_life c.args.books.now.farm.hosts (IsOtherLife c.args.books.now.farm.hosts) c.args.over.entries _ _ c.new-entries.ensures.items gives.0 gives.4

pub loop-host-preserved : goal.loop-host-preserved
loop-host-preserved c =
    picked_more with_life c.args.books.now.farm.hosts (IsOtherLife c.args.books.now.farm.hosts) c.args.over.entries _ _ _ (c.in-Some.host, c.in-Some.life) _ c.in-Some.ensures.steps c.in_ok-push.ensures.items c.loop-host.invariant
    (other_life (slice_get c.args.books.now.farm.hosts c.in-Some.host) c.in-Some.life (λ same. true≢false (sym (c.if-is_same_life.ensures.1 same))))

pub loop-host-preserved-then-is_same_life : goal.loop-host-preserved-then-is_same_life
loop-host-preserved-then-is_same_life c =
    picked_past with_life c.args.books.now.farm.hosts (IsOtherLife c.args.books.now.farm.hosts) c.args.over.entries _ _ (c.in-Some.host, c.in-Some.life) _ c.in-Some.ensures.steps c.loop-host.invariant
    (idle_life c.args.books.now.farm.hosts (c.in-Some.host, c.in-Some.life) (c.if-is_same_life.ensures.0 refl))

pub returns-clause-all : goal.returns-clause-all
returns-clause-all c =
    put_lives_all c.args.books.now.farm.hosts c.loop-host.entries.items
    ∙ picked_all with_life c.args.books.now.farm.hosts (IsOtherLife c.args.books.now.farm.hosts) c.args.over.entries _ _ c.in-None.ensures.steps.0 c.loop-host.invariant c.into_iter-host-iterator.ensures.into_iter_gives.4
