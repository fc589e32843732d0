use Rattle.std.proofs.Common.{◌∙◌, ℕ, Bool, List, ap}
use Rattle.std.specs.List.{list_any}
use Rattle.stored_farm.specs.Ends.{is_set}
use Rattle.stored_farm.specs.SelfWaits.{is_among}
use Rattle.stored_farm.proofs.Walks.{flagged_same}
use Rattle.stored_farm.proofs.self_waits.has_own_waiter.Goals as goal

pub returns : goal.returns
returns c =
    let waiters = c.args.group.now.waiters in
    let own = c.as_slice-targets.result.now in
    let news = c.set_all.new.flags.items in
    c.is_one_set.ensures
    ∙ (ap (λ (flags : List Bool). list_any (is_set flags) c.as_slice-waiters.result.now) c.as_slice.ensures.value
    ∙ (ap (list_any (is_set news)) c.as_slice-waiters.ensures
    ∙ ap (λ (test : ℕ → Bool). list_any test waiters)
    (λ i w. (flagged_same c.in_ok-flags.flags.items news own c.behind.result c.in_ok-flags.ensures c.set_all.ensures.count c.set_all.ensures.flags c.behind.ensures w
    ∙ ap (λ (ts : List ℕ). is_among ts w) c.as_slice-targets.ensures) i)))
