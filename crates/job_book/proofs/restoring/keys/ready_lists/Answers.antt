use Rattle.std.proofs.Common.{◌∙◌, List, ℕ, sym, ap, subst}
use Rattle.std.specs.List.{slice_get}
use Rattle.std.proofs.lemmas.Result.{IfOk-weaker}
use Rattle.job_index.specs.Keys.{sorted, AreKeys}
use Rattle.job_book.proofs.RestoringLemmas.RestoredKeys.{beside_differ, sorted_at}
use Rattle.job_book.proofs.restoring.keys.ready_lists.Goals as goal

pub in_order-requires : goal.in_order-requires
in_order-requires c = λ show ks at. subst AreKeys (sym (c.in_ok-lists.ensures.keys show ks at)) (beside_differ show 0 c.args.rows.now c.args.counts.now c.requires.rise)

pub returns-clause-keys : goal.returns-clause-keys
returns-clause-keys c =
    IfOk-weaker c.in_order.result _ _
    (λ ready is show ks at.
    let its = sorted_at c.in_ok-lists.lists.items show ks (sym (ap (λ (ls : List (List ℕ)). slice_get ls show) is) ∙ at) in
    its.2 ∙ ap sorted (c.in_ok-lists.ensures.keys show its.0 its.1))
    c.in_order.ensures
