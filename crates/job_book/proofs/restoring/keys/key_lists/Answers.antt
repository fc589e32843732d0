use Rattle.std.proofs.Common.{◌≡◌, ◌∙◌, ◌++◌, ◌∷◌, ◌+◌, [], ℕ, List, drop, length, sym, ap, append-nil, arith}
use Rattle.std.specs.List.{slice_get}
use Rattle.std.proofs.lemmas.List.{drop_all, drop_more}
use Rattle.std.proofs.lemmas.Option.{get_or_from_slice_get}
use Rattle.farm_types.specs.declared.rows.JobRow.{JobRow}
use Rattle.job_entries.specs.declared.counts.Counts.{Counts}
use Rattle.job_book.specs.Restored.{keys_beside, with_ready}
use Rattle.job_book.proofs.RestoringLemmas.RestoredKeys.{length_ready, ready_step}
use Rattle.job_book.proofs.restoring.keys.key_lists.Goals as goal

pub loop-at-preserved : goal.loop-at-preserved
loop-at-preserved c =
    let l = c.loop-at in
    let rows = c.args.rows.now in
    let counts = c.args.counts.now in
    let row = c.index-rows-at.result in
    let one = c.counts_at.result.now in
    let rest : drop l.at rows ≡ row ∷ drop (l.at + 1) rows = drop_more rows l.at row (omega arith) ∙ ap (λ (j : JobRow). j ∷ drop (l.at + 1) rows) (sym c.index-rows-at.is) in
    let others : drop l.at counts ≡ one ∷ drop (l.at + 1) counts = drop_more counts l.at one (omega arith) ∙ ap (λ (k : Counts). k ∷ drop (l.at + 1) counts) (get_or_from_slice_get counts l.at one one c.counts_at.ensures) in
    let new : c.add_ready.new.lists.items ≡ with_ready row one l.lists.items = c.in_ok-add_ready.ensures in
    record {
      count = ap (λ (ks : List (List ℕ)). length ks) new ∙ length_ready row one l.lists.items ∙ l.invariant.count;
      keys = λ show ks at.
          ready_step row (drop (l.at + 1) rows) one (drop (l.at + 1) counts) l.lists.items (λ n. keys_beside n rows counts)
          (λ n ns there. sym (λ i. ns ++ keys_beside n (rest i) (others i)) ∙ l.invariant.keys n ns there)
          show ks (sym (ap (λ (ls : List (List ℕ)). slice_get ls show) new) ∙ at);
    }

pub returns-clause-keys : goal.returns-clause-keys
returns-clause-keys c =
    let l = c.loop-at in
    let rows = c.args.rows.now in
    let counts = c.args.counts.now in
    λ show ks at.
    let none : drop l.at rows ≡ [] = drop_all l.at rows (omega arith) in
    sym (append-nil ks) ∙ sym (ap (λ (js : List JobRow). ks ++ keys_beside show js (drop l.at counts)) none) ∙ l.invariant.keys show ks at
