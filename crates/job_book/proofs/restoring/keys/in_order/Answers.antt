use Rattle.std.proofs.Common.{◌≡◌, ◌∙◌, ◌++◌, ◌∷◌, [], ℕ, suc, List, map, sym, ap, append_assoc, rules}
use Rattle.std.specs.List.{slice_get}
use Rattle.std.specs.Vec.Iter.{into_iter_items}
use Rattle.job_index.specs.Keys.{sorted}
use Rattle.job_book.proofs.restoring.keys.in_order.Goals as goal

pub loop-keys-preserved : goal.loop-keys-preserved
loop-keys-preserved c =
    let l = c.loop-keys in
    let rest : into_iter_items l.keys-iterator ≡ c.in-Some.keys ∷ into_iter_items c.next.new.self = search rules in
    let pushed : c.push.new.self.items ≡ l.ready.items ++ c.in_ok-of_keys.field-0 ∷ [] = search rules in
    let one : c.in_ok-of_keys.field-0 ≡ sorted c.in-Some.keys = c.in_ok-of_keys.ensures ∙ ap sorted c.into_vec.ensures in
    record {
      made =
          ap (λ (ks : List (List ℕ)). ks ++ map sorted (into_iter_items c.next.new.self)) pushed
          ∙ append_assoc l.ready.items (c.in_ok-of_keys.field-0 ∷ []) (map sorted (into_iter_items c.next.new.self))
          ∙ ap (λ (k : List ℕ). l.ready.items ++ k ∷ map sorted (into_iter_items c.next.new.self)) one
          ∙ sym (ap (λ (ks : List (List ℕ)). l.ready.items ++ map sorted ks) rest)
          ∙ l.invariant.made;
      differ = λ show ks at. l.invariant.differ (suc show) ks (ap (λ (xs : List (List ℕ)). slice_get xs (suc show)) rest ∙ at);
    }
