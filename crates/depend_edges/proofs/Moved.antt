-- What is the last edge of its slot stays so while edges change that stand where they stood.
use Rattle.std.proofs.Common.{◌≡◌, ℕ, Bool, true, List, Option, Some, sym, ap, ◌∙◌}
use Rattle.depend_edges.specs.Ways.{IsEdge, IsEdgeOf, IsLast}
use Rattle.depend_edges.specs.declared.links.Edge.{Edge}
use Rattle.depend_edges.specs.declared.links.EdgeAt.{EdgeAt}
use Rattle.depend_edges.proofs.Edited.{IsEdited}

-- from some lists and wanted places to others
pub moved : (ls ms : List (List Edge)) (slot : ℕ) (w v : ℕ → ℕ → Bool) (o : Option EdgeAt) → ((a : EdgeAt) → o ≡ Some a → IsEdgeOf ls slot a → w a.depend a.edge ≡ true → (IsEdgeOf ms slot a) × (v a.depend a.edge ≡ true))
    → ((p i : ℕ) (e : Edge) → IsEdge ms p i e → e.slot ≡ slot → v p i ≡ true → (x : Edge) × (IsEdge ls p i x) × (x.slot ≡ slot) × (w p i ≡ true)) → IsLast ls slot w o → IsLast ms slot v o
moved ls ms slot w v o to from last =
    record {
      one = λ a is. (to a is (last.one a is) (last.wanted_one a is)).0;
      wanted_one = λ a is. (to a is (last.one a is) (last.wanted_one a is)).1;
      last = λ p i e there on wanted. let x = from p i e there on wanted in last.last p i x.0 x.1 x.2 x.3;
    }

module _ (change : ℕ → ℕ → Edge → Edge) (olds news : List (List Edge)) (edited : IsEdited change olds news) (slots : (p i : ℕ) (y : Edge) → (change p i y).slot ≡ y.slot) where
  pub edge_then : (slot : ℕ) (a : EdgeAt) → IsEdgeOf olds slot a → IsEdgeOf news slot a
  edge_then slot a of =
      record {
        edge = change a.depend a.edge of.edge;
        there = edited.forth a.depend a.edge of.edge of.there;
        slot_is = slots a.depend a.edge of.edge ∙ of.slot_is;
      }

  pub last_then : (slot : ℕ) (w v : ℕ → ℕ → Bool) (o : Option EdgeAt) → ((a : EdgeAt) → o ≡ Some a → IsEdgeOf olds slot a → w a.depend a.edge ≡ true → v a.depend a.edge ≡ true)
      → ((p i : ℕ) (y : Edge) → IsEdge olds p i y → y.slot ≡ slot → v p i ≡ true → w p i ≡ true) → IsLast olds slot w o → IsLast news slot v o
  last_then slot w v o forth back =
      moved olds news slot w v o (λ a is of wanted. (edge_then slot a of, forth a is of wanted))
      (λ p i x there on wanted.
      let y = edited.back p i x there in
      let slot_was = sym (slots p i y.0) ∙ (ap (λ (e : Edge). e.slot) y.2 ∙ on) in
      (y.0, y.1, slot_was, back p i y.0 y.1 slot_was wanted))
