-- The way goes on from an edge: that one counts otherwise, and no other.
use Rattle.std.proofs.Common.{◌≡◌, ◌≢◌, ℕ, ◌+◌, Bool, true, false, not, cond, eqb, List, Option, Some, refl, sym, ap, subst, ◌∙◌, ◌⊎◌, inl, inr, arith}
use Rattle.std.specs.Prelude.{◌&&◌}
use Rattle.std.specs.List.{slice_get}
use Rattle.std.proofs.lemmas.Bool.{eq-eqb, eqb-true, ne_eqb}
use Rattle.std.proofs.lemmas.Option.{same_Some}
use Rattle.farm_types.proofs.Changed.{places}
use Rattle.depend_edges.specs.Ways.{IsEdge, IsLast, is_ahead_of, is_past}
use Rattle.depend_edges.specs.declared.links.Edge.{Edge}
use Rattle.depend_edges.specs.declared.links.EdgeAt.{EdgeAt}
use Rattle.depend_edges.proofs.Before.{not_past_at, past_at, past_same}
use Rattle.depend_graph.specs.Graph.{is_flagged}
use Rattle.depend_graph.specs.Passing.{count_from, is_pending}
use Rattle.depend_graph.proofs.CountFrom.{count_from-alike, count_from-one}

pending_by : (turned : Bool → Bool) (u v b flag : Bool) → (b ≡ true → u ≡ v) → cond b (turned u) flag ≡ cond b (turned v) flag
pending_by turned u v true flag same = ap turned (same refl)
pending_by turned u v false flag same = refl

module _ (turned : Bool → Bool) (done : List Bool) (lists : List (List Edge)) (slot : ℕ) (a : EdgeAt) (x : Edge) (there : IsEdge lists a.depend a.edge x) (on : x.slot ≡ slot)
    (next : Option EdgeAt) (last : IsLast lists slot (is_ahead_of a.depend a.edge) next)
  where
    alike_away : (m p i : ℕ) (e : Edge) → IsEdge lists p i e → ((p ≡ a.depend) × (i ≡ a.edge) → ⊥) → is_pending turned done slot (Some a) m p i e ≡ is_pending turned done slot next m p i e
    alike_away m p i e is apart =
        ap (λ b. eqb e.group m && b)
        (pending_by turned (is_past (Some a) p i) (is_past next p i) (eqb e.slot slot) (not (is_flagged done e.slot)) (λ one. sym (past_same lists slot a next last p i e is (eqb-true e.slot slot one) apart)))

    off_by : (m : ℕ) (b c : Bool) → x.group ≢ m → (eqb x.group m && b) ≡ (eqb x.group m && c)
    off_by m b c apart = ap (λ g. g && b) (ne_eqb x.group m apart) ∙ sym (ap (λ g. g && c) (ne_eqb x.group m apart))

    alike_here : (m i : ℕ) (e : Edge) → IsEdge lists a.depend i e → i ≡ a.edge → x.group ≢ m → is_pending turned done slot (Some a) m a.depend i e ≡ is_pending turned done slot next m a.depend i e
    alike_here m i e is same apart =
        let one_list : is.edges ≡ there.edges = same_Some is.edges there.edges (sym is.listed ∙ there.listed) in
        let one : e ≡ x = same_Some e x (sym is.there ∙ (ap (slice_get is.edges) same ∙ (ap (λ (es : List Edge). slice_get es a.edge) one_list ∙ there.there))) in
        ap (is_pending turned done slot (Some a) m a.depend i) one ∙ (off_by m _ _ apart ∙ ap (is_pending turned done slot next m a.depend i) (sym one))

    -- the counts of other groups
    pub pending_other : (p m : ℕ) (es : List Edge) → slice_get lists p ≡ Some es → ((p ≡ a.depend) × (m ≡ x.group) → ⊥)
        → count_from (is_pending turned done slot (Some a) m p) 0 es ≡ count_from (is_pending turned done slot next m p) 0 es
    pending_other p m es listed apart =
        count_from-alike (is_pending turned done slot (Some a) m p) (is_pending turned done slot next m p) 0 es (λ n i e is at. by_place n i e (is ∙ omega arith) at (places p a.depend) (places n a.edge))
      where
        by_place : (n i : ℕ) (e : Edge) → i ≡ n → slice_get es n ≡ Some e → (p ≡ a.depend) ⊎ (p ≢ a.depend) → (n ≡ a.edge) ⊎ (n ≢ a.edge)
            → is_pending turned done slot (Some a) m p i e ≡ is_pending turned done slot next m p i e
        by_place n i e is at (inr other) w = alike_away m p i e (record { edges = es; listed = listed; there = ap (slice_get es) is ∙ at }) (λ both. other both.0)
        by_place n i e is at (inl same) (inr away) = alike_away m p i e (record { edges = es; listed = listed; there = ap (slice_get es) is ∙ at }) (λ both. away (sym is ∙ both.1))
        by_place n i e is at (inl same) (inl here) =
            subst (λ (r : ℕ). is_pending turned done slot (Some a) m r i e ≡ is_pending turned done slot next m r i e) (sym same)
            (alike_here m i e (record { edges = es; listed = ap (slice_get lists) (sym same) ∙ listed; there = ap (slice_get es) is ∙ at }) (is ∙ here) (λ one. apart (same, sym one)))

    at_edge : (o : Option EdgeAt) (b : Bool) → is_past o a.depend a.edge ≡ b → (i : ℕ) → i ≡ a.edge → is_pending turned done slot o x.group a.depend i x ≡ turned b
    at_edge o b is i same =
        ap (λ g. g && cond (eqb x.slot slot) (turned (is_past o a.depend i)) (not (is_flagged done x.slot))) (eq-eqb x.group x.group refl)
        ∙ (ap (λ s. cond s (turned (is_past o a.depend i)) (not (is_flagged done x.slot))) (eq-eqb x.slot slot on)
        ∙ (ap (λ n. turned (is_past o a.depend n)) same ∙ ap turned is))

    -- the count of the edge's own group, where edges count until they are past
    pub pending_falls : (es : List Edge) → slice_get lists a.depend ≡ Some es → turned false ≡ true → turned true ≡ false
        → count_from (is_pending turned done slot (Some a) x.group a.depend) 0 es ≡ count_from (is_pending turned done slot next x.group a.depend) 0 es + 1
    pending_falls es listed counts ends =
        count_from-one (is_pending turned done slot (Some a) x.group a.depend) (is_pending turned done slot next x.group a.depend) 0 a.edge es x (edge_in es listed)
        (λ i is. at_edge (Some a) false (not_past_at lists slot a next last) i (is ∙ omega arith) ∙ counts) (λ i is. at_edge next true (past_at lists slot a next last) i (is ∙ omega arith) ∙ ends)
        (λ n i e is apart at. alike_away x.group a.depend i e (record { edges = es; listed = listed; there = ap (slice_get es) (is ∙ omega arith) ∙ at }) (λ both. apart (omega (arith, both.1))))
      where
        edge_in : (es : List Edge) → slice_get lists a.depend ≡ Some es → slice_get es a.edge ≡ Some x
        edge_in es listed = ap (λ (ys : List Edge). slice_get ys a.edge) (same_Some es there.edges (sym listed ∙ there.listed)) ∙ there.there

    -- and where they count once they are past
    pub pending_rises : (es : List Edge) → slice_get lists a.depend ≡ Some es → turned false ≡ false → turned true ≡ true
        → count_from (is_pending turned done slot next x.group a.depend) 0 es ≡ count_from (is_pending turned done slot (Some a) x.group a.depend) 0 es + 1
    pending_rises es listed waits counts =
        count_from-one (is_pending turned done slot next x.group a.depend) (is_pending turned done slot (Some a) x.group a.depend) 0 a.edge es x (edge_in es listed)
        (λ i is. at_edge next true (past_at lists slot a next last) i (is ∙ omega arith) ∙ counts) (λ i is. at_edge (Some a) false (not_past_at lists slot a next last) i (is ∙ omega arith) ∙ waits)
        (λ n i e is apart at. sym (alike_away x.group a.depend i e (record { edges = es; listed = listed; there = ap (slice_get es) (is ∙ omega arith) ∙ at }) (λ both. apart (omega (arith, both.1)))))
      where
        edge_in : (es : List Edge) → slice_get lists a.depend ≡ Some es → slice_get es a.edge ≡ Some x
        edge_in es listed = ap (λ (ys : List Edge). slice_get ys a.edge) (same_Some es there.edges (sym listed ∙ there.listed)) ∙ there.there
