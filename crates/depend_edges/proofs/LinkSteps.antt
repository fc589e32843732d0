-- One edge of the depends goes to the front of its slot's way, or is taken off it.
use Rattle.std.proofs.Common.{◌≡◌, ◌≢◌, ◌≤◌, ℕ, ◌+◌, true, List, map, Option, Some, None, refl, sym, ap, subst, ◌∙◌, ◌⊎◌, inl, inr, arith}
use Rattle.std.proofs.lemmas.Option.{same_Some}
use Rattle.farm_types.proofs.Changed.{places}
use Rattle.depend_edges.specs.Bare.{bare_of, changed_edge, with_next, with_prev}
use Rattle.depend_edges.specs.Linking.{IsLinked, first_without, linked_in, unlinked_in}
use Rattle.depend_edges.specs.Listed.{ListedLists}
use Rattle.depend_edges.specs.Ways.{IsEdge, KeepsWaysOf, edge_lists, is_ahead_of, is_outside, place_at}
use Rattle.depend_edges.specs.declared.links.Edge.{Edge}
use Rattle.depend_edges.specs.declared.links.EdgeAt.{EdgeAt}
use Rattle.depend_edges.proofs.Bared.{bare_edit}
use Rattle.depend_edges.proofs.Before.{Before, before_true, never_both, true_before}
use Rattle.depend_edges.proofs.Edited.{IsEdited, edit_away, edit_here, edit_keeps, edit_of, edited, edited_then}
use Rattle.depend_edges.proofs.Linked.{linked_step}
use Rattle.depend_edges.proofs.Unlinked.{unlinked_step}
use Rattle.depend_edges.proofs.Wanted.{outside_by, outside_true}

abbrev next_of : Edge → Option EdgeAt
next_of e = e.next

abbrev prev_of : Edge → Option EdgeAt
prev_of e = e.prev

abbrev slot_of : Edge → ℕ
slot_of e = e.slot

pub linked_bare : (at : EdgeAt) (o : Option EdgeAt) (ds : List ListedLists) → map bare_of (linked_in at o ds) ≡ map bare_of ds
linked_bare at o ds =
    let one = changed_edge o (with_prev (Some at)) ds in
    let two = changed_edge (Some at) (with_prev None) one in
    bare_edit (Some at) (with_next o) two (λ e. refl) ∙ (bare_edit (Some at) (with_prev None) one (λ e. refl) ∙ bare_edit o (with_prev (Some at)) ds (λ e. refl))

pub unlinked_bare : (e : Edge) (ds : List ListedLists) → map bare_of (unlinked_in e ds) ≡ map bare_of ds
unlinked_bare e ds =
    let one = changed_edge e.prev (with_next e.next) ds in
    bare_edit e.next (with_prev e.prev) one (λ x. refl) ∙ bare_edit e.prev (with_next e.next) ds (λ x. refl)

module _ (place edge : ℕ) (e : Edge) (first firsts : List (Option EdgeAt)) (olds news : List ListedLists) (there : IsEdge (edge_lists olds) place edge e) (links : IsLinked (place_at place edge) e.slot first firsts olds news)
    (ways : KeepsWaysOf (is_ahead_of place edge) first (edge_lists olds))
  where
    abbrev head_edit : ℕ → ℕ → Edge → Edge
    head_edit = edit_of links.next (with_prev (Some (place_at place edge)))

    abbrev own_prev : ℕ → ℕ → Edge → Edge
    own_prev = edit_of (Some (place_at place edge)) (with_prev None)

    abbrev own_next : ℕ → ℕ → Edge → Edge
    own_next = edit_of (Some (place_at place edge)) (with_next links.next)

    abbrev change : ℕ → ℕ → Edge → Edge
    change p i y = edit_of (Some (place_at place edge)) (with_next links.next) p i (edit_of (Some (place_at place edge)) (with_prev None) p i (edit_of links.next (with_prev (Some (place_at place edge))) p i y))

    abbrev one : List ListedLists
    one = changed_edge links.next (with_prev (Some (place_at place edge))) olds

    abbrev two : List ListedLists
    two = changed_edge (Some (place_at place edge)) (with_prev None) one

    all_edited : IsEdited change (edge_lists olds) (edge_lists (linked_in (place_at place edge) links.next olds))
    all_edited =
        edited_then (λ p i y. own_prev p i (head_edit p i y)) own_next (edge_lists olds) (edge_lists two) (edge_lists (linked_in (place_at place edge) links.next olds))
        (edited_then head_edit own_prev (edge_lists olds) (edge_lists one) (edge_lists two) (edited links.next (with_prev (Some (place_at place edge))) olds) (edited (Some (place_at place edge)) (with_prev None) one))
        (edited (Some (place_at place edge)) (with_next links.next) two)

    -- one on its way isn't that edge
    not_own : (p i : ℕ) → is_ahead_of place edge p i ≡ true → Some (place_at place edge) ≡ Some (place_at p i) → ⊥
    not_own p i ahead is =
        let same : place_at place edge ≡ place_at p i = same_Some (place_at place edge) (place_at p i) is in
        let low : Before p i place edge = true_before p i place edge ahead in
        let own : Before place edge place edge = subst (λ (a : EdgeAt). Before a.depend a.edge place edge) (sym same) low in
        never_both place edge place edge own own

    keeps_next : (p i : ℕ) (y : Edge) → (own_prev p i (head_edit p i y)).next ≡ y.next
    keeps_next p i y = edit_keeps next_of (Some (place_at place edge)) (with_prev None) p i (head_edit p i y) (λ x. refl) ∙ edit_keeps next_of links.next (with_prev (Some (place_at place edge))) p i y (λ x. refl)

    keeps_prev : (p i : ℕ) (y : Edge) → (change p i y).prev ≡ (own_prev p i (head_edit p i y)).prev
    keeps_prev p i y = edit_keeps prev_of (Some (place_at place edge)) (with_next links.next) p i (own_prev p i (head_edit p i y)) (λ x. refl)

    grow_by : (p i : ℕ) → Before p i place edge → Before p i place (edge + 1)
    grow_by p i (inl low) = inl low
    grow_by p i (inr same) = inr (same.0, omega (arith, same.1))

    split_by : (p i : ℕ) → Before p i place (edge + 1) → (is_ahead_of place edge p i ≡ true) ⊎ ((p ≡ place) × (i ≡ edge))
    split_by p i (inl low) = inl (before_true p i place edge (inl low))
    split_by p i (inr same) =
        elim (places i edge) as (λ c. (is_ahead_of place edge p i ≡ true) ⊎ ((p ≡ place) × (i ≡ edge))) [
          | inl here ↦ inr (same.0, here)
          | inr away ↦ inl (before_true p i place edge (inr (same.0, omega (arith, same.1, away))))
        ]

    pub linked_ways : KeepsWaysOf (is_ahead_of place (edge + 1)) firsts (edge_lists news)
    linked_ways =
        subst (λ (ds : List ListedLists). KeepsWaysOf (is_ahead_of place (edge + 1)) firsts (edge_lists ds)) (sym links.depends_are)
        (linked_step (is_ahead_of place edge) (is_ahead_of place (edge + 1)) first firsts (edge_lists olds) (edge_lists (linked_in (place_at place edge) links.next olds)) place edge e there links.next links.was_first
        links.first_is ways (λ p i is. true_before p i place edge is) (λ p i is. before_true p i place (edge + 1) (grow_by p i (true_before p i place edge is)))
        (before_true place edge place (edge + 1) (inr (refl, omega arith))) (λ p i is. split_by p i (true_before p i place (edge + 1) is)) change all_edited
        (λ p i y.
        edit_keeps slot_of (Some (place_at place edge)) (with_next links.next) p i (own_prev p i (head_edit p i y)) (λ x. refl)
        ∙ (edit_keeps slot_of (Some (place_at place edge)) (with_prev None) p i (head_edit p i y) (λ x. refl) ∙ edit_keeps slot_of links.next (with_prev (Some (place_at place edge))) p i y (λ x. refl)))
        (λ y. ap next_of (edit_here (Some (place_at place edge)) (with_next links.next) place edge (own_prev place edge (head_edit place edge y)) refl))
        (λ p i y is. ap next_of (edit_away (Some (place_at place edge)) (with_next links.next) p i (own_prev p i (head_edit p i y)) (not_own p i is)) ∙ keeps_next p i y)
        (λ y. keeps_prev place edge y ∙ ap prev_of (edit_here (Some (place_at place edge)) (with_prev None) place edge (head_edit place edge y) refl))
        (λ p i y is here.
        keeps_prev p i y
        ∙ (ap prev_of (edit_away (Some (place_at place edge)) (with_prev None) p i (head_edit p i y) (not_own p i is)) ∙ ap prev_of (edit_here links.next (with_prev (Some (place_at place edge))) p i y here)))
        (λ p i y is away.
        keeps_prev p i y
        ∙ (ap prev_of (edit_away (Some (place_at place edge)) (with_prev None) p i (head_edit p i y) (not_own p i is)) ∙ ap prev_of (edit_away links.next (with_prev (Some (place_at place edge))) p i y away))))

module _ (place edge : ℕ) (e : Edge) (first firsts : List (Option EdgeAt)) (olds news : List ListedLists) (there : IsEdge (edge_lists olds) place edge e) (first_is : firsts ≡ first_without e.slot e.prev e.next first)
    (depends_are : news ≡ unlinked_in e olds) (ways : KeepsWaysOf (is_outside place edge) first (edge_lists olds))
  where
    abbrev prev_edit : ℕ → ℕ → Edge → Edge
    prev_edit = edit_of e.prev (with_next e.next)

    abbrev next_edit : ℕ → ℕ → Edge → Edge
    next_edit = edit_of e.next (with_prev e.prev)

    abbrev changed : ℕ → ℕ → Edge → Edge
    changed p i y = edit_of e.next (with_prev e.prev) p i (edit_of e.prev (with_next e.next) p i y)

    keeps_then : (p i : ℕ) (y : Edge) → (changed p i y).next ≡ (prev_edit p i y).next
    keeps_then p i y = edit_keeps next_of e.next (with_prev e.prev) p i (prev_edit p i y) (λ x. refl)

    keeps_back : (p i : ℕ) (y : Edge) → (prev_edit p i y).prev ≡ y.prev
    keeps_back p i y = edit_keeps prev_of e.prev (with_next e.next) p i y (λ x. refl)

    own_out : (p i : ℕ) → is_outside place (edge + 1) p i ≡ true → (p ≡ place) × (i ≡ edge) → ⊥
    own_out p i is here = absurd (omega (arith, outside_by place (edge + 1) p i is here.0, here.1))

    out_stays : (p i : ℕ) → is_outside place edge p i ≡ true → ((p ≡ place) × (i ≡ edge) → ⊥) → is_outside place (edge + 1) p i ≡ true
    out_stays p i is away = outside_true place (edge + 1) p i (λ same. high same (places i edge) (outside_by place edge p i is same)) where
      high : p ≡ place → (i ≡ edge) ⊎ (i ≢ edge) → edge ≤ i → edge + 1 ≤ i
      high same (inl here) above = absurd (away (same, here))
      high same (inr other) above = omega (arith, other)

    pub unlinked_ways : KeepsWaysOf (is_outside place (edge + 1)) firsts (edge_lists news)
    unlinked_ways =
        subst (λ (ds : List ListedLists). KeepsWaysOf (is_outside place (edge + 1)) firsts (edge_lists ds)) (sym depends_are)
        (unlinked_step (is_outside place edge) (is_outside place (edge + 1)) first firsts (edge_lists olds) (edge_lists (unlinked_in e olds)) place edge e there (outside_true place edge place edge (λ same. omega arith)) first_is ways
        (λ p i is. outside_true place edge p i (λ same. omega (arith, outside_by place (edge + 1) p i is same))) own_out out_stays changed
        (edited_then prev_edit next_edit (edge_lists olds) (edge_lists (changed_edge e.prev (with_next e.next) olds)) (edge_lists (unlinked_in e olds)) (edited e.prev (with_next e.next) olds)
        (edited e.next (with_prev e.prev) (changed_edge e.prev (with_next e.next) olds)))
        (λ p i y. edit_keeps slot_of e.next (with_prev e.prev) p i (prev_edit p i y) (λ x. refl) ∙ edit_keeps slot_of e.prev (with_next e.next) p i y (λ x. refl))
        (λ p i y is. keeps_then p i y ∙ ap next_of (edit_here e.prev (with_next e.next) p i y is)) (λ p i y away. keeps_then p i y ∙ ap next_of (edit_away e.prev (with_next e.next) p i y away))
        (λ p i y is. ap prev_of (edit_here e.next (with_prev e.prev) p i (prev_edit p i y) is))
        (λ p i y away. ap prev_of (edit_away e.next (with_prev e.prev) p i (prev_edit p i y) away) ∙ keeps_back p i y))
