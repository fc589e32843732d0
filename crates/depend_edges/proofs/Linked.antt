-- An edge goes to the front of its slot's way.
use Rattle.std.proofs.Common.{◌≡◌, ◌≢◌, ℕ, Bool, true, false, List, Option, Some, None, sym, ap, subst, ◌∙◌, ◌⊎◌, inl, inr}
use Rattle.std.specs.Prelude.{◌&&◌}
use Rattle.std.specs.List.{slice_get, slice_set}
use Rattle.std.proofs.lemmas.Option.{same_Some}
use Rattle.farm_types.proofs.Changed.{places, slice_get-set_other, slice_get-set_same}
use Rattle.farm_types.proofs.Lists.{and_both}
use Rattle.depend_edges.specs.Ways.{IsEdge, IsEdgeOf, IsLast, IsNextOf, IsPrevOf, KeepsWaysOf, is_before, is_wanted_ahead, place_at}
use Rattle.depend_edges.specs.declared.links.Edge.{Edge}
use Rattle.depend_edges.specs.declared.links.EdgeAt.{EdgeAt}
use Rattle.depend_edges.proofs.Before.{Before, before_false, before_true, never_both, never_itself, true_before}
use Rattle.depend_edges.proofs.Edited.{IsEdited, edge_same, is_it}
use Rattle.depend_edges.proofs.Moved.{last_then}

pub both_true : (a b : Bool) → a ≡ true → b ≡ true → (a && b) ≡ true
both_true a b is one = λ i. is i && one i

-- the edges of a kind, and the edge at a place behind all of them, whose slot's first one is known
module _ (wanted then : ℕ → ℕ → Bool) (first firsts : List (Option EdgeAt)) (olds news : List (List Edge)) (place edge : ℕ) (e : Edge) (there : IsEdge olds place edge e) (head : Option EdgeAt)
    (was_first : slice_get first e.slot ≡ Some head) (first_is : firsts ≡ slice_set first e.slot (Some (place_at place edge))) (ways : KeepsWaysOf wanted first olds)
    (low : (p i : ℕ) → wanted p i ≡ true → Before p i place edge) (grow : (p i : ℕ) → wanted p i ≡ true → then p i ≡ true) (own : then place edge ≡ true)
    (split : (p i : ℕ) → then p i ≡ true → (wanted p i ≡ true) ⊎ ((p ≡ place) × (i ≡ edge)))
    (change : ℕ → ℕ → Edge → Edge) (edited : IsEdited change olds news) (slots : (p i : ℕ) (y : Edge) → (change p i y).slot ≡ y.slot)
    (next_here : (y : Edge) → (change place edge y).next ≡ head) (next_off : (p i : ℕ) (y : Edge) → wanted p i ≡ true → (change p i y).next ≡ y.next) (prev_here : (y : Edge) → (change place edge y).prev ≡ None)
    (prev_at : (p i : ℕ) (y : Edge) → wanted p i ≡ true → head ≡ Some (place_at p i) → (change p i y).prev ≡ Some (place_at place edge))
    (prev_off : (p i : ℕ) (y : Edge) → wanted p i ≡ true → (head ≡ Some (place_at p i) → ⊥) → (change p i y).prev ≡ y.prev)
  where
    last_on : (slot : ℕ) (w v : ℕ → ℕ → Bool) (o : Option EdgeAt) → ((a : EdgeAt) → o ≡ Some a → IsEdgeOf olds slot a → w a.depend a.edge ≡ true → v a.depend a.edge ≡ true)
        → ((p i : ℕ) (y : Edge) → IsEdge olds p i y → y.slot ≡ slot → v p i ≡ true → w p i ≡ true) → IsLast olds slot w o → IsLast news slot v o
    last_on = last_then change olds news edited slots

    -- the edge at the place is that one
    edge_here : (p i : ℕ) (y : Edge) → IsEdge olds p i y → (p ≡ place) × (i ≡ edge) → y ≡ e
    edge_here p i y is here = edge_same olds place edge y e (subst (λ (q : ℕ). IsEdge olds q edge y) here.0 (subst (λ (j : ℕ). IsEdge olds p j y) here.1 is)) there

    own_edge : IsEdge news place edge (change place edge e)
    own_edge = edited.forth place edge e there

    own_first : IsLast news e.slot then (Some (place_at place edge))
    own_first =
        record {
          one = λ a is.
              subst (IsEdgeOf news e.slot) (same_Some (place_at place edge) a is) (record { edge = change place edge e; there = own_edge; slot_is = slots place edge e });
          wanted_one = λ a is. subst (λ (b : EdgeAt). then b.depend b.edge ≡ true) (same_Some (place_at place edge) a is) own;
          last = λ p i x at on is. by_split p i (split p i is);
        }
      where
        by_split : (p i : ℕ) → (wanted p i ≡ true) ⊎ ((p ≡ place) × (i ≡ edge)) → is_before place edge p i ≡ false
        by_split p i (inl is) = before_false place edge p i (λ later. never_both place edge p i later (low p i is))
        by_split p i (inr here) = (λ k. is_before place edge (here.0 k) (here.1 k)) ∙ never_itself place edge

    firsts_here : slice_get firsts e.slot ≡ Some (Some (place_at place edge))
    firsts_here = ap (λ (fs : List (Option EdgeAt)). slice_get fs e.slot) first_is ∙ slice_get-set_same first e.slot head (Some (place_at place edge)) was_first

    firsts_other : (slot : ℕ) → slot ≢ e.slot → slice_get firsts slot ≡ slice_get first slot
    firsts_other slot other = ap (λ (fs : List (Option EdgeAt)). slice_get fs slot) first_is ∙ slice_get-set_other first e.slot slot (Some (place_at place edge)) other

    first_then : (slot : ℕ) (o : Option EdgeAt) → slice_get firsts slot ≡ Some o → IsLast news slot then o
    first_then slot o at = by_slot (places slot e.slot) where
      by_slot : (slot ≡ e.slot) ⊎ (slot ≢ e.slot) → IsLast news slot then o
      by_slot (inl same) =
          let is : Some (place_at place edge) ≡ o = same_Some (Some (place_at place edge)) o (sym firsts_here ∙ (ap (slice_get firsts) (sym same) ∙ at)) in
          subst (λ (s : ℕ). IsLast news s then o) (sym same) (subst (IsLast news e.slot then) is own_first)
      by_slot (inr other) =
          last_on slot wanted then o (λ a is of on. grow a.depend a.edge on) (λ p i y y_there on is. not_here p i y y_there on (split p i is)) (ways.first_kept slot o (sym (firsts_other slot other) ∙ at))
        where
          not_here : (p i : ℕ) (y : Edge) → IsEdge olds p i y → y.slot ≡ slot → (wanted p i ≡ true) ⊎ ((p ≡ place) × (i ≡ edge)) → wanted p i ≡ true
          not_here p i y y_there on (inl is) = is
          not_here p i y y_there on (inr here) = absurd (other (sym on ∙ ap (λ (x : Edge). x.slot) (edge_here p i y y_there here)))

    -- what is ahead of an edge that was on its way is wanted
    ahead_was : (p i : ℕ) → wanted p i ≡ true → (q j : ℕ) → is_wanted_ahead then p i q j ≡ true → is_wanted_ahead wanted p i q j ≡ true
    ahead_was p i on q j is =
        let both = and_both (then q j) (is_before q j p i) is in
        by_split both.1 (split q j both.0)
      where
        by_split : is_before q j p i ≡ true → (wanted q j ≡ true) ⊎ ((q ≡ place) × (j ≡ edge)) → is_wanted_ahead wanted p i q j ≡ true
        by_split before (inl was) = both_true (wanted q j) (is_before q j p i) was before
        by_split before (inr here) =
            absurd (never_both p i place edge (low p i on) (true_before place edge p i ((λ k. is_before (sym here.0 k) (sym here.1 k) p i) ∙ before)))

    next_then : (p i : ℕ) (x : Edge) → IsEdge news p i x → then p i ≡ true → IsLast news x.slot (is_wanted_ahead then p i) x.next
    next_then p i x x_there is =
        let y = edited.back p i x x_there in
        subst (λ (z : Edge). IsLast news z.slot (is_wanted_ahead then p i) z.next) y.2 (by_split y.0 y.1 (split p i is))
      where
        by_split : (y : Edge) → IsEdge olds p i y → (wanted p i ≡ true) ⊎ ((p ≡ place) × (i ≡ edge)) → IsLast news (change p i y).slot (is_wanted_ahead then p i) (change p i y).next
        by_split y y_there (inl on) =
            let was = ways.next_kept p i y y_there on in
            let now : IsLast news y.slot (is_wanted_ahead then p i) y.next = last_on y.slot (is_wanted_ahead wanted p i) (is_wanted_ahead then p i) y.next
            (λ a at of ahead.
            let both = and_both (wanted a.depend a.edge) (is_before a.depend a.edge p i) ahead in
            both_true (then a.depend a.edge) (is_before a.depend a.edge p i) (grow a.depend a.edge both.0) both.1)
            (λ q j z z_there z_on ahead. ahead_was p i on q j ahead) was in
            subst (λ (o : Option EdgeAt). IsLast news (change p i y).slot (is_wanted_ahead then p i) o) (sym (next_off p i y on))
            (subst (λ (s : ℕ). IsLast news s (is_wanted_ahead then p i) y.next) (sym (slots p i y)) now)
        by_split y y_there (inr here) =
            let same = edge_here p i y y_there here in
            let now : IsLast news e.slot (is_wanted_ahead then place edge) head = last_on e.slot wanted (is_wanted_ahead then place edge) head
            (λ a at of on. both_true (then a.depend a.edge) (is_before a.depend a.edge place edge) (grow a.depend a.edge on) (before_true a.depend a.edge place edge (low a.depend a.edge on)))
            (λ q j z z_there z_on ahead. below q j ahead) (ways.first_kept e.slot head was_first) in
            let there_now : IsLast news (change place edge y).slot (is_wanted_ahead then place edge) (change place edge y).next =
            subst (λ (o : Option EdgeAt). IsLast news (change place edge y).slot (is_wanted_ahead then place edge) o) (sym (next_here y))
            (subst (λ (s : ℕ). IsLast news s (is_wanted_ahead then place edge) head) (sym (slots place edge y ∙ ap (λ (z : Edge). z.slot) same)) now) in
            subst (λ (q : ℕ). IsLast news (change q i y).slot (is_wanted_ahead then q i) (change q i y).next) (sym here.0)
            (subst (λ (j : ℕ). IsLast news (change place j y).slot (is_wanted_ahead then place j) (change place j y).next) (sym here.1) there_now)
          where
            own_before : (q j : ℕ) → (q ≡ place) × (j ≡ edge) → is_before q j place edge ≡ true → Before place edge place edge
            own_before q j at before = true_before place edge place edge ((λ k. is_before (sym at.0 k) (sym at.1 k) place edge) ∙ before)

            below : (q j : ℕ) → is_wanted_ahead then place edge q j ≡ true → wanted q j ≡ true
            below q j ahead =
                let both = and_both (then q j) (is_before q j place edge) ahead in
                elim (split q j both.0) as (λ c. wanted q j ≡ true) [
                  | inl on ↦ on
                  | inr at ↦ absurd (never_both place edge place edge (own_before q j at both.1) (own_before q j at both.1))
                ]

    prev_then : (p i : ℕ) (x : Edge) → IsEdge news p i x → then p i ≡ true → IsPrevOf firsts news x.slot then p i x.prev
    prev_then p i x x_there is =
        let y = edited.back p i x x_there in
        subst (λ (z : Edge). IsPrevOf firsts news z.slot then p i z.prev) y.2 (by_split y.0 y.1 (split p i is))
      where
        by_prev : (y : Edge) (slot : ℕ) → y.slot ≡ slot → wanted p i ≡ true → (head ≡ Some (place_at p i) → ⊥) → (o : Option EdgeAt) → IsPrevOf first olds y.slot wanted p i o → IsPrevOf firsts news slot then p i o
        by_prev y slot on wants off None was =
            elim (places y.slot e.slot) as (λ c. slice_get firsts slot ≡ Some (Some (place_at p i))) [
              | inl same ↦ absurd (off (same_Some head (Some (place_at p i)) (sym was_first ∙ (ap (slice_get first) (sym same) ∙ was))))
              | inr other ↦ ap (slice_get firsts) (sym on) ∙ (firsts_other y.slot other ∙ was)
            ]
        by_prev y slot on wants off (Some q) was =
            record {
              edge = change q.depend q.edge was.edge;
              there = edited.forth q.depend q.edge was.edge was.there;
              slot_is = slots q.depend q.edge was.edge ∙ (was.slot_is ∙ on);
              wanted_is = grow q.depend q.edge was.wanted_is;
              next_is = next_off q.depend q.edge was.edge was.wanted_is ∙ was.next_is;
            }

        by_head : (y : Edge) → IsEdge olds p i y → wanted p i ≡ true → (head ≡ Some (place_at p i)) ⊎ (head ≡ Some (place_at p i) → ⊥) → IsPrevOf firsts news (change p i y).slot then p i (change p i y).prev
        by_head y y_there on (inl at) =
            let of = (ways.first_kept e.slot head was_first).one (place_at p i) at in
            let slot_is : y.slot ≡ e.slot = ap (λ (z : Edge). z.slot) (edge_same olds p i y of.edge y_there of.there) ∙ of.slot_is in
            let now : IsNextOf news (change p i y).slot then p i (place_at place edge) =
            record {
              edge = change place edge e;
              there = own_edge;
              slot_is = slots place edge e ∙ (sym slot_is ∙ sym (slots p i y));
              wanted_is = own;
              next_is = next_here e ∙ at;
            } in
            subst (IsPrevOf firsts news (change p i y).slot then p i) (sym (prev_at p i y on at)) now
        by_head y y_there on (inr off) =
            subst (IsPrevOf firsts news (change p i y).slot then p i) (sym (prev_off p i y on off)) (by_prev y (change p i y).slot (sym (slots p i y)) on off y.prev (ways.prev_kept p i y y_there on))

        by_split : (y : Edge) → IsEdge olds p i y → (wanted p i ≡ true) ⊎ ((p ≡ place) × (i ≡ edge)) → IsPrevOf firsts news (change p i y).slot then p i (change p i y).prev
        by_split y y_there (inl on) = by_head y y_there on (is_it head p i)
        by_split y y_there (inr here) =
            let same = edge_here p i y y_there here in
            let now : slice_get firsts (change place edge y).slot ≡ Some (Some (place_at place edge)) = ap (slice_get firsts) (slots place edge y ∙ ap (λ (z : Edge). z.slot) same) ∙ firsts_here in
            let there_now : IsPrevOf firsts news (change place edge y).slot then place edge (change place edge y).prev = subst (IsPrevOf firsts news (change place edge y).slot then place edge) (sym (prev_here y)) now in
            subst (λ (q : ℕ). IsPrevOf firsts news (change q i y).slot then q i (change q i y).prev) (sym here.0)
            (subst (λ (j : ℕ). IsPrevOf firsts news (change place j y).slot then place j (change place j y).prev) (sym here.1) there_now)

    pub linked_step : KeepsWaysOf then firsts news
    linked_step = record { first_kept = first_then; next_kept = next_then; prev_kept = prev_then }
