-- An edge is taken off its slot's way.
use Rattle.std.proofs.Common.{◌≡◌, ◌≢◌, ℕ, Bool, true, false, List, Option, Some, None, refl, sym, ap, subst, ◌∙◌, ◌⊎◌, inl, inr}
use Rattle.std.specs.List.{slice_get, slice_set}
use Rattle.std.proofs.lemmas.Bool.{false≢true}
use Rattle.std.proofs.lemmas.Option.{same_Some}
use Rattle.farm_types.proofs.Changed.{places, slice_get-set_other, slice_get-set_same}
use Rattle.farm_types.proofs.Lists.{and_both}
use Rattle.depend_edges.specs.Linking.{first_without}
use Rattle.depend_edges.specs.Ways.{IsEdge, IsEdgeOf, IsLast, IsNextOf, IsPrevOf, KeepsWaysOf, is_before, is_wanted_ahead, place_at}
use Rattle.depend_edges.specs.declared.links.Edge.{Edge}
use Rattle.depend_edges.specs.declared.links.EdgeAt.{EdgeAt}
use Rattle.depend_edges.proofs.Before.{before_then, before_true, never_itself, order, true_before}
use Rattle.depend_edges.proofs.Edited.{IsEdited, edge_same, is_it}
use Rattle.depend_edges.proofs.Linked.{both_true}
use Rattle.depend_edges.proofs.Moved.{last_then}

-- the edges of a kind, and those without the one at a place
module _ (wanted then : ℕ → ℕ → Bool) (first firsts : List (Option EdgeAt)) (olds news : List (List Edge)) (place edge : ℕ) (e : Edge) (there : IsEdge olds place edge e) (own : wanted place edge ≡ true)
    (first_is : firsts ≡ first_without e.slot e.prev e.next first) (ways : KeepsWaysOf wanted first olds)
    (was : (p i : ℕ) → then p i ≡ true → wanted p i ≡ true) (apart : (p i : ℕ) → then p i ≡ true → (p ≡ place) × (i ≡ edge) → ⊥)
    (stays : (p i : ℕ) → wanted p i ≡ true → ((p ≡ place) × (i ≡ edge) → ⊥) → then p i ≡ true)
    (change : ℕ → ℕ → Edge → Edge) (edited : IsEdited change olds news) (slots : (p i : ℕ) (y : Edge) → (change p i y).slot ≡ y.slot)
    (next_at : (p i : ℕ) (y : Edge) → e.prev ≡ Some (place_at p i) → (change p i y).next ≡ e.next) (next_off : (p i : ℕ) (y : Edge) → (e.prev ≡ Some (place_at p i) → ⊥) → (change p i y).next ≡ y.next)
    (prev_at : (p i : ℕ) (y : Edge) → e.next ≡ Some (place_at p i) → (change p i y).prev ≡ e.prev) (prev_off : (p i : ℕ) (y : Edge) → (e.next ≡ Some (place_at p i) → ⊥) → (change p i y).prev ≡ y.prev)
  where
    last_on : (slot : ℕ) (w v : ℕ → ℕ → Bool) (o : Option EdgeAt) → ((a : EdgeAt) → o ≡ Some a → IsEdgeOf olds slot a → w a.depend a.edge ≡ true → v a.depend a.edge ≡ true)
        → ((p i : ℕ) (y : Edge) → IsEdge olds p i y → y.slot ≡ slot → v p i ≡ true → w p i ≡ true) → IsLast olds slot w o → IsLast news slot v o
    last_on = last_then change olds news edited slots

    edge_here : (p i : ℕ) (y : Edge) → IsEdge olds p i y → (p ≡ place) × (i ≡ edge) → y ≡ e
    edge_here p i y is here = edge_same olds place edge y e (subst (λ (q : ℕ). IsEdge olds q edge y) here.0 (subst (λ (j : ℕ). IsEdge olds p j y) here.1 is)) there

    -- neither before nor behind itself
    not_before : (p i : ℕ) → is_before p i place edge ≡ true → (p ≡ place) × (i ≡ edge) → ⊥
    not_before p i before here = false≢true (sym (never_itself place edge) ∙ ((λ k. is_before (sym here.0 k) (sym here.1 k) place edge) ∙ before))

    not_behind : (p i : ℕ) → is_before place edge p i ≡ true → (p ≡ place) × (i ≡ edge) → ⊥
    not_behind p i before here = false≢true (sym (never_itself place edge) ∙ ((λ k. is_before place edge (sym here.0 k) (sym here.1 k)) ∙ before))

    -- what isn't behind that edge, and isn't that one, is before it
    before_by : (p i : ℕ) → is_before place edge p i ≡ false → ((p ≡ place) × (i ≡ edge) → ⊥) → is_before p i place edge ≡ true
    before_by p i not_later other =
        elim (order p i place edge) as (λ c. is_before p i place edge ≡ true) [
          | inl before ↦ before_true p i place edge before
          | inr (inl later) ↦ absurd (false≢true (sym not_later ∙ before_true place edge p i later))
          | inr (inr same) ↦ absurd (other same)
        ]

    -- ---- what the edge's own way says

    ahead : IsLast olds e.slot (is_wanted_ahead wanted place edge) e.next
    ahead = ways.next_kept place edge e there own

    behind : IsPrevOf first olds e.slot wanted place edge e.prev
    behind = ways.prev_kept place edge e there own

    behind_at : (o : Option EdgeAt) → e.prev ≡ o → IsPrevOf first olds e.slot wanted place edge o
    behind_at o is = subst (IsPrevOf first olds e.slot wanted place edge) is behind

    -- the edge from which the way comes stands behind it
    prev_behind : (q : EdgeAt) → IsNextOf olds e.slot wanted place edge q → is_before place edge q.depend q.edge ≡ true
    prev_behind q next =
        let on = ways.next_kept q.depend q.edge next.edge next.there next.wanted_is in
        (and_both (wanted place edge) (is_before place edge q.depend q.edge) (on.wanted_one (place_at place edge) next.next_is)).1

    -- one of the slot from which the way goes on to that edge is the one from which it comes
    one_prev : (p i : ℕ) (y : Edge) → IsEdge olds p i y → wanted p i ≡ true → y.slot ≡ e.slot → y.next ≡ Some (place_at place edge) → e.prev ≡ Some (place_at p i)
    one_prev p i y y_there on slot_is next_is = by_prev e.prev refl where
      its : IsLast olds y.slot (is_wanted_ahead wanted p i) y.next
      its = ways.next_kept p i y y_there on

      its_before : is_before place edge p i ≡ true
      its_before = (and_both (wanted place edge) (is_before place edge p i) (its.wanted_one (place_at place edge) next_is)).1

      its_last : (q j : ℕ) (z : Edge) → IsEdge olds q j z → z.slot ≡ e.slot → wanted q j ≡ true → is_before q j p i ≡ true → is_before place edge q j ≡ false
      its_last q j z z_there z_on wants before =
          (subst (λ (o : Option EdgeAt). IsLast olds y.slot (is_wanted_ahead wanted p i) o) next_is its).last q j z z_there (z_on ∙ sym slot_is) (both_true (wanted q j) (is_before q j p i) wants before)

      by_prev : (o : Option EdgeAt) → e.prev ≡ o → o ≡ Some (place_at p i)
      by_prev None is =
          let at_first = behind_at None is in
          let no_later = (ways.first_kept e.slot (Some (place_at place edge)) at_first).last p i y y_there slot_is on in
          absurd (false≢true (sym no_later ∙ its_before))
      by_prev (Some q) is =
          let next = behind_at (Some q) is in
          let its_own = ways.next_kept q.depend q.edge next.edge next.there next.wanted_is in
          let own_last = subst (λ (o : Option EdgeAt). IsLast olds next.edge.slot (is_wanted_ahead wanted q.depend q.edge) o) next.next_is its_own in
          elim (order q.depend q.edge p i) as (λ c. Some q ≡ Some (place_at p i)) [
            | inl before ↦
                absurd (false≢true (sym (its_last q.depend q.edge next.edge next.there next.slot_is next.wanted_is (before_true q.depend q.edge p i before)) ∙ prev_behind q next))
            | inr (inl later) ↦
                absurd (false≢true (sym (own_last.last p i y y_there (slot_is ∙ sym next.slot_is) (both_true (wanted p i) (is_before p i q.depend q.edge) on (before_true p i q.depend q.edge later))) ∙ its_before))
            | inr (inr same) ↦ λ k. Some (record { depend = same.0 k; edge = same.1 k })
          ]

    -- ---- the first ones

    first_by : (slot : ℕ) (o prev : Option EdgeAt) → e.prev ≡ prev → slice_get (first_without e.slot prev e.next first) slot ≡ Some o → IsLast news slot then o
    first_by slot o None is at = by_slot (places slot e.slot) where
      head : slice_get first e.slot ≡ Some (Some (place_at place edge))
      head = behind_at None is

      by_slot : (slot ≡ e.slot) ⊎ (slot ≢ e.slot) → IsLast news slot then o
      by_slot (inl same) =
          let next_is : e.next ≡ o = same_Some e.next o (sym (slice_get-set_same first e.slot (Some (place_at place edge)) e.next head) ∙ (ap (slice_get (slice_set first e.slot e.next)) (sym same) ∙ at)) in
          let now : IsLast news e.slot then e.next = last_on e.slot (is_wanted_ahead wanted place edge) then e.next
          (λ a a_is of ahead_is.
          let both = and_both (wanted a.depend a.edge) (is_before a.depend a.edge place edge) ahead_is in
          stays a.depend a.edge both.0 (not_before a.depend a.edge both.1))
          (λ p i y y_there on is_then.
          both_true (wanted p i) (is_before p i place edge) (was p i is_then) (before_by p i ((ways.first_kept e.slot (Some (place_at place edge)) head).last p i y y_there on (was p i is_then)) (apart p i is_then))) ahead in
          subst (λ (s : ℕ). IsLast news s then o) (sym same) (subst (IsLast news e.slot then) next_is now)
      by_slot (inr other) =
          last_on slot wanted then o
          (λ a a_is of on. stays a.depend a.edge on (λ here. other (sym of.slot_is ∙ ap (λ (x : Edge). x.slot) (edge_here a.depend a.edge of.edge of.there here))))
          (λ p i y y_there on is_then. was p i is_then) (ways.first_kept slot o (sym (slice_get-set_other first e.slot slot e.next other) ∙ at))
    first_by slot o (Some q) is at =
        last_on slot wanted then o (λ a a_is of on. stays a.depend a.edge on (λ here. not_own a a_is of here)) (λ p i y y_there on is_then. was p i is_then) last
      where
        last : IsLast olds slot wanted o
        last = ways.first_kept slot o at

        next : IsNextOf olds e.slot wanted place edge q
        next = behind_at (Some q) is

        not_own : (a : EdgeAt) → o ≡ Some a → IsEdgeOf olds slot a → (a.depend ≡ place) × (a.edge ≡ edge) → ⊥
        not_own a a_is of here =
            let slot_is : e.slot ≡ slot = ap (λ (x : Edge). x.slot) (sym (edge_here a.depend a.edge of.edge of.there here)) ∙ of.slot_is in
            let not_past = (subst (IsLast olds slot wanted) a_is last).last q.depend q.edge next.edge next.there (next.slot_is ∙ slot_is) next.wanted_is in
            false≢true (sym not_past ∙ ((λ k. is_before (here.0 k) (here.1 k) q.depend q.edge) ∙ prev_behind q next))

    first_then : (slot : ℕ) (o : Option EdgeAt) → slice_get firsts slot ≡ Some o → IsLast news slot then o
    first_then slot o at = first_by slot o e.prev refl (ap (λ (fs : List (Option EdgeAt)). slice_get fs slot) (sym first_is) ∙ at)

    -- ---- where the way goes on

    next_then : (p i : ℕ) (x : Edge) → IsEdge news p i x → then p i ≡ true → IsLast news x.slot (is_wanted_ahead then p i) x.next
    next_then p i x x_there is =
        let y = edited.back p i x x_there in
        subst (λ (z : Edge). IsLast news z.slot (is_wanted_ahead then p i) z.next) y.2 (by_prev y.0 y.1 (is_it e.prev p i))
      where
        on : wanted p i ≡ true
        on = was p i is

        by_prev : (y : Edge) → IsEdge olds p i y → (e.prev ≡ Some (place_at p i)) ⊎ (e.prev ≡ Some (place_at p i) → ⊥) → IsLast news (change p i y).slot (is_wanted_ahead then p i) (change p i y).next
        by_prev y y_there (inl at) =
            let next = behind_at (Some (place_at p i)) at in
            let same : next.edge ≡ y = edge_same olds p i next.edge y next.there y_there in
            let later = prev_behind (place_at p i) next in
            let its = subst (λ (o : Option EdgeAt). IsLast olds next.edge.slot (is_wanted_ahead wanted p i) o) next.next_is (ways.next_kept p i next.edge next.there on) in
            let now : IsLast news e.slot (is_wanted_ahead then p i) e.next = last_on e.slot (is_wanted_ahead wanted place edge) (is_wanted_ahead then p i) e.next
            (λ a a_is of ahead_is.
            let both = and_both (wanted a.depend a.edge) (is_before a.depend a.edge place edge) ahead_is in
            both_true (then a.depend a.edge) (is_before a.depend a.edge p i) (stays a.depend a.edge both.0 (not_before a.depend a.edge both.1))
            (before_true a.depend a.edge p i (before_then a.depend a.edge place edge p i (true_before a.depend a.edge place edge both.1) (true_before place edge p i later))))
            (λ q j z z_there z_on ahead_is.
            let both = and_both (then q j) (is_before q j p i) ahead_is in
            both_true (wanted q j) (is_before q j place edge) (was q j both.0)
            (before_by q j (its.last q j z z_there (z_on ∙ sym next.slot_is) (both_true (wanted q j) (is_before q j p i) (was q j both.0) both.1)) (apart q j both.0))) ahead in
            subst (λ (o : Option EdgeAt). IsLast news (change p i y).slot (is_wanted_ahead then p i) o) (sym (next_at p i y at))
            (subst (λ (s : ℕ). IsLast news s (is_wanted_ahead then p i) e.next) (sym (slots p i y ∙ (ap (λ (z : Edge). z.slot) (sym same) ∙ next.slot_is))) now)
        by_prev y y_there (inr off) =
            let its = ways.next_kept p i y y_there on in
            let now : IsLast news y.slot (is_wanted_ahead then p i) y.next = last_on y.slot (is_wanted_ahead wanted p i) (is_wanted_ahead then p i) y.next
            (λ a a_is of ahead_is.
            let both = and_both (wanted a.depend a.edge) (is_before a.depend a.edge p i) ahead_is in
            both_true (then a.depend a.edge) (is_before a.depend a.edge p i) (stays a.depend a.edge both.0 (not_own y y_there off a a_is of)) both.1)
            (λ q j z z_there z_on ahead_is.
            let both = and_both (then q j) (is_before q j p i) ahead_is in
            both_true (wanted q j) (is_before q j p i) (was q j both.0) both.1) its in
            subst (λ (o : Option EdgeAt). IsLast news (change p i y).slot (is_wanted_ahead then p i) o) (sym (next_off p i y off))
            (subst (λ (s : ℕ). IsLast news s (is_wanted_ahead then p i) y.next) (sym (slots p i y)) now)
          where
            not_own : (y : Edge) → IsEdge olds p i y → (e.prev ≡ Some (place_at p i) → ⊥) → (a : EdgeAt) → y.next ≡ Some a → IsEdgeOf olds y.slot a → (a.depend ≡ place) × (a.edge ≡ edge) → ⊥
            not_own y y_there off a a_is of here =
                let slot_is : y.slot ≡ e.slot = sym of.slot_is ∙ ap (λ (x : Edge). x.slot) (edge_here a.depend a.edge of.edge of.there here) in
                let next_is : y.next ≡ Some (place_at place edge) = a_is ∙ λ k. Some (record { depend = here.0 k; edge = here.1 k }) in
                off (one_prev p i y y_there on slot_is next_is)

    -- ---- where the way comes from

    firsts_kept : (slot p i : ℕ) → ((p ≡ place) × (i ≡ edge) → ⊥) → (prev : Option EdgeAt) → e.prev ≡ prev → slice_get first slot ≡ Some (Some (place_at p i)) → slice_get (first_without e.slot prev e.next first) slot ≡ Some (Some (place_at p i))
    firsts_kept slot p i other (Some q) is at = at
    firsts_kept slot p i other None is at =
        elim (places slot e.slot) as (λ c. slice_get (slice_set first e.slot e.next) slot ≡ Some (Some (place_at p i))) [
          | inl same ↦
              let one : Some (place_at place edge) ≡ Some (place_at p i) = same_Some (Some (place_at place edge)) (Some (place_at p i)) (sym (behind_at None is) ∙ (ap (slice_get first) (sym same) ∙ at)) in
              let at_same : place_at place edge ≡ place_at p i = same_Some (place_at place edge) (place_at p i) one in
              absurd (other (ap (λ (a : EdgeAt). a.depend) (sym at_same), ap (λ (a : EdgeAt). a.edge) (sym at_same)))
          | inr apart_slot ↦ slice_get-set_other first e.slot slot e.next apart_slot ∙ at
        ]

    prev_then : (p i : ℕ) (x : Edge) → IsEdge news p i x → then p i ≡ true → IsPrevOf firsts news x.slot then p i x.prev
    prev_then p i x x_there is =
        let y = edited.back p i x x_there in
        subst (λ (z : Edge). IsPrevOf firsts news z.slot then p i z.prev) y.2 (by_next y.0 y.1 (is_it e.next p i))
      where
        on : wanted p i ≡ true
        on = was p i is

        -- the edge that is next after the one that goes comes from where that one came
        from_own : (slot : ℕ) → e.slot ≡ slot → e.next ≡ Some (place_at p i) → (prev : Option EdgeAt) → e.prev ≡ prev → IsPrevOf firsts news slot then p i prev
        from_own slot on_slot next_is None prev_is =
            ap (slice_get firsts) (sym on_slot)
            ∙ (ap (λ (fs : List (Option EdgeAt)). slice_get fs e.slot) (first_is ∙ ap (λ (o : Option EdgeAt). first_without e.slot o e.next first) prev_is)
            ∙ (slice_get-set_same first e.slot (Some (place_at place edge)) e.next (behind_at None prev_is) ∙ ap (λ (o : Option EdgeAt). Some o) next_is))
        from_own slot on_slot next_is (Some q) prev_is =
            let next = behind_at (Some q) prev_is in
            record {
              edge = change q.depend q.edge next.edge;
              there = edited.forth q.depend q.edge next.edge next.there;
              slot_is = slots q.depend q.edge next.edge ∙ (next.slot_is ∙ on_slot);
              wanted_is = stays q.depend q.edge next.wanted_is (not_behind q.depend q.edge (prev_behind q next));
              next_is = next_at q.depend q.edge next.edge prev_is ∙ next_is;
            }

        -- each other one comes from where it came
        from_same : (y : Edge) (slot : ℕ) → y.slot ≡ slot → (e.next ≡ Some (place_at p i) → ⊥) → (prev : Option EdgeAt) → IsPrevOf first olds y.slot wanted p i prev → IsPrevOf firsts news slot then p i prev
        from_same y slot on_slot off None at =
            ap (slice_get firsts) (sym on_slot) ∙ (ap (λ (fs : List (Option EdgeAt)). slice_get fs y.slot) first_is ∙ firsts_kept y.slot p i (apart p i is) e.prev refl at)
        from_same y slot on_slot off (Some q) at =
            record {
              edge = change q.depend q.edge at.edge;
              there = edited.forth q.depend q.edge at.edge at.there;
              slot_is = slots q.depend q.edge at.edge ∙ (at.slot_is ∙ on_slot);
              wanted_is = stays q.depend q.edge at.wanted_is (λ here. off (ap (λ (x : Edge). x.next) (sym (edge_here q.depend q.edge at.edge at.there here)) ∙ at.next_is));
              next_is = next_off q.depend q.edge at.edge (λ prev_is. not_from q at prev_is) ∙ at.next_is;
            }
          where
            not_from : (q : EdgeAt) (at : IsNextOf olds y.slot wanted p i q) → e.prev ≡ Some q → ⊥
            not_from q at prev_is =
                let next = behind_at (Some q) prev_is in
                let same : next.edge ≡ at.edge = edge_same olds q.depend q.edge next.edge at.edge next.there at.there in
                let one : place_at place edge ≡ place_at p i = same_Some (place_at place edge) (place_at p i) (sym next.next_is ∙ (ap (λ (x : Edge). x.next) same ∙ at.next_is)) in
                apart p i is (ap (λ (a : EdgeAt). a.depend) (sym one), ap (λ (a : EdgeAt). a.edge) (sym one))

        by_next : (y : Edge) → IsEdge olds p i y → (e.next ≡ Some (place_at p i)) ⊎ (e.next ≡ Some (place_at p i) → ⊥) → IsPrevOf firsts news (change p i y).slot then p i (change p i y).prev
        by_next y y_there (inl at) =
            let of = ahead.one (place_at p i) at in
            let slot_is : e.slot ≡ y.slot = sym of.slot_is ∙ ap (λ (x : Edge). x.slot) (edge_same olds p i of.edge y of.there y_there) in
            subst (IsPrevOf firsts news (change p i y).slot then p i) (sym (prev_at p i y at)) (from_own (change p i y).slot (slot_is ∙ sym (slots p i y)) at e.prev refl)
        by_next y y_there (inr off) =
            subst (IsPrevOf firsts news (change p i y).slot then p i) (sym (prev_off p i y off)) (from_same y (change p i y).slot (sym (slots p i y)) off y.prev (ways.prev_kept p i y y_there on))

    pub unlinked_step : KeepsWaysOf then firsts news
    unlinked_step = record { first_kept = first_then; next_kept = next_then; prev_kept = prev_then }
