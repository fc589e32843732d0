-- Those who wait in a group are freed: each waits in one unmet group fewer, and is listed where that was the last.
use Rattle.std.proofs.Common.{◌≡◌, ◌≢◌, ◌≤◌, ℕ, ◌+◌, ◌-◌, Bool, true, false, cond, eqb, List, [], ◌∷◌, ◌++◌, length, Option, Some, None, refl, sym, ap, subst, ◌∙◌, inl, inr, arith, length-append}
use Rattle.std.specs.Prelude.{nat_eq, ◌&&◌, ◌||◌}
use Rattle.std.specs.List.{slice_get, count_by, list_any, AllByRecursion, IsDistinct}
use Rattle.std.proofs.lemmas.Bool.{eq-eqb, ne_eqb, false≢true}
use Rattle.farm_types.specs.Farm.{changed_at, changed_by}
use Rattle.farm_types.specs.Sums.{total_at, total_in}
use Rattle.farm_types.proofs.Changed.{length-changed_at, places}
use Rattle.depend_edges.proofs.Counts.{count_by-changed, count_by-push, one_if, total_at-changed_other, total_at-changed_same}
use Rattle.depend_graph.specs.Flow.{Waiting, all_freed, freed, is_positive}

abbrev pub is_among : ℕ → List ℕ → Bool
is_among s ws = list_any (λ w. eqb w s) ws

abbrev pub is_slot : ℕ → ℕ → Bool
is_slot s n = eqb n s

abbrev less : ℕ → ℕ
less n = n - 1

-- ---- slots that differ

pub not_later : (x s : ℕ) (xs : List ℕ) → AllByRecursion (λ y. nat_eq x y ≡ false) xs → x ≡ s → is_among s xs ≡ false
not_later x s [] apart same = refl
not_later x s (y ∷ ys) apart same =
    let here : eqb y s ≡ false = ne_eqb y s (λ e. false≢true (sym apart.0 ∙ eq-eqb x y (same ∙ sym e))) in
    rw here (not_later x s ys apart.1 same)

pub among_tail : (x s : ℕ) (xs : List ℕ) → x ≢ s → is_among s (x ∷ xs) ≡ is_among s xs
among_tail x s xs apart = rw (ne_eqb x s apart) refl

pub among_head : (x s : ℕ) (xs : List ℕ) → x ≡ s → is_among s (x ∷ xs) ≡ true
among_head x s xs same = rw (eq-eqb x s same) refl

pub among_later : (x t : ℕ) (xs : List ℕ) → is_among t xs ≡ true → is_among t (x ∷ xs) ≡ true
among_later x t xs among = by_head (eqb x t) among where
  by_head : (b : Bool) → is_among t xs ≡ true → (b || is_among t xs) ≡ true
  by_head true h = refl
  by_head false h = h

-- one of the later ones isn't the first
later_apart : (x t : ℕ) (xs : List ℕ) → AllByRecursion (λ y. nat_eq x y ≡ false) xs → is_among t xs ≡ true → t ≢ x
later_apart x t xs apart among = λ same. false≢true (sym (not_later x t xs apart (sym same)) ∙ among)

abbrev AllWait : Waiting → List ℕ → Type 0
AllWait w ws = (t : ℕ) → is_among t ws ≡ true → 1 ≤ total_at w.unmet t

still_wait : (w : Waiting) (x : ℕ) (xs : List ℕ) → AllByRecursion (λ y. nat_eq x y ≡ false) xs → AllWait w (x ∷ xs) → AllWait (freed w x) xs
still_wait w x xs apart wait = λ t among.
    subst (λ (n : ℕ). 1 ≤ n) (sym (total_at-changed_other w.unmet x t less (later_apart x t xs apart among))) (wait t (among_later x t xs among))

-- ---- how many unmet groups each waits in

pub freed_unmet : (w : Waiting) (ws : List ℕ) (s : ℕ) → IsDistinct nat_eq ws → AllWait w ws → total_at (all_freed w ws).unmet s + one_if (is_among s ws) ≡ total_at w.unmet s
unfolding IsDistinct
freed_unmet w [] s apart wait = omega arith
freed_unmet w (x ∷ xs) s apart wait =
    let more = freed_unmet (freed w x) xs s apart.1 (still_wait w x xs apart.0 wait) in
    elim (places x s) as (λ c. total_at (all_freed w (x ∷ xs)).unmet s + one_if (is_among s (x ∷ xs)) ≡ total_at w.unmet s) [
      | inl same ↦
          let here : total_at (freed w x).unmet s ≡ total_at w.unmet s - 1 = subst (λ (t : ℕ). total_at (freed w x).unmet t ≡ total_at w.unmet t - 1) same (total_at-changed_same w.unmet x less refl) in
          let one : 1 ≤ total_at w.unmet s = wait s (among_head x s xs same) in
          omega (arith, ap one_if (not_later x s xs apart.0 same), ap one_if (among_head x s xs same))
      | inr other ↦
          let here : total_at (freed w x).unmet s ≡ total_at w.unmet s = total_at-changed_other w.unmet x s less (λ e. other (sym e)) in
          omega (arith, ap one_if (among_tail x s xs other))
    ]

-- ---- which slots are listed

listed_by : (b : Bool) (slots : List ℕ) (x s : ℕ) → count_by (is_slot s) (cond b (slots ++ x ∷ []) slots) ≡ count_by (is_slot s) slots + cond b (one_if (eqb x s)) 0
listed_by true slots x s = count_by-push (is_slot s) slots x
listed_by false slots x s = omega arith

pub freed_slots : (w : Waiting) (ws : List ℕ) (s : ℕ) → IsDistinct nat_eq ws
    → count_by (is_slot s) (all_freed w ws).slots ≡ count_by (is_slot s) w.slots + one_if (is_among s ws && eqb (total_at w.unmet s) 1)
unfolding IsDistinct
freed_slots w [] s apart = omega arith
freed_slots w (x ∷ xs) s apart =
    let more = freed_slots (freed w x) xs s apart.1 in
    let here = listed_by (eqb (total_at w.unmet x) 1) w.slots x s in
    elim (places x s) as (λ c. count_by (is_slot s) (all_freed w (x ∷ xs)).slots ≡ count_by (is_slot s) w.slots + one_if (is_among s (x ∷ xs) && eqb (total_at w.unmet s) 1)) [
      | inl same ↦
          more
          ∙ (ap (λ b. count_by (is_slot s) (freed w x).slots + one_if (b && eqb (total_at (freed w x).unmet s) 1)) (not_later x s xs apart.0 same)
          ∙ (omega arith
          ∙ (here
          ∙ (ap (λ b. count_by (is_slot s) w.slots + cond (eqb (total_at w.unmet x) 1) (one_if b) 0) (eq-eqb x s same)
          ∙ (ap (λ t. count_by (is_slot s) w.slots + one_if (eqb (total_at w.unmet t) 1)) same
          ∙ ap (λ b. count_by (is_slot s) w.slots + one_if (b && eqb (total_at w.unmet s) 1)) (sym (among_head x s xs same)))))))
      | inr other ↦
          let off : count_by (is_slot s) (freed w x).slots ≡ count_by (is_slot s) w.slots = here ∙ off_by (eqb (total_at w.unmet x) 1) (count_by (is_slot s) w.slots) (eqb x s) (ne_eqb x s other) in
          more
          ∙ (ap (λ n. n + one_if (is_among s xs && eqb (total_at (freed w x).unmet s) 1)) off
          ∙ (ap (λ n. count_by (is_slot s) w.slots + one_if (is_among s xs && eqb n 1)) (total_at-changed_other w.unmet x s less (λ e. other (sym e)))
          ∙ ap (λ b. count_by (is_slot s) w.slots + one_if (b && eqb (total_at w.unmet s) 1)) (sym (among_tail x s xs other))))
    ]
  where
    off_by : (b : Bool) (n : ℕ) (c : Bool) → c ≡ false → n + cond b (one_if c) 0 ≡ n
    off_by true n c no_one = omega (arith, ap one_if no_one)
    off_by false n c no_one = omega arith

-- ---- room: as many are listed as don't wait any more

listed_length : (b : Bool) (slots : List ℕ) (x : ℕ) → length (cond b (slots ++ x ∷ []) slots) ≡ length slots + one_if b
listed_length true slots x = omega (arith, length-append slots (x ∷ []))
listed_length false slots x = omega arith

last_one : (n : ℕ) → one_if (eqb n 1) + one_if (is_positive (less n)) ≡ one_if (is_positive n)
last_one n = grind arith

room_by : (w : Waiting) (x : ℕ) (o : Option ℕ) → slice_get w.unmet x ≡ o
    → length (cond (eqb (total_in o) 1) (w.slots ++ x ∷ []) w.slots) + count_by is_positive (changed_by w.unmet x less o) ≡ length w.slots + count_by is_positive w.unmet
room_by w x None at = refl
room_by w x (Some n) at =
    let lowered : changed_at w.unmet x less ≡ changed_by w.unmet x less (Some n) = ap (changed_by w.unmet x less) at in
    let counted = count_by-changed is_positive w.unmet x less n at in
    let count : count_by is_positive (changed_by w.unmet x less (Some n)) + one_if (is_positive n) ≡ count_by is_positive w.unmet + one_if (is_positive (less n)) = subst (λ (ns : List ℕ). count_by is_positive ns + one_if (is_positive n) ≡ count_by is_positive w.unmet + one_if (is_positive (less n))) lowered counted in
    omega (arith, listed_length (eqb n 1) w.slots x, last_one n)

one_room : (w : Waiting) (x : ℕ) → length (freed w x).slots + count_by is_positive (freed w x).unmet ≡ length w.slots + count_by is_positive w.unmet
one_room w x = room_by w x (slice_get w.unmet x) refl

pub freed_room : (w : Waiting) (ws : List ℕ) → length (all_freed w ws).slots + count_by is_positive (all_freed w ws).unmet ≡ length w.slots + count_by is_positive w.unmet
freed_room w [] = refl
freed_room w (x ∷ xs) = freed_room (freed w x) xs ∙ one_room w x

pub freed_count : (w : Waiting) (ws : List ℕ) → length (all_freed w ws).unmet ≡ length w.unmet
freed_count w [] = refl
freed_count w (x ∷ xs) = freed_count (freed w x) xs ∙ length-changed_at w.unmet x less
