-- The rows after a change of the graph: those of depends that became satisfied are marked.
use Rattle.std.proofs.Common.{◌≡◌, ℕ, ◌+◌, ◌<◌, ◌≤◌, Bool, true, false, not, ◌&&◌, List, [], ◌∷◌, map, length, eqb, inl, inr, refl, sym, ap, ◌∙◌, arith}
use Rattle.std.specs.Prelude.{if◌then◌else◌}
use Rattle.std.specs.List.{list_any}
use Rattle.std.proofs.lemmas.Bool.{cases_eq, eq-eqb, ne_eqb, true≢false}
use Rattle.std.proofs.lemmas.List.{map-id}
use Rattle.farm_types.specs.declared.depend.DependRow.{DependRow}
use Rattle.farm_types.specs.DependActs.{satisfied_row}
use Rattle.farm_types.specs.Rising.{IsRising, depend_key}
use Rattle.depend_graph.specs.Graph.{Watch, is_satisfied, was_satisfied}
use Rattle.depend_book.specs.Book.{row_of, rows_of, watch_number}
use Rattle.depend_book.specs.Satisfied.{satisfied_all}

-- a depend whose number is listed is satisfied
abbrev pub marked_by : List ℕ → DependRow → DependRow
marked_by ns d = if list_any (λ n. eqb n d.depend) ns then record d { met_all = true } else d

-- ---- one number after the other

swapped : (a b : ℕ) → eqb a b ≡ eqb b a
swapped a b = elim (cases_eq a b) [
  | inl same ↦ eq-eqb a b same ∙ sym (eq-eqb b a (sym same))
  | inr apart ↦ ne_eqb a b apart ∙ sym (ne_eqb b a (λ e. apart (sym e)))
]

marked_by_one : (b c : Bool) (n : ℕ) (ns : List ℕ) (d : DependRow) → eqb d.depend n ≡ b → eqb n d.depend ≡ b → list_any (λ m. eqb m d.depend) ns ≡ c
    → marked_by ns (satisfied_row n d) ≡ marked_by (n ∷ ns) d
marked_by_one true true n ns d is same listed = rw (is, same, listed) refl
marked_by_one true false n ns d is same listed = rw (is, same, listed) refl
marked_by_one false c n ns d is same listed = rw (is, same) refl

marked_in_turn : (n : ℕ) (ns : List ℕ) (rows : List DependRow) → map (marked_by ns) (map (satisfied_row n) rows) ≡ map (marked_by (n ∷ ns)) rows
marked_in_turn n ns [] = refl
marked_in_turn n ns (d ∷ ds) =
    λ j. marked_by_one (eqb d.depend n) (list_any (λ m. eqb m d.depend) ns) n ns d refl (swapped n d.depend) refl j ∷ marked_in_turn n ns ds j

-- all numbers in turn are one change of each row
pub satisfied_all_is : (ns : List ℕ) (rows : List DependRow) → satisfied_all ns rows ≡ map (marked_by ns) rows
satisfied_all_is [] rows = sym (map-id rows)
satisfied_all_is (n ∷ ns) rows = satisfied_all_is ns (map (satisfied_row n) rows) ∙ marked_in_turn n ns rows

-- ---- a change of the graph's depends

-- the change keeps each depend's number and how many groups it has, and what is satisfied
pub record Keeps (change : Watch → Watch) : Type 0 where
  pub number : (w : Watch) → watch_number (change w) ≡ watch_number w
  pub satisfied : (w : Watch) → is_satisfied w ≡ true → is_satisfied (change w) ≡ true
  pub count : (w : Watch) → length (change w).groups ≡ length w.groups

-- a number below all of the depends is none of theirs
below_none : (change : Watch → Watch) (rows : List DependRow) (olds : List Watch) (low high n : ℕ) → map depend_key rows ≡ map watch_number olds
    → IsRising depend_key low rows high → n < low → was_satisfied olds (map change olds) n ≡ false
below_none change rows [] low high n same rise less = refl
below_none change [] (w ∷ ws) low high n same rise less = cc
below_none change (d ∷ ds) (w ∷ ws) low high n same rise less =
    let first : d.depend ≡ w.depend = cc in
    let rest : map depend_key ds ≡ map watch_number ws = cc in
    let apart : eqb w.depend n ≡ false = ne_eqb w.depend n (λ e. absurd (omega (arith, rise.0, first, e, less))) in
    rw apart (below_none change ds ws (d.depend + 1) high n rest rise.1 (omega (arith, rise.0)))

itself : (b : Bool) → (if b then true else false) ≡ b
itself true = refl
itself false = refl

-- whether a depend became satisfied tells whether it is now
met_now : (met listed now : Bool) → listed ≡ (not met && now) → (met ≡ true → now ≡ true) → (if listed then true else met) ≡ now
met_now true true now is kept = absurd (true≢false is)
met_now true false now is kept = sym (kept refl)
met_now false listed now is kept = itself listed ∙ is

marked_is : (b : Bool) (d : DependRow) → (if b then record d { met_all = true } else d) ≡ record d { met_all = if b then true else d.met_all }
marked_is true d = refl
marked_is false d = refl

module _ (change : Watch → Watch) (keeps : Keeps change) (satisfied : List ℕ) where
  -- the row of the first depend
  first_marked : (d : DependRow) (ds : List DependRow) (w : Watch) (ws : List Watch) (high : ℕ) → IsRising depend_key (d.depend + 1) ds high
      → row_of d w ≡ d → d.depend ≡ w.depend → map depend_key ds ≡ map watch_number ws
      → list_any (λ m. eqb m d.depend) satisfied ≡ was_satisfied (w ∷ ws) (map change (w ∷ ws)) d.depend
      → marked_by satisfied d ≡ row_of d (change w)
  first_marked d ds w ws high rise is first rest listed =
      let met : is_satisfied w ≡ d.met_all = ap (λ (r : DependRow). r.met_all) is in
      let none_later = below_none change ds ws (d.depend + 1) high d.depend rest rise (omega arith) in
      let here : eqb w.depend d.depend ≡ true = eq-eqb w.depend d.depend (sym first) in
      let became : was_satisfied (w ∷ ws) (map change (w ∷ ws)) d.depend ≡ (not (is_satisfied w) && is_satisfied (change w)) =
      rw (here, none_later) (itself (not (is_satisfied w) && is_satisfied (change w))) in
      let now = met_now d.met_all (list_any (λ m. eqb m d.depend) satisfied) (is_satisfied (change w))
      (listed ∙ became ∙ ap (λ (b : Bool). not b && is_satisfied (change w)) met) (λ e. keeps.satisfied w (met ∙ e)) in
      marked_is (list_any (λ m. eqb m d.depend) satisfied) d ∙ ap (λ (b : Bool). record d { met_all = b }) now

  -- the marked rows say what is satisfied after the change
  pub rows_marked : (rows : List DependRow) (olds : List Watch) (low high : ℕ) → IsRising depend_key low rows high → rows_of rows olds ≡ rows
      → map depend_key rows ≡ map watch_number olds
      → ((n : ℕ) → low ≤ n → list_any (λ m. eqb m n) satisfied ≡ was_satisfied olds (map change olds) n)
      → map (marked_by satisfied) rows ≡ rows_of rows (map change olds)
  rows_marked [] olds low high rise is same listed = refl
  rows_marked (d ∷ ds) [] low high rise is same listed = cc
  rows_marked (d ∷ ds) (w ∷ ws) low high rise is same listed =
      let first : d.depend ≡ w.depend = cc in
      let rest : map depend_key ds ≡ map watch_number ws = cc in
      let row : row_of d w ≡ d = cc in
      let rows : rows_of ds ws ≡ ds = cc in
      let later = λ (n : ℕ) (above : d.depend + 1 ≤ n).
      let apart : eqb w.depend n ≡ false = ne_eqb w.depend n (λ e. absurd (omega (arith, first, e, above))) in
      let passed : was_satisfied (w ∷ ws) (map change (w ∷ ws)) n ≡ was_satisfied ws (map change ws) n = rw apart refl in
      listed n (omega (arith, rise.0, above)) ∙ passed in
      let marked = first_marked d ds w ws high rise.1 row first rest (listed d.depend rise.0) in
      let more = rows_marked ds ws (d.depend + 1) high rise.1 rows rest later in
      λ j. marked j ∷ more j
