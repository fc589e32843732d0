-- Which groups are marked where those are that are met now.
use Rattle.std.proofs.Common.{◌≡◌, ◌<◌, ℕ, suc, zero, ◌+◌, Bool, true, false, ◌&&◌, ◌||◌, not, eqb, List, [], ◌∷◌, map, Some, refl, ap, sym, subst, ◌∙◌, arith}
use Rattle.std.specs.List.{filter, list_any, slice_get}
use Rattle.std.specs.Cmp.Derive.{both_true}
use Rattle.std.proofs.lemmas.Bool.{and_left, and_right, eq-eqb, ne_eqb, or_from, or_left}
use Rattle.std.proofs.lemmas.List.Folds.{list_any-append}
use Rattle.std.proofs.lemmas.Option.{none-some, same_Some}
use Rattle.farm_types.specs.declared.depend.DependRow.{DependRow}
use Rattle.farm_types.specs.declared.depend.Group.{Group}
use Rattle.farm_types.specs.declared.depend.MetRow.{MetRow}
use Rattle.farm_types.specs.Depends.{groups_of}
use Rattle.farm_types.specs.Farm.{Farm}
use Rattle.farm_types.specs.Rising.{IsRising, depend_key}
use Rattle.farm_types.specs.Settle.{is_met_now, met_row, met_rows, met_rows_of, settled_row}
use Rattle.farm_types.proofs.Passes.{cond_each}
use Rattle.depend_law.proofs.Among.{rising_above}
use Rattle.depend_law.proofs.GroupSlots.{group_key}

-- the row marks the group of the depend
abbrev pub marks : DependRow → Group → MetRow → Bool
marks d g m = eqb m.depend d.depend && eqb m.position g.position

or_none : (b : Bool) → (b || false) ≡ b
or_none true = refl
or_none false = refl

-- ---- the rows of one depend

module _ (d : DependRow) (met : Group → Bool) where
  -- no row marks a group of an earlier position
  none_before : (g : Group) (low : ℕ) (gs : List Group) (high : ℕ) → IsRising group_key low gs high → g.position < low → list_any (marks d g) (map (met_row d) (filter met gs)) ≡ false
  none_before g low [] high rise before = refl
  none_before g low (h ∷ hs) high rise before =
      let later = none_before g (h.position + 1) hs high rise.1 (omega (arith, before, rise.0)) in
      cond_each (λ (ys : List Group). list_any (marks d g) (map (met_row d) ys) ≡ false) (met h) (h ∷ filter met hs) (filter met hs)
      (or_from _ _ (and_right _ _ (ne_eqb h.position g.position (λ e. absurd (omega (arith, before, rise.0, e))))) later)
      later

  first_marked : (b : Bool) (h : Group) (hs : List Group) (high : ℕ) → met h ≡ b → IsRising group_key (h.position + 1) hs high → list_any (marks d h) (map (met_row d) (filter met (h ∷ hs))) ≡ b
  first_marked true h hs high is rise = rw is (or_left _ _ (both_true (eq-eqb d.depend d.depend refl) (eq-eqb h.position h.position refl)))
  first_marked false h hs high is rise = rw is (none_before h (h.position + 1) hs high rise (omega arith))

  -- a row more, of another position
  other_marked : (g h : Group) (hs : List Group) (b : Bool) → h.position < g.position → list_any (marks d g) (map (met_row d) (filter met hs)) ≡ b → list_any (marks d g) (map (met_row d) (filter met (h ∷ hs))) ≡ b
  other_marked g h hs b before later =
      cond_each (λ (ys : List Group). list_any (marks d g) (map (met_row d) ys) ≡ b) (met h) (h ∷ filter met hs) (filter met hs)
      (ap (λ (own : Bool). own || list_any (marks d g) (map (met_row d) (filter met hs))) (and_right _ _ (ne_eqb h.position g.position (λ e. absurd (omega (arith, before, e))))) ∙ later)
      later

  -- of groups whose positions rise exactly those are marked that are met
  pub marked_own : (low : ℕ) (gs : List Group) (high n : ℕ) (g : Group) → IsRising group_key low gs high → slice_get gs n ≡ Some g → list_any (marks d g) (map (met_row d) (filter met gs)) ≡ met g
  marked_own low [] high n g rise at = absurd (none-some g at)
  marked_own low (h ∷ hs) high zero g rise at =
      subst (λ (x : Group). list_any (marks d x) (map (met_row d) (filter met (h ∷ hs))) ≡ met x) (same_Some h g at) (first_marked (met h) h hs high refl rise.1)
  marked_own low (h ∷ hs) high (suc n) g rise at =
      other_marked g h hs (met g) (omega (arith, rising_above group_key (h.position + 1) hs high n g rise.1 at))
      (marked_own (h.position + 1) hs high n g rise.1 at)

-- rows of a depend mark no group of another
other_depend : (d e : DependRow) (g : Group) (gs : List Group) → (e.depend ≡ d.depend → ⊥) → list_any (marks d g) (map (met_row e) gs) ≡ false
other_depend d e g [] differ = refl
other_depend d e g (h ∷ hs) differ = or_from _ _ (and_left _ _ (ne_eqb e.depend d.depend differ)) (other_depend d e g hs differ)

-- ---- the rows of all depends

module _ (f : Farm) where
  pub other_rows : (d e : DependRow) (g : Group) → (e.depend ≡ d.depend → ⊥) → list_any (marks d g) (met_rows_of f e) ≡ false
  other_rows d e g differ =
      cond_each (λ (rows : List MetRow). list_any (marks d g) rows ≡ false) (settled_row f e).met_all [] (map (met_row e) (filter (is_met_now f e) (groups_of f e)))
      refl (other_depend d e g (filter (is_met_now f e) (groups_of f e)) differ)

  none_of_later : (d : DependRow) (g : Group) (low : ℕ) (ds : List DependRow) (high : ℕ) → IsRising depend_key low ds high → d.depend < low → list_any (marks d g) (met_rows f ds) ≡ false
  none_of_later d g low [] high rise before = refl
  none_of_later d g low (e ∷ es) high rise before =
      list_any-append (marks d g) (met_rows_of f e) (met_rows f es)
      ∙ or_from _ _ (other_rows d e g (λ same. absurd (omega (arith, before, rise.0, same)))) (none_of_later d g (e.depend + 1) es high rise.1 (omega (arith, before, rise.0)))

  own_rows : (b : Bool) (d : DependRow) (high n : ℕ) (g : Group) → (settled_row f d).met_all ≡ b → IsRising group_key 0 (groups_of f d) high → slice_get (groups_of f d) n ≡ Some g → list_any (marks d g) (met_rows_of f d) ≡ (not b && is_met_now f d g)
  own_rows true d high n g is rise at = rw is refl
  own_rows false d high n g is rise at = rw is (marked_own d (is_met_now f d) 0 (groups_of f d) high n g rise at)

  -- of a depend exactly those groups are marked that are met now, where it isn't satisfied
  pub marked_rows : (low : ℕ) (ds : List DependRow) (high n : ℕ) (d : DependRow) (last k : ℕ) (g : Group) → IsRising depend_key low ds high → slice_get ds n ≡ Some d → IsRising group_key 0 (groups_of f d) last → slice_get (groups_of f d) k ≡ Some g
      → list_any (marks d g) (met_rows f ds) ≡ (not (settled_row f d).met_all && is_met_now f d g)
  marked_rows low [] high n d last k g rise at positions there = absurd (none-some d at)
  marked_rows low (e ∷ es) high zero d last k g rise at positions there =
      let same = same_Some e d at in
      let number = ap depend_key same in
      let none = none_of_later d g (e.depend + 1) es high rise.1 (omega (arith, number)) in
      subst (λ (x : DependRow). list_any (marks d g) (met_rows f (x ∷ es)) ≡ (not (settled_row f d).met_all && is_met_now f d g)) (sym same)
      (list_any-append (marks d g) (met_rows_of f d) (met_rows f es)
      ∙ ap (λ (b : Bool). list_any (marks d g) (met_rows_of f d) || b) none
      ∙ or_none (list_any (marks d g) (met_rows_of f d))
      ∙ own_rows (settled_row f d).met_all d last k g refl positions there)
  marked_rows low (e ∷ es) high (suc n) d last k g rise at positions there =
      let above = rising_above depend_key (e.depend + 1) es high n d rise.1 at in
      list_any-append (marks d g) (met_rows_of f e) (met_rows f es)
      ∙ ap (λ (b : Bool). b || list_any (marks d g) (met_rows f es)) (other_rows d e g (λ same. absurd (omega (arith, above, same))))
      ∙ marked_rows (e.depend + 1) es high n d last k g rise.1 at positions there
