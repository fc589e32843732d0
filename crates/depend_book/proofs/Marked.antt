-- Which groups the book marks: exactly those that the graph has as met, of depends that aren't satisfied.
use Rattle.std.proofs.Common.{◌≡◌, ◌<◌, ℕ, suc, zero, ◌+◌, Bool, true, false, cond, ◌||◌, List, [], ◌∷◌, map, Some, refl, ap, sym, subst, ◌∙◌, option_map, arith}
use Rattle.std.specs.List.{AllZip, filter, list_any, slice_get}
use Rattle.std.specs.Cmp.Derive.{both_true}
use Rattle.std.proofs.lemmas.Bool.{and_left, and_right, eq-eqb, ne_eqb, or_from, or_left}
use Rattle.std.proofs.lemmas.List.Folds.{list_any-append}
use Rattle.std.proofs.lemmas.Option.{none-some, same_Some, slice_get-map}
use Rattle.farm_types.specs.declared.depend.DependRow.{DependRow}
use Rattle.farm_types.specs.declared.depend.Group.{Group}
use Rattle.farm_types.specs.declared.depend.MetRow.{MetRow}
use Rattle.farm_types.specs.Depends.{is_marked}
use Rattle.farm_types.specs.Farm.{Farm}
use Rattle.farm_types.specs.Rising.{IsRising, depend_key}
use Rattle.farm_types.proofs.Passes.{cond_each}
use Rattle.depend_graph.specs.Graph.{Watch, Watched, is_met, is_satisfied}
use Rattle.depend_book.specs.Book.{DependLists, IsBook, joined, mark_of, marks_in, marks_of}
use Rattle.depend_law.proofs.GroupSlots.{group_key}
use Rattle.depend_law.proofs.Among.{rising_above}
use Rattle.depend_law.proofs.Marks.{marks}
use Rattle.depend_law.proofs.MetAgain.{positions_rise}
use Rattle.depend_book.specs.Fits.{Fits, group_in}
use Rattle.depend_book.proofs.Pairs.{IsPair, pairs}
use Rattle.depend_book.proofs.Zips.{or_none, zip_at}

-- ---- the marks of one depend

module _ (d : DependRow) (n : ℕ) where
  -- no mark is of a group of an earlier position
  none_before : (g : Group) (low : ℕ) (xs : List Watched) (high : ℕ) → IsRising group_key low (map group_in xs) high → g.position < low → list_any (marks d g) (map (mark_of n) (filter is_met xs)) ≡ false
  none_before g low [] high rise before = refl
  none_before g low (x ∷ xs) high rise before =
      let later = none_before g (x.group.position + 1) xs high rise.1 (omega (arith, before, rise.0)) in
      cond_each (λ (ys : List Watched). list_any (marks d g) (map (mark_of n) ys) ≡ false) (is_met x) (x ∷ filter is_met xs) (filter is_met xs)
      (or_from _ _ (and_right _ _ (ne_eqb x.group.position g.position (λ e. absurd (omega (arith, before, rise.0, e))))) later)
      later

  first_marked : n ≡ d.depend → (b : Bool) (x : Watched) (xs : List Watched) (high : ℕ) → x.met ≡ b → IsRising group_key (x.group.position + 1) (map group_in xs) high
      → list_any (marks d x.group) (map (mark_of n) (cond b (x ∷ filter is_met xs) (filter is_met xs))) ≡ b
  first_marked own true x xs high is rise = or_left _ _ (both_true (eq-eqb n d.depend own) (eq-eqb x.group.position x.group.position refl))
  first_marked own false x xs high is rise = none_before x.group (x.group.position + 1) xs high rise (omega arith)

  -- a mark more, of another position
  other_marked : (g : Group) (x : Watched) (xs : List Watched) (b : Bool) → x.group.position < g.position → list_any (marks d g) (map (mark_of n) (filter is_met xs)) ≡ b
      → list_any (marks d g) (map (mark_of n) (filter is_met (x ∷ xs))) ≡ b
  other_marked g x xs b before later =
      cond_each (λ (ys : List Watched). list_any (marks d g) (map (mark_of n) ys) ≡ b) (is_met x) (x ∷ filter is_met xs) (filter is_met xs)
      (ap (λ (own : Bool). own || list_any (marks d g) (map (mark_of n) (filter is_met xs))) (and_right _ _ (ne_eqb x.group.position g.position (λ e. absurd (omega (arith, before, e))))) ∙ later)
      later

  -- of groups whose positions rise exactly those are marked that are met
  marked_own : n ≡ d.depend → (low : ℕ) (xs : List Watched) (high k : ℕ) (x : Watched) → IsRising group_key low (map group_in xs) high → slice_get xs k ≡ Some x
      → list_any (marks d x.group) (map (mark_of n) (filter is_met xs)) ≡ x.met
  marked_own own low [] high k x rise at = absurd (none-some x at)
  marked_own own low (y ∷ ys) high zero x rise at =
      subst (λ (z : Watched). list_any (marks d z.group) (map (mark_of n) (filter is_met (y ∷ ys))) ≡ z.met) (same_Some y x at) (first_marked own y.met y ys high refl rise.1)
  marked_own own low (y ∷ ys) high (suc k) x rise at =
      let there : slice_get (map group_in ys) k ≡ Some x.group = slice_get-map group_in ys k ∙ ap (option_map group_in) at in
      let above = rising_above group_key (y.group.position + 1) (map group_in ys) high k x.group rise.1 there in
      other_marked x.group y ys x.met (omega (arith, above)) (marked_own own (y.group.position + 1) ys high k x rise.1 at)

  -- marks of a depend are of no group of another
  other_depend : (g : Group) (xs : List Watched) → (n ≡ d.depend → ⊥) → list_any (marks d g) (map (mark_of n) xs) ≡ false
  other_depend g [] differ = refl
  other_depend g (x ∷ xs) differ = or_from _ _ (and_left _ _ (ne_eqb n d.depend differ)) (other_depend g xs differ)

-- ---- the marks of all

module _ (f : Farm) (d : DependRow) (g : Group) where
  other_marks : (w : Watch) → (w.depend ≡ d.depend → ⊥) → list_any (marks d g) (marks_in w) ≡ false
  other_marks w differ =
      cond_each (λ (rows : List MetRow). list_any (marks d g) rows ≡ false) (is_satisfied w) [] (map (mark_of w.depend) (filter is_met w.groups))
      refl (other_depend d w.depend g (filter is_met w.groups) differ)

  none_of_later : (low : ℕ) (ds : List DependRow) (ws : List Watch) (high : ℕ) → AllZip (IsPair f) ds ws → IsRising depend_key low ds high → d.depend < low → list_any (marks d g) (marks_of ws) ≡ false
  none_of_later low [] [] high zip rise before = refl
  none_of_later low [] (w ∷ ws) high zip rise before = absurd zip
  none_of_later low (e ∷ es) [] high zip rise before = refl
  none_of_later low (e ∷ es) (w ∷ ws) high zip rise before =
      list_any-append (marks d g) (marks_in w) (marks_of ws)
      ∙ or_from _ _ (other_marks w (λ same. absurd (omega (arith, before, rise.0, same, zip.0.number)))) (none_of_later (e.depend + 1) es ws high zip.1 rise.1 (omega (arith, before, rise.0)))

  -- the marks of a depend are those that count
  marks_found : (low : ℕ) (ds : List DependRow) (ws : List Watch) (high i : ℕ) (w : Watch) → AllZip (IsPair f) ds ws → IsRising depend_key low ds high → slice_get ds i ≡ Some d → slice_get ws i ≡ Some w
      → list_any (marks d g) (marks_of ws) ≡ list_any (marks d g) (marks_in w)
  marks_found low [] ws high i w zip rise row watch = absurd (none-some d row)
  marks_found low (e ∷ es) [] high i w zip rise row watch = absurd zip
  marks_found low (e ∷ es) (v ∷ vs) high zero w zip rise row watch =
      let number : e.depend ≡ d.depend = ap depend_key (same_Some e d row) in
      list_any-append (marks d g) (marks_in v) (marks_of vs)
      ∙ (ap (λ (b : Bool). list_any (marks d g) (marks_in v) || b) (none_of_later (e.depend + 1) es vs high zip.1 rise.1 (omega (arith, number)))
      ∙ (or_none (list_any (marks d g) (marks_in v)) ∙ ap (λ (x : Watch). list_any (marks d g) (marks_in x)) (same_Some v w watch)))
  marks_found low (e ∷ es) (v ∷ vs) high (suc i) w zip rise row watch =
      let above = rising_above depend_key (e.depend + 1) es high i d rise.1 row in
      list_any-append (marks d g) (marks_in v) (marks_of vs)
      ∙ (ap (λ (b : Bool). b || list_any (marks d g) (marks_of vs)) (other_marks v (λ same. absurd (omega (arith, above, same, zip.0.number))))
      ∙ marks_found (e.depend + 1) es vs high i w zip.1 rise.1 row watch)

module _ (f : Farm) (b : DependLists) (book : IsBook b) (fits : Fits f b) where
  -- a group of a depend that isn't satisfied is marked where it is met
  pub marked_is : (i k : ℕ) (d : DependRow) (w : Watch) (x : Watched) → slice_get b.rows i ≡ Some d → slice_get b.graph.depends i ≡ Some w → slice_get w.groups k ≡ Some x → d.met_all ≡ false
      → is_marked (joined f b) d x.group ≡ x.met
  marked_is i k d w x row watch group unmet =
      let zip = pairs f b book fits in
      let pair = zip_at (IsPair f) b.rows b.graph.depends zip i d w row watch in
      let rise = positions_rise f d in
      let unsatisfied : is_satisfied w ≡ false = sym pair.all ∙ unmet in
      marks_found f d x.group 1 b.rows b.graph.depends b.next i w zip book.rise row watch
      ∙ (ap (λ (c : Bool). list_any (marks d x.group) (cond c [] (map (mark_of w.depend) (filter is_met w.groups)))) unsatisfied
      ∙ marked_own d w.depend (sym pair.number) 0 w.groups rise.0 k x (subst (λ (gs : List Group). IsRising group_key 0 gs rise.0) (sym (pair.groups unmet)) rise.1) group)
