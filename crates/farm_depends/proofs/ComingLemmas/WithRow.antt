-- A depend comes to a farm: what is marked once each group is that is met now.
use Rattle.std.proofs.Common.{◌≡◌, ◌<◌, ◌≤◌, ℕ, ◌+◌, Bool, true, false, cond, ltb, ◌||◌, List, [], ◌∷◌, ◌++◌, map, refl, ap, sym, subst, ◌∙◌, arith, append_assoc, append-nil, ltb-true, lt-ltb}
use Rattle.std.specs.List.{filter, list_all, list_any}
use Rattle.std.specs.Cmp.Derive.{both_true}
use Rattle.std.proofs.lemmas.Bool.{and_left, ne_eqb, or_from}
use Rattle.std.proofs.lemmas.List.{map-append}
use Rattle.std.proofs.lemmas.List.Folds.{list_all-append}
use Rattle.farm_types.specs.declared.depend.DependRow.{DependRow}
use Rattle.farm_types.specs.declared.depend.Group.{Group}
use Rattle.farm_types.specs.declared.depend.MetRow.{MetRow}
use Rattle.farm_types.specs.Depends.{are_done, groups_of, is_done}
use Rattle.farm_types.specs.Farm.{Farm}
use Rattle.farm_types.specs.Rising.{IsRising, depend_key}
use Rattle.farm_types.specs.Settle.{is_met_now, met_row, met_rows, met_rows_of, settled_row, with_met}
use Rattle.farm_types.proofs.Lists.{and_both}
use Rattle.farm_types.proofs.Passes.{cond_each}
use Rattle.farm_law.proofs.KeptJobsLists.{rising-append, rising_within}
use Rattle.farm_law.proofs.KeptLists.{list_all-weaker}
use Rattle.depend_law.proofs.Fewer.{rising-map}
use Rattle.depend_law.proofs.Marks.{marks}
use Rattle.depend_law.proofs.MetAgain.{met_again}
use Rattle.depend_book.specs.declared.new_depend.NewDepend.{NewDepend}
use Rattle.farm_depends.specs.Follow.{row_for, with_all, with_row}

-- ---- marks of depends that are there

-- the mark is of a depend below that number
abbrev pub is_mark_below : ℕ → MetRow → Bool
is_mark_below n m = ltb m.depend n

-- The numbers of depends rise below the next one, and so do those of marks.
pub record Numbered (f : Farm) : Type 0 where
  pub rise : IsRising depend_key 1 f.depends f.next_depend
  pub marks_below : list_all (is_mark_below f.next_depend) f.met ≡ true

-- no mark is of a depend at that number or above
pub none_marked : (d : DependRow) (g : Group) (n : ℕ) → n ≤ d.depend → (ms : List MetRow) → list_all (is_mark_below n) ms ≡ true → list_any (marks d g) ms ≡ false
none_marked d g n above [] all = refl
none_marked d g n above (m ∷ ms) all =
    let both = and_both (ltb m.depend n) (list_all (is_mark_below n) ms) all in
    let below = ltb-true m.depend n both.0 in
    or_from _ _ (and_left _ _ (ne_eqb m.depend d.depend (λ e. absurd (omega (arith, above, e, below))))) (none_marked d g n above ms both.1)

mapped_below : (d : DependRow) (n : ℕ) → d.depend < n → (gs : List Group) → list_all (is_mark_below n) (map (met_row d) gs) ≡ true
mapped_below d n below [] = refl
mapped_below d n below (g ∷ gs) = both_true (lt-ltb d.depend n below) (mapped_below d n below gs)

rows_of_below : (f : Farm) (d : DependRow) (n : ℕ) → d.depend < n → list_all (is_mark_below n) (met_rows_of f d) ≡ true
rows_of_below f d n below =
    cond_each (λ (rows : List MetRow). list_all (is_mark_below n) rows ≡ true) (settled_row f d).met_all [] (map (met_row d) (filter (is_met_now f d) (groups_of f d)))
    refl (mapped_below d n below (filter (is_met_now f d) (groups_of f d)))

rows_below : (f : Farm) (low : ℕ) (ds : List DependRow) (high : ℕ) → IsRising depend_key low ds high → list_all (is_mark_below high) (met_rows f ds) ≡ true
rows_below f low [] high rise = refl
rows_below f low (d ∷ ds) high rise =
    let within = rising_within depend_key (d.depend + 1) ds high rise.1 in
    list_all-append (is_mark_below high) (met_rows_of f d) (met_rows f ds) ∙ both_true (rows_of_below f d high (omega (arith, within))) (rows_below f (d.depend + 1) ds high rise.1)

-- where exactly what is met is marked
pub numbered_met : (f : Farm) → IsRising depend_key 1 f.depends f.next_depend → Numbered (with_met f)
numbered_met f rise =
    record {
      rise = rising-map depend_key (settled_row f) (λ d. refl) 1 f.depends f.next_depend rise;
      marks_below = rows_below f 1 f.depends f.next_depend rise;
    }

pub numbered_kept : (f : Farm) → IsRising depend_key 1 f.depends f.next_depend → with_met f ≡ f → Numbered f
numbered_kept f rise met = subst Numbered met (numbered_met f rise)

pub numbered_row : (f : Farm) (n : NewDepend) → Numbered f → Numbered (with_row f n)
numbered_row f n k =
    record {
      rise = rising-append depend_key 1 f.next_depend (f.next_depend + 1) f.depends (row_for f.next_depend n ∷ []) k.rise (omega arith, omega arith);
      marks_below = list_all-weaker (is_mark_below f.next_depend) (is_mark_below (f.next_depend + 1))
          (λ m h. lt-ltb m.depend (f.next_depend + 1) (let below = ltb-true m.depend f.next_depend h in omega (arith, below))) f.met k.marks_below;
    }

-- ---- what the depend is then

-- its groups that are met at once are those whose targets are done
abbrev pub done_now : Farm → Group → Bool
done_now f g = are_done (is_done f.slots) g

abbrev pub new_row : Farm → NewDepend → DependRow
new_row f n = row_for f.next_depend n

abbrev pub row_now : Farm → NewDepend → DependRow
row_now f n = record (new_row f n) { met_all = list_all (done_now f) (groups_of f (new_row f n)) }

abbrev pub marks_now : Farm → NewDepend → List MetRow
marks_now f n = cond (list_all (done_now f) (groups_of f (new_row f n))) [] (map (met_row (new_row f n)) (filter (done_now f) (groups_of f (new_row f n))))

-- the farm with it, and what is met
abbrev pub with_now : Farm → NewDepend → Farm
with_now f n = record f { depends = map (settled_row f) f.depends ++ row_now f n ∷ []; met = met_rows f f.depends ++ marks_now f n; next_depend = f.next_depend + 1 }

rows_append : (f : Farm) (ds : List DependRow) (d : DependRow) → met_rows f (ds ++ d ∷ []) ≡ met_rows f ds ++ met_rows_of f d
rows_append f [] d = append-nil (met_rows_of f d)
rows_append f (e ∷ es) d =
    ap (λ (rows : List MetRow). met_rows_of f e ++ rows) (rows_append f es d) ∙ sym (append_assoc (met_rows_of f e) (met_rows f es) (met_rows_of f d))

module _ (f : Farm) (n : NewDepend) where
  pub groups_with : groups_of (with_row f n) ≡ groups_of f
  unfolding groups_of
  groups_with = refl

  settled_with : (d : DependRow) → settled_row (with_row f n) d ≡ settled_row f d
  settled_with d = ap (λ (groups : DependRow → List Group). record d { met_all = d.met_all || list_all (is_met_now f d) (groups d) }) groups_with

  rows_of_with : (d : DependRow) → met_rows_of (with_row f n) d ≡ met_rows_of f d
  rows_of_with d =
      ap (λ (groups : DependRow → List Group). cond (d.met_all || list_all (is_met_now f d) (groups d)) [] (map (met_row d) (filter (is_met_now f d) (groups d)))) groups_with

  rows_with : (ds : List DependRow) → met_rows (with_row f n) ds ≡ met_rows f ds
  rows_with [] = refl
  rows_with (d ∷ ds) = λ i. rows_of_with d i ++ rows_with ds i

  module _ (k : Numbered f) where
    -- nothing of it was marked
    now_is : (g : Group) → is_met_now f (new_row f n) g ≡ done_now f g
    now_is g = ap (λ (b : Bool). b || done_now f g) (none_marked (new_row f n) g f.next_depend (omega arith) f.met k.marks_below)

    pub now_are : is_met_now f (new_row f n) ≡ done_now f
    now_are i g = now_is g i

    pub row_settled : settled_row f (new_row f n) ≡ row_now f n
    row_settled = ap (λ (test : Group → Bool). record (new_row f n) { met_all = list_all test (groups_of f (new_row f n)) }) now_are

    rows_settled : met_rows_of f (new_row f n) ≡ marks_now f n
    rows_settled =
        ap (λ (test : Group → Bool). cond (list_all test (groups_of f (new_row f n))) [] (map (met_row (new_row f n)) (filter test (groups_of f (new_row f n))))) now_are

    -- the others are as they would be without it
    pub met_with : with_met (with_row f n) ≡ with_now f n
    met_with =
        let depends : map (settled_row (with_row f n)) (f.depends ++ new_row f n ∷ []) ≡ map (settled_row f) f.depends ++ row_now f n ∷ [] =
        ap (λ (change : DependRow → DependRow). map change (f.depends ++ new_row f n ∷ [])) (λ i d. settled_with d i)
        ∙ (map-append (settled_row f) f.depends (new_row f n ∷ []) ∙ ap (λ (d : DependRow). map (settled_row f) f.depends ++ d ∷ []) row_settled) in
        let met : met_rows (with_row f n) (f.depends ++ new_row f n ∷ []) ≡ met_rows f f.depends ++ marks_now f n =
        rows_with (f.depends ++ new_row f n ∷ [])
        ∙ (rows_append f f.depends (new_row f n) ∙ ap (λ (rows : List MetRow). met_rows f f.depends ++ rows) rows_settled) in
        λ i. record f { depends = depends i; met = met i; next_depend = f.next_depend + 1 }

-- ---- marked before, or not

module _ (f : Farm) (n : NewDepend) where
  row_marked : row_now (with_met f) n ≡ row_now f n
  unfolding groups_of
  row_marked = refl

  marks_marked : marks_now (with_met f) n ≡ marks_now f n
  unfolding groups_of
  marks_marked = refl

  -- what was met may be marked before it comes
  pub met_before : Numbered f → with_met (with_row (with_met f) n) ≡ with_met (with_row f n)
  met_before k =
      let again = met_again f f.next_depend k.rise in
      let marked : with_now (with_met f) n ≡ with_now f n =
      λ i. record f { depends = (again i).depends ++ row_marked i ∷ []; met = (again i).met ++ marks_marked i; next_depend = f.next_depend + 1 } in
      met_with (with_met f) n (numbered_met f k.rise) ∙ (marked ∙ sym (met_with f n k))

-- and so before many come
pub met_before_all : (f : Farm) → Numbered f → (ns : List NewDepend) → with_met (with_all (with_met f) ns) ≡ with_met (with_all f ns)
met_before_all f k [] = met_again f f.next_depend k.rise
met_before_all f k (n ∷ ns) =
    let one = met_before f n k in
    sym (met_before_all (with_row (with_met f) n) (numbered_row (with_met f) n (numbered_met f k.rise)) ns)
    ∙ (ap (λ (g : Farm). with_met (with_all g ns)) one ∙ met_before_all (with_row f n) (numbered_row f n k) ns)
