-- The depends in which a job waits are forgotten.
use Rattle.std.proofs.Common.{◌≡◌, ◌≤◌, ◌<◌, ℕ, zero, suc, ◌+◌, Bool, true, false, not, cond, eqb, List, [], ◌∷◌, map, drop, length, Some, refl, sym, ap, subst, ◌∙◌, arith}
use Rattle.std.specs.Prelude.{◌&&◌, ◌||◌}
use Rattle.std.specs.List.{slice_get, filter}
use Rattle.std.proofs.lemmas.Bool.{eq-eqb, eqb-true, ne_eqb, true≢false}
use Rattle.std.proofs.lemmas.List.Sums.{count_by-le-length, length-filter, sum_by-cons}
use Rattle.std.proofs.lemmas.Option.{none-some, same_Some}
use Rattle.farm_types.specs.declared.depend.DependRow.{DependRow}
use Rattle.farm_types.specs.Finish.{waits_by, without_waiter}
use Rattle.farm_types.specs.Rising.{IsRising, depend_key}
use Rattle.depend_graph.specs.Graph.{GraphLists, Watch, forgotten, groups_left, is_not_named, is_satisfied}
use Rattle.depend_book.specs.Book.{DependLists, IsBook, graph_without, is_kept_by, row_of, rows_of, waits_in_one, watch_number, without_waiter_in}
use Rattle.depend_book.specs.Rows.{IsTaken, WaitsInNone}

-- ---- one after the other is all at once

two_filters : {X : Type 0} (first then both : X → Bool) → ((x : X) → both x ≡ (first x && then x)) → (xs : List X) → filter then (filter first xs) ≡ filter both xs
two_filters first then both same [] = refl
two_filters {X} first then both same (x ∷ xs) = by_test (first x) (then x) refl refl (two_filters first then both same xs) where
  by_test : (a b : Bool) → first x ≡ a → then x ≡ b → filter then (filter first xs) ≡ filter both xs → filter then (cond a (x ∷ filter first xs) (filter first xs)) ≡ cond (both x) (x ∷ filter both xs) (filter both xs)
  by_test true true is_a is_b more =
      let all : both x ≡ true = same x ∙ λ i. is_a i && is_b i in
      ap (λ c. cond c (x ∷ filter then (filter first xs)) (filter then (filter first xs))) is_b
      ∙ (ap (λ (ys : List X). x ∷ ys) more ∙ sym (ap (λ c. cond c (x ∷ filter both xs) (filter both xs)) all))
  by_test true false is_a is_b more =
      let off : both x ≡ false = same x ∙ λ i. is_a i && is_b i in
      ap (λ c. cond c (x ∷ filter then (filter first xs)) (filter then (filter first xs))) is_b ∙ (more ∙ sym (ap (λ c. cond c (x ∷ filter both xs) (filter both xs)) off))
  by_test false b is_a is_b more =
      let off : both x ≡ false = same x ∙ ap (λ a. a && then x) is_a in
      more ∙ sym (ap (λ c. cond c (x ∷ filter both xs) (filter both xs)) off)

filter_alike : {X : Type 0} (f g : X → Bool) → ((x : X) → f x ≡ g x) → (xs : List X) → filter f xs ≡ filter g xs
filter_alike f g same xs = λ i. filter (λ x. same x i) xs

filter_all : {X : Type 0} (xs : List X) → filter (λ x. true) xs ≡ xs
filter_all [] = refl
filter_all {X} (x ∷ xs) = ap (λ (ys : List X). x ∷ ys) (filter_all xs)

module _ (job n : ℕ) where
  -- the rows of that number are the job's
  taken_rows : (rows : List DependRow) → ((p : ℕ) (d : DependRow) → slice_get rows p ≡ Some d → eqb d.depend n ≡ true → waits_by job d ≡ true) → without_waiter job (filter (λ (d : DependRow). not (eqb d.depend n)) rows) ≡ without_waiter job rows
  taken_rows [] each = refl
  taken_rows (d ∷ ds) each = by_key (eqb d.depend n) refl (taken_rows ds (λ p x at. each (suc p) x at)) where
    by_key : (b : Bool) → eqb d.depend n ≡ b → without_waiter job (filter (λ (x : DependRow). not (eqb x.depend n)) ds) ≡ without_waiter job ds
        → without_waiter job (cond (not b) (d ∷ filter (λ (x : DependRow). not (eqb x.depend n)) ds) (filter (λ (x : DependRow). not (eqb x.depend n)) ds)) ≡ cond (not (waits_by job d)) (d ∷ without_waiter job ds) (without_waiter job ds)
    by_key true is more = more ∙ ap (λ b. cond (not b) (d ∷ without_waiter job ds) (without_waiter job ds)) (sym (each 0 d refl is))
    by_key false is more = λ i. cond (not (waits_by job d)) (d ∷ more i) (more i)

  -- another number is among the rows that are left where it was among all
  others_wait : (m : ℕ) → eqb m n ≡ false → (rows : List DependRow) → waits_in_one job (filter (λ (d : DependRow). not (eqb d.depend n)) rows) m ≡ waits_in_one job rows m
  others_wait m apart [] = refl
  others_wait m apart (d ∷ ds) = by_key (eqb d.depend n) refl (others_wait m apart ds) where
    off : (a b : Bool) → ((a && false) || b) ≡ b
    off true b = refl
    off false b = refl

    by_key : (b : Bool) → eqb d.depend n ≡ b → waits_in_one job (filter (λ (x : DependRow). not (eqb x.depend n)) ds) m ≡ waits_in_one job ds m
        → waits_in_one job (cond (not b) (d ∷ filter (λ (x : DependRow). not (eqb x.depend n)) ds) (filter (λ (x : DependRow). not (eqb x.depend n)) ds)) m ≡ ((waits_by job d && eqb m d.depend) || waits_in_one job ds m)
    by_key true is more =
        more ∙ sym (off (waits_by job d) (waits_in_one job ds m))
        ∙ λ i. (waits_by job d && sym (ne_eqb m d.depend (λ e. true≢false (sym (eq-eqb m n (e ∙ eqb-true d.depend n is)) ∙ apart))) i) || waits_in_one job ds m
    by_key false is more = ap (λ b. (waits_by job d && eqb m d.depend) || b) more

  one_kept : (rows : List DependRow) → waits_in_one job rows n ≡ true → (w : Watch)
      → is_kept_by job rows w ≡ (is_not_named n w && is_kept_by job (filter (λ (d : DependRow). not (eqb d.depend n)) rows) w)
  one_kept rows waits w = by_key (eqb w.depend n) refl where
    by_key : (b : Bool) → eqb w.depend n ≡ b → is_kept_by job rows w ≡ (not b && is_kept_by job (filter (λ (d : DependRow). not (eqb d.depend n)) rows) w)
    by_key true is = ap (λ m. not (waits_in_one job rows m)) (eqb-true w.depend n is) ∙ ap not waits
    by_key false is = ap not (sym (others_wait w.depend is rows))

  -- what is forgotten of the rest is what was of all
  pub taken_graph : (olds news : List DependRow) → IsTaken job n olds news → (g : GraphLists) → graph_without job news (forgotten g n) ≡ graph_without job olds g
  taken_graph olds news taken g =
      ap (λ (rows : List DependRow). graph_without job rows (forgotten g n)) taken.left
      ∙ λ i. record {
        done = g.done;
        depends = two_filters (is_not_named n) (is_kept_by job (filter (λ (d : DependRow). not (eqb d.depend n)) olds)) (is_kept_by job olds) (one_kept olds taken.waits) g.depends i;
      }

-- nothing is forgotten where the job waits in none
pub none_graph : (job : ℕ) (rows : List DependRow) → WaitsInNone job rows → (g : GraphLists) → graph_without job rows g ≡ g
none_graph job rows none g = λ i. record { done = g.done; depends = (filter_alike (is_kept_by job rows) (λ w. true) (λ w. ap not (none.none w.depend)) g.depends ∙ filter_all g.depends) i }

-- ---- a row's number tells whether the job waits in it

above_none : (job n low : ℕ) (rows : List DependRow) (high : ℕ) → n < low → IsRising depend_key low rows high → waits_in_one job rows n ≡ false
above_none job n low [] high less rise = refl
above_none job n low (d ∷ ds) high less rise =
    (λ i. (waits_by job d && ne_eqb n d.depend (λ e. absurd (omega (arith, e, rise.0, less))) i) || above_none job n (d.depend + 1) ds high (omega (arith, rise.0, less)) rise.1 i)
    ∙ off (waits_by job d)
  where
    off : (b : Bool) → ((b && false) || false) ≡ false
    off true = refl
    off false = refl

pub at_least : (low : ℕ) (rows : List DependRow) (high p : ℕ) (d : DependRow) → IsRising depend_key low rows high → slice_get rows p ≡ Some d → low ≤ d.depend
at_least low [] high p d rise at = absurd (none-some d at)
at_least low (x ∷ xs) high zero d rise at = omega (arith, rise.0, ap depend_key (same_Some x d at))
at_least low (x ∷ xs) high (suc p) d rise at = omega (arith, rise.0, at_least (x.depend + 1) xs high p d rise.1 at)

pub one_waits : (job low : ℕ) (rows : List DependRow) (high p : ℕ) (d : DependRow) → IsRising depend_key low rows high → slice_get rows p ≡ Some d → waits_in_one job rows d.depend ≡ waits_by job d
one_waits job low [] high p d rise at = absurd (none-some d at)
one_waits job low (x ∷ xs) high zero d rise at =
    let same : x ≡ d = same_Some x d at in
    let one : d.depend ≡ x.depend = sym (ap depend_key same) in
    (λ i. (waits_by job (same i) && eq-eqb d.depend x.depend one i) || above_none job d.depend (x.depend + 1) xs high (omega (arith, one)) rise.1 i) ∙ on (waits_by job d)
  where
    on : (b : Bool) → ((b && true) || false) ≡ b
    on true = refl
    on false = refl
one_waits job low (x ∷ xs) high (suc p) d rise at =
    let later = at_least (x.depend + 1) xs high p d rise.1 at in
    (λ i. (waits_by job x && ne_eqb d.depend x.depend (λ e. absurd (omega (arith, e, later))) i) || one_waits job (x.depend + 1) xs high p d rise.1 at i) ∙ off (waits_by job x) (waits_by job d)
  where
    off : (a b : Bool) → ((a && false) || b) ≡ b
    off true b = refl
    off false b = refl

-- the rows of the job that are left where one of them goes
pub taken_without : (job n : ℕ) (olds news : List DependRow) (high : ℕ) → IsRising depend_key 1 olds high → IsTaken job n olds news → without_waiter job news ≡ without_waiter job olds
taken_without job n olds news high rise taken =
    ap (without_waiter job) taken.left
    ∙ taken_rows job n olds (λ p d at is. sym (one_waits job 1 olds high p d rise at) ∙ (ap (waits_in_one job olds) (eqb-true d.depend n is) ∙ taken.waits))

-- ---- what every book keeps

rising_low : (low less : ℕ) (rows : List DependRow) (high : ℕ) → less ≤ low → IsRising depend_key low rows high → IsRising depend_key less rows high
rising_low low less [] high below rise = omega (arith, rise)
rising_low low less (d ∷ ds) high below rise = (omega (arith, rise.0), rise.1)

pub rising_filter : (test : DependRow → Bool) (low : ℕ) (rows : List DependRow) (high : ℕ) → IsRising depend_key low rows high → IsRising depend_key low (filter test rows) high
rising_filter test low [] high rise = rise
rising_filter test low (d ∷ ds) high rise = by_test (test d) (rising_filter test (d.depend + 1) ds high rise.1) where
  by_test : (b : Bool) → IsRising depend_key (d.depend + 1) (filter test ds) high → IsRising depend_key low (cond b (d ∷ filter test ds) (filter test ds)) high
  by_test true more = (rise.0, more)
  by_test false more = rising_low (d.depend + 1) low (filter test ds) high (omega (arith, rise.0)) more

abbrev weight_of : Watch → ℕ
weight_of w = cond (is_satisfied w) 0 (length w.groups)

fewer_left : (test : Watch → Bool) (ws : List Watch) → groups_left (filter test ws) ≤ groups_left ws
fewer_left test [] = omega arith
fewer_left test (w ∷ ws) = by_test (test w) (fewer_left test ws) where
  by_test : (b : Bool) → groups_left (filter test ws) ≤ groups_left ws → groups_left (cond b (w ∷ filter test ws) (filter test ws)) ≤ groups_left (w ∷ ws)
  by_test true more = omega (arith, sum_by-cons weight_of w (filter test ws), sum_by-cons weight_of w ws, more)
  by_test false more = omega (arith, sum_by-cons weight_of w ws, more)

-- the rows and the depends of the graph go together
record GoTogether (rows : List DependRow) (watches : List Watch) : Type 0 where
  numbers : map depend_key rows ≡ map watch_number watches
  rows_are : rows_of rows watches ≡ rows

head_at : {X : Type 0} (x y : X) (xs ys : List X) → x ∷ xs ≡ y ∷ ys → x ≡ y
head_at {X} x y xs ys same = same_Some x y (ap (λ (zs : List X). slice_get zs 0) same)

tail_at : {X : Type 0} (x y : X) (xs ys : List X) → x ∷ xs ≡ y ∷ ys → xs ≡ ys
tail_at {X} x y xs ys same = ap (λ (zs : List X). drop 1 zs) same

together : (job : ℕ) (all rows : List DependRow) (ws : List Watch) → ((p : ℕ) (d : DependRow) → slice_get rows p ≡ Some d → waits_in_one job all d.depend ≡ waits_by job d) → GoTogether rows ws
    → GoTogether (without_waiter job rows) (filter (is_kept_by job all) ws)
together job all [] [] one go = go
together job all [] (w ∷ ws) one go = absurd (omega (arith, ap (λ (ns : List ℕ). length ns) go.numbers))
together job all (d ∷ ds) [] one go = absurd (omega (arith, ap (λ (ns : List ℕ). length ns) go.numbers))
together job all (d ∷ ds) (w ∷ ws) one go =
    let number : d.depend ≡ w.depend = head_at d.depend w.depend (map depend_key ds) (map watch_number ws) go.numbers in
    let rest : GoTogether ds ws = record {
      numbers = tail_at d.depend w.depend (map depend_key ds) (map watch_number ws) go.numbers;
      rows_are = tail_at (row_of d w) d (rows_of ds ws) ds go.rows_are;
    } in
    by_test number (head_at (row_of d w) d (rows_of ds ws) ds go.rows_are) (not (waits_by job d)) refl (ap not (ap (waits_in_one job all) (sym number) ∙ one 0 d refl)) (together job all ds ws (λ p x at. one (suc p) x at) rest)
  where
    by_test : d.depend ≡ w.depend → row_of d w ≡ d → (b : Bool) → not (waits_by job d) ≡ b → is_kept_by job all w ≡ not (waits_by job d) → GoTogether (without_waiter job ds) (filter (is_kept_by job all) ws)
        → GoTogether (cond (not (waits_by job d)) (d ∷ without_waiter job ds) (without_waiter job ds)) (filter (is_kept_by job all) (w ∷ ws))
    by_test number row b is kept more =
        subst (λ c. GoTogether (cond c (d ∷ without_waiter job ds) (without_waiter job ds)) (filter (is_kept_by job all) (w ∷ ws))) (sym is)
        (subst (λ c. GoTogether (cond b (d ∷ without_waiter job ds) (without_waiter job ds)) (cond c (w ∷ filter (is_kept_by job all) ws) (filter (is_kept_by job all) ws))) (sym (kept ∙ is)) (by_mark b))
      where
        by_mark : (c : Bool) → GoTogether (cond c (d ∷ without_waiter job ds) (without_waiter job ds)) (cond c (w ∷ filter (is_kept_by job all) ws) (filter (is_kept_by job all) ws))
        by_mark true = record { numbers = λ i. number i ∷ more.numbers i; rows_are = λ i. row i ∷ more.rows_are i }
        by_mark false = more

pub book_without : (b : DependLists) (job : ℕ) → IsBook b → IsBook (without_waiter_in b job)
book_without b job book =
    let go = together job b.rows b.rows b.graph.depends (λ p d at. one_waits job 1 b.rows b.next p d book.rise at) (record { numbers = book.numbers; rows_are = book.rows_are }) in
    record {
      flags = book.flags;
      numbers = go.numbers;
      rows_are = go.rows_are;
      rise = rising_filter (λ (d : DependRow). not (waits_by job d)) 1 b.rows b.next book.rise;
      next_within = book.next_within;
      count = omega (arith, book.count, length-filter (λ (d : DependRow). not (waits_by job d)) b.rows, count_by-le-length (λ (d : DependRow). not (waits_by job d)) b.rows);
      groups_within = omega (arith, book.groups_within, fewer_left (is_kept_by job b.rows) b.graph.depends);
    }

-- numbers rise in what is left
pub taken_rise : (job n : ℕ) (olds news : List DependRow) (high : ℕ) → IsTaken job n olds news → IsRising depend_key 1 olds high → IsRising depend_key 1 news high
taken_rise job n olds news high taken rise =
    subst (λ (rows : List DependRow). IsRising depend_key 1 rows high) (sym taken.left) (rising_filter (λ (d : DependRow). not (eqb d.depend n)) 1 olds high rise)
