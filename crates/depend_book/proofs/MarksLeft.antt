-- The marks that are left where a job's depends are forgotten.
use Rattle.std.proofs.Common.{◌≡◌, ◌≤◌, ◌<◌, ℕ, zero, suc, ◌+◌, Bool, true, false, not, cond, eqb, List, [], ◌∷◌, ◌++◌, map, Some, refl, sym, ap, ◌∙◌, arith, option_map}
use Rattle.std.specs.Prelude.{◌||◌}
use Rattle.std.specs.List.{slice_get, filter, list_any}
use Rattle.std.proofs.lemmas.Bool.{eq-eqb, ne_eqb}
use Rattle.std.proofs.lemmas.List.Elements.{filter-append}
use Rattle.std.proofs.lemmas.Option.{none-some, same_Some, slice_get-map}
use Rattle.farm_types.specs.declared.depend.DependRow.{DependRow}
use Rattle.farm_types.specs.declared.depend.MetRow.{MetRow}
use Rattle.farm_types.specs.Finish.{waits_by, without_waiter}
use Rattle.farm_types.specs.Rising.{IsRising, depend_key}
use Rattle.farm_types.proofs.Passes.{option_map-from}
use Rattle.depend_graph.specs.Graph.{Watch, Watched, is_met, is_satisfied}
use Rattle.depend_book.specs.Book.{DependLists, IsBook, is_kept_by, mark_of, marks_in, marks_of, waits_in_one, watch_number, without_waiter_in}
use Rattle.depend_book.specs.Forgotten.{marks_among}
use Rattle.depend_book.proofs.Forgotten.{at_least, one_waits}

-- ---- whether a depend is among those that are left

abbrev has_number : ℕ → List DependRow → Bool
has_number n rows = list_any (λ (d : DependRow). eqb d.depend n) rows

module _ (job : ℕ) where
  none_above : (n low : ℕ) (rows : List DependRow) (high : ℕ) → n < low → IsRising depend_key low rows high → has_number n (without_waiter job rows) ≡ false
  none_above n low [] high less rise = refl
  none_above n low (d ∷ ds) high less rise = by_test (not (waits_by job d)) (none_above n (d.depend + 1) ds high (omega (arith, rise.0, less)) rise.1) where
    by_test : (b : Bool) → has_number n (without_waiter job ds) ≡ false → has_number n (cond b (d ∷ without_waiter job ds) (without_waiter job ds)) ≡ false
    by_test true more = λ i. ne_eqb d.depend n (λ e. absurd (omega (arith, e, rise.0, less))) i || more i
    by_test false more = more

  is_left : (low : ℕ) (rows : List DependRow) (high p : ℕ) (d : DependRow) → IsRising depend_key low rows high → slice_get rows p ≡ Some d → has_number d.depend (without_waiter job rows) ≡ not (waits_by job d)
  is_left low [] high p d rise at = absurd (none-some d at)
  is_left low (x ∷ xs) high zero d rise at =
      let same : x ≡ d = same_Some x d at in
      let one : x.depend ≡ d.depend = ap depend_key same in
      by_test one (none_above d.depend (x.depend + 1) xs high (omega (arith, one)) rise.1) (not (waits_by job x)) ∙ ap (λ (y : DependRow). not (waits_by job y)) same
    where
      by_test : x.depend ≡ d.depend → has_number d.depend (without_waiter job xs) ≡ false → (b : Bool) → has_number d.depend (cond b (x ∷ without_waiter job xs) (without_waiter job xs)) ≡ b
      by_test one none true = ap (λ b. b || has_number d.depend (without_waiter job xs)) (eq-eqb x.depend d.depend one)
      by_test one none false = none
  is_left low (x ∷ xs) high (suc p) d rise at =
      by_test (at_least (x.depend + 1) xs high p d rise.1 at) (is_left (x.depend + 1) xs high p d rise.1 at) (not (waits_by job x))
    where
      by_test : x.depend + 1 ≤ d.depend → has_number d.depend (without_waiter job xs) ≡ not (waits_by job d) → (b : Bool) → has_number d.depend (cond b (x ∷ without_waiter job xs) (without_waiter job xs)) ≡ not (waits_by job d)
      by_test later more true = ap (λ b. b || has_number d.depend (without_waiter job xs)) (ne_eqb x.depend d.depend (λ e. absurd (omega (arith, e, later)))) ∙ more
      by_test later more false = more

-- ---- the marks of one depend, and of all

abbrev passes : (ℕ → Bool) → MetRow → Bool
passes test m = test m.depend

one_kind : (test : ℕ → Bool) (n : ℕ) (b : Bool) → test n ≡ b → (ws : List Watched) → filter (passes test) (map (mark_of n) ws) ≡ cond b (map (mark_of n) ws) []
one_kind test n true is [] = refl
one_kind test n false is [] = refl
one_kind test n true is (w ∷ ws) =
    ap (λ c. cond c (mark_of n w ∷ filter (passes test) (map (mark_of n) ws)) (filter (passes test) (map (mark_of n) ws))) is ∙ ap (λ (ms : List MetRow). mark_of n w ∷ ms) (one_kind test n true is ws)
one_kind test n false is (w ∷ ws) =
    ap (λ c. cond c (mark_of n w ∷ filter (passes test) (map (mark_of n) ws)) (filter (passes test) (map (mark_of n) ws))) is ∙ one_kind test n false is ws

one_left : (test : ℕ → Bool) (w : Watch) (b : Bool) → test w.depend ≡ b → filter (passes test) (marks_in w) ≡ cond b (marks_in w) []
one_left test w b is = by_kind (is_satisfied w) b is where
  by_kind : (s c : Bool) → test w.depend ≡ c → filter (passes test) (cond s [] (map (mark_of w.depend) (filter is_met w.groups))) ≡ cond c (cond s [] (map (mark_of w.depend) (filter is_met w.groups))) []
  by_kind true true is_c = refl
  by_kind true false is_c = refl
  by_kind false c is_c = one_kind test w.depend c is_c (filter is_met w.groups)

all_left : (test : ℕ → Bool) (kept : Watch → Bool) (ws : List Watch) → ((p : ℕ) (w : Watch) → slice_get ws p ≡ Some w → kept w ≡ test w.depend) → marks_of (filter kept ws) ≡ filter (passes test) (marks_of ws)
all_left test kept [] same = refl
all_left test kept (w ∷ ws) same = by_test (kept w) refl (all_left test kept ws (λ p v at. same (suc p) v at)) where
  by_test : (b : Bool) → kept w ≡ b → marks_of (filter kept ws) ≡ filter (passes test) (marks_of ws) → marks_of (cond b (w ∷ filter kept ws) (filter kept ws)) ≡ filter (passes test) (marks_in w ++ marks_of ws)
  by_test true is more =
      sym (filter-append (passes test) (marks_in w) (marks_of ws) ∙ λ i. one_left test w true (sym (same 0 w refl) ∙ is) i ++ sym more i)
  by_test false is more =
      sym (filter-append (passes test) (marks_in w) (marks_of ws) ∙ λ i. one_left test w false (sym (same 0 w refl) ∙ is) i ++ sym more i)

pub marks_left : (b : DependLists) (job : ℕ) → IsBook b → marks_of (without_waiter_in b job).graph.depends ≡ marks_among (without_waiter job b.rows) (marks_of b.graph.depends)
marks_left b job book =
    all_left (λ n. has_number n (without_waiter job b.rows)) (is_kept_by job b.rows) b.graph.depends
    (λ p w at.
    let read : option_map depend_key (slice_get b.rows p) ≡ Some w.depend = sym (slice_get-map depend_key b.rows p) ∙ (ap (λ (ns : List ℕ). slice_get ns p) book.numbers ∙ (slice_get-map watch_number b.graph.depends p ∙ ap (option_map watch_number) at)) in
    let d = option_map-from depend_key (slice_get b.rows p) w.depend read in
    let kept : is_kept_by job b.rows w ≡ not (waits_by job d.0) = ap (λ n. not (waits_in_one job b.rows n)) (sym d.2) ∙ ap not (one_waits job 1 b.rows b.next p d.0 book.rise d.1) in
    let left : has_number w.depend (without_waiter job b.rows) ≡ not (waits_by job d.0) = ap (λ n. has_number n (without_waiter job b.rows)) (sym d.2) ∙ is_left job 1 b.rows b.next p d.0 book.rise d.1 in
    kept ∙ sym left)
