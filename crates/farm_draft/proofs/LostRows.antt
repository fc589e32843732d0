-- Attempts that are lost: by two tests that agree, by one test after another, slot by slot, and where no host passes.
use Rattle.std.proofs.Common.{◌≡◌, ℕ, ◌+◌, Bool, true, false, cond, List, [], ◌∷◌, Option, Some, None, refl, sym, ap, subst, ◌∙◌, option_map}
use Rattle.std.specs.Prelude.{◌==◌}
use Rattle.std.specs.List.{slice_get}
use Rattle.std.proofs.lemmas.Bool.{false≢true}
use Rattle.std.proofs.lemmas.Option.{same_Some, slice_get-map}
use Rattle.farm_types.specs.declared.attempt.ProcRow.{ProcRow}
use Rattle.farm_types.specs.declared.slot_row.SlotRow.{SlotRow}
use Rattle.farm_types.specs.Farm.{changed_at, for_some}
use Rattle.farm_types.specs.Lost.{lose_on, lost_row, runs_on}
use Rattle.attempt_book.specs.Book.{first_on}
use Rattle.farm_books.specs.Install.{proc_in, procs_of}
use Rattle.farm_types.proofs.ChangedLists.{changed_at_kept}
use Rattle.farm_draft.specs.Ends.{IsEndOf, OnlyEnds}
use Rattle.farm_draft.specs.Lost.{lost_where}
use Rattle.farm_draft.proofs.FirstAttempts.{first_on-none, first_on-some, is_on}
use Rattle.farm_draft.proofs.Passed.{passed, passed_all, passed_next, passed_over}

-- ---- one slot

-- a slot stays without an attempt on such a host
pub lost_where-off : (test : ℕ → Bool) (s : SlotRow) → runs_on test s ≡ false → lost_where test s ≡ s
lost_where-off test s off = ap (λ b. cond b (lost_row s) s) off

-- it stays in its list
pub kept_slot : (slots : List SlotRow) (slot : ℕ) (test : ℕ → Bool) (s : SlotRow) → slice_get slots slot ≡ Some s → runs_on test s ≡ false → changed_at slots slot (lost_where test) ≡ slots
kept_slot slots slot test s at off =
    changed_at_kept slots slot (lost_where test) (λ x here. subst (λ (y : SlotRow). lost_where test y ≡ y) (same_Some s x (sym at ∙ here)) (lost_where-off test s off))

-- ---- two tests

module _ (test other : ℕ → Bool) (same : (n : ℕ) → test n ≡ other n) where
  alike_by : (o : Option ProcRow) → for_some o (λ (p : ProcRow). test p.host) ≡ for_some o (λ (p : ProcRow). other p.host)
  alike_by None = refl
  alike_by (Some p) = same p.host

  pub lose_alike : (slots : List SlotRow) → lose_on test slots ≡ lose_on other slots
  lose_alike [] = refl
  lose_alike (s ∷ ss) = ap (λ b. cond b (lost_row s) s ∷ lose_on test ss) (alike_by s.proc) ∙ ap (λ (ys : List SlotRow). lost_where other s ∷ ys) (lose_alike ss)

-- a test, then another: in all those that pass the first one, and of the others those that pass the second
module _ (first then all : ℕ → Bool) (passing : (n : ℕ) → first n ≡ true → all n ≡ true) (others : (n : ℕ) → first n ≡ false → then n ≡ all n) where
  twice_by : (s : SlotRow) (o : Option ProcRow) (b : Bool) → s.proc ≡ o → for_some o (λ (p : ProcRow). first p.host) ≡ b → lost_where then (cond b (lost_row s) s) ≡ lost_where all s
  twice_by s None true is on = absurd (false≢true on)
  twice_by s None false is on = lost_where-off then s (ap (λ (o : Option ProcRow). for_some o (λ (p : ProcRow). then p.host)) is) ∙ sym (lost_where-off all s (ap (λ (o : Option ProcRow). for_some o (λ (p : ProcRow). all p.host)) is))
  twice_by s (Some p) true is on =
      let runs : runs_on all s ≡ true = ap (λ (o : Option ProcRow). for_some o (λ (p : ProcRow). all p.host)) is ∙ passing p.host on in
      sym (ap (λ b. cond b (lost_row s) s) runs)
  twice_by s (Some p) false is on =
      let runs : runs_on then s ≡ runs_on all s =
      ap (λ (o : Option ProcRow). for_some o (λ (p : ProcRow). then p.host)) is ∙ (others p.host on ∙ sym (ap (λ (o : Option ProcRow). for_some o (λ (p : ProcRow). all p.host)) is)) in
      ap (λ b. cond b (lost_row s) s) runs

  pub lose_twice : (slots : List SlotRow) → lose_on then (lose_on first slots) ≡ lose_on all slots
  lose_twice [] = refl
  lose_twice (s ∷ ss) =
      ap (λ (y : SlotRow). y ∷ lose_on then (lose_on first ss)) (twice_by s s.proc (runs_on first s) refl refl)
      ∙ ap (λ (ys : List SlotRow). lost_where all s ∷ ys) (lose_twice ss)

-- ---- no host

module _ (test : ℕ → Bool) (none : (n : ℕ) → test n ≡ false) where
  none_by : (o : Option ProcRow) → for_some o (λ (p : ProcRow). test p.host) ≡ false
  none_by None = refl
  none_by (Some p) = none p.host

  pub lose_none : (slots : List SlotRow) → lose_on test slots ≡ slots
  lose_none [] = refl
  lose_none (s ∷ ss) = ap (λ (y : SlotRow). y ∷ lose_on test ss) (lost_where-off test s (none_by s.proc)) ∙ ap (λ (ys : List SlotRow). s ∷ ys) (lose_none ss)

-- ---- slots of a draft against those of its books

module _ (host : ℕ) (base slots : List SlotRow) (ends : OnlyEnds base slots) where
  off_by : (b : Bool) (old new : SlotRow) → IsEndOf b old new → is_on host old.proc ≡ false → is_on host new.proc ≡ false
  off_by true old new is off = ap (λ (s : SlotRow). is_on host s.proc) is ∙ off
  off_by false old new is off = ap (is_on host) is.1

  -- a slot that has no attempt on the host in the books has none in the draft
  pub stays_off : (i : ℕ) (x : SlotRow) → slice_get slots i ≡ Some x → ((o : Option ProcRow) → slice_get (procs_of base) i ≡ Some o → is_on host o ≡ false) → lost_where (λ n. n == host) x ≡ x
  stays_off i x at off =
      let old = ends i x at in
      let there : slice_get (procs_of base) i ≡ Some old.0.proc = slice_get-map proc_in base i ∙ ap (option_map proc_in) old.1 in
      lost_where-off (λ n. n == host) x (off_by old.2.0 old.0 x old.2.1 (off old.0.proc there))

  -- a host's attempts are lost one after another: those below a slot, and the first one from that slot on
  pub lost_next : (from slot : ℕ) → first_on (procs_of base) host from ≡ Some slot
      → changed_at (passed (lost_where (λ n. n == host)) from slots) slot (lost_where (λ n. n == host)) ≡ passed (lost_where (λ n. n == host)) (slot + 1) slots
  lost_next from slot at =
      let change = lost_where (λ n. n == host) in
      let first = first_on-some (procs_of base) host from slot at in
      ap (λ (ss : List SlotRow). changed_at ss slot change)
      (passed_over change from slot slots first.ahead (λ i x low below here. stays_off i x here (λ o there. first.before i o low below there)))
      ∙ passed_next change slot slots

  -- where there is none, all are lost
  pub lost_all : (from : ℕ) → first_on (procs_of base) host from ≡ None → passed (lost_where (λ n. n == host)) from slots ≡ lose_on (λ n. n == host) slots
  lost_all from none =
      passed_all (lost_where (λ n. n == host)) from slots (λ i x low here. stays_off i x here (λ o there. first_on-none (procs_of base) host from none i o low there))
