-- How any keeper goes on from call to call, and what a stop leaves of it.
use Rattle.std.proofs.Common.{◌≡◌, ◌∙◌, ℕ, Bool, false, List, [], ◌∷◌, ◌++◌, inl, inr, refl, sym, ap, subst}
use Rattle.std.specs.Prelude.{◌⊎◌}
use Rattle.std.specs.List.{Any}
use Rattle.std.proofs.lemmas.List.Elements.{Contains-append_left, Contains-push_cases}
use Rattle.std.proofs.lemmas.List.Quantifiers.{Any-push}
use Rattle.farm_keeper.specs.declared.row.Batch.{Batch}
use Rattle.farm_keeper.specs.Rows.{Rows, after}
use Rattle.fault_counts.specs.Counts.{incremented_if}
use Rattle.farm_keeper.specs.Keeping.{Continues, HasKept, HoldsWith, Keeps, LeavesSome, LeavesTaken, MayLeave, MayRemain}

-- ---- how it goes on

-- a keeper that isn't asked
pub Continues-same : {K : Type 0} (tells : K → Type 0) (faults : K → ℕ) (k : K) → Continues tells faults k k false
Continues-same tells faults k = record { told = λ now. now; counted = refl }

-- what failed is as it is said
pub Continues-as : {K : Type 0} (tells : K → Type 0) (faults : K → ℕ) (before now : K) (failed said : Bool) → failed ≡ said → Continues tells faults before now failed
    → Continues tells faults before now said
Continues-as tells faults before now failed said is goes = subst (Continues tells faults before now) is goes

-- one call after another in which the store didn't fail
pub Continues-then : {K : Type 0} (tells : K → Type 0) (faults : K → ℕ) (before mid now : K) (failed : Bool) → Continues tells faults before mid false
    → Continues tells faults mid now failed → Continues tells faults before now failed
Continues-then tells faults before mid now failed first second = record {
  told = λ tells_now. first.told (second.told tells_now);
  counted = second.counted ∙ ap (incremented_if failed) first.counted;
}

-- ---- what a stop leaves

-- after an Ok of a commit
pub HasKept-taken : (batch : Batch) (holds holds' left' : Rows → Type 0) (rows : Rows) → holds rows
    → HoldsWith batch holds holds' → LeavesTaken batch holds left' → LeavesSome left' → HasKept holds' left' (after batch rows) []
HasKept-taken batch holds holds' left' rows held takes leaves some = record {
  held = takes rows held;
  remains = λ other now. inl (leaves rows held other now);
  some = some;
}

any_left : (P : Batch → Type 0) (xs ys : List Batch) → Any P xs → Any P (xs ++ ys)
any_left P xs ys (k, x, within, is, holds) =
    let there = Contains-append_left xs ys x (k, within, is) in
    (there.0, x, there.1, there.2, holds)

remains_more : (batch : Batch) (rows : Rows) (refused : List Batch) (other : Rows) → MayRemain rows refused other → MayRemain rows (refused ++ batch ∷ []) other
remains_more batch rows refused other (inl is) = inl is
remains_more batch rows refused other (inr one) = inr (any_left (λ b. other ≡ after b rows) refused (batch ∷ []) one)

remains_new : (batch : Batch) (rows : Rows) (refused : List Batch) (other : Rows) → (before : MayRemain rows refused other ⊎ (other ≡ after batch rows))
    → MayRemain rows (refused ++ batch ∷ []) other
remains_new batch rows refused other (inl before) = remains_more batch rows refused other before
remains_new batch rows refused other (inr is) = inr (Any-push (λ b. other ≡ after b rows) refused batch is)

any_pushed : (P : Batch → Type 0) (xs : List Batch) (y : Batch) → Any P (xs ++ y ∷ []) → Any P xs ⊎ P y
any_pushed P xs y (k, x, within, is, holds) = elim (Contains-push_cases xs y x (k, within, is)) [
  | inl there ↦ inl (there.0, x, there.1, there.2, holds)
  | inr same ↦ inr (subst P (sym same) holds)
]

-- what is left where one batch more was refused
pub remains_or : (batch : Batch) (rows : Rows) (refused : List Batch) (other : Rows) → MayRemain rows (refused ++ batch ∷ []) other
    → MayRemain rows refused other ⊎ (other ≡ after batch rows)
remains_or batch rows refused other (inl is) = inl (inl is)
remains_or batch rows refused other (inr one) = elim (any_pushed (λ b. other ≡ after b rows) refused batch one) [
  | inl before ↦ inl (inr before)
  | inr is ↦ inr is
]

either : {A B C : Type 0} → (A → B) → A ⊎ C → B ⊎ C
either f (inl a) = inl (f a)
either f (inr c) = inr c

-- after an Err of a commit
pub HasKept-refused : (batch : Batch) (holds left holds' left' : Rows → Type 0) (rows : Rows) (refused : List Batch)
    → HasKept holds left rows refused → Keeps holds holds' → MayLeave batch holds left left' → LeavesSome left'
    → HasKept holds' left' rows (refused ++ batch ∷ [])
HasKept-refused batch holds left holds' left' rows refused kept keeps leaves some = record {
  held = keeps rows kept.held;
  remains = λ other now. remains_new batch rows refused other (either (kept.remains other) (leaves rows kept.held other now));
  some = some;
}

-- after a load
pub HasKept-loaded : (holds left holds' left' : Rows → Type 0) (rows : Rows) (refused : List Batch)
    → HasKept holds left rows refused → Keeps holds holds' → Keeps left' left → LeavesSome left' → HasKept holds' left' rows refused
HasKept-loaded holds left holds' left' rows refused kept keeps leaves some = record {
  held = keeps rows kept.held;
  remains = λ other now. kept.remains other (leaves other now);
  some = some;
}
