-- Keepers in memory over which a session may be opened.
use Rattle.std.proofs.Common.{◌∙◌, ap, inl, sym, subst}
use Rattle.std.specs.FinMap.{empty}
use Rattle.std.specs.Prelude.{ℕ, ◌≡◌, [], List, Option, None, Some, Result, Ok, Err, IfOk, refl}
use Rattle.farm_keeper.specs.declared.row.Batch.{Batch}
use Rattle.farm_keeper.specs.Keeping.{HasKept, MayRemain}
use Rattle.farm_keeper.specs.Memory.{Kept}
use Rattle.farm_keeper.specs.Rows.{Rows}
use Rattle.session.specs.Opening.{MayOpen}
use Rattle.session.specs.Words.{Demo, Load, Script, WordForm}

-- one that refused nothing
kept_all : (rows : Rows) → HasKept (λ held. held ≡ rows) (MayRemain rows []) rows []
kept_all rows = record { held = refl; remains = λ other now. now; some = ∣ (rows, inl refl) ∣₁ }

-- for the words of a script, whatever its rows are
script : (store : List ℕ) (rows : Rows) (refused : List Batch) → refused ≡ [] → MayOpen (Script store) (λ held. held ≡ rows) (MayRemain rows refused)
script store rows refused none = subst (λ bs. MayOpen (Script store) (λ held. held ≡ rows) (MayRemain rows bs)) (sym none) (rows, kept_all rows)

-- the form that is said, or another one
abbrev said_or : WordForm → Option WordForm → WordForm
said_or other None = other
said_or other (Some form) = form

pub may_open_script : (said : Option WordForm) (store : List ℕ) (rows : Rows) (refused : List Batch) → said ≡ Some (Script store) → refused ≡ []
    → (form : WordForm) → said ≡ Some form → MayOpen form (λ held. held ≡ rows) (MayRemain rows refused)
may_open_script said store rows refused is none form told =
    subst (λ f. MayOpen f (λ held. held ≡ rows) (MayRemain rows refused)) (ap (said_or (Script store)) (sym is ∙ told)) (script store rows refused none)

-- for whatever words, where there are no rows either
of_no_rows : (form : WordForm) → MayOpen form (λ held. held ≡ empty) (MayRemain empty [])
of_no_rows Demo = (kept_all empty, λ rows held. held)
of_no_rows (Script store) = (empty, kept_all empty)
of_no_rows (Load n) = (kept_all empty, λ rows held. held)

fresh : (form : WordForm) (rows : Rows) (refused : List Batch) → rows ≡ empty → refused ≡ [] → MayOpen form (λ held. held ≡ rows) (MayRemain rows refused)
fresh form rows refused is_empty none =
    subst (λ rs. MayOpen form (λ held. held ≡ rs) (MayRemain rs refused)) (sym is_empty)
    (subst (λ bs. MayOpen form (λ held. held ≡ empty) (MayRemain empty bs)) (sym none) (of_no_rows form))

pub may_open_fresh : {E : Type 0} (said : Option WordForm) (made : Result Kept E) → IfOk made (λ (keeper : Kept). keeper.rows ≡ empty)
    → IfOk made (λ (keeper : Kept). keeper.refused ≡ [])
    → IfOk made (λ (keeper : Kept). (form : WordForm) → said ≡ Some form → MayOpen form (λ held. held ≡ keeper.rows) (MayRemain keeper.rows keeper.refused))
may_open_fresh said (Ok keeper) is_empty none = λ form told. fresh form keeper.rows keeper.refused is_empty none
may_open_fresh said (Err why) is_empty none = tt
