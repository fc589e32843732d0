-- What a keeper has, of a farm that its rows say, and which farm they say.
use Rattle.std.proofs.Common.{◌≡◌, refl, sym, ap, subst, ◌∙◌, ℕ, List, [], inl, inr, arith, Result}
use Rattle.std.specs.FinMap.{empty}
use Rattle.std.specs.List.{Any}
use Rattle.farm_types.specs.Farm.{Farm, empty_farm}
use Rattle.farm_rows.specs.Recovery.{Said}
use Rattle.farm_rows.specs.declared.head_row.TheConstants.{ROW_FORMAT}
use Rattle.farm_keeper.specs.declared.row.Batch.{Batch}
use Rattle.farm_keeper.specs.declared.row.Row.{Row}
use Rattle.farm_keeper.specs.Keeping.{HasKept, Keeps, MayRemain}
use Rattle.farm_keeper.specs.Rows.{Lists, Rows, rows_from}
use Rattle.farm_keeper.specs.Rows as batched
use Rattle.farm_keeper.proofs.RowLaws.{Lists-from, Lists-only}
use Rattle.farm_load.specs.recorder.specs.Recording.{HasRecorded}
use Rattle.recovery.specs.Migration.{HasRows}
use Rattle.recovery.specs.Recovered.{recovered, spelled_rows}
use Rattle.recovery.specs.declared.fault.RecoverFault.{RecoverFault}
use Rattle.store_law.specs.Stored.{stored, stored_in}
use Rattle.session.specs.Opening.{BeginsWith, MayOpen}
use Rattle.session.specs.Words.{WordForm, Demo, IsScript, IsStated, Load, Script}

-- ---- what a keeper has

none_any : {X : Type 0} (P : X → Type 0) → Any P [] → ⊥
none_any P (k, x, within, is, holds) = omega (arith, within)

remains_rows : (rows other : Rows) → MayRemain rows [] other → other ≡ rows
remains_rows rows other (inl is) = is
remains_rows rows other (inr one) = absurd (none_any (λ (b : Batch). other ≡ batched.after b rows) one)

-- no commit was refused: the rows held are the farm's, and a stop leaves these
pub recorded_of : (held left : Rows → Type 0) (rows : Rows) (f : Farm) → stored f ≡ rows → HasKept held left rows [] → HasRecorded held left f
recorded_of held left rows f is kept =
    record { held = subst held (sym is) kept.held; remains = λ other there. inl (remains_rows rows other (kept.remains other there) ∙ sym is) }

-- the rows of a farm that was recovered of a list are those of the list
stored_of : (format : ℕ) (list : List Row) (rows : Rows) (f : Farm) → Lists list rows → spelled_rows format f ≡ list → stored_in format f ≡ rows
unfolding stored_in
stored_of format list rows f lists is = ap rows_from is ∙ Lists-from list rows lists

pub stored_empty : stored empty_farm ≡ empty
unfolding stored_in
stored_empty = refl

-- ---- which farm its rows say

-- the rows that were held are this list
pub says_list : (tells : Type 0) (held : Rows → Type 0) (list : List Row) (r : Result Said RecoverFault) → (tells → (rows : Rows) → held rows → Lists list rows)
    → recovered list ≡ r → tells → (rows : Rows) → held rows → (other : List Row) → Lists other rows → recovered other ≡ r
says_list tells held list r listed is told rows there other lists =
    subst (λ (xs : List Row). recovered xs ≡ r) (Lists-only list other rows (listed told rows there) lists) is

-- ---- before the opening

-- a farm that is stated begins with no rows
stated_empty : (form : WordForm) (held left : Rows → Type 0) → IsStated form → MayOpen form held left → HasKept held left empty [] × ((rows : Rows) → held rows → rows ≡ empty)
stated_empty Demo held left stated may = may
stated_empty (Load n) held left stated may = may
stated_empty (Script store) held left stated may = absurd stated

pub made_recorded : (form : WordForm) (held left : Rows → Type 0) (f : Farm) → f ≡ empty_farm → IsStated form → MayOpen form held left → HasRecorded held left f
made_recorded form held left f is stated may = recorded_of held left empty f (ap stored is ∙ stored_empty) (stated_empty form held left stated may).0

-- and so with the empty farm, whatever its keeper tells
pub stated_begins : (form : WordForm) (tells : Type 0) (held : Rows → Type 0) (f : Farm) → IsStated form → f ≡ empty_farm → BeginsWith form tells held f
stated_begins Demo tells held f stated is = is
stated_begins (Script store) tells held f stated is = absurd stated
stated_begins (Load n) tells held f stated is = is

pub script_kept : (form : WordForm) (held left : Rows → Type 0) → IsScript form → MayOpen form held left → (rows : Rows) × HasKept held left rows []
script_kept Demo held left script may = absurd script
script_kept (Script store) held left script may = may
script_kept (Load n) held left script may = absurd script

-- the keeper has the rows of the farm that was recovered of those that were loaded, in their format
pub loaded_rows : (form : WordForm) (held left held' left' : Rows → Type 0) (list : List Row) (format : ℕ) (f : Farm) → IsScript form → MayOpen form held left
    → ((rows : Rows) → held rows → Lists list rows) → Keeps held held' → Keeps left' left → spelled_rows format f ≡ list → HasRows held' left' format f
loaded_rows form held left held' left' list format f script may listed keeps leaves is =
    let has = script_kept form held left script may in
    let same : stored_in format f ≡ has.0 = stored_of format list has.0 f (listed has.0 has.1.held) is in
    record {
      held = subst held' (sym same) (keeps has.0 has.1.held);
      remains = λ other now. remains_rows has.0 other (has.1.remains other (leaves other now)) ∙ sym same;
    }

-- and it has no others
pub loaded_only : (held : Rows → Type 0) (list : List Row) (format : ℕ) (f : Farm) → ((rows : Rows) → held rows → Lists list rows) → spelled_rows format f ≡ list
    → (rows : Rows) → held rows → rows ≡ stored_in format f
loaded_only held list format f listed is rows there = sym (stored_of format list rows f (listed rows there) is)

-- the farm is the one that the keeper has, where its rows are as they are written
pub rows_recorded : (holds left : Rows → Type 0) (f : Farm) → HasRows holds left ROW_FORMAT f → HasRecorded holds left f
rows_recorded holds left f has = record { held = has.held; remains = λ rows now. inl (has.remains rows now) }
