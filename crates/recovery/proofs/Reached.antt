-- Drafts that rows lead to.
use Rattle.std.proofs.Common.{◌≡◌, ◌∙◌, Bool, true, false, cond, List, [], ◌∷◌, ◌++◌, Some, None, sym, ap, subst}
use Rattle.std.specs.Prelude.{Result, Ok, Err}
use Rattle.std.proofs.lemmas.List.{append-nil, append_assoc}
use Rattle.farm_types.specs.Farm.{Farm}
use Rattle.farm_rows.specs.declared.farm_row.FarmRow.{FarmRow}
use Rattle.farm_rows.specs.Recovery.{StoredKey, end_fault, ended, farm_said, farm_with, format_after, key_of, with_stored}
use Rattle.stored_rows.specs.Told.{Accepts, Told, none_told}
use Rattle.recovery.specs.declared.fault.DraftFault.{DraftFault}
use Rattle.recovery.specs.declared.fault.DraftFault.TheVariants as draft_fault
use Rattle.recovery.specs.Drafts.{IsAdded, IsFinished, IsReached, IsSaid, LeadsOn, LeadsTo, said_as, said_from}

-- a row that is taken, before any others
pub said_taken : (old new : Told) (r : FarmRow) → Accepts true old r new → (rest : List FarmRow) → said_from old (r ∷ rest) ≡ said_from new rest
said_taken old new r took rest =
    ap (λ (b : Bool). cond b (farm_with (format_after old.format r) (Some (key_of r)) (with_stored old.farm r) rest) (Err (key_of r))) took.0 ∙ ap (λ (t : Told). said_from t rest) (sym took.1)

-- no rows at all
pub first_leads : (t : Told) → t ≡ none_told → LeadsTo [] t
first_leads t is = λ rest. ap (λ (u : Told). said_from u rest) (sym is)

pub first_reached : (t : Told) → t ≡ none_told → IsReached t
first_reached t is = ([], first_leads t is)

next_leads : (old new : Told) (r : FarmRow) → Accepts true old r new → (rows : List FarmRow) → LeadsTo rows old → LeadsTo (rows ++ r ∷ []) new
next_leads old new r took rows leads = λ rest. ap farm_said (append_assoc rows (r ∷ []) rest) ∙ (leads (r ∷ rest) ∙ said_taken old new r took rest)

pub next_reached : (old new : Told) (r : FarmRow) → Accepts true old r new → IsReached old → IsReached new
next_reached old new r took reached = (reached.0 ++ r ∷ [], next_leads old new r took reached.0 reached.1)

-- a row that isn't, before any others
broken_leads : (old new : Told) (r : FarmRow) → Accepts false old r new → (rows rest : List FarmRow) → LeadsTo rows old → farm_said (rows ++ r ∷ rest) ≡ Err (key_of r)
broken_leads old new r left rows rest leads =
    leads (r ∷ rest) ∙ ap (λ (b : Bool). cond b (farm_with (format_after old.format r) (Some (key_of r)) (with_stored old.farm r) rest) (Err (key_of r))) left.0

pub leads_on : (old : Told) (r : FarmRow) (new : Told) (result : Result (Unit {0}) DraftFault) → IsAdded old r new result → LeadsOn old r new result
leads_on old r new (Ok done) took = next_leads old new r took
leads_on old r new (Err (draft_fault.Breaks kind id)) left = λ rows rest leads. broken_leads old new r left.0 rows rest leads ∙ (λ i. Err (sym left.1 i))
leads_on old r new (Err draft_fault.NoMemory) h = tt

-- taken or not
pub either_reached : (taken : Bool) (old new : Told) (r : FarmRow) → Accepts taken old r new → IsReached old → IsReached new
either_reached true old new r took reached = next_reached old new r took reached
either_reached false old new r took reached = subst IsReached (sym took.1) reached

-- after the last row
pub said_ended : (t : Told) → end_fault t.farm ≡ None → said_from t [] ≡ Ok (said_as t t.farm)
said_ended t fine = ap (ended t.format t.farm) fine

pub said_broken : (t : Told) (key : StoredKey) → end_fault t.farm ≡ Some key → said_from t [] ≡ Err key
said_broken t key broken = ap (ended t.format t.farm) broken

pub whole_said : (t : Told) (reached : IsReached t) → end_fault t.farm ≡ None → farm_said (reached.0 ++ []) ≡ Ok (said_as t t.farm)
whole_said t reached fine = reached.1 [] ∙ said_ended t fine

ended_leads : (t : Told) (rows : List FarmRow) → LeadsTo rows t → farm_said rows ≡ said_from t []
ended_leads t rows leads = ap farm_said (sym (append-nil rows)) ∙ leads []

pub is_said : (t : Told) (result : Result Farm DraftFault) → IsFinished t result → IsSaid t result
is_said t (Ok f) h = λ rows leads. ended_leads t rows leads ∙ h
is_said t (Err (draft_fault.Breaks kind id)) h = λ rows leads. ended_leads t rows leads ∙ h
is_said t (Err draft_fault.NoMemory) h = tt
