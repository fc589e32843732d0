-- Entries that are recorded in turn, and what a farm's opening leaves.
use Rattle.std.proofs.Common.{◌≡◌, ℕ, zero, suc, refl, sym, ap, subst, ◌∙◌, List, [], ◌∷◌, take, Result, Ok, Err, IsErrAnd}
use Rattle.std.proofs.lemmas.Result.{err_from_is_err_and}
use Rattle.farm_types.specs.declared.entry.Entry.{Entry}
use Rattle.farm_types.specs.Farm.{Farm}
use Rattle.farm_types.specs.Run.{IsLegal, run_of}
use Rattle.farm_types.specs.Step.{after}
use Rattle.farm_gen.specs.Load.{load_entries}
use Rattle.farm_law.specs.DemoRun.{demo_entries}
use Rattle.farm_load.specs.recorder.specs.declared.refusal.RecordFault.{RecordFault}
use Rattle.session.specs.Opening.{GoesThrough}
use Rattle.session.specs.Words.{WordForm, Demo, Load, Script, opened_at, opened_entry, opening_entries}

-- ---- entries in turn

-- nothing was recorded
pub goes_nowhere : (f : Farm) (es : List Entry) (why : RecordFault) (r : Result (Unit {0}) RecordFault) → IsErrAnd r (λ told. told ≡ why) → GoesThrough f es r f
goes_nowhere f es why r err =
    let p = err_from_is_err_and r err in
    subst (λ (q : Result (Unit {0}) RecordFault). GoesThrough f es q f) (sym p.1) (0, refl)

run_one : (f : Farm) (e : Entry) (k : ℕ) → run_of f (take (suc k) (e ∷ [])) ≡ after f e
run_one f e zero = refl
run_one f e (suc k) = refl

stops_first : (f new : Farm) (e : Entry) (es : List Entry) (why : RecordFault) → GoesThrough {T = Unit {0}} f (e ∷ []) (Err why) new → GoesThrough {T = Unit {0}} f (e ∷ es) (Err why) new
stops_first f new e es why (zero, is) = (0, is)
stops_first f new e es why (suc k, is) = (1, is ∙ run_one f e k)

-- the first one wasn't recorded, and that is told
pub stops_there : (f new : Farm) (e : Entry) (es : List Entry) (why : RecordFault) (r : Result (Unit {0}) RecordFault) → IsErrAnd r (λ told. told ≡ why)
    → GoesThrough {T = Unit {0}} f (e ∷ []) (Err why) new → GoesThrough f (e ∷ es) r new
stops_there f new e es why r err goes =
    let p = err_from_is_err_and r err in
    subst (λ (q : Result (Unit {0}) RecordFault). GoesThrough f (e ∷ es) q new) (sym (p.1 ∙ ap Err p.2)) (stops_first f new e es why goes)

-- the first one was, and then these
pub goes_on : (f mid new : Farm) (e : Entry) (es : List Entry) (r : Result (Unit {0}) RecordFault) → mid ≡ after f e → GoesThrough mid es r new → GoesThrough f (e ∷ es) r new
goes_on f mid new e es (Ok done) first goes = goes ∙ ap (λ (g : Farm). run_of g es) first
goes_on f mid new e es (Err why) first (done, is) = (suc done, is ∙ ap (λ (g : Farm). run_of g (take done es)) first)

-- ---- the opening, and then the entries of the form

abbrev pub later_entries : WordForm → ℕ → List Entry
later_entries Demo moment = demo_entries moment
later_entries (Script store) moment = []
later_entries (Load n) moment = load_entries n

pub opening_is : (form : WordForm) (moment : ℕ) → opening_entries form moment ≡ opened_entry (opened_at form moment) ∷ later_entries form moment
opening_is Demo moment = refl
opening_is (Script store) moment = refl
opening_is (Load n) moment = refl

pub opening_stops : (f new : Farm) (form : WordForm) (moment at : ℕ) (why : RecordFault) (r : Result (Unit {0}) RecordFault) → at ≡ opened_at form moment → IsErrAnd r (λ told. told ≡ why)
    → GoesThrough {T = Unit {0}} f (opened_entry at ∷ []) (Err why) new → GoesThrough f (opening_entries form moment) r new
opening_stops f new form moment at why r is err goes =
    subst (λ (es : List Entry). GoesThrough f es r new) (sym (opening_is form moment))
    (stops_there f new (opened_entry (opened_at form moment)) (later_entries form moment) why r err
    (subst (λ (n : ℕ). GoesThrough {T = Unit {0}} f (opened_entry n ∷ []) (Err why) new) is goes))

pub opening_goes : (f mid new : Farm) (form : WordForm) (moment at : ℕ) (r : Result (Unit {0}) RecordFault) → at ≡ opened_at form moment → mid ≡ after f (opened_entry at)
    → GoesThrough mid (later_entries form moment) r new → GoesThrough f (opening_entries form moment) r new
opening_goes f mid new form moment at r is first goes =
    subst (λ (es : List Entry). GoesThrough f es r new) (sym (opening_is form moment))
    (goes_on f mid new (opened_entry (opened_at form moment)) (later_entries form moment) r (first ∙ ap (λ (n : ℕ). after f (opened_entry n)) is) goes)

-- ---- a list of entries, one by one

-- what goes on from here with those that are left goes through all of them from the first farm
pub record IsUnderWay (first : Farm) (all : List Entry) (now : Farm) (rest : List Entry) : Type 0 where
  pub legal : IsLegal now rest
  pub on : (r : Result (Unit {0}) RecordFault) (new : Farm) → GoesThrough now rest r new → GoesThrough first all r new

pub way_start : (f : Farm) (es : List Entry) → IsLegal f es → IsUnderWay f es f es
way_start f es legal = record { legal = legal; on = λ r new goes. goes }

-- the next one was recorded
pub way_next : (first : Farm) (all : List Entry) (now new : Farm) (e : Entry) (rest : List Entry) → new ≡ after now e → IsUnderWay first all now (e ∷ rest) → IsUnderWay first all new rest
way_next first all now new e rest is way =
    record {
      legal = subst (λ (f : Farm). IsLegal f rest) (sym is) way.legal.1;
      on = λ r last goes. way.on r last (goes_on now new last e rest r is goes);
    }

-- it wasn't
pub way_stops : (first : Farm) (all : List Entry) (now new : Farm) (e : Entry) (rest : List Entry) (why : RecordFault) (r : Result (Unit {0}) RecordFault) → IsErrAnd r (λ told. told ≡ why)
    → GoesThrough {T = Unit {0}} now (e ∷ []) (Err why) new → IsUnderWay first all now (e ∷ rest) → GoesThrough first all r new
way_stops first all now new e rest why r err goes way = way.on r new (stops_there now new e rest why r err goes)

pub way_ends : (first : Farm) (all : List Entry) (now : Farm) → IsUnderWay first all now [] → now ≡ run_of first all
way_ends first all now way = way.on (Ok tt) now refl
