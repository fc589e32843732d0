-- The mark by which a line was answered, by the commit that the store refuses.
use Rattle.std.proofs.Common.{◌≡◌, ◌∙◌, ℕ, suc, zero, ◌<◌, Bool, true, false, List, [], ◌∷◌, length, take, Option, None, Some, refl, sym, ap, subst, arith}
use Rattle.std.specs.Prelude.{slice_get}
use Rattle.std.proofs.lemmas.Bool.{false≢true}
use Rattle.std.proofs.lemmas.Option.{same_Some, slice_get_within}
use Rattle.farm_types.specs.declared.entry.Entry.{Entry}
use Rattle.farm_types.specs.Dispatch.{round_for}
use Rattle.farm_types.specs.Farm.{Farm, host_named}
use Rattle.farm_types.specs.Step.{after, refusal_of}
use Rattle.farm_lines.specs.declared.asked.Asked.TheVariants as asked
use Rattle.farm_lines.specs.declared.report.Report.{Report}
use Rattle.farm_lines.specs.Asked.{heard_entry}
use Rattle.farm_lines.specs.Transcript.{Answered, Mark, Plain, Memory, Store, CutAfter, StoreAfter, LatePlain, LateCut, LateStore, accepted_answer, is_store_mark, marked_answer, report_answer, unless_memory}
use Rattle.line_answers.specs.LineAnswers.{MayStore, is_calm, reported}
use Rattle.world_law.specs.Lines.{mark_of}
use Rattle.world_answers.specs.Marks.{WasTold}
use Rattle.world_answers.specs.Refusing.{new_refusing}
use Rattle.world_answers.specs.Reporting.{trues}
use Rattle.world_answers.specs.Walking.{AreSaid}
use Rattle.world_answers.proofs.Refusals.{fails_at, never_fails, not_past, said_length}

within_take : (k : ℕ) (es : List Entry) → k < length es → length (take k es) ≡ k
within_take zero es below = refl
within_take (suc k) [] below = absurd (omega (arith, below))
within_take (suc k) (e ∷ es) below = ap suc (within_take k es (omega (arith, below)))

-- ---- what is made of a report that the farm takes

unless_calm : (mark : Mark) (a : Answered) → is_calm mark ≡ true → unless_memory mark a ≡ a
unless_calm Plain a calm = refl
unless_calm Memory a calm = absurd (false≢true calm)
unless_calm Store a calm = refl
unless_calm (CutAfter k) a calm = refl
unless_calm (StoreAfter k) a calm = refl
unless_calm LatePlain a calm = refl
unless_calm (LateCut k) a calm = refl
unless_calm (LateStore k) a calm = refl

module _ (f : Farm) (report : Report) (moment host : ℕ) (accepted : refusal_of f (heard_entry report moment) ≡ None)
    (named : host_named f report.heard.host ≡ Some host) where
  abbrev heard : Entry
  heard = heard_entry report moment

  abbrev pub round : List Entry
  round = round_for (after f heard) host moment

  pub reported_by : (mark : Mark) → is_calm mark ≡ true → reported f report moment mark ≡ marked_answer f host report heard round mark
  reported_by mark calm =
      unless_calm mark (report_answer f report moment mark (refusal_of f heard)) calm
      ∙ (ap (report_answer f report moment mark) accepted ∙ ap (accepted_answer f report moment mark) named)

  -- the store refuses nothing
  pub none_refused : (mark : Mark) → is_calm mark ≡ true
      → WasTold f (reported f report moment Plain) (reported f report moment mark) (is_store_mark mark) None → mark ≡ Plain
  none_refused Plain calm told = refl
  none_refused Memory calm told = absurd (false≢true calm)
  none_refused Store calm told = absurd (never_fails f (reported f report moment Plain).entries (reported f report moment Store).entries (new_refusing None)
      told.0 refl told.1)
  none_refused (CutAfter k) calm told = absurd (false≢true calm)
  none_refused (StoreAfter k) calm told =
      absurd (never_fails f (reported f report moment Plain).entries (reported f report moment (StoreAfter k)).entries (new_refusing None) told.0 refl told.1)
  none_refused LatePlain calm told = absurd (false≢true calm)
  none_refused (LateCut k) calm told = absurd (false≢true calm)
  none_refused (LateStore k) calm told = absurd (false≢true calm)

  module _ (bs : List Bool) (number : ℕ) (said : AreSaid f (heard ∷ round) bs) (there : slice_get bs number ≡ Some true) where
    plain_said : AreSaid f (reported f report moment Plain).entries bs
    plain_said = subst (λ (a : Answered). AreSaid f a.entries bs) (sym (reported_by Plain refl)) said

    abbrev due : Option ℕ
    due = Some (trues (take number bs))

    -- all entries are recorded, and so the one whose commit is refused
    not_plain : WasTold f (reported f report moment Plain) (reported f report moment Plain) false due → Plain ≡ mark_of (Some number)
    not_plain told =
        absurd (not_past f (reported f report moment Plain).entries (reported f report moment Plain).entries bs number (new_refusing due) told.0 false
        plain_said there refl told.1
        (omega (arith, slice_get_within bs number true there, said_length f (reported f report moment Plain).entries bs plain_said)))

    -- the store refuses the commit of that number
    pub one_refused : (mark : Mark) → is_calm mark ≡ true → MayStore f moment (asked.Report report) mark
        → WasTold f (reported f report moment Plain) (reported f report moment mark) (is_store_mark mark) due → mark ≡ mark_of (Some number)
    one_refused Plain calm may told = not_plain told
    one_refused Memory calm may told = absurd (false≢true calm)
    one_refused Store calm may told =
        let at : length (reported f report moment Store).entries ≡ number =
        fails_at f (reported f report moment Plain).entries (reported f report moment Store).entries bs number (new_refusing due) told.0 plain_said there refl
        told.1 in
        let none : length (reported f report moment Store).entries ≡ 0 = ap (λ (a : Answered). length a.entries) (reported_by Store refl) in
        ap (λ (n : ℕ). mark_of (Some n)) (sym none ∙ at)
    one_refused (CutAfter k) calm may told = absurd (false≢true calm)
    one_refused (StoreAfter k) calm may told =
        let at : length (reported f report moment (StoreAfter k)).entries ≡ number =
        fails_at f (reported f report moment Plain).entries (reported f report moment (StoreAfter k)).entries bs number (new_refusing due) told.0 plain_said
        there refl told.1 in
        let many : length (reported f report moment (StoreAfter k)).entries ≡ suc (length (take k round)) =
        ap (λ (a : Answered). length a.entries) (reported_by (StoreAfter k) refl) in
        let left = subst (λ (h : ℕ). k < length (round_for (after f heard) h moment)) (same_Some may.host host (sym may.named ∙ named)) may.left in
        let is : suc k ≡ number = ap suc (sym (within_take k round left)) ∙ (sym many ∙ at) in
        ap (λ (n : ℕ). mark_of (Some n)) is
    one_refused LatePlain calm may told = absurd (false≢true calm)
    one_refused (LateCut k) calm may told = absurd (false≢true calm)
    one_refused (LateStore k) calm may told = absurd (false≢true calm)
