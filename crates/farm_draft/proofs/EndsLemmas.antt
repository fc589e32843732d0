-- Slots whose attempts only end: none does, one change after another, attempts that are lost, and completions.
use Rattle.std.proofs.Common.{◌≡◌, ℕ, Bool, true, false, cond, List, [], ◌∷◌, Option, Some, None, refl, sym, ap, subst, ◌∙◌, option_map}
use Rattle.std.specs.List.{slice_get}
use Rattle.std.specs.Option.{IsSome, is_some}
use Rattle.std.proofs.lemmas.Bool.{false≢true}
use Rattle.farm_types.specs.declared.attempt.DoneItem.{DoneItem}
use Rattle.farm_types.specs.declared.attempt.Exit.{Exit}
use Rattle.farm_types.specs.declared.attempt.ProcRow.{ProcRow}
use Rattle.farm_types.specs.declared.slot_row.Frame.{Frame}
use Rattle.farm_types.specs.declared.slot_row.SlotRow.{SlotRow}
use Rattle.farm_types.specs.declared.states.FrameState.TheVariants as frame_state
use Rattle.farm_types.specs.declared.verdict.Verdict.{Verdict}
use Rattle.farm_types.specs.declared.verdict.Verdict.TheVariants as verdict
use Rattle.farm_types.specs.Farm.{Farm, for_some, changed_at, job_at}
use Rattle.farm_types.specs.Lost.{lose_on, lost_row, runs_on}
use Rattle.farm_types.specs.Run.{IsSound, HasItsAttempt}
use Rattle.farm_types.specs.Step.{end_all, end_attempt, ended_row, is_attempt, is_live, judged, verdict_for}
use Rattle.job_book.specs.Book.{IsSameFrame}
use Rattle.farm_types.proofs.Changed.{changed_at_each, mapped_each}
use Rattle.farm_draft.specs.Ends.{AreFramed, IsEndOf, MayEnd, OnlyEnds}

-- ---- none ends, and one change after another

pub ends_same : (slots : List SlotRow) → OnlyEnds slots slots
ends_same slots i s at = (s, at, (true, refl))

frame_then : (o p q : Option Frame) → IsSameFrame o p → IsSameFrame p q → IsSameFrame o q
frame_then None p q first second = absurd first
frame_then (Some x) None q first second = absurd first
frame_then (Some x) (Some y) None first second = absurd second
frame_then (Some x) (Some y) (Some z) first second = second ∙ ap (λ (w : Frame). record w { state = z.state; retries = z.retries }) first

end_then : (b c : Bool) (x y z : SlotRow) → IsEndOf b x y → IsEndOf c y z → MayEnd x z
end_then true c x y z first second = (c, subst (λ (w : SlotRow). IsEndOf c w z) first second)
end_then false true x y z first second = (false, subst (λ (w : SlotRow). IsEndOf false x w) (sym second) first)
end_then false false x y z first second = (false, (frame_then x.frame y.frame z.frame first.0 second.0, second.1))

pub ends_then : (xs ys zs : List SlotRow) → OnlyEnds xs ys → OnlyEnds ys zs → OnlyEnds xs zs
ends_then xs ys zs first second i z at =
    let y = second i z at in
    let x = first i y.0 y.1 in
    (x.0, x.1, end_then x.2.0 y.2.0 x.0 y.0 z x.2.1 y.2.1)

-- ---- frames

framed_at : (place version : ℕ) (frame : Option Frame) (proc : Option ProcRow) → HasItsAttempt place version frame proc → IsSome proc → IsSome frame
framed_at place version (Some x) proc has there = refl
framed_at place version None None has there = there
framed_at place version None (Some p) has there = absurd has

pub framed_sound : (f : Farm) → IsSound f → AreFramed f.slots
framed_sound f ok i s at there = framed_at i s.version s.frame s.proc (ok.attempts i s at) there

framed_by : (b : Bool) (x y : SlotRow) → IsEndOf b x y → (IsSome x.proc → IsSome x.frame) → IsSome y.proc → IsSome y.frame
framed_by true x y ends framed = subst (λ (w : SlotRow). IsSome w.proc → IsSome w.frame) (sym ends) framed
framed_by false x y ends framed = λ there. absurd (false≢true (sym (ap is_some ends.1) ∙ there))

-- where attempts only end, each that is left has its frame
pub framed_kept : (xs ys : List SlotRow) → OnlyEnds xs ys → AreFramed xs → AreFramed ys
framed_kept xs ys ends framed i y at there =
    let x = ends i y at in
    framed_by x.2.0 x.0 y x.2.1 (framed i x.0 x.1) there

-- ---- attempts that are lost

lost_frame : (o : Option Frame) → IsSome o → IsSameFrame o (option_map (λ (frame : Frame). record frame { state = frame_state.Waiting }) o)
lost_frame None there = absurd (false≢true there)
lost_frame (Some x) there = refl

there_by : (test : ProcRow → Bool) (o : Option ProcRow) → for_some o test ≡ true → IsSome o
there_by test None on = on
there_by test (Some p) on = refl

lost_by : (test : ℕ → Bool) (s : SlotRow) (b : Bool) → runs_on test s ≡ b → (IsSome s.proc → IsSome s.frame) → MayEnd s (cond b (lost_row s) s)
lost_by test s true on framed = (false, (lost_frame s.frame (framed (there_by (λ p. test p.host) s.proc on)), refl))
lost_by test s false on framed = (true, refl)

pub ends_lost : (test : ℕ → Bool) (slots : List SlotRow) → AreFramed slots → OnlyEnds slots (lose_on test slots)
ends_lost test slots framed =
    mapped_each (λ i new. (old : SlotRow) × (slice_get slots i ≡ Some old) × MayEnd old new) slots (λ (s : SlotRow). cond (runs_on test s) (lost_row s) s)
    (λ i s at. (s, at, lost_by test s (runs_on test s) refl (framed i s at)))

-- the same, of slots whose attempts have only ended so far
pub ends_lose : (test : ℕ → Bool) (base slots : List SlotRow) → AreFramed base → OnlyEnds base slots → OnlyEnds base (lose_on test slots)
ends_lose test base slots framed ends = ends_then base slots (lose_on test slots) ends (ends_lost test slots (framed_kept base slots ends framed))

-- ---- completions

judged_frame : (x : Frame) (v : Verdict) → judged x v ≡ record x { state = (judged x v).state; retries = (judged x v).retries }
judged_frame x verdict.Succeeded = refl
judged_frame x (verdict.Waiting retries) = refl
judged_frame x verdict.Eaten = refl
judged_frame x verdict.Dead = refl

ended_frame : (f : Farm) (exit : Exit) (o : Option Frame) → IsSome o → IsSameFrame o (option_map (λ (frame : Frame). judged frame (verdict_for exit frame (job_at f frame.job))) o)
ended_frame f exit None there = absurd (false≢true there)
ended_frame f exit (Some x) there = judged_frame x (verdict_for exit x (job_at f x.job))

one_ends : (f : Farm) (host boot : ℕ) (d : DoneItem) (b : Bool) → is_live f host boot d.attempt.slot d.attempt.version ≡ b → AreFramed f.slots
    → (let g : Farm = cond b (record f { slots = changed_at f.slots d.attempt.slot (ended_row f d.exit) }) f in OnlyEnds f.slots g.slots)
one_ends f host boot d false live framed = ends_same f.slots
one_ends f host boot d true live framed =
    changed_at_each (λ i new. (old : SlotRow) × (slice_get f.slots i ≡ Some old) × MayEnd old new) f.slots d.attempt.slot (ended_row f d.exit)
    (λ s at.
    let on : for_some s.proc (is_attempt host boot d.attempt.version) ≡ true =
    ap (λ (o : Option SlotRow). for_some o (λ (r : SlotRow). for_some r.proc (is_attempt host boot d.attempt.version))) (sym at) ∙ live in
    let there : IsSome s.frame = framed d.attempt.slot s at (there_by (is_attempt host boot d.attempt.version) s.proc on) in
    (s, at, (false, (ended_frame f d.exit s.frame there, refl))))
    (λ i s apart at. (s, at, (true, refl)))

pub ends_ended : (f : Farm) (host boot : ℕ) (d : DoneItem) → AreFramed f.slots → OnlyEnds f.slots (end_attempt f host boot d).slots
ends_ended f host boot d framed = one_ends f host boot d (is_live f host boot d.attempt.slot d.attempt.version) refl framed

-- of slots whose attempts have only ended so far
pub ends_all : (base : List SlotRow) (f : Farm) (host boot : ℕ) (done : List DoneItem) → AreFramed base → OnlyEnds base f.slots → OnlyEnds base (end_all f host boot done).slots
ends_all base f host boot [] framed ends = ends
ends_all base f host boot (d ∷ ds) framed ends =
    ends_all base (end_attempt f host boot d) host boot ds framed
    (ends_then base f.slots (end_attempt f host boot d).slots ends (ends_ended f host boot d (framed_kept base f.slots ends framed)))
