-- The jobs of the frames that changes of slots complete.
use Rattle.std.proofs.Common.{◌≡◌, ℕ, zero, suc, Bool, true, false, cond, List, [], ◌∷◌, ◌++◌, map, Option, Some, refl, sym, ap, subst, ◌∙◌}
use Rattle.std.specs.Prelude.{All, option_and_then}
use Rattle.std.specs.List.{AllByRecursion, filter, slice_get}
use Rattle.std.proofs.lemmas.List.{append-nil, map-append}
use Rattle.std.proofs.lemmas.List.Elements.{All-filter, All-head, All-tail, filter-append}
use Rattle.std.proofs.lemmas.Option.{none-some, same_Some}
use Rattle.farm_types.specs.declared.slot_row.SlotRow.{SlotRow}
use Rattle.farm_draft.specs.Rows.{Stood, slot_of}
use Rattle.farm_draft.specs.declared.slot_change.SlotChange.{SlotChange}
use Rattle.farm_depends.specs.Completing.{completes, newly_done}
use Rattle.farm_finish.specs.Closing.{job_in, job_of}

-- the job of the frame that stands in the slot
abbrev pub job_was : SlotChange → ℕ
job_was c = job_of c.was.frame

abbrev pub jobs_done : List SlotChange → List ℕ
jobs_done rows = map job_was (filter completes rows)

push : (rows : List SlotChange) (c : SlotChange) → jobs_done (rows ++ c ∷ []) ≡ jobs_done rows ++ jobs_done (c ∷ [])
push rows c = ap (map job_was) (filter-append completes rows (c ∷ [])) ∙ map-append job_was (filter completes rows) (filter completes (c ∷ []))

one_by : (c : SlotChange) (b : Bool) → completes c ≡ b → jobs_done (c ∷ []) ≡ cond b (job_was c ∷ []) []
one_by c true is = ap (λ (b : Bool). map job_was (cond b (c ∷ []) [])) is
one_by c false is = ap (λ (b : Bool). map job_was (cond b (c ∷ []) [])) is

-- one change more, which completes a frame or doesn't
pub jobs_more : (rows : List SlotChange) (c : SlotChange) → completes c ≡ true → jobs_done (rows ++ c ∷ []) ≡ jobs_done rows ++ job_was c ∷ []
jobs_more rows c is = push rows c ∙ ap (λ (js : List ℕ). jobs_done rows ++ js) (one_by c true is)

pub jobs_past : (rows : List SlotChange) (c : SlotChange) → completes c ≡ false → jobs_done (rows ++ c ∷ []) ≡ jobs_done rows
jobs_past rows c is = push rows c ∙ ap (λ (js : List ℕ). jobs_done rows ++ js) (one_by c false is) ∙ append-nil (jobs_done rows)

-- they are those of the slots
pub job_stood : (slots : List SlotRow) (c : SlotChange) → Stood slots c → job_in slots c.slot ≡ job_was c
job_stood slots c stood = ap (λ (o : Option SlotRow). job_of (option_and_then (λ (s : SlotRow). s.frame) o)) stood

each_stood : (slots : List SlotRow) (cs : List SlotChange) → All (Stood slots) cs → map job_was cs ≡ map (job_in slots) (map slot_of cs)
each_stood slots [] all = refl
each_stood slots (c ∷ cs) all =
    λ i. sym (job_stood slots c (All-head (Stood slots) c cs all)) i ∷ each_stood slots cs (All-tail (Stood slots) c cs all) i

pub jobs_stood : (slots : List SlotRow) (rows : List SlotChange) → All (Stood slots) rows → jobs_done rows ≡ map (job_in slots) (newly_done rows)
jobs_stood slots rows all = each_stood slots (filter completes rows) (All-filter completes (Stood slots) rows all)

-- what holds of each slot that is done holds of one that is
done_later : (P : ℕ → Type 0) (c : SlotChange) (fs : List SlotChange) (b : Bool) → AllByRecursion P (map slot_of (cond b (c ∷ fs) fs)) → AllByRecursion P (map slot_of fs)
done_later P c fs true all = all.1
done_later P c fs false all = all

pub done_at : (P : ℕ → Type 0) (rows : List SlotChange) (i : ℕ) (c : SlotChange) → AllByRecursion P (newly_done rows) → slice_get rows i ≡ Some c → completes c ≡ true → P c.slot
done_at P [] i c all at is = absurd (none-some c at)
done_at P (r ∷ rs) zero c all at is =
    let same = same_Some r c at in
    let kept = subst (λ (b : Bool). AllByRecursion P (map slot_of (cond b (r ∷ filter completes rs) (filter completes rs)))) (ap completes same ∙ is) all in
    subst (λ (d : SlotChange). P d.slot) same kept.0
done_at P (r ∷ rs) (suc i) c all at is = done_at P rs i c (done_later P r (filter completes rs) (completes r) all) at is
