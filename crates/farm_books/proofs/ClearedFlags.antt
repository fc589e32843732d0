-- All frames of a job are in its layers, so that no flag of them is left.
use Rattle.std.proofs.Common.{◌≡◌, ℕ, zero, suc, Bool, true, false, ◌&&◌, ◌||◌, not, cond, eqb, leb, List, [], ◌∷◌, length, Option, Some, None, refl, sym, ap, subst, ◌∙◌, arith}
use Rattle.std.specs.Ordering.{int_eq}
use Rattle.std.specs.List.{filter, find, list_all, list_any, slice_get}
use Rattle.std.proofs.lemmas.Bool.{eqb-true, false≢true}
use Rattle.std.proofs.lemmas.Option.{same_Some}
use Rattle.farm_types.specs.declared.rows.LayerRow.{LayerRow}
use Rattle.farm_types.specs.declared.slot_row.Frame.{Frame}
use Rattle.farm_types.specs.declared.slot_row.SlotRow.{SlotRow}
use Rattle.farm_types.specs.Farm.{for_some, layers_of, for_any, layer_in}
use Rattle.farm_types.specs.Finish.{is_frame_of}
use Rattle.farm_types.specs.Kept.{is_kept_frame, is_kept_slot}
use Rattle.farm_types.specs.Ranges.{range_numbers}
use Rattle.farm_types.proofs.Lists.{and_both, list_all-at}
use Rattle.depend_book.proofs.OneCleared.{and_one}
use Rattle.farm_law.proofs.KeptJobsRows.{frame_kept}
use Rattle.farm_types.specs.declared.limits.TheConstants.{LAST_VERSION}
use Rattle.depend_graph.specs.Graph.{is_flagged}
use Rattle.depend_book.specs.Book.{DependLists}
use Rattle.farm_books.specs.Cleared.{IsCleared, is_in_layers}
use Rattle.farm_books.specs.Cleared.{undone, undone_flags}

-- ---- lists of flags

flags_same : (xs ys : List Bool) → length xs ≡ length ys → ((n : ℕ) → is_flagged xs n ≡ is_flagged ys n) → xs ≡ ys
flags_same [] [] count same = refl
flags_same [] (y ∷ ys) count same = absurd (omega (arith, count))
flags_same (x ∷ xs) [] count same = absurd (omega (arith, count))
flags_same (x ∷ xs) (y ∷ ys) count same =
    let rest = flags_same xs ys (omega (arith, count)) (λ n. same (suc n)) in
    λ i. same 0 i ∷ rest i

pub count_same : (job : ℕ) (slots : List SlotRow) (flags : List Bool) → length (undone_flags job slots flags) ≡ length flags
count_same job [] flags = refl
count_same job (s ∷ ss) [] = refl
count_same job (s ∷ ss) (flag ∷ flags) = ap (λ (n : ℕ). suc n) (count_same job ss flags)

pub flag_of : (job : ℕ) (slots : List SlotRow) (flags : List Bool) (n : ℕ) → is_flagged (undone_flags job slots flags) n ≡ (is_flagged flags n && not (for_some (slice_get slots n) (is_frame_of job)))
flag_of job [] flags n = sym (and_one (is_flagged flags n))
flag_of job (s ∷ ss) [] n = refl
flag_of job (s ∷ ss) (flag ∷ flags) zero = refl
flag_of job (s ∷ ss) (flag ∷ flags) (suc n) = flag_of job ss flags n

-- ---- the frames of the job

among : (job place : ℕ) (layers : List LayerRow) (o : Option LayerRow) (test : LayerRow → Bool) → find (λ (l : LayerRow). eqb l.job job && eqb l.place place) layers ≡ o → for_some o test ≡ true
    → list_any (λ (l : LayerRow). eqb l.place place) (filter (λ (l : LayerRow). eqb l.job job) layers) ≡ true
among job place [] None test is there = absurd (false≢true there)
among job place [] (Some l) test is there = absurd (false≢true (ap (λ (o : Option LayerRow). for_some o (λ l. true)) is))
among job place (l ∷ ls) o test is there = step (eqb l.job job) (eqb l.place place) refl refl (among job place ls o test) is where
  step : (a b : Bool) → eqb l.job job ≡ a → eqb l.place place ≡ b
      → (find (λ (m : LayerRow). eqb m.job job && eqb m.place place) ls ≡ o → for_some o test ≡ true → list_any (λ (m : LayerRow). eqb m.place place) (filter (λ (m : LayerRow). eqb m.job job) ls) ≡ true)
      → find (λ (m : LayerRow). eqb m.job job && eqb m.place place) (l ∷ ls) ≡ o → list_any (λ (m : LayerRow). eqb m.place place) (filter (λ (m : LayerRow). eqb m.job job) (l ∷ ls)) ≡ true
  step true true ja pb later at = (λ i. list_any (λ (m : LayerRow). eqb m.place place) (cond (ja i) (l ∷ filter (λ (m : LayerRow). eqb m.job job) ls) (filter (λ (m : LayerRow). eqb m.job job) ls))) ∙ ap (λ (b : Bool). b || list_any (λ (m : LayerRow). eqb m.place place) (filter (λ (m : LayerRow). eqb m.job job) ls)) pb
  step true false ja pb later at =
      (λ i. list_any (λ (m : LayerRow). eqb m.place place) (cond (ja i) (l ∷ filter (λ (m : LayerRow). eqb m.job job) ls) (filter (λ (m : LayerRow). eqb m.job job) ls)))
      ∙ (ap (λ (b : Bool). b || list_any (λ (m : LayerRow). eqb m.place place) (filter (λ (m : LayerRow). eqb m.job job) ls)) pb
      ∙ later (sym (λ i. cond (ja i && pb i) (Some l) (find (λ (m : LayerRow). eqb m.job job && eqb m.place place) ls)) ∙ at) there)
  step false b ja pb later at =
      (λ i. list_any (λ (m : LayerRow). eqb m.place place) (cond (ja i) (l ∷ filter (λ (m : LayerRow). eqb m.job job) ls) (filter (λ (m : LayerRow). eqb m.job job) ls)))
      ∙ later (sym (λ i. cond (ja i && pb i) (Some l) (find (λ (m : LayerRow). eqb m.job job && eqb m.place place) ls)) ∙ at) there

frame_in : (layers : List LayerRow) (job : ℕ) (x : Frame) (b : Bool) → eqb x.job job ≡ b → is_kept_frame layers x ≡ true → (eqb x.job job && list_any (λ (l : LayerRow). eqb l.place x.layer) (layers_of layers job)) ≡ eqb x.job job
frame_in layers job x false is kept = (λ i. is i && list_any (λ (l : LayerRow). eqb l.place x.layer) (layers_of layers job)) ∙ sym is
frame_in layers job x true is kept =
    let found = among x.job x.layer layers (layer_in layers x.job x.layer) (λ l. for_some (slice_get (range_numbers l.range) x.position) (λ number. int_eq number x.number)) refl (frame_kept layers x kept).number in
    let mine : list_any (λ (l : LayerRow). eqb l.place x.layer) (layers_of layers job) ≡ true = ap (λ (n : ℕ). list_any (λ (l : LayerRow). eqb l.place x.layer) (layers_of layers n)) (sym (eqb-true x.job job is)) ∙ found in
    ap (λ (b : Bool). eqb x.job job && b) mine ∙ and_one (eqb x.job job)

row_in : (layers : List LayerRow) (job : ℕ) (o : Option SlotRow) (p : Option Frame) → ((s : SlotRow) → o ≡ Some s → (s.frame ≡ p) × (is_kept_slot layers s ≡ true))
    → for_some o (λ (s : SlotRow). for_some s.frame (λ (x : Frame). eqb x.job job && list_any (λ (l : LayerRow). eqb l.place x.layer) (layers_of layers job))) ≡ for_some o (is_frame_of job)
row_in layers job None p kept = refl
row_in layers job (Some s) None kept = let is = (kept s refl).0 in
    ap (λ (q : Option Frame). for_some q (λ (x : Frame). eqb x.job job && list_any (λ (l : LayerRow). eqb l.place x.layer) (layers_of layers job))) is ∙ sym (ap (λ (q : Option Frame). for_some q (λ (x : Frame). eqb x.job job)) is)
row_in layers job (Some s) (Some x) kept =
    let k = kept s refl in
    let ok = (and_both (leb s.version LAST_VERSION) (for_any s.frame (is_kept_frame layers)) k.1).1 in
    let good : is_kept_frame layers x ≡ true = ap (λ (q : Option Frame). for_any q (is_kept_frame layers)) (sym k.0) ∙ ok in
    ap (λ (q : Option Frame). for_some q (λ (y : Frame). eqb y.job job && list_any (λ (l : LayerRow). eqb l.place y.layer) (layers_of layers job))) k.0
    ∙ (frame_in layers job x (eqb x.job job) refl good ∙ sym (ap (λ (q : Option Frame). for_some q (λ (y : Frame). eqb y.job job)) k.0))

pub all_in : (layers : List LayerRow) (slots : List SlotRow) (job n : ℕ) → list_all (is_kept_slot layers) slots ≡ true → is_in_layers slots job (layers_of layers job) n ≡ for_some (slice_get slots n) (is_frame_of job)
all_in layers slots job n kept = by_row (slice_get slots n) refl where
  by_row : (o : Option SlotRow) → slice_get slots n ≡ o → for_some o (λ (s : SlotRow). for_some s.frame (λ (x : Frame). eqb x.job job && list_any (λ (l : LayerRow). eqb l.place x.layer) (layers_of layers job))) ≡ for_some o (is_frame_of job)
  by_row None at = refl
  by_row (Some s) at = row_in layers job (Some s) s.frame (λ t e. (ap (λ (u : SlotRow). u.frame) (sym (same_Some s t e)), subst (λ (u : SlotRow). is_kept_slot layers u ≡ true) (same_Some s t e) (list_all-at (is_kept_slot layers) slots n s kept at)))

pub all_undone : (layers : List LayerRow) (slots : List SlotRow) (job : ℕ) (a b : DependLists) → list_all (is_kept_slot layers) slots ≡ true → IsCleared (is_in_layers slots job (layers_of layers job)) a b → b ≡ undone job slots a
all_undone layers slots job a b kept x =
    let same =
    flags_same b.graph.done (undone_flags job slots a.graph.done) (x.count ∙ sym (count_same job slots a.graph.done))
    (λ n. x.flags n ∙ (ap (λ (c : Bool). is_flagged a.graph.done n && not c) (all_in layers slots job n kept) ∙ sym (flag_of job slots a.graph.done n))) in
    x.rest ∙ ap (λ (done : List Bool). record a { graph = record a.graph { done = done } }) same
