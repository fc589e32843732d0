-- What stays of the other jobs as one finishes.
use Rattle.std.proofs.Common.{◌≡◌, ℕ, Bool, true, false, not, cond, eqb, ◌&&◌, ◌||◌, List, [], ◌∷◌, map, filter, length, Option, None, Some, option_map, refl, sym, ap, ◌∙◌, arith}
use Rattle.std.specs.Prelude.{is_some, nat_le, nat_lt}
use Rattle.std.specs.List.{find, list_all, list_any, slice_get, sum_by}
use Rattle.std.proofs.lemmas.Bool.{eq-eqb, eqb-true, false≢true, ne_eqb}
use Rattle.std.proofs.lemmas.List.Sums.{sum_by-cons}
use Rattle.std.proofs.lemmas.Option.{none-some, same_Some, slice_get-map}
use Rattle.farm_types.specs.declared.depend.DependRow.{DependRow}
use Rattle.farm_types.specs.declared.rows.JobRow.{JobRow}
use Rattle.farm_types.specs.declared.slot_row.Frame.{Frame}
use Rattle.farm_types.specs.declared.slot_row.SlotRow.{SlotRow}
use Rattle.farm_types.specs.declared.states.FrameState.{FrameState}
use Rattle.farm_types.specs.Booking.{is_pending}
use Rattle.farm_types.specs.Farm.{Farm, for_some, job_at, layer_at}
use Rattle.farm_types.specs.Finish.{count_where, finished_row, freed_row, is_finished, is_first_finished, is_frame_of, waits_by, without_waiter}
use Rattle.farm_types.specs.Kept.{is_of_pending, is_pending_job}
use Rattle.farm_types.specs.Settle.{raised}
use Rattle.farm_types.specs.Step.{finish_one}
use Rattle.farm_types.specs.declared.limits.TheConstants.{MOST_FINISHED}
use Rattle.farm_types.proofs.Lists.{and_both}
use Rattle.farm_types.proofs.Passes.{cond_each}
use Rattle.farm_rows.specs.Changes.{is_mark}
use Rattle.depend_law.proofs.Without.{any_kept}
use Rattle.farm_finish.proofs.RowLemmas.GoneRows.{mark_left, other_layer, waits_in}

-- nothing of the job is changed, and no mark is new
pub record Stays (f g : Farm) (job : ℕ) : Type 0 where
  pub row : job_at g job ≡ job_at f job
  pub layers : (place : ℕ) → layer_at g job place ≡ layer_at f job place
  pub frames : (n : ℕ) → for_some (slice_get g.slots n) (is_frame_of job) ≡ for_some (slice_get f.slots n) (is_frame_of job)
  pub slots : (n : ℕ) → for_some (slice_get f.slots n) (is_frame_of job) ≡ true → slice_get g.slots n ≡ slice_get f.slots n
  pub counts : (test : FrameState → Bool) → count_where job test g.slots ≡ count_where job test f.slots
  pub waits : (n : ℕ) → waits_in job g.depends n ≡ waits_in job f.depends n
  pub marks : (n position : ℕ) → list_any (is_mark n position) g.met ≡ true → list_any (is_mark n position) f.met ≡ true

pub stays_same : (f : Farm) (job : ℕ) → Stays f f job
stays_same f job =
    record {
      row = refl;
      layers = λ place. refl;
      frames = λ n. refl;
      slots = λ n mine. refl;
      counts = λ test. refl;
      waits = λ n. refl;
      marks = λ n position there. there;
    }

pub stays_then : (f g k : Farm) (job : ℕ) → Stays f g job → Stays g k job → Stays f k job
stays_then f g k job first second =
    record {
      row = second.row ∙ first.row;
      layers = λ place. second.layers place ∙ first.layers place;
      frames = λ n. second.frames n ∙ first.frames n;
      slots = λ n mine. second.slots n (first.frames n ∙ mine) ∙ first.slots n mine;
      counts = λ test. second.counts test ∙ first.counts test;
      waits = λ n. second.waits n ∙ first.waits n;
      marks = λ n position there. first.marks n position (second.marks n position there);
    }

find_kept : (test keep : JobRow → Bool) (js : List JobRow) (j : JobRow) → find test js ≡ Some j → keep j ≡ true → find test (filter keep js) ≡ Some j
find_kept test keep [] j found kept = absurd (none-some j found)
find_kept test keep (x ∷ xs) j found kept = by_test (test x) (keep x) refl refl found (λ later. find_kept test keep xs j later kept) where
  by_test : (a b : Bool) → test x ≡ a → keep x ≡ b → cond a (Some x) (find test xs) ≡ Some j → (find test xs ≡ Some j → find test (filter keep xs) ≡ Some j) → find test (cond b (x ∷ filter keep xs) (filter keep xs)) ≡ Some j
  by_test true true is keeps first later = ap (λ (b : Bool). cond b (Some x) (find test (filter keep xs))) is ∙ first
  by_test true false is keeps first later = absurd (false≢true (sym keeps ∙ (ap keep (same_Some x j first) ∙ kept)))
  by_test false true is keeps first later = ap (λ (b : Bool). cond b (Some x) (find test (filter keep xs))) is ∙ later first
  by_test false false is keeps first later = later first

module _ (job k : ℕ) (apart : eqb k job ≡ false) where
  other : eqb job k ≡ false
  other = ne_eqb job k (λ e. false≢true (sym apart ∙ same e)) where
    same : job ≡ k → eqb k job ≡ true
    same e = ap (λ (n : ℕ). eqb n job) (sym e) ∙ eq-eqb job job refl

  -- ---- slots

  frame_other : (o : Option Frame) → for_some o (λ (x : Frame). eqb x.job job) ≡ true → (test : FrameState → Bool) → (for_some o (λ (x : Frame). eqb x.job k) ≡ false) × (for_some o (λ (x : Frame). eqb x.job k && test x.state) ≡ false)
  frame_other None mine test = absurd (false≢true mine)
  frame_other (Some x) mine test = let is : eqb x.job k ≡ false = ap (λ (n : ℕ). eqb n k) (eqb-true x.job job mine) ∙ other in (is, ap (λ (b : Bool). b && test x.state) is)

  abbrev free : SlotRow → SlotRow
  free s = record { version = raised s.version; frame = None; proc = None }

  row_frames : (s : SlotRow) (b : Bool) → is_frame_of job s ≡ b → is_frame_of k (cond b (free s) s) ≡ is_frame_of k s
  row_frames s true is = sym (frame_other s.frame is (λ state. true)).0
  row_frames s false is = refl

  row_stays : (s : SlotRow) (b : Bool) → is_frame_of job s ≡ b → is_frame_of k s ≡ true → cond b (free s) s ≡ s
  row_stays s true is mine = absurd (false≢true (sym (frame_other s.frame is (λ state. true)).0 ∙ mine))
  row_stays s false is mine = refl

  frames_same : (o : Option SlotRow) → for_some (option_map (freed_row job) o) (is_frame_of k) ≡ for_some o (is_frame_of k)
  frames_same None = refl
  frames_same (Some s) = row_frames s (is_frame_of job s) refl

  slots_same : (o : Option SlotRow) → for_some o (is_frame_of k) ≡ true → option_map (freed_row job) o ≡ o
  slots_same None mine = refl
  slots_same (Some s) mine = ap (λ (t : SlotRow). Some t) (row_stays s (is_frame_of job s) refl mine)

  module _ (test : FrameState → Bool) where
    abbrev weight : SlotRow → ℕ
    weight s = cond (for_some s.frame (λ (x : Frame). eqb x.job k && test x.state)) 1 0

    row_weighs : (s : SlotRow) (b : Bool) → is_frame_of job s ≡ b → weight (cond b (free s) s) ≡ weight s
    row_weighs s true is = sym (ap (λ (b : Bool). one_of b) (frame_other s.frame is test).1) where
      one_of : Bool → ℕ
      one_of b = cond b 1 0
    row_weighs s false is = refl

    counts_same : (slots : List SlotRow) → sum_by weight (map (freed_row job) slots) ≡ sum_by weight slots
    counts_same [] = refl
    counts_same (s ∷ ss) = omega (arith, sum_by-cons weight (freed_row job s) (map (freed_row job) ss), sum_by-cons weight s ss, row_weighs s (is_frame_of job s) refl, counts_same ss)

  -- ---- the farm

  found_same : (become : JobRow → JobRow) → ((j : JobRow) → (become j).job ≡ j.job) → (js : List JobRow) → find (λ (i : JobRow). eqb i.job k) (map (λ (i : JobRow). cond (eqb i.job job) (become i) i) js) ≡ find (λ (i : JobRow). eqb i.job k) js
  found_same become keeps [] = refl
  found_same become keeps (j ∷ js) = by_job (eqb j.job job) refl (found_same become keeps js) where
    by_job : (b : Bool) → eqb j.job job ≡ b → find (λ (i : JobRow). eqb i.job k) (map (λ (i : JobRow). cond (eqb i.job job) (become i) i) js) ≡ find (λ (i : JobRow). eqb i.job k) js
        → cond (eqb (cond b (become j) j).job k) (Some (cond b (become j) j)) (find (λ (i : JobRow). eqb i.job k) (map (λ (i : JobRow). cond (eqb i.job job) (become i) i) js)) ≡ cond (eqb j.job k) (Some j) (find (λ (i : JobRow). eqb i.job k) js)
    by_job true is later =
        let gone : eqb j.job k ≡ false = ap (λ (n : ℕ). eqb n k) (eqb-true j.job job is) ∙ other in
        ap (λ (n : ℕ). cond (eqb n k) (Some (become j)) (find (λ (i : JobRow). eqb i.job k) (map (λ (i : JobRow). cond (eqb i.job job) (become i) i) js))) (keeps j)
        ∙ (ap (λ (b : Bool). cond b (Some (become j)) (find (λ (i : JobRow). eqb i.job k) (map (λ (i : JobRow). cond (eqb i.job job) (become i) i) js))) gone
        ∙ (later ∙ sym (ap (λ (b : Bool). cond b (Some j) (find (λ (i : JobRow). eqb i.job k) js)) gone)))
    by_job false is later = ap (cond (eqb j.job k) (Some j)) later

  waits_kept : (n : ℕ) (d : DependRow) → (waits_by k d && eqb n d.depend) ≡ true → not (waits_by job d) ≡ true
  waits_kept n d mine =
      let number : d.waiter.job ≡ k = eqb-true d.waiter.job k (and_both (waits_by k d) (eqb n d.depend) mine).0 in
      ap not (ap (λ (m : ℕ). eqb m job) number ∙ apart)

  row_kept : (f : Farm) (o : Option JobRow) → job_at f k ≡ o → for_some o is_pending_job ≡ true → job_at (finish_one job f) k ≡ o
  row_kept f None at pending = absurd (false≢true pending)
  row_kept f (Some j) at pending =
      let news = map (λ (i : JobRow). cond (eqb i.job job) (finished_row f.slots f.next_finish i) i) f.jobs in
      let found : find (λ (i : JobRow). eqb i.job k) news ≡ Some j = found_same (finished_row f.slots f.next_finish) (λ i. refl) f.jobs ∙ at in
      let kept : not (is_first_finished news j) ≡ true = ap (λ (b : Bool). not (not b && list_all (λ (i : JobRow). is_pending i.state || nat_le j.finish i.finish) news)) pending in
      cond_each (λ (js : List JobRow). find (λ (i : JobRow). eqb i.job k) js ≡ Some j) (nat_lt MOST_FINISHED (length (filter is_finished news))) (filter (λ (i : JobRow). not (is_first_finished news i)) news) news
      (find_kept (λ (i : JobRow). eqb i.job k) (λ (i : JobRow). not (is_first_finished news i)) news j found kept) found

  pub stays_one : (f : Farm) → is_of_pending f.jobs k ≡ true → Stays f (finish_one job f) k
  stays_one f pending =
      record {
        row = row_kept f (job_at f k) refl pending;
        layers = λ place. ap_layer place;
        frames = λ n. ap (λ (o : Option SlotRow). for_some o (is_frame_of k)) (slice_get-map (freed_row job) f.slots n) ∙ frames_same (slice_get f.slots n);
        slots = λ n mine. slice_get-map (freed_row job) f.slots n ∙ slots_same (slice_get f.slots n) mine;
        counts = λ test. counts_same test f.slots;
        waits = λ n. any_kept (λ (d : DependRow). waits_by k d && eqb n d.depend) (λ (d : DependRow). not (waits_by job d)) (waits_kept n) f.depends;
        marks = λ n position there. (and_both (is_some (find (λ (d : DependRow). eqb d.depend n) (without_waiter job f.depends))) (list_any (is_mark n position) f.met) (sym (mark_left n position (without_waiter job f.depends) f.met) ∙ there)).1;
      }
    where
      ap_layer : (place : ℕ) → layer_at (finish_one job f) k place ≡ layer_at f k place
      ap_layer place = other_layer job k place f.layers other
