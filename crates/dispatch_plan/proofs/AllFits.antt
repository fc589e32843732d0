-- Where the job and the layer may be booked on the host, a waiting frame of the layer may be, if its version can rise and it waits for no other.
use Rattle.std.proofs.Common.{◌≡◌, ℕ, ◌&&◌, Bool, true, false, length, Option, Some, refl, sym, ap, subst, ◌∙◌}
use Rattle.std.specs.List.{slice_get}
use Rattle.std.specs.Prelude.{nat_lt, not}
use Rattle.std.proofs.lemmas.Option.{same_Some}
use Rattle.farm_types.specs.declared.rows.HostRow.{HostRow}
use Rattle.farm_types.specs.declared.rows.JobRow.{JobRow}
use Rattle.farm_types.specs.declared.rows.LayerRow.{LayerRow}
use Rattle.farm_types.specs.declared.slot_row.Frame.{Frame}
use Rattle.farm_types.specs.declared.slot_row.SlotRow.{SlotRow}
use Rattle.farm_types.specs.declared.limits.TheConstants.{LAST_VERSION}
use Rattle.farm_types.specs.Booking.{has_capacity, in_facility, is_pending, is_waiting, may_book, may_place, may_record, tags_match, takes_frames, within_burst, within_limit}
use Rattle.farm_types.specs.Depends.{is_open}
use Rattle.farm_types.specs.Farm.{Farm, for_some, job_at, layer_at, sub_of}
use Rattle.farm_types.specs.Kept.{KeepsRows}
use Rattle.farm_types.specs.Step.{lists_of}
use Rattle.farm_types.proofs.Lists.{and_both, for_some_true}
use Rattle.farm_books.specs.Reads.{rows_share_tag, takes_job, takes_layer}
use Rattle.job_book.specs.declared.reading.frame_view.FrameView.{FrameView}
use Rattle.job_book.specs.Book.{frame_at}
use Rattle.job_book.specs.Index.{IsFirstWaiting}
use Rattle.dispatch_law.proofs.InShow.{job_found}
use Rattle.dispatch_plan.specs.Offers.{IsBilled, IsPending}
use Rattle.dispatch_plan.proofs.Steps.{stands_there}
use Rattle.dispatch_plan.proofs.Views.{seen}

-- ---- tests of which all but two are passed

passed_but : (v o : Bool) → ((true && v && true && true) && o && true && true && true && true && true) ≡ (v && o)
passed_but true true = refl
passed_but true false = refl
passed_but false true = refl
passed_but false false = refl

left_two : (w v p n o i t c b m : Bool) → w ≡ true → p ≡ true → n ≡ true → i ≡ true → t ≡ true → c ≡ true → b ≡ true → m ≡ true → ((w && v && p && n) && o && i && t && c && b && m) ≡ (v && o)
left_two w v p n o i t c b m w_is p_is n_is i_is t_is c_is b_is m_is =
    ap (λ z. (z && v && p && n) && o && i && t && c && b && m) w_is
    ∙ (ap (λ z. (true && v && z && n) && o && i && t && c && b && m) p_is
    ∙ (ap (λ z. (true && v && true && z) && o && i && t && c && b && m) n_is
    ∙ (ap (λ z. (true && v && true && true) && o && z && t && c && b && m) i_is
    ∙ (ap (λ z. (true && v && true && true) && o && true && z && c && b && m) t_is
    ∙ (ap (λ z. (true && v && true && true) && o && true && true && z && b && m) c_is
    ∙ (ap (λ z. (true && v && true && true) && o && true && true && true && z && m) b_is
    ∙ (ap (λ z. (true && v && true && true) && o && true && true && true && true && z) m_is
    ∙ passed_but v o)))))))

and_passed : (a b t : Bool) → a ≡ b → t ≡ true → (a && t) ≡ b
and_passed a true t e passed = ap (λ z. z && t) e ∙ passed
and_passed a false t e passed = ap (λ z. z && t) e

-- ---- a frame of the layer

-- the rows that a booking of the layer's frames is made of, and what they pass
record Fits (f : Farm) (host sub : ℕ) (l : LayerRow) : Type 0 where
  job : JobRow
  row : HostRow
  job_is : job_at f l.job ≡ Some job
  row_is : slice_get f.hosts host ≡ Some row
  pending : is_pending job.state ≡ true
  resumed : not job.paused ≡ true
  in_place : in_facility f row.alloc job.facility ≡ true
  takes : takes_frames row ≡ true
  capable : has_capacity f host row l ≡ true
  burst : within_burst f (sub_of job.show row.alloc) l ≡ true
  limited : within_limit f l ≡ true
  tagged : rows_share_tag f l row ≡ true

fits : (f : Farm) (host sub : ℕ) (l : LayerRow) → KeepsRows f → IsPending f l.job → takes_job f host l.job ≡ true → takes_layer f host sub l ≡ true → IsBilled f host l.job sub → Fits f host sub l
fits f host sub l kept it job_taken layer_taken billed =
    let a = for_some_true (slice_get f.hosts host) _ layer_taken in
    let b = for_some_true (slice_get f.hosts host) _ job_taken in
    let j = for_some_true (job_at f l.job) _ b.2 in
    let row = a.0 in
    let rows : b.0 ≡ row = same_Some b.0 row (sym b.1 ∙ a.1) in
    let tests = and_both (takes_frames b.0 && not j.0.paused) (in_facility f b.0.alloc j.0.facility) j.2 in
    let open_host = and_both (takes_frames b.0) (not j.0.paused) tests.0 in
    let parts = and_both (has_capacity f host row l && within_burst f sub l && within_limit f l) (rows_share_tag f l row) a.2 in
    let counts = and_both (has_capacity f host row l && within_burst f sub l) (within_limit f l) parts.0 in
    let amounts = and_both (has_capacity f host row l) (within_burst f sub l) counts.0 in
    let found : job_at f l.job ≡ Some it.job =
    ap (job_at f) (sym it.number_is) ∙ job_found f host (length f.shows) kept.jobs it.job (record { place = it.place; at = it.at }) in
    let same : j.0 ≡ it.job = same_Some j.0 it.job (sym j.1 ∙ found) in
    record {
      job = j.0;
      row = row;
      job_is = j.1;
      row_is = a.1;
      pending = subst (λ (k : JobRow). is_pending k.state ≡ true) (sym same) it.pending;
      resumed = open_host.1;
      in_place = subst (λ (r : HostRow). in_facility f r.alloc j.0.facility ≡ true) rows tests.1;
      takes = subst (λ (r : HostRow). takes_frames r ≡ true) rows open_host.0;
      capable = amounts.0;
      burst = subst (λ n. within_burst f n l ≡ true) (sym (billed j.0 row j.1 a.1)) amounts.1;
      limited = counts.1;
      tagged = parts.1;
    }

rows_are : (f : Farm) (slot host : ℕ) (s : SlotRow) (x : Frame) (j : JobRow) (l : LayerRow) (row : HostRow) → slice_get f.slots slot ≡ Some s → s.frame ≡ Some x → job_at f x.job ≡ Some j → layer_at f x.job x.layer ≡ Some l
    → slice_get f.hosts host ≡ Some row → may_record f slot host ≡ may_place f slot host s.version x j l row
rows_are f slot host s x j l row at framed job_is layer_is row_is =
    ap (λ (o : Option SlotRow). for_some o (λ t. for_some t.frame (λ y. for_some (job_at f y.job) (λ k. for_some (layer_at f y.job y.layer) (λ m. for_some (slice_get f.hosts host) (λ r. may_place f slot host t.version y k m r)))))) at
    ∙ (ap (λ (o : Option Frame). for_some o (λ y. for_some (job_at f y.job) (λ k. for_some (layer_at f y.job y.layer) (λ m. for_some (slice_get f.hosts host) (λ r. may_place f slot host s.version y k m r))))) framed
    ∙ (ap (λ (o : Option JobRow). for_some o (λ k. for_some (layer_at f x.job x.layer) (λ m. for_some (slice_get f.hosts host) (λ r. may_place f slot host s.version x k m r)))) job_is
    ∙ (ap (λ (o : Option LayerRow). for_some o (λ m. for_some (slice_get f.hosts host) (λ r. may_place f slot host s.version x j m r))) layer_is
    ∙ ap (λ (o : Option HostRow). for_some o (λ r. may_place f slot host s.version x j l r)) row_is)))

record_is : (f : Farm) (host sub slot : ℕ) (l : LayerRow) (s : SlotRow) (x : Frame) (it : Fits f host sub l) → slice_get f.slots slot ≡ Some s → s.frame ≡ Some x → job_at f x.job ≡ Some it.job → layer_at f x.job x.layer ≡ Some l
    → is_waiting x.state ≡ true → may_record f slot host ≡ (nat_lt s.version LAST_VERSION && is_open f slot)
record_is f host sub slot l s x it at framed job_is layer_is waits =
    let placed : may_place f slot host s.version x it.job l it.row ≡ (nat_lt s.version LAST_VERSION && is_open f slot) =
    left_two (is_waiting x.state) (nat_lt s.version LAST_VERSION) (is_pending it.job.state) (not it.job.paused) (is_open f slot) (in_facility f it.row.alloc it.job.facility) (takes_frames it.row) (has_capacity f host it.row l)
    (within_burst f (sub_of it.job.show it.row.alloc) l) (within_limit f l) waits it.pending it.resumed it.in_place it.takes it.capable it.burst it.limited in
    rows_are f slot host s x it.job l it.row at framed job_is layer_is it.row_is ∙ placed

tags_are : (f : Farm) (host slot : ℕ) (l : LayerRow) (row : HostRow) (s : SlotRow) (x : Frame) → slice_get f.slots slot ≡ Some s → s.frame ≡ Some x → layer_at f x.job x.layer ≡ Some l → slice_get f.hosts host ≡ Some row
    → rows_share_tag f l row ≡ true → tags_match f slot host ≡ true
tags_are f host slot l row s x at framed layer_is row_is tagged =
    ap (λ (o : Option SlotRow). for_some o (λ t. for_some t.frame (λ y. for_some (layer_at f y.job y.layer) (λ m. for_some (slice_get f.hosts host) (λ r. rows_share_tag f m r))))) at
    ∙ (ap (λ (o : Option Frame). for_some o (λ y. for_some (layer_at f y.job y.layer) (λ m. for_some (slice_get f.hosts host) (λ r. rows_share_tag f m r)))) framed
    ∙ (ap (λ (o : Option LayerRow). for_some o (λ m. for_some (slice_get f.hosts host) (λ r. rows_share_tag f m r))) layer_is
    ∙ (ap (λ (o : Option HostRow). for_some o (λ r. rows_share_tag f l r)) row_is ∙ tagged)))

-- the next waiting frame, as the book of jobs shows it
pub view_may_book : (f : Farm) (host sub from slot : ℕ) (l : LayerRow) (v : FrameView) → KeepsRows f → IsPending f l.job → takes_job f host l.job ≡ true → takes_layer f host sub l ≡ true → layer_at f l.job l.place ≡ Some l
    → IsBilled f host l.job sub → IsFirstWaiting (lists_of f) l.job l.place from slot → frame_at (lists_of f) slot ≡ Some v → may_book f slot host ≡ (nat_lt v.version LAST_VERSION && is_open f slot)
view_may_book f host sub from slot l v kept pending job_taken layer_taken there billed first shown =
    let it = seen (slice_get f.slots slot) v shown in
    let s = it.row in
    let x = it.frame in
    let place = stands_there f l.job l.place first.position slot s x first.stands it.at it.framed in
    let row_waits : for_some s.frame (λ y. is_waiting y.state) ≡ true = subst (λ (o : Option SlotRow). for_some o (λ t. for_some t.frame (λ y. is_waiting y.state)) ≡ true) it.at first.waits in
    let waits : is_waiting x.state ≡ true = subst (λ (o : Option Frame). for_some o (λ y. is_waiting y.state) ≡ true) it.framed row_waits in
    let k = fits f host sub l kept pending job_taken layer_taken billed in
    let job_is : job_at f x.job ≡ Some k.job = ap (job_at f) place.job_is ∙ k.job_is in
    let layer_is : layer_at f x.job x.layer ≡ Some l = ap (λ n. layer_at f n x.layer) place.job_is ∙ (ap (layer_at f l.job) place.layer_is ∙ there) in
    let tests = record_is f host sub slot l s x k it.at it.framed job_is layer_is waits in
    and_passed (may_record f slot host) (nat_lt s.version LAST_VERSION && is_open f slot) (tags_match f slot host) tests (tags_are f host slot l k.row s x it.at it.framed layer_is k.row_is k.tagged)
    ∙ ap (λ (w : FrameView). nat_lt w.version LAST_VERSION && is_open f slot) it.view
