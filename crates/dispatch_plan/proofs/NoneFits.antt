-- Where a subscription, a job or a layer shows by itself that none of its frames may be booked, it has no rank.
use Rattle.std.proofs.Common.{◌≡◌, ℕ, ◌+◌, ◌≤◌, ◌<◌, ◌&&◌, Bool, true, false, List, [], ◌∷◌, length, Some, refl, sym, ap, subst, ◌∙◌, arith, eqb}
use Rattle.std.specs.Cmp.Derive.{both_true}
use Rattle.std.specs.List.{flat_map, slice_get}
use Rattle.std.specs.Prelude.{nat_le, nat_lt, not}
use Rattle.std.proofs.lemmas.Bool.{false≢true, le-leb, leb-true, ltb-true}
use Rattle.std.proofs.lemmas.Option.{same_Some}
use Rattle.farm_types.specs.declared.dispatch.Candidate.{Candidate}
use Rattle.farm_types.specs.declared.dispatch.Rank.{Rank}
use Rattle.farm_types.specs.declared.rows.HostRow.{HostRow}
use Rattle.farm_types.specs.declared.rows.JobRow.{JobRow}
use Rattle.farm_types.specs.declared.rows.LayerRow.{LayerRow}
use Rattle.farm_types.specs.declared.rows.SubRow.{SubRow}
use Rattle.farm_types.specs.declared.limits.TheConstants.{CANDIDATES_EACH, LEAST_CORES}
use Rattle.farm_types.specs.Booking.{has_capacity, in_facility, takes_frames, within_burst, within_limit}
use Rattle.farm_types.specs.Dispatch.{plan_for}
use Rattle.farm_types.specs.Farm.{Farm, for_some, job_at, layer_at, sub_at, sub_of}
use Rattle.farm_types.specs.Kept.{KeepsRows, is_kept_sub}
use Rattle.farm_types.specs.Step.{lists_of}
use Rattle.farm_types.specs.Sums.{booked_in}
use Rattle.farm_types.proofs.Lists.{and_both, for_some_true, list_all-at}
use Rattle.farm_types.proofs.Passes.{for_some-there}
use Rattle.farm_books.specs.Reads.{rows_share_tag, takes_job, takes_layer}
use Rattle.job_book.specs.Index.{ready_of}
use Rattle.dispatch_law.specs.ByIndex.{ranks_in_job, ranks_in_layer, ranks_in_show, show_of, sorted_subs, subs_to}
use Rattle.dispatch_law.proofs.Found.{find_has}
use Rattle.dispatch_law.proofs.InJob.{in_job, in_layer}
use Rattle.dispatch_law.proofs.InLayer.{IsRankAt}
use Rattle.dispatch_law.proofs.RankFacts.{ranked}
use Rattle.dispatch_law.proofs.Strict.{Has, has_first, has_none, flat_from}
use Rattle.dispatch_law.proofs.Subs.{sub_to}
use Rattle.dispatch_plan.specs.Offers.{IsBilled, IsShowBilled, has_least_left, offered}
use Rattle.dispatch_plan.proofs.Offered.{offered_none}
use Rattle.dispatch_plan.proofs.Plans.{has_least, no_plan, plan_is, ready_offered, subs_read}
use Rattle.dispatch_plan.proofs.Steps.{stands_there}

-- a list without members
empty_by : {X : Type 0} (xs : List X) → ((x : X) → Has xs x → ⊥) → xs ≡ []
empty_by [] never = refl
empty_by (x ∷ xs) never = absurd (never x (has_first x xs))

-- nothing is offered of it
none_offered : (plan : List Candidate) (rs : List Rank) → rs ≡ [] → length plan ≤ CANDIDATES_EACH → plan ≡ offered plan rs
none_offered plan rs none few = sym (ap (offered plan) none ∙ offered_none plan few)

-- ---- a layer

module _ (f : Farm) (host sub : ℕ) (l : LayerRow) (there : layer_at f l.job l.place ≡ Some l) (billed : IsBilled f host l.job sub) where
  taken : (position : ℕ) (r : Rank) → IsRankAt f host l.job l.place position r → takes_layer f host sub l ≡ true
  taken position r it =
      let has = ranked f host it.slot it.row r it.at it.rank_is in
      let at = stands_there f l.job l.place position it.slot it.row has.frame it.stands_at it.at has.frame_is in
      let found : layer_at f has.frame.job has.frame.layer ≡ Some l = ap (λ n. layer_at f n has.frame.layer) at.job_is ∙ (ap (layer_at f l.job) at.layer_is ∙ there) in
      let layer : has.layer ≡ l = same_Some has.layer l (sym has.layer_is ∙ found) in
      let billed_so : sub_of has.job.show has.row.alloc ≡ sub = billed has.job has.row (ap (job_at f) (sym at.job_is) ∙ has.job_is) has.row_is in
      let capable : has_capacity f host has.row l ≡ true = subst (λ (m : LayerRow). has_capacity f host has.row m ≡ true) layer has.capable in
      let burst : within_burst f sub l ≡ true =
      subst (λ n. within_burst f n l ≡ true) billed_so (subst (λ (m : LayerRow). within_burst f (sub_of has.job.show has.row.alloc) m ≡ true) layer has.burst) in
      let limited : within_limit f l ≡ true = subst (λ (m : LayerRow). within_limit f m ≡ true) layer has.limited in
      let tagged : rows_share_tag f l has.row ≡ true = subst (λ (m : LayerRow). rows_share_tag f m has.row ≡ true) layer has.tagged in
      for_some-there (slice_get f.hosts host) (λ (row : HostRow). has_capacity f host row l && within_burst f sub l && within_limit f l && rows_share_tag f l row) has.row has.row_is (both_true (both_true (both_true capable burst) limited) tagged)

  pub layer_unoffered : (plan : List Candidate) → takes_layer f host sub l ≡ false → length plan ≤ CANDIDATES_EACH → plan ≡ offered plan (ranks_in_layer f host l)
  layer_unoffered plan refused few =
      none_offered plan (ranks_in_layer f host l) (empty_by (ranks_in_layer f host l) (λ r h. let got = in_layer f host l r h in false≢true (sym refused ∙ taken got.position r got.found))) few

-- ---- a job

job_taken : (f : Farm) (host job : ℕ) (r : Rank) → Has (ranks_in_job f host job) r → takes_job f host job ≡ true
job_taken f host job r h =
    let got = in_job f host job r h in
    let it = got.within.found in
    let has = ranked f host it.slot it.row r it.at it.rank_is in
    let at = stands_there f got.layer.job got.layer.place got.within.position it.slot it.row has.frame it.stands_at it.at has.frame_is in
    let found : job_at f job ≡ Some has.job = ap (job_at f) (sym (at.job_is ∙ got.job_is)) ∙ has.job_is in
    let test : JobRow → Bool = λ j. takes_frames has.row && not j.paused && in_facility f has.row.alloc j.facility in
    for_some-there (slice_get f.hosts host) (λ (row : HostRow). for_some (job_at f job) (λ (j : JobRow). takes_frames row && not j.paused && in_facility f row.alloc j.facility)) has.row has.row_is
    (for_some-there (job_at f job) test has.job found (both_true (both_true has.takes has.resumed) has.in_place))

pub job_unoffered : (f : Farm) (host job : ℕ) (plan : List Candidate) → takes_job f host job ≡ false → length plan ≤ CANDIDATES_EACH → plan ≡ offered plan (ranks_in_job f host job)
job_unoffered f host job plan refused few =
    none_offered plan (ranks_in_job f host job) (empty_by (ranks_in_job f host job) (λ r h. false≢true (sym refused ∙ job_taken f host job r h))) few

-- ---- a subscription

left_by : (f : Farm) (sub : SubRow) (cores : ℕ) → sub_at f sub.sub ≡ Some sub → LEAST_CORES ≤ cores → for_some (sub_at f sub.sub) (λ (s : SubRow). nat_le (booked_in f sub.sub + cores) s.burst) ≡ true → has_least_left f sub ≡ true
left_by f sub cores found least h =
    let s = for_some_true (sub_at f sub.sub) (λ (s : SubRow). nat_le (booked_in f sub.sub + cores) s.burst) h in
    let same = ap (λ (z : SubRow). z.burst) (same_Some s.0 sub (sym s.1 ∙ found)) in
    let within = leb-true (booked_in f sub.sub + cores) s.0.burst s.2 in
    le-leb (booked_in f sub.sub + LEAST_CORES) sub.burst (omega (arith, within, least, same))

sub_left : (f : Farm) (host show : ℕ) (sub : SubRow) (r : Rank) → KeepsRows f → sub_at f sub.sub ≡ Some sub → IsShowBilled f host show sub.sub → Has (ranks_in_show f host show) r → has_least_left f sub ≡ true
sub_left f host show sub r kept found billed h =
    let from = flat_from (ranks_in_job f host) (ready_of (lists_of f) show) r h in
    let ready = ready_offered f host show sub.sub from.there.place from.from kept billed from.there.at in
    let got = in_job f host from.from r from.within in
    let it = got.within.found in
    let has = ranked f host it.slot it.row r it.at it.rank_is in
    let at = stands_there f got.layer.job got.layer.place got.within.position it.slot it.row has.frame it.stands_at it.at has.frame_is in
    let billed_so : sub_of has.job.show has.row.alloc ≡ sub.sub = ready.billed has.job has.row (ap (job_at f) (sym (at.job_is ∙ got.job_is)) ∙ has.job_is) has.row_is in
    let there = find_has (λ (l : LayerRow). eqb l.job has.frame.job && eqb l.place has.frame.layer) f.layers has.layer has.layer_is in
    left_by f sub has.layer.cores found (has_least f has.layer kept there).cores (subst (λ n. within_burst f n has.layer ≡ true) billed_so has.burst)

pub show_unoffered : (f : Farm) (host show : ℕ) (sub : SubRow) (plan : List Candidate) → KeepsRows f → sub_at f sub.sub ≡ Some sub → IsShowBilled f host show sub.sub → has_least_left f sub ≡ false → length plan ≤ CANDIDATES_EACH
    → plan ≡ offered plan (ranks_in_show f host show)
show_unoffered f host show sub plan kept found billed reached few =
    none_offered plan (ranks_in_show f host show) (empty_by (ranks_in_show f host show) (λ r h. false≢true (sym reached ∙ sub_left f host show sub r kept found billed h))) few

-- ---- a host

pub plan_closed : (f : Farm) (host : ℕ) (row : HostRow) → slice_get f.hosts host ≡ Some row → takes_frames row ≡ false → plan_for f host ≡ []
plan_closed f host row hosted closed =
    no_plan f host
    (λ slot s r at e.
    let has = ranked f host slot s r at e in
    let rows : has.row ≡ row = same_Some has.row row (sym has.row_is ∙ hosted) in
    false≢true (sym closed ∙ (ap takes_frames (sym rows) ∙ has.takes)))

-- ---- no ready job

none_in_show : (f : Farm) (host show : ℕ) (r : Rank) → ready_of (lists_of f) show ≡ [] → Has (ranks_in_show f host show) r → ⊥
none_in_show f host show r none h = has_none r (subst (λ (jobs : List ℕ). Has (flat_map (ranks_in_job f host) jobs) r) none h)

show_known : (f : Farm) (s : SubRow) → KeepsRows f → Has f.subs s → show_of s < length f.shows
show_known f s kept h =
    let each = list_all-at (is_kept_sub (length f.shows) (length f.allocs)) f.subs h.place s kept.subs.each h.at in
    ltb-true (show_of s) (length f.shows) (and_both (nat_lt (show_of s) (length f.shows)) _ each).0

abbrev ranks_of : Farm → ℕ → List SubRow → List Rank
ranks_of f host subs = flat_map (λ (s : SubRow). ranks_in_show f host (show_of s)) subs

pub plan_unready : (f : Farm) (host : ℕ) (row : HostRow) → KeepsRows f → slice_get f.hosts host ≡ Some row
    → ((show : ℕ) → show < length f.shows → ready_of (lists_of f) show ≡ []) → plan_for f host ≡ []
plan_unready f host row kept hosted none =
    let subs = sorted_subs f (subs_to f row.alloc) in
    let empty : ranks_of f host subs ≡ [] =
    empty_by (ranks_of f host subs)
    (λ r h.
    let from = flat_from (λ (s : SubRow). ranks_in_show f host (show_of s)) subs r h in
    let to = sub_to f kept.shows (length f.allocs) kept.subs row.alloc from.from from.there in
    none_in_show f host (show_of from.from) r (none (show_of from.from) (show_known f from.from kept to.there)) from.within)
    in
    sym (plan_is f host row kept hosted)
    ∙ (ap (λ (ss : List SubRow). offered [] (ranks_of f host (sorted_subs f ss))) (subs_read f host row kept hosted)
    ∙ (ap (offered []) empty ∙ offered_none [] (omega arith)))
