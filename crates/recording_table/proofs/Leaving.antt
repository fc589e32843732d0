-- The host of a claim's word is recorded: the claim suited a farm of the journal, and its cores are a part of the host's size.
use Rattle.std.proofs.Common.{◌≡◌, ◌≢◌, ℕ, zero, suc, ◌+◌, ◌-◌, ◌<◌, ◌≤◌, Bool, true, false, ◌==◌, ◌&&◌, ◌||◌, if◌then◌else◌, eqb, List, [], ◌∷◌, take, length, refl, sym, ap, ◌∙◌, subst, arith, ⊎_elim}
use Rattle.std.specs.Prelude.{Some}
use Rattle.std.specs.List.{slice_get}
use Rattle.std.proofs.lemmas.Bool.{true≢false}
use Rattle.std.proofs.lemmas.Option.{slice_get_within}
use mathlib.Core.Option.{some}
use lib.ListN.{get_elem?}
use Rattle.farm_types.specs.declared.entry.Entry.{Entry}
use Rattle.farm_types.specs.declared.rows.HostRow.{HostRow}
use Rattle.farm_types.specs.Booking.{suits}
use Rattle.farm_types.specs.Booking.{is_pending as job_pending}
use Rattle.farm_types.specs.Farm.{Farm, job_at}
use Rattle.farm_types.specs.Run.{run_of}
use Rattle.farm_types.proofs.Lists.{and_both, for_some_true}
use Rattle.farm_law.proofs.LegalRuns.{legal_take}
use Rattle.depend_law.proofs.KeptRuns.{kept_run}
use Rattle.frame_words.specs.declared.frame_word.FrameWord.{FrameWord}
use Rattle.booking_rule.specs.declared.desk.Desk.{Desk}
use Rattle.booking_rule.specs.declared.hold.Claim.{Claim}
use Rattle.booking_rule.specs.declared.noted.Noted.{Noted}
use Rattle.booking_rule.specs.declared.opening.Opening.{Opening}
use Rattle.booking_rule.specs.declared.view.View.{View}
use Rattle.booking_rule.specs.Kept.{KeptAs}
use Rattle.booking_rule.specs.Link.{farm_of, recorded_in}
use Rattle.booking_rule.specs.Recorded.{Recorded, Stand}
use Rattle.booking_rule.specs.Rule.{IsTaken, ShowsFrame, claim_in, claims_like, cores_of, is_booked, is_claimed, is_like, is_pending, weight, word_of}
use Rattle.booking_rule.specs.Suits.{AllSuit, SuitsOnce}
use Rattle.booking_rule.specs.Totals.{total}
use Rattle.booking_rule.specs.Views.{same_claim}
use Rattle.booking_rule.specs.Words.{Words}
use Rattle.booking_rule.proofs.Moves.{same_self}
use Rattle.booking_rule.proofs.Sizing.{sum_to_part}
use Rattle.booking_rule.proofs.Steps.{claim_same}

-- a booked word of a frame that waits is a claim's
pub taken_setup : (s : Stand) (f : FrameWord) → s.phase ≡ 1 → ShowsFrame true false s f → is_booked f.phase ≡ true → f.phase ≡ 3
taken_setup s f waits shows booked =
    ⊎_elim
    (λ (e : f ≡ word_of s).
    let idle : is_booked f.phase ≡ false = ap (λ (x : FrameWord). is_booked x.phase) e ∙ ap is_booked waits in
    absurd (true≢false (sym booked ∙ idle)))
    (λ (t : IsTaken false s f). t.phase)
    shows

-- ---- a claim that a seat has suited a farm of the journal

claim_suits : (f : Farm) (log : List Entry) (c : Claim) (cs : List Claim) → 0 < total (is_like c) cs → AllSuit f log cs → SuitsOnce f log c
claim_suits f log c [] likes suit = absurd (omega (arith, likes))
claim_suits f log c (d ∷ ds) likes suit = by (λ more. claim_suits f log c ds more suit.1) (same_claim c d) refl likes
  where
    by : (0 < total (is_like c) ds → SuitsOnce f log c) → (b : Bool) → same_claim c d ≡ b → 0 < (if b then 1 else 0) + total (is_like c) ds → SuitsOnce f log c
    by rest true same likes = subst (SuitsOnce f log) (sym (claim_same c d same)) suit.0
    by rest false same likes = rest (omega (arith, likes))

seat_suits : (f : Farm) (log : List Entry) (c : Claim) (views : List View) → ((id : ℕ) (v : View) → get_elem? views id ≡ some v → AllSuit f log v.claims)
    → 0 < total (claims_like c) views → SuitsOnce f log c
seat_suits f log c [] each likes = absurd (omega (arith, likes))
seat_suits f log c (v ∷ vs) each likes = by (seat_suits f log c vs (λ id u at. each (suc id) u at)) (total (is_like c) v.claims) refl likes
  where
    by : (0 < total (claims_like c) vs → SuitsOnce f log c) → (n : ℕ) → total (is_like c) v.claims ≡ n → 0 < n + total (claims_like c) vs → SuitsOnce f log c
    by rest zero is likes = rest (omega (arith, likes))
    by rest (suc n) is likes = claim_suits f log c v.claims (omega (arith, is)) (each 0 v refl)

-- what suits a farm is on one of its hosts
suits_there : (f : Farm) (n version host sub : ℕ) → suits f n version host sub ≡ true → (row : HostRow) × (slice_get f.hosts host ≡ Some row)
suits_there f n version host sub suited =
    let row = for_some_true (slice_get f.slots n) _ suited in
    let of_slot = and_both (eqb row.0.version version) _ row.2 in
    let frame = for_some_true row.0.frame _ of_slot.1 in
    let job = for_some_true (job_at f frame.0.job) _ frame.2 in
    let of_job = and_both (job_pending job.0.state) _ job.2 in
    let on = for_some_true (slice_get f.hosts host) _ of_job.1 in
    (on.0, on.1)

-- ---- a claim's word

module _ (n : ℕ) (W : Words) (views : List View) (id : ℕ) (o : Opening) (d : Desk) (log : List Entry) (trail : List Noted)
    (K : KeptAs n W views id o d log trail) (slot : ℕ) (lt : slot < 65536) (setup : (W.frame slot).phase ≡ 3) where
  abbrev R : Recorded
  R = recorded_in o log d

  abbrev claim : Claim
  claim = claim_in R.alloc slot (W.frame slot) (W.amount slot)

  suited : SuitsOnce (farm_of o) log claim
  suited =
      let claimed : is_claimed (is_pending d.pending slot) (W.frame slot) ≡ true =
      ap (λ (k : ℕ). k == 3 || (is_pending d.pending slot && (k == 4))) setup in
      let one = K.rule.claims.claimed slot lt claimed in
      seat_suits (farm_of o) log claim views K.suited.each (omega (arith, one))

  -- its host is one of the table's
  pub below : (W.frame slot).host < 4096
  below =
      let f = run_of (farm_of o) (take suited.0 log) in
      let row = suits_there f slot (claim.version - 1) claim.host claim.sub suited.2 in
      let kept = kept_run (farm_of o) (take suited.0 log) K.begins (legal_take (farm_of o) suited.0 log K.legal) in
      let count : length f.hosts ≤ 4096 = kept.rows.hosts.count in
      let within = slice_get_within f.hosts (W.frame slot).host row.0 row.1 in
      omega (arith, count, within)

  -- .. and has a recorded size
  pub sized : R.cores (W.frame slot).host ≢ 0
  sized none =
      let f = W.frame slot in
      let host = f.host in
      let whole = K.rule.cores host below in
      let used : (f.phase == 0) ≡ false = ap (λ (k : ℕ). k == 0) setup in
      let least : 10 ≤ f.cores = (K.ranged.cores slot lt used).0 in
      let part = sum_to_part 65536 (weight (cores_of host) R W) slot lt in
      let mine : (cores_of host).weigh f (W.amount slot) ≡ f.cores =
      ap (λ (k : ℕ). if is_booked k && (f.host == host) then f.cores else 0) setup ∙ ap (λ (b : Bool). if b then f.cores else 0) (same_self host) in
      omega (arith, whole, least, part, mine, none)
