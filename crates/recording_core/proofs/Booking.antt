-- A booking is recorded: its slot's word is the booking's already.
use Rattle.std.proofs.Common.{◌≡◌, ◌≢◌, ℕ, ◌+◌, ◌<◌, ◌≤◌, Bool, true, false, if◌then◌else◌, ◌==◌, ◌&&◌, ◌||◌, List, [], ◌∷◌, ◌++◌, length, length-append, set, slice_index, sym, refl, ap, ◌∙◌, subst, arith, inl, inr, ⊎_elim}
use Rattle.std.specs.Prelude.{Option, Some, None}
use mathlib.Core.Option.{some}
use mathlib.Core.Logic.{dite}
use native.Mathlib.Decide.{ℕ_discrete}
use lib.ListN.{get_elem?}
use Rattle.std.proofs.lemmas.Bool.Decides.{nat_tests}
use Rattle.farm_types.specs.declared.entry.Act.TheVariants.{Book}
use Rattle.farm_types.specs.declared.entry.Entry.{Entry}
use Rattle.farm_types.specs.Farm.{Farm}
use Rattle.farm_types.specs.Run.{IsLegalStep, run_of}
use Rattle.farm_types.specs.Step.{after}
use Rattle.farm_law.proofs.LegalRuns.{legal_append}
use Rattle.frame_words.specs.declared.frame_word.FrameWord.{FrameWord}
use Rattle.booking_rule.specs.declared.desk.Desk.{Desk}
use Rattle.booking_rule.specs.declared.hold.Claim.{Claim}
use Rattle.booking_rule.specs.declared.noted.Noted.{Noted}
use Rattle.booking_rule.specs.declared.view.View.{View}
use Rattle.booking_rule.specs.Totals.{total}
use Rattle.booking_rule.specs.Words.{Words, put, words_of}
use Rattle.booking_rule.specs.Recorded.{Recorded, Stand}
use Rattle.booking_rule.specs.Link.{farm_of, recorded_in, stand_at, IsDone, hosted, is_billed, is_counted}
use Rattle.booking_rule.specs.Rule.{word_of, IsTaken, ShowsFrame, SameAmounts, Shows, cores_of, memory_of, booked_of, granted_of, running_of, counted_of, is_at, claims_at, is_like, claims_like, claim_in, is_pending, is_claimed, Rule}
use Rattle.booking_rule.specs.Views.{same_claim, without, recorded, desk_after}
use Rattle.booking_rule.specs.Looks.{look_of, first_of, Saw, AllStand, Looks}
use Rattle.booking_rule.specs.Kept.{Kept, Holds, farm_in}
use Rattle.booking_rule.proofs.Sums.{total_set}
use Rattle.booking_rule.proofs.Moves.{same_self, same_not, put_here, put_else, view_moves, HoldsRooms, HoldsTakes, HoldsLimits, cores_held, memory_held, granted_held, flight_held, limit_held, limit_flight_held}
use Rattle.booking_rule.proofs.Steps.{claim_same}
use Rattle.booking_rule.proofs.Keeping.{found_finds}
use Rattle.booking_rule.proofs.Looking.{all_stand, stays, tells_nothing}
use Rattle.booking_rule.proofs.Own.{of_first}
use Rattle.booking_rule.proofs.Resizing.{none_resized}
use Rattle.booking_rule.proofs.Recording.{suited_grows}
use Rattle.booking_rule.proofs.Seating.{desk_steps}
use Rattle.booking_rule.proofs.Seeing.{suited_set, suited_without, looks_set, ranged_step, written_more}
use Rattle.booking_rule.proofs.Turning.{done_by, Rises}
use Rattle.booking_rule.proofs.Lending.{done_lends}
use Rattle.entry_law.specs.Alone.{BooksAlone}
use Rattle.entry_law.proofs.Alone.{books_alone}
use Rattle.booking_core.specs.Machine.{Table}
use Rattle.recording_core.specs.Records.{entry_item, desk_booked, with_booking, booked, knows}
use Rattle.recording_core.specs.Records.RecorderKind.{books}
use Rattle.recording_core.specs.Machine.{MayRecord, Asks, acts}
use Rattle.recording_core.proofs.Written.{journal_holds}

-- ---- a list without one of its items

module _ {A : Type 0} where
  -- the total isn't more, and the same where the item weighs nothing
  without_le : (same : A → A → Bool) (g : A → ℕ) (t : A) (us : List A) → total g (without same t us) ≤ total g us
  without_le same g t [] = omega arith
  without_le same g t (u ∷ us) = go (without_le same g t us) (same t u)
    where
      go : total g (without same t us) ≤ total g us → (b : Bool) → total g (if b then us else u ∷ without same t us) ≤ g u + total g us
      go rest true = omega arith
      go rest false = omega arith

  without_other : (same : A → A → Bool) (g : A → ℕ) (t : A) (us : List A) → ((u : A) → same t u ≡ true → g u ≡ 0) → total g (without same t us) ≡ total g us
  without_other same g t [] none = refl
  without_other same g t (u ∷ us) none = go (without_other same g t us none) (same t u) refl
    where
      go : total g (without same t us) ≡ total g us → (b : Bool) → same t u ≡ b → total g (if b then us else u ∷ without same t us) ≡ g u + total g us
      go rest true is = let z = none u is in omega arith
      go rest false is = omega arith

-- ---- the rule: the slot's word and amounts are those of its new stand

module _ (R : Recorded) (W : Words) (views : List View) (id : ℕ) (v w : View) (slot : ℕ) (s : Stand) (K : Rule R (Some slot) W views) (at : get_elem? views id ≡ some v) (lt : slot < 65536)
    (shown : W.frame slot ≡ word_of s) (runs : s.phase ≡ 4) (amounts : SameAmounts s (W.amount slot)) (rooms : HoldsRooms v w) (takes : HoldsTakes v w) (limits : HoldsLimits v w)
    (fewer : (k m : ℕ) → claims_at k m w ≤ claims_at k m v) (others : (c : Claim) → c.slot ≢ slot → claims_like c w ≡ claims_like c v) where
  off : (k : ℕ) → k ≢ slot → is_pending (Some slot) k ≡ false
  off k ne = same_not slot k (λ e. ne (sym e))

  shows : (j : ℕ) → j < 65536 → Shows false (put R.slot slot s j) (W.frame j) (W.amount j)
  shows j l = dite (ℕ_discrete j slot)
      (λ e. let P : ℕ → Type 0 = λ x. Shows false (put R.slot slot s x) (W.frame x) (W.amount x) in
      subst P (sym e) (subst (λ (x : Stand). Shows false x (W.frame slot) (W.amount slot)) (sym (put_here R.slot slot s))
      (record { frame = exact (s.phase == 1); amount = λ _. amounts })))
      (λ ne. subst (λ (x : Stand). Shows false x (W.frame j) (W.amount j)) (sym (put_else R.slot slot s j ne))
      (subst (λ (b : Bool). Shows b (R.slot j) (W.frame j) (W.amount j)) (off j ne) (K.shows j l)))
    where
      exact : (b : Bool) → ShowsFrame b false s (W.frame slot)
      exact true = inl shown
      exact false = shown

  unclaimed : is_claimed false (W.frame slot) ≡ false
  unclaimed =
      let four : (W.frame slot).phase ≡ 4 = ap (λ (x : FrameWord). x.phase) shown ∙ runs in
      ap (λ (k : ℕ). k == 3 || (false && (k == 4))) four

  rule_booked : Rule (record R { slot = put R.slot slot s }) None W (set views id w)
  rule_booked = record {
    shows = shows;
    pend = λ j l is. absurd (clash is);
    claims = record {
      one = λ k m l. (let t = total_set (claims_at k m) views id v w at in let f = fewer k m in let o = K.claims.one k m l in omega arith);
      claimed = λ k l is. dite (ℕ_discrete k slot)
          (λ e. let P : ℕ → Type 0 = λ x. is_claimed false (W.frame x) ≡ true in absurd (clash (sym unclaimed ∙ subst P e is)))
          (λ ne. let c = claim_in R.alloc k (W.frame k) (W.amount k) in let t = total_set (claims_like c) views id v w at in let y = others c ne in
          let o = K.claims.claimed k l (ap (λ (b : Bool). is_claimed b (W.frame k)) (off k ne) ∙ is) in omega arith);
      not_later = λ k m l later. (let t = total_set (claims_at k m) views id v w at in let f = fewer k m in let o = K.claims.not_later k m l later in omega arith);
    };
    cores = λ h l. (let m = view_moves (cores_of h) R W views id v w at in let o = K.cores h l in let q = cores_held v w h rooms in omega arith);
    memory = λ h l. (let m = view_moves (memory_of h) R W views id v w at in let o = K.memory h l in let q = memory_held v w h rooms in omega arith);
    booked = λ j l. (let m = view_moves (booked_of R.alloc j) R W views id v w at in let o = K.booked j l in
        let q = granted_held v w j takes in let y = flight_held v w j takes in omega arith);
    burst = K.burst;
    within = λ j l. (let m = view_moves (granted_of R.alloc j) R W views id v w at in let o = K.within j l in let q = granted_held v w j takes in omega arith);
    running = λ j l. (let m = view_moves (running_of j) R W views id v w at in let o = K.running j l in
        let q = limit_held v w j limits in let y = limit_flight_held v w j limits in omega arith);
    most = K.most;
    few = λ j l. (let m = view_moves (counted_of j) R W views id v w at in let o = K.few j l in let q = limit_held v w j limits in omega arith);
  }
    where
      clash : false ≡ true → ⊥
      clash e = cc

-- ---- what was seen stands

saw_stays : (stand : ℕ → Stand) (slot : ℕ) (s : Stand) (n : Noted) (m : Option Noted) → Rises (stand slot) s → Saw stand n m → Saw (put stand slot s) n m
saw_stays stand slot s n m rises saw is = stays stand slot s (look_of n m) rises.version rises.waiting (grind (arith, nat_tests)) (saw is)

all_stay : (stand : ℕ → Stand) (slot : ℕ) (s : Stand) (ns : List Noted) → Rises (stand slot) s → AllStand stand ns → AllStand (put stand slot s) ns
all_stay stand slot s [] rises h = tt
all_stay stand slot s (n ∷ ns) rises h = (saw_stays stand slot s n (first_of ns) rises h.0, all_stay stand slot s ns rises h.1)

-- ---- the word of a claim that runs ahead

ahead_taken : (b pending : Bool) (s : Stand) (f : FrameWord) → (s.phase == 1) ≡ b → s.phase ≡ 1 → f.phase ≡ 4 → ShowsFrame b pending s f → IsTaken pending s f
ahead_taken true pending s f is waits runs shows =
    ⊎_elim (λ (e : f ≡ word_of s). absurd (let p : f.phase ≡ s.phase = ap (λ (x : FrameWord). x.phase) e in omega arith)) (λ (t : IsTaken pending s f). t) shows
ahead_taken false pending s f is waits runs shows = absurd (clash (sym is ∙ ap (λ (k : ℕ). k == 1) waits))
  where
    clash : false ≡ true → ⊥
    clash e = cc

pub run_end : (f : Farm) (xs : List Entry) (e : Entry) → run_of f (xs ++ e ∷ []) ≡ after (run_of f xs) e
run_end f [] e = refl
run_end f (x ∷ xs) e = run_end (after f x) xs e

-- ---- all that is kept

module _ (n : ℕ) (W : Words) (views : List View) (id : ℕ) (v : View) (d : Desk) (c : Claim) (e : Entry) (item : Noted) (K : Kept n W views) (at : get_elem? views id ≡ some v)
    (is : v.desk ≡ Some d) (lt : c.slot < 65536) (pending : d.pending ≡ Some c.slot) (done : IsDone v.opening v.journal d) (legal : IsLegalStep (farm_in v) e)
    (act : e.act ≡ Book c.slot c.host) where
  abbrev log : List Entry
  log = v.journal ++ e ∷ []

  -- the desk while nothing was changed yet, and with the slot
  abbrev first : Desk
  first = record d { before = Some v.journal; slots = []; hosts = []; subs = []; limits = [] }

  abbrev then_desk : Desk
  then_desk = record d { before = Some v.journal; slots = c.slot ∷ []; hosts = []; subs = []; limits = []; pending = None }

  abbrev R : Recorded
  R = recorded_in v.opening log first

  abbrev s : Stand
  s = stand_at (run_of (farm_of v.opening) log) c.slot

  alone : BooksAlone (farm_in v) (run_of (farm_of v.opening) log) c.slot c.host
  alone =
      subst (λ (g : Farm). BooksAlone (farm_in v) g c.slot c.host) (sym (run_end (farm_of v.opening) v.journal e)) (books_alone (farm_in v) e c.slot c.host legal act)

  same : recorded_in v.opening v.journal d ≡ R
  same = λ i. record {
    slot = λ k. done.slot k i;
    cores = λ k. done.cores k i;
    memory = λ k. done.memory k i;
    alloc = λ k. done.alloc k i;
    burst = λ k. done.burst k i;
    most = λ k. done.most k i;
    roomed = λ k. done_lends v.opening v.journal d k (hosted d (stand_at (farm_in v) k)) (done.slot k) i;
    billed = λ k. done_lends v.opening v.journal d k (is_billed (farm_in v) d (stand_at (farm_in v) k)) (done.slot k) i;
    counted = λ k. done_lends v.opening v.journal d k (is_counted d (stand_at (farm_in v) k)) (done.slot k) i;
  }

  next : record R { slot = put R.slot c.slot s } ≡ recorded_in v.opening log then_desk
  next = λ i. record {
    slot = λ k. done_by stand_at (farm_in v) (run_of (farm_of v.opening) log) [] c.slot k i;
    cores = R.cores;
    memory = R.memory;
    alloc = R.alloc;
    burst = R.burst;
    most = R.most;
    roomed = R.roomed;
    billed = R.billed;
    counted = R.counted;
  }

  rises : Rises (R.slot c.slot) s
  rises =
      let version : s.version ≡ (stand_at (farm_in v) c.slot).version + 1 = ap (λ (x : Stand). x.version) alone.booked in
      record { version = omega arith; waiting = λ _ _. inr (omega arith) }

  fewer : (k m : ℕ) → total (is_at k m) (without same_claim c v.claims) ≤ total (is_at k m) v.claims
  fewer k m = without_le same_claim (is_at k m) c v.claims

  others : (x : Claim) → x.slot ≢ c.slot → total (is_like x) (without same_claim c v.claims) ≡ total (is_like x) v.claims
  others x ne = without_other same_claim (is_like x) c v.claims (λ u same_u.
      let same_c : c ≡ u = claim_same c u same_u in
      let P : Claim → Type 0 = λ y. is_like x y ≡ 0 in
      subst P same_c (apart x ne))
    where
      apart : (x : Claim) → x.slot ≢ c.slot → is_like x c ≡ 0
      apart x ne =
          let rest =
          (x.version == c.version) && ((x.host == c.host) && ((x.sub == c.sub) && ((x.cores == c.cores) && ((x.limit == c.limit) && (x.memory == c.memory))))) in
          let weighs : Bool → ℕ = λ b. if b && rest then 1 else 0 in
          ap weighs (same_not x.slot c.slot ne)

  pub booked_kept : d.on ≡ c.host → item.word ≡ 0 → (item.did == 14) ≡ false → Kept (n + 1) W (set views id (with_booking (recorded v e item) c))
  booked_kept on_host place other =
      let w = with_booking (recorded v e item) c in
      let A = of_first n W views id v d K at is in
      let m = A.seats.each id v at in
      let rule : Rule R (Some c.slot) W views =
      subst (λ (p : Option ℕ). Rule R p W views) pending (subst (λ (x : Recorded). Rule x d.pending W views) same A.rule) in
      let looks : Looks R.slot views = subst (λ (x : Recorded). Looks x.slot views) same A.looks in
      let ahead = rule.pend c.slot lt (same_self c.slot) in
      let host : (W.frame c.slot).host ≡ c.host =
      A.ahead.each c.slot lt (ap (λ (p : Option ℕ). is_pending p c.slot) pending ∙ same_self c.slot) ∙ on_host in
      let shown = rule.shows c.slot lt in
      let taken = ahead_taken ((R.slot c.slot).phase == 1) (is_pending (Some c.slot) c.slot) (R.slot c.slot) (W.frame c.slot) refl ahead.waits ahead.runs shown.frame in
      let b = alone.booked in
      let phase : s.phase ≡ 4 = ap (λ (x : Stand). x.phase) b in
      let version : s.version ≡ (R.slot c.slot).version + 1 = ap (λ (x : Stand). x.version) b in
      let on : s.host ≡ c.host = ap (λ (x : Stand). x.host) b in
      let cores : s.cores ≡ (R.slot c.slot).cores = ap (λ (x : Stand). x.cores) b in
      let word : W.frame c.slot ≡ word_of s = (λ i. record {
        phase = (ahead.runs ∙ sym phase) i;
        version = (taken.version ∙ sym version) i;
        host = (host ∙ sym on) i;
        cores = (taken.cores ∙ sym cores) i;
      }) in
      let a = shown.amount (ap (λ (k : ℕ). k == 0) ahead.waits) in
      let amounts : SameAmounts s (W.amount c.slot) =
      (a.0 ∙ sym (ap (λ (x : Stand). x.show) b), (a.1.0 ∙ sym (ap (λ (x : Stand). x.limit) b), a.1.1 ∙ sym (ap (λ (x : Stand). x.memory) b))) in
      let ruled =
      rule_booked R W views id v w c.slot s rule at lt word phase amounts (record { rooms = refl }) (record { takes = refl; ungranted = refl }) (record { limits = refl; ungranted = refl })
      fewer others in
      let longer = suited_grows (farm_of v.opening) v.journal (e ∷ []) views A.suited in
      let saw : Looks R.slot (set views id w) = looks_set R.slot views id w looks (all_stand R.slot v.trail item (looks.each id v at) (tells_nothing R.slot item (inl place))) in
      let stood : Looks (put R.slot c.slot s) (set views id w) = record { each = λ j x q. all_stay R.slot c.slot s x.trail rises (saw.each j x q) } in
      record {
        seat = id;
        opening = v.opening;
        desk = then_desk;
        log = log;
        trail = v.trail ++ item ∷ [];
        own = record {
          journal = (let l = length-append v.journal (e ∷ []) in let j = A.journal in omega arith);
          begins = A.begins;
          legal = legal_append (farm_of v.opening) v.journal (e ∷ []) A.legal (legal, tt);
          before = inr (e, refl);
          alone = λ q. absurd (some_none q);
          ahead = record { each = λ j l q. absurd (off q) };
          rule = subst (λ (x : Recorded). Rule x None W (set views id w)) next ruled;
          suited = suited_set (farm_of v.opening) log views id w longer (suited_without (farm_of v.opening) log c v.claims (longer.each id v at));
          looks = subst (λ (x : Recorded). Looks x.slot (set views id w)) next stood;
          ranged = ranged_step W.frame W.amount views W.frame id v w item A.ranged at refl (found_finds W item (inr (inr (inl place)))) (λ slot. refl) (λ slot. refl);
          written = written_more W.amount v.trail item A.written other;
          resizing = none_resized (recorded_in v.opening log then_desk).cores (recorded_in v.opening log then_desk).memory (run_of (farm_of v.opening) log) W.host W.frame
              (set views id w) (λ k. (sym (alone.cores k), sym (alone.memory k)));
          seats = desk_steps id v.opening d then_desk v.journal (e ∷ []) v.trail (item ∷ []) views id v w (length v.journal ∷ []) A.seats at is
              (ap (λ (o : Option Desk). desk_booked c.slot (desk_after v.journal o)) is) refl refl refl refl refl refl refl refl m.flight m.limit_flight refl (inr (refl, omega arith));
        };
      }
    where
      off : false ≡ true → ⊥
      off q = cc

      some_none : Some v.journal ≡ None → ⊥
      some_none q = cc

  -- nothing is left to do
  pub booked_done : IsDone v.opening log then_desk
  booked_done = record {
    slot = λ k. go k (c.slot == k) refl;
    cores = λ k. sym (alone.cores k);
    memory = λ k. sym (alone.memory k);
    alloc = λ k. sym (alone.alloc k);
    burst = λ k. sym (alone.burst k);
    most = λ k. sym (alone.most k);
  }
    where
      go : (k : ℕ) (b : Bool) → (c.slot == k) ≡ b
          → (if b || false then stand_at (run_of (farm_of v.opening) log) k else stand_at (farm_in v) k) ≡ stand_at (run_of (farm_of v.opening) log) k
      go k true q = refl
      go k false q = sym (alone.others k (grind (arith, nat_tests)))

-- ---- the step

module _ (s : Table) (id : ℕ) (v : View) (c : Claim) (e : Entry) where
  pub books_holds : Holds s → get_elem? s.views id ≡ some v → Asks s v (books c e) → Holds (acts s id v (books c e))
  books_holds h at asks =
      let n = slice_index s.words 0 in
      let d = asks.0.0 in
      let item = entry_item n in
      journal_holds s id (n + 1) (booked v c e n) h.0
      (booked_kept n (words_of s.words) s.views id v d c e item h.1 at asks.0.1 asks.2 asks.0.2 asks.0.3 asks.1.0 asks.3 (asks.4 d asks.0.1) refl refl)

  -- the next entry may come at once
  pub books_done : (found : ℕ) → Holds s → get_elem? s.views id ≡ some v → Asks s v (books c e) → MayRecord (knows v (books c e) found) None
  books_done found h at asks =
      let d = asks.0.0 in
      let D : Desk = record d { before = Some v.journal; slots = c.slot ∷ []; hosts = []; subs = []; limits = []; pending = None } in (
        D,
        ap (λ (o : Option Desk). desk_booked c.slot (desk_after v.journal o)) asks.0.1,
        refl,
        booked_done (slice_index s.words 0) (words_of s.words) s.views id v d c e (entry_item found) h.1 at asks.0.1 asks.2 asks.0.2 asks.0.3 asks.1.0 asks.3,
      )
