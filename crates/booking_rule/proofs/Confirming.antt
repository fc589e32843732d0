-- A claim's word becomes a running one, ahead of its booking's entry; and back, where the booking is refused.
use Rattle.std.proofs.Common.{◌≡◌, ◌≢◌, ℕ, ◌<◌, Bool, true, false, if◌then◌else◌, ◌==◌, ◌&&◌, ◌||◌, List, [], ◌∷◌, ◌++◌, set, sym, refl, ap, ◌∙◌, subst, arith, inl, inr, ⊎_elim}
use Rattle.std.specs.Prelude.{Option, Some, None}
use Rattle.std.proofs.lemmas.List.{append-nil}
use Rattle.std.proofs.lemmas.Bool.Decides.{nat_tests}
use mathlib.Core.Option.{some}
use mathlib.Core.Logic.{dite}
use native.Mathlib.Decide.{ℕ_discrete}
use lib.ListN.{get_elem?}
use Rattle.farm_types.specs.declared.entry.Entry.{Entry}
use Rattle.farm_types.specs.Run.{run_of}
use Rattle.frame_words.specs.declared.frame_word.FrameWord.{FrameWord}
use Rattle.frame_words.specs.Bits.{frame_of}
use Rattle.booking_rule.specs.declared.desk.Desk.{Desk}
use Rattle.booking_rule.specs.declared.view.View.{View}
use Rattle.booking_rule.specs.declared.hold.Claim.{Claim}
use Rattle.booking_rule.specs.declared.noted.Noted.{Noted}
use Rattle.booking_rule.specs.Totals.{total}
use Rattle.booking_rule.specs.Words.{Words, frame_place, put, with_frame}
use Rattle.booking_rule.specs.Recorded.{Stand, Recorded}
use Rattle.booking_rule.specs.Views.{with_pending, confirmed}
use Rattle.booking_rule.specs.Link.{farm_of, recorded_in, IsDone}
use Rattle.booking_rule.specs.Resizing.{Resizing}
use Rattle.booking_rule.specs.Rule.{NamesHost, is_booked, word_of, IsTaken, ShowsFrame, Shows, RunsAhead, is_at, claims_at, is_like, claims_like, claim_in, is_pending, is_claimed, Rule}
use Rattle.booking_rule.specs.Seats.{Seats}
use Rattle.booking_rule.specs.Kept.{Kept}
use Rattle.booking_rule.proofs.Sums.{total_set}
use Rattle.booking_rule.proofs.Moves.{same_self, same_not, put_here, put_else, HoldsAlike, cores_held, memory_held, granted_held, flight_held, limit_held, limit_flight_held}
use Rattle.booking_rule.proofs.Says.{none_setup}
use Rattle.booking_rule.proofs.Weighing.{WeighAlike, frame_rule, setup_stands, cores_weighed, memory_weighed, sub_weighed, limit_weighed}
use Rattle.booking_rule.proofs.Looking.{all_stand, tells_frame}
use Rattle.booking_rule.proofs.Seeing.{suited_set, looks_set, ranged_step, written_more}
use Rattle.booking_rule.proofs.Keeping.{IsFoundFrame, found_finds}
use Rattle.booking_rule.proofs.Own.{of_first}
use Rattle.booking_rule.proofs.Seating.{desk_steps}
use Rattle.booking_rule.proofs.Resizing.{none_resized, resizing_desk, resizing_frame}

-- the word in another phase
abbrev pub in_phase : ℕ → FrameWord → FrameWord
in_phase phase f = record f { phase = phase }

-- both phases are booked: the word weighs as much
alike_phase : (R : Recorded) (f : FrameWord) (phase : ℕ) (W : Words) (slot : ℕ) (v w : View) → is_booked f.phase ≡ true → is_booked phase ≡ true → HoldsAlike v w
    → WeighAlike R.alloc f (in_phase phase f) (W.amount slot) v w
alike_phase R f phase W slot v w was is same =
    let a = W.amount slot in
    let g = in_phase phase f in
    record {
      cores = λ h. (let x = cores_weighed R f a was h in let y = cores_weighed R g a is h in let c = cores_held v w h same.rooms in omega arith);
      memory = λ h. (let x = memory_weighed R f a was h in let y = memory_weighed R g a is h in let c = memory_held v w h same.rooms in omega arith);
      granted = λ j. (let x = sub_weighed R f a was j in let y = sub_weighed R g a is j in let c = granted_held v w j same.takes in omega arith);
      flight = λ j. flight_held v w j same.takes;
      counted = λ l. (let x = limit_weighed R f a was l in let y = limit_weighed R g a is l in let c = limit_held v w l same.limits in omega arith);
      limit_flight = λ l. limit_flight_held v w l same.limits;
    }

-- what a claimed word of a waiting frame is
of_claim : (b pending : Bool) (s : Stand) (f : FrameWord) → b ≡ true → s.phase ≡ 1 → f.phase ≢ 1 → ShowsFrame b pending s f → IsTaken pending s f
of_claim true pending s f e waits ne h = ⊎_elim (λ (x : f ≡ word_of s). absurd (ne (ap (λ (y : FrameWord). y.phase) x ∙ waits))) (λ (x : IsTaken pending s f). x) h
of_claim false pending s f e waits ne h = absurd (off e)
  where
    off : false ≡ true → ⊥
    off e = cc

module _ (R : Recorded) (W : Words) (views : List View) (id : ℕ) (v w : View) (slot : ℕ) (p q : Option ℕ) (from to : ℕ) (K : Rule R p W views) (at : get_elem? views id ≡ some v) (lt : slot < 65536)
    (apart_p : (j : ℕ) → j ≢ slot → is_pending p j ≡ false) (apart_q : (j : ℕ) → j ≢ slot → is_pending q j ≡ false)
    (was : (W.frame slot).phase ≡ from) (booked : is_booked from ≡ true) (books : is_booked to ≡ true) (waits : (R.slot slot).phase ≡ 1) (same : HoldsAlike v w)
    (claimed_p : is_claimed (is_pending p slot) (W.frame slot) ≡ true) (phase_q : to ≡ (if is_pending q slot then 4 else 3)) where
  -- a claimed word turns from one booked phase to the other, as the slot becomes pending or ceases to be
  moves_phase : Rule R q (with_frame W slot (in_phase to (W.frame slot))) (set views id w)
  moves_phase =
      let f = in_phase to (W.frame slot) in
      let frame' : ℕ → FrameWord = put W.frame slot f in
      let here : frame' slot ≡ f = put_here W.frame slot f in
      let apart : (j : ℕ) → j ≢ slot → frame' j ≡ W.frame j = put_else W.frame slot f in
      let s = R.slot slot in
      let not_one : (W.frame slot).phase ≢ 1 = (λ e. off from (sym was ∙ e) booked) in
      let taken = of_claim (s.phase == 1) (is_pending p slot) s (W.frame slot) (ap (λ (n : ℕ). n == 1) waits) waits not_one (K.shows slot lt).frame in
      let same_at : (k n : ℕ) → total (claims_at k n) (set views id w) ≡ total (claims_at k n) views = (λ k n.
      let m = total_set (claims_at k n) views id v w at in let x : claims_at k n w ≡ claims_at k n v = ap (total (is_at k n)) same.claims in omega arith) in
      let same_like : (d : Claim) → total (claims_like d) (set views id w) ≡ total (claims_like d) views = (λ d.
      let m = total_set (claims_like d) views id v w at in let x : claims_like d w ≡ claims_like d v = ap (total (is_like d)) same.claims in omega arith) in
      frame_rule R R.slot p q W views id v w slot f K at lt
      (alike_phase R (W.frame slot) to W slot v w (ap is_booked was ∙ booked) books same)
      (λ j l. dite (ℕ_discrete j slot)
      (λ e. let P : ℕ → Type 0 = λ x. Shows (is_pending q x) (R.slot x) (frame' x) (W.amount x) in
      subst P (sym e) (record {
        frame = subst (λ (x : FrameWord). ShowsFrame (s.phase == 1) (is_pending q slot) s x) (sym here)
            (subst (λ (b : Bool). ShowsFrame b (is_pending q slot) s f) (sym (ap (λ (n : ℕ). n == 1) waits))
            (inr (record { phase = phase_q; version = taken.version; below = taken.below; cores = taken.cores })));
        amount = (K.shows slot lt).amount;
      }))
      (λ ne. record {
        frame = subst (λ (x : Bool × FrameWord). ShowsFrame ((R.slot j).phase == 1) x.0 (R.slot j) x.1) (λ i. ((apart_p j ne ∙ sym (apart_q j ne)) i, sym (apart j ne) i)) (K.shows j l).frame;
        amount = (K.shows j l).amount;
      }))
      (λ j l is. dite (ℕ_discrete j slot)
      (λ e. let P : ℕ → Type 0 = λ x. RunsAhead (R.slot x) (frame' x) in let Q : ℕ → Type 0 = λ x. is_pending q x ≡ true in
      subst P (sym e) (subst (λ (x : FrameWord). RunsAhead s x) (sym here) (record { waits = waits; runs = phase_q ∙ ap (λ (b : Bool). if b then 4 else 3) (subst Q e is) })))
      (λ ne. absurd (clash (sym is ∙ apart_q j ne))))
      (record {
        one = λ k n l. (let m = same_at k n in let o = K.claims.one k n l in omega arith);
        claimed = λ k l is. dite (ℕ_discrete k slot)
            (λ e. let P : ℕ → Type 0 = λ x. total (claims_like (claim_in R.alloc x (frame' x) (W.amount x))) (set views id w) ≡ 1 in
            subst P (sym e) (subst (λ (x : FrameWord). total (claims_like (claim_in R.alloc slot x (W.amount slot))) (set views id w) ≡ 1) (sym here)
            (same_like (claim_in R.alloc slot (W.frame slot) (W.amount slot)) ∙ K.claims.claimed slot lt claimed_p)))
            (λ ne. let to_old = apart k ne in let d = claim_in R.alloc k (W.frame k) (W.amount k) in
            subst (λ (x : FrameWord). total (claims_like (claim_in R.alloc k x (W.amount k))) (set views id w) ≡ 1) (sym to_old)
            (same_like d ∙ K.claims.claimed k l ((λ i. is_claimed ((apart_p k ne ∙ sym (apart_q k ne)) i) (sym to_old i)) ∙ is)));
        not_later = λ k n l later. same_at k n ∙ dite (ℕ_discrete k slot)
            (λ e. let P : ℕ → Type 0 = λ x. (frame' x).version < n in let Q : ℕ → Type 0 = λ x. (W.frame x).version < n in
            let gt : (frame' slot).version < n = subst P e later in let y : (frame' slot).version ≡ (W.frame slot).version = ap (λ (x : FrameWord). x.version) here in
            K.claims.not_later k n l (subst Q (sym e) (omega arith)))
            (λ ne. K.claims.not_later k n l (subst (λ (x : FrameWord). x.version < n) (apart k ne) later));
      })
    where
      clash : true ≡ false → ⊥
      clash e = cc

      off : (n : ℕ) → n ≡ 1 → is_booked n ≡ true → ⊥
      off n e b = go (sym b ∙ ap is_booked e)
        where
          go : true ≡ false → ⊥
          go x = cc

-- ---- the rule

others_none : (slot : ℕ) (j : ℕ) → j ≢ slot → is_pending (Some slot) j ≡ false
others_none slot j ne = same_not slot j (λ e. ne (sym e))

-- SETUP becomes RUNNING, and the slot is pending
pub confirms : (R : Recorded) (W : Words) (views : List View) (id : ℕ) (v w : View) (slot : ℕ) → Rule R None W views → get_elem? views id ≡ some v → slot < 65536
    → (W.frame slot).phase ≡ 3 → (R.slot slot).phase ≡ 1 → HoldsAlike v w → Rule R (Some slot) (with_frame W slot (in_phase 4 (W.frame slot))) (set views id w)
confirms R W views id v w slot K at lt setup waits same =
    moves_phase R W views id v w slot None (Some slot) 3 4 K at lt (λ j ne. refl) (others_none slot) setup refl refl waits same (ap (λ (n : ℕ). n == 3 || (false && (n == 4))) setup)
    (ap (λ (b : Bool). if b then 4 else 3) (sym (same_self slot)))

-- the pending slot's RUNNING becomes SETUP again
pub withdraws : (R : Recorded) (W : Words) (views : List View) (id : ℕ) (v w : View) (slot : ℕ) → Rule R (Some slot) W views → get_elem? views id ≡ some v → slot < 65536
    → HoldsAlike v w → Rule R None (with_frame W slot (in_phase 3 (W.frame slot))) (set views id w)
withdraws R W views id v w slot K at lt same =
    let ahead = K.pend slot lt (same_self slot) in
    moves_phase R W views id v w slot (Some slot) None 4 3 K at lt (others_none slot) (λ j ne. refl) ahead.runs refl refl ahead.waits same
    ((λ i. is_claimed (same_self slot i) (W.frame slot)) ∙ ap (λ (n : ℕ). n == 3 || (true && (n == 4))) ahead.runs)
    refl

-- ---- all that is kept

module _ (n : ℕ) (W : Words) (views : List View) (id : ℕ) (v : View) (d : Desk) (slot phase : ℕ) (q : Option ℕ) (host : ℕ) (item : Noted) (K : Kept n W views) (at : get_elem? views id ≡ some v) (is : v.desk ≡ Some d) (lt : slot < 65536)
    (place : item.word ≡ frame_place slot) (word : frame_of item.found ≡ W.frame slot) (other : (item.did == 14) ≡ false) where
  phase_kept : ((W.frame slot).phase == 0) ≡ false → (phase == 0) ≡ false
      → Resizing (recorded_in v.opening v.journal d).cores (recorded_in v.opening v.journal d).memory (run_of (farm_of v.opening) v.journal) W.host
      (put W.frame slot (in_phase phase (W.frame slot))) views
      → NamesHost q host (put W.frame slot (in_phase phase (W.frame slot)))
      → Rule (recorded_in v.opening v.journal d) q (with_frame W slot (in_phase phase (W.frame slot))) (set views id (confirmed v q host item))
      → Kept n (with_frame W slot (in_phase phase (W.frame slot))) (set views id (confirmed v q host item))
  phase_kept busy still_busy resizing ahead rule =
      let w = confirmed v q host item in
      let A = of_first n W views id v d K at is in
      let m = A.seats.each id v at in
      let D : Desk = record d { pending = q; on = host } in
      let R = recorded_in v.opening v.journal d in
      let f = in_phase phase (W.frame slot) in
      let found : IsFoundFrame W item = record { slot = slot; within = lt; place = place; word = word } in
      let tells = tells_frame R.slot (is_pending d.pending slot) slot (W.frame slot) (W.amount slot) item (A.rule.shows slot lt) lt place word in
      record {
        seat = id;
        opening = v.opening;
        desk = D;
        log = v.journal;
        trail = v.trail ++ item ∷ [];
        own = record {
          journal = A.journal;
          begins = A.begins;
          legal = A.legal;
          before = A.before;
          alone = A.alone;
          ahead = ahead;
          rule = rule;
          suited = suited_set (farm_of v.opening) v.journal views id w A.suited (A.suited.each id v at);
          looks = looks_set R.slot views id w A.looks (all_stand R.slot v.trail item (A.looks.each id v at) tells);
          ranged = ranged_step W.frame W.amount views (put W.frame slot f) id v w item A.ranged at refl (found_finds W item (inl found))
              (λ j. dite (ℕ_discrete j slot)
              (λ e. let P : ℕ → Type 0 = λ x. ((put W.frame slot f x).phase == 0) ≡ ((W.frame x).phase == 0) in
              subst P (sym e) (ap (λ (x : FrameWord). x.phase == 0) (put_here W.frame slot f) ∙ still_busy ∙ sym busy))
              (λ ne. ap (λ (x : FrameWord). x.phase == 0) (put_else W.frame slot f j ne)))
              (λ j. dite (ℕ_discrete j slot)
              (λ e. let P : ℕ → Type 0 = λ x. (put W.frame slot f x).cores ≡ (W.frame x).cores in subst P (sym e) (ap (λ (x : FrameWord). x.cores) (put_here W.frame slot f)))
              (λ ne. ap (λ (x : FrameWord). x.cores) (put_else W.frame slot f j ne)));
          written = written_more W.amount v.trail item A.written other;
          resizing = resizing_desk R.cores R.memory (run_of (farm_of v.opening) v.journal) W.host (put W.frame slot f) views id v w D resizing at (ap (with_pending q host) is);
          seats = subst (λ (l : List Entry). Seats id v.opening D l (v.trail ++ item ∷ []) (set views id w)) (append-nil v.journal)
              (desk_steps id v.opening d D v.journal [] v.trail (item ∷ []) views id v w [] A.seats at is (ap (with_pending q host) is) refl refl refl (sym (append-nil v.journal)) refl refl refl refl
              m.flight m.limit_flight (sym (append-nil v.receipts)) (inl refl));
        };
      }

  alike_confirmed : HoldsAlike v (confirmed v q host item)
  alike_confirmed = record { rooms = record { rooms = refl }; takes = record { takes = refl; ungranted = refl }; limits = record { limits = refl; ungranted = refl }; claims = refl }

-- the slot of a claim whose word is SETUP becomes pending
pub confirm_kept : (n : ℕ) (W : Words) (views : List View) (id : ℕ) (v : View) (d : Desk) (slot host : ℕ) (item : Noted) (K : Kept n W views) → get_elem? views id ≡ some v → v.desk ≡ Some d → slot < 65536
    → item.word ≡ frame_place slot → frame_of item.found ≡ W.frame slot → (item.did == 14) ≡ false → d.pending ≡ None → (W.frame slot).phase ≡ 3 → (W.frame slot).host ≡ host
    → Kept n (with_frame W slot (in_phase 4 (W.frame slot))) (set views id (confirmed v (Some slot) host item))
confirm_kept n W views id v d slot host item K at is lt place word other none setup on =
    let A = of_first n W views id v d K at is in
    let R = recorded_in v.opening v.journal d in
    let waits = setup_stands (R.slot slot) (is_pending d.pending slot) (W.frame slot) setup (none_setup v.opening v.journal d A.begins.rows A.legal A.before slot) (A.rule.shows slot lt).frame in
    phase_kept n W views id v d slot 4 (Some slot) host item K at is lt place word other (ap (λ (x : ℕ). x == 0) setup) refl
    (resizing_frame R.cores R.memory (run_of (farm_of v.opening) v.journal) W.host W.frame views slot (in_phase 4 (W.frame slot)) A.resizing (λ e. absurd (omega (arith, e))))
    (record {
      each = λ j l q. (let same : slot ≡ j = grind (arith, nat_tests) in let P : ℕ → Type 0 = λ x. (put W.frame slot (in_phase 4 (W.frame slot)) x).host ≡ host in
          subst P same (ap (λ (x : FrameWord). x.host) (put_here W.frame slot (in_phase 4 (W.frame slot))) ∙ on));
    })
    (confirms R W views id v (confirmed v (Some slot) host item) slot (subst (λ (p : Option ℕ). Rule R p W views) none A.rule) at lt setup waits.0 (alike_confirmed n W views id v d slot 4 (Some slot) host item K at is lt place word other))

-- the pending slot's word becomes SETUP again
pub withdraw_kept : (n : ℕ) (W : Words) (views : List View) (id : ℕ) (v : View) (d : Desk) (slot host : ℕ) (item : Noted) (K : Kept n W views) → get_elem? views id ≡ some v → v.desk ≡ Some d → slot < 65536
    → item.word ≡ frame_place slot → frame_of item.found ≡ W.frame slot → (item.did == 14) ≡ false → d.pending ≡ Some slot → IsDone v.opening v.journal d
    → Kept n (with_frame W slot (in_phase 3 (W.frame slot))) (set views id (confirmed v None host item))
withdraw_kept n W views id v d slot host item K at is lt place word other pending done =
    let A = of_first n W views id v d K at is in
    let R = recorded_in v.opening v.journal d in
    let rule : Rule R (Some slot) W views = subst (λ (p : Option ℕ). Rule R p W views) pending A.rule in
    let runs = (rule.pend slot lt (same_self slot)).runs in
    phase_kept n W views id v d slot 3 None host item K at is lt place word other (ap (λ (x : ℕ). x == 0) runs) refl
    (none_resized R.cores R.memory (run_of (farm_of v.opening) v.journal) W.host (put W.frame slot (in_phase 3 (W.frame slot))) views (λ host. (done.cores host, done.memory host)))
    (record { each = λ j l q. absurd (off q) })
    (withdraws R W views id v (confirmed v None host item) slot rule at lt (alike_confirmed n W views id v d slot 3 None host item K at is lt place word other))
  where
    off : false ≡ true → ⊥
    off e = cc
