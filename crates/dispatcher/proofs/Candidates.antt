-- The candidates of a plan: each is ready, no two are of one slot, and a booking leaves those of other slots so.
use Rattle.std.proofs.Common.{◌≡◌, ℕ, zero, suc, ◌+◌, ◌≤◌, ◌<◌, ◌&&◌, Bool, true, false, cond, eqb, List, [], ◌∷◌, map, take, Option, None, Some, refl, sym, ap, subst, ◌∙◌, arith}
use Rattle.std.specs.Prelude.{◌≢◌, slice_get}
use Rattle.std.specs.List.{list_all, sum_by}
use Rattle.std.proofs.lemmas.Bool.{eq-eqb, eqb-true, false≢true}
use Rattle.std.proofs.lemmas.List.Sorted.{sum_by-IsPermutation}
use Rattle.std.proofs.lemmas.List.Sums.{sum_by-cons}
use Rattle.farm_types.specs.declared.attempt.ProcRow.{ProcRow}
use Rattle.farm_types.specs.declared.dispatch.Candidate.{Candidate}
use Rattle.farm_types.specs.declared.limits.TheConstants.{CANDIDATES_EACH, LAST_VERSION}
use Rattle.farm_types.specs.declared.slot_row.SlotRow.{SlotRow}
use Rattle.farm_types.specs.Booking.{in_facility, is_pending, may_book, may_record, share_tag, suits, tags_match, tags_of}
use Rattle.farm_types.specs.Dispatch.{book_entry, candidate_suits, order_for, plan_for}
use Rattle.farm_types.specs.Farm.{Farm, for_some, job_at, layer_at, sub_of}
use Rattle.farm_types.specs.Step.{after, at_moment, booked_row, moment_of, new_proc, with_proc}
use Rattle.farm_types.proofs.Changed.{changed_at_other}
use Rattle.farm_types.proofs.Lists.{and_both, for_some_true}
use Rattle.farm_law.proofs.CanBook.{can_book}
use Rattle.farm_law.proofs.Suits.{plan_suits}
use Rattle.std.proofs.lemmas.Option.{same_Some}
use Rattle.dispatch_plan.specs.Order.{IsDispatchOrder, bookable, bookable_from}
use Rattle.dispatcher.specs.Ready.{AreReady, IsElsewhere, IsReady, LeavesReady}

-- ---- whether it may be booked

and_true : (b : Bool) → (b && true) ≡ b
and_true true = refl
and_true false = refl

-- .. is whether that may be recorded
pub due_is : (f : Farm) (c : Candidate) → IsReady f c → may_book f c.slot c.host ≡ may_record f c.slot c.host
due_is f c ready = ap (λ (b : Bool). may_record f c.slot c.host && b) ready.tags ∙ and_true (may_record f c.slot c.host)

-- ---- how often a slot is listed

abbrev weight : ℕ → ℕ → ℕ
weight n k = cond (eqb k n) 1 0

abbrev times : ℕ → List ℕ → ℕ
times n [] = 0
times n (k ∷ ks) = weight n k + times n ks

times_is : (n : ℕ) (ks : List ℕ) → times n ks ≡ sum_by (weight n) ks
times_is n [] = refl
times_is n (k ∷ ks) = ap (λ (t : ℕ). weight n k + t) (times_is n ks) ∙ sym (sum_by-cons (weight n) k ks)

itself : (n : ℕ) → weight n n ≡ 1
itself n = ap (λ (b : Bool). cond b 1 0) (eq-eqb n n refl)

weighs_off : (n k : ℕ) (b : Bool) → eqb k n ≡ b → k ≢ n → weight n k ≡ 0
weighs_off n k true is off = absurd (off (eqb-true k n is))
weighs_off n k false is off = ap (λ (b : Bool). cond b 1 0) is

other : (n k : ℕ) → k ≢ n → weight n k ≡ 0
other n k off = weighs_off n k (eqb k n) refl off

module _ (f : Farm) (host : ℕ) where
  -- the slots from here, by whether the first may be booked
  abbrev from_here : ℕ → List SlotRow → Bool → List ℕ
  from_here place ss b = cond b (place ∷ bookable_from f host (place + 1) ss) (bookable_from f host (place + 1) ss)

  none_by : (n place : ℕ) (ss : List SlotRow) (b : Bool) → (b ≡ true → place ≢ n) → times n (bookable_from f host (place + 1) ss) ≡ 0 → times n (from_here place ss b) ≡ 0
  none_by n place ss true off later = let w = other n place (off refl) in omega (arith, w, later)
  none_by n place ss false off later = later

  none_below : (n place : ℕ) (ss : List SlotRow) → n < place → times n (bookable_from f host place ss) ≡ 0
  none_below n place [] below = refl
  none_below n place (s ∷ ss) below =
      none_by n place ss (may_book f place host) (λ _ e. absurd (omega (arith, e, below))) (none_below n (place + 1) ss (omega (arith, below)))

  none_unfit : (n place : ℕ) (ss : List SlotRow) → may_book f n host ≡ false → times n (bookable_from f host place ss) ≡ 0
  none_unfit n place [] unfit = refl
  none_unfit n place (s ∷ ss) unfit =
      none_by n place ss (may_book f place host) (λ may e. false≢true (sym unfit ∙ (ap (λ (k : ℕ). may_book f k host) (sym e) ∙ may))) (none_unfit n (place + 1) ss unfit)

  first_once : (n place : ℕ) (ss : List SlotRow) (b : Bool) → eqb place n ≡ b → times n (bookable_from f host (place + 1) ss) ≤ 1
      → weight n place + times n (bookable_from f host (place + 1) ss) ≤ 1
  first_once n place ss true is later =
      let same : place ≡ n = eqb-true place n is in
      let none = none_below n (place + 1) ss (omega (arith, same)) in
      let w : weight n place ≡ 1 = ap (λ (b : Bool). cond b 1 0) is in
      omega (arith, w, none)
  first_once n place ss false is later = let w : weight n place ≡ 0 = ap (λ (b : Bool). cond b 1 0) is in omega (arith, w, later)

  once_by : (n place : ℕ) (ss : List SlotRow) (b : Bool) → times n (bookable_from f host (place + 1) ss) ≤ 1 → times n (from_here place ss b) ≤ 1
  once_by n place ss true later = first_once n place ss (eqb place n) refl later
  once_by n place ss false later = later

  at_most_once : (n place : ℕ) (ss : List SlotRow) → times n (bookable_from f host place ss) ≤ 1
  at_most_once n place [] = omega arith
  at_most_once n place (s ∷ ss) = once_by n place ss (may_book f place host) (at_most_once n (place + 1) ss)

-- ---- the plan

elsewhere : (n : ℕ) (cs : List Candidate) → times n (map (λ (c : Candidate). c.slot) cs) ≡ 0 → IsElsewhere n cs
elsewhere n [] none = tt
elsewhere n (c ∷ cs) none =
    let off : c.slot ≢ n = λ e. (let w : weight n c.slot ≡ 1 = subst (λ (k : ℕ). weight n k ≡ 1) (sym e) (itself n) in absurd (omega (arith, w, none))) in
    (off, elsewhere n cs (omega (arith, none)))

-- fewer candidates list a slot no more often
fewer : (n k : ℕ) (cs : List Candidate) → times n (map (λ (c : Candidate). c.slot) (take k cs)) ≤ times n (map (λ (c : Candidate). c.slot) cs)
fewer n zero cs = omega arith
fewer n (suc k) [] = omega arith
fewer n (suc k) (c ∷ cs) = let later = fewer n k cs in omega (arith, later)

module _ (f : Farm) (host : ℕ) where
  -- a slot that may be booked, and suits at a version, has that version, which can rise
  below_last : (slot version sub : ℕ) → may_record f slot host ≡ true → suits f slot version host sub ≡ true → version < LAST_VERSION
  below_last slot version sub may suited =
      let found = can_book f slot host may in
      let row = for_some_true (slice_get f.slots slot) _ suited in
      let parts = and_both (eqb row.0.version version) _ row.2 in
      let same : found.0.slot ≡ row.0 = same_Some found.0.slot row.0 (sym found.1.slot_is ∙ row.1) in
      subst (λ (v : ℕ). v < LAST_VERSION) (ap (λ (s : SlotRow). s.version) same ∙ eqb-true row.0.version version parts.0) found.1.version

  ready_by : (c : Candidate) → candidate_suits f host c ≡ true → may_book f c.slot host ≡ true → IsReady f c
  ready_by c suited may =
      let parts = and_both (eqb c.host host) (suits f c.slot c.version host c.sub) suited in
      let both = and_both (may_record f c.slot host) (tags_match f c.slot host) may in
      let here : host ≡ c.host = sym (eqb-true c.host host parts.0) in
      record {
        below = below_last c.slot c.version c.sub both.0 parts.1;
        suits = subst (λ (h : ℕ). suits f c.slot c.version h c.sub ≡ true) here parts.1;
        tags = subst (λ (h : ℕ). tags_match f c.slot h ≡ true) here both.1;
      }

  fits_by : (c : Candidate) (cs : List Candidate) (b : Bool) → may_book f c.slot host ≡ b
      → (may_book f c.slot host ≡ false → times c.slot (map (λ (x : Candidate). x.slot) (c ∷ cs)) ≡ 0) → may_book f c.slot host ≡ true
  fits_by c cs true may fit = may
  fits_by c cs false may fit = let none = fit may in let w = itself c.slot in absurd (omega (arith, w, none))

  all_ready : (cs : List Candidate) → list_all (candidate_suits f host) cs ≡ true → ((n : ℕ) → times n (map (λ (c : Candidate). c.slot) cs) ≤ 1)
      → ((n : ℕ) → may_book f n host ≡ false → times n (map (λ (c : Candidate). c.slot) cs) ≡ 0) → AreReady f cs
  all_ready [] suited once fit = tt
  all_ready (c ∷ cs) suited once fit =
      let parts = and_both (candidate_suits f host c) (list_all (candidate_suits f host) cs) suited in
      let may = fits_by c cs (may_book f c.slot host) refl (fit c.slot) in
      let alone = once c.slot in
      let w = itself c.slot in (
        ready_by c parts.0 may,
        elsewhere c.slot cs (omega (arith, alone, w)),
        all_ready cs parts.1 (λ n. let here = once n in omega (arith, here)) (λ n unfit. let here = fit n unfit in omega (arith, here)),
      )

  pub plan_ready : IsDispatchOrder f host → AreReady f (plan_for f host)
  plan_ready order =
      let slots = map (λ (c : Candidate). c.slot) (order_for f host) in
      let listed : (n : ℕ) → times n slots ≡ times n (bookable f host) =
      λ n. times_is n slots ∙ (sum_by-IsPermutation (weight n) (bookable f host) slots order.each_once ∙ sym (times_is n (bookable f host))) in
      all_ready (plan_for f host) (plan_suits f host)
      (λ n. let few = fewer n CANDIDATES_EACH (order_for f host) in let here = listed n in let once = at_most_once f host n 0 f.slots in omega (arith, few, here, once))
      (λ n unfit. let few = fewer n CANDIDATES_EACH (order_for f host) in let here = listed n in let none = none_unfit f host n 0 f.slots unfit in omega (arith, few, here, none))

-- ---- a booking of another slot

module _ (f : Farm) (version host sub : ℕ) where
  -- the tests, by the slot's row
  abbrev suits_row : Option SlotRow → Bool
  suits_row o =
      for_some o (λ s. eqb s.version version && for_some s.frame (λ frame. for_some (job_at f frame.job) (λ job.
      is_pending job.state && for_some (slice_get f.hosts host) (λ row. in_facility f row.alloc job.facility && eqb (sub_of job.show row.alloc) sub))))

  abbrev tags_row : Option SlotRow → Bool
  tags_row o =
      for_some o (λ s. for_some s.frame (λ frame. for_some (layer_at f frame.job frame.layer) (λ layer.
      for_some (slice_get f.hosts host) (λ row. for_some (slice_get f.allocs row.alloc) (λ allocation. share_tag layer.tags (tags_of row allocation))))))

-- the slots alone are others, and this one isn't
ready_still : (f : Farm) (moment : ℕ) (slots : List SlotRow) (c : Candidate) → slice_get slots c.slot ≡ slice_get f.slots c.slot → IsReady f c
    → IsReady (record (at_moment f moment) { slots = slots }) c
ready_still f moment slots c same ready =
    record {
      below = ready.below;
      suits = ap (suits_row f c.version c.host c.sub) same ∙ ready.suits;
      tags = ap (tags_row f c.version c.host c.sub) same ∙ ready.tags;
    }

ready_with : (f : Farm) (moment slot : ℕ) (o : Option ProcRow) (c : Candidate) → c.slot ≢ slot → IsReady f c → IsReady (with_proc (at_moment f moment) slot o) c
ready_with f moment slot None c off ready = ready_still f moment f.slots c refl ready
ready_with f moment slot (Some p) c off ready = ready_still f moment _ c (changed_at_other f.slots slot c.slot (booked_row p) off) ready

pub ready_after : (f : Farm) (c : Candidate) (moment : ℕ) → LeavesReady c.slot f (after f (book_entry c moment))
ready_after f c moment [] off all = tt
ready_after f c moment (d ∷ ds) off all =
    let later = moment_of f moment in (
      ready_with f later c.slot (new_proc (at_moment f later) c.slot c.host later) d off.0 all.0,
      all.1,
      ready_after f c moment ds off.1 all.2,
    )
