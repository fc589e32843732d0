-- An entry more, while nothing is left to do for the one before.
use Rattle.std.proofs.Common.{◌≡◌, ℕ, ◌+◌, ◌==◌, ◌-◌, false, List, [], ◌∷◌, ◌++◌, length, length-append, set, refl, ap, ◌∙◌, subst, arith, inl, inr}
use Rattle.std.specs.Prelude.{Some, None}
use Rattle.std.proofs.lemmas.List.{take-append-le}
use mathlib.Core.Option.{some}
use lib.ListN.{get_elem?}
use Rattle.farm_types.specs.declared.entry.Entry.{Entry}
use Rattle.farm_types.specs.Booking.{suits}
use Rattle.farm_types.specs.Farm.{Farm}
use Rattle.farm_types.specs.Run.{IsLegalStep, run_of}
use Rattle.farm_law.proofs.LegalRuns.{legal_append}
use Rattle.booking_rule.specs.declared.desk.Desk.{Desk}
use Rattle.booking_rule.specs.declared.view.View.{View}
use Rattle.booking_rule.specs.declared.hold.Claim.{Claim}
use Rattle.booking_rule.specs.declared.noted.Noted.{Noted}
use Rattle.booking_rule.specs.Words.{Words}
use Rattle.booking_rule.specs.Recorded.{Recorded}
use Rattle.booking_rule.specs.Views.{desk_after, recorded}
use Rattle.booking_rule.specs.Link.{farm_of, hosted, is_billed, is_counted, recorded_in, stand_at, IsDone}
use Rattle.booking_rule.specs.Rule.{Rule}
use Rattle.booking_rule.specs.Looks.{Looks}
use Rattle.booking_rule.specs.Resizing.{Resizing}
use Rattle.booking_rule.specs.Suits.{SuitsOnce, AllSuit, Suited}
use Rattle.booking_rule.specs.Kept.{Kept, farm_in}
use Rattle.booking_rule.proofs.Moves.{rule_view}
use Rattle.booking_rule.proofs.Looking.{all_stand, tells_nothing}
use Rattle.booking_rule.proofs.Seeing.{suited_set, looks_set, ranged_step, written_more}
use Rattle.booking_rule.proofs.Keeping.{found_finds}
use Rattle.booking_rule.proofs.Own.{of_first}
use Rattle.booking_rule.proofs.Seating.{desk_steps}
use Rattle.booking_rule.proofs.Resizing.{resizing_desk}
use Rattle.booking_rule.proofs.Lending.{done_lends}

-- ---- claims suit at a place of the longer journal too

pub once_more : (f : Farm) (log more : List Entry) (c : Claim) → SuitsOnce f log c → SuitsOnce f (log ++ more) c
once_more f log more c s =
    (s.0, (let l = length-append log more in let p = s.1 in omega arith), ap (λ (l : List Entry). suits (run_of f l) c.slot (c.version - 1) c.host c.sub) (take-append-le s.0 log more s.1) ∙ s.2)

all_more : (f : Farm) (log more : List Entry) (cs : List Claim) → AllSuit f log cs → AllSuit f (log ++ more) cs
all_more f log more [] h = tt
all_more f log more (c ∷ cs) h = (once_more f log more c h.0, all_more f log more cs h.1)

pub suited_grows : (f : Farm) (log more : List Entry) (views : List View) → Suited f log views → Suited f (log ++ more) views
suited_grows f log more views s = record { each = λ id v e. all_more f log more v.claims (s.each id v e) }

-- ---- the step

pub record_kept : (n : ℕ) (W : Words) (views : List View) (id : ℕ) (v : View) (d : Desk) (e : Entry) (item : Noted) (K : Kept n W views) → get_elem? views id ≡ some v → v.desk ≡ Some d
    → IsDone v.opening v.journal d → IsLegalStep (farm_in v) e
    → Resizing (recorded_in v.opening v.journal d).cores (recorded_in v.opening v.journal d).memory (run_of (farm_of v.opening) (v.journal ++ e ∷ [])) W.host W.frame views
    → item.word ≡ 0 → (item.did == 14) ≡ false
    → Kept (n + 1) W (set views id (recorded v e item))
record_kept n W views id v d e item K at is done may resizing place other =
    let w = recorded v e item in
    let A = of_first n W views id v d K at is in
    let m = A.seats.each id v at in
    let D : Desk = record d { before = Some v.journal; slots = []; hosts = []; subs = []; limits = [] } in
    let log = v.journal ++ e ∷ [] in
    let R = recorded_in v.opening log D in
    let same : recorded_in v.opening v.journal d ≡ R = (λ i. record {
      slot = λ k. done.slot k i;
      cores = λ k. done.cores k i;
      memory = λ k. done.memory k i;
      alloc = λ k. done.alloc k i;
      burst = λ k. done.burst k i;
      most = λ k. done.most k i;
      roomed = λ k. done_lends v.opening v.journal d k (hosted d (stand_at (farm_in v) k)) (done.slot k) i;
      billed = λ k. done_lends v.opening v.journal d k (is_billed (farm_in v) d (stand_at (farm_in v) k)) (done.slot k) i;
      counted = λ k. done_lends v.opening v.journal d k (is_counted d (stand_at (farm_in v) k)) (done.slot k) i;
    }) in
    let rule : Rule R d.pending W views = subst (λ (x : Recorded). Rule x d.pending W views) same A.rule in
    let looks : Looks R.slot views = subst (λ (x : Recorded). Looks x.slot views) same A.looks in
    let longer = suited_grows (farm_of v.opening) v.journal (e ∷ []) views A.suited in
    record {
      seat = id;
      opening = v.opening;
      desk = D;
      log = log;
      trail = v.trail ++ item ∷ [];
      own = record {
        journal = (let l = length-append v.journal (e ∷ []) in let c = A.journal in omega arith);
        begins = A.begins;
        legal = legal_append (farm_of v.opening) v.journal (e ∷ []) A.legal (may, tt);
        before = inr (e, refl);
        alone = λ q. absurd (some_none q);
        ahead = A.ahead;
        rule = rule_view R d.pending W views id v w rule at (record { rooms = record { rooms = refl }; takes = record { takes = refl; ungranted = refl }; limits = record { limits = refl; ungranted = refl }; claims = refl });
        suited = suited_set (farm_of v.opening) log views id w longer (longer.each id v at);
        looks = looks_set R.slot views id w looks (all_stand R.slot v.trail item (looks.each id v at) (tells_nothing R.slot item (inl place)));
        ranged = ranged_step W.frame W.amount views W.frame id v w item A.ranged at refl (found_finds W item (inr (inr (inl place)))) (λ slot. refl) (λ slot. refl);
        written = written_more W.amount v.trail item A.written other;
        resizing = resizing_desk R.cores R.memory (run_of (farm_of v.opening) log) W.host W.frame views id v w D
            (subst (λ (x : Recorded). Resizing x.cores x.memory (run_of (farm_of v.opening) log) W.host W.frame views) same resizing) at (ap (desk_after v.journal) is);
        seats = desk_steps id v.opening d D v.journal (e ∷ []) v.trail (item ∷ []) views id v w (length v.journal ∷ []) A.seats at is (ap (desk_after v.journal) is) refl refl refl refl refl refl refl refl
            m.flight m.limit_flight refl (inr (refl, omega arith));
      };
    }
  where
    some_none : Some v.journal ≡ None → ⊥
    some_none q = cc
