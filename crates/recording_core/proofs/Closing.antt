-- The recorder is done with placing a farm: nothing is left to do, and from now on each word shows the farm.
use Rattle.std.proofs.Common.{◌≡◌, ℕ, List, [], ◌∷◌, ◌++◌, set, slice_index, sym, refl, ap, ◌∙◌, subst, inl, inr}
use Rattle.std.specs.Prelude.{Option, Some, None}
use Rattle.std.proofs.lemmas.List.{append-nil}
use mathlib.Core.Option.{some}
use lib.ListN.{get_elem?}
use Rattle.farm_types.specs.declared.entry.Entry.{Entry}
use Rattle.farm_types.specs.Run.{run_of}
use Rattle.booking_rule.specs.declared.desk.Desk.{Desk}
use Rattle.booking_rule.specs.declared.view.View.{View}
use Rattle.booking_rule.specs.Words.{Words, words_of}
use Rattle.booking_rule.specs.Recorded.{Recorded}
use Rattle.booking_rule.specs.Link.{farm_of, recorded_in, stand_at, host_cores, host_memory, host_alloc, burst_at, most_at, IsDone, hosted, is_billed, is_counted}
use Rattle.booking_rule.specs.Rule.{Rule}
use Rattle.booking_rule.specs.Looks.{Looks}
use Rattle.booking_rule.specs.Resizing.{Resizing}
use Rattle.booking_rule.specs.Seats.{Seats}
use Rattle.booking_rule.specs.Splits.{look_at}
use Rattle.booking_rule.specs.Kept.{IsBefore, Kept, Holds, farm_in}
use Rattle.booking_rule.proofs.Moves.{rule_view}
use Rattle.booking_rule.proofs.Looking.{all_stand, tells_nothing}
use Rattle.booking_rule.proofs.Seeing.{suited_set, looks_set, ranged_step, written_more}
use Rattle.booking_rule.proofs.Keeping.{found_finds}
use Rattle.booking_rule.proofs.Own.{of_first}
use Rattle.booking_rule.proofs.Seating.{desk_steps}
use Rattle.booking_rule.proofs.Resizing.{resizing_desk}
use Rattle.booking_rule.proofs.Lending.{done_lends}
use Rattle.booking_core.specs.Machine.{Table}
use Rattle.booking_core.proofs.Agreeing.{same_holds}
use Rattle.recording_core.specs.Records.{desk_closed, closed}
use Rattle.recording_core.specs.Records.RecorderKind.{closes}
use Rattle.recording_core.specs.Machine.{Asks, acts}

-- ---- all that is kept

pub closes_kept : (n : ℕ) (W : Words) (views : List View) (id : ℕ) (v : View) (d : Desk) (found : ℕ) (K : Kept n W views) → get_elem? views id ≡ some v → v.desk ≡ Some d
    → IsDone v.opening v.journal d → d.before ≡ None
    → Kept n W (set views id (closed v found))
closes_kept n W views id v d found K at is done opening =
    let w = closed v found in
    let item = look_at 0 found in
    let A = of_first n W views id v d K at is in
    let m = A.seats.each id v at in
    let D : Desk = record d { before = Some []; slots = []; hosts = []; subs = []; limits = [] } in
    let empty : v.journal ≡ [] = subst (λ (o : Option (List Entry)). IsBefore o v.journal) opening A.before in
    let R = recorded_in v.opening v.journal D in
    let same : recorded_in v.opening v.journal d ≡ R = (λ i. record {
      slot = λ k. (done.slot k ∙ ap (λ (l : List Entry). stand_at (run_of (farm_of v.opening) l) k) empty) i;
      cores = λ k. (done.cores k ∙ ap (λ (l : List Entry). host_cores (run_of (farm_of v.opening) l) k) empty) i;
      memory = λ k. (done.memory k ∙ ap (λ (l : List Entry). host_memory (run_of (farm_of v.opening) l) k) empty) i;
      alloc = λ k. (done.alloc k ∙ ap (λ (l : List Entry). host_alloc (run_of (farm_of v.opening) l) k) empty) i;
      burst = λ k. (done.burst k ∙ ap (λ (l : List Entry). burst_at (run_of (farm_of v.opening) l) k) empty) i;
      most = λ k. (done.most k ∙ ap (λ (l : List Entry). most_at (run_of (farm_of v.opening) l) k) empty) i;
      roomed = λ k. done_lends v.opening v.journal d k (hosted d (stand_at (farm_in v) k)) (done.slot k) i;
      billed = λ k. done_lends v.opening v.journal d k (is_billed (farm_in v) d (stand_at (farm_in v) k)) (done.slot k) i;
      counted = λ k. done_lends v.opening v.journal d k (is_counted d (stand_at (farm_in v) k)) (done.slot k) i;
    }) in
    let rule : Rule R d.pending W views = subst (λ (x : Recorded). Rule x d.pending W views) same A.rule in
    let looks : Looks R.slot views = subst (λ (x : Recorded). Looks x.slot views) same A.looks in
    record {
      seat = id;
      opening = v.opening;
      desk = D;
      log = v.journal;
      trail = v.trail ++ item ∷ [];
      own = record {
        journal = A.journal;
        begins = A.begins;
        legal = A.legal;
        before = inl (sym empty);
        alone = λ q. absurd (some_none [] q);
        ahead = A.ahead;
        rule = rule_view R d.pending W views id v w rule at (record { rooms = record { rooms = refl }; takes = record { takes = refl; ungranted = refl }; limits = record { limits = refl; ungranted = refl }; claims = refl });
        suited = suited_set (farm_of v.opening) v.journal views id w A.suited (A.suited.each id v at);
        looks = looks_set R.slot views id w looks (all_stand R.slot v.trail item (looks.each id v at) (tells_nothing R.slot item (inl refl)));
        ranged = ranged_step W.frame W.amount views W.frame id v w item A.ranged at refl (found_finds W item (inr (inr (inl refl)))) (λ slot. refl) (λ slot. refl);
        written = written_more W.amount v.trail item A.written refl;
        resizing = resizing_desk R.cores R.memory (run_of (farm_of v.opening) v.journal) W.host W.frame views id v w D
            (subst (λ (x : Recorded). Resizing x.cores x.memory (run_of (farm_of v.opening) v.journal) W.host W.frame views) same A.resizing) at (ap desk_closed is);
        seats = subst (λ (l : List Entry). Seats id v.opening D l (v.trail ++ item ∷ []) (set views id w)) (append-nil v.journal)
            (desk_steps id v.opening d D v.journal [] v.trail (item ∷ []) views id v w [] A.seats at is (ap desk_closed is) refl refl refl (sym (append-nil v.journal)) refl refl refl refl
            m.flight m.limit_flight (sym (append-nil v.receipts)) (inl refl));
      };
    }
  where
    some_none : (log : List Entry) → Some log ≡ None → ⊥
    some_none log q = cc

-- ---- the step

module _ (s : Table) (id : ℕ) (v : View) (h : Holds s) (at : get_elem? s.views id ≡ some v) where
  pub closes_holds : Asks s v closes → Holds (acts s id v closes)
  closes_holds asks =
      let n = slice_index s.words 0 in
      same_holds s id 0 (closed v n) h.0 (closes_kept n (words_of s.words) s.views id v asks.0 n h.1 at asks.1 asks.4 asks.3)
