-- A farm was placed: nothing is left to do.
use Rattle.std.proofs.Common.{◌≡◌, ◌⊎◌, ℕ, ◌<◌, ◌≤◌, Bool, true, false, if◌then◌else◌, List, [], ◌∷◌, ◌++◌, append_assoc, length, sym, refl, ap, ◌∙◌, subst, arith, inl, inr, ⊎_elim}
use Rattle.std.specs.Prelude.{Some, None}
use Rattle.std.proofs.lemmas.Bool.{cases_lt, false≢true}
use Rattle.farm_types.specs.declared.entry.Entry.{Entry}
use Rattle.farm_types.specs.Farm.{Farm, empty_farm}
use Rattle.farm_types.specs.Kept.{KeepsRows}
use Rattle.farm_types.specs.Run.{run_of}
use Rattle.booking_rule.specs.declared.desk.Desk.{Desk}
use Rattle.booking_rule.specs.declared.opening.Opening.{Opening}
use Rattle.booking_rule.specs.declared.view.View.{View}
use Rattle.booking_rule.specs.Kept.{farm_in}
use Rattle.booking_rule.specs.Link.{burst_at, farm_of, has, host_alloc, host_cores, host_memory, most_at, opening_of, stand_at, IsDone}
use Rattle.booking_rule.specs.Recorded.{free_at}
use Rattle.booking_rule.specs.Splits.{look_at}
use Rattle.recording_core.specs.Records.{closed, desk_closed, desk_opened, opened}
use Rattle.recording_core.specs.Records.RecorderKind.{closes}
use Rattle.recording_table.specs.Steps.{MayTake}
use Rattle.recording_turns.specs.Resting.{IsPlaced, IsUnplaced, split_in}
use Rattle.recording_turns.specs.Placed.{numbers_below, desk_of, IsPlacing, HasPlaced, Onward}
use Rattle.recording_turns.proofs.PlacingDesk.{none_below, has_below, free_onward, onward_then}
use Rattle.recording_turns.proofs.PlacingAsks.{farm_is}
use Rattle.recording_turns.proofs.PlacingFarm.{stand_past, cores_past, memory_past, alloc_past, most_past, burst_past}

-- ---- what is recorded is what the farm says, where the word was placed or both farms say the same

recorded_is : {X : Type 0} (b : Bool) (now old : X) → (b ≡ true) ⊎ (now ≡ old) → (if b then now else old) ≡ now
recorded_is true now old h = refl
recorded_is false now old (inl e) = absurd (false≢true e)
recorded_is false now old (inr e) = sym e

none_stands : (n : ℕ) → stand_at empty_farm n ≡ free_at 0
unfolding stand_at
none_stands n = refl

none_cores : (n : ℕ) → host_cores empty_farm n ≡ 0
unfolding host_cores
none_cores n = refl

none_memory : (n : ℕ) → host_memory empty_farm n ≡ 0
unfolding host_memory
none_memory n = refl

none_alloc : (n : ℕ) → host_alloc empty_farm n ≡ 0
unfolding host_alloc
none_alloc n = refl

none_burst : (n : ℕ) → burst_at empty_farm n ≡ 0
unfolding burst_at
none_burst n = refl

none_most : (n : ℕ) → most_at empty_farm n ≡ 0
unfolding most_at
none_most n = refl

-- a number among the first ones was placed; of a later one both farms say 0
below_or : (bound n : ℕ) (now old : ℕ) → (bound ≤ n → now ≡ 0) → old ≡ 0 → (has n (numbers_below bound) ≡ true) ⊎ (now ≡ old)
below_or bound n now old past none = ⊎_elim
    (λ (lt : n < bound). inl (has_below bound n lt))
    (λ (le : bound ≤ n). inr (past le ∙ sym none))
    (cases_lt n bound)

module _ (f : Farm) (kept : KeepsRows f) (v : View) (H : HasPlaced f (length f.limits) (length f.slots) v) where
  abbrev g : Farm
  g = farm_in v

  farm : g ≡ f
  farm = farm_is f 4096 1024 (length f.limits) H.slots v H.placing

  abbrev D : Desk
  D = desk_of (numbers_below 4096) (numbers_below 1024) (numbers_below (length f.limits)) H.slots H.placing.on

  few : length f.hosts ≤ 4096
  few = kept.hosts.count

  of_hosts : (says : Farm → ℕ → ℕ) (n : ℕ) → (length f.hosts ≤ n → says f n ≡ 0) → says empty_farm n ≡ 0 → (has n (numbers_below 4096) ≡ true) ⊎ (says g n ≡ says empty_farm n)
  of_hosts says n past none =
      below_or 4096 n (says g n) (says empty_farm n) (λ le. ap (λ (x : Farm). says x n) farm ∙ past (omega (arith, le, few))) none

  pub all_done : IsDone v.opening v.journal D
  all_done = record {
    slot = λ n. recorded_is (has n H.slots) (stand_at g n) (stand_at empty_farm n)
        (⊎_elim
        (λ (lt : n < length f.slots). ⊎_elim
        (λ (h : has n H.slots ≡ true). inl h)
        (λ (s : stand_at f n ≡ free_at 0). inr (ap (λ (x : Farm). stand_at x n) farm ∙ (s ∙ sym (none_stands n))))
        (H.are.done n lt))
        (λ (le : length f.slots ≤ n). inr (ap (λ (x : Farm). stand_at x n) farm ∙ (stand_past f n le ∙ sym (none_stands n))))
        (cases_lt n (length f.slots)));
    cores = λ n. recorded_is (has n (numbers_below 4096)) (host_cores g n) (host_cores empty_farm n) (of_hosts host_cores n (cores_past f n) (none_cores n));
    memory = λ n. recorded_is (has n (numbers_below 4096)) (host_memory g n) (host_memory empty_farm n) (of_hosts host_memory n (memory_past f n) (none_memory n));
    alloc = λ n. recorded_is (has n (numbers_below 4096)) (host_alloc g n) (host_alloc empty_farm n) (of_hosts host_alloc n (alloc_past f n) (none_alloc n));
    burst = λ n. recorded_is (has n (numbers_below 1024)) (burst_at g n) (burst_at empty_farm n)
        (below_or 1024 n (burst_at g n) (burst_at empty_farm n) (λ le. ap (λ (x : Farm). burst_at x n) farm ∙ burst_past f n kept le) (none_burst n));
    most = λ n. recorded_is (has n (numbers_below (length f.limits))) (most_at g n) (most_at empty_farm n)
        (below_or (length f.limits) n (most_at g n) (most_at empty_farm n) (λ le. ap (λ (x : Farm). most_at x n) farm ∙ most_past f n le) (none_most n));
  }

  pub closes_may : MayTake v closes
  closes_may s = (D, H.placing.desk, refl, refl, all_done)

-- ---- before and after

module _ (f : Farm) (u v : View) (U : IsUnplaced u) (is : v ≡ opened u f 0) where
  pub opened_placing : IsPlacing f 0 0 0 [] v
  opened_placing =
      record {
        on = U.desk.on;
        desk = ap (λ (x : View). x.desk) is ∙ (ap desk_opened U.first ∙ made);
        opening = ap (λ (x : View). x.opening) is;
        journal = ap (λ (x : View). x.journal) is ∙ U.journal;
        free = record {
          takes = ap (λ (x : View). x.takes) is ∙ U.free.takes;
          limits = ap (λ (x : View). x.limits) is ∙ U.free.limits;
          rooms = ap (λ (x : View). x.rooms) is ∙ U.free.rooms;
          claims = ap (λ (x : View). x.claims) is ∙ U.free.claims;
          burst = ap (λ (x : View). x.ungranted) is ∙ U.free.burst;
          place = ap (λ (x : View). x.ungranted_limit) is ∙ U.free.place;
        };
      }
    where
      made : Some (record { split = U.desk.split; before = None; slots = []; hosts = []; subs = []; limits = []; pending = U.desk.pending; on = U.desk.on })
          ≡ Some (desk_of (numbers_below 0) (numbers_below 0) (numbers_below 0) [] U.desk.on)
      made = (λ i. Some (record {
        split = U.split i;
        before = None;
        slots = [];
        hosts = sym none_below i;
        subs = sym none_below i;
        limits = sym none_below i;
        pending = U.pending i;
        on = U.desk.on;
      }))

-- the words of the farm were placed, and then the placing was ended
module _ (f : Farm) (kept : KeepsRows f) (u v w x : View) (U : IsUnplaced u) (is : v ≡ opened u f 0) (o : Onward v w) (H : HasPlaced f (length f.limits) (length f.slots) w) (ended : x ≡ closed w 0) where
  abbrev closed_desk : Desk
  closed_desk = record { split = 0; before = Some []; slots = []; hosts = []; subs = []; limits = []; pending = None; on = H.placing.on }

  closed_first : x.desk ≡ Some closed_desk
  closed_first = ap (λ (y : View). y.desk) ended ∙ ap desk_closed H.placing.desk

  same_journal : x.journal ≡ []
  same_journal = ap (λ (y : View). y.journal) ended ∙ H.placing.journal

  none_left : IsDone x.opening x.journal closed_desk
  none_left = record {
    slot = λ n. ap (λ (l : List Entry). stand_at (run_of (farm_of x.opening) l) n) (sym same_journal);
    cores = λ n. ap (λ (l : List Entry). host_cores (run_of (farm_of x.opening) l) n) (sym same_journal);
    memory = λ n. ap (λ (l : List Entry). host_memory (run_of (farm_of x.opening) l) n) (sym same_journal);
    alloc = λ n. ap (λ (l : List Entry). host_alloc (run_of (farm_of x.opening) l) n) (sym same_journal);
    burst = λ n. ap (λ (l : List Entry). burst_at (run_of (farm_of x.opening) l) n) (sym same_journal);
    most = λ n. ap (λ (l : List Entry). most_at (run_of (farm_of x.opening) l) n) (sym same_journal);
  }

  closes_onward : Onward w x
  closes_onward = subst (λ (y : View). Onward w y) (sym ended) (record { like = refl; trail = (look_at 0 0 ∷ [], refl) })

  opening_is : x.opening ≡ opening_of f
  opening_is = ap (λ (y : View). y.opening) ended ∙ H.placing.opening

  all : Onward v x
  all = onward_then v w x o closes_onward

  pub is_placed : IsPlaced u f x
  is_placed = record {
    rests = record {
      settled = record { desk = closed_desk; first = closed_first; log = []; placed = refl; pending = refl; done = none_left };
      free = free_onward w x closes_onward H.placing.free;
    };
    opening = opening_is;
    like = all.like ∙ (ap (λ (y : View). record y { desk = x.desk; trail = x.trail }) is
        ∙ ap (λ (op : Opening). record u { desk = x.desk; opening = op; trail = x.trail }) (sym opening_is));
    split = ap split_in closed_first;
    trail = ((look_at 0 0 ∷ []) ++ all.trail.0, trail_is);
  }
    where
      trail_is : u.trail ++ ((look_at 0 0 ∷ []) ++ all.trail.0) ≡ x.trail
      trail_is = sym (append_assoc u.trail (look_at 0 0 ∷ []) all.trail.0)
          ∙ (ap (λ (y : View). y.trail ++ all.trail.0) (sym is) ∙ all.trail.1)
