-- The table at the start.
use Rattle.std.proofs.Common.{◌≡◌, ℕ, zero, suc, ◌+◌, Bool, true, false, if◌then◌else◌, ◌==◌, ◌&&◌, inl, List, [], ◌∷◌, slice_index, sym, refl, ap, ◌∙◌, subst, arith, ⊎_elim}
use mathlib.Core.Option.{some, some-injective, some-ne-none}
use lib.ListN.{get_elem?}
use Rattle.farm_types.specs.Farm.{empty_farm}
use Rattle.farm_types.specs.Kept.{IsKeptFarm}
use Rattle.booking_rule.specs.declared.view.View.{View}
use Rattle.booking_rule.specs.Totals.{sum_to}
use Rattle.frame_words.specs.declared.frame_word.FrameWord.{FrameWord}
use Rattle.frame_words.specs.Bits.{frame_of, host_of, limit_of}
use Rattle.farm_types.specs.Farm.{sub_of}
use Rattle.booking_rule.specs.Words.{words_of}
use Rattle.booking_rule.specs.Recorded.{Stand, free_at}
use Rattle.booking_rule.specs.Link.{farm_of, opening_of, recorded_in, stand_at, host_cores, host_memory, burst_at, most_at}
use Rattle.booking_rule.specs.Rule.{Account, weight, sum_of, is_booked, cores_of, memory_of, booked_of, granted_of, running_of, counted_of, Shows, is_claimed}
use Rattle.booking_rule.specs.Kept.{Kept, no_desk, first_view}
use Rattle.booking_rule.specs.Looks.{AllStand}
use Rattle.booking_rule.specs.Ranges.{found_used, IsFoundUsed}
use Rattle.booking_rule.specs.Suits.{AllSuit}
use Rattle.booking_rule.specs.Seats.{Fits}
use Rattle.booking_rule.proofs.Resizing.{none_resized}

none_stands : (n : ℕ) → stand_at empty_farm n ≡ free_at 0
unfolding stand_at
none_stands n = refl

no_cores : (n : ℕ) → host_cores empty_farm n ≡ 0
unfolding host_cores
no_cores n = refl

no_memory : (n : ℕ) → host_memory empty_farm n ≡ 0
unfolding host_memory
no_memory n = refl

no_burst : (n : ℕ) → burst_at empty_farm n ≡ 0
unfolding burst_at
no_burst n = refl

no_most : (n : ℕ) → most_at empty_farm n ≡ 0
unfolding most_at
no_most n = refl

sum_to-nothing : (n : ℕ) (f : ℕ → ℕ) → ((k : ℕ) → f k ≡ 0) → sum_to n f ≡ 0
unfolding sum_to
sum_to-nothing zero f h = refl
sum_to-nothing (suc n) f h = let r = sum_to-nothing n f h in let z = h n in omega arith

pub opens : (words : List ℕ) → ((k : ℕ) → slice_index words k ≡ 0) → IsKeptFarm empty_farm → Kept (slice_index words 0) (words_of words) (first_view ∷ [])
opens words zeros kept =
    let W = words_of words in
    let views : List View = first_view ∷ [] in
    let R = recorded_in (opening_of empty_farm) [] no_desk in
    let frame : (k : ℕ) → W.frame k ≡ frame_of 0 = λ k. ap frame_of (zeros (k + 1)) in
    let off : (k : ℕ) → is_booked (W.frame k).phase ≡ false = λ k. ap (λ (f : FrameWord). is_booked f.phase) (frame k) in
    let stand : (k : ℕ) → R.slot k ≡ free_at 0 = none_stands in
    let nothing : (a : Account) → ((k : ℕ) → weight a R W k ≡ 0) → a.held first_view ≡ 0 → sum_of a R W views ≡ 0 = (λ a each held. let s = sum_to-nothing 65536 (weight a R W) each in omega arith) in
    record {
      seat = 0;
      opening = opening_of empty_farm;
      desk = no_desk;
      log = [];
      trail = [];
      own = record {
        journal = zeros 0;
        begins = kept;
        legal = tt;
        before = inl refl;
        alone = λ q. refl;
        ahead = record { each = λ slot lt is. absurd (clash (sym is)) };
        rule = record {
          shows = λ k lt. subst (λ (s : Stand). Shows false s (W.frame k) (W.amount k)) (sym (stand k)) (record { frame = frame k; amount = λ some_frame. absurd cc });
          pend = λ k lt is. absurd (clash (sym is));
          claims = record {
            one = λ k n lt. omega arith;
            claimed = λ k lt is. absurd (let no : is_claimed false (W.frame k) ≡ false = ap (is_claimed false) (frame k) in clash (sym is ∙ no));
            not_later = λ k n lt later. refl;
          };
          cores = λ h lt. (let f : (W.host h).cores ≡ 0 = ap (λ (n : ℕ). (host_of n).cores) (zeros (h + 131073)) in
              let s = nothing (cores_of h) (λ k. plus_none (ap (λ (b : Bool). if b && ((W.frame k).host == h) then (W.frame k).cores else 0) (off k))) refl in let z = no_cores h in omega arith);
          memory = λ h lt. (let f : (W.host h).memory ≡ 0 = ap (λ (n : ℕ). (host_of n).memory) (zeros (h + 131073)) in
              let s = nothing (memory_of h) (λ k. plus_none (ap (λ (b : Bool). if b && ((W.frame k).host == h) then (W.amount k).memory else 0) (off k))) refl in let z = no_memory h in omega arith);
          booked = λ j lt. (let f : (W.sub j).booked ≡ 0 = ap (λ (n : ℕ). (Rattle.frame_words.specs.Bits.sub_of n).booked) (zeros (j + 135169)) in
              let s = nothing (booked_of R.alloc j) (λ k. plus_none (ap (λ (b : Bool). if b && (sub_of (W.amount k).show (R.alloc (W.frame k).host) == j) then (W.frame k).cores else 0) (off k))) refl in omega arith);
          burst = λ j lt. (let f : (W.sub j).burst ≡ 0 = ap (λ (n : ℕ). (Rattle.frame_words.specs.Bits.sub_of n).burst) (zeros (j + 135169)) in let z = no_burst j in omega arith);
          within = λ j lt. (let s = nothing (granted_of R.alloc j) (λ k. plus_none (ap (λ (b : Bool). if b && (sub_of (W.amount k).show (R.alloc (W.frame k).host) == j) then (W.frame k).cores else 0) (off k))) refl in omega arith);
          running = λ j lt. (let f : (W.limit j).running ≡ 0 = ap (λ (n : ℕ). (limit_of n).running) (zeros (j + 136193)) in
              let s = nothing (running_of j) (λ k. plus_none (ap (λ (b : Bool). if b && ((W.amount k).limit == j + 1) then 1 else 0) (off k))) refl in omega arith);
          most = λ j lt. (let f : (W.limit j).most ≡ 0 = ap (λ (n : ℕ). (limit_of n).most) (zeros (j + 136193)) in let z = no_most j in omega arith);
          few = λ j lt. (let s = nothing (counted_of j) (λ k. plus_none (ap (λ (b : Bool). if b && ((W.amount k).limit == j + 1) then 1 else 0) (off k))) refl in omega arith);
        };
        suited = record { each = λ id v e. one_view (λ (x : View). AllSuit (farm_of (opening_of empty_farm)) [] x.claims) tt id v e };
        looks = record { each = λ id v e. one_view (λ (x : View). AllStand R.slot x.trail) tt id v e };
        ranged = record {
          cores = λ k lt used. absurd (clash (sym (ap (λ (f : FrameWord). f.phase == 0) (frame k)) ∙ used));
          memory = λ k lt used. ⊎_elim
              (λ (u : ((W.frame k).phase == 0) ≡ false). absurd (clash (sym (ap (λ (f : FrameWord). f.phase == 0) (frame k)) ∙ u)))
              (λ (u : IsFoundUsed k views). absurd (clash (sym u.3 ∙ one_view (λ (x : View). found_used k x.trail ≡ false) refl u.0 u.1 u.2)))
              used;
        };
        written = record { each = λ slot lt. tt };
        resizing = none_resized R.cores R.memory empty_farm W.host W.frame views (λ host. (refl, refl));
        seats = record {
          names = λ n. 0;
          split = omega arith;
          allowed = refl;
          one_receipt = λ place. omega arith;
          receipts_within = λ place past. refl;
          each = λ id v e. only id v e;
        };
      };
    }
  where
    plus_none : {x : ℕ} → x ≡ 0 → x + 0 ≡ 0
    plus_none e = omega arith

    clash : true ≡ false → ⊥
    clash e = cc

    alone : Fits 0 (opening_of empty_farm) no_desk [] [] (λ n. 0) 0 first_view
    alone = record {
      first = λ d is. (refl, cc is, refl, refl);
      number = λ n is. absurd cc;
      prefix = ([], refl);
      told = ([], refl);
      desk_trail = ([], refl);
      told_trail = ([], refl);
      same = λ _. refl;
      flight = λ sub. omega arith;
      limit_flight = λ l. omega arith;
      idle = λ none no. record { takes = refl; limits = refl; rooms = refl; claims = refl };
    }

    one_view : (P : View → Type 0) → P first_view → (id : ℕ) (v : View) → get_elem? (first_view ∷ []) id ≡ some v → P v
    one_view P p zero v e = subst P (some-injective first_view v e) p
    one_view P p (suc id) v e = absurd (some-ne-none v (sym e))

    only : (id : ℕ) (v : View) → get_elem? (first_view ∷ []) id ≡ some v → Fits 0 (opening_of empty_farm) no_desk [] [] (λ n. 0) id v
    only zero v e = subst (λ (x : View). Fits 0 (opening_of empty_farm) no_desk [] [] (λ n. 0) 0 x) (some-injective first_view v e) alone
    only (suc id) v e = absurd (some-ne-none v (sym e))
