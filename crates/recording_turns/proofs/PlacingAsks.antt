-- Each step that places a word may come.
use Rattle.std.proofs.Common.{◌≡◌, ◌≢◌, ℕ, ◌+◌, ◌-◌, ◌^◌, ◌/◌, ◌%◌, ◌<◌, ◌≤◌, ◌==◌, ◌&&◌, Bool, true, false, if◌then◌else◌, List, [], ◌∷◌, ◌++◌, length, sym, refl, ap, ◌∙◌, subst, arith, ⊎_elim}
use Rattle.std.specs.Prelude.{Option, Some, None}
use Rattle.std.proofs.lemmas.Bool.{true≢false}
use Rattle.std.proofs.lemmas.Bool.Decides.{nat_tests}
use Rattle.farm_types.specs.Farm.{Farm, empty_farm, sub_of}
use Rattle.farm_types.specs.Kept.{IsKeptFarm, KeepsRows}
use Rattle.farm_types.specs.Run.{run_of}
use Rattle.farm_types.specs.Sums.{booked_in, running_in, used_cores, used_memory}
use Rattle.frame_words.specs.declared.amount_word.AmountWord.{AmountWord}
use Rattle.frame_words.specs.declared.frame_word.FrameWord.{FrameWord}
use Rattle.frame_words.specs.Bits.{FitsAmount, FitsFrame, amount_bits, amount_of, frame_bits}
use Rattle.booking_rule.specs.declared.desk.Desk.{Desk}
use Rattle.booking_rule.specs.declared.noted.Noted.{Noted}
use Rattle.booking_rule.specs.declared.view.View.{View}
use Rattle.booking_rule.specs.Amounts.{last_amount, later_of}
use Rattle.booking_rule.specs.Kept.{farm_in}
use Rattle.booking_rule.specs.Link.{burst_at, farm_of, has, has_limit, host_alloc, host_cores, host_memory, hosted, is_billed, is_counted, most_at, recorded_in, stand_at}
use Rattle.booking_rule.specs.Placing.{FirstHost, FirstLimit, FirstSub, IsLent, limit_uses, runs_cores, runs_memory, sub_uses}
use Rattle.booking_rule.specs.Recorded.{Stand, free_at}
use Rattle.booking_rule.specs.Rule.{is_booked, word_of}
use Rattle.booking_rule.specs.Totals.{sum_to}
use Rattle.booking_rule.specs.Words.{amount_place}
use Rattle.booking_rule.proofs.Moves.{same_self}
use Rattle.booking_core.proofs.Bits.{frame_back}
use Rattle.recording_core.specs.Machine.{HasItsAmounts, IsDue, MayChange, WroteAmounts, stand_now, stand_recorded}
use Rattle.recording_core.specs.Records.{amounts_of, desk_in, wrote_amount}
use Rattle.recording_core.specs.Records.RecorderKind.{opens, places, places_burst, places_most, places_size, sets_amount, turns}
use Rattle.recording_table.specs.Steps.{MayTake}
use Rattle.entry_law.specs.Used.{UsesAreShown}
use Rattle.recording_turns.specs.Resting.{IsUnplaced}
use Rattle.recording_turns.specs.Placed.{numbers_below, desk_of, IsPlacing, HasPlaced}
use Rattle.recording_turns.proofs.PlacingDesk.{none_below, has_below, has_past, has_limit_below, has_limit_past}
use Rattle.recording_turns.proofs.PlacingFarm.{runs_at, not_setup, cores_run, memory_run, booked_run, limit_run, cores_fit, memory_fits, booked_fits}

-- ---- bits

pub amount_back : (w : AmountWord) → FitsAmount w → amount_of (amount_bits w) ≡ w
amount_back w fits =
    let s : amount_bits w / 2 ^ 48 ≡ w.show = omega (arith, fits.0, fits.1, fits.2) in
    let l : amount_bits w / 2 ^ 40 % 2 ^ 8 ≡ w.limit = omega (arith, fits.0, fits.1, fits.2) in
    let m : amount_bits w % 2 ^ 40 ≡ w.memory = omega (arith, fits.0, fits.1, fits.2) in
    λ i. record { show = s i; limit = l i; memory = m i }

amount_below : (w : AmountWord) → FitsAmount w → amount_bits w < 2 ^ 64
amount_below w fits = omega (arith, fits.0, fits.1, fits.2)

frame_below : (w : FrameWord) → FitsFrame w → frame_bits w < 2 ^ 64
frame_below w fits = omega (arith, fits.0, fits.1, fits.2, fits.3)

-- ---- the farm that is placed

pub farm_is : (f : Farm) (hosts subs limits : ℕ) (slots : List ℕ) (v : View) → IsPlacing f hosts subs limits slots v → farm_in v ≡ f
farm_is f hosts subs limits slots v P = (λ i. run_of (farm_of (P.opening i)) (P.journal i))

-- ---- the journal starts from it

pub opens_may : (f : Farm) (v : View) → IsUnplaced v → IsKeptFarm f → MayTake v (opens f)
opens_may f v U kept s = (((U.desk, U.first, U.pending, U.done, U.split), U.journal, U.opening, U.free.claims), kept)

-- ---- hosts, subscriptions, limits

module _ (f : Farm) (kept : KeepsRows f) (uses : UsesAreShown f) (v : View) where
  pub size_may : (host cores memory : ℕ) → IsPlacing f host 0 0 [] v → host < 4096 → cores ≡ host_cores f host - used_cores f host
      → memory ≡ host_memory f host - used_memory f host → MayTake v (places_size host cores memory)
  size_may host cores memory P lt cores_is memory_is s =
      let farm = farm_is f host 0 0 [] v P in
      let c = cores_run f kept uses host in
      let m = memory_run f kept uses host in
      let fits : sum_to 65536 (λ k. runs_cores host (stand_at f k)) ≤ host_cores f host = let x = cores_fit f kept uses host in omega (arith, c, x) in
      let holds : sum_to 65536 (λ k. runs_memory host (stand_at f k)) ≤ host_memory f host = let x = memory_fits f kept uses host in omega (arith, m, x) in
      let D : Desk = desk_of (numbers_below host) (numbers_below 0) (numbers_below 0) [] P.on in
      let first : FirstHost v D host = record {
        opening = refl;
        undone = has_past host host (omega arith);
        slots = refl;
        subs = none_below;
        cores = subst (λ (g : Farm). sum_to 65536 (λ k. runs_cores host (stand_at g k)) ≤ host_cores g host) (sym farm) fits;
        memory = subst (λ (g : Farm). sum_to 65536 (λ k. runs_memory host (stand_at g k)) ≤ host_memory g host) (sym farm) holds;
      } in (
        (D, P.desk, refl, first),
        lt,
        subst (λ (g : Farm). cores ≡ host_cores g host - sum_to 65536 (λ k. runs_cores host (stand_at g k))) (sym farm)
            (cores_is ∙ ap (λ (n : ℕ). host_cores f host - n) (sym c)),
        subst (λ (g : Farm). memory ≡ host_memory g host - sum_to 65536 (λ k. runs_memory host (stand_at g k))) (sym farm)
            (memory_is ∙ ap (λ (n : ℕ). host_memory f host - n) (sym m)),
      )

  pub burst_may : (sub burst booked : ℕ) → IsPlacing f 4096 sub 0 [] v → sub < 1024 → burst ≡ burst_at f sub → booked ≡ booked_in f sub
      → MayTake v (places_burst sub burst booked)
  burst_may sub burst booked P lt burst_is booked_is s =
      let farm = farm_is f 4096 sub 0 [] v P in
      let few : length f.hosts ≤ 4096 = kept.hosts.count in
      let D : Desk = desk_of (numbers_below 4096) (numbers_below sub) (numbers_below 0) [] P.on in
      let first : FirstSub v D sub = record {
        opening = refl;
        undone = has_past sub sub (omega arith);
        slots = refl;
        hosts = subst (λ (g : Farm). (slot : ℕ) → (stand_at g slot).phase ≡ 4 → has (stand_at g slot).host (numbers_below 4096) ≡ true) (sym farm)
            (λ slot runs. let r = (runs_at f slot kept runs).host in has_below 4096 (stand_at f slot).host (omega (arith, r, few)));
      } in
      let fits = booked_fits f kept sub in (
        (D, P.desk, refl, first),
        lt,
        subst (λ (g : Farm). burst ≡ burst_at g sub) (sym farm) burst_is,
        subst (λ (g : Farm). booked ≡ sum_to 65536 (λ k. sub_uses g sub (stand_at g k))) (sym farm) (booked_is ∙ sym (booked_run f kept uses sub)),
        omega (arith, booked_is, fits),
        P.free.takes,
        P.free.burst,
      )

  pub most_may : (limit most running : ℕ) → IsPlacing f 4096 1024 limit [] v → limit < 255 → most ≡ most_at f limit → running ≡ running_in f limit
      → MayTake v (places_most limit most running)
  most_may limit most running P lt most_is running_is s =
      let farm = farm_is f 4096 1024 limit [] v P in
      let D : Desk = desk_of (numbers_below 4096) (numbers_below 1024) (numbers_below limit) [] P.on in
      let first : FirstLimit v D limit = record {
        opening = refl;
        undone = has_limit_past limit limit (omega arith);
        slots = refl;
      } in (
        (D, P.desk, refl, first),
        lt,
        subst (λ (g : Farm). most ≡ most_at g limit) (sym farm) most_is,
        subst (λ (g : Farm). running ≡ sum_to 65536 (λ k. limit_uses limit (stand_at g k))) (sym farm) (running_is ∙ sym (limit_run f kept uses limit)),
        P.free.limits,
        P.free.place,
      )

-- ---- slots

none_stands : (n : ℕ) → stand_at empty_farm n ≡ free_at 0
unfolding stand_at
none_stands n = refl

-- a slot's amount word was written last
pub wrote_last : (slot : ℕ) (ns : List Noted) (item : Noted) → item.did ≡ 14 → item.word ≡ amount_place slot → last_amount slot (ns ++ item ∷ []) ≡ Some item.wrote
wrote_last slot [] item did place =
    let e : (item.did == 14 && (item.word == amount_place slot)) ≡ true = ap (λ (n : ℕ). n == 14 && (item.word == amount_place slot)) did
    ∙ (ap (λ (n : ℕ). n == amount_place slot) place ∙ same_self (amount_place slot)) in
    ap (λ (b : Bool). if b then Some item.wrote else None) e
wrote_last slot (n ∷ ns) item did place =
    ap (λ (x : Option ℕ). later_of x (if n.did == 14 && (n.word == amount_place slot) then Some n.wrote else None)) (wrote_last slot ns item did place)

unbooked : (phase : ℕ) → phase ≢ 3 → phase ≢ 4 → is_booked phase ≡ false
unbooked phase three four = grind (arith, nat_tests)

module _ (f : Farm) (limits slot : ℕ) (v : View) (H : HasPlaced f limits slot v) where
  farm : farm_in v ≡ f
  farm = farm_is f 4096 1024 limits H.slots v H.placing

  undone : has slot H.slots ≡ false
  undone = H.are.others slot (omega arith)

  -- its word is 0
  pub bare : stand_recorded v slot ≡ free_at 0
  bare =
      ap (λ (o : Option Desk). (recorded_in v.opening v.journal (desk_in o)).slot slot) H.placing.desk
      ∙ (ap (λ (b : Bool). if b then stand_at (farm_in v) slot else stand_at empty_farm slot) undone ∙ none_stands slot)

  changes : MayChange v
  changes = (desk_of (numbers_below 4096) (numbers_below 1024) (numbers_below limits) H.slots H.placing.on, H.placing.desk, refl)

  now_is : stand_now v slot ≡ stand_at f slot
  now_is = ap (λ (g : Farm). stand_at g slot) farm

  pub amount_may : (a : AmountWord) → slot < 65536 → FitsAmount a → a ≡ amounts_of (stand_at f slot) → ((stand_at f slot).phase == 0) ≡ false
      → MayTake v (sets_amount slot (amount_bits a))
  amount_may a lt fits is used s = (
    changes,
    lt,
    amount_below a fits,
    ap (λ (x : Stand). x.phase) bare,
    ap (λ (x : Stand). x.phase == 0) now_is ∙ used,
    amount_back a fits ∙ (is ∙ ap (λ (x : Stand). amounts_of x) (sym now_is)),
  )

  due : (w : FrameWord) → slot < 65536 → FitsFrame w → w ≡ word_of (stand_at f slot) → stand_at f slot ≢ free_at 0 → is_booked (stand_at f slot).phase ≡ false
      → IsDue v slot (frame_bits w)
  due w lt fits is apart over = record {
    within = lt;
    fits = frame_below w fits;
    left = λ e. apart (sym now_is ∙ (sym e ∙ bare));
    shows = frame_back w fits ∙ (is ∙ ap (λ (x : Stand). word_of x) (sym now_is));
    over = ap (λ (x : Stand). is_booked x.phase) now_is ∙ over;
  }

  turns_by : (w : FrameWord) → slot < 65536 → FitsFrame w → w ≡ word_of (stand_at f slot) → stand_at f slot ≢ free_at 0 → is_booked (stand_at f slot).phase ≡ false
      → HasItsAmounts v slot → MayTake v (turns slot (frame_bits w))
  turns_by w lt fits is apart over amounts s =
      let phase : (stand_recorded v slot).phase ≡ 0 = ap (λ (x : Stand). x.phase) bare in (
        changes,
        due w lt fits is apart over,
        (λ e. absurd (omega (arith, phase, e))),
        (λ e. absurd (omega (arith, phase, e))),
        amounts,
      )

  -- a free slot's word, of a version
  pub free_may : (w : FrameWord) → slot < 65536 → FitsFrame w → w ≡ word_of (stand_at f slot) → w.phase ≡ 0 → w.version ≢ 0 → MayTake v (turns slot (frame_bits w))
  free_may w lt fits is phase version =
      let free : (stand_at f slot).phase ≡ 0 = ap (λ (x : FrameWord). x.phase) (sym is) ∙ phase in
      let now : ((stand_now v slot).phase == 0) ≡ true = ap (λ (x : Stand). x.phase == 0) now_is ∙ ap (λ (n : ℕ). n == 0) free in
      turns_by w lt fits is (λ e. version (ap (λ (x : FrameWord). x.version) is ∙ ap (λ (x : Stand). x.version) e)) (ap is_booked free)
      (λ _ some. absurd (true≢false (sym now ∙ some)))

  -- a frame's, whose amounts were written
  amounts_now : WroteAmounts (stand_at f slot) (last_amount slot v.trail) → WroteAmounts (stand_now v slot) (last_amount slot v.trail)
  amounts_now wrote = subst (λ (x : Stand). WroteAmounts x (last_amount slot v.trail)) (sym now_is) wrote

  pub frame_may : KeepsRows f → (w : FrameWord) → slot < 65536 → FitsFrame w → w ≡ word_of (stand_at f slot) → (w.phase == 0) ≡ false → w.phase ≢ 4
      → WroteAmounts (stand_at f slot) (last_amount slot v.trail) → MayTake v (turns slot (frame_bits w))
  frame_may kept w lt fits is used other wrote =
      let phase : w.phase ≡ (stand_at f slot).phase = ap (λ (x : FrameWord). x.phase) is in
      turns_by w lt fits is
      (λ e. let zero : w.phase ≡ 0 = phase ∙ ap (λ (x : Stand). x.phase) e in true≢false (sym (ap (λ (n : ℕ). n == 0) zero) ∙ used))
      (unbooked (stand_at f slot).phase (not_setup f slot kept) (λ e. other (phase ∙ e)))
      (λ _ _. amounts_now wrote)

  pub runs_may : KeepsRows f → limits ≡ length f.limits → (w : FrameWord) → slot < 65536 → FitsFrame w → w ≡ word_of (stand_at f slot) → w.phase ≡ 4
      → WroteAmounts (stand_at f slot) (last_amount slot v.trail) → MayTake v (places slot (frame_bits w))
  runs_may kept all w lt fits is running wrote s =
      let D : Desk = desk_of (numbers_below 4096) (numbers_below 1024) (numbers_below limits) H.slots H.placing.on in
      let S = stand_at f slot in
      let runs : S.phase ≡ 4 = ap (λ (x : FrameWord). x.phase) (sym is) ∙ running in
      let r = runs_at f slot kept runs in
      let few : length f.hosts ≤ 4096 = kept.hosts.count in
      let shows : length f.shows ≤ 64 = kept.shows.count in
      let allocs : length f.allocs ≤ 16 = kept.allocs.count in
      let host : has S.host (numbers_below 4096) ≡ true = let h = r.host in has_below 4096 S.host (omega (arith, h, few)) in
      let sub : has (sub_of S.show (host_alloc f S.host)) (numbers_below 1024) ≡ true =
      let x = r.show in
      let y = r.alloc in
      has_below 1024 (sub_of S.show (host_alloc f S.host)) (omega (arith, x, y, shows, allocs)) in
      let billed : is_billed f D S ≡ true = ap (λ (b : Bool). b && has (sub_of S.show (host_alloc f S.host)) (numbers_below 1024)) host ∙ sub in
      let counted : is_counted D S ≡ false → S.limit ≡ 0 = (λ none. ⊎_elim
      (λ (z : S.limit ≡ 0). z)
      (λ (x : (n : ℕ) × (S.limit ≡ n + 1) × (n < length f.limits)).
      let there : has_limit S.limit (numbers_below limits) ≡ true = ap (λ (c : ℕ). has_limit c (numbers_below limits)) x.1 ∙ has_limit_below limits x.0 (let l = x.2 in omega (arith, l, all)) in
      absurd (true≢false (sym there ∙ none)))
      r.limit) in
      let lent : IsLent v D slot = record {
        opening = refl;
        undone = undone;
        runs = ap (λ (x : Stand). x.phase) now_is ∙ runs;
        room = ap (λ (x : Stand). hosted D x) now_is ∙ host;
        bill = ap (λ (g : Farm). is_billed g D (stand_at g slot)) farm ∙ billed;
        count = subst (λ (x : Stand). is_counted D x ≡ false → x.limit ≡ 0) (sym now_is) counted;
      } in (
        (D, H.placing.desk, refl, lent),
        lt,
        frame_below w fits,
        frame_back w fits ∙ (is ∙ ap (λ (x : Stand). word_of x) (sym now_is)),
        amounts_now wrote,
      )

  -- the amounts, once they were written
  pub amounts_last : (w : View) (a : AmountWord) (found : ℕ) → FitsAmount a → a ≡ amounts_of (stand_at f slot) → w ≡ wrote_amount v slot (amount_bits a) found
      → WroteAmounts (stand_at f slot) (last_amount slot w.trail)
  amounts_last w a found fits is now =
      let item : Noted = record { did = 14; word = amount_place slot; operand = amount_bits a; found = found; wrote = amount_bits a } in
      subst (WroteAmounts (stand_at f slot)) (sym (ap (λ (x : View). last_amount slot x.trail) now ∙ wrote_last slot v.trail item refl refl)) (amount_back a fits ∙ is)
