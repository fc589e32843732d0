-- The places of free slots, in steps.
use Rattle.std.proofs.Common.{◌≡◌, ℕ, zero, suc, Option, ◌+◌, ◌-◌, ◌<◌, ◌≤◌, Bool, true, false, cond, eqb, List, [], ◌∷◌, ◌++◌, length, map, get_or, take, drop, refl, sym, ap, ◌∙◌, arith, append_assoc, append-nil, length-append, length-drop, take-append-drop}
use Rattle.std.specs.List.{concat}
use Rattle.std.proofs.lemmas.Bool.{eq-eqb, ne_eqb}
use Rattle.std.proofs.lemmas.List.{drop-drop, drop_all, drop_more, length-map, length-take-le, map_push, take_more}
use Rattle.std.proofs.lemmas.List.Sums.{sum_by-append, sum_by-cons}
use Rattle.std.specs.List.{list_all}
use Rattle.farm_types.specs.declared.job.LayerSpec.{LayerSpec}
use Rattle.farm_types.specs.declared.slot_row.Frame.{Frame}
use Rattle.farm_types.specs.declared.slot_row.SlotRow.{SlotRow}
use Rattle.farm_types.specs.Farm.{is_placed, slot_from}
use Rattle.farm_types.specs.Jobs.{frames_in, frames_of, is_free, layer_rows, place_frames}
use Rattle.job_book.specs.Inside.{is_below}
use Rattle.job_book.specs.Layers.{place_in, places_past, put_places}
use Rattle.job_entries.specs.Entries.{layer_position}
use Rattle.job_book.specs.Lowest.{lowest_free, places_from}
use Rattle.job_book.proofs.PlacementLemmas.FreeSlots.{none_left}
use Rattle.job_book.proofs.PlacementLemmas.PlacedLayers.{none_placed, picked, picked_lists, picked_new}
use Rattle.job_book.proofs.PlacementLemmas.Putting.{length-frames_of}

-- ---- the lowest free slots are where frames go

past_from : (p : ℕ) (frames : List Frame) → places_past p frames ≡ places_from p (length frames)
past_from p [] = refl
past_from p (x ∷ xs) = ap (λ (ns : List ℕ). p ∷ ns) (past_from (p + 1) xs)

pub put_lowest : (p : ℕ) (slots : List SlotRow) (frames : List Frame) → put_places p slots frames ≡ lowest_free p slots (length frames)
put_lowest p [] frames = past_from p frames
put_lowest p (s ∷ ss) [] = refl
put_lowest p (s ∷ ss) (x ∷ xs) =
    ap (λ (ns : List ℕ). cond (is_free s) (p ∷ ns) (put_places (p + 1) ss (x ∷ xs))) (put_lowest (p + 1) ss xs)
    ∙ ap (λ (ns : List ℕ). cond (is_free s) (p ∷ lowest_free (p + 1) ss (length xs)) ns) (put_lowest (p + 1) ss (x ∷ xs))

-- ---- slot by slot

module _ (slots : List SlotRow) (count i : ℕ) (total : List ℕ) (places : List ℕ) where
  -- so many places were found before the slot at i
  abbrev pub Found : Type 0
  Found = places ++ lowest_free i (drop i slots) (count - length places) ≡ total

  pub enough : length places ≡ count → Found → places ≡ total
  enough full found =
      let left : count - length places ≡ 0 = omega arith in
      sym (append-nil places) ∙ ap (λ (ns : List ℕ). places ++ ns) (sym (ap (lowest_free i (drop i slots)) left ∙ none_left i (drop i slots))) ∙ found

  here : (s : SlotRow) → i < length slots → s ≡ get_or slots i s → drop i slots ≡ s ∷ drop (i + 1) slots
  here s within is = drop_more slots i s within ∙ ap (λ (t : SlotRow). t ∷ drop (i + 1) slots) (sym is)

  at_slot : (s : SlotRow) (rest : ℕ) → i < length slots → s ≡ get_or slots i s → count - length places ≡ suc rest
      → lowest_free i (drop i slots) (count - length places) ≡ cond (is_free s) (i ∷ lowest_free (i + 1) (drop (i + 1) slots) rest) (lowest_free (i + 1) (drop (i + 1) slots) (suc rest))
  at_slot s rest within is left = ap (λ (ss : List SlotRow). lowest_free i ss (count - length places)) (here s within is) ∙ ap (lowest_free i (s ∷ drop (i + 1) slots)) left

  -- at the end of the slots
  pub past_end : length slots ≤ i → Found → places ++ places_from i (count - length places) ≡ total
  past_end beyond found = ap (λ (ss : List SlotRow). places ++ lowest_free i ss (count - length places)) (sym (drop_all i slots beyond)) ∙ found

module _ (slots : List SlotRow) (count i : ℕ) (total : List ℕ) (places : List ℕ) (s : SlotRow) (within : i < length slots) (is : s ≡ get_or slots i s) (few : length places < count) where
  pub passed : is_free s ≡ false → Found slots count i total places → Found slots count (i + 1) total places
  passed taken found =
      let left : count - length places ≡ suc (count - length places - 1) = omega arith in
      ap (λ (n : ℕ). places ++ lowest_free (i + 1) (drop (i + 1) slots) n) left
      ∙ sym (ap (λ (ns : List ℕ). places ++ ns) (at_slot slots count i total places s (count - length places - 1) within is left ∙ ap (λ (b : Bool). cond b (i ∷ lowest_free (i + 1) (drop (i + 1) slots) (count - length places - 1)) (lowest_free (i + 1) (drop (i + 1) slots) (suc (count - length places - 1)))) taken)) ∙ found

  pub taken : is_free s ≡ true → Found slots count i total places → Found slots count (i + 1) total (places ++ i ∷ [])
  taken free found =
      let left : count - length places ≡ suc (count - length (places ++ i ∷ [])) = omega (arith, length-append places (i ∷ [])) in
      append_assoc places (i ∷ []) (lowest_free (i + 1) (drop (i + 1) slots) (count - length (places ++ i ∷ [])))
      ∙ sym (ap (λ (ns : List ℕ). places ++ ns) (at_slot slots count i total places s (count - length (places ++ i ∷ [])) within is left ∙ ap (λ (b : Bool). cond b (i ∷ lowest_free (i + 1) (drop (i + 1) slots) (count - length (places ++ i ∷ []))) (lowest_free (i + 1) (drop (i + 1) slots) (suc (count - length (places ++ i ∷ []))))) free)) ∙ found

-- ---- slots that were never used

pub unused_more : (places : List ℕ) (place rest : ℕ) (total : List ℕ) → places ++ places_from place (suc rest) ≡ total → (places ++ place ∷ []) ++ places_from (place + 1) rest ≡ total
unused_more places place rest total found = append_assoc places (place ∷ []) (places_from (place + 1) rest) ∙ found

-- ---- layer by layer

pub concat-push : (lists : List (List ℕ)) (ns : List ℕ) → concat (lists ++ ns ∷ []) ≡ concat lists ++ ns
concat-push [] ns = append-nil ns
concat-push (ms ∷ lists) ns = ap (λ (ks : List ℕ). ms ++ ks) (concat-push lists ns) ∙ sym (append_assoc ms (concat lists) ns)

pub take-add : (m n : ℕ) (ns : List ℕ) → take (m + n) ns ≡ take m ns ++ take n (drop m ns)
take-add zero n ns = let e : 0 + n ≡ n = omega arith in rw e refl
take-add (suc m) n [] = by n
  where
    by : (n : ℕ) → take (suc m + n) [] ≡ take {A = ℕ} n []
    by zero = let e : suc m + 0 ≡ suc m = omega arith in rw e refl
    by (suc n) = let e : suc m + suc n ≡ suc (m + suc n) = omega arith in rw e refl
take-add (suc m) n (k ∷ ns) = let e : suc m + n ≡ suc (m + n) = omega arith in rw e (ap (λ (ks : List ℕ). k ∷ ks) (take-add m n ns))

-- ---- where the frames of a new job are found

-- rows of a job stand at their layers' places
row_place : (layer_limits : List (Option ℕ)) (job p layer q k : ℕ) (ls : List LayerSpec) (lists : List (List ℕ)) → layer ≡ p + q → length lists ≡ length ls → place_in lists (layer_position job layer (layer_rows job layer_limits p ls)) k ≡ place_in lists q k
row_place layer_limits job p layer q k [] [] is long = refl
row_place layer_limits job p layer q k [] (ns ∷ lists) is long = absurd (omega arith)
row_place layer_limits job p layer q k (l ∷ ls) [] is long = absurd (omega arith)
row_place layer_limits job p layer zero k (l ∷ ls) (ns ∷ lists) is long = rw (eq-eqb job job refl, eq-eqb p layer (omega arith)) refl
row_place layer_limits job p layer (suc q) k (l ∷ ls) (ns ∷ lists) is long =
    let apart : eqb p layer ≡ false = ne_eqb p layer (λ e. absurd (omega arith)) in
    let e : 1 + layer_position job layer (layer_rows job layer_limits (p + 1) ls) ≡ suc (layer_position job layer (layer_rows job layer_limits (p + 1) ls)) = omega arith in
    rw (eq-eqb job job refl, apart, e) (row_place layer_limits job (p + 1) layer q k ls lists (omega arith) (omega arith))

pub new_found : (slots : List SlotRow) (next : ℕ) (ls : List LayerSpec) (lists : List (List ℕ)) (below : list_all (is_below next) slots ≡ true) (went : concat lists ≡ lowest_free 0 slots (frames_in ls))
    (counts : map (λ (ns : List ℕ). length ns) lists ≡ map (λ (l : LayerSpec). length l.numbers) ls) (layer position : ℕ)
    → slot_from 0 (is_placed next layer position) (place_frames slots (frames_of next 0 ls)) ≡ place_in lists layer position
new_found slots next ls lists below went counts layer position =
    let placed : put_places 0 slots (frames_of next 0 ls) ≡ concat lists = put_lowest 0 slots (frames_of next 0 ls) ∙ ap (lowest_free 0 slots) (length-frames_of next 0 ls) ∙ sym went in
    let long : length lists ≡ length ls = sym (length-map lists (λ (ns : List ℕ). length ns)) ∙ ap length counts ∙ length-map ls (λ (l : LayerSpec). length l.numbers) in
    picked_new (is_placed next layer position) 0 slots (frames_of next 0 ls) (none_placed next layer position slots below)
    ∙ ap (picked (is_placed next layer position) (frames_of next 0 ls)) placed
    ∙ picked_lists [] next layer position 0 ls lists counts
    ∙ row_place [] next 0 layer layer position ls lists (omega arith) long

-- so many frames more
pub frames_more : (layers : List LayerSpec) (i : ℕ) (l : LayerSpec) → i < length layers → l ≡ get_or layers i l → frames_in (take (i + 1) layers) ≡ frames_in (take i layers) + length l.numbers
frames_more layers i l within is =
    ap frames_in (take_more layers i l within ∙ ap (λ (k : LayerSpec). take i layers ++ k ∷ []) (sym is)) ∙ sum_by-append (λ (k : LayerSpec). length k.numbers) (take i layers) (l ∷ []) ∙ omega (arith, sum_by-cons (λ (k : LayerSpec). length k.numbers) l [])

pub lengths_more : (lists : List (List ℕ)) (piece : List ℕ) (layers : List LayerSpec) (i : ℕ) (l : LayerSpec) → i < length layers → l ≡ get_or layers i l → length piece ≡ length l.numbers
    → map (λ (ns : List ℕ). length ns) lists ≡ map (λ (k : LayerSpec). length k.numbers) (take i layers) → map (λ (ns : List ℕ). length ns) (lists ++ piece ∷ []) ≡ map (λ (k : LayerSpec). length k.numbers) (take (i + 1) layers)
lengths_more lists piece layers i l within is long counts =
    map_push (λ (ns : List ℕ). length ns) lists piece ∙ ap (λ (ns : List ℕ). ns ++ length piece ∷ []) counts ∙ ap (λ (n : ℕ). map (λ (k : LayerSpec). length k.numbers) (take i layers) ++ n ∷ []) long
    ∙ sym (ap (map (λ (k : LayerSpec). length k.numbers)) (take_more layers i l within ∙ ap (λ (k : LayerSpec). take i layers ++ k ∷ []) (sym is)) ∙ map_push (λ (k : LayerSpec). length k.numbers) (take i layers) l)

-- a piece of the places, and those behind it
pub cut : (done long end : ℕ) (places : List ℕ) → end ≡ done + long → drop done places ≡ take (end - done) (drop done places) ++ drop end places
cut done long end places is =
    let e : end - done ≡ long = omega (arith, is) in
    sym (take-append-drop long (drop done places)) ∙ (λ j. take (sym e j) (drop done places) ++ drop-drop long done places j) ∙ ap (λ (n : ℕ). take (end - done) (drop done places) ++ drop n places) (sym is)

pub piece_long : (done long end : ℕ) (places : List ℕ) → end ≡ done + long → end ≤ length places → length (take (end - done) (drop done places)) ≡ long
piece_long done long end places is within =
    let e : end - done ≡ long = omega (arith, is) in
    ap (λ (n : ℕ). length (take n (drop done places))) e ∙ length-take-le long (drop done places) (omega (arith, length-drop done places, is, within))
