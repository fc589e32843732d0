-- Where frames stand once a job is placed: those that were there as before, and its own where they went.
use Rattle.std.proofs.Common.{◌≡◌, ℕ, zero, suc, ◌+◌, ◌*◌, ◌<◌, ◌≤◌, not, Bool, true, false, cond, eqb, List, [], ◌∷◌, ◌++◌, length, map, Option, Some, None, ℤ, refl, sym, ap, subst, ◌∙◌, ◌⊎◌, inl, inr, arith, length-append}
use Rattle.std.specs.Prelude.{nat_le}
use Rattle.std.specs.List.{concat, list_all, list_any, slice_get, position_or_len}
use Rattle.std.specs.Option.{option_and_then}
use Rattle.std.proofs.lemmas.List.{length-map}
use Rattle.std.proofs.lemmas.List.Folds.{list_all-append}
use Rattle.std.proofs.lemmas.Bool.{false≢true, cases_eq, eq-eqb, ne_eqb, eqb-true, leb-false, ltb-true, and_from}
use Rattle.std.proofs.lemmas.Option.{none-some, same_Some, slice_get_past}
use Rattle.farm_types.specs.declared.job.LayerSpec.{LayerSpec}
use Rattle.farm_types.specs.declared.rows.LayerRow.{LayerRow}
use Rattle.farm_types.specs.declared.slot_row.Frame.{Frame}
use Rattle.farm_types.specs.declared.slot_row.SlotRow.{SlotRow}
use Rattle.farm_types.specs.Farm.{for_some, is_placed, slot_from}
use Rattle.farm_types.specs.Jobs.{is_free, slot_with, fresh_slot, place_frames, frames_from, frames_of, layer_rows}
use Rattle.farm_types.specs.Rising.{IsRising}
use Rattle.farm_types.proofs.Lists.{and_both, list_all-at}
use Rattle.job_book.specs.Inside.{is_below, layer_key}
use Rattle.job_book.specs.Layers.{KeepsLayers, place_in, places_past, put_places}
use Rattle.job_entries.specs.Entries.{is_layer, layer_position}
use Rattle.job_book.proofs.NamedJobs.{found_any}
use Rattle.job_book.proofs.PlacementLemmas.Placed.{no_frame, all_placed, all_from, all_of, length-layer_rows, rising_within}
use Rattle.job_book.specs.declared.jobs.TheConstants.{PLACE_LIMIT}

-- the test says of no frame that it is one
abbrev pub fails : (Frame → Bool) → Frame → Bool
fails test x = not (test x)

fails_is : (b : Bool) → not b ≡ true → b ≡ false
fails_is true h = absurd (false≢true h)
fails_is false h = refl

-- where the first frame that passes went
abbrev pub picked : (Frame → Bool) → List Frame → List ℕ → Option ℕ
picked test [] ns = None
picked test (x ∷ xs) [] = None
picked test (x ∷ xs) (n ∷ ns) = cond (test x) (Some n) (picked test xs ns)

module _ (test : Frame → Bool) where
  fresh_none : (p : ℕ) (frames : List Frame) → list_all (fails test) frames ≡ true → slot_from p test (map fresh_slot frames) ≡ None
  fresh_none p [] none = refl
  fresh_none p (x ∷ xs) none =
      let both = and_both (not (test x)) (list_all (fails test) xs) none in
      rw (fails_is (test x) both.0) (fresh_none (p + 1) xs both.1)

  none_step : (b : Bool) (p : ℕ) (s : SlotRow) (ss : List SlotRow) (x : Frame) (xs : List Frame) → is_free s ≡ b → test x ≡ false
      → slot_from (p + 1) test (place_frames ss xs) ≡ slot_from (p + 1) test ss → slot_from (p + 1) test (place_frames ss (x ∷ xs)) ≡ slot_from (p + 1) test ss
      → slot_from p test (place_frames (s ∷ ss) (x ∷ xs)) ≡ slot_from p test (s ∷ ss)
  none_step true p s ss x xs free is here later = rw (free, is, no_frame s free) here
  none_step false p s ss x xs free is here later = rw free (ap (λ (o : Option ℕ). cond (for_some s.frame test) (Some p) o) later)

  -- frames that don't pass leave what is found
  pub none_new : (p : ℕ) (slots : List SlotRow) (frames : List Frame) → list_all (fails test) frames ≡ true → slot_from p test (place_frames slots frames) ≡ slot_from p test slots
  none_new p [] frames none = fresh_none p frames none
  none_new p (s ∷ ss) [] none = refl
  none_new p (s ∷ ss) (x ∷ xs) none =
      let both = and_both (not (test x)) (list_all (fails test) xs) none in
      none_step (is_free s) p s ss x xs refl (fails_is (test x) both.0) (none_new (p + 1) ss xs both.1) (none_new (p + 1) ss (x ∷ xs) none)

  fresh_picked : (p : ℕ) (frames : List Frame) → slot_from p test (map fresh_slot frames) ≡ picked test frames (places_past p frames)
  fresh_picked p [] = refl
  fresh_picked p (x ∷ xs) = ap (λ (o : Option ℕ). cond (test x) (Some p) o) (fresh_picked (p + 1) xs)

  none_old : (p : ℕ) (slots : List SlotRow) → list_all (λ (s : SlotRow). not (for_some s.frame test)) slots ≡ true → slot_from p test slots ≡ None
  none_old p [] none = refl
  none_old p (s ∷ ss) none =
      let both = and_both (not (for_some s.frame test)) (list_all (λ (r : SlotRow). not (for_some r.frame test)) ss) none in
      rw (fails_is (for_some s.frame test) both.0) (none_old (p + 1) ss both.1)

  picked_step : (b : Bool) (p : ℕ) (s : SlotRow) (ss : List SlotRow) (x : Frame) (xs : List Frame) → is_free s ≡ b → for_some s.frame test ≡ false
      → slot_from (p + 1) test (place_frames ss xs) ≡ picked test xs (put_places (p + 1) ss xs) → slot_from (p + 1) test (place_frames ss (x ∷ xs)) ≡ picked test (x ∷ xs) (put_places (p + 1) ss (x ∷ xs))
      → slot_from p test (place_frames (s ∷ ss) (x ∷ xs)) ≡ picked test (x ∷ xs) (put_places p (s ∷ ss) (x ∷ xs))
  picked_step true p s ss x xs free is here later = rw free (ap (λ (o : Option ℕ). cond (test x) (Some p) o) here)
  picked_step false p s ss x xs free is here later = rw (free, is) later

  -- where no frame passed before, a new one is found where it went
  pub picked_new : (p : ℕ) (slots : List SlotRow) (frames : List Frame) → list_all (λ (s : SlotRow). not (for_some s.frame test)) slots ≡ true
      → slot_from p test (place_frames slots frames) ≡ picked test frames (put_places p slots frames)
  picked_new p [] frames none = fresh_picked p frames
  picked_new p (s ∷ ss) [] none = none_old p (s ∷ ss) none
  picked_new p (s ∷ ss) (x ∷ xs) none =
      let both = and_both (not (for_some s.frame test)) (list_all (λ (r : SlotRow). not (for_some r.frame test)) ss) none in
      picked_step (is_free s) p s ss x xs refl (fails_is (for_some s.frame test) both.0) (picked_new (p + 1) ss xs both.1) (picked_new (p + 1) ss (x ∷ xs) both.1)

  picked_none : (xs : List Frame) (ns : List ℕ) → list_all (fails test) xs ≡ true → picked test xs ns ≡ None
  picked_none [] ns none = refl
  picked_none (x ∷ xs) [] none = refl
  picked_none (x ∷ xs) (n ∷ ns) none =
      let both = and_both (not (test x)) (list_all (fails test) xs) none in
      rw (fails_is (test x) both.0) (picked_none xs ns both.1)

  -- none among the first frames
  picked_behind : (xs ys : List Frame) (ns ms : List ℕ) → length xs ≡ length ns → list_all (fails test) xs ≡ true → picked test (xs ++ ys) (ns ++ ms) ≡ picked test ys ms
  picked_behind [] ys [] ms long none = refl
  picked_behind [] ys (n ∷ ns) ms long none = absurd (omega arith)
  picked_behind (x ∷ xs) ys [] ms long none = absurd (omega arith)
  picked_behind (x ∷ xs) ys (n ∷ ns) ms long none =
      let both = and_both (not (test x)) (list_all (fails test) xs) none in
      rw (fails_is (test x) both.0) (picked_behind xs ys ns ms (omega arith) both.1)

  -- none among the last ones
  picked_before : (xs ys : List Frame) (ns ms : List ℕ) → length xs ≡ length ns → list_all (fails test) ys ≡ true → picked test (xs ++ ys) (ns ++ ms) ≡ picked test xs ns
  picked_before [] ys [] ms long none = picked_none ys ms none
  picked_before [] ys (n ∷ ns) ms long none = absurd (omega arith)
  picked_before (x ∷ xs) ys [] ms long none = absurd (omega arith)
  picked_before (x ∷ xs) ys (n ∷ ns) ms long none = ap (λ (o : Option ℕ). cond (test x) (Some n) o) (picked_before xs ys ns ms (omega arith) none)

-- ---- the frames of a layer and of a job

length-from : (job layer q : ℕ) (numbers : List ℤ) → length (frames_from job layer q numbers) ≡ length numbers
length-from job layer q [] = refl
length-from job layer q (n ∷ ns) = ap suc (length-from job layer (q + 1) ns)

-- the frame at a position of its own layer
picked_layer : (job layer q k position : ℕ) (numbers : List ℤ) (ns : List ℕ) → position ≡ q + k → length numbers ≡ length ns → picked (is_placed job layer position) (frames_from job layer q numbers) ns ≡ slice_get ns k
picked_layer job layer q k position [] [] is long = refl
picked_layer job layer q k position [] (n ∷ ns) is long = absurd (omega arith)
picked_layer job layer q k position (m ∷ ms) [] is long = absurd (omega arith)
picked_layer job layer q zero position (m ∷ ms) (n ∷ ns) is long = rw (eq-eqb job job refl, eq-eqb layer layer refl, eq-eqb q position (omega (arith, is))) refl
picked_layer job layer q (suc k) position (m ∷ ms) (n ∷ ns) is long =
    let apart : eqb q position ≡ false = ne_eqb q position (λ e. absurd (omega (arith, is, e))) in
    rw (eq-eqb job job refl, eq-eqb layer layer refl, apart) (picked_layer job layer (q + 1) k position ms ns (omega (arith, is)) (omega arith))

-- no frame of another layer
other_layer : (job layer position p : ℕ) (numbers : List ℤ) → eqb p layer ≡ false → list_all (fails (is_placed job layer position)) (frames_from job p 0 numbers) ≡ true
other_layer job layer position p numbers apart = all_from (λ o. not (for_some o (is_placed job layer position))) job p 0 numbers (λ q n. rw (eq-eqb job job refl, apart) refl)

later_layers : (job layer position p : ℕ) (ls : List LayerSpec) → layer < p → list_all (fails (is_placed job layer position)) (frames_of job p ls) ≡ true
later_layers job layer position p [] later = refl
later_layers job layer position p (l ∷ ls) later =
    list_all-append (fails (is_placed job layer position)) (frames_from job p 0 l.numbers) (frames_of job (p + 1) ls)
    ∙ and_from _ _ (other_layer job layer position p l.numbers (ne_eqb p layer (λ e. absurd (omega (arith, later, e))))) (later_layers job layer position (p + 1) ls (omega (arith, later)))

-- no frame of another job
pub other_job : (job layer position next p : ℕ) (ls : List LayerSpec) → eqb next job ≡ false → list_all (fails (is_placed job layer position)) (frames_of next p ls) ≡ true
other_job job layer position next p ls apart = all_of (λ o. not (for_some o (is_placed job layer position))) next p ls (λ l q n. rw apart refl)

-- each frame of a job is found in its layer's list, at its position
pub picked_lists : (layer_limits : List (Option ℕ)) (job layer position p : ℕ) (ls : List LayerSpec) (lists : List (List ℕ)) → map (λ (ns : List ℕ). length ns) lists ≡ map (λ (l : LayerSpec). length l.numbers) ls
    → picked (is_placed job layer position) (frames_of job p ls) (concat lists) ≡ place_in lists (layer_position job layer (layer_rows job layer_limits p ls)) position
picked_lists layer_limits job layer position p [] [] same = refl
picked_lists layer_limits job layer position p [] (ns ∷ lists) same = absurd (cc)
picked_lists layer_limits job layer position p (l ∷ ls) [] same = absurd (cc)
picked_lists layer_limits job layer position p (l ∷ ls) (ns ∷ lists) same =
    let first : length ns ≡ length l.numbers = cc in
    let others : map (λ (ms : List ℕ). length ms) lists ≡ map (λ (m : LayerSpec). length m.numbers) ls = cc in
    by (eqb p layer) refl first (picked_lists layer_limits job layer position (p + 1) ls lists others)
  where
    by : (b : Bool) → eqb p layer ≡ b → length ns ≡ length l.numbers
        → picked (is_placed job layer position) (frames_of job (p + 1) ls) (concat lists) ≡ place_in lists (layer_position job layer (layer_rows job layer_limits (p + 1) ls)) position
        → picked (is_placed job layer position) (frames_of job p (l ∷ ls)) (concat (ns ∷ lists)) ≡ place_in (ns ∷ lists) (layer_position job layer (layer_rows job layer_limits p (l ∷ ls))) position
    by true is long later =
        let same : p ≡ layer = eqb-true p layer is in
        let here : picked (is_placed job layer position) (frames_from job p 0 l.numbers) ns ≡ slice_get ns position =
        ap (λ (n : ℕ). picked (is_placed job layer position) (frames_from job n 0 l.numbers) ns) same ∙ picked_layer job layer 0 position position l.numbers ns (omega arith) (sym long) in
        picked_before (is_placed job layer position) (frames_from job p 0 l.numbers) (frames_of job (p + 1) ls) ns (concat lists) (length-from job p 0 l.numbers ∙ sym long) (later_layers job layer position (p + 1) ls (omega (arith, same)))
        ∙ here ∙ rw (eq-eqb job job refl, is) refl
    by false is long later =
        let e : 1 + layer_position job layer (layer_rows job layer_limits (p + 1) ls) ≡ suc (layer_position job layer (layer_rows job layer_limits (p + 1) ls)) = omega arith in
        picked_behind (is_placed job layer position) (frames_from job p 0 l.numbers) (frames_of job (p + 1) ls) ns (concat lists) (length-from job p 0 l.numbers ∙ sym long) (other_layer job layer position p l.numbers is)
        ∙ later ∙ rw (eq-eqb job job refl, is, e) refl

-- ---- frames of which no two have one place

abbrev IsApart : List Frame → Type 0
IsApart [] = Unit {0}
IsApart (x ∷ xs) = (list_all (fails (is_placed x.job x.layer x.position)) xs ≡ true) × IsApart xs

later_positions : (job layer k q : ℕ) (numbers : List ℤ) → k < q → list_all (fails (is_placed job layer k)) (frames_from job layer q numbers) ≡ true
later_positions job layer k q [] later = refl
later_positions job layer k q (n ∷ ns) later =
    let apart : eqb q k ≡ false = ne_eqb q k (λ e. absurd (omega (arith, later, e))) in
    and_from _ _ (rw (eq-eqb job job refl, eq-eqb layer layer refl, apart) refl) (later_positions job layer k (q + 1) ns (omega (arith, later)))

apart_from : (job layer q : ℕ) (numbers : List ℤ) (rest : List Frame) → ((k : ℕ) → list_all (fails (is_placed job layer k)) rest ≡ true) → IsApart rest → IsApart (frames_from job layer q numbers ++ rest)
apart_from job layer q [] rest others apart = apart
apart_from job layer q (n ∷ ns) rest others apart =
    (list_all-append (fails (is_placed job layer q)) (frames_from job layer (q + 1) ns) rest ∙ and_from _ _ (later_positions job layer q (q + 1) ns (omega arith)) (others q), apart_from job layer (q + 1) ns rest others apart)

apart_of : (job p : ℕ) (ls : List LayerSpec) → IsApart (frames_of job p ls)
apart_of job p [] = tt
apart_of job p (l ∷ ls) = apart_from job p 0 l.numbers (frames_of job (p + 1) ls) (λ k. later_layers job p k (p + 1) ls (omega arith)) (apart_of job (p + 1) ls)

eqb-sym : (a b : ℕ) → eqb a b ≡ eqb b a
eqb-sym a b = by (cases_eq a b)
  where
    by : (a ≡ b) ⊎ (a ≡ b → ⊥) → eqb a b ≡ eqb b a
    by (inl same) = eq-eqb a b same ∙ sym (eq-eqb b a (sym same))
    by (inr apart) = ne_eqb a b apart ∙ sym (ne_eqb b a (λ e. apart (sym e)))

placed-sym : (x y : Frame) → is_placed x.job x.layer x.position y ≡ is_placed y.job y.layer y.position x
placed-sym x y = rw (eqb-sym y.job x.job, eqb-sym y.layer x.layer, eqb-sym y.position x.position) refl

placed_self : (x : Frame) → is_placed x.job x.layer x.position x ≡ true
placed_self x = rw (eq-eqb x.job x.job refl, eq-eqb x.layer x.layer refl, eq-eqb x.position x.position refl) refl

-- ---- lists put together

pub slice_get-front : {X : Type 0} (xs ys : List X) (i : ℕ) → i < length xs → slice_get (xs ++ ys) i ≡ slice_get xs i
slice_get-front [] ys i within = absurd (omega arith)
slice_get-front (x ∷ xs) ys zero within = refl
slice_get-front (x ∷ xs) ys (suc i) within = slice_get-front xs ys i (omega arith)

pub slice_get-back : {X : Type 0} (xs ys : List X) (i j : ℕ) → i ≡ length xs + j → slice_get (xs ++ ys) i ≡ slice_get ys j
slice_get-back {X} [] ys i j is = let e : i ≡ j = omega (arith, is) in ap (λ (n : ℕ). slice_get {X = X} ys n) e
slice_get-back {X} (x ∷ xs) ys i j is =
    let e : i ≡ suc (length xs + j) = omega (arith, is) in
    ap (λ (n : ℕ). slice_get {X = X} (x ∷ (xs ++ ys)) n) e ∙ slice_get-back xs ys (length xs + j) j refl

module _ {X : Type 0} (test : X → Bool) where
  position_step : (b : Bool) (x : X) (xs ys : List X) → test x ≡ b → (list_any test xs ≡ true → position_or_len test (xs ++ ys) ≡ position_or_len test xs) → list_any test (x ∷ xs) ≡ true
      → position_or_len test (x ∷ (xs ++ ys)) ≡ position_or_len test (x ∷ xs)
  position_step true x xs ys is later some = rw is refl
  position_step false x xs ys is later some = rw is (ap (λ (n : ℕ). 1 + n) (later (rw is at some)))

  position-front : (xs ys : List X) → list_any test xs ≡ true → position_or_len test (xs ++ ys) ≡ position_or_len test xs
  position-front [] ys some = absurd (false≢true some)
  position-front (x ∷ xs) ys some = position_step (test x) x xs ys refl (position-front xs ys) some

  past_step : (b : Bool) (x : X) (xs ys : List X) → test x ≡ b → (list_any test xs ≡ false → position_or_len test (xs ++ ys) ≡ length xs + position_or_len test ys) → list_any test (x ∷ xs) ≡ false
      → position_or_len test (x ∷ (xs ++ ys)) ≡ length (x ∷ xs) + position_or_len test ys
  past_step true x xs ys is later none = absurd (false≢true (sym none ∙ rw is refl))
  past_step false x xs ys is later none = rw is (omega (arith, later (rw is at none)))

  position-back : (xs ys : List X) → list_any test xs ≡ false → position_or_len test (xs ++ ys) ≡ length xs + position_or_len test ys
  position-back [] ys none = omega arith
  position-back (x ∷ xs) ys none = past_step (test x) x xs ys refl (position-back xs ys) none

  position-none_step : (b : Bool) (x : X) (xs : List X) → test x ≡ b → (list_any test xs ≡ false → position_or_len test xs ≡ length xs) → list_any test (x ∷ xs) ≡ false → position_or_len test (x ∷ xs) ≡ length (x ∷ xs)
  position-none_step true x xs is later none = absurd (false≢true (sym none ∙ rw is refl))
  position-none_step false x xs is later none = rw is (omega (arith, later (rw is at none)))

  position-none : (xs : List X) → list_any test xs ≡ false → position_or_len test xs ≡ length xs
  position-none [] none = refl
  position-none (x ∷ xs) none = position-none_step (test x) x xs refl (position-none xs) none

  position-within : (xs : List X) → list_any test xs ≡ true → position_or_len test xs < length xs
  position-within xs some = ltb-true (position_or_len test xs) (length xs) (found_any test xs ∙ some)

-- ---- the layers of all jobs

-- no layer of a job that wasn't placed
pub no_layer : (job layer low high : ℕ) (ls : List LayerRow) → IsRising layer_key low ls high → high ≤ PLACE_LIMIT * job → list_any (is_layer job layer) ls ≡ false
no_layer job layer low high [] rise below = refl
no_layer job layer low high (l ∷ ls) rise below =
    let within = rising_within layer_key (layer_key l + 1) ls high rise.1 in
    let apart : eqb l.job job ≡ false = ne_eqb l.job job (λ e. absurd (omega (arith, below, within, e))) in
    rw apart (no_layer job layer (layer_key l + 1) high ls rise.1 below)

-- no layer of another job among a job's rows
no_row : (layer_limits : List (Option ℕ)) (job layer next p : ℕ) (ls : List LayerSpec) → eqb next job ≡ false → list_any (is_layer job layer) (layer_rows next layer_limits p ls) ≡ false
no_row layer_limits job layer next p [] apart = refl
no_row layer_limits job layer next p (l ∷ ls) apart = rw apart (no_row layer_limits job layer next (p + 1) ls apart)

-- no frame of a job that wasn't placed
pub none_placed : (next layer position : ℕ) (slots : List SlotRow) → list_all (is_below next) slots ≡ true → list_all (λ (s : SlotRow). not (for_some s.frame (is_placed next layer position))) slots ≡ true
none_placed next layer position [] below = refl
none_placed next layer position (s ∷ ss) below =
    let both = and_both (is_below next s) (list_all (is_below next) ss) below in
    and_from _ _ (one s.frame both.0) (none_placed next layer position ss both.1)
  where
    one : (o : Option Frame) → not (for_some o (λ x. nat_le next x.job)) ≡ true → not (for_some o (is_placed next layer position)) ≡ true
    one None h = refl
    one (Some x) h = let apart : eqb x.job next ≡ false = ne_eqb x.job next (λ e. absurd (omega (arith, leb-false next x.job (fails_is (nat_le next x.job) h), e))) in rw apart refl

-- behind a first row that doesn't pass
behind_first : (p s : ℕ) (test : Frame → Bool) (r : SlotRow) (rs : List SlotRow) → for_some r.frame test ≡ false → slot_from (p + 1) test rs ≡ Some (p + 1 + s) → slot_from p test (r ∷ rs) ≡ Some (p + suc s)
behind_first p s test r rs fails later = let e : p + suc s ≡ p + 1 + s = omega arith in rw (fails, e) later

first_itself : (p : ℕ) (x : Frame) (r : SlotRow) (rs : List SlotRow) → r.frame ≡ Some x → slot_from p (is_placed x.job x.layer x.position) (r ∷ rs) ≡ Some (p + 0)
first_itself p x r rs is = let e : p + 0 ≡ p = omega arith in rw (is, placed_self x, e) refl

module _ (next : ℕ) where
  abbrev IsNew : Frame → Type 0
  IsNew x = x.job ≡ next

  -- none of the rows behind has the place of the first frame
  behind_fails : (x0 x : Frame) (slots : List SlotRow) (frames : List Frame) (s : ℕ) (row : SlotRow) → x0.job ≡ next → list_all (is_below next) slots ≡ true → list_all (fails (is_placed x0.job x0.layer x0.position)) frames ≡ true
      → slice_get (place_frames slots frames) s ≡ Some row → row.frame ≡ Some x → is_placed x.job x.layer x.position x0 ≡ false
  behind_fails x0 x slots frames s row of_job below apart at is =
      let old = subst (λ (n : ℕ). list_all (λ (r : SlotRow). not (for_some r.frame (is_placed n x0.layer x0.position))) slots ≡ true) (sym of_job) (none_placed next x0.layer x0.position slots below) in
      let all = all_placed (λ o. not (for_some o (is_placed x0.job x0.layer x0.position))) slots frames old apart in
      let one = list_all-at (λ (r : SlotRow). not (for_some r.frame (is_placed x0.job x0.layer x0.position))) (place_frames slots frames) s row all at in
      placed-sym x x0 ∙ fails_is (is_placed x0.job x0.layer x0.position x) (rw is at one)

  old_fails : (x : Frame) (r : SlotRow) → x.job ≡ next → is_below next r ≡ true → for_some r.frame (is_placed x.job x.layer x.position) ≡ false
  old_fails x r of_job below =
      let one = none_placed next x.layer x.position (r ∷ []) (and_from _ _ below refl) in
      let both = and_both (not (for_some r.frame (is_placed next x.layer x.position))) true one in
      ap (λ (n : ℕ). for_some r.frame (is_placed n x.layer x.position)) of_job ∙ fails_is (for_some r.frame (is_placed next x.layer x.position)) both.0

  not_old : (x : Frame) (r : SlotRow) → x.job ≡ next → is_below next r ≡ true → r.frame ≡ Some x → ⊥
  not_old x r of_job below is = false≢true (sym (old_fails x r of_job below) ∙ rw is (placed_self x))

  -- a new frame stands first where it went
  first_new : (p : ℕ) (slots : List SlotRow) (frames : List Frame) (s : ℕ) (row : SlotRow) (x : Frame) → list_all (is_below next) slots ≡ true → list_all (λ (y : Frame). eqb y.job next) frames ≡ true → IsApart frames
      → slice_get (place_frames slots frames) s ≡ Some row → row.frame ≡ Some x → x.job ≡ next → slot_from p (is_placed x.job x.layer x.position) (place_frames slots frames) ≡ Some (p + s)
  first_new p [] [] s row x below of_job apart at is new = absurd (none-some row at)
  first_new p [] (x0 ∷ xs) zero row x below of_job apart at is new = first_itself p x (fresh_slot x0) (map fresh_slot xs) (ap (λ (r : SlotRow). r.frame) (same_Some (fresh_slot x0) row at) ∙ is)
  first_new p [] (x0 ∷ xs) (suc s) row x below of_job apart at is new =
      let both = and_both (eqb x0.job next) (list_all (λ (y : Frame). eqb y.job next) xs) of_job in
      behind_first p s (is_placed x.job x.layer x.position) (fresh_slot x0) (map fresh_slot xs) (behind_fails x0 x [] xs s row (eqb-true x0.job next both.0) refl apart.0 at is)
      (first_new (p + 1) [] xs s row x refl both.1 apart.1 at is new)
  first_new p (r ∷ rs) [] s row x below of_job apart at is new = absurd (not_old x row new (list_all-at (is_below next) (r ∷ rs) s row below at) is)
  first_new p (r ∷ rs) (x0 ∷ xs) s row x below of_job apart at is new =
      let both = and_both (eqb x0.job next) (list_all (λ (y : Frame). eqb y.job next) xs) of_job in
      let split = and_both (is_below next r) (list_all (is_below next) rs) below in
      first_step (is_free r) p r rs x0 xs s row x refl split.0 split.1 (eqb-true x0.job next both.0) apart.0 at is new (λ k. first_new (p + 1) rs xs k row x split.1 both.1 apart.1) (λ k. first_new (p + 1) rs (x0 ∷ xs) k row x split.1 of_job apart)
    where
      first_step : (b : Bool) (p : ℕ) (r : SlotRow) (rs : List SlotRow) (x0 : Frame) (xs : List Frame) (s : ℕ) (row : SlotRow) (x : Frame) → is_free r ≡ b → is_below next r ≡ true → list_all (is_below next) rs ≡ true → x0.job ≡ next
          → list_all (fails (is_placed x0.job x0.layer x0.position)) xs ≡ true → slice_get (place_frames (r ∷ rs) (x0 ∷ xs)) s ≡ Some row → row.frame ≡ Some x → x.job ≡ next
          → ((k : ℕ) → slice_get (place_frames rs xs) k ≡ Some row → row.frame ≡ Some x → x.job ≡ next → slot_from (p + 1) (is_placed x.job x.layer x.position) (place_frames rs xs) ≡ Some (p + 1 + k))
          → ((k : ℕ) → slice_get (place_frames rs (x0 ∷ xs)) k ≡ Some row → row.frame ≡ Some x → x.job ≡ next → slot_from (p + 1) (is_placed x.job x.layer x.position) (place_frames rs (x0 ∷ xs)) ≡ Some (p + 1 + k))
          → slot_from p (is_placed x.job x.layer x.position) (place_frames (r ∷ rs) (x0 ∷ xs)) ≡ Some (p + s)
      first_step true p r rs x0 xs zero row x free old olds of_job apart at is new here later =
          let there : Some (slot_with x0 r) ≡ Some row = rw free at at in
          rw free (first_itself p x (slot_with x0 r) (place_frames rs xs) (ap (λ (z : SlotRow). z.frame) (same_Some (slot_with x0 r) row there) ∙ is))
      first_step true p r rs x0 xs (suc k) row x free old olds of_job apart at is new here later =
          let there : slice_get (place_frames rs xs) k ≡ Some row = rw free at at in
          rw free (behind_first p k (is_placed x.job x.layer x.position) (slot_with x0 r) (place_frames rs xs) (behind_fails x0 x rs xs k row of_job olds apart there is) (here k there is new))
      first_step false p r rs x0 xs zero row x free old olds of_job apart at is new here later =
          let there : Some r ≡ Some row = rw free at at in
          absurd (not_old x r new old (ap (λ (z : SlotRow). z.frame) (same_Some r row there) ∙ is))
      first_step false p r rs x0 xs (suc k) row x free old olds of_job apart at is new here later =
          let there : slice_get (place_frames rs (x0 ∷ xs)) k ≡ Some row = rw free at at in
          rw free (behind_first p k (is_placed x.job x.layer x.position) r (place_frames rs (x0 ∷ xs)) (old_fails x r new old) (later k there is new))

-- a row whose frame is of another job was there
old_row : (next : ℕ) (slots : List SlotRow) (frames : List Frame) (s : ℕ) (row : SlotRow) (x : Frame) → list_all (λ (y : Frame). eqb y.job next) frames ≡ true → (x.job ≡ next → ⊥)
    → slice_get (place_frames slots frames) s ≡ Some row → row.frame ≡ Some x → slice_get slots s ≡ Some row
old_row next [] [] s row x of_job far at is = at
old_row next [] (x0 ∷ xs) zero row x of_job far at is =
    let both = and_both (eqb x0.job next) (list_all (λ (y : Frame). eqb y.job next) xs) of_job in
    let same : x0 ≡ x = same_Some x0 x (ap (λ (r : SlotRow). r.frame) (same_Some (fresh_slot x0) row at) ∙ is) in
    absurd (far (sym (ap (λ (y : Frame). y.job) same) ∙ eqb-true x0.job next both.0))
old_row next [] (x0 ∷ xs) (suc s) row x of_job far at is =
    let both = and_both (eqb x0.job next) (list_all (λ (y : Frame). eqb y.job next) xs) of_job in
    absurd (none-some row (old_row next [] xs s row x both.1 far at is))
old_row next (r ∷ rs) [] s row x of_job far at is = at
old_row next (r ∷ rs) (x0 ∷ xs) s row x of_job far at is =
    let both = and_both (eqb x0.job next) (list_all (λ (y : Frame). eqb y.job next) xs) of_job in
    old_step (is_free r) next r rs x0 xs s row x refl (eqb-true x0.job next both.0) far at is (λ k there. old_row next rs xs k row x both.1 far there is) (λ k there. old_row next rs (x0 ∷ xs) k row x of_job far there is)
  where
    old_step : (b : Bool) (next : ℕ) (r : SlotRow) (rs : List SlotRow) (x0 : Frame) (xs : List Frame) (s : ℕ) (row : SlotRow) (x : Frame) → is_free r ≡ b → x0.job ≡ next → (x.job ≡ next → ⊥)
        → slice_get (place_frames (r ∷ rs) (x0 ∷ xs)) s ≡ Some row → row.frame ≡ Some x → ((k : ℕ) → slice_get (place_frames rs xs) k ≡ Some row → slice_get rs k ≡ Some row)
        → ((k : ℕ) → slice_get (place_frames rs (x0 ∷ xs)) k ≡ Some row → slice_get rs k ≡ Some row) → slice_get (r ∷ rs) s ≡ Some row
    old_step true next r rs x0 xs zero row x free of_job far at is here later =
        let there : Some (slot_with x0 r) ≡ Some row = rw free at at in
        let same : x0 ≡ x = same_Some x0 x (ap (λ (z : SlotRow). z.frame) (same_Some (slot_with x0 r) row there) ∙ is) in
        absurd (far (sym (ap (λ (y : Frame). y.job) same) ∙ of_job))
    old_step true next r rs x0 xs (suc k) row x free of_job far at is here later = here k (rw free at at)
    old_step false next r rs x0 xs zero row x free of_job far at is here later = rw free at at
    old_step false next r rs x0 xs (suc k) row x free of_job far at is here later = later k (rw free at at)

frames_of_job : (next p : ℕ) (ls : List LayerSpec) → list_all (λ (y : Frame). eqb y.job next) (frames_of next p ls) ≡ true
frames_of_job next p ls = all_of (λ o. for_some o (λ (y : Frame). eqb y.job next)) next p ls (λ l q n. eq-eqb next next refl)

length-counts : {X Y : Type 0} (f : X → ℕ) (g : Y → ℕ) (xs : List X) (ys : List Y) → map f xs ≡ map g ys → length xs ≡ length ys
length-counts f g xs ys same = sym (length-map xs f) ∙ ap (λ (ns : List ℕ). length ns) same ∙ length-map ys g

module _ (layers : List LayerRow) (slots : List SlotRow) (places lists : List (List ℕ)) (next : ℕ) (layer_limits : List (Option ℕ)) (ls : List LayerSpec) (rise : IsRising layer_key 0 layers (PLACE_LIMIT * next))
    (below : list_all (is_below next) slots ≡ true) (keeps : KeepsLayers layers slots places) (went : concat lists ≡ put_places 0 slots (frames_of next 0 ls))
    (counts : map (λ (ns : List ℕ). length ns) lists ≡ map (λ (l : LayerSpec). length l.numbers) ls) where
  as_many_lists : length lists ≡ length (layer_rows next layer_limits 0 ls)
  as_many_lists = length-counts (λ (ns : List ℕ). length ns) (λ (l : LayerSpec). length l.numbers) lists ls counts ∙ sym (length-layer_rows next layer_limits 0 ls)

  behind : (m q k : ℕ) → m ≡ length layers + q → place_in (places ++ lists) m k ≡ place_in lists q k
  behind m q k is = ap (option_and_then (λ (ns : List ℕ). slice_get ns k)) (slice_get-back places lists m q (omega (arith, is, keeps.as_many)))

  old_found : (b : Bool) (job layer k : ℕ) → eqb next job ≡ false → list_any (is_layer job layer) layers ≡ b
      → place_in places (layer_position job layer layers) k ≡ place_in (places ++ lists) (layer_position job layer (layers ++ layer_rows next layer_limits 0 ls)) k
  old_found true job layer k apart some =
      let within = position-within (is_layer job layer) layers some in
      ap (option_and_then (λ (ns : List ℕ). slice_get ns k)) (sym (slice_get-front places lists (layer_position job layer layers) (omega (arith, within, keeps.as_many))))
      ∙ ap (λ (m : ℕ). place_in (places ++ lists) m k) (sym (position-front (is_layer job layer) layers (layer_rows next layer_limits 0 ls) some))
  old_found false job layer k apart none =
      let nowhere = position-none (is_layer job layer) layers none in
      let past = position-none (is_layer job layer) (layer_rows next layer_limits 0 ls) (no_row layer_limits job layer next 0 ls apart) in
      ap (option_and_then (λ (ns : List ℕ). slice_get ns k)) (slice_get_past places (layer_position job layer layers) (omega (arith, nowhere, keeps.as_many)))
      ∙ sym (ap (option_and_then (λ (ns : List ℕ). slice_get ns k)) (slice_get_past lists (layer_position job layer (layer_rows next layer_limits 0 ls)) (omega (arith, past, as_many_lists))))
      ∙ sym (behind (layer_position job layer (layers ++ layer_rows next layer_limits 0 ls)) (layer_position job layer (layer_rows next layer_limits 0 ls)) k (position-back (is_layer job layer) layers (layer_rows next layer_limits 0 ls) none))

  found_by : (job layer k : ℕ) → (job ≡ next) ⊎ (job ≡ next → ⊥)
      → slot_from 0 (is_placed job layer k) (place_frames slots (frames_of next 0 ls)) ≡ place_in (places ++ lists) (layer_position job layer (layers ++ layer_rows next layer_limits 0 ls)) k
  found_by job layer k (inr apart) =
      let other : eqb next job ≡ false = ne_eqb next job (λ e. apart (sym e)) in
      none_new (is_placed job layer k) 0 slots (frames_of next 0 ls) (other_job job layer k next 0 ls other) ∙ keeps.found job layer k ∙ old_found (list_any (is_layer job layer) layers) job layer k other refl
  found_by job layer k (inl same) =
      rw same
      (picked_new (is_placed next layer k) 0 slots (frames_of next 0 ls) (none_placed next layer k slots below) ∙ ap (picked (is_placed next layer k) (frames_of next 0 ls)) (sym went) ∙ picked_lists layer_limits next layer k 0 ls lists counts
      ∙ sym (behind (layer_position next layer (layers ++ layer_rows next layer_limits 0 ls)) (layer_position next layer (layer_rows next layer_limits 0 ls)) k
      (position-back (is_layer next layer) layers (layer_rows next layer_limits 0 ls) (no_layer next layer 0 (PLACE_LIMIT * next) layers rise (omega arith)))))

  first_by : (s : ℕ) (row : SlotRow) (x : Frame) → slice_get (place_frames slots (frames_of next 0 ls)) s ≡ Some row → row.frame ≡ Some x → (x.job ≡ next) ⊎ (x.job ≡ next → ⊥)
      → slot_from 0 (is_placed x.job x.layer x.position) (place_frames slots (frames_of next 0 ls)) ≡ Some s
  first_by s row x at is (inl new) =
      let e : 0 + s ≡ s = omega arith in
      first_new next 0 slots (frames_of next 0 ls) s row x below (frames_of_job next 0 ls) (apart_of next 0 ls) at is new ∙ ap Some e
  first_by s row x at is (inr far) =
      none_new (is_placed x.job x.layer x.position) 0 slots (frames_of next 0 ls) (other_job x.job x.layer x.position next 0 ls (ne_eqb next x.job (λ e. far (sym e))))
      ∙ keeps.first s row x (old_row next slots (frames_of next 0 ls) s row x (frames_of_job next 0 ls) far at is) is

  pub placed_layers : KeepsLayers (layers ++ layer_rows next layer_limits 0 ls) (place_frames slots (frames_of next 0 ls)) (places ++ lists)
  placed_layers = record {
    as_many = omega (arith, length-append places lists, length-append layers (layer_rows next layer_limits 0 ls), keeps.as_many, as_many_lists);
    found = λ job layer k. found_by job layer k (cases_eq job next);
    first = λ s row x at is. first_by s row x at is (cases_eq x.job next);
  }
