-- Layers by their keys, and those of a job.
use Rattle.std.proofs.Common.{◌≡◌, ◌≤◌, ◌<◌, ℕ, suc, zero, ◌+◌, ◌-◌, ◌*◌, Bool, true, false, ◌&&◌, eqb, List, [], ◌∷◌, length, get_or, take, drop, refl, sym, ap, ◌∙◌, arith}
use Rattle.std.specs.List.{filter, list_all, position_or_len}
use Rattle.std.proofs.lemmas.Bool.{eq-eqb, eqb-true, eqb-false, false≢true, ltb-true, ne_eqb}
use Rattle.std.proofs.lemmas.List.{length-drop}
use Rattle.farm_types.specs.declared.limits.TheConstants.{MOST_LAYERS}
use Rattle.farm_types.specs.declared.rows.LayerRow.{LayerRow}
use Rattle.farm_types.specs.Rising.{layer_key}
use Rattle.farm_types.proofs.Lists.{and_both}
use Rattle.row_index.specs.Index.{is_placed_below}

-- two numbers as one, the lower ones below 64
key_by : (x y : Bool) (a b c d : ℕ) → b < MOST_LAYERS → d < MOST_LAYERS → eqb a c ≡ x → eqb b d ≡ y → eqb (MOST_LAYERS * a + b) (MOST_LAYERS * c + d) ≡ (x && y)
key_by true true a b c d low lower job place = let same = eqb-true a c job in let there = eqb-true b d place in eq-eqb _ _ (omega (arith, same, there))
key_by true false a b c d low lower job place = ne_eqb _ _ (λ e. absurd (eqb-false b d place (let same = eqb-true a c job in omega (arith, same, e))))
key_by false y a b c d low lower job place = ne_eqb _ _ (λ e. absurd (eqb-false a c job (omega (arith, low, lower, e))))

place_by : {X : Type 0} (p q : X → Bool) (b : Bool) (x : X) (xs : List X) → p x ≡ b → q x ≡ b → position_or_len p xs ≡ position_or_len q xs → position_or_len p (x ∷ xs) ≡ position_or_len q (x ∷ xs)
place_by p q true x xs first second rest = rw (first, second) refl
place_by p q false x xs first second rest = rw (first, second) (omega (arith, rest))

-- a layer's place by its key is that by its job and its place there
pub place_by_key : (job place : ℕ) (layers : List LayerRow) → place < MOST_LAYERS → list_all is_placed_below layers ≡ true
    → position_or_len (λ (l : LayerRow). eqb (layer_key l) (MOST_LAYERS * job + place)) layers ≡ position_or_len (λ (l : LayerRow). eqb l.job job && eqb l.place place) layers
place_by_key job place [] low all = refl
place_by_key job place (l ∷ ls) low all =
    let both = and_both (is_placed_below l) (list_all is_placed_below ls) all in
    place_by (λ (l : LayerRow). eqb (layer_key l) (MOST_LAYERS * job + place)) (λ (l : LayerRow). eqb l.job job && eqb l.place place) (eqb l.job job && eqb l.place place) l ls
    (key_by (eqb l.job job) (eqb l.place place) l.job l.place job place (ltb-true l.place MOST_LAYERS both.0) low refl refl) refl (place_by_key job place ls low both.1)

apart_by : (x : Bool) (b d : ℕ) → b < MOST_LAYERS → MOST_LAYERS ≤ d → (x && eqb b d) ≡ false
apart_by true b d low high = ne_eqb b d (λ e. absurd (omega (arith, low, high, e)))
apart_by false b d low high = refl

past_step : {X : Type 0} (p : X → Bool) (x : X) (xs : List X) → p x ≡ false → length xs ≡ position_or_len p xs → length (x ∷ xs) ≡ position_or_len p (x ∷ xs)
past_step p x xs fails rest = rw fails (omega (arith, rest))

-- no layer is at a place past all
pub place_past : (job place : ℕ) (layers : List LayerRow) → MOST_LAYERS ≤ place → list_all is_placed_below layers ≡ true → length layers ≡ position_or_len (λ (l : LayerRow). eqb l.job job && eqb l.place place) layers
place_past job place [] high all = refl
place_past job place (l ∷ ls) high all =
    let both = and_both (is_placed_below l) (list_all is_placed_below ls) all in
    past_step (λ (l : LayerRow). eqb l.job job && eqb l.place place) l ls (apart_by (eqb l.job job) l.place place (ltb-true l.place MOST_LAYERS both.0) high) (place_past job place ls high both.1)

-- ---- the layers of a job

-- what of a list passes a test, where it stands together
module _ {X : Type 0} (test : X → Bool) where
  taken_by : (b : Bool) (x : X) (xs ys : List X) → test x ≡ b → b ≡ true → filter test xs ≡ ys → filter test (x ∷ xs) ≡ x ∷ ys
  taken_by true x xs ys is h rest = rw is (ap (λ zs. x ∷ zs) rest)
  taken_by false x xs ys is h rest = absurd (false≢true h)

  passed_by : (b : Bool) (x : X) (xs ys : List X) → test x ≡ b → b ≡ false → filter test xs ≡ ys → filter test (x ∷ xs) ≡ ys
  passed_by true x xs ys is h rest = absurd (false≢true (sym h))
  passed_by false x xs ys is h rest = rw is rest

  none_left : (xs : List X) → ((i : ℕ) (d : X) → i < length xs → test (get_or xs i d) ≡ false) → filter test xs ≡ []
  none_left [] h = refl
  none_left (x ∷ xs) h = passed_by (test x) x xs [] refl (h 0 x (omega arith)) (none_left xs (λ i d less. h (suc i) d (omega (arith, less))))

  these : (count : ℕ) (xs : List X) → ((i : ℕ) (d : X) → i < count → i < length xs → test (get_or xs i d) ≡ true) → ((i : ℕ) (d : X) → count ≤ i → i < length xs → test (get_or xs i d) ≡ false) → take count xs ≡ filter test xs
  these zero [] pass fail = refl
  these (suc count) [] pass fail = refl
  these zero (x ∷ xs) pass fail = sym (none_left (x ∷ xs) (λ i d less. fail i d (omega arith) less))
  these (suc count) (x ∷ xs) pass fail =
      sym (taken_by (test x) x xs (take count xs) refl (pass 0 x (omega arith) (omega arith))
      (sym (these count xs (λ i d less within. pass (suc i) d (omega (arith, less)) (omega (arith, within))) (λ i d past within. fail (suc i) d (omega (arith, past)) (omega (arith, within))))))

  skipped : (first : ℕ) (xs : List X) → ((i : ℕ) (d : X) → i < first → i < length xs → test (get_or xs i d) ≡ false) → filter test (drop first xs) ≡ filter test xs
  skipped zero xs fail = refl
  skipped (suc first) [] fail = refl
  skipped (suc first) (x ∷ xs) fail = sym (passed_by (test x) x xs (filter test (drop first xs)) refl (fail 0 x (omega arith) (omega arith))
      (sym (skipped first xs (λ i d less within. fail (suc i) d (omega (arith, less)) (omega (arith, within))))))

all_at : {X : Type 0} (test : X → Bool) (xs : List X) (i : ℕ) (d : X) → list_all test xs ≡ true → i < length xs → test (get_or xs i d) ≡ true
all_at test [] i d all within = absurd (omega (arith, within))
all_at test (x ∷ xs) zero d all within = (and_both (test x) (list_all test xs) all).0
all_at test (x ∷ xs) (suc i) d all within = all_at test xs i d (and_both (test x) (list_all test xs) all).1 (omega (arith, within))

dropped_at : {X : Type 0} (n : ℕ) (xs : List X) (i : ℕ) (d : X) → get_or (drop n xs) i d ≡ get_or xs (n + i) d
dropped_at zero xs i d = let same : i ≡ zero + i = omega arith in ap (λ (k : ℕ). get_or xs k d) same
dropped_at (suc n) [] i d = refl
dropped_at (suc n) (x ∷ xs) i d = let same : suc (n + i) ≡ suc n + i = omega arith in dropped_at n xs i d ∙ ap (λ (k : ℕ). get_or (x ∷ xs) k d) same

module _ (layers : List LayerRow) (job first end : ℕ) (all : list_all is_placed_below layers ≡ true)
    (below : (i : ℕ) (d : LayerRow) → i < first → layer_key (get_or layers i d) < MOST_LAYERS * job)
    (above : (i : ℕ) (d : LayerRow) → first ≤ i → i < length layers → MOST_LAYERS * job ≤ layer_key (get_or layers i d))
    (ended : (i : ℕ) (d : LayerRow) → i < end → layer_key (get_or layers i d) < MOST_LAYERS * job + MOST_LAYERS)
    (past : (i : ℕ) (d : LayerRow) → end ≤ i → i < length layers → MOST_LAYERS * job + MOST_LAYERS ≤ layer_key (get_or layers i d)) where
  its_here : (i : ℕ) (d : LayerRow) → first ≤ i → i < end → i < length layers → eqb (get_or layers i d).job job ≡ true
  its_here i d from less within =
      let low = above i d from within in
      let high = ended i d less in
      let place = ltb-true (get_or layers i d).place MOST_LAYERS (all_at is_placed_below layers i d all within) in
      eq-eqb _ _ (omega (arith, low, high, place))

  not_before : (i : ℕ) (d : LayerRow) → i < first → i < length layers → eqb (get_or layers i d).job job ≡ false
  not_before i d less within = let high = below i d less in ne_eqb _ _ (λ e. absurd (omega (arith, high, e)))

  not_behind : (i : ℕ) (d : LayerRow) → end ≤ i → i < length layers → eqb (get_or layers i d).job job ≡ false
  not_behind i d from within =
      let low = past i d from within in
      let place = ltb-true (get_or layers i d).place MOST_LAYERS (all_at is_placed_below layers i d all within) in
      ne_eqb _ _ (λ e. absurd (omega (arith, low, place, e)))

  -- the layers between two keys are those of a job
  pub job_layers : take (end - first) (drop first layers) ≡ filter (λ (l : LayerRow). eqb l.job job) layers
  job_layers =
      these (λ (l : LayerRow). eqb l.job job) (end - first) (drop first layers)
      (λ i d less within. let there = length-drop first layers in ap (λ (l : LayerRow). eqb l.job job) (dropped_at first layers i d) ∙ its_here (first + i) d (omega arith) (omega (arith, less)) (omega (arith, within, there)))
      (λ i d from within. let there = length-drop first layers in ap (λ (l : LayerRow). eqb l.job job) (dropped_at first layers i d) ∙ not_behind (first + i) d (omega (arith, from)) (omega (arith, within, there)))
      ∙ skipped (λ (l : LayerRow). eqb l.job job) first layers (λ i d less within. not_before i d less within)
