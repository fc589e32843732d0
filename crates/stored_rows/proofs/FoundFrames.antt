-- A frame is found by its number as it is by its position, and a layer by its name as by its key.
use Rattle.std.proofs.Common.{◌≡◌, ℕ, ℤ, suc, ◌+◌, ◌*◌, Bool, true, false, cond, ◌&&◌, ◌||◌, eqb, List, [], ◌∷◌, Option, Some, None, refl, sym, ap, subst, ◌∙◌, arith}
use Rattle.std.specs.Prelude.{is_some, option_map}
use Rattle.std.specs.List.{find, list_all, list_any, position_or_len, slice_get}
use Rattle.std.specs.Ordering.{int_eq}
use Rattle.std.specs.Cmp.{int_eq_equiv}
use Rattle.std.specs.Str.{bytes_eq}
use Rattle.std.specs.Cmp.Derive.{both_true}
use Rattle.std.proofs.lemmas.Bool.{eq-eqb, eqb-false, eqb-true, false≢true, ne_eqb}
use Rattle.std.proofs.lemmas.Bool.Decides.{Decides-int_eq}
use Rattle.std.proofs.lemmas.List.Folds.{find_at}
use Rattle.frame_range.specs.Places.{place_of}
use Rattle.farm_types.specs.declared.limits.TheConstants.{MOST_LAYERS}
use Rattle.farm_types.specs.declared.rows.LayerRow.{LayerRow}
use Rattle.farm_types.specs.declared.slot_row.Frame.{Frame}
use Rattle.farm_types.specs.declared.slot_row.SlotRow.{SlotRow}
use Rattle.farm_types.specs.Farm.{Farm, for_some, is_placed, layers_of, slot_from, for_any, layer_in}
use Rattle.farm_types.specs.Ranges.{range_numbers}
use Rattle.farm_types.specs.Rising.{IsRising, layer_key}
use Rattle.farm_types.proofs.Lists.{and_both}
use Rattle.farm_rows.specs.Recovery.{is_frame_in, numbers_in}
use Rattle.stored_rows.specs.Known.{is_found, is_found_at, layer_known, slot_stands, stands_in}
use Rattle.stored_rows.proofs.Numbers.{Places, places, slot_at}
use Rattle.stored_rows.proofs.Once.{filter_in, found_rising}

-- ---- numbers of a list and their positions

same_number : (a b : ℤ) → int_eq a b ≡ true → a ≡ b
same_number a b is = (Decides-int_eq a b).0 is

place_here : (z x : ℤ) (xs : List ℤ) → int_eq x z ≡ true → position_or_len (λ n. int_eq n z) (x ∷ xs) ≡ 0
place_here z x xs is = rw is refl

place_later : (z x : ℤ) (xs : List ℤ) → int_eq x z ≡ false → position_or_len (λ n. int_eq n z) (x ∷ xs) ≡ suc (position_or_len (λ n. int_eq n z) xs)
place_later z x xs is = rw is (omega arith)

any_later : (z x : ℤ) (xs : List ℤ) → int_eq x z ≡ false → list_any (λ n. int_eq n z) (x ∷ xs) ≡ true → list_any (λ n. int_eq n z) xs ≡ true
any_later z x xs is some = subst (λ (b : Bool). (b || list_any (λ n. int_eq n z) xs) ≡ true) is some

same_suc : (a b : ℕ) (c : Bool) → eqb a b ≡ c → eqb a b ≡ eqb (suc a) (suc b)
same_suc a b true is = is ∙ sym (eq-eqb (suc a) (suc b) (ap suc (eqb-true a b is)))
same_suc a b false is = is ∙ sym (ne_eqb (suc a) (suc b) (λ e. absurd (eqb-false a b is (omega (arith, e)))))

-- two numbers of a list are the same where their positions are
numbers_step : (m z x : ℤ) (xs : List ℤ) (a b : Bool) → int_eq x m ≡ a → int_eq x z ≡ b → list_any (λ n. int_eq n m) (x ∷ xs) ≡ true → list_any (λ n. int_eq n z) (x ∷ xs) ≡ true
    → (list_any (λ n. int_eq n m) xs ≡ true → list_any (λ n. int_eq n z) xs ≡ true → int_eq m z ≡ eqb (position_or_len (λ n. int_eq n m) xs) (position_or_len (λ n. int_eq n z) xs))
    → int_eq m z ≡ eqb (position_or_len (λ n. int_eq n m) (x ∷ xs)) (position_or_len (λ n. int_eq n z) (x ∷ xs))
numbers_step m z x xs true true at_m at_z some_m some_z rest =
    let same : int_eq m z ≡ true = subst (λ (y : ℤ). int_eq y z ≡ true) (same_number x m at_m) at_z in
    same ∙ sym (eq-eqb _ _ (place_here m x xs at_m ∙ sym (place_here z x xs at_z)))
numbers_step m z x xs true false at_m at_z some_m some_z rest =
    let other : int_eq m z ≡ false = subst (λ (y : ℤ). int_eq y z ≡ false) (same_number x m at_m) at_z in
    other ∙ sym (ne_eqb _ _ (λ e. absurd (omega (arith, e, place_here m x xs at_m, place_later z x xs at_z))))
numbers_step m z x xs false true at_m at_z some_m some_z rest =
    let other : int_eq m z ≡ false = int_eq_equiv.symm m z ∙ subst (λ (y : ℤ). int_eq y m ≡ false) (same_number x z at_z) at_m in
    other ∙ sym (ne_eqb _ _ (λ e. absurd (omega (arith, e, place_later m x xs at_m, place_here z x xs at_z))))
numbers_step m z x xs false false at_m at_z some_m some_z rest =
    rest (any_later m x xs at_m some_m) (any_later z x xs at_z some_z) ∙ same_suc (position_or_len (λ n. int_eq n m) xs) (position_or_len (λ n. int_eq n z) xs) _ refl
    ∙ (λ i. eqb (sym (place_later m x xs at_m) i) (sym (place_later z x xs at_z) i))

numbers_apart : (m z : ℤ) (xs : List ℤ) → list_any (λ n. int_eq n m) xs ≡ true → list_any (λ n. int_eq n z) xs ≡ true → int_eq m z ≡ eqb (position_or_len (λ n. int_eq n m) xs) (position_or_len (λ n. int_eq n z) xs)
numbers_apart m z [] some_m some_z = absurd (false≢true some_m)
numbers_apart m z (x ∷ xs) some_m some_z = numbers_step m z x xs (int_eq x m) (int_eq x z) refl refl some_m some_z (numbers_apart m z xs)

other_number : (m z : ℤ) (xs : List ℤ) (b : Bool) → int_eq m z ≡ b → list_any (λ n. int_eq n m) xs ≡ true → list_any (λ n. int_eq n z) xs ≡ false → int_eq m z ≡ false
other_number m z xs true is some none =
    let here : list_any (λ n. int_eq n z) xs ≡ true = subst (λ (y : ℤ). list_any (λ n. int_eq n y) xs ≡ true) (same_number m z is) some in
    absurd (false≢true (sym none ∙ here))
other_number m z xs false is some none = is

-- ---- the first slot with a frame of a layer

module _ (layers : List LayerRow) (p q : Frame → Bool) (agree : (x : Frame) → stands_in layers x ≡ true → p x ≡ q x) where
  frames_alike : (o : Option Frame) → for_any o (stands_in layers) ≡ true → for_some o p ≡ for_some o q
  frames_alike None h = refl
  frames_alike (Some x) h = agree x h

  slots_alike : (base : ℕ) (slots : List SlotRow) → list_all (slot_stands layers) slots ≡ true → slot_from base p slots ≡ slot_from base q slots
  slots_alike base [] all = refl
  slots_alike base (s ∷ ss) all =
      let both = and_both (slot_stands layers s) (list_all (slot_stands layers) ss) all in
      let first = frames_alike s.frame both.0 in
      let rest = slots_alike (base + 1) ss both.1 in
      λ i. cond (first i) (Some base) (rest i)

no_frame : (o : Option Frame) → for_some o (λ (x : Frame). false) ≡ false
no_frame None = refl
no_frame (Some x) = refl

no_slot : (base : ℕ) (slots : List SlotRow) → slot_from base (λ (x : Frame). false) slots ≡ None
no_slot base [] = refl
no_slot base (s ∷ ss) = ap (λ (b : Bool). cond b (Some base) (slot_from (base + 1) (λ (x : Frame). false) ss)) (no_frame s.frame) ∙ no_slot (base + 1) ss

module _ (layers : List LayerRow) (slots : List SlotRow) (l : LayerRow) (stand : list_all (slot_stands layers) slots ≡ true) (there : layer_in layers l.job l.place ≡ Some l) (z : ℤ) where
  -- the frame's number and its position
  stands_as : (x : Frame) → stands_in layers x ≡ true → x.job ≡ l.job → x.layer ≡ l.place
      → (list_any (λ n. int_eq n x.number) (range_numbers l.range) ≡ true) × (x.position ≡ position_or_len (λ n. int_eq n x.number) (range_numbers l.range))
  stands_as x h job place =
      let its : numbers_in (layer_in layers x.job x.layer) ≡ range_numbers l.range = (λ i. numbers_in (layer_in layers (job i) (place i))) ∙ ap numbers_in there in
      let both = and_both (list_any (λ n. int_eq n x.number) (numbers_in (layer_in layers x.job x.layer))) (eqb x.position (position_or_len (λ n. int_eq n x.number) (numbers_in (layer_in layers x.job x.layer)))) h in
      (sym (ap (list_any (λ n. int_eq n x.number)) its) ∙ both.0, eqb-true _ _ both.1 ∙ ap (position_or_len (λ n. int_eq n x.number)) its)

  tests_by : (n : ℕ) (a b : Bool) (x : Frame) → stands_in layers x ≡ true → eqb x.job l.job ≡ a → eqb x.layer l.place ≡ b → list_any (λ m. int_eq m z) (range_numbers l.range) ≡ true → position_or_len (λ m. int_eq m z) (range_numbers l.range) ≡ n
      → ((a && b) && int_eq x.number z) ≡ ((a && b) && eqb x.position n)
  tests_by n true true x h job place some at =
      let s = stands_as x h (eqb-true x.job l.job job) (eqb-true x.layer l.place place) in
      numbers_apart x.number z (range_numbers l.range) s.0 some ∙ (λ i. eqb (sym s.1 i) (at i))
  tests_by n true false x h job place some at = refl
  tests_by n false b x h job place some at = refl

  tests_none : (a b : Bool) (x : Frame) → stands_in layers x ≡ true → eqb x.job l.job ≡ a → eqb x.layer l.place ≡ b → list_any (λ m. int_eq m z) (range_numbers l.range) ≡ false → ((a && b) && int_eq x.number z) ≡ false
  tests_none true true x h job place none =
      let s = stands_as x h (eqb-true x.job l.job job) (eqb-true x.layer l.place place) in
      other_number x.number z (range_numbers l.range) (int_eq x.number z) refl s.0 none
  tests_none true false x h job place none = refl
  tests_none false b x h job place none = refl

  found_by : (o : Option ℕ) → Places z (range_numbers l.range) o → is_found_at (layer_known slots l) o ≡ is_some (slot_from 0 (λ (x : Frame). (eqb x.job l.job && eqb x.layer l.place) && int_eq x.number z) slots)
  found_by None p =
      sym (ap (λ (o : Option ℕ). is_some o)
      (slots_alike layers (λ (x : Frame). (eqb x.job l.job && eqb x.layer l.place) && int_eq x.number z) (λ (x : Frame). false) (λ x h. tests_none (eqb x.job l.job) (eqb x.layer l.place) x h refl refl p.0) 0 slots stand ∙ no_slot 0 slots))
  found_by (Some n) p =
      ap (λ (o : Option ℕ). is_some o)
      (slot_at slots l n p.2
      ∙ sym (slots_alike layers (λ (x : Frame). (eqb x.job l.job && eqb x.layer l.place) && int_eq x.number z) (is_placed l.job l.place n) (λ x h. tests_by n (eqb x.job l.job) (eqb x.layer l.place) x h refl refl p.0 p.1) 0 slots stand))

-- ---- parts of a farm

named_there : (layers : List LayerRow) (high job : ℕ) (name : List ℕ) (l : LayerRow) → IsRising layer_key 0 layers high → find (λ (m : LayerRow). bytes_eq m.name name) (layers_of layers job) ≡ Some l → layer_in layers l.job l.place ≡ Some l
named_there layers high job name l rise at =
    let inner : slice_get (layers_of layers job) (position_or_len (λ (m : LayerRow). bytes_eq m.name name) (layers_of layers job)) ≡ Some l = sym (find_at (λ (m : LayerRow). bytes_eq m.name name) (layers_of layers job)) ∙ at in
    let place = filter_in (λ (m : LayerRow). eqb m.job job) layers (position_or_len (λ (m : LayerRow). bytes_eq m.name name) (layers_of layers job)) l inner in
    found_rising layer_key (λ (m : LayerRow). eqb m.job l.job && eqb m.place l.place) l (λ m its. key_same m (and_both (eqb m.job l.job) (eqb m.place l.place) its))
    (both_true (eq-eqb l.job l.job refl) (eq-eqb l.place l.place refl)) 0 layers high place.0 rise place.1
  where
    key_same : (m : LayerRow) → (eqb m.job l.job ≡ true) × (eqb m.place l.place ≡ true) → layer_key m ≡ layer_key l
    key_same m both =
        let jobs = eqb-true m.job l.job both.0 in
        let spots = eqb-true m.place l.place both.1 in
        λ i. MOST_LAYERS * jobs i + spots i

frame_by : (f : Farm) (l : LayerRow) (frame : Option ℤ) → list_all (slot_stands f.layers) f.slots ≡ true → layer_in f.layers l.job l.place ≡ Some l → for_any frame (is_found (layer_known f.slots l)) ≡ is_frame_in f l frame
frame_by f l None stand there = refl
frame_by f l (Some z) stand there = found_by f.layers f.slots l stand there z (place_of z (range_numbers l.range)) (places z (range_numbers l.range))

pub part_known : (f : Farm) (high job : ℕ) (name : List ℕ) (frame : Option ℤ) (o : Option LayerRow) → list_all (slot_stands f.layers) f.slots ≡ true → IsRising layer_key 0 f.layers high → find (λ (m : LayerRow). bytes_eq m.name name) (layers_of f.layers job) ≡ o
    → for_some (option_map (layer_known f.slots) o) (λ k. for_any frame (is_found k)) ≡ for_some o (λ (l : LayerRow). is_frame_in f l frame)
part_known f high job name frame None stand rise at = refl
part_known f high job name frame (Some l) stand rise at = frame_by f l frame stand (named_there f.layers high job name l rise at)
