-- The free slots of a list: which are the lowest, and what becomes of the list as frames are put into them.
use Rattle.std.proofs.Common.{◌≡◌, ℕ, zero, suc, ◌+◌, ◌-◌, ◌<◌, ◌≤◌, max, Bool, true, false, cond, List, [], ◌∷◌, ◌++◌, length, drop, get_or, Option, Some, None, refl, sym, ap, subst, ◌∙◌, arith, append_assoc, append-nil, length-append}
use Rattle.std.specs.List.{slice_get, slice_set}
use Rattle.std.proofs.lemmas.List.Sums.{sum_by-cons}
use Rattle.std.proofs.lemmas.Option.{none-some, slice_get_past}
use Rattle.farm_types.specs.declared.limits.TheConstants.{SLOT_LIMIT}
use Rattle.farm_types.specs.declared.slot_row.Frame.{Frame}
use Rattle.farm_types.specs.declared.slot_row.SlotRow.{SlotRow}
use Rattle.farm_types.specs.Jobs.{is_free, free_among, slot_with, fresh_slot, place_frames}
use Rattle.job_book.specs.Lowest.{AreNext, behind, filled, lowest_free, places_from, row_set, slot_for, with_frame}

-- ---- how many are free

pub free_cons : (b : Bool) (s : SlotRow) (ss : List SlotRow) → is_free s ≡ b → free_among (s ∷ ss) ≡ cond b 1 0 + free_among ss
free_cons b s ss is = sum_by-cons (λ (r : SlotRow). cond (is_free r) 1 0) s ss ∙ ap (λ (t : Bool). cond t 1 0 + free_among ss) is

pub fewer_behind : (k : ℕ) (ss : List SlotRow) → free_among (drop k ss) ≤ free_among ss
fewer_behind zero ss = omega arith
fewer_behind (suc k) [] = omega arith
fewer_behind (suc k) (s ∷ ss) = omega (arith, fewer_behind k ss, free_cons (is_free s) s ss refl)

-- ---- the lowest ones

pub none_left : (p : ℕ) (slots : List SlotRow) → lowest_free p slots 0 ≡ []
none_left p [] = refl
none_left p (s ∷ ss) = refl

length-places_from : (p n : ℕ) → length (places_from p n) ≡ n
length-places_from p zero = refl
length-places_from p (suc n) = ap suc (length-places_from (p + 1) n)

lowest_step : (b : Bool) (p n : ℕ) (ss : List SlotRow) → length (lowest_free (p + 1) ss n) ≡ n → length (lowest_free (p + 1) ss (suc n)) ≡ suc n → length (cond b (p ∷ lowest_free (p + 1) ss n) (lowest_free (p + 1) ss (suc n))) ≡ suc n
lowest_step true p n ss here later = ap suc here
lowest_step false p n ss here later = later

pub length-lowest_free : (p : ℕ) (slots : List SlotRow) (n : ℕ) → length (lowest_free p slots n) ≡ n
length-lowest_free p [] n = length-places_from p n
length-lowest_free p (s ∷ ss) zero = refl
length-lowest_free p (s ∷ ss) (suc n) = lowest_step (is_free s) p n ss (length-lowest_free (p + 1) ss n) (length-lowest_free (p + 1) ss (suc n))

-- where none below a place is free, the lowest are those from there on
pub skip_lowest : (k p : ℕ) (slots : List SlotRow) (n : ℕ) → k ≤ length slots → free_among (drop k slots) ≡ free_among slots → lowest_free (p + k) (drop k slots) n ≡ lowest_free p slots n
skip_lowest zero p slots n within same = let e : p + 0 ≡ p = omega arith in ap (λ (q : ℕ). lowest_free q slots n) e
skip_lowest (suc k) p [] n within same = absurd (omega (arith, within))
skip_lowest (suc k) p (s ∷ ss) n within same = by (is_free s) refl n (λ rest. skip_lowest k (p + 1) ss n (omega (arith, within)) rest)
  where
    by : (b : Bool) → is_free s ≡ b → (n : ℕ) → (free_among (drop k ss) ≡ free_among ss → lowest_free (p + 1 + k) (drop k ss) n ≡ lowest_free (p + 1) ss n)
        → lowest_free (p + suc k) (drop k ss) n ≡ lowest_free p (s ∷ ss) n
    by true is n later = absurd (omega (arith, fewer_behind k ss, free_cons true s ss is, same))
    by false is zero later = none_left (p + suc k) (drop k ss)
    by false is (suc m) later =
        let e : p + suc k ≡ p + 1 + k = omega arith in
        ap (λ (q : ℕ). lowest_free q (drop k ss) (suc m)) e ∙ later (omega (arith, same, free_cons false s ss is))
        ∙ sym (ap (λ (b : Bool). cond b (p ∷ lowest_free (p + 1) ss m) (lowest_free (p + 1) ss (suc m))) is)

next_from : (n p m : ℕ) → p ≡ m → p + n ≤ SLOT_LIMIT → AreNext (places_from p n) m
next_from zero p m is fits = tt
next_from (suc n) p m is fits = (omega (arith, is), omega (arith, fits), next_from n (p + 1) (max m (p + 1)) (omega (arith, is)) (omega (arith, fits)))

-- each is one of the slots, or the next that never was used
pub next_lowest : (p m : ℕ) (ss : List SlotRow) (n : ℕ) → m ≡ p + length ss → m ≤ SLOT_LIMIT → n ≤ free_among ss + (SLOT_LIMIT - m) → AreNext (lowest_free p ss n) m
next_lowest p m [] n is most enough = next_from n p m (omega (arith, is)) (omega (arith, is, most, enough))
next_lowest p m (s ∷ ss) zero is most enough = tt
next_lowest p m (s ∷ ss) (suc n) is most enough =
    by (is_free s) refl (λ more. next_lowest (p + 1) (max m (p + 1)) ss n (omega (arith, is)) (omega (arith, is, most)) more) (λ more. next_lowest (p + 1) m ss (suc n) (omega (arith, is)) most more)
  where
    by : (b : Bool) → is_free s ≡ b → (n ≤ free_among ss + (SLOT_LIMIT - max m (p + 1)) → AreNext (lowest_free (p + 1) ss n) (max m (p + 1)))
        → (suc n ≤ free_among ss + (SLOT_LIMIT - m) → AreNext (lowest_free (p + 1) ss (suc n)) m) → AreNext (lowest_free p (s ∷ ss) (suc n)) m
    by true free here later =
        subst (λ (b : Bool). AreNext (cond b (p ∷ lowest_free (p + 1) ss n) (lowest_free (p + 1) ss (suc n))) m) (sym free)
        (omega (arith, is), omega (arith, is, most), here (omega (arith, is, enough, free_cons true s ss free)))
    by false free here later =
        subst (λ (b : Bool). AreNext (cond b (p ∷ lowest_free (p + 1) ss n) (lowest_free (p + 1) ss (suc n))) m) (sym free)
        (later (omega (arith, enough, free_cons false s ss free)))

-- ---- frames in slots

with_none : (p : ℕ) (x : Frame) (slots : List SlotRow) → slice_get slots p ≡ None → with_frame p x slots ≡ slots ++ fresh_slot x ∷ []
with_none p x slots none = ap (λ (o : Option SlotRow). row_set p (slot_for x o) o slots) none

pub past_none : (xs : List SlotRow) (i : ℕ) → slice_get xs i ≡ None → length xs ≤ i
past_none [] i none = omega arith
past_none (x ∷ xs) zero none = absurd (none-some x (sym none))
past_none (x ∷ xs) (suc i) none = omega (arith, past_none xs i none)

with_some : (p : ℕ) (x : Frame) (s : SlotRow) (slots : List SlotRow) → slice_get slots p ≡ Some s → with_frame p x slots ≡ slice_set slots p (slot_with x s)
with_some p x s slots at = ap (λ (o : Option SlotRow). row_set p (slot_for x o) o slots) at

with_frame-suc : (p : ℕ) (x : Frame) (s : SlotRow) (ss : List SlotRow) → with_frame (suc p) x (s ∷ ss) ≡ s ∷ with_frame p x ss
with_frame-suc p x s ss = by (slice_get ss p)
  where
    by : (o : Option SlotRow) → row_set (suc p) (slot_for x o) o (s ∷ ss) ≡ s ∷ row_set p (slot_for x o) o ss
    by None = refl
    by (Some r) = refl

pub length-with_frame : (p : ℕ) (x : Frame) (slots : List SlotRow) → p ≤ length slots → length (with_frame p x slots) ≡ max (length slots) (p + 1)
length-with_frame zero x [] within = omega arith
length-with_frame zero x (s ∷ ss) within = omega arith
length-with_frame (suc p) x [] within = absurd (omega (arith, within))
length-with_frame (suc p) x (s ∷ ss) within = ap length (with_frame-suc p x s ss) ∙ omega (arith, length-with_frame p x ss (omega (arith, within)))

pub get_mid : (before : List SlotRow) (s : SlotRow) (ss : List SlotRow) (p : ℕ) → p ≡ length before → slice_get (before ++ s ∷ ss) p ≡ Some s
get_mid [] s ss zero is = refl
get_mid [] s ss (suc p) is = absurd (omega (arith, is))
get_mid (b ∷ bs) s ss zero is = absurd (omega (arith, is))
get_mid (b ∷ bs) s ss (suc p) is = get_mid bs s ss p (omega (arith, is))

set_mid : (before : List SlotRow) (s r : SlotRow) (ss : List SlotRow) (p : ℕ) → p ≡ length before → slice_set (before ++ s ∷ ss) p r ≡ before ++ r ∷ ss
set_mid [] s r ss zero is = refl
set_mid [] s r ss (suc p) is = absurd (omega (arith, is))
set_mid (b ∷ bs) s r ss zero is = absurd (omega (arith, is))
set_mid (b ∷ bs) s r ss (suc p) is = ap (λ (rs : List SlotRow). b ∷ rs) (set_mid bs s r ss p (omega (arith, is)))

filled_lowest : (before ss : List SlotRow) (xs : List Frame) (p : ℕ) → p ≡ length before → filled (lowest_free p ss (length xs)) xs (before ++ ss) ≡ before ++ place_frames ss xs
filled_lowest before [] [] p is = refl
filled_lowest before [] (x ∷ xs) p is =
    let past = slice_get_past (before ++ []) p (omega (arith, is, ap (λ (rs : List SlotRow). length rs) (append-nil before))) in
    let grown : with_frame p x (before ++ []) ≡ (before ++ fresh_slot x ∷ []) ++ [] =
    with_none p x (before ++ []) past ∙ append_assoc before [] (fresh_slot x ∷ []) ∙ sym (append_assoc before (fresh_slot x ∷ []) []) in
    ap (λ (rs : List SlotRow). filled (places_from (p + 1) (length xs)) xs rs) grown
    ∙ filled_lowest (before ++ fresh_slot x ∷ []) [] xs (p + 1) (omega (arith, is, length-append before (fresh_slot x ∷ [])))
    ∙ append_assoc before (fresh_slot x ∷ []) (place_frames [] xs)
filled_lowest before (s ∷ ss) [] p is = refl
filled_lowest before (s ∷ ss) (x ∷ xs) p is =
    by (is_free s) refl
    (filled_lowest (before ++ slot_with x s ∷ []) ss xs (p + 1) (omega (arith, is, length-append before (slot_with x s ∷ []))))
    (filled_lowest (before ++ s ∷ []) ss (x ∷ xs) (p + 1) (omega (arith, is, length-append before (s ∷ []))))
  where
    by : (b : Bool) → is_free s ≡ b
        → filled (lowest_free (p + 1) ss (length xs)) xs ((before ++ slot_with x s ∷ []) ++ ss) ≡ (before ++ slot_with x s ∷ []) ++ place_frames ss xs
        → filled (lowest_free (p + 1) ss (suc (length xs))) (x ∷ xs) ((before ++ s ∷ []) ++ ss) ≡ (before ++ s ∷ []) ++ place_frames ss (x ∷ xs)
        → filled (lowest_free p (s ∷ ss) (suc (length xs))) (x ∷ xs) (before ++ s ∷ ss) ≡ before ++ place_frames (s ∷ ss) (x ∷ xs)
    by true free here later =
        let set = with_some p x s (before ++ s ∷ ss) (get_mid before s ss p is) ∙ set_mid before s (slot_with x s) ss p is ∙ sym (append_assoc before (slot_with x s ∷ []) ss) in
        rw free (ap (λ (rs : List SlotRow). filled (lowest_free (p + 1) ss (length xs)) xs rs) set ∙ here ∙ append_assoc before (slot_with x s ∷ []) (place_frames ss xs))
    by false free here later =
        rw free (ap (λ (rs : List SlotRow). filled (lowest_free (p + 1) ss (suc (length xs))) (x ∷ xs) rs) (sym (append_assoc before (s ∷ []) ss)) ∙ later ∙ append_assoc before (s ∷ []) (place_frames ss (x ∷ xs)))

-- frames in the lowest free slots are placed as the definition places them
pub filled_all : (slots : List SlotRow) (xs : List Frame) → filled (lowest_free 0 slots (length xs)) xs slots ≡ place_frames slots xs
filled_all slots xs = filled_lowest [] slots xs 0 refl

-- ---- the place behind the last of them

-- none of the slots, which begin at p, is free below b
pub record IsBehind (p b : ℕ) (slots : List SlotRow) : Type 0 where
  pub from : p ≤ b
  pub within : b ≤ p + length slots
  pub none_below : free_among (drop (b - p) slots) ≡ free_among slots

behind_more : (p b : ℕ) (s : SlotRow) (ss : List SlotRow) → is_free s ≡ false → IsBehind (p + 1) b ss → IsBehind p b (s ∷ ss)
behind_more p b s ss taken rest =
    let e : b - p ≡ suc (b - (p + 1)) = omega (arith, rest.from) in
    record {
      from = omega (arith, rest.from);
      within = omega (arith, rest.within);
      none_below = ap (λ (n : ℕ). free_among (drop n (s ∷ ss))) e ∙ rest.none_below ∙ omega (arith, free_cons false s ss taken);
    }

behind_none : (p : ℕ) (slots : List SlotRow) → IsBehind p p slots
behind_none p slots =
    let e : p - p ≡ 0 = omega arith in
    record { from = omega arith; within = omega arith; none_below = ap (λ (n : ℕ). free_among (drop n slots)) e }

-- it is the same from wherever one begins
pub same_behind : (p q : ℕ) (ps : List ℕ) → 0 < length ps → behind p ps ≡ behind q ps
same_behind p q [] some = absurd (omega (arith, some))
same_behind p q (r ∷ rs) some = refl

pub behind_placed : (p : ℕ) (ss : List SlotRow) (xs : List Frame) → IsBehind p (behind p (lowest_free p ss (length xs))) (place_frames ss xs)
behind_placed p [] [] = behind_none p []
behind_placed p [] (x ∷ xs) = behind_more p (behind (p + 1) (places_from (p + 1) (length xs))) (fresh_slot x) (place_frames [] xs) refl (behind_placed (p + 1) [] xs)
behind_placed p (s ∷ ss) [] = behind_none p (s ∷ ss)
behind_placed p (s ∷ ss) (x ∷ xs) = by (is_free s) refl (behind_placed (p + 1) ss xs) (behind_placed (p + 1) ss (x ∷ xs))
  where
    by : (b : Bool) → is_free s ≡ b → IsBehind (p + 1) (behind (p + 1) (lowest_free (p + 1) ss (length xs))) (place_frames ss xs)
        → IsBehind (p + 1) (behind (p + 1) (lowest_free (p + 1) ss (suc (length xs)))) (place_frames ss (x ∷ xs))
        → IsBehind p (behind p (lowest_free p (s ∷ ss) (suc (length xs)))) (place_frames (s ∷ ss) (x ∷ xs))
    by true free here later = rw free (behind_more p (behind (p + 1) (lowest_free (p + 1) ss (length xs))) (slot_with x s) (place_frames ss xs) refl here)
    by false free here later =
        let places = lowest_free (p + 1) ss (suc (length xs)) in
        let same = same_behind p (p + 1) places (omega (arith, length-lowest_free (p + 1) ss (suc (length xs)))) in
        rw free (subst (λ (b : ℕ). IsBehind p b (s ∷ place_frames ss (x ∷ xs))) (sym same) (behind_more p (behind (p + 1) places) s (place_frames ss (x ∷ xs)) free later))

pub last_behind : (p : ℕ) (ps : List ℕ) (d : ℕ) → 0 < length ps → get_or ps (length ps - 1) d + 1 ≡ behind p ps
last_behind p [] d some = absurd (omega (arith, some))
last_behind p (q ∷ []) d some = let e : length (q ∷ []) - 1 ≡ 0 = omega arith in ap (λ (i : ℕ). get_or (q ∷ []) i d + 1) e
last_behind p (q ∷ r ∷ rs) d some =
    let e : length (q ∷ r ∷ rs) - 1 ≡ suc (length (r ∷ rs) - 1) = omega arith in
    ap (λ (i : ℕ). get_or (q ∷ r ∷ rs) i d + 1) e ∙ last_behind (q + 1) (r ∷ rs) d (omega arith)

-- ---- some frames, and then others

pub filled-append : (ps qs : List ℕ) (xs ys : List Frame) (slots : List SlotRow) → length ps ≡ length xs → filled (ps ++ qs) (xs ++ ys) slots ≡ filled qs ys (filled ps xs slots)
filled-append [] qs [] ys slots long = refl
filled-append [] qs (x ∷ xs) ys slots long = absurd (omega (arith, long))
filled-append (p ∷ ps) qs [] ys slots long = absurd (omega (arith, long))
filled-append (p ∷ ps) qs (x ∷ xs) ys slots long = filled-append ps qs xs ys (with_frame p x slots) (omega (arith, long))

pub next_front : (ps qs : List ℕ) (n : ℕ) → AreNext (ps ++ qs) n → AreNext ps n
next_front [] qs n next = tt
next_front (p ∷ ps) qs n next = (next.0, next.1, next_front ps qs (max n (p + 1)) next.2)

pub next_back : (ps qs : List ℕ) (xs : List Frame) (slots : List SlotRow) → length ps ≡ length xs → AreNext (ps ++ qs) (length slots) → AreNext qs (length (filled ps xs slots))
next_back [] qs [] slots long next = next
next_back [] qs (x ∷ xs) slots long next = absurd (omega (arith, long))
next_back (p ∷ ps) qs [] slots long next = absurd (omega (arith, long))
next_back (p ∷ ps) qs (x ∷ xs) slots long next =
    next_back ps qs xs (with_frame p x slots) (omega (arith, long)) (subst (AreNext (ps ++ qs)) (sym (length-with_frame p x slots next.0)) next.2)
