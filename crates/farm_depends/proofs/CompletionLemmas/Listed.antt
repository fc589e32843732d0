-- Blocked frames that came to wait in no unmet group: those that the graph lists are those that open.
use Rattle.std.proofs.Common.{◌≡◌, ◌≢◌, ℕ, zero, suc, ◌+◌, ◌≤◌, ◌<◌, Bool, true, false, cond, ◌&&◌, eqb, ltb, List, [], ◌∷◌, length, Option, Some, refl, sym, ap, subst, ◌∙◌, zero-add, ◌⊎◌, inl, inr, arith}
use Rattle.std.specs.List.{filter, slice_get}
use Rattle.std.proofs.lemmas.Bool.{and_left, and_right, eq-eqb, eqb-false, eqb-true, lt-ltb, or_left, or_right}
use Rattle.std.proofs.lemmas.Map.Views.{any-filter_same}
use Rattle.std.proofs.lemmas.Option.{slice_get_past, slice_get_within}
use Rattle.farm_types.specs.declared.limits.TheConstants.{SLOT_LIMIT}
use Rattle.farm_types.specs.declared.slot_row.SlotRow.{SlotRow}
use Rattle.farm_types.specs.Depends.{is_open}
use Rattle.farm_types.specs.Farm.{Farm, for_some}
use Rattle.farm_types.specs.Settle.{count_opened, is_blocked, opens}
use Rattle.farm_types.proofs.Changed.{places}
use Rattle.farm_types.proofs.Lists.{for_some_true}
use Rattle.depend_graph.specs.Graph.{Watch, has_opened, numbers_from, opened_between, unmet_of}
use Rattle.depend_book.specs.Book.{DependLists, IsBook, joined}
use Rattle.depend_book.specs.Fits.{Fits}
use Rattle.farm_depends.specs.Follow.{is_listed}
use Rattle.depend_book.proofs.OpenUnmet.{open_unmet}

-- the frame in the slot is blocked
abbrev pub blocked_in : List SlotRow → ℕ → Bool
blocked_in slots slot = for_some (slice_get slots slot) (λ (s : SlotRow). for_some s.frame (λ x. is_blocked x.state))

-- ---- the graph's list

and_one : (b : Bool) → (b && true) ≡ b
and_one true = refl
and_one false = refl

numbered_step : (n from slot : ℕ) → (from ≡ slot) ⊎ (from ≢ slot) → (from ≢ slot → is_listed (numbers_from n (from + 1)) slot ≡ true) → is_listed (numbers_from (suc n) from) slot ≡ true
numbered_step n from slot (inl e) later = or_left (eqb from slot) (is_listed (numbers_from n (from + 1)) slot) (eq-eqb from slot e)
numbered_step n from slot (inr apart) later = or_right (eqb from slot) (is_listed (numbers_from n (from + 1)) slot) (later apart)

numbered : (n from slot : ℕ) → from ≤ slot → slot < from + n → is_listed (numbers_from n from) slot ≡ true
numbered zero from slot low high = absurd (omega arith)
numbered (suc n) from slot low high =
    numbered_step n from slot (places from slot) (λ apart. numbered n (from + 1) slot (omega (arith, low, apart)) (omega (arith, high)))

between_by : (h : ℕ → Bool) (slot n : ℕ) → slot < n → is_listed (filter h (numbers_from n 0)) slot ≡ h slot
between_by h slot n within =
    any-filter_same (λ k. eqb k slot) h (h slot) (λ k e. ap h (eqb-true k slot e)) (numbers_from n 0)
    ∙ (ap (λ (b : Bool). h slot && b) (numbered n 0 slot (omega arith) (omega (arith, within))) ∙ and_one (h slot))

listed_between : (olds news : List Watch) (slot : ℕ) → slot < SLOT_LIMIT → is_listed (opened_between olds news) slot ≡ has_opened olds news slot
unfolding opened_between
listed_between olds news slot within = between_by (has_opened olds news) slot SLOT_LIMIT within

-- those of them that are blocked
listed_is : (slots : List SlotRow) (olds news : List Watch) (slot : ℕ) → slot < SLOT_LIMIT → is_listed (filter (blocked_in slots) (opened_between olds news)) slot ≡ (blocked_in slots slot && has_opened olds news slot)
listed_is slots olds news slot within =
    any-filter_same (λ k. eqb k slot) (blocked_in slots) (blocked_in slots slot) (λ k e. ap (blocked_in slots) (eqb-true k slot e)) (opened_between olds news)
    ∙ ap (λ (b : Bool). blocked_in slots slot && b) (listed_between olds news slot within)

-- ---- what opens

positive : (n : ℕ) → eqb n 0 ≡ false → ltb 0 n ≡ true
positive n is = let apart : n ≢ 0 = eqb-false n 0 is in lt-ltb 0 n (omega (arith, apart))

without_test : (a l z : Bool) → (a ≡ true → l ≡ true) → (a && (l && z)) ≡ (a && z)
without_test true l z h = ap (λ (b : Bool). b && z) (h refl)
without_test false l z h = refl

-- ---- how many

twice_step : (p q : ℕ → Bool) (x : ℕ) (b : Bool) (xs ys : List ℕ) → filter p xs ≡ ys → filter p (cond b (x ∷ xs) xs) ≡ cond (p x && b) (x ∷ ys) ys
twice_step p q x true xs ys rest = ap (λ (zs : List ℕ). cond (p x) (x ∷ zs) zs) rest ∙ ap (λ (c : Bool). cond c (x ∷ ys) ys) (sym (and_one (p x)))
twice_step p q x false xs ys rest = rest ∙ ap (λ (c : Bool). cond c (x ∷ ys) ys) (sym (and_right (p x) false refl))

pub filter_twice : (p q : ℕ → Bool) (xs : List ℕ) → filter p (filter q xs) ≡ filter (λ x. p x && q x) xs
filter_twice p q [] = refl
filter_twice p q (x ∷ xs) = twice_step p q x (q x) (filter q xs) (filter (λ y. p y && q y) xs) (filter_twice p q xs)

none_from : (r : ℕ → Bool) (n from : ℕ) → ((k : ℕ) → from ≤ k → r k ≡ false) → length (filter r (numbers_from n from)) ≡ 0
none_from r zero from none = refl
none_from r (suc n) from none =
    ap (λ (b : Bool). length (cond b (from ∷ filter r (numbers_from n (from + 1))) (filter r (numbers_from n (from + 1))))) (none from (omega arith))
    ∙ none_from r n (from + 1) (λ k above. none k (omega (arith, above)))

length_step : (b : Bool) (x : ℕ) (xs : List ℕ) → length (cond b (x ∷ xs) xs) ≡ cond b 1 0 + length xs
length_step true x xs = omega arith
length_step false x xs = omega arith

count_from : (r : ℕ → Bool) (f : Farm) (slots : List SlotRow) (n from : ℕ) → length slots ≤ n → ((i p : ℕ) (s : SlotRow) → slice_get slots i ≡ Some s → p ≡ from + i → r p ≡ opens f p s)
    → ((k : ℕ) → from + length slots ≤ k → r k ≡ false) → count_opened f from slots ≡ length (filter r (numbers_from n from))
count_from r f [] n from few each beyond = sym (none_from r n from (λ k above. beyond k (omega (arith, above))))
count_from r f (s ∷ ss) zero from few each beyond = absurd (omega arith)
count_from r f (s ∷ ss) (suc n) from few each beyond =
    let rest = count_from r f ss n (from + 1) (omega (arith, few)) (λ i p t at e. each (suc i) p t at (omega (arith, e))) (λ k above. beyond k (omega (arith, above))) in
    sym (length_step (r from) from (filter r (numbers_from n (from + 1)))
    ∙ (ap (λ (b : Bool). cond b 1 0 + length (filter r (numbers_from n (from + 1)))) (each 0 from s refl (omega arith))
    ∙ ap (λ (m : ℕ). cond (opens f from s) 1 0 + m) (sym rest)))

counted_by : (p q : ℕ → Bool) (f : Farm) (slots : List SlotRow) (n : ℕ) → length slots ≤ n → ((slot : ℕ) → length slots ≤ slot → p slot ≡ false) → ((slot : ℕ) (s : SlotRow) → slice_get slots slot ≡ Some s → (p slot && q slot) ≡ opens f slot s)
    → count_opened f 0 slots ≡ length (filter p (filter q (numbers_from n 0)))
counted_by p q f slots n few beyond each =
    count_from (λ k. p k && q k) f slots n 0 few
    (λ i p' s at e. subst (λ (k : ℕ). (p k && q k) ≡ opens f k s) (sym (e ∙ zero-add i)) (each i s at))
    (λ k above. and_left (p k) (q k) (beyond k (omega (arith, above))))
    ∙ ap length (sym (filter_twice p q (numbers_from n 0)))

not_past : (slots : List SlotRow) (slot : ℕ) → length slots ≤ slot → blocked_in slots slot ≡ false
not_past slots slot past = ap (λ (o : Option SlotRow). for_some o (λ (s : SlotRow). for_some s.frame (λ x. is_blocked x.state))) (slice_get_past slots slot past)

-- ---- what opens of a list of slots

module _ (slots : List SlotRow) (olds news : List Watch) (f : Farm)
    (shut : (slot : ℕ) → blocked_in slots slot ≡ true → eqb (unmet_of olds slot) 0 ≡ false)
    (open_now : (slot : ℕ) → is_open f slot ≡ eqb (unmet_of news slot) 0) where
  -- a blocked frame that waited in unmet groups, and waits in none now, opens
  opens_is : (slot : ℕ) (s : SlotRow) → slice_get slots slot ≡ Some s → (blocked_in slots slot && has_opened olds news slot) ≡ opens f slot s
  opens_is slot s at =
      without_test (blocked_in slots slot) (ltb 0 (unmet_of olds slot)) (eqb (unmet_of news slot) 0) (λ h. positive (unmet_of olds slot) (shut slot h))
      ∙ (ap (λ (o : Option SlotRow). for_some o (λ (t : SlotRow). for_some t.frame (λ x. is_blocked x.state)) && eqb (unmet_of news slot) 0) at
      ∙ ap (λ (b : Bool). for_some s.frame (λ x. is_blocked x.state) && b) (sym (open_now slot)))

  module _ (few : length slots ≤ SLOT_LIMIT) where
    pub listed_opens : (slot : ℕ) (s : SlotRow) → slice_get slots slot ≡ Some s → is_listed (filter (blocked_in slots) (opened_between olds news)) slot ≡ opens f slot s
    listed_opens slot s at = listed_is slots olds news slot (omega (arith, slice_get_within slots slot s at, few)) ∙ opens_is slot s at

    -- and they are as many
    pub listed_count : count_opened f 0 slots ≡ length (filter (blocked_in slots) (opened_between olds news))
    unfolding opened_between
    listed_count = counted_by (blocked_in slots) (has_opened olds news) f slots SLOT_LIMIT few (not_past slots) opens_is

-- ---- blocked frames of a farm that is settled

-- a blocked frame waits in an unmet group
pub blocked_waits : (f : Farm) (b : DependLists) → IsBook b → Fits f b → ((slot : ℕ) (s : SlotRow) → slice_get f.slots slot ≡ Some s → opens (joined f b) slot s ≡ false)
    → (slot : ℕ) → blocked_in f.slots slot ≡ true → eqb (unmet_of b.graph.depends slot) 0 ≡ false
blocked_waits f b book fits closed slot h =
    let s = for_some_true (slice_get f.slots slot) (λ (t : SlotRow). for_some t.frame (λ x. is_blocked x.state)) h in
    sym (open_unmet f b book fits slot) ∙ (sym (ap (λ (c : Bool). c && is_open (joined f b) slot) s.2) ∙ closed slot s.0 s.1)
