-- Adding a section, test by test.
use Rattle.std.proofs.Common.{◌≡◌, ℕ, suc, ◌+◌, ◌<◌, ◌≤◌, min, List, [], ◌∷◌, ◌++◌, length, Bool, true, false, refl, sym, ap, ◌∙◌, arith, true≢false, ⊎_elim}
use Rattle.std.specs.Prelude.{ℤ, pos, negsuc, Option, Some, None, Result, Ok, Err, ◌||◌, nat_lt}
use Rattle.std.specs.Option.{option_map}
use Rattle.std.specs.List.{flat_map}
use Rattle.std.proofs.lemmas.Bool.{cases_lt, lt-ltb, le-ltb, ltb-false}
use Rattle.std.proofs.lemmas.List.{append_assoc, append-nil, length_push}
use Rattle.frame_range.specs.declared.section.Section.{Section}
use Rattle.frame_range.specs.declared.section.Section.TheVariants.{Single, Range, Stepped, Inverse, Interleaved}
use Rattle.frame_range.specs.declared.fault.RangeFault.{RangeFault}
use Rattle.frame_range.specs.declared.fault.RangeFault.TheVariants.{Syntax, OutOfRange, ZeroStep, WrongWay, Empty, TooMany}
use Rattle.frame_range.specs.Capped.{capped, capped_section}
use Rattle.frame_range.specs.Checks.{any_past, has_past, has_zero_step, goes_wrong_way}
use Rattle.frame_range.specs.Number.{is_past}
use Rattle.frame_range.specs.Places.{with_all}
use Rattle.frame_range.specs.Sections.{trimmed, section_at}
use Rattle.frame_range.specs.Sets.{numbers_of, is_nil, fault_of, with_section, add_section, fault_from, IsFaultless}
use Rattle.frame_range.specs.Steps.{section_numbers}
use Rattle.frame_range.proofs.StepLemmas.{with_all-append}
use Rattle.frame_range.specs.declared.limits.TheConstants.{CAP, GREATEST, MOST_NUMBERS}

-- ---- numbers that are capped

capped-past : (z : ℤ) → is_past (capped z) ≡ is_past z
capped-past (pos n) =
    ⊎_elim
    (λ (past : GREATEST < n). lt-ltb GREATEST (min n CAP) (omega arith) ∙ sym (lt-ltb GREATEST n past))
    (λ (low : n ≤ GREATEST). le-ltb GREATEST (min n CAP) (omega arith) ∙ sym (le-ltb GREATEST n low))
    (cases_lt GREATEST n)
capped-past (negsuc n) =
    ⊎_elim
    (λ (past : GREATEST < suc n). lt-ltb GREATEST (suc (min n GREATEST)) (omega arith) ∙ sym (lt-ltb GREATEST (suc n) past))
    (λ (low : suc n ≤ GREATEST). le-ltb GREATEST (suc (min n GREATEST)) (omega arith) ∙ sym (le-ltb GREATEST (suc n) low))
    (cases_lt GREATEST (suc n))

capped_same : (z : ℤ) → is_past z ≡ false → capped z ≡ z
capped_same (pos n) h = let low : min n CAP ≡ n = omega (arith, ltb-false GREATEST n h) in ap pos low
capped_same (negsuc n) h = let low : min n GREATEST ≡ n = omega (arith, ltb-false GREATEST (suc n) h) in ap negsuc low

or_same : (a b c d : Bool) → a ≡ c → b ≡ d → (a || b) ≡ (c || d)
or_same a b c d p q = ap (λ (x : Bool). x || b) p ∙ ap (λ (x : Bool). c || x) q

any_same : (a b c : ℤ) → any_past (capped a) (capped b) (capped c) ≡ any_past a b c
any_same a b c = or_same _ _ _ _ (or_same _ _ _ _ (capped-past a) (capped-past b)) (capped-past c)

-- a section with its numbers capped is out of range where it is
section_past : (s : Section) → has_past (capped_section s) ≡ has_past s
section_past (Single number) = capped-past number
section_past (Range first last) = or_same _ _ _ _ (capped-past first) (capped-past last)
section_past (Stepped first last step) = any_same first last step
section_past (Inverse first last step) = any_same first last step
section_past (Interleaved first last step) = any_same first last step

neither : (a b : Bool) → (a || b) ≡ false → (a ≡ false) × (b ≡ false)
neither true b h = absurd (true≢false h)
neither false b h = (refl, h)

three_same : (f : ℤ → ℤ → ℤ → Section) (a b c : ℤ) → any_past a b c ≡ false → f (capped a) (capped b) (capped c) ≡ f a b c
three_same f a b c h =
    let outer = neither (is_past a || is_past b) (is_past c) h in
    let inner = neither (is_past a) (is_past b) outer.0 in
    ap (λ (z : ℤ). f z (capped b) (capped c)) (capped_same a inner.0)
    ∙ ap (λ (z : ℤ). f a z (capped c)) (capped_same b inner.1)
    ∙ ap (λ (z : ℤ). f a b z) (capped_same c outer.1)

-- and is the section itself where it isn't
section_same : (s : Section) → has_past s ≡ false → capped_section s ≡ s
section_same (Single number) h = ap Single (capped_same number h)
section_same (Range first last) h =
    let both = neither (is_past first) (is_past last) h in
    ap (λ (z : ℤ). Range z (capped last)) (capped_same first both.0) ∙ ap (λ (z : ℤ). Range first z) (capped_same last both.1)
section_same (Stepped first last step) h = three_same (λ x y z. Stepped x y z) first last step h
section_same (Inverse first last step) h = three_same (λ x y z. Inverse x y z) first last step h
section_same (Interleaved first last step) h = three_same (λ x y z. Interleaved x y z) first last step h

read_none : (o : Option Section) → None ≡ option_map capped_section o → o ≡ None
read_none None h = refl
read_none (Some s) h = absurd (cc)

read_past : (o : Option Section) (r : Section) → Some r ≡ option_map capped_section o → has_past r ≡ true → (s : Section) × (o ≡ Some s) × (has_past s ≡ true)
read_past None r h past = absurd (cc)
read_past (Some s) r h past = let same : r ≡ capped_section s = cc in (s, refl, sym (section_past s) ∙ ap has_past (sym same) ∙ past)

read_same : (o : Option Section) (r : Section) → Some r ≡ option_map capped_section o → has_past r ≡ false → o ≡ Some r
read_same None r h low = absurd (cc)
read_same (Some s) r h low =
    let same : r ≡ capped_section s = cc in
    ap (λ (x : Section). Some x) (sym (section_same s (sym (section_past s) ∙ ap has_past (sym same) ∙ low)) ∙ sym same)

-- ---- the answer for each fault

with_fault : (before : List Section) (s : Section) (place : ℕ) (fault : RangeFault) → place ≡ length before + 1 →
    fault_of place (numbers_of before) s ≡ Some fault → with_section before (Some s) ≡ Err fault
with_fault before s place fault at h =
    ap (λ (o : Option RangeFault). elim o as (λ _. Result (List Section) RangeFault) [ None ↦ Ok (before ++ s ∷ []) | Some f ↦ Err f ]) (ap (λ (n : ℕ). fault_of n (numbers_of before) s) (sym at) ∙ h)

pub with_none : (before : List Section) (s : Section) (place : ℕ) → place ≡ length before + 1 →
    fault_of place (numbers_of before) s ≡ None → with_section before (Some s) ≡ Ok (before ++ s ∷ [])
with_none before s place at h =
    ap (λ (o : Option RangeFault). elim o as (λ _. Result (List Section) RangeFault) [ None ↦ Ok (before ++ s ∷ []) | Some f ↦ Err f ]) (ap (λ (n : ℕ). fault_of n (numbers_of before) s) (sym at) ∙ h)

pub add_none : (before : List Section) (text : List ℕ) (place : ℕ) → place ≡ length before + 1 → None ≡ option_map capped_section (section_at (trimmed text)) →
    add_section before text ≡ Err (Syntax place)
unfolding add_section
add_none before text place at h =
    ap (with_section before) (read_none (section_at (trimmed text)) h) ∙ ap (λ (n : ℕ). Err (Syntax n)) (sym at)

fault_past : (place : ℕ) (listed : List ℤ) (s : Section) → has_past s ≡ true → fault_of place listed s ≡ Some (OutOfRange place)
unfolding fault_of
fault_past place listed s p = rw p refl

pub add_past : (before : List Section) (text : List ℕ) (place : ℕ) (r : Section) → place ≡ length before + 1 → Some r ≡ option_map capped_section (section_at (trimmed text)) →
    has_past r ≡ true → add_section before text ≡ Err (OutOfRange place)
unfolding add_section
add_past before text place r at h past =
    let found = read_past (section_at (trimmed text)) r h past in
    ap (with_section before) found.1 ∙ with_fault before found.0 place (OutOfRange place) at (fault_past place (numbers_of before) found.0 found.2)

-- the section that is read has this fault
pub add_fault : (before : List Section) (text : List ℕ) (place : ℕ) (r : Section) (fault : RangeFault) → place ≡ length before + 1 → Some r ≡ option_map capped_section (section_at (trimmed text)) →
    has_past r ≡ false → fault_of place (numbers_of before) r ≡ Some fault → add_section before text ≡ Err fault
unfolding add_section
add_fault before text place r fault at h low f =
    ap (with_section before) (read_same (section_at (trimmed text)) r h low) ∙ with_fault before r place fault at f

-- the section that is read has no fault
pub add_done : (before : List Section) (text : List ℕ) (place : ℕ) (r : Section) → place ≡ length before + 1 → Some r ≡ option_map capped_section (section_at (trimmed text)) →
    has_past r ≡ false → fault_of place (numbers_of before) r ≡ None → add_section before text ≡ Ok (before ++ r ∷ [])
unfolding add_section
add_done before text place r at h low f =
    ap (with_section before) (read_same (section_at (trimmed text)) r h low) ∙ with_none before r place at f

pub fault_zero : (place : ℕ) (listed : List ℤ) (s : Section) → has_past s ≡ false → has_zero_step s ≡ true → fault_of place listed s ≡ Some (ZeroStep place)
unfolding fault_of
fault_zero place listed s p q = rw (p, q) refl

pub fault_wrong : (place : ℕ) (listed : List ℤ) (s : Section) → has_past s ≡ false → has_zero_step s ≡ false → goes_wrong_way s ≡ true → fault_of place listed s ≡ Some (WrongWay place)
unfolding fault_of
fault_wrong place listed s p q r = rw (p, q, r) refl

pub fault_empty : (place : ℕ) (listed : List ℤ) (s : Section) → has_past s ≡ false → has_zero_step s ≡ false → goes_wrong_way s ≡ false →
    is_nil (section_numbers s) ≡ true → fault_of place listed s ≡ Some (Empty place)
unfolding fault_of
fault_empty place listed s p q r t = rw (p, q, r, t) refl

pub fault_many : (place : ℕ) (listed : List ℤ) (s : Section) → has_past s ≡ false → has_zero_step s ≡ false → goes_wrong_way s ≡ false →
    is_nil (section_numbers s) ≡ false → MOST_NUMBERS < length (with_all listed (section_numbers s)) → fault_of place listed s ≡ Some (TooMany place)
unfolding fault_of
fault_many place listed s p q r t many =
    let test : nat_lt MOST_NUMBERS (length (with_all listed (section_numbers s))) ≡ true = lt-ltb MOST_NUMBERS (length (with_all listed (section_numbers s))) many in
    rw (p, q, r, t, test) refl

pub fault_none : (place : ℕ) (listed : List ℤ) (s : Section) → has_past s ≡ false → has_zero_step s ≡ false → goes_wrong_way s ≡ false →
    is_nil (section_numbers s) ≡ false → length (with_all listed (section_numbers s)) ≤ MOST_NUMBERS → fault_of place listed s ≡ None
unfolding fault_of
fault_none place listed s p q r t few =
    let test : nat_lt MOST_NUMBERS (length (with_all listed (section_numbers s))) ≡ false = le-ltb MOST_NUMBERS (length (with_all listed (section_numbers s))) few in
    rw (p, q, r, t, test) refl

-- ---- the sections and numbers afterwards

flat_map_push : (ss : List Section) (s : Section) → flat_map section_numbers (ss ++ s ∷ []) ≡ flat_map section_numbers ss ++ (section_numbers s ++ [])
flat_map_push [] s = refl
flat_map_push (x ∷ xs) s = ap (λ (l : List ℤ). section_numbers x ++ l) (flat_map_push xs s) ∙ sym (append_assoc (section_numbers x) (flat_map section_numbers xs) (section_numbers s ++ []))

pub numbers_push : (ss : List Section) (s : Section) → numbers_of (ss ++ s ∷ []) ≡ with_all (numbers_of ss) (section_numbers s)
unfolding numbers_of
numbers_push ss s =
    ap (with_all []) (flat_map_push ss s ∙ ap (λ (l : List ℤ). flat_map section_numbers ss ++ l) (append-nil (section_numbers s)))
    ∙ with_all-append [] (flat_map section_numbers ss) (section_numbers s)

numbers_with : (ss : List Section) → with_all [] (flat_map section_numbers ss) ≡ numbers_of ss
unfolding numbers_of
numbers_with ss = refl

pub first_none : (o p : Option RangeFault) → elim o as (λ _. Option RangeFault) [ Some f ↦ Some f | None ↦ p ] ≡ None → (o ≡ None) × (p ≡ None)
first_none None p h = (refl, h)
first_none (Some f) p h = absurd (cc)

none_first : (o p : Option RangeFault) → o ≡ None → p ≡ None → elim o as (λ _. Option RangeFault) [ Some f ↦ Some f | None ↦ p ] ≡ None
none_first None p h k = k
none_first (Some f) p h k = absurd (cc)

fault_from-push : (place : ℕ) (listed : List ℤ) (ss : List Section) (s : Section) → fault_from place listed ss ≡ None →
    fault_of (place + length ss) (with_all listed (flat_map section_numbers ss)) s ≡ None → fault_from place listed (ss ++ s ∷ []) ≡ None
fault_from-push place listed [] s h f =
    let at : place ≡ place + 0 = omega arith in
    none_first (fault_of place listed s) None (ap (λ (n : ℕ). fault_of n listed s) at ∙ f) refl
fault_from-push place listed (x ∷ xs) s h f =
    let both = first_none (fault_of place listed x) (fault_from (place + 1) (with_all listed (section_numbers x)) xs) h in
    let at : (place + 1) + length xs ≡ place + suc (length xs) = omega arith in
    none_first (fault_of place listed x) (fault_from (place + 1) (with_all listed (section_numbers x)) (xs ++ s ∷ [])) both.0
    (fault_from-push (place + 1) (with_all listed (section_numbers x)) xs s both.1
    (ap (λ (n : ℕ). fault_of n (with_all (with_all listed (section_numbers x)) (flat_map section_numbers xs)) s) at
    ∙ ap (λ (l : List ℤ). fault_of (place + suc (length xs)) l s) (sym (with_all-append listed (section_numbers x) (flat_map section_numbers xs)))
    ∙ f))

pub set_push : (ss : List Section) (s : Section) (place : ℕ) → place ≡ length ss + 1 → IsFaultless ss → fault_of place (numbers_of ss) s ≡ None → IsFaultless (ss ++ s ∷ [])
set_push ss s place at h f =
    let same : 1 + length ss ≡ place = omega arith in
    record {
      faultless = fault_from-push 1 [] ss s h.faultless
          (ap (λ (n : ℕ). fault_of n (with_all [] (flat_map section_numbers ss)) s) same ∙ ap (λ (l : List ℤ). fault_of place l s) (numbers_with ss) ∙ f);
    }

pub pushed_some : (ss : List Section) (s : Section) → 0 < length (ss ++ s ∷ [])
pushed_some ss s = omega (arith, length_push ss s)
