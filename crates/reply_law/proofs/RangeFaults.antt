-- The section that a range's fault names is one of the range's.
use Rattle.std.proofs.Common.{◌≡◌, ◌≤◌, ◌⊎◌, inl, inr, ℕ, ◌+◌, ℤ, Bool, true, false, cond, List, [], ◌∷◌, ◌++◌, length, length-append, Option, Some, None, Result, Ok, Err, refl, sym, ap, subst, arith}
use Rattle.std.specs.Prelude.{nat_lt}
use Rattle.std.proofs.lemmas.Option.{none-some, same_Some}
use Rattle.frame_range.specs.declared.fault.RangeFault.{RangeFault}
use Rattle.frame_range.specs.declared.fault.RangeFault.TheVariants.{Syntax, OutOfRange, ZeroStep, WrongWay, Empty, TooMany, NoMemory}
use Rattle.frame_range.specs.declared.limits.TheConstants.{MOST_NUMBERS}
use Rattle.frame_range.specs.declared.section.Section.{Section}
use Rattle.frame_range.specs.Checks.{goes_wrong_way, has_past, has_zero_step}
use Rattle.frame_range.specs.Places.{with_all}
use Rattle.frame_range.specs.Sections.{section_at, trimmed}
use Rattle.frame_range.specs.Sets.{◌>>=◌, add_section, fault_of, is_comma, is_nil, numbers_of, onto_first, pieces, sections_from, set_of, with_section}
use Rattle.frame_range.specs.Steps.{section_numbers}
use Rattle.farm_types.specs.declared.limits.TheConstants.{MOST_RANGE}
use Rattle.farm_types.specs.Limits.{IsBetween}
use Rattle.farm_lines.specs.FormedLines.{IsFormedFault}
use Rattle.reply_law.proofs.Saying.{Says, says_weaker}

-- the section is one of the first so many
abbrev IsOf : ℕ → RangeFault → Type 0
IsOf most (Syntax section) = IsBetween 1 most section
IsOf most (OutOfRange section) = IsBetween 1 most section
IsOf most (ZeroStep section) = IsBetween 1 most section
IsOf most (WrongWay section) = IsBetween 1 most section
IsOf most (Empty section) = IsBetween 1 most section
IsOf most (TooMany section) = IsBetween 1 most section
IsOf most NoMemory = ⊥

fault_by : (most place : ℕ) (past zero_step wrong none many : Bool) (fault : RangeFault) → IsBetween 1 most place
    → cond past (Some (OutOfRange place)) (cond zero_step (Some (ZeroStep place)) (cond wrong (Some (WrongWay place)) (cond none (Some (Empty place)) (cond many (Some (TooMany place)) None)))) ≡ Some fault → IsOf most fault
fault_by most place true z w n m fault within is = subst (IsOf most) (same_Some (OutOfRange place) fault is) within
fault_by most place false true w n m fault within is = subst (IsOf most) (same_Some (ZeroStep place) fault is) within
fault_by most place false false true n m fault within is = subst (IsOf most) (same_Some (WrongWay place) fault is) within
fault_by most place false false false true m fault within is = subst (IsOf most) (same_Some (Empty place) fault is) within
fault_by most place false false false false true fault within is = subst (IsOf most) (same_Some (TooMany place) fault is) within
fault_by most place false false false false false fault within is = absurd (none-some fault is)

fault_is : (most place : ℕ) (listed : List ℤ) (s : Section) (fault : RangeFault) → IsBetween 1 most place → fault_of place listed s ≡ Some fault → IsOf most fault
unfolding fault_of
fault_is most place listed s fault within is =
    fault_by most place (has_past s) (has_zero_step s) (goes_wrong_way s) (is_nil (section_numbers s)) (nat_lt MOST_NUMBERS (length (with_all listed (section_numbers s)))) fault within is

-- the next step over what the first one gives, or its fault
step : {A B : Type 0} (F : RangeFault → Type 0) (P : A → Type 0) (Q : B → Type 0) (r : Result A RangeFault) (k : A → Result B RangeFault) → Says F P r → ((x : A) → P x → Says F Q (k x)) → Says F Q (r >>= k)
step F P Q (Ok x) k first next = next x first
step F P Q (Err fault) k first next = first

-- one section more
abbrev IsLonger : List Section → List Section → Type 0
IsLonger before now = length now ≡ length before + 1

judged : (most : ℕ) (before : List Section) (s : Section) (o : Option RangeFault) → fault_of (length before + 1) (numbers_of before) s ≡ o → length before + 1 ≤ most
    → Says (IsOf most) (IsLonger before) (elim o [ None ↦ Ok (before ++ s ∷ []) | Some fault ↦ Err fault ])
judged most before s None is few = length-append before (s ∷ [])
judged most before s (Some fault) is few = fault_is most (length before + 1) (numbers_of before) s fault (omega arith, few) is

added : (most : ℕ) (before : List Section) (o : Option Section) → length before + 1 ≤ most → Says (IsOf most) (IsLonger before) (with_section before o)
added most before None few = (omega arith, few)
added most before (Some s) few = judged most before s (fault_of (length before + 1) (numbers_of before) s) refl few

one_added : (most : ℕ) (before : List Section) (text : List ℕ) → length before + 1 ≤ most → Says (IsOf most) (IsLonger before) (add_section before text)
unfolding add_section
one_added most before text few = added most before (section_at (trimmed text)) few

-- the sections of so many texts
all_added : (most : ℕ) (before : List Section) (texts : List (List ℕ)) → length before + length texts ≤ most → Says (IsOf most) (λ now. Unit {0}) (sections_from before texts)
all_added most before [] few = tt
all_added most before (text ∷ texts) few =
    step (IsOf most) (IsLonger before) (λ now. Unit {0}) (add_section before text) (λ now. sections_from now texts) (one_added most before text (omega (arith, few)))
    (λ now longer. all_added most now texts (omega (arith, longer, few)))

-- ---- the texts between commas

-- the first text is empty, or there are no more texts than bytes
record ArePieces (text : List ℕ) (texts : List (List ℕ)) : Type 0 where
  first : List ℕ
  rest : List (List ℕ)
  are : texts ≡ first ∷ rest
  few : length rest ≤ length text
  fewer : (first ≡ []) ⊎ (length rest + 1 ≤ length text)

pieces_by : (b : ℕ) (bs : List ℕ) (comma : Bool) (texts : List (List ℕ)) → ArePieces bs texts → ArePieces (b ∷ bs) (cond comma ([] ∷ texts) (onto_first b texts))
pieces_by b bs true texts p = record { first = []; rest = texts; are = refl; few = omega (arith, ap length p.are, p.few); fewer = inl refl }
pieces_by b bs false texts p =
    record { first = b ∷ p.first; rest = p.rest; are = ap (onto_first b) p.are; few = omega (arith, p.few); fewer = inr (omega (arith, p.few)) }

are_pieces : (text : List ℕ) → ArePieces text (pieces text)
are_pieces [] = record { first = []; rest = []; are = refl; few = omega arith; fewer = inl refl }
are_pieces (b ∷ bs) = pieces_by b bs (is_comma b) (pieces bs) (are_pieces bs)

-- ---- a range

empty_first : (most : ℕ) (texts : List (List ℕ)) → 1 ≤ most → Says (IsOf most) (λ now. Unit {0}) (sections_from [] ([] ∷ texts))
unfolding add_section section_at
empty_first most texts some = (omega arith, some)

set_by : (text : List ℕ) (p : ArePieces text (pieces text)) → length text ≤ MOST_RANGE → Says (IsOf MOST_RANGE) (λ now. Unit {0}) (sections_from [] (p.first ∷ p.rest))
set_by text p short = by p.first p.fewer
  where
    by : (first : List ℕ) → (first ≡ []) ⊎ (length p.rest + 1 ≤ length text) → Says (IsOf MOST_RANGE) (λ now. Unit {0}) (sections_from [] (first ∷ p.rest))
    by first (inl none) = subst (λ (t : List ℕ). Says (IsOf MOST_RANGE) (λ now. Unit {0}) (sections_from [] (t ∷ p.rest))) (sym none) (empty_first MOST_RANGE p.rest (omega arith))
    by first (inr few) = all_added MOST_RANGE [] (first ∷ p.rest) (omega (arith, few, short))

formed_fault : (fault : RangeFault) → IsOf MOST_RANGE fault → IsFormedFault fault
formed_fault (Syntax section) is = is
formed_fault (OutOfRange section) is = is
formed_fault (ZeroStep section) is = is
formed_fault (WrongWay section) is = is
formed_fault (Empty section) is = is
formed_fault (TooMany section) is = is
formed_fault NoMemory is = absurd is

pub set_says : (text : List ℕ) → length text ≤ MOST_RANGE → Says IsFormedFault (λ now. Unit {0}) (set_of text)
unfolding set_of
set_says text short =
    let p = are_pieces text in
    says_weaker (IsOf MOST_RANGE) IsFormedFault (λ now. Unit {0}) formed_fault (sections_from [] (pieces text))
    (subst (λ (ts : List (List ℕ)). Says (IsOf MOST_RANGE) (λ now. Unit {0}) (sections_from [] ts)) (sym p.are) (set_by text p short))
