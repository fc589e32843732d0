-- A frame that isn't done any more: its flag is cleared, and nothing else of the book of depends changes.
use Rattle.std.proofs.Common.{◌≡◌, ◌≢◌, ℕ, ◌<◌, ◌&&◌, not, Bool, true, false, eqb, List, length, Option, None, Some, refl, sym, ap, ◌∙◌, ◌⊎◌, inl, inr, arith}
use Rattle.std.specs.List.{slice_get, slice_set}
use Rattle.std.proofs.Math.ListN.{length-set}
use Rattle.std.proofs.lemmas.Bool.{and_right, eq-eqb, false≢true, ne_eqb}
use Rattle.std.proofs.lemmas.Option.{slice_get_within}
use Rattle.farm_types.specs.Farm.{for_some}
use Rattle.farm_types.proofs.Changed.{slice_get-set_other, slice_get-set_same}
use Rattle.farm_types.proofs.Lists.{slice_get_below}
use Rattle.depend_graph.specs.Graph.{is_flagged}
use Rattle.depend_book.specs.Book.{DependLists, IsBook, done_in}

pub and_one : (b : Bool) → (b && true) ≡ b
and_one true = refl
and_one false = refl

-- ---- flags

-- a flag that is set is within
pub flagged_within : (flags : List Bool) (slot : ℕ) (o : Option Bool) → slice_get flags slot ≡ o → for_some o (λ flag. flag) ≡ true → slot < length flags
flagged_within flags slot None at is = absurd (false≢true is)
flagged_within flags slot (Some flag) at is = slice_get_within flags slot flag at

-- the slot's own flag
flag_gone : (flags : List Bool) (s : ℕ) (b : Bool) → is_flagged (slice_set flags s false) s ≡ b → is_flagged (slice_set flags s false) s ≡ false
flag_gone flags s false is = is
flag_gone flags s true is =
    let within : s < length (slice_set flags s false) = flagged_within (slice_set flags s false) s (slice_get (slice_set flags s false) s) refl is in
    let there = slice_get_below flags s (omega (arith, within, length-set flags s false)) in
    ap (λ (o : Option Bool). for_some o (λ flag. flag)) (slice_get-set_same flags s there.0 false there.1)

-- exactly the others stay
pub flag_cleared : (flags : List Bool) (s slot : ℕ) → (slot ≡ s) ⊎ (slot ≢ s) → is_flagged (slice_set flags s false) slot ≡ (is_flagged flags slot && not (eqb s slot))
flag_cleared flags s slot (inl e) =
    ap (is_flagged (slice_set flags s false)) e
    ∙ (flag_gone flags s (is_flagged (slice_set flags s false) s) refl ∙ sym (and_right (is_flagged flags slot) (not (eqb s slot)) (ap not (eq-eqb s slot (sym e)))))
flag_cleared flags s slot (inr apart) =
    ap (λ (o : Option Bool). for_some o (λ flag. flag)) (slice_get-set_other flags s slot false apart)
    ∙ sym (ap (λ (b : Bool). is_flagged flags slot && not b) (ne_eqb s slot (λ e. apart (sym e))) ∙ and_one (is_flagged flags slot))

-- ---- the book

-- the book without the flag
abbrev pub cleared : DependLists → ℕ → DependLists
cleared b slot = record b { graph = record b.graph { done = slice_set b.graph.done slot false } }

pub cleared_is : (b : DependLists) (slot : ℕ) → IsBook b → done_in b slot false ≡ cleared b slot
cleared_is b slot book i = record (cleared b slot) { rows = book.rows_are i }

pub cleared_book : (b : DependLists) (slot : ℕ) → IsBook b → IsBook (cleared b slot)
cleared_book b slot book =
    record {
      flags = length-set b.graph.done slot false ∙ book.flags;
      numbers = book.numbers;
      rows_are = book.rows_are;
      rise = book.rise;
      next_within = book.next_within;
      count = book.count;
      groups_within = book.groups_within;
    }
