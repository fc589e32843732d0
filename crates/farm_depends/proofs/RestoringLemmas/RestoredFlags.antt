-- The flags of the frames that are done, set one after the other in a book of no depends.
use Rattle.std.proofs.Common.{◌≡◌, ◌≢◌, ◌<◌, ℕ, zero, suc, ◌+◌, Bool, true, false, cond, ◌&&◌, ◌||◌, eqb, List, [], ◌∷◌, map, length, replicate, take, Some, refl, sym, ap, subst, ◌∙◌, ◌⊎◌, inl, inr, arith}
use Rattle.std.specs.List.{slice_get, slice_set}
use Rattle.std.proofs.Math.ListN.{length-set}
use Rattle.std.proofs.lemmas.List.{length-replicate}
use Rattle.std.proofs.lemmas.Bool.{eq-eqb, ne_eqb}
use Rattle.std.proofs.lemmas.Option.{none-some, same_Some}
use Rattle.farm_types.specs.declared.limits.TheConstants.{SLOT_LIMIT}
use Rattle.farm_types.specs.declared.slot_row.SlotRow.{SlotRow}
use Rattle.farm_types.specs.Depends.{is_done}
use Rattle.farm_types.proofs.Changed.{places}
use Rattle.depend_graph.specs.Graph.{completed_in, is_flagged}
use Rattle.depend_book.specs.Book.{DependLists, done_in, no_depends, rows_of}
use Rattle.farm_books.specs.Books.{FarmBooks, depends_of, with_depends}
use Rattle.farm_depends.specs.Completing.{is_done_row}
use Rattle.farm_depends.specs.Restored.{IsFlagged, IsFlagging}
use Rattle.farm_depends.proofs.CompletionLemmas.Flags.{flag_set}

-- ---- one slot more

none_flagged : (n s : ℕ) → is_flagged (replicate n false) s ≡ is_done [] s
none_flagged zero zero = refl
none_flagged zero (suc s) = refl
none_flagged (suc n) zero = refl
none_flagged (suc n) (suc s) = none_flagged n s ∙ none_done s where
  none_done : (t : ℕ) → is_done [] t ≡ is_done [] (suc t)
  none_done zero = refl
  none_done (suc t) = refl

-- the first slots and one more
one_later : (k s : ℕ) → eqb (suc k) (suc s) ≡ eqb k s
one_later k s = by_place (places k s) where
  by_place : (k ≡ s) ⊎ (k ≢ s) → eqb (suc k) (suc s) ≡ eqb k s
  by_place (inl same) = eq-eqb (suc k) (suc s) (ap suc same) ∙ sym (eq-eqb k s same)
  by_place (inr apart) = ne_eqb (suc k) (suc s) (λ e. apart (omega (arith, e))) ∙ sym (ne_eqb k s apart)

or_off : (b : Bool) → b ≡ (b || false)
or_off true = refl
or_off false = refl

none_further : (s : ℕ) → is_done [] s ≡ false
none_further zero = refl
none_further (suc s) = refl

one_more : (slots : List SlotRow) (k : ℕ) (x : SlotRow) (s : ℕ) → slice_get slots k ≡ Some x → is_done (take (suc k) slots) s ≡ (is_done (take k slots) s || (eqb k s && is_done_row x))
one_more [] k x s at = absurd (none-some x at)
one_more (y ∷ ys) zero x zero at = ap is_done_row (same_Some y x at)
one_more (y ∷ ys) zero x (suc s) at = none_further s ∙ ap (λ b. false || (b && is_done_row x)) (sym (ne_eqb 0 (suc s) (λ e. absurd (omega (arith, e)))))
one_more (y ∷ ys) (suc k) x zero at = or_off (is_done_row y) ∙ ap (λ b. is_done_row y || (b && is_done_row x)) (sym (ne_eqb (suc k) 0 (λ e. absurd (omega (arith, e)))))
one_more (y ∷ ys) (suc k) x (suc s) at = one_more ys k x s at ∙ ap (λ b. is_done (take k ys) s || (b && is_done_row x)) (sym (one_later k s))

-- the frame at a place
pub done_at : (slots : List SlotRow) (k : ℕ) (x : SlotRow) → slice_get slots k ≡ Some x → is_done slots k ≡ is_done_row x
done_at [] k x at = absurd (none-some x at)
done_at (y ∷ ys) zero x at = ap is_done_row (same_Some y x at)
done_at (y ∷ ys) (suc k) x at = done_at ys k x at

-- ---- on the way

pub flags_begin : (slots : List SlotRow) (b : DependLists) → b ≡ no_depends → IsFlagging slots 0 b
flags_begin slots b is =
    record {
      rows = ap (λ (x : DependLists). x.rows) is;
      depends = ap (λ (x : DependLists). x.graph.depends) is;
      next = ap (λ (x : DependLists). x.next) is;
      flags_long = ap (λ (x : DependLists). length x.graph.done) is ∙ length-replicate {A = Bool} SLOT_LIMIT false;
      flags = λ s. ap (λ (x : DependLists). is_flagged x.graph.done s) is ∙ none_flagged SLOT_LIMIT s;
    }

module _ (slots : List SlotRow) (k : ℕ) (x : SlotRow) (b : DependLists) (at : slice_get slots k ≡ Some x) (low : k < SLOT_LIMIT) (so_far : IsFlagging slots k b) where
  next_flags : (flag : Bool) → is_done_row x ≡ flag → (s : ℕ) → is_flagged (cond flag (slice_set b.graph.done k true) b.graph.done) s ≡ is_done (take (suc k) slots) s
  next_flags true is s =
      flag_set b.graph.done k s (omega (arith, low, so_far.flags_long)) (places s k)
      ∙ ((λ i. so_far.flags s i || and_true (eqb k s) i) ∙ (ap (λ r. is_done (take k slots) s || (eqb k s && r)) (sym is) ∙ sym (one_more slots k x s at)))
    where
      and_true : (c : Bool) → c ≡ (c && true)
      and_true true = refl
      and_true false = refl
  next_flags false is s =
      so_far.flags s ∙ (or_none (is_done (take k slots) s) (eqb k s) ∙ (ap (λ r. is_done (take k slots) s || (eqb k s && r)) (sym is) ∙ sym (one_more slots k x s at)))
    where
      or_none : (a c : Bool) → a ≡ (a || (c && false))
      or_none true c = refl
      or_none false true = refl
      or_none false false = refl

  by_flag : (flag : Bool) → is_done_row x ≡ flag → IsFlagging slots (k + 1) (cond flag (done_in b k true) b)
  by_flag true is =
      let more : suc k ≡ k + 1 = omega arith in
      record {
        rows = (λ i. rows_of (so_far.rows i) (map (completed_in (slice_set b.graph.done k true) k) (so_far.depends i)));
        depends = ap (map (completed_in (slice_set b.graph.done k true) k)) so_far.depends;
        next = so_far.next;
        flags_long = length-set b.graph.done k true ∙ so_far.flags_long;
        flags = λ s. next_flags true is s ∙ ap (λ (m : ℕ). is_done (take m slots) s) more;
      }
  by_flag false is =
      let more : suc k ≡ k + 1 = omega arith in
      record {
        rows = so_far.rows;
        depends = so_far.depends;
        next = so_far.next;
        flags_long = so_far.flags_long;
        flags = λ s. next_flags false is s ∙ ap (λ (m : ℕ). is_done (take m slots) s) more;
      }

  pub flags_next : (flag : Bool) (new : DependLists) → flag ≡ is_done_row x → new ≡ cond flag (done_in b k true) b → IsFlagging slots (k + 1) new
  flags_next flag new is set = subst (IsFlagging slots (k + 1)) (sym set) (by_flag flag (sym is))

pub flags_end : (slots : List SlotRow) (k : ℕ) (b : DependLists) → take k slots ≡ slots → IsFlagging slots k b → IsFlagged slots b
flags_end slots k b all so_far =
    record {
      rows = so_far.rows;
      depends = so_far.depends;
      next = so_far.next;
      flags = λ s. so_far.flags s ∙ ap (λ (xs : List SlotRow). is_done xs s) all;
    }

-- ---- in the books

-- a frame's flag is set, if it is done
pub flag_then : (v : FarmBooks) (slot : ℕ) (flag : Bool) → depends_of (cond flag (with_depends v (done_in (depends_of v) slot true)) v) ≡ cond flag (done_in (depends_of v) slot true) (depends_of v)
flag_then v slot true = refl
flag_then v slot false = refl

-- where nothing but the depends has changed, nothing else has after it
pub rest_more : (first v new : FarmBooks) (b : DependLists) → v ≡ with_depends first (depends_of v) → new ≡ with_depends v b → new ≡ with_depends first (depends_of new)
rest_more first v new b rest is = is ∙ (ap (λ (w : FarmBooks). with_depends w b) rest ∙ ap (λ (w : FarmBooks). with_depends first (depends_of w)) (sym is))

rest_by : (first v : FarmBooks) (slot : ℕ) (flag : Bool) → v ≡ with_depends first (depends_of v) → cond flag (with_depends v (done_in (depends_of v) slot true)) v ≡ with_depends first (depends_of (cond flag (with_depends v (done_in (depends_of v) slot true)) v))
rest_by first v slot true rest = rest_more first v (with_depends v (done_in (depends_of v) slot true)) (done_in (depends_of v) slot true) rest refl
rest_by first v slot false rest = rest

pub rest_then : (first v new : FarmBooks) (slot : ℕ) (flag : Bool) → v ≡ with_depends first (depends_of v) → new ≡ cond flag (with_depends v (done_in (depends_of v) slot true)) v → new ≡ with_depends first (depends_of new)
rest_then first v new slot flag rest is = subst (λ (w : FarmBooks). w ≡ with_depends first (depends_of w)) (sym is) (rest_by first v slot flag rest)
