-- Attempts are counted in the limits of their frames' layers: as they begin and end, as a job comes, and as one goes.
use Rattle.std.proofs.Common.{◌≡◌, ◌≢◌, ◌<◌, ◌≤◌, ℕ, zero, suc, ◌+◌, ◌-◌, ◌⊎◌, inl, inr, Bool, true, false, cond, not, ◌&&◌, eqb, List, [], ◌∷◌, ◌++◌, map, length, length-append, replicate, take, Option, Some, None, refl, sym, ap, subst, ◌∙◌, arith}
use Rattle.std.specs.Prelude.{is_none, is_some, nat_le, nat_lt, option_and_then, option_map}
use Rattle.std.specs.List.{find, list_all, slice_get, slice_set}
use Rattle.std.proofs.lemmas.Bool.{eq-eqb, false≢true, leb-false, ltb-true, ne_eqb}
use Rattle.std.proofs.lemmas.List.Sums.{sum_by-append, sum_by-cons}
use Rattle.std.proofs.lemmas.Option.{same_Some, slice_get_within}
use Rattle.std.specs.Cmp.Derive.{both_true}
use Rattle.farm_types.specs.declared.attempt.ProcRow.{ProcRow}
use Rattle.farm_types.specs.declared.job.LayerSpec.{LayerSpec}
use Rattle.farm_types.specs.declared.limits.TheConstants.{SLOT_LIMIT}
use Rattle.farm_types.specs.declared.rows.LayerRow.{LayerRow}
use Rattle.farm_types.specs.declared.rows.LimitRow.{LimitRow}
use Rattle.farm_types.specs.declared.slot_row.Frame.{Frame}
use Rattle.farm_types.specs.declared.slot_row.SlotRow.{SlotRow}
use Rattle.farm_types.specs.Farm.{changed_at, for_any, for_some, layer_in}
use Rattle.farm_types.specs.Finish.{freed_row, is_frame_of}
use Rattle.farm_types.specs.Jobs.{fresh_slot, frames_of, is_free, layer_rows, place_frames}
use Rattle.farm_types.specs.Kept.{has_its_limit}
use Rattle.farm_types.specs.Settle.{raised}
use Rattle.farm_types.specs.Step.{limit_row, with_most}
use Rattle.farm_types.specs.Sums.{has_limit, running_among, total_at, total_in}
use Rattle.farm_types.proofs.Changed.{appended_each, changed_at_is, changed_at_other, changed_at_same, length-changed_at, places}
use Rattle.farm_types.proofs.ChangedLists.{changed_at_kept, list_all-changed_at}
use Rattle.farm_types.proofs.Lists.{and_both, find_passes, list_all-at, list_all-from_at, slice_get_below}
use Rattle.farm_law.proofs.KeptJobsZip.{sum_alike}
use Rattle.farm_law.proofs.RunningInLimits.{FreeHaveNone, OwnHaveNone, names_limit, running_changed, running_few, running_placed, slot_weight}
use Rattle.job_book.specs.Book.{IsSameFrame, KeepsFrame}
use Rattle.job_book.specs.Inside.{is_below}
use Rattle.limit_book.specs.Book.{LimitLists, state_of, with_plan}
use Rattle.limit_book.specs.declared.read.LimitState.{LimitState}
use Rattle.limit_book.specs.declared.plan.LimitPlan.{LimitPlan}
use Rattle.limit_book.specs.declared.plan.LimitPlan.TheVariants as plan
use Rattle.farm_books.specs.Finish.{has_ended}
use Rattle.farm_books.specs.Inside.{is_framed}
use Rattle.farm_books.specs.Limits.{CanCount, CountsRunning, limit_of, recounted, with_limit}

-- ---- one limit and one slot

abbrev flag : Bool → ℕ
flag b = cond b 1 0

-- 1 where that is the limit
abbrev one_in : ℕ → Option ℕ → ℕ
one_in limit o = flag (for_some o (λ (m : ℕ). eqb m limit))

-- and something runs
abbrev counted : ℕ → Option ℕ → Bool → ℕ
counted limit o runs = cond runs (one_in limit o) 0

named : (layers : List LayerRow) (limit : ℕ) (frame : Option Frame) → names_limit layers limit frame ≡ for_some (limit_of layers frame) (λ (m : ℕ). eqb m limit)
named layers limit None = refl
named layers limit (Some x) = by (layer_in layers x.job x.layer)
  where
    by : (o : Option LayerRow) → for_some o (has_limit limit) ≡ for_some (option_and_then (λ (l : LayerRow). l.limit) o) (λ (m : ℕ). eqb m limit)
    by None = refl
    by (Some l) = refl

-- a slot weighs 1 where an attempt runs in it, of a layer with the limit
weighs : (layers : List LayerRow) (limit : ℕ) (s : SlotRow) → slot_weight layers limit s ≡ counted limit (limit_of layers s.frame) (is_some s.proc)
weighs layers limit s = by (is_some s.proc)
  where
    by : (b : Bool) → flag (b && names_limit layers limit s.frame) ≡ cond b (one_in limit (limit_of layers s.frame)) 0
    by true = ap flag (named layers limit s.frame)
    by false = refl

-- ---- one count

total_here : (counts : List ℕ) (m : ℕ) (change : ℕ → ℕ) → m < length counts → total_at (changed_at counts m change) m ≡ change (total_at counts m)
total_here counts m change below =
    let x = slice_get_below counts m below in
    ap total_in (changed_at_same counts m change x.0 x.1) ∙ ap change (sym (ap total_in x.1))

total_there : (counts : List ℕ) (m n : ℕ) (change : ℕ → ℕ) → n ≢ m → total_at (changed_at counts m change) n ≡ total_at counts n
total_there counts m n change apart = ap total_in (changed_at_other counts m n change apart)

one_here : (m : ℕ) → one_in m (Some m) ≡ 1
one_here m = ap flag (eq-eqb m m refl)

one_there : (m n : ℕ) → n ≢ m → one_in n (Some m) ≡ 0
one_there m n apart = ap flag (ne_eqb m n (λ (e : m ≡ n). apart (sym e)))

raised_by : (counts : List ℕ) (m limit : ℕ) → limit < length counts → (limit ≡ m) ⊎ (limit ≢ m) → total_at (changed_at counts m (λ n. n + 1)) limit + 0 ≡ total_at counts limit + one_in limit (Some m)
raised_by counts m limit below (inl here) =
    subst (λ (k : ℕ). total_at (changed_at counts m (λ n. n + 1)) k + 0 ≡ total_at counts k + one_in k (Some m)) (sym here)
    (omega (arith, total_here counts m (λ n. n + 1) (subst (λ (k : ℕ). k < length counts) here below), one_here m))
raised_by counts m limit below (inr apart) = omega (arith, total_there counts m limit (λ n. n + 1) apart, one_there m limit apart)

lowered_by : (counts : List ℕ) (m limit : ℕ) → limit < length counts → (m < length counts → 0 < total_at counts m) → (limit ≡ m) ⊎ (limit ≢ m)
    → total_at (changed_at counts m (λ n. n - 1)) limit + one_in limit (Some m) ≡ total_at counts limit + 0
lowered_by counts m limit below some (inl here) =
    let within = subst (λ (k : ℕ). k < length counts) here below in
    subst (λ (k : ℕ). total_at (changed_at counts m (λ n. n - 1)) k + one_in k (Some m) ≡ total_at counts k + 0) (sym here)
    (omega (arith, total_here counts m (λ n. n - 1) within, one_here m, some within))
lowered_by counts m limit below some (inr apart) = omega (arith, total_there counts m limit (λ n. n - 1) apart, one_there m limit apart)

pub recounted_limits : (b : LimitLists) (o : Option ℕ) (ran runs : Bool) → (recounted b o ran runs).limits ≡ b.limits
recounted_limits b None ran runs = refl
recounted_limits b (Some m) false true = refl
recounted_limits b (Some m) true false = refl
recounted_limits b (Some m) false false = refl
recounted_limits b (Some m) true true = refl

past_none : (xs : List ℕ) (m x : ℕ) → length xs ≤ m → slice_get xs m ≡ Some x → ⊥
past_none xs m x past there = absurd (omega (arith, past, slice_get_within xs m x there))

-- a limit that isn't there changes nothing
pub recounted_past : (b : LimitLists) (m : ℕ) (ran runs : Bool) → length b.running ≤ m → recounted b (Some m) ran runs ≡ b
recounted_past b m false true past = ap (λ (counts : List ℕ). record b { running = counts }) (changed_at_kept b.running m (λ n. n + 1) (λ x there. absurd (past_none b.running m x past there)))
recounted_past b m true false past = ap (λ (counts : List ℕ). record b { running = counts }) (changed_at_kept b.running m (λ n. n - 1) (λ x there. absurd (past_none b.running m x past there)))
recounted_past b m false false past = refl
recounted_past b m true true past = refl

none_counted : (limit : ℕ) (runs : Bool) → counted limit None runs ≡ 0
none_counted limit true = refl
none_counted limit false = refl

recount_step : (b : LimitLists) (o : Option ℕ) (ran runs : Bool) (limit : ℕ) → length b.running ≡ length b.limits → limit < length b.limits → CanCount b o ran runs
    → total_at (recounted b o ran runs).running limit + counted limit o ran ≡ total_at b.running limit + counted limit o runs
recount_step b None ran runs limit long below can = omega (arith, none_counted limit ran, none_counted limit runs)
recount_step b (Some m) false true limit long below can = raised_by b.running m limit (omega (arith, long, below)) (places limit m)
recount_step b (Some m) true false limit long below can = lowered_by b.running m limit (omega (arith, long, below)) (λ within. can (omega (arith, long, within))) (places limit m)
recount_step b (Some m) false false limit long below can = refl
recount_step b (Some m) true true limit long below can = refl

-- ---- a slot gets another row

same_limit : (layers : List LayerRow) (o p : Option Frame) → IsSameFrame o p → limit_of layers o ≡ limit_of layers p
same_limit layers None p same = absurd same
same_limit layers (Some x) None same = absurd same
same_limit layers (Some x) (Some y) same = sym (ap (λ (z : Frame). limit_of layers (Some z)) same)

same_there : (o p : Option Frame) → IsSameFrame o p → is_some p ≡ true
same_there None p same = absurd same
same_there (Some x) None same = absurd same
same_there (Some x) (Some y) same = refl

pub kept_row : (o : Option SlotRow) (row : SlotRow) → KeepsFrame o row → (s : SlotRow) × (o ≡ Some s) × IsSameFrame s.frame row.frame
kept_row None row keeps = absurd keeps
kept_row (Some s) row keeps = (s, refl, keeps)

framed_row : (o : Option ProcRow) (there : Bool) → there ≡ true → for_any o (λ (p : ProcRow). there) ≡ true
framed_row None there is = refl
framed_row (Some p) there is = is

module _ (layers : List LayerRow) (slots : List SlotRow) (slot : ℕ) (row : SlotRow) (keeps : KeepsFrame (slice_get slots slot) row) where
  -- each attempt has its frame
  pub installed_framed : list_all is_framed slots ≡ true → list_all is_framed (slice_set slots slot row) ≡ true
  installed_framed framed =
      let s = kept_row (slice_get slots slot) row keeps in
      subst (λ (rows : List SlotRow). list_all is_framed rows ≡ true) (changed_at_is slots slot (λ _. row) s.0 s.1)
      (list_all-changed_at is_framed slots slot (λ _. row) framed (λ x there. framed_row row.proc (is_some row.frame) (same_there s.0.frame row.frame s.2)))

  module _ (b : LimitLists) (counts : CountsRunning b layers slots) where
    abbrev o : Option ℕ
    o = limit_of layers row.frame

    old_weighs : (s : SlotRow) (ran : Bool) (limit : ℕ) → IsSameFrame s.frame row.frame → is_some s.proc ≡ ran → slot_weight layers limit s ≡ counted limit o ran
    old_weighs s ran limit same was = weighs layers limit s ∙ ap (λ (n : Option ℕ). counted limit n (is_some s.proc)) (same_limit layers s.frame row.frame same) ∙ ap (counted limit o) was

    -- an attempt that begins finds place in its limit's count, and one that ends is in it
    can_by : (s : SlotRow) → slice_get slots slot ≡ Some s → IsSameFrame s.frame row.frame → length slots ≤ SLOT_LIMIT → (m : Option ℕ) → o ≡ m → (ran : Bool) → is_some s.proc ≡ ran → (runs : Bool) → is_some row.proc ≡ runs
        → CanCount b m ran runs
    can_by s at same few None is ran was runs now = tt
    can_by s at same few (Some m) is false was true now = λ below.
        let was_none = old_weighs s false m same was in
        let is_one = weighs layers m row ∙ ap (λ (n : Option ℕ). counted m n (is_some row.proc)) is ∙ ap (counted m (Some m)) now ∙ one_here m in
        omega (arith, running_changed layers m slots slot (λ _. row) s at, running_few layers m (changed_at slots slot (λ _. row)), length-changed_at slots slot (λ _. row), was_none, is_one, counts m below, few)
    can_by s at same few (Some m) is true was false now = λ below.
        let was_one = old_weighs s true m same was ∙ ap (λ (n : Option ℕ). counted m n true) is ∙ one_here m in
        let is_none = weighs layers m row ∙ ap (counted m o) now in
        omega (arith, running_changed layers m slots slot (λ _. row) s at, was_one, is_none, counts m below)
    can_by s at same few (Some m) is false was false now = tt
    can_by s at same few (Some m) is true was true now = tt

    pub can_count : (ran : Bool) → is_some (option_and_then (λ (s : SlotRow). s.proc) (slice_get slots slot)) ≡ ran → length slots ≤ SLOT_LIMIT → CanCount b o ran (is_some row.proc)
    can_count ran was few =
        let s = kept_row (slice_get slots slot) row keeps in
        can_by s.0 s.1 s.2 few o refl ran (sym (ap (λ (r : Option SlotRow). is_some (option_and_then (λ (x : SlotRow). x.proc) r)) s.1) ∙ was) (is_some row.proc) refl

    pub recounts : (ran : Bool) → is_some (option_and_then (λ (s : SlotRow). s.proc) (slice_get slots slot)) ≡ ran → length b.running ≡ length b.limits → CanCount b o ran (is_some row.proc)
        → CountsRunning (recounted b o ran (is_some row.proc)) layers (slice_set slots slot row)
    recounts ran was long can limit below =
        let s = kept_row (slice_get slots slot) row keeps in
        let had : is_some s.0.proc ≡ ran = sym (ap (λ (r : Option SlotRow). is_some (option_and_then (λ (x : SlotRow). x.proc) r)) s.1) ∙ was in
        let within : limit < length b.limits = subst (λ rows. limit < length rows) (recounted_limits b o ran (is_some row.proc)) below in
        omega (
          arith,
          recount_step b o ran (is_some row.proc) limit long within can,
          running_changed layers limit slots slot (λ _. row) s.0 s.1,
          old_weighs s.0 ran limit s.2 had,
          weighs layers limit row,
          counts limit within,
          ap (running_among layers limit) (changed_at_is slots slot (λ _. row) s.0 s.1),
        )

-- ---- a job comes

find_front : {X : Type 0} (test : X → Bool) (xs ys : List X) → find test ys ≡ None → find test (xs ++ ys) ≡ find test xs
find_front test [] ys none = none
find_front test (x ∷ xs) ys none = ap (cond (test x) (Some x)) (find_front test xs ys none)

other_rows : (job place next p : ℕ) (layer_limits : List (Option ℕ)) (ls : List LayerSpec) → eqb next job ≡ false → layer_in (layer_rows next layer_limits p ls) job place ≡ None
other_rows job place next p layer_limits [] apart = refl
other_rows job place next p layer_limits (l ∷ ls) apart = rw apart (other_rows job place next (p + 1) layer_limits ls apart)

no_frame : (frame : Option Frame) → is_none frame ≡ true → is_some frame ≡ true → ⊥
no_frame None none there = false≢true there
no_frame (Some x) none there = false≢true none

unframed : (s : SlotRow) → is_none s.frame ≡ true → is_framed s ≡ true → s.proc ≡ None
unframed s none framed = by s.proc framed
  where
    by : (o : Option ProcRow) → for_any o (λ (p : ProcRow). is_some s.frame) ≡ true → o ≡ None
    by None has = refl
    by (Some p) has = absurd (no_frame s.frame none has)

pub free_none : (slots : List SlotRow) → list_all is_framed slots ≡ true → FreeHaveNone slots
free_none slots framed i s at none = unframed s none (list_all-at is_framed slots i s framed at)

fails_is : (b : Bool) → not b ≡ true → b ≡ false
fails_is true h = absurd (false≢true h)
fails_is false h = refl

module _ (layers : List LayerRow) (next : ℕ) (layer_limits : List (Option ℕ)) (ls : List LayerSpec) (limit : ℕ) where
  abbrev more : List LayerRow
  more = layers ++ layer_rows next layer_limits 0 ls

  more_names : (frame : Option Frame) → not (for_some frame (λ x. nat_le next x.job)) ≡ true → names_limit more limit frame ≡ names_limit layers limit frame
  more_names None below = refl
  more_names (Some x) below =
      let apart : eqb next x.job ≡ false = ne_eqb next x.job (λ (e : next ≡ x.job). absurd (omega (arith, leb-false next x.job (fails_is (nat_le next x.job) below), e))) in
      ap (λ (o : Option LayerRow). for_some o (has_limit limit))
      (find_front (λ (l : LayerRow). eqb l.job x.job && eqb l.place x.layer) layers (layer_rows next layer_limits 0 ls) (other_rows x.job x.layer next 0 layer_limits ls apart))

  pub running_more : (slots : List SlotRow) → list_all (is_below next) slots ≡ true → list_all is_framed slots ≡ true
      → running_among more limit (place_frames slots (frames_of next 0 ls)) ≡ running_among layers limit slots
  running_more slots below framed =
      running_placed more limit slots (frames_of next 0 ls) (free_none slots framed)
      ∙ sum_alike (slot_weight more limit) (slot_weight layers limit) slots
      (λ i s at. ap (λ (b : Bool). flag (is_some s.proc && b)) (more_names s.frame (list_all-at (is_below next) slots i s below at)))

fresh_framed : (xs : List Frame) → list_all is_framed (map fresh_slot xs) ≡ true
fresh_framed [] = refl
fresh_framed (x ∷ xs) = fresh_framed xs

placed_step : (b : Bool) (s : SlotRow) (ss : List SlotRow) (x : Frame) (xs : List Frame) → is_free s ≡ b → is_framed s ≡ true → list_all is_framed (place_frames ss xs) ≡ true → list_all is_framed (place_frames ss (x ∷ xs)) ≡ true
    → list_all is_framed (place_frames (s ∷ ss) (x ∷ xs)) ≡ true
placed_step true s ss x xs free framed here later = rw free (both_true (framed_row s.proc true refl) here)
placed_step false s ss x xs free framed here later = rw free (both_true framed later)

pub placed_framed : (slots : List SlotRow) (xs : List Frame) → list_all is_framed slots ≡ true → list_all is_framed (place_frames slots xs) ≡ true
placed_framed [] xs framed = fresh_framed xs
placed_framed (s ∷ ss) [] framed = framed
placed_framed (s ∷ ss) (x ∷ xs) framed =
    let both = and_both (is_framed s) (list_all is_framed ss) framed in
    placed_step (is_free s) s ss x xs refl both.0 (placed_framed ss xs both.1) (placed_framed ss (x ∷ xs) both.1)

-- ---- a job goes

ended_none : (own : Bool) (o : Option ProcRow) → own ≡ true → not (own && is_some o) ≡ true → o ≡ None
ended_none own None is ended = refl
ended_none true (Some p) is ended = absurd (false≢true ended)
ended_none false (Some p) is ended = absurd (false≢true is)

pub own_none : (job : ℕ) (slots : List SlotRow) → list_all (has_ended job) slots ≡ true → OwnHaveNone job slots
own_none job slots ended i s at own = ended_none (is_frame_of job s) s.proc own (list_all-at (has_ended job) slots i s ended at)

freed_step : (b : Bool) (s : SlotRow) → is_framed s ≡ true → is_framed (cond b (record { version = raised s.version; frame = None; proc = None }) s) ≡ true
freed_step true s framed = refl
freed_step false s framed = framed

pub freed_framed : (job : ℕ) (slots : List SlotRow) → list_all is_framed slots ≡ true → list_all is_framed (map (freed_row job) slots) ≡ true
freed_framed job [] framed = refl
freed_framed job (s ∷ ss) framed =
    let both = and_both (is_framed s) (list_all is_framed ss) framed in
    both_true (freed_step (is_frame_of job s) s both.0) (freed_framed job ss both.1)

-- ---- slots that are given

framed_one : (s : SlotRow) → (is_none s.frame ≡ true → s.proc ≡ None) → is_framed s ≡ true
framed_one s none = by s.frame refl
  where
    idle : (o : Option ProcRow) (there : Bool) → o ≡ None → for_any o (λ (p : ProcRow). there) ≡ true
    idle None there is = refl
    idle (Some p) there is = absurd (cc)

    by : (frame : Option Frame) → s.frame ≡ frame → for_any s.proc (λ (p : ProcRow). is_some s.frame) ≡ true
    by None is = idle s.proc (is_some s.frame) (none (ap is_none is))
    by (Some x) is = framed_row s.proc (is_some s.frame) (ap is_some is)

pub given_framed : (slots : List SlotRow) → FreeHaveNone slots → list_all is_framed slots ≡ true
given_framed slots none = list_all-from_at is_framed slots (λ i s at. framed_one s (none i s at))

-- ---- slots one after another

take_next : {X : Type 0} (xs : List X) (n : ℕ) (x : X) → slice_get xs n ≡ Some x → take (n + 1) xs ≡ take n xs ++ x ∷ []
take_next [] n x at = absurd (cc)
take_next (y ∷ ys) zero x at = ap (λ z. z ∷ []) (same_Some y x at)
take_next (y ∷ ys) (suc n) x at = let e : suc n + 1 ≡ suc (n + 1) = omega arith in rw e (ap (λ zs. y ∷ zs) (take_next ys n x at))

take_few : {X : Type 0} (n : ℕ) (xs : List X) → length (take n xs) ≤ n
take_few zero xs = omega arith
take_few (suc n) [] = omega arith
take_few (suc n) (x ∷ xs) = omega (arith, take_few n xs)

module _ (b : LimitLists) (layers : List LayerRow) (slots : List SlotRow) (n : ℕ) (s : SlotRow) (at : slice_get slots n ≡ Some s) (counts : CountsRunning b layers (take n slots)) where
  -- what was counted so far leaves place for one more
  pub can_next : length slots ≤ SLOT_LIMIT → (o : Option ℕ) (runs : Bool) → CanCount b o false runs
  can_next few None runs = tt
  can_next few (Some m) true = λ below. omega (arith, counts m below, running_few layers m (take n slots), take_few n slots, few, slice_get_within slots n s at)
  can_next few (Some m) false = tt

  pub counts_next : length b.running ≡ length b.limits → CanCount b (limit_of layers s.frame) false (is_some s.proc)
      → CountsRunning (recounted b (limit_of layers s.frame) false (is_some s.proc)) layers (take (n + 1) slots)
  counts_next long can limit below =
      let o = limit_of layers s.frame in
      let within : limit < length b.limits = subst (λ rows. limit < length rows) (recounted_limits b o false (is_some s.proc)) below in
      omega (
        arith,
        recount_step b o false (is_some s.proc) limit long within can,
        weighs layers limit s,
        counts limit within,
        ap (running_among layers limit) (take_next slots n s at),
        sum_by-append (slot_weight layers limit) (take n slots) (s ∷ []),
        sum_by-cons (slot_weight layers limit) s [],
      )

-- no attempt is counted where there are only zeros
zero_at : (n k : ℕ) → total_at (replicate n 0) k ≡ 0
zero_at zero k = refl
zero_at (suc n) zero = refl
zero_at (suc n) (suc k) = zero_at n k

pub none_counted_yet : (rows : List LimitRow) (n : ℕ) (layers : List LayerRow) → CountsRunning (record { limits = rows; running = replicate n 0 }) layers []
none_counted_yet rows n layers limit below = zero_at n limit

-- ---- a limit comes

module _ (layers : List LayerRow) (limits : List LimitRow) (there : list_all (has_its_limit (length limits)) layers ≡ true) where
  new_names : (frame : Option Frame) → names_limit layers (length limits) frame ≡ false
  new_names None = refl
  new_names (Some x) = by (layer_in layers x.job x.layer) refl
    where
      apart : (o : Option ℕ) → for_any o (λ (n : ℕ). nat_lt n (length limits)) ≡ true → for_some o (λ (n : ℕ). eqb n (length limits)) ≡ false
      apart None has = refl
      apart (Some n) has = ne_eqb n (length limits) (λ (e : n ≡ length limits). absurd (omega (arith, ltb-true n (length limits) has, e)))

      by : (o : Option LayerRow) → layer_in layers x.job x.layer ≡ o → for_some o (has_limit (length limits)) ≡ false
      by None found = refl
      by (Some l) found = apart l.limit (find_passes (λ (k : LayerRow). eqb k.job x.job && eqb k.place x.layer) (has_its_limit (length limits)) layers l there found)

  -- none runs in it
  pub none_runs : (slots : List SlotRow) → running_among layers (length limits) slots ≡ 0
  none_runs [] = refl
  none_runs (s ∷ ss) =
      omega (arith, sum_by-cons (slot_weight layers (length limits)) s ss, by (is_some s.proc), none_runs ss)
    where
      by : (b : Bool) → flag (b && names_limit layers (length limits) s.frame) ≡ 0
      by true = ap flag (new_names s.frame)
      by false = refl

pub planned_limits : (b : LimitLists) (name : List ℕ) (p : LimitPlan) (most : ℕ) → (with_plan b name p most).limits ≡ with_limit b.limits name p most
planned_limits b name (plan.New limit) most = refl
planned_limits b name (plan.Known limit) most = refl

-- a limit that is set leaves the counts
pub set_counts : (b : LimitLists) (layers : List LayerRow) (slots : List SlotRow) (name : List ℕ) (p : LimitPlan) (most : ℕ) → length b.running ≡ length b.limits → list_all (has_its_limit (length b.limits)) layers ≡ true
    → CountsRunning b layers slots → CountsRunning (with_plan b name p most) layers slots
set_counts b layers slots name (plan.Known m) most long there counts limit below = counts limit (subst (λ n. limit < n) (length-changed_at b.limits m (with_most most)) below)
set_counts b layers slots name (plan.New m) most long there counts limit below =
    let all : length (b.limits ++ limit_row name most ∷ []) ≡ length b.limits + 1 = length-append b.limits (limit_row name most ∷ []) ∙ (omega arith) in
    let each : length (b.running ++ 0 ∷ []) ≡ length b.running + 1 = length-append b.running (0 ∷ []) ∙ (omega arith) in
    let x = slice_get_below (b.running ++ 0 ∷ []) limit (omega (arith, below, all, each, long)) in
    let none : running_among layers (length b.running) slots ≡ 0 = ap (λ n. running_among layers n slots) long ∙ none_runs layers b.limits there slots in
    ap total_in x.1
    ∙ appended_each (λ k y. y ≡ running_among layers k slots) b.running 0 (λ k y at. sym (ap total_in at) ∙ counts k (omega (arith, long, slice_get_within b.running k y at))) (sym none) limit x.0 x.1

-- ---- what is read

abbrev shown : LimitLists → ℕ → LimitRow → LimitState
shown b limit row = record { most = row.most; running = total_at b.running limit }

abbrev has_place : Option LimitState → Bool
has_place o = for_some o (λ (s : LimitState). nat_lt s.running s.most)

place_by : (b : LimitLists) (rows : List LimitRow) (limit running : ℕ) (r : Option LimitRow) → slice_get rows limit ≡ r → (limit < length rows → total_at b.running limit ≡ running)
    → has_place (option_map (shown b limit) r) ≡ for_some r (λ (row : LimitRow). nat_lt running row.most)
place_by b rows limit running None at count = refl
place_by b rows limit running (Some row) at count = ap (λ (n : ℕ). nat_lt n row.most) (count (slice_get_within rows limit row at))

-- fewer run than may exactly where the book says so
pub place_in : (b : LimitLists) (rows : List LimitRow) (limit running : ℕ) (o : Option LimitState) → b.limits ≡ rows → (limit < length rows → total_at b.running limit ≡ running) → o ≡ state_of b limit
    → for_some o (λ (s : LimitState). nat_lt s.running s.most) ≡ for_some (slice_get rows limit) (λ (row : LimitRow). nat_lt running row.most)
place_in b rows limit running o same count is =
    ap has_place is ∙ (ap (λ (rs : List LimitRow). has_place (option_map (shown b limit) (slice_get rs limit))) same ∙ place_by b rows limit running (slice_get rows limit) refl count)
