-- A host's own attempts are walked: between one and the next nothing is due, so that what they give, up to the limit, is what all slots give.
use Rattle.std.proofs.Common.{◌≡◌, ℕ, zero, suc, ◌+◌, ◌-◌, ◌<◌, ◌≤◌, Bool, true, false, cond, not, ◌&&◌, eqb, List, [], ◌∷◌, ◌++◌, length, map, take, drop, get_or, Option, None, Some, refl, sym, ap, ◌∙◌, subst, arith, append_assoc, append-nil, length-append}
use Rattle.std.proofs.Math.Seq.{drop-cons}
use Rattle.std.specs.Prelude.{option_to_list, filter_map, option_and_then, option_map, slice_get}
use Rattle.std.specs.List.{cons_option}
use Rattle.std.proofs.lemmas.Bool.{eqb-true, false≢true}
use Rattle.std.proofs.lemmas.List.{drop-drop, drop-map}
use Rattle.std.proofs.lemmas.Option.{get_or_from_slice_get, none-some, slice_get-map, slice_get_within}
use Rattle.farm_types.specs.declared.attempt.ProcRow.{ProcRow}
use Rattle.farm_types.specs.declared.slot_row.SlotRow.{SlotRow}
use Rattle.farm_types.specs.Farm.{Farm}
use Rattle.farm_lines.specs.declared.launch.Launch.{Launch}
use Rattle.farm_lines.specs.declared.report.Report.{Report}
use Rattle.farm_lines.specs.declared.limits.TheConstants.{LAUNCHES_EACH}
use Rattle.farm_lines.specs.Reply.{due_in, is_due, is_listed, launch_of, launches_of}
use Rattle.attempt_book.specs.Book.{first_in, first_on, flat, live_in, next_on}
use Rattle.attempt_book.proofs.Firsts.{is_on}
use Rattle.attempt_book.proofs.Marks.{slice_get-drop}
use Rattle.farm_books.specs.Install.{proc_in, procs_of}
use Rattle.line_answers.specs.Launches.{due_at}

-- ---- what comes next

-- the rows from the slot that comes next
abbrev pub rows_from : List SlotRow → Option ℕ → List SlotRow
rows_from slots None = []
rows_from slots (Some slot) = drop slot slots

-- the slot that comes next has a live attempt on the host
abbrev pub IsOwn : List SlotRow → ℕ → Option ℕ → Type 0
IsOwn slots host None = Unit {0}
IsOwn slots host (Some slot) = (p : ProcRow) × (live_in (procs_of slots) slot ≡ Some p) × (p.host ≡ host)

-- from a place on a slot comes next, and nothing is due before it
record Comes (due : SlotRow → Option Launch) (slots : List SlotRow) (host place : ℕ) (next : Option ℕ) : Type 0 where
  own : IsOwn slots host next
  same : filter_map due (drop place slots) ≡ filter_map due (rows_from slots next)
  fewer : length (rows_from slots next) ≤ length (drop place slots)

own_of : (host : ℕ) (o : Option ProcRow) → is_on host o ≡ true → (p : ProcRow) × (o ≡ Some p) × (p.host ≡ host)
own_of host None on = absurd (false≢true on)
own_of host (Some p) on = (p, refl, eqb-true p.host host on)

live_is : (slots : List SlotRow) (place : ℕ) (s : SlotRow) (rows : List SlotRow) → drop place slots ≡ s ∷ rows → live_in (procs_of slots) place ≡ s.proc
live_is slots place s rows at =
    let there : slice_get slots place ≡ Some s = sym (slice_get-drop place slots 0 place (omega arith)) ∙ ap (λ (xs : List SlotRow). slice_get xs 0) at in
    ap flat (slice_get-map proc_in slots place ∙ ap (option_map proc_in) there)

rest_is : (slots : List SlotRow) (place : ℕ) (s : SlotRow) (rows : List SlotRow) → drop place slots ≡ s ∷ rows → drop (place + 1) slots ≡ rows
rest_is slots place s rows at = sym (drop-drop 1 place slots) ∙ ap (drop 1) at

row_by : (slots : List SlotRow) (slot : ℕ) (p : ProcRow) (o : Option SlotRow) → slice_get slots slot ≡ o → live_in (procs_of slots) slot ≡ Some p
    → (s : SlotRow) × (slice_get slots slot ≡ Some s) × (drop slot slots ≡ s ∷ drop (slot + 1) slots)
row_by slots slot p None at live = absurd (none-some p (sym (ap (λ (o : Option SlotRow). flat (option_map proc_in o)) at) ∙ sym (ap flat (slice_get-map proc_in slots slot)) ∙ live))
row_by slots slot p (Some s) at live =
    let here : get_or slots slot s ≡ s = get_or_from_slice_get slots slot s s at in
    let next : suc slot ≡ slot + 1 = omega arith in
    (s, at, drop-cons slots slot s (slice_get_within slots slot s at) ∙ ap (λ x. x ∷ drop (suc slot) slots) here ∙ ap (λ n. s ∷ drop n slots) next)

module _ (due : SlotRow → Option Launch) (slots : List SlotRow) (host : ℕ) (off : (s : SlotRow) → is_on host s.proc ≡ false → due s ≡ None) where
  comes_by : (b : Bool) (place : ℕ) (s : SlotRow) (rows : List SlotRow) (next : Option ℕ) → drop place slots ≡ s ∷ rows → is_on host s.proc ≡ b
      → Comes due slots host (place + 1) next → Comes due slots host place (cond b (Some place) next)
  comes_by true place s rows next at is later =
      let own = own_of host s.proc is in
      record { own = (own.0, live_is slots place s rows at ∙ own.1, own.2); same = refl; fewer = omega arith }
  comes_by false place s rows next at is later =
      let rest = rest_is slots place s rows at in
      record {
        own = later.own;
        same = ap (filter_map due) at ∙ ap (λ o. cons_option o (filter_map due rows)) (off s is) ∙ ap (filter_map due) (sym rest) ∙ later.same;
        fewer = omega (arith, ap length at, ap length rest, later.fewer);
      }

  comes_in : (rows : List SlotRow) (place : ℕ) → drop place slots ≡ rows → Comes due slots host place (first_in host place (map proc_in rows))
  comes_in [] place at = record { own = tt; same = ap (filter_map due) at; fewer = omega arith }
  comes_in (s ∷ rows) place at = comes_by (is_on host s.proc) place s rows (first_in host (place + 1) (map proc_in rows)) at refl (comes_in rows (place + 1) (rest_is slots place s rows at))

  comes : (place : ℕ) → Comes due slots host place (first_on (procs_of slots) host place)
  comes place = subst (λ (os : List (Option ProcRow)). Comes due slots host place (first_in host place os)) (sym (drop-map proc_in place slots)) (comes_in (drop place slots) place refl)

-- ---- what is due

-- an attempt on another host isn't due
not_due : (f : Farm) (host : ℕ) (report : Report) (s : SlotRow) → is_on host s.proc ≡ false → due_in f host report s ≡ None
not_due f host report s off = by s.proc off
  where
    by : (o : Option ProcRow) → is_on host o ≡ false → option_and_then (λ (p : ProcRow). cond (is_due host report p) (launch_of f s p) None) o ≡ None
    by None off = refl
    by (Some p) off = ap (λ b. cond (b && eqb p.boot report.heard.boot && not (is_listed report (record { slot = p.slot; version = p.version }))) (launch_of f s p) None) off

-- one more of what is taken
take_cons : {X : Type 0} (n : ℕ) (x : X) (xs : List X) → 0 < n → take n (x ∷ xs) ≡ x ∷ take (n - 1) xs
take_cons zero x xs h = absurd (omega arith)
take_cons (suc n) x xs h = ap (λ k. x ∷ take k xs) (omega arith)

take_none : {X : Type 0} (n : ℕ) → take {A = X} n [] ≡ []
take_none zero = refl
take_none (suc n) = refl

-- what one slot gives, where there is room for it
given_one : (launches rest : List Launch) (found : Option Launch) → length launches < LAUNCHES_EACH
    → (launches ++ option_to_list found) ++ take (LAUNCHES_EACH - length (launches ++ option_to_list found)) rest ≡ launches ++ take (LAUNCHES_EACH - length launches) (cons_option found rest)
given_one launches rest None room = rw append-nil refl
given_one launches rest (Some x) room =
    rw (append_assoc launches (x ∷ []) (take (LAUNCHES_EACH - length (launches ++ x ∷ [])) rest), length-append launches (x ∷ []), take_cons (LAUNCHES_EACH - length launches) x rest (omega arith))
    (ap (λ k. launches ++ (x ∷ take k rest)) (omega arith))

-- ---- the walk

-- What was found so far and what is due from the next of the host's own attempts on, up to the limit, is what all slots give.
pub record IsWalked (f : Farm) (host : ℕ) (report : Report) (next : Option ℕ) (launches : List Launch) : Type 0 where
  pub own : IsOwn f.slots host next
  pub given : launches ++ take (LAUNCHES_EACH - length launches) (filter_map (due_in f host report) (rows_from f.slots next)) ≡ launches_of f host report

module _ (f : Farm) (host : ℕ) (report : Report) where
  -- it begins at the first
  pub walk_begins : (next : Option ℕ) (launches : List Launch) → next ≡ first_on (procs_of f.slots) host 0 → launches ≡ [] → IsWalked f host report next launches
  walk_begins next launches is none =
      let from = subst (Comes (due_in f host report) f.slots host 0) (sym is) (comes (due_in f host report) f.slots host (not_due f host report) 0) in
      subst (IsWalked f host report next) (sym none) (record { own = from.own; given = ap (take LAUNCHES_EACH) (sym from.same) })

  -- what comes after one of the host's own
  after_own : (slot : ℕ) (next : Option ℕ) → IsOwn f.slots host (Some slot) → next ≡ next_on (procs_of f.slots) slot → Comes (due_in f host report) f.slots host (slot + 1) next
  after_own slot next own is =
      let first : next ≡ first_on (procs_of f.slots) host (slot + 1) =
      is ∙ ap (option_and_then (λ (p : ProcRow). first_on (procs_of f.slots) p.host (slot + 1))) own.1 ∙ ap (λ h. first_on (procs_of f.slots) h (slot + 1)) own.2 in
      subst (Comes (due_in f host report) f.slots host (slot + 1)) (sym first) (comes (due_in f host report) f.slots host (not_due f host report) (slot + 1))

  -- the row of one of the host's own, and the rows after it
  own_row : (slot : ℕ) → IsOwn f.slots host (Some slot) → (s : SlotRow) × (slice_get f.slots slot ≡ Some s) × (drop slot f.slots ≡ s ∷ drop (slot + 1) f.slots)
  own_row slot own = row_by f.slots slot own.0 (slice_get f.slots slot) refl own.1

  -- it goes on to the next
  pub walk_goes_on : (slot : ℕ) (now next : Option ℕ) (launches more : List Launch) → IsWalked f host report now launches → now ≡ Some slot → length launches < LAUNCHES_EACH
      → more ≡ launches ++ option_to_list (due_at f host report slot) → next ≡ next_on (procs_of f.slots) slot → IsWalked f host report next more
  walk_goes_on slot now next launches more walked at room found is =
      let due = due_in f host report in
      let own = subst (IsOwn f.slots host) at walked.own in
      let row = own_row slot own in
      let after = after_own slot next own is in
      let rest = drop (slot + 1) f.slots in
      let found_is : more ≡ launches ++ option_to_list (due row.0) = found ∙ ap (λ (o : Option SlotRow). launches ++ option_to_list (option_and_then due o)) row.1 in
      record {
        own = after.own;
        given =
            ap (λ (xs : List Launch). more ++ take (LAUNCHES_EACH - length more) xs) (sym after.same)
            ∙ ap (λ (xs : List Launch). xs ++ take (LAUNCHES_EACH - length xs) (filter_map due rest)) found_is
            ∙ given_one launches (filter_map due rest) (due row.0) room
            ∙ ap (λ (rows : List SlotRow). launches ++ take (LAUNCHES_EACH - length launches) (filter_map due rows)) (sym (ap (rows_from f.slots) at ∙ row.2))
            ∙ walked.given;
      }

  -- with fewer rows left
  pub walk_shortens : (slot : ℕ) (now next : Option ℕ) → IsOwn f.slots host now → now ≡ Some slot → next ≡ next_on (procs_of f.slots) slot
      → length (rows_from f.slots next) < length (rows_from f.slots now)
  walk_shortens slot now next own at is =
      let own = subst (IsOwn f.slots host) at own in
      omega (arith, (after_own slot next own is).fewer, ap length (ap (rows_from f.slots) at ∙ (own_row slot own).2))

  -- at its end all are found
  pub walk_ends : (now : Option ℕ) (found : List Launch) → IsWalked f host report now found → now ≡ None → found ≡ launches_of f host report
  walk_ends now found walked at =
      sym (ap (λ (o : Option ℕ). found ++ take (LAUNCHES_EACH - length found) (filter_map (due_in f host report) (rows_from f.slots o))) at
      ∙ ap (λ (xs : List Launch). found ++ xs) (take_none (LAUNCHES_EACH - length found)) ∙ append-nil found) ∙ walked.given
