-- The journal of the recorder's seat, from the opening of a farm on.
use Rattle.std.proofs.Common.{◌≡◌, ◌<◌, ◌≤◌, ◌+◌, ◌*◌, ◌^◌, ℕ, suc, List, [], ◌∷◌, ◌++◌, length, length-append, length-take, take, get_or, true, Some, Result, Ok, Err, refl, sym, ap, ◌∙◌, subst, append_assoc, append-nil, arith}
use Rattle.std.specs.Prelude.{◌==◌, IfOk}
use Rattle.std.proofs.lemmas.Bool.{eqb-true}
use Rattle.std.proofs.lemmas.List.{take_more}
use Rattle.atomic_table.specs.declared.shared.Seat.{Seat}
use Rattle.cue_io.specs.declared.limits.TheConstants.{BYTE_LIMIT}
use Rattle.cue_io.specs.Reader.{Held, lines_left}
use Rattle.farm_types.specs.declared.entry.Entry.{Entry}
use Rattle.farm_types.specs.Farm.{Farm}
use Rattle.booking_rule.specs.declared.view.View.{View}
use Rattle.booking_rule.specs.Kept.{first_view, no_desk}
use Rattle.booking_table.specs.Seats.{view}
use Rattle.farm_load.specs.booking_recorder.specs.Going.{Journals}
use Rattle.farm_load.specs.booking_recorder.specs.Recording.{most_entries}
use Rattle.farm_load.specs.booking_recorder.proofs.Journaled.{journals_then}
use Rattle.farm_load.specs.recorder.specs.declared.refusal.RecordFault.{RecordFault}
use Rattle.farm_load.specs.recording_turns.specs.Resting.{IsAtRest, IsPlaced, IsUnplaced}
use Rattle.farm_lines.specs.Transcript.{Exchange, answer_at, entries_in, farm_after, farm_next}
use Rattle.farm_load.specs.Loads.{most_reports}
use Rattle.farm_load.specs.line_answers.specs.declared.limits.TheConstants.{ENTRIES_EACH}
use Rattle.farm_load.specs.line_answers.proofs.FewEntries.{line_few}
use Rattle.session.specs.Seats.{GivesSeat, HasRoom, IsBegun}
use Rattle.session.specs.Words.{WordForm, Demo, Load, Script, opened_at, opened_entry, opening_entries}
use Rattle.session.proofs.OpenedRun.{later_entries, opening_is}

-- ---- the opening

-- a farm may be placed on a new table
unplaced : IsUnplaced first_view
unplaced =
    record {
      desk = no_desk;
      first = refl;
      pending = refl;
      split = refl;
      done = record { slot = λ n. refl; cores = λ n. refl; memory = λ n. refl; alloc = λ n. refl; burst = λ n. refl; most = λ n. refl };
      journal = refl;
      opening = refl;
      free = record { takes = refl; limits = refl; rooms = refl; claims = refl; burst = refl; place = refl };
    }

pub new_unplaced : (v : View) → v ≡ first_view → IsUnplaced v
new_unplaced v is = subst IsUnplaced (sym is) unplaced

-- it was placed
pub placed_begun : (v w : View) (f : Farm) → IsUnplaced v → IsPlaced v f w → IsBegun w f []
placed_begun v w f new placed = record { opening = placed.opening; journal = ap (λ (x : View). x.journal) placed.like ∙ new.journal; alone = placed.split }

-- .. and then entries were recorded
pub begun_more : (v w : View) (f : Farm) (es : List Entry) → IsBegun v f [] → Journals v w es → IsBegun w f es
begun_more v w f es begun more =
    record {
      opening = more.opening ∙ begun.opening;
      journal = more.journal ∙ ap (λ (xs : List Entry). xs ++ es) begun.journal;
      alone = more.split ∙ begun.alone;
    }

-- the entries of an opening are few
few_opening : (form : WordForm) (moment : ℕ) → length (opening_entries form moment) ≤ 9
few_opening Demo moment = omega arith
few_opening (Script store) moment = omega arith
few_opening (Load n) moment = omega arith

pub opening_room : (form : WordForm) (moment : ℕ) (v : View) (f : Farm) → IsBegun v f [] → length v.journal + length (opening_entries form moment) < 2 ^ 64
opening_room form moment v f begun =
    let none : length v.journal ≡ 0 = ap length begun.journal in
    omega (arith, none, few_opening form moment)

-- the first of them fits, and those behind it
pub first_room : (form : WordForm) (moment : ℕ) (n : ℕ) → n + length (opening_entries form moment) < 2 ^ 64 → n + 1 < 2 ^ 64
first_room form moment n room =
    let all : length (opening_entries form moment) ≡ suc (length (later_entries form moment)) = ap length (opening_is form moment) in
    omega (arith, all, room)

pub later_room : (form : WordForm) (moment at : ℕ) (v w : View) → Journals v w (opened_entry at ∷ [])
    → length v.journal + length (opening_entries form moment) < 2 ^ 64 → length w.journal + length (later_entries form moment) < 2 ^ 64
later_room form moment at v w first room =
    let all : length (opening_entries form moment) ≡ suc (length (later_entries form moment)) = ap length (opening_is form moment) in
    let one : length w.journal ≡ length v.journal + 1 = ap length first.journal ∙ length-append v.journal (opened_entry at ∷ []) in
    omega (arith, all, one, room)

-- ---- entries one by one

-- one more of a list
pub journal_next : (v u w : View) (es : List Entry) (i : ℕ) (e : Entry) → i < length es → e ≡ get_or es i e → Journals v u (take i es) → Journals u w (e ∷ [])
    → Journals v w (take (i + 1) es)
journal_next v u w es i e within is first next =
    subst (λ (xs : List Entry). Journals v w xs) (sym (take_more es i e within ∙ ap (λ (x : Entry). take i es ++ x ∷ []) (sym is)))
    (journals_then v u w (take i es) (e ∷ []) first next)

-- so far there is room for the next
pub next_room : (v u : View) (es : List Entry) (i : ℕ) → i < length es → Journals v u (take i es) → length v.journal + length es < 2 ^ 64 → length u.journal + 1 < 2 ^ 64
next_room v u es i within first room =
    let long : length u.journal ≡ length v.journal + length (take i es) = ap length first.journal ∙ length-append v.journal (take i es) in
    omega (arith, long, length-take i es, within, room)

-- where there is room the journal isn't spent
pub unspent : (n : ℕ) → n + 1 < 2 ^ 64 → (n == most_entries) ≡ true → ⊥
unspent n room spent = omega (arith, eqb-true n most_entries spent, room)

-- ---- the opening's journal

pub opening_journals : (v u w : View) (form : WordForm) (moment at : ℕ) (r : Result (Unit {0}) RecordFault) → at ≡ opened_at form moment → Journals v u (opened_entry at ∷ [])
    → IfOk r (λ done. Journals u w (later_entries form moment)) → IfOk r (λ done. Journals v w (opening_entries form moment))
opening_journals v u w form moment at (Ok done) is first later =
    subst (λ (es : List Entry). Journals v w es) (sym (opening_is form moment))
    (subst (λ (n : ℕ). Journals v w (opened_entry n ∷ later_entries form moment)) is (journals_then v u w (opened_entry at ∷ []) (later_entries form moment) first later))
opening_journals v u w form moment at (Err why) is first later = tt

-- ---- room for lines, and for a load

pub begun_room : (form : WordForm) (moment : ℕ) (v : View) (f : Farm) → IsBegun v f (opening_entries form moment) → HasRoom v
begun_room form moment v f begun =
    let is : length v.journal ≡ length (opening_entries form moment) = ap length begun.journal in
    omega (arith, is, few_opening form moment)

pub load_room : (v : View) → HasRoom v → length v.journal + ENTRIES_EACH * most_reports < 2 ^ 64
load_room v room = omega (arith, room)

entries_few : (f : Farm) (ts : List Exchange) → length (entries_in f ts) ≤ ENTRIES_EACH * length ts
entries_few f [] = omega arith
entries_few f (t ∷ ts) =
    omega (arith, line_few f t.line t.moment t.mark, entries_few (farm_next f t) ts, length-append (answer_at f t).entries (entries_in (farm_next f t) ts))

-- Each exchange so far was of a line that the reader gave, so that one more fits.
pub exchange_room : (v w : View) (f : Farm) (ts : List Exchange) (reader : Held) → HasRoom v → Journals v w (entries_in f ts)
    → length ts + lines_left reader ≤ BYTE_LIMIT + 1 → length w.journal + ENTRIES_EACH < 2 ^ 64
exchange_room v w f ts reader room more few =
    let long : length w.journal ≡ length v.journal + length (entries_in f ts) = ap length more.journal ∙ length-append v.journal (entries_in f ts) in
    omega (arith, long, entries_few f ts, room, few)

-- ---- one exchange more

pub entries_more : (f : Farm) (ts : List Exchange) (t : Exchange) → entries_in f (ts ++ t ∷ []) ≡ entries_in f ts ++ (answer_at (farm_after f ts) t).entries
entries_more f [] t = append-nil (answer_at f t).entries
entries_more f (u ∷ ts) t =
    ap (λ (es : List Entry). (answer_at f u).entries ++ es) (entries_more (farm_next f u) ts t)
    ∙ sym (append_assoc (answer_at f u).entries (entries_in (farm_next f u) ts) (answer_at (farm_after (farm_next f u) ts) t).entries)

-- ---- the seat that is given back

pub gives_seat : (seat : Seat (Unit {0}) View) (v : View) (first : Farm) (opened more : List Entry) → IsBegun v first opened → Journals v (view seat) more → IsAtRest (view seat)
    → GivesSeat (Some seat) first (opened ++ more)
gives_seat seat v first opened more begun journals rests =
    record {
      rests = rests;
      opening = journals.opening ∙ begun.opening;
      journal = journals.journal ∙ ap (λ (es : List Entry). es ++ more) begun.journal;
    }
