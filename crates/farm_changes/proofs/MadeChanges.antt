-- Changes that make what entries make: in general, and those of subscriptions, boots and bookings.
use Rattle.std.proofs.Common.{◌≡◌, ℕ, ◌<◌, ◌≤◌, max, true, false, List, [], ◌∷◌, length, Option, Some, None, map, nat_eq, refl, sym, ap, subst, ◌∙◌, arith}
use Rattle.std.specs.Prelude.{Result, Ok, Err, All}
use Rattle.std.specs.List.{IsDistinct, slice_get}
use Rattle.std.proofs.lemmas.List.Elements.{All-cons, All-nil}
use Rattle.farm_types.specs.declared.answer.Answer.TheVariants as answer
use Rattle.farm_types.specs.declared.boot.BootLine.{BootLine}
use Rattle.farm_types.specs.declared.entry.Act.{Act}
use Rattle.farm_types.specs.declared.entry.Act.TheVariants as act
use Rattle.farm_types.specs.declared.entry.Entry.{Entry}
use Rattle.farm_types.specs.declared.slot_row.SlotRow.{SlotRow}
use Rattle.farm_types.specs.declared.sub_line.SubLine.{SubLine}
use Rattle.farm_types.specs.declared.limits.TheConstants.{SUB_NUMBERS}
use Rattle.farm_types.specs.Farm.{Farm, alloc_named, show_named, sub_of}
use Rattle.farm_types.specs.Kept.{KeepsRows, alloc_label, show_label}
use Rattle.farm_types.specs.Booking.{may_record}
use Rattle.farm_types.specs.Step.{act_refusal, after_act, after_boot, at_moment, expire, moment_of, new_proc, with_proc}
use Rattle.farm_types.specs.Sums.{booked_in}
use Rattle.farm_law.proofs.KeptNames.{named_within}
use Rattle.host_book.specs.Book.{alloc_of, plan_of}
use Rattle.host_book.specs.declared.boots.BootPlan.{BootPlan}
use Rattle.host_book.specs.declared.life.HostLife.{HostLife}
use Rattle.farm_books.proofs.BookedRow.{booked_at_moment, booked_row_installs, booked_row_leaves}
use Rattle.farm_books.specs.Bookings.{booked_at}
use Rattle.farm_draft.specs.Rows.{AreInstallable, AreReady, Stood, installed, put_lives, put_slots, slot_of}
use Rattle.farm_draft.specs.declared.slot_change.SlotChange.{SlotChange}
use Rattle.farm_draft.specs.declared.rows.Rows.{Rows}
use Rattle.farm_changes.specs.Change.{AnswersAct, FitsMore, HasHeard, Makes, Prepares, after_change, boot_in, with_more, with_rows}
use Rattle.farm_changes.specs.RowsOf.{lives_ended}
use Rattle.farm_changes.specs.declared.act_answer.ActAnswer.TheVariants as known
use Rattle.farm_changes.specs.declared.change.Change.{Change}
use Rattle.farm_changes.specs.declared.change.More.TheVariants as more
use Rattle.farm_changes.specs.declared.change.Reserved.TheVariants as taken
use Rattle.farm_types.specs.declared.fault.FarmFault.{FarmFault}
use Rattle.farm_types.specs.declared.fault.FarmFault.TheVariants.{Refused, NoMemory}
use Rattle.farm_changes.proofs.FreeSlots.{waiting_free}
use Rattle.farm_changes.proofs.PlannedBoots.{IsBootRefusal, planned, silenced_plan}

-- ---- moments

-- what is prepared at the later moment is prepared at the entry's
makes_later : (f : Farm) (e : Entry) (moment : ℕ) (change : Change) → moment ≡ moment_of f e.moment → Makes f (record { moment = moment; act = e.act }) change → Makes f e change
makes_later f e moment change is makes =
    let same : moment_of f moment ≡ moment_of f e.moment = omega arith in
    record {
      accepted = makes.accepted;
      heard = makes.heard;
      ready = makes.ready;
      unreserved = makes.unreserved;
      farm = makes.farm ∙ ap (λ (m : ℕ). after_act (at_moment f m) m e.act) same;
      answer = subst (λ (m : ℕ). AnswersAct f m e.act change.answer) same makes.answer;
    }

-- and so is a refusal
pub prepares_later : (f : Farm) (e : Entry) (a : Act) (moment : ℕ) (r : Result Change FarmFault) → moment ≡ moment_of f e.moment → e.act ≡ a → Prepares f (record { moment = moment; act = a }) r → Prepares f e r
prepares_later f e a moment (Ok change) is same p = makes_later f e moment change is (subst (λ (x : Act). Makes f (record { moment = moment; act = x }) change) (sym same) p)
prepares_later f e a moment (Err (Refused why)) is same p = ap (act_refusal f) same ∙ p
prepares_later f e a moment (Err NoMemory) is same p = tt

-- the change's parts
pub makes : (f : Farm) (moment : ℕ) (a : Act) (change : Change) → f.moment ≤ moment → act_refusal f a ≡ None → HasHeard f a change.heard → AreReady f change.rows → FitsMore (with_rows f change) change.more
    → change.reserved ≡ false → after_change f change ≡ after_act (at_moment f moment) moment a → AnswersAct f moment a change.answer → Makes f (record { moment = moment; act = a }) change
makes f moment a change ahead accepted heard rows fits unreserved farm answer =
    let later : moment ≡ max f.moment moment = omega arith in
    record {
      accepted = accepted;
      heard = heard;
      ready = record { rows = rows; more = fits };
      unreserved = unreserved;
      farm = farm ∙ ap (λ (m : ℕ). after_act (at_moment f m) m a) later;
      answer = subst (λ (m : ℕ). AnswersAct f m a change.answer) later answer;
    }

-- ---- subscriptions

-- no rows of hosts and slots
pub record IsBare (rows : Rows) : Type 0 where
  pub hosts : rows.hosts.items ≡ []
  pub slots : rows.slots.items ≡ []

pub bare_installed : (f : Farm) (rows : Rows) → IsBare rows → installed f rows ≡ f
bare_installed f rows bare =
    ap (λ (es : List (ℕ × HostLife)). record f { hosts = put_lives f.hosts es; slots = put_slots f.slots rows.slots.items }) bare.hosts
    ∙ ap (λ (es : List SlotChange). record f { slots = put_slots f.slots es }) bare.slots

pub none_distinct : IsDistinct nat_eq []
unfolding IsDistinct
none_distinct = tt

pub one_distinct : (slot : ℕ) → IsDistinct nat_eq (slot ∷ [])
unfolding IsDistinct
one_distinct slot = (tt, tt)

-- of one change that is of the row that stands there
pub one_stood : (slots : List SlotRow) (slot : ℕ) (was row : SlotRow) → slice_get slots slot ≡ Some was → All (Stood slots) (record { slot = slot; was = was; row = row } ∷ [])
one_stood slots slot was row stood = All-cons (Stood slots) (record { slot = slot; was = was; row = row }) [] stood (All-nil (Stood slots))

pub bare_ready : (f : Farm) (rows : Rows) → IsBare rows → AreReady f rows
bare_ready f rows bare =
    record {
      hosts_there = subst (λ (es : List (ℕ × HostLife)). All (λ e. e.0 < length f.hosts) es) (sym bare.hosts) (All-nil _);
      slots_ready = subst (λ (es : List SlotChange). AreInstallable f.subs f.slots es) (sym bare.slots) tt;
      slots_stood = subst (All (Stood f.slots)) (sym bare.slots) (All-nil (Stood f.slots));
      slots_differ = subst (λ (es : List SlotChange). IsDistinct nat_eq (map slot_of es)) (sym bare.slots) none_distinct;
    }

-- of a show and an allocation that are there the number is below the most
pub sub_below : (f : Farm) (show_name alloc_name : List ℕ) (show alloc : ℕ) → KeepsRows f → show_named f show_name ≡ Some show → alloc_named f alloc_name ≡ Some alloc → sub_of show alloc < SUB_NUMBERS
sub_below f show_name alloc_name show alloc kept show_is alloc_is =
    let show_there : show < length f.shows = named_within show_label show_name f.shows show show_is in
    let alloc_there : alloc < length f.allocs = named_within alloc_label alloc_name f.allocs alloc alloc_is in
    omega (arith, show_there, alloc_there, kept.shows.count, kept.allocs.count)

abbrev sub_change : ℕ → SubLine → ℕ → ℕ → Rows → Change
sub_change moment line sub booked rows =
    record {
      moment = moment;
      answer = known.Whole (answer.Sub booked line.burst line.size);
      heard = None;
      rows = rows;
      more = more.Sub sub line.size line.burst;
      reserved = false;
      memory = taken.None;
    }

pub sub_makes : (f : Farm) (line : SubLine) (moment show alloc sub booked : ℕ) (rows : Rows) (change : Change) → f.moment ≤ moment → show_named f line.show ≡ Some show → alloc_named f line.alloc ≡ Some alloc
    → sub ≡ sub_of show alloc → sub < SUB_NUMBERS → booked ≡ booked_in f sub → IsBare rows → change ≡ sub_change moment line sub booked rows → Makes f (record { moment = moment; act = act.Sub line }) change
sub_makes f line moment show alloc sub booked rows change ahead show_is alloc_is sub_is below booked_is bare is =
    let whole : change ≡ sub_change moment line (sub_of show alloc) (booked_in f (sub_of show alloc)) rows =
    is ∙ (ap (λ (n : ℕ). sub_change moment line sub n rows) booked_is ∙ ap (λ (n : ℕ). sub_change moment line n (booked_in f n) rows) sub_is) in
    let within : sub_of show alloc < SUB_NUMBERS = subst (λ (n : ℕ). n < SUB_NUMBERS) sub_is below in
    subst (Makes f (record { moment = moment; act = act.Sub line })) (sym whole)
    (makes f moment (act.Sub line) (sub_change moment line (sub_of show alloc) (booked_in f (sub_of show alloc)) rows) ahead (rw (show_is, alloc_is) refl) tt (bare_ready f rows bare) within refl
    (ap (λ (g : Farm). with_more g moment (more.Sub (sub_of show alloc) line.size line.burst)) (bare_installed (at_moment f moment) rows bare) ∙ rw (show_is, alloc_is) refl)
    (rw (show_is, alloc_is) refl))

-- ---- boots

abbrev boot_change : ℕ → BootLine → BootPlan → ℕ → Rows → Change
boot_change moment line plan boot rows =
    record { moment = moment; answer = known.Whole (answer.Boot boot line.nonce); heard = None; rows = rows; more = more.Boot plan line; reserved = false; memory = taken.None }

pub boot_makes : (f : Farm) (line copy : BootLine) (moment alloc boot : ℕ) (plan : BootPlan) (rows : Rows) (change : Change) → f.moment ≤ moment → alloc_named f line.alloc ≡ Some alloc → plan_of f.hosts line alloc ≡ Ok plan
    → AreReady f rows → installed (at_moment f moment) rows ≡ lives_ended (expire (at_moment f moment) moment) line → boot ≡ boot_in plan → copy ≡ line
    → change ≡ record { moment = moment; answer = known.Whole (answer.Boot boot line.nonce); heard = None; rows = rows; more = more.Boot plan copy; reserved = false; memory = taken.None }
    → Makes f (record { moment = moment; act = act.Boot line }) change
boot_makes f line copy moment alloc boot plan rows change ahead alloc_is plan_is ready installs boot_is same is =
    let p = planned f line alloc plan plan_is in
    let g = expire (at_moment f moment) moment in
    let whole : change ≡ boot_change moment line plan (boot_in plan) rows =
    is ∙ (ap (λ (l : BootLine). record { moment = moment; answer = known.Whole (answer.Boot boot line.nonce); heard = None; rows = rows; more = more.Boot plan l; reserved = false; memory = taken.None }) same ∙ ap (λ (n : ℕ). boot_change moment line plan n rows) boot_is) in
    let fits : plan_of (installed (at_moment f moment) rows).hosts line (alloc_of plan) ≡ Ok plan =
    ap (λ (h : Farm). plan_of h.hosts line (alloc_of plan)) installs ∙ (silenced_plan f.hosts moment line (alloc_of plan) ∙ (ap (λ (n : ℕ). plan_of f.hosts line n) p.alloc_is ∙ plan_is)) in
    subst (Makes f (record { moment = moment; act = act.Boot line })) (sym whole)
    (makes f moment (act.Boot line) (boot_change moment line plan (boot_in plan) rows) ahead (rw alloc_is p.accepted) tt ready fits refl
    (ap (λ (h : Farm). with_more h moment (more.Boot plan line)) installs ∙ ap (λ (o : Option ℕ). after_boot g line moment o) (ap Some p.alloc_is ∙ sym alloc_is))
    (ap (λ (n : ℕ). answer.Boot n line.nonce) p.boot_is))

pub boot_refuses : (f : Farm) (line : BootLine) (moment alloc : ℕ) (fault : FarmFault) → alloc_named f line.alloc ≡ Some alloc → IsBootRefusal f line alloc fault → Prepares f (record { moment = moment; act = act.Boot line }) (Err fault)
boot_refuses f line moment alloc (Refused said) alloc_is h = rw alloc_is h
boot_refuses f line moment alloc NoMemory alloc_is h = tt

-- ---- bookings

abbrev book_change : ℕ → Rows → Change
book_change moment rows = record { moment = moment; answer = known.Whole answer.Booked; heard = None; rows = rows; more = more.Nothing; reserved = false; memory = taken.None }

pub book_makes : (f : Farm) (slot host moment : ℕ) (was row : SlotRow) (rows : Rows) (change : Change) → KeepsRows f → f.moment ≤ moment → may_record f slot host ≡ true → slice_get f.slots slot ≡ Some was → booked_at f slot host moment ≡ Some row
    → rows.hosts.items ≡ [] → rows.slots.items ≡ record { slot = slot; was = was; row = row } ∷ [] → change ≡ book_change moment rows → Makes f (record { moment = moment; act = act.Book slot host }) change
book_makes f slot host moment was row rows change kept ahead allowed stood booked hosts slots is =
    let can = booked_row_installs f slot host moment row booked (waiting_free f slot host kept.sound allowed) kept.hosts.count in
    let ready : AreReady f rows = record {
      hosts_there = subst (λ (es : List (ℕ × HostLife)). All (λ e. e.0 < length f.hosts) es) (sym hosts) (All-nil _);
      slots_ready = subst (λ (es : List SlotChange). AreInstallable f.subs f.slots es) (sym slots) (can, tt);
      slots_stood = subst (All (Stood f.slots)) (sym slots) (one_stood f.slots slot was row stood);
      slots_differ = subst (λ (es : List SlotChange). IsDistinct nat_eq (map slot_of es)) (sym slots) (one_distinct slot);
    } in
    let g = at_moment f moment in
    let farm : installed g rows ≡ with_proc g slot (new_proc g slot host moment) =
    ap (λ (es : List (ℕ × HostLife)). record g { hosts = put_lives f.hosts es; slots = put_slots f.slots rows.slots.items }) hosts
    ∙ (ap (λ (es : List SlotChange). record g { slots = put_slots f.slots es }) slots
    ∙ booked_row_leaves g slot host moment row (booked_at_moment f slot host moment moment ∙ booked)) in
    subst (Makes f (record { moment = moment; act = act.Book slot host })) (sym is)
    (makes f moment (act.Book slot host) (book_change moment rows) ahead refl tt ready tt refl farm refl)
