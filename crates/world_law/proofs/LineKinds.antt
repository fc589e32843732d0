-- What a line comes to over a farm: only a reply, an entry, or a report with its bookings; each whether the store refuses a commit of it or none.
use Rattle.std.proofs.Common.{◌≡◌, ◌<◌, ◌^◌, ◌-◌, ◌&&◌, ℕ, zero, suc, Bool, true, false, cond, List, [], ◌∷◌, take, length, Option, None, Some, Result, Ok, Err, refl, sym, ap, subst, ◌∙◌, ◌⊎◌, inl, inr}
use Rattle.std.specs.List.{AllByRecursion}
use Rattle.std.specs.Prelude.{nat_lt}
use Rattle.std.proofs.lemmas.Option.{none-some, same_Some}
use Rattle.farm_types.specs.declared.dispatch.Candidate.{Candidate}
use Rattle.farm_types.specs.declared.attempt.DoneItem.{DoneItem}
use Rattle.farm_types.specs.declared.entry.Act.{Act}
use Rattle.farm_types.specs.declared.entry.Act.TheVariants as act
use Rattle.farm_types.specs.declared.entry.Entry.{Entry}
use Rattle.farm_types.specs.declared.limits.TheConstants.{BOOKINGS_EACH}
use Rattle.farm_types.specs.declared.refusal.Refusal.{Refusal}
use Rattle.farm_types.specs.Booking.{may_book}
use Rattle.farm_types.specs.Dispatch.{book_entry, plan_for, round_for, round_from}
use Rattle.farm_types.specs.Farm.{Farm, host_named}
use Rattle.farm_types.specs.Run.{IsLegal, IsLegalStep}
use Rattle.farm_types.specs.Step.{HasCondition, after, refusal_of}
use Rattle.farm_law.proofs.LegalRuns.{legal_round, legal_take}
use Rattle.farm_lines.specs.declared.asked.Asked.{Asked}
use Rattle.farm_lines.specs.declared.asked.Asked.TheVariants as asked
use Rattle.farm_lines.specs.declared.limits.TheConstants.{LINE_LIMIT}
use Rattle.farm_lines.specs.declared.reply.ListReply.{ListReply}
use Rattle.farm_lines.specs.declared.reply.Reply.{Reply}
use Rattle.farm_lines.specs.declared.reply.Reply.TheVariants as reply
use Rattle.farm_lines.specs.declared.report.Report.{Report}
use Rattle.farm_lines.specs.declared.request.Request.{Request}
use Rattle.farm_lines.specs.declared.request.Request.TheVariants as request
use Rattle.farm_lines.specs.Asked.{IsFormedAt, asked_of, entry_at, heard_entry}
use Rattle.farm_lines.specs.Lists.{page_listed}
use Rattle.farm_lines.specs.Reply.{error_reply}
use Rattle.farm_lines.specs.Request.{BadAmount, BadLine, BadRange, RequestError, request_of}
use Rattle.farm_lines.specs.Transcript.{Answered, accepted_answer, answer_to, asked_answer, entry_answer, list_reply, marked_answer, only_reply, report_answer, request_answer, unless_memory}
use Rattle.farm_lines.proofs.RequestLemmas.{requests_formed}
use Rattle.world_law.specs.Lines.{mark_of}
use Rattle.world_law.proofs.CountedOnce.{HeardHas}
use Rattle.world_law.proofs.Each.{each_take}

-- ---- replies and acts

-- a reply that is neither a boot's nor a report's
abbrev pub IsOther : Reply → Type 0
IsOther (reply.Boot boot nonce) = ⊥
IsOther (reply.Report r) = ⊥
IsOther other = Unit {0}

-- what an operator may ask for: neither a report nor a booking
abbrev pub IsPlainAct : Act → Type 0
IsPlainAct (act.Heard heard) = ⊥
IsPlainAct (act.Book slot host) = ⊥
IsPlainAct other = Unit {0}

abbrev IsPlain : Asked → Type 0
IsPlain (asked.Act does) = IsPlainAct does
IsPlain other = Unit {0}

asked_plain : (what : Request) → IsPlain (asked_of what)
asked_plain request.Tick = tt
asked_plain what = tt

plain_condition : (f : Farm) (does : Act) → IsPlainAct does → HasCondition f does
plain_condition f (act.Book slot host) plain = absurd plain
plain_condition f does plain = tt

-- the report that is asked, if it is one
abbrev report_in : Asked → Option Report
report_in (asked.Report r) = Some r
report_in other = None

report_of : (what : Request) (r : Report) → asked_of what ≡ asked.Report r → what ≡ request.Report r
report_of (request.Report report) r asks = ap request.Report (same_Some report r (ap report_in asks))
report_of what r asks = absurd (none-some r (ap report_in asks))

error_other : (error : RequestError) → IsOther (error_reply error)
error_other (BadLine field) = tt
error_other (BadRange layer fault) = tt
error_other (BadAmount field) = tt

list_other : (listed : Result ListReply Refusal) → IsOther (list_reply listed)
list_other (Ok page) = tt
list_other (Err why) = tt

-- ---- the kinds

-- only a reply
pub record IsSilent (made : Option ℕ → Answered) : Type 0 where
  pub told : Reply
  pub is : (o : Option ℕ) → made o ≡ only_reply told
  pub other : IsOther told

-- an entry that the farm takes, but of no report
pub record IsEntering (f : Farm) (line : List ℕ) (moment : ℕ) (made : Option ℕ → Answered) : Type 0 where
  pub what : Request
  pub does : Act
  pub reads : request_of line ≡ Ok what
  pub asks : asked_of what ≡ asked.Act does
  pub plain : IsPlainAct does
  pub legal : IsLegalStep f (entry_at moment does)
  pub is : (o : Option ℕ) → made o ≡ entry_answer f (entry_at moment does) (mark_of o) None

-- a report that the farm takes
pub record IsReporting (f : Farm) (line : List ℕ) (moment : ℕ) (made : Option ℕ → Answered) : Type 0 where
  pub report : Report
  pub host : ℕ
  pub reads : request_of line ≡ Ok (request.Report report)
  pub named : host_named f report.heard.host ≡ Some host
  pub legal : IsLegalStep f (heard_entry report moment)
  pub is : (o : Option ℕ) → made o ≡ marked_answer f host report (heard_entry report moment) (round_for (after f (heard_entry report moment)) host moment) (mark_of o)

abbrev pub LineKind : Farm → List ℕ → ℕ → (Option ℕ → Answered) → Type 0
LineKind f line moment made = IsSilent made ⊎ (IsEntering f line moment made ⊎ IsReporting f line moment made)

calm : (o : Option ℕ) (answered : Answered) → unless_memory (mark_of o) answered ≡ answered
calm None answered = refl
calm (Some zero) answered = refl
calm (Some (suc k)) answered = refl

-- ---- each line is of a kind

module _ (f : Farm) (line : List ℕ) (moment : ℕ) (low : moment < 2 ^ 64) (made : Option ℕ → Answered) where
  silent : (told : Reply) → IsOther told → ((o : Option ℕ) → made o ≡ only_reply told) → LineKind f line moment made
  silent told other is = inl (record { told = told; is = is; other = other })

  module _ (report : Report) (reads : request_of line ≡ Ok (request.Report report)) where
    accepted_kind : (host : Option ℕ) → host_named f report.heard.host ≡ host → refusal_of f (heard_entry report moment) ≡ None
        → ((o : Option ℕ) → made o ≡ accepted_answer f report moment (mark_of o) host) → LineKind f line moment made
    accepted_kind None named none is = silent reply.NoMemory tt is
    accepted_kind (Some host) named none is =
        inr (inr (record {
          report = report;
          host = host;
          reads = reads;
          named = named;
          legal = record { formed = requests_formed line (request.Report report) moment low reads; accepted = none; condition = tt };
          is = is;
        }))

    report_kind : (why : Option Refusal) → refusal_of f (heard_entry report moment) ≡ why
        → ((o : Option ℕ) → made o ≡ report_answer f report moment (mark_of o) why) → LineKind f line moment made
    report_kind (Some why) refused is = silent (reply.Refused why) tt is
    report_kind None refused is = accepted_kind (host_named f report.heard.host) refl refused is

  module _ (what : Request) (does : Act) (reads : request_of line ≡ Ok what) (asks : asked_of what ≡ asked.Act does) where
    entry_kind : (why : Option Refusal) → refusal_of f (entry_at moment does) ≡ why
        → ((o : Option ℕ) → made o ≡ entry_answer f (entry_at moment does) (mark_of o) why) → LineKind f line moment made
    entry_kind (Some why) refused is = silent (reply.Refused why) tt is
    entry_kind None refused is =
        let plain : IsPlainAct does = subst IsPlain asks (asked_plain what) in
        inr (inl (record {
          what = what;
          does = does;
          reads = reads;
          asks = asks;
          plain = plain;
          legal = record { formed = subst (IsFormedAt moment) asks (requests_formed line what moment low reads); accepted = refused; condition = plain_condition f does plain };
          is = is;
        }))

  -- what each request comes to
  asked_kind : (what : Request) (a : Asked) → request_of line ≡ Ok what → asked_of what ≡ a
      → ((o : Option ℕ) → made o ≡ asked_answer f moment (mark_of o) a) → LineKind f line moment made
  asked_kind what (asked.Report report) reads asks is =
      report_kind report (reads ∙ ap Ok (report_of what report asks)) (refusal_of f (heard_entry report moment)) refl is
  asked_kind what (asked.Act does) reads asks is = entry_kind what does reads asks (refusal_of f (entry_at moment does)) refl is
  asked_kind what (asked.List query) reads asks is = silent (list_reply (page_listed f query)) (list_other (page_listed f query)) is

  request_kind : (read : Result Request RequestError) → request_of line ≡ read → ((o : Option ℕ) → made o ≡ request_answer f moment (mark_of o) read) → LineKind f line moment made
  request_kind (Err error) reads is = silent (error_reply error) (error_other error) is
  request_kind (Ok what) reads is = asked_kind what (asked_of what) reads refl is

  length_kind : (b : Bool) → ((o : Option ℕ) → made o ≡ cond b (only_reply reply.TooLong) (unless_memory (mark_of o) (request_answer f moment (mark_of o) (request_of line))))
      → LineKind f line moment made
  length_kind true is = silent reply.TooLong tt is
  length_kind false is = request_kind (request_of line) refl (λ o. is o ∙ calm o (request_answer f moment (mark_of o) (request_of line)))

pub line_kind : (f : Farm) (line : List ℕ) (moment : ℕ) → moment < 2 ^ 64 → LineKind f line moment (λ o. answer_to f line moment (mark_of o))
unfolding answer_to
line_kind f line moment low = length_kind f line moment low (λ o. answer_to f line moment (mark_of o)) (nat_lt LINE_LIMIT (length line)) (λ o. refl)

-- ---- the entries of an entering line, and of a report

-- none where the store refuses the entry
abbrev pub entered : Entry → Option ℕ → List Entry
entered e (Some zero) = []
entered e other = e ∷ []

entered_is : (f : Farm) (e : Entry) (o : Option ℕ) → (entry_answer f e (mark_of o) None).entries ≡ entered e o
entered_is f e None = refl
entered_is f e (Some zero) = refl
entered_is f e (Some (suc k)) = refl

-- none where the store refuses the report, and the bookings up to the one that it refuses
abbrev pub reported : Entry → List Entry → Option ℕ → List Entry
reported heard round None = heard ∷ round
reported heard round (Some zero) = []
reported heard round (Some (suc k)) = heard ∷ take k round

reported_is : (f : Farm) (host : ℕ) (r : Report) (heard : Entry) (round : List Entry) (o : Option ℕ)
    → (marked_answer f host r heard round (mark_of o)).entries ≡ reported heard round o
reported_is f host r heard round None = refl
reported_is f host r heard round (Some zero) = refl
reported_is f host r heard round (Some (suc k)) = refl

-- ---- what follows for the entries

module _ (f : Farm) (line : List ℕ) (moment : ℕ) (low : moment < 2 ^ 64) (made : Option ℕ → Answered) where
  abbrev entries : Option ℕ → List Entry
  entries o = (made o).entries

  silent_entries : (k : IsSilent made) (o : Option ℕ) → entries o ≡ []
  silent_entries k o = ap (λ (a : Answered). a.entries) (k.is o)

  entering_entries : (k : IsEntering f line moment made) (o : Option ℕ) → entries o ≡ entered (entry_at moment k.does) o
  entering_entries k o = ap (λ (a : Answered). a.entries) (k.is o) ∙ entered_is f (entry_at moment k.does) o

  abbrev pub round_of : IsReporting f line moment made → List Entry
  round_of k = round_for (after f (heard_entry k.report moment)) k.host moment

  reporting_entries : (k : IsReporting f line moment made) (o : Option ℕ) → entries o ≡ reported (heard_entry k.report moment) (round_of k) o
  reporting_entries k o = ap (λ (a : Answered). a.entries) (k.is o) ∙ reported_is f k.host k.report (heard_entry k.report moment) (round_of k) o

  pub round_legal : (k : IsReporting f line moment made) → IsLegal (after f (heard_entry k.report moment)) (round_of k)
  round_legal k = legal_round BOOKINGS_EACH (after f (heard_entry k.report moment)) moment (plan_for (after f (heard_entry k.report moment)) k.host) low

  entered_legal : (e : Entry) (o : Option ℕ) → IsLegalStep f e → IsLegal f (entered e o)
  entered_legal e None legal = (legal, tt)
  entered_legal e (Some zero) legal = tt
  entered_legal e (Some (suc k)) legal = (legal, tt)

  reported_legal : (heard : Entry) (round : List Entry) (o : Option ℕ) → IsLegalStep f heard → IsLegal (after f heard) round → IsLegal f (reported heard round o)
  reported_legal heard round None legal later = (legal, later)
  reported_legal heard round (Some zero) legal later = tt
  reported_legal heard round (Some (suc k)) legal later = (legal, legal_take (after f heard) k round later)

  pub entries_legal : LineKind f line moment made → (o : Option ℕ) → IsLegal f (entries o)
  entries_legal (inl k) o = subst (IsLegal f) (sym (silent_entries k o)) tt
  entries_legal (inr (inl k)) o = subst (IsLegal f) (sym (entering_entries k o)) (entered_legal (entry_at moment k.does) o k.legal)
  entries_legal (inr (inr k)) o =
      subst (IsLegal f) (sym (reporting_entries k o)) (reported_legal (heard_entry k.report moment) (round_of k) o k.legal (round_legal k))

  -- ---- where the store refuses a commit, the entries before it are recorded

  abbrev no_entries : List Entry
  no_entries = []

  take_none : (k : ℕ) → take k no_entries ≡ no_entries
  take_none zero = refl
  take_none (suc k) = refl

  entered_cut : (e : Entry) (k : ℕ) → entered e (Some k) ≡ take k (entered e None)
  entered_cut e zero = refl
  entered_cut e (suc k) = ap (λ (es : List Entry). e ∷ es) (sym (take_none k))

  reported_cut : (heard : Entry) (round : List Entry) (k : ℕ) → reported heard round (Some k) ≡ take k (reported heard round None)
  reported_cut heard round zero = refl
  reported_cut heard round (suc k) = refl

  pub entries_cut : LineKind f line moment made → (k : ℕ) → entries (Some k) ≡ take k (entries None)
  entries_cut (inl it) k = silent_entries it (Some k) ∙ (sym (take_none k) ∙ ap (take k) (sym (silent_entries it None)))
  entries_cut (inr (inl it)) k = entering_entries it (Some k) ∙ (entered_cut (entry_at moment it.does) k ∙ ap (take k) (sym (entering_entries it None)))
  entries_cut (inr (inr it)) k =
      reporting_entries it (Some k) ∙ (reported_cut (heard_entry it.report moment) (round_of it) k ∙ ap (take k) (sym (reporting_entries it None)))

  -- ---- what is heard in them

  module _ (P : DoneItem → Type 0) (each : (r : Report) → request_of line ≡ Ok (request.Report r) → AllByRecursion P r.heard.done) where
    abbrev Heards : List Entry → Type 0
    Heards es = AllByRecursion (λ (e : Entry). HeardHas P e.act) es

    plain_heard : (does : Act) → IsPlainAct does → HeardHas P does
    plain_heard (act.Heard heard) plain = absurd plain
    plain_heard does plain = tt

    entered_heard : (e : Entry) (o : Option ℕ) → HeardHas P e.act → Heards (entered e o)
    entered_heard e None has = (has, tt)
    entered_heard e (Some zero) has = tt
    entered_heard e (Some (suc k)) has = (has, tt)

    reported_heard : (heard : Entry) (round : List Entry) (o : Option ℕ) → HeardHas P heard.act → Heards round → Heards (reported heard round o)
    reported_heard heard round None has later = (has, later)
    reported_heard heard round (Some zero) has later = tt
    reported_heard heard round (Some (suc k)) has later = (has, each_take (λ (e : Entry). HeardHas P e.act) k round later)

    books_heard : (left : ℕ) (g : Farm) (cs : List Candidate) → Heards (round_from left g moment cs)
    books_heard left g [] = tt
    books_heard left g (c ∷ cs) = by (nat_lt 0 left && may_book g c.slot c.host) (books_heard (left - 1) (after g (book_entry c moment)) cs) (books_heard left g cs)
      where
        by : (b : Bool) → Heards (round_from (left - 1) (after g (book_entry c moment)) moment cs) → Heards (round_from left g moment cs)
            → Heards (cond b (book_entry c moment ∷ round_from (left - 1) (after g (book_entry c moment)) moment cs) (round_from left g moment cs))
        by true booked passed = (tt, booked)
        by false booked passed = passed

    pub entries_heard : LineKind f line moment made → (o : Option ℕ) → Heards (entries o)
    entries_heard (inl it) o = subst Heards (sym (silent_entries it o)) tt
    entries_heard (inr (inl it)) o = subst Heards (sym (entering_entries it o)) (entered_heard (entry_at moment it.does) o (plain_heard it.does it.plain))
    entries_heard (inr (inr it)) o =
        subst Heards (sym (reporting_entries it o))
        (reported_heard (heard_entry it.report moment) (round_of it) o (each it.report it.reads)
        (books_heard BOOKINGS_EACH (after f (heard_entry it.report moment)) (plan_for (after f (heard_entry it.report moment)) it.host)))
