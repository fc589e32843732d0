-- Walks: entries behind entries, and candidate by candidate.
use Rattle.std.proofs.Common.{◌≡◌, ◌∙◌, ℕ, ◌+◌, ◌-◌, ◌<◌, ◌≤◌, ◌&&◌, Bool, true, false, List, [], ◌∷◌, ◌++◌, append-nil, drop, get_or, length, refl, sym, ap, subst}
use Rattle.std.specs.Prelude.{nat_lt, if◌then◌else◌}
use Rattle.std.proofs.lemmas.Bool.{lt-ltb}
use Rattle.std.proofs.lemmas.List.{append_assoc, drop_all, drop_more}
use Rattle.farm_types.specs.declared.dispatch.Candidate.{Candidate}
use Rattle.farm_types.specs.declared.entry.Entry.{Entry}
use Rattle.farm_types.specs.declared.limits.TheConstants.{BOOKINGS_EACH}
use Rattle.farm_types.specs.Booking.{may_record}
use Rattle.farm_types.specs.Dispatch.{book_entry, round_from}
use Rattle.farm_types.specs.Farm.{Farm}
use Rattle.farm_types.specs.Run.{IsLegal, IsLegalStep, run_of}
use Rattle.farm_types.specs.Step.{after}
use Rattle.dispatcher.specs.Ready.{AreReady, IsReady}
use Rattle.dispatcher.proofs.Candidates.{due_is, ready_after}
use Rattle.world_answers.specs.declared.walking.Walk.{Walk}
use Rattle.world_answers.specs.Walking.{AreSaid, Offered, Says, WalkedOn}

run_both : (f : Farm) (es fs : List Entry) → run_of f (es ++ fs) ≡ run_of (run_of f es) fs
run_both f [] fs = refl
run_both f (e ∷ es) fs = run_both (after f e) es fs

legal_both : (f : Farm) (es fs : List Entry) → IsLegal f es → IsLegal (run_of f es) fs → IsLegal f (es ++ fs)
legal_both f [] fs first later = later
legal_both f (e ∷ es) fs first later = (first.0, legal_both (after f e) es fs first.1 later)

said_both : (f : Farm) (es fs : List Entry) (bs cs : List Bool) → AreSaid f es bs → AreSaid (run_of f es) fs cs → AreSaid f (es ++ fs) (bs ++ cs)
said_both f [] fs [] cs first later = later
said_both f [] fs (b ∷ bs) cs first later = absurd first
said_both f (e ∷ es) fs [] cs first later = absurd first
said_both f (e ∷ es) fs (b ∷ bs) cs first later = (first.0, said_both (after f e) es fs bs cs first.1 later)

-- ---- walks

none_walked : (v : Walk) → WalkedOn v [] v
none_walked v = record { legal = tt; farm = refl; entries = sym (append-nil v.entries); flags = []; stored = sym (append-nil v.stored); said = tt }

pub one_walked : (v w : Walk) (e : Entry) (b : Bool) → IsLegalStep v.farm e → Says b v.farm (after v.farm e) → w.farm ≡ after v.farm e
    → w.entries ≡ v.entries ++ e ∷ []
    → w.stored ≡ v.stored ++ b ∷ [] → WalkedOn v (e ∷ []) w
one_walked v w e b legal says farm entries stored =
    record { legal = (legal, tt); farm = farm; entries = entries; flags = b ∷ []; stored = stored; said = (says, tt) }

then_walked : (v w x : Walk) (es fs : List Entry) → WalkedOn v es w → WalkedOn w fs x → WalkedOn v (es ++ fs) x
then_walked v w x es fs first later =
    record {
      legal = legal_both v.farm es fs first.legal (subst (λ (g : Farm). IsLegal g fs) first.farm later.legal);
      farm = later.farm ∙ (ap (λ (g : Farm). run_of g fs) first.farm ∙ sym (run_both v.farm es fs));
      entries = later.entries ∙ (ap (λ (l : List Entry). l ++ fs) first.entries ∙ append_assoc v.entries es fs);
      flags = first.flags ++ later.flags;
      stored = later.stored ∙ (ap (λ (l : List Bool). l ++ later.flags) first.stored ∙ append_assoc v.stored first.flags later.flags);
      said = said_both v.farm es fs first.flags later.flags first.said (subst (λ (g : Farm). AreSaid g fs later.flags) first.farm later.said);
    }

-- ---- one candidate

module _ (v : Walk) (c : Candidate) (moment : ℕ) where
  pub none_left : (left : ℕ) → left ≡ 0 → Offered left v c moment 0 v
  none_left left none =
      record {
        booked = [];
        walked = none_walked v;
        goes_on = λ later. ap (λ (n : ℕ). round_from n v.farm moment (c ∷ later)) (sym none);
        ready = λ cs off all. all;
      }

  module _ (left : ℕ) (ready : IsReady v.farm c) where
    abbrev turn : List Candidate → Bool → List Entry
    turn later b =
        if nat_lt 0 left && b
        then book_entry c moment ∷ round_from (left - 1) (after v.farm (book_entry c moment)) moment later
        else round_from left v.farm moment later

    passed : (later : List Candidate) (b : Bool) → round_from left v.farm moment later
        ≡ (if b && false
        then book_entry c moment ∷ round_from (left - 1) (after v.farm (book_entry c moment)) moment later
        else round_from left v.farm moment later)
    passed later true = refl
    passed later false = refl

    pub passed_over : may_record v.farm c.slot c.host ≡ false → Offered left v c moment left v
    passed_over may =
        record {
          booked = [];
          walked = none_walked v;
          goes_on = λ later. passed later (nat_lt 0 left) ∙ ap (turn later) (sym (due_is v.farm c ready ∙ may));
          ready = λ cs off all. all;
        }

    pub was_booked : 0 < left → may_record v.farm c.slot c.host ≡ true → (w : Walk) → WalkedOn v (book_entry c moment ∷ []) w
        → Offered left v c moment (left - 1) w
    was_booked some may w walked =
        record {
          booked = book_entry c moment ∷ [];
          walked = walked;
          goes_on = λ later.
              ap (λ (g : Farm). book_entry c moment ∷ round_from (left - 1) g moment later) walked.farm
              ∙ (ap (λ (b : Bool).
              if b && true
              then book_entry c moment ∷ round_from (left - 1) (after v.farm (book_entry c moment)) moment later
              else round_from left v.farm moment later)
              (sym (lt-ltb 0 left some)) ∙ ap (turn later) (sym (due_is v.farm c ready ∙ may)));
          ready = λ cs off all. subst (λ (g : Farm). AreReady g cs) (sym walked.farm) (ready_after v.farm c moment cs off all);
        }

-- ---- candidate by candidate

module _ (old : Walk) (moment : ℕ) (all : List Candidate) where
  -- so many bookings and these candidates are left
  pub record IsWalking (left : ℕ) (now : Walk) (rest : List Candidate) : Type 0 where
    pub booked : List Entry
    pub walked : WalkedOn old booked now
    pub goes_on : booked ++ round_from left now.farm moment rest ≡ round_from BOOKINGS_EACH old.farm moment all
    pub ready : AreReady now.farm rest

  pub begins_walking : AreReady old.farm all → IsWalking BOOKINGS_EACH old all
  begins_walking ready = record { booked = []; walked = none_walked old; goes_on = refl; ready = ready }

  pub walks_on : (left : ℕ) (now : Walk) (c : Candidate) (rest : List Candidate) → IsWalking left now (c ∷ rest) → (left_then : ℕ) (w : Walk)
      → Offered left now c moment left_then w → IsWalking left_then w rest
  walks_on left now c rest so left_then w offered =
      record {
        booked = so.booked ++ offered.booked;
        walked = then_walked old now w so.booked offered.booked so.walked offered.walked;
        goes_on = append_assoc so.booked offered.booked (round_from left_then w.farm moment rest)
            ∙ (ap (λ (es : List Entry). so.booked ++ es) (offered.goes_on rest) ∙ so.goes_on);
        ready = offered.ready rest so.ready.1 so.ready.2;
      }

  pub walk_ends : (left : ℕ) (now : Walk) → IsWalking left now [] → WalkedOn old (round_from BOOKINGS_EACH old.farm moment all) now
  walk_ends left now so = subst (λ (es : List Entry). WalkedOn old es now) (sym (append-nil so.booked) ∙ so.goes_on) so.walked

  -- ---- the candidate at a place of the list

  at_item : (left i : ℕ) (now : Walk) (c : Candidate) → i < length all → c ≡ get_or all i c → IsWalking left now (drop i all)
      → IsWalking left now (c ∷ drop (i + 1) all)
  at_item left i now c within is so = subst (IsWalking left now) (drop_more all i c within ∙ ap (λ (x : Candidate). x ∷ drop (i + 1) all) (sym is)) so

  pub ready_item : (left i : ℕ) (now : Walk) (c : Candidate) → i < length all → c ≡ get_or all i c → IsWalking left now (drop i all) → IsReady now.farm c
  ready_item left i now c within is so = (at_item left i now c within is so).ready.0

  pub walks_item : (left i : ℕ) (now : Walk) (c : Candidate) → i < length all → c ≡ get_or all i c → IsWalking left now (drop i all)
      → (left_then : ℕ) (w : Walk)
      → Offered left now c moment left_then w → IsWalking left_then w (drop (i + 1) all)
  walks_item left i now c within is so left_then w offered = walks_on left now c (drop (i + 1) all) (at_item left i now c within is so) left_then w offered

  pub walk_over : (left i : ℕ) (now : Walk) → length all ≤ i → IsWalking left now (drop i all) → WalkedOn old (round_from BOOKINGS_EACH old.farm moment all) now
  walk_over left i now past so = walk_ends left now (subst (IsWalking left now) (drop_all i all past) so)
