-- What follows of depends keeps the law, books safely and completes nothing.
use Rattle.std.proofs.Common.{◌≡◌, ℕ, true, List, [], ◌∷◌, length, Option, Some, None, refl, sym, ap, subst, ◌∙◌, inl, inr, arith, option_map}
use Rattle.std.proofs.lemmas.Bool.{false≢true}
use Rattle.farm_types.proofs.Lists.{for_some_true}
use Rattle.farm_types.specs.declared.attempt.Attempt.{Attempt}
use Rattle.farm_types.specs.declared.attempt.ProcRow.{ProcRow}
use Rattle.farm_types.specs.declared.entry.Act.{Act}
use Rattle.farm_types.specs.declared.entry.Act.TheVariants.{Book}
use Rattle.farm_types.specs.declared.slot_row.Frame.{Frame}
use Rattle.farm_types.specs.declared.slot_row.SlotRow.{SlotRow}
use Rattle.farm_types.specs.declared.states.FrameState.{FrameState}
use Rattle.farm_types.specs.declared.states.FrameState.TheVariants.{Waiting, Setup, Running, Succeeded, Depend, Dead, Eaten}
use Rattle.farm_types.specs.Farm.{Farm}
use Rattle.farm_types.specs.Run.{ActsSafely, HasItsAttempt, IsAttemptOf, OnHostOf}
use Rattle.farm_types.specs.Step.{followed}
use Rattle.farm_types.specs.Sums.{cores_on, memory_on}
use Rattle.farm_law.proofs.Follows.{Follows, IsRestated, SlotFollows, act_follows, is_idle, with_rest_of, with_state}
use Rattle.farm_law.proofs.KeepsLaw.{KeepsLaw}
use Rattle.farm_law.proofs.KeptJobsZip.{zip_stays, zip_sum, zip_was, zip_weaker}
use Rattle.farm_law.proofs.Once.{AreSpent, CountsOnce}
use Rattle.farm_law.proofs.RowsStay.{SlotStays, allocs_same, frame_job, hosts_same, jobs_same, slot_same}
use Rattle.farm_law.proofs.Spent.{IsSpent, spent_stays}

-- ---- one slot

idle_has_none : (place version : ℕ) (state : FrameState) (proc : Option ProcRow) → is_idle state ≡ true → IsAttemptOf place version state proc → proc ≡ None
idle_has_none place version Waiting None idle has = refl
idle_has_none place version Waiting (Some p) idle has = absurd has
idle_has_none place version Depend None idle has = refl
idle_has_none place version Depend (Some p) idle has = absurd has
idle_has_none place version Setup proc idle has = absurd (false≢true idle)
idle_has_none place version Running proc idle has = absurd (false≢true idle)
idle_has_none place version Succeeded proc idle has = absurd (false≢true idle)
idle_has_none place version Dead proc idle has = absurd (false≢true idle)
idle_has_none place version Eaten proc idle has = absurd (false≢true idle)

-- a slot that is restated has no attempt
pub restated_has_none : (place : ℕ) (s t : SlotRow) → IsRestated s t → HasItsAttempt place s.version s.frame s.proc → s.proc ≡ None
restated_has_none place s t re has =
    let x = for_some_true s.frame (λ (x : Frame). is_idle x.state) re.idle in
    idle_has_none place s.version x.0.state s.proc x.2 (subst (λ (o : Option Frame). HasItsAttempt place s.version o s.proc) x.1 has)

idle_attempt : (place version : ℕ) (state : FrameState) → is_idle state ≡ true → IsAttemptOf place version state None
idle_attempt place version Waiting idle = tt
idle_attempt place version Depend idle = tt
idle_attempt place version Setup idle = tt
idle_attempt place version Running idle = absurd (false≢true idle)
idle_attempt place version Succeeded idle = tt
idle_attempt place version Dead idle = tt
idle_attempt place version Eaten idle = tt

restated_attempt : (place version : ℕ) (state : FrameState) (frame : Option Frame) → is_idle state ≡ true → HasItsAttempt place version (option_map (with_state state) frame) None
restated_attempt place version state None idle = tt
restated_attempt place version state (Some x) idle = idle_attempt place version state idle

-- its frame still has its attempt, or none
slot_attempt : (place : ℕ) (s t : SlotRow) → SlotFollows s t → HasItsAttempt place s.version s.frame s.proc → HasItsAttempt place t.version t.frame t.proc
slot_attempt place s t (inl same) has = subst (λ (x : SlotRow). HasItsAttempt place x.version x.frame x.proc) (sym same) has
slot_attempt place s t (inr re) has =
    let none : t.proc ≡ None = re.proc ∙ restated_has_none place s t re has in
    subst (λ (o : Option ProcRow). HasItsAttempt place t.version t.frame o) (sym none)
    (subst (λ (o : Option Frame). HasItsAttempt place t.version o None) (sym re.frame) (restated_attempt place t.version re.state s.frame re.idle_now))

pub slot_proc : (s t : SlotRow) → SlotFollows s t → t.proc ≡ s.proc
slot_proc s t (inl same) = ap (λ (x : SlotRow). x.proc) same
slot_proc s t (inr re) = re.proc

restated_job : (state : FrameState) (frame : Option Frame) → frame_job (option_map (with_state state) frame) ≡ frame_job frame
restated_job state None = refl
restated_job state (Some x) = refl

slot_stays : (s t : SlotRow) → SlotFollows s t → SlotStays s t
slot_stays s t (inl same) = subst (SlotStays s) (sym same) (slot_same s)
slot_stays s t (inr re) =
    record {
      version = re.version;
      proc = λ e none. re.proc ∙ none;
      job = λ e below n has. ap frame_job re.frame ∙ (restated_job re.state s.frame ∙ has);
    }

-- ---- a farm

-- the law, where slots follow and depends are any
rest_law : (f g : Farm) → Follows f g → KeepsLaw f (with_rest_of f g)
rest_law f g follows =
    let sum = λ (weight : Option ProcRow → ℕ). zip_sum SlotFollows (λ (s : SlotRow). weight s.proc) (λ s t slot. ap weight (slot_proc s t slot)) f.slots g.slots follows.slots in
    record {
      sound = λ ok there.
          record {
            cores = λ n row at. omega (arith, sum (cores_on n), ok.cores n row at);
            memory = λ n row at. omega (arith, sum (memory_on n), ok.memory n row at);
            attempts = λ i t at.
                let was = zip_was SlotFollows f.slots g.slots follows.slots i t at in
                slot_attempt i was.0 t was.2 (ok.attempts i was.0 was.1);
          };
      hosts = λ ok there i t at.
          let was = zip_was SlotFollows f.slots g.slots follows.slots i t at in
          subst (OnHostOf (length f.hosts)) (sym (slot_proc was.0 t was.2)) (there i was.0 was.1);
      rows =
          record {
            slots = zip_stays SlotStays f.slots g.slots (zip_weaker SlotFollows SlotStays slot_stays f.slots g.slots follows.slots);
            hosts = hosts_same f.hosts;
            allocs = allocs_same f.allocs;
            jobs = jobs_same f.jobs;
          };
    }

pub follows_law : (f g : Farm) → Follows f g → KeepsLaw f g
follows_law f g follows = subst (KeepsLaw f) (sym follows.rest) (rest_law f g follows)

pub followed_law : (act : Act) (f : Farm) → KeepsLaw f (followed act f)
followed_law act f = follows_law f (followed act f) (act_follows act f)

-- ---- what it books and completes

-- nothing follows of a booking
pub followed_safely : (old new : Farm) (act : Act) → ActsSafely old new act → ActsSafely old (followed act new) act
followed_safely old new (Book slot host) safe = safe
followed_safely old new act safe = tt

pub AreSpent-stay : (f g : Farm) (xs : List Attempt) → ((a : Attempt) → IsSpent f a → IsSpent g a) → AreSpent f xs → AreSpent g xs
AreSpent-stay f g [] stays spent = tt
AreSpent-stay f g (x ∷ xs) stays spent = (stays x spent.0, AreSpent-stay f g xs stays spent.1)

-- what ended stays so
pub followed_counts : (act : Act) (f g : Farm) (xs : List Attempt) → CountsOnce f g xs → CountsOnce f (followed act g) xs
followed_counts act f g xs counts =
    record {
      none = counts.none;
      spent = AreSpent-stay g (followed act g) xs (spent_stays g (followed act g) (followed_law act g).rows.slots) counts.spent;
      differ = counts.differ;
    }
