-- What the running list keeps while launches are taken, and when an attempt ends.
use Rattle.std.proofs.Common.{◌≡◌, ◌≤◌, ℕ, ◌+◌, ◌&&◌, ◌||◌, Bool, true, false, cond, not, List, [], ◌∷◌, ◌++◌, map, length, Option, None, Some, IfOk, Result, Ok, Err, refl, sym, ap, subst, ◌∙◌, arith, append_assoc, append-nil, leb-true}
use Rattle.std.specs.Prelude.{nat_le, if◌then◌else◌}
use Rattle.std.specs.List.{All, AllByRecursion, IsDistinct, filter}
use Rattle.std.proofs.lemmas.Bool.{eq-eqb, true≢false}
use Rattle.std.proofs.lemmas.List.Elements.{All-from_recursion}
use Rattle.std.proofs.lemmas.List.Sums.{sum_by-append, sum_by-cons}
use Rattle.std.proofs.lemmas.Map.Keys.{IsDistinct-cons, IsDistinct-head, IsDistinct-tail}
use Rattle.farm_types.specs.declared.attempt.Attempt.{Attempt}
use Rattle.farm_types.specs.declared.attempt.DoneItem.{DoneItem}
use Rattle.farm_types.specs.Run.{is_same}
use Rattle.farm_lines.specs.declared.launch.Launch.{Launch}
use Rattle.farm_lines.specs.declared.reply.Reply.{Reply}
use Rattle.farm_lines.specs.declared.reply.Reply.TheVariants as reply
use Rattle.farm_lines.specs.declared.reply.ReportReply.{ReportReply}
use Rattle.farm_lines.specs.ReplyLines.{reply_of}
use Rattle.rqd_core.specs.declared.sent_line.SentLine.{SentLine}
use Rattle.rqd_core.specs.declared.orders.Orders.{Orders}
use Rattle.rqd_core.specs.declared.orders.RqdFault.{RqdFault}
use Rattle.rqd_core.specs.declared.planned.Planned.{Planned}
use Rattle.rqd_core.specs.declared.running.Running.{Running}
use Rattle.rqd_core.specs.declared.taking.Taking.{Taking}
use Rattle.rqd_core.specs.Keeping.{AreStarted, CanInstall, Follows, IsReadyFor, IsStarting, ComesTo, IsWithin, taking_for}
use Rattle.rqd_core.specs.Life.{Life, attempts_of, cores_of, is_run, without}
use Rattle.rqd_core.specs.Replies.{after_report, all_launched, answered, code_of, first_taking, is_done, is_of_boot, is_of_report, launched, no_orders, not_latest, placed, refused_with, running_among, started, take_boot, take_line, take_other, take_read, take_reply, take_report, unfit}

-- ---- attempts that differ

-- none of these is the attempt
abbrev pub AreOthers : Attempt → List Attempt → Type 0
AreOthers a others = AllByRecursion (λ (b : Attempt). is_same a b ≡ false) others

others_more : (a : Attempt) (xs : List Attempt) (x : Attempt) → AreOthers a xs → is_same a x ≡ false → AreOthers a (xs ++ x ∷ [])
others_more a [] x all apart = (apart, tt)
others_more a (y ∷ ys) x all apart = (all.0, others_more a ys x all.1 apart)

left_false : (b c : Bool) → (b || c) ≡ false → b ≡ false
left_false true c is = is
left_false false c is = refl

right_false : (b c : Bool) → (b || c) ≡ false → c ≡ false
right_false true c is = absurd (true≢false is)
right_false false c is = is

-- an attempt that isn't among them joins them
differ_more : (running : List Running) (x : Attempt) → IsDistinct is_same (attempts_of running) → is_run x running ≡ false → IsDistinct is_same (attempts_of running ++ x ∷ [])
differ_more [] x differ apart = IsDistinct-cons is_same x [] tt differ
differ_more (r ∷ rs) x differ apart =
    IsDistinct-cons is_same r.attempt (attempts_of rs ++ x ∷ [])
    (others_more r.attempt (attempts_of rs) x (IsDistinct-head is_same r.attempt (attempts_of rs) differ) (left_false (is_same r.attempt x) (is_run x rs) apart))
    (differ_more rs x (IsDistinct-tail is_same r.attempt (attempts_of rs) differ) (right_false (is_same r.attempt x) (is_run x rs) apart))

others_left : (a : Attempt) (keep : Running → Bool) (rs : List Running) → AreOthers a (attempts_of rs) → AreOthers a (attempts_of (filter keep rs))
others_left a keep [] all = tt
others_left a keep (r ∷ rs) all = by (keep r) (others_left a keep rs all.1)
  where
    by : (b : Bool) → AreOthers a (attempts_of (filter keep rs)) → AreOthers a (attempts_of (cond b (r ∷ filter keep rs) (filter keep rs)))
    by true more = (all.0, more)
    by false more = more

differ_left : (keep : Running → Bool) (rs : List Running) → IsDistinct is_same (attempts_of rs) → IsDistinct is_same (attempts_of (filter keep rs))
differ_left keep [] differ = differ
differ_left keep (r ∷ rs) differ = by (keep r) (differ_left keep rs (IsDistinct-tail is_same r.attempt (attempts_of rs) differ))
  where
    by : (b : Bool) → IsDistinct is_same (attempts_of (filter keep rs)) → IsDistinct is_same (attempts_of (cond b (r ∷ filter keep rs) (filter keep rs)))
    by true more =
        IsDistinct-cons is_same r.attempt (attempts_of (filter keep rs)) (others_left r.attempt keep rs (IsDistinct-head is_same r.attempt (attempts_of rs) differ)) more
    by false more = more

differ_behind : (xs ys : List Attempt) → IsDistinct is_same (xs ++ ys) → IsDistinct is_same ys
differ_behind [] ys differ = differ
differ_behind (x ∷ xs) ys differ = differ_behind xs ys (IsDistinct-tail is_same x (xs ++ ys) differ)

-- ---- the ends

cores_step : (r : Running) (rs kept : List Running) (b : Bool) → cores_of kept ≤ cores_of rs → cores_of (cond b (r ∷ kept) kept) ≤ cores_of (r ∷ rs)
cores_step r rs kept true less = omega (arith, sum_by-cons (λ (r : Running). r.cores) r kept, sum_by-cons (λ (r : Running). r.cores) r rs, less)
cores_step r rs kept false less = omega (arith, sum_by-cons (λ (r : Running). r.cores) r rs, less)

cores_left : (keep : Running → Bool) (rs : List Running) → cores_of (filter keep rs) ≤ cores_of rs
cores_left keep [] = omega arith
cores_left keep (r ∷ rs) = cores_step r rs (filter keep rs) (keep r) (cores_left keep rs)

-- what runs without an attempt is within the total too
pub within_left : (a : Attempt) (running : List Running) (total : ℕ) → IsWithin running total → IsWithin (without a running) total
within_left a running total within = record {
  differ = differ_left (λ (r : Running). not (is_same r.attempt a)) running within.differ;
  cores = omega (arith, cores_left (λ (r : Running). not (is_same r.attempt a)) running, within.cores);
}

length_left : (keep : Running → Bool) (rs : List Running) → length (filter keep rs) ≤ length rs
length_left keep [] = omega arith
length_left keep (r ∷ rs) = by (keep r) (length_left keep rs)
  where
    by : (b : Bool) → length (filter keep rs) ≤ length rs → length (cond b (r ∷ filter keep rs) (filter keep rs)) ≤ length (r ∷ rs)
    by true less = omega (arith, less)
    by false less = omega (arith, less)

-- one that runs leaves a place
pub fewer_left : (a : Attempt) (running : List Running) → is_run a running ≡ true → length (without a running) + 1 ≤ length running
fewer_left a [] runs = absurd (true≢false (sym runs))
fewer_left a (r ∷ rs) runs = by (is_same r.attempt a) refl (fewer_left a rs)
  where
    by : (b : Bool) → is_same r.attempt a ≡ b → (is_run a rs ≡ true → length (without a rs) + 1 ≤ length rs) → length (cond (not b) (r ∷ without a rs) (without a rs)) + 1 ≤ length (r ∷ rs)
    by true is fewer = omega (arith, length_left (λ (r : Running). not (is_same r.attempt a)) rs)
    by false is fewer = omega (arith, fewer (ap (λ (b : Bool). b || is_run a rs) (sym is) ∙ runs))

pub attempts_left : (a : Attempt) (running : List Running) → attempts_of (without a running) ≡ filter (λ (b : Attempt). not (is_same b a)) (attempts_of running)
attempts_left a [] = refl
attempts_left a (r ∷ rs) = by (not (is_same r.attempt a)) (attempts_left a rs)
  where
    by : (b : Bool) → attempts_of (without a rs) ≡ filter (λ (b : Attempt). not (is_same b a)) (attempts_of rs)
        → attempts_of (cond b (r ∷ without a rs) (without a rs))
        ≡ cond b (r.attempt ∷ filter (λ (b : Attempt). not (is_same b a)) (attempts_of rs)) (filter (λ (b : Attempt). not (is_same b a)) (attempts_of rs))
    by true same = ap (λ (rest : List Attempt). r.attempt ∷ rest) same
    by false same = same

-- ---- the launches

-- a launch that was started
abbrev pub ran : Launch → Running
ran l = record { attempt = l.attempt; cores = l.cores }

-- the running attempts differ, they and the free cores are the total, and the starts stand at the list's end
pub record IsTaking (olds : List Running) (total : ℕ) (t : Taking) : Type 0 where
  pub differ : IsDistinct is_same (attempts_of t.running)
  pub cores : t.free + cores_of t.running ≡ total
  pub starts : t.running ≡ olds ++ map ran t.starts

map_more : {X Y : Type 0} (f : X → Y) (xs : List X) (x : X) → map f (xs ++ x ∷ []) ≡ map f xs ++ f x ∷ []
map_more f [] x = refl
map_more f (y ∷ ys) x = ap (λ zs. f y ∷ zs) (map_more f ys x)

module _ (olds : List Running) (total : ℕ) where
  started_keeps : (t : Taking) (l : Launch) → IsTaking olds total t → is_run l.attempt t.running ≡ false → l.cores ≤ t.free → IsTaking olds total (started t l)
  started_keeps t l was apart fits =
      let weight : Running → ℕ = λ (r : Running). r.cores in
      record {
        differ = subst (IsDistinct is_same) (sym (map_more (λ (r : Running). r.attempt) t.running (ran l))) (differ_more t.running l.attempt was.differ apart);
        cores = omega (arith, fits, was.cores, sum_by-append weight t.running (ran l ∷ []), sum_by-cons weight (ran l) []);
        starts =
            ap (λ (rs : List Running). rs ++ ran l ∷ []) was.starts ∙ (append_assoc olds (map ran t.starts) (ran l ∷ [])
            ∙ sym (ap (λ (rs : List Running). olds ++ rs) (map_more ran t.starts l)));
      }

  unfit_keeps : (t : Taking) (a : Attempt) → IsTaking olds total t → IsTaking olds total (unfit t a)
  unfit_keeps t a was = record { differ = was.differ; cores = was.cores; starts = was.starts }

  placed_keeps : (t : Taking) (l : Launch) → IsTaking olds total t → is_run l.attempt t.running ≡ false → IsTaking olds total (placed t l)
  placed_keeps t l was apart = by (nat_le l.cores t.free) refl
    where
      by : (b : Bool) → nat_le l.cores t.free ≡ b → IsTaking olds total (if b then started t l else unfit t l.attempt)
      by true fits = started_keeps t l was apart (leb-true l.cores t.free fits)
      by false fits = unfit_keeps t l.attempt was

  launched_keeps : (t : Taking) (l : Launch) → IsTaking olds total t → IsTaking olds total (launched t l)
  launched_keeps t l was = by (is_run l.attempt t.running || is_done l.attempt t.finished) refl
    where
      by : (b : Bool) → (is_run l.attempt t.running || is_done l.attempt t.finished) ≡ b → IsTaking olds total (if b then t else placed t l)
      by true known = was
      by false known = placed_keeps t l was (left_false (is_run l.attempt t.running) (is_done l.attempt t.finished) known)

  pub all_launched_keeps : (t : Taking) (ls : List Launch) → IsTaking olds total t → IsTaking olds total (all_launched t ls)
  all_launched_keeps t [] was = was
  all_launched_keeps t (l ∷ ls) was = all_launched_keeps (launched t l) ls (launched_keeps t l was)

pub first_keeps : (l : Life) (acks : List Attempt) → IsWithin l.running l.config.cores → IsTaking l.running l.config.cores (first_taking l acks)
first_keeps l acks within = record { differ = within.differ; cores = omega (arith, within.cores); starts = sym (append-nil l.running) }

-- what runs then is within the total
pub taken_within : (olds : List Running) (total : ℕ) (t : Taking) → IsTaking olds total t → IsWithin t.running total
taken_within olds total t taking = record { differ = taking.differ; cores = omega (arith, taking.cores) }

-- ---- the starts

same_self : (a : Attempt) → is_same a a ≡ true
same_self a = λ i. eq-eqb a.slot a.slot refl i && eq-eqb a.version a.version refl i

or_true : (b c : Bool) → c ≡ true → (b || c) ≡ true
or_true true c is = refl
or_true false c is = is

run_behind : (a : Attempt) (front rs : List Running) → is_run a rs ≡ true → is_run a (front ++ rs) ≡ true
run_behind a [] rs runs = runs
run_behind a (r ∷ front) rs runs = or_true (is_same r.attempt a) (is_run a (front ++ rs)) (run_behind a front rs runs)

all_run : (front : List Running) (ls : List Launch) → AllByRecursion (λ (l : Launch). is_run l.attempt (front ++ map ran ls) ≡ true) ls
all_run front [] = tt
all_run front (l ∷ ls) = (
  run_behind l.attempt front (ran l ∷ map ran ls) (ap (λ (b : Bool). b || is_run l.attempt (map ran ls)) (same_self l.attempt)),
  subst (λ (rs : List Running). AllByRecursion (λ (k : Launch). is_run k.attempt rs ≡ true) ls) (append_assoc front (ran l ∷ []) (map ran ls)) (all_run (front ++ ran l ∷ []) ls),
)

starts_behind : (front : List Running) (ls : List Launch) → attempts_of (front ++ map ran ls) ≡ attempts_of front ++ map (λ (l : Launch). l.attempt) ls
starts_behind [] [] = refl
starts_behind [] (l ∷ ls) = ap (λ (rest : List Attempt). l.attempt ∷ rest) (starts_behind [] ls)
starts_behind (r ∷ front) ls = ap (λ (rest : List Attempt). r.attempt ∷ rest) (starts_behind front ls)

pub are_started : (olds : List Running) (total : ℕ) (t : Taking) → IsTaking olds total t → AreStarted t.starts t.running
are_started olds total t taking = record {
  differ =
      differ_behind (attempts_of olds) (map (λ (l : Launch). l.attempt) t.starts)
      (subst (IsDistinct is_same) (ap attempts_of taking.starts ∙ starts_behind olds t.starts) taking.differ);
  run =
      subst (λ (rs : List Running). All (λ (l : Launch). is_run l.attempt rs ≡ true) t.starts) (sym taking.starts)
      (All-from_recursion (λ (l : Launch). is_run l.attempt (olds ++ map ran t.starts) ≡ true) t.starts (all_run olds t.starts));
}

-- ---- the reply to the latest report

abbrev ok_orders : Orders → Result Orders RqdFault
ok_orders o = Ok o

-- the launches keep it
pub taken : (l : Life) (r : ReportReply) → IsWithin l.running l.config.cores → IsTaking l.running l.config.cores (taking_for l r)
taken l r within = all_launched_keeps l.running l.config.cores (first_taking l r.acks) r.launches (first_keeps l r.acks within)

module _ (l : Life) (r : ReportReply) (p : Planned) (within : IsWithin l.running l.config.cores) (ready : IsReadyFor (taking_for l r) (running_among l.running r.kills) p) where
  can_install : CanInstall l p
  can_install = record {
    within = subst (λ (rs : List Running). IsWithin rs l.config.cores) (sym ready.running) (taken_within l.running l.config.cores (taking_for l r) (taken l r within));
    attempts = ready.attempts ∙ ap attempts_of (sym ready.running);
    room = omega (arith, ap (λ (ds : List DoneItem). length ds) ready.finished, ap (λ (rs : List Running). length rs) ready.running, ready.room);
  }

  pub follows : Follows l r p
  follows = record {
    can = can_install;
    life = λ i. record l { running = ready.running i; finished = ready.finished i; awaited = None };
    told = ap (λ (o : Orders). ok_orders o) (sym ready.orders);
  }

pub all_follow : {E : Type 0} (l : Life) (r : ReportReply) (t : Taking) (stops : List Attempt) (result : Result Planned E) → IsWithin l.running l.config.cores → t ≡ taking_for l r → stops ≡ running_among l.running r.kills
    → IfOk result (IsReadyFor t stops) → IfOk result (Follows l r)
all_follow l r t stops (Err e) within taken stopped ready = tt
all_follow l r t stops (Ok p) within taken stopped ready =
    follows l r p within (subst (λ (u : Taking). IsReadyFor u (running_among l.running r.kills) p) taken (subst (λ (ss : List Attempt). IsReadyFor t ss p) stopped ready))

-- ---- a life that begins

nothing_differs : IsDistinct is_same []
unfolding IsDistinct
nothing_differs = tt

pub new_within : (total : ℕ) → IsWithin [] total
new_within total = record { differ = nothing_differs; cores = omega arith }

-- ---- what replies start

report_starts : (l : Life) (r : ReportReply) → IsWithin l.running l.config.cores → IsStarting (take_report l r)
report_starts l r within = by (is_of_report r l.awaited)
  where
    by : (b : Bool) → IsStarting (if b then after_report (answered l) r else not_latest l r.seq)
    by true =
        are_started l.running l.config.cores (taking_for l r) (taken l r within)
    by false = tt

none_started : (running : List Running) → AreStarted [] running
none_started running = record { differ = nothing_differs; run = All-from_recursion (λ (l : Launch). is_run l.attempt running ≡ true) [] tt }

boot_starts : (l : Life) (boot nonce : ℕ) → IsStarting (take_boot l boot nonce)
boot_starts l boot nonce = by (is_of_boot l.config.nonce nonce l.awaited)
  where
    by : (b : Bool) → IsStarting (if b then record { life = record (answered l) { boot = Some boot }; told = Ok no_orders } else not_latest l 0)
    by true = none_started l.running
    by false = tt

refused_starts : (l : Life) (r : Reply) (awaited : Option SentLine) (code : ℕ) → IsStarting (refused_with l r awaited code)
refused_starts l r None code = tt
refused_starts l r (Some line) code = tt

other_starts : (l : Life) (r : Reply) (code : Option ℕ) → IsStarting (take_other l r code)
other_starts l r None = tt
other_starts l r (Some code) = refused_starts l r l.awaited code

reply_starts : (l : Life) (r : Reply) → IsWithin l.running l.config.cores → IsStarting (take_reply l r)
reply_starts l (reply.Report r) within = report_starts l r within
reply_starts l (reply.Boot boot nonce) within = boot_starts l boot nonce
reply_starts l other within = other_starts l other (code_of other)

read_starts : (l : Life) (read : Option Reply) → IsWithin l.running l.config.cores → IsStarting (take_read l read)
read_starts l None within = tt
read_starts l (Some r) within = reply_starts l r within

-- so are the starts that a call answers
pub starts_told : (l : Life) (line : List ℕ) (result : Result Orders RqdFault) (new : Life) → IsWithin l.running l.config.cores → ComesTo l (take_line l line) result new
    → IfOk result (λ (o : Orders). AreStarted o.starts new.running)
starts_told l line (Err fault) new within is = tt
starts_told l line (Ok o) new within is =
    subst (λ (k : Life). AreStarted o.starts k.running) (sym is.1)
    (subst (λ (told : Result Orders RqdFault). IfOk told (λ (o : Orders). AreStarted o.starts (take_line l line).life.running)) (sym is.0) (read_starts l (reply_of line) within))
