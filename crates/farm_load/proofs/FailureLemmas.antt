-- Which completions of a report change the farm: those of attempts that are live, each where it stands for the first time.
use Rattle.std.proofs.Common.{◌≡◌, ℕ, ◌+◌, ◌<◌, ◌&&◌, ◌||◌, ◌≢◌, ◌⊎◌, inl, inr, Bool, true, false, cond, eqb, List, [], ◌∷◌, ◌++◌, take, drop, length, Option, None, Some, refl, sym, ap, ◌∙◌, ◌≤◌, arith, subst, append-nil}
use Rattle.std.specs.Prelude.{count_by, get_or, not, option_map, slice_get}
use Rattle.std.specs.List.{list_any}
use Rattle.std.proofs.lemmas.Bool.{and_left, and_right, eq-eqb, eqb-true, false≢true, ne_eqb}
use Rattle.std.proofs.lemmas.List.{drop_all, drop_more, take_more}
use Rattle.std.proofs.lemmas.List.Folds.{list_any-append}
use Rattle.std.proofs.lemmas.List.Sums.{sum_by-cons}
use Rattle.std.proofs.lemmas.Option.{slice_get-map}
use Rattle.farm_types.specs.declared.attempt.Attempt.{Attempt}
use Rattle.farm_types.specs.declared.attempt.DoneItem.{DoneItem}
use Rattle.farm_types.specs.declared.attempt.ProcRow.{ProcRow}
use Rattle.farm_types.specs.declared.entry.Act.TheVariants as act
use Rattle.farm_types.specs.declared.entry.HeardAct.{HeardAct}
use Rattle.farm_types.specs.declared.slot_row.SlotRow.{SlotRow}
use Rattle.farm_types.specs.Farm.{Farm, changed_at, for_some, host_named}
use Rattle.farm_types.specs.Hosts.{heard_row, silenced}
use Rattle.farm_types.specs.Lost.{lost_row, runs_on}
use Rattle.farm_types.specs.Run.{counted_in, is_same}
use Rattle.farm_types.specs.Step.{at_moment, end_attempt, ended_row, expire, is_attempt, is_live, is_silent, moment_of}
use Rattle.farm_types.proofs.Changed.{changed_at_other, changed_at_same, places}
use Rattle.farm_types.proofs.Lists.{and_both, for_some_true}
use Rattle.farm_lines.specs.Asked.{entry_at}
use Rattle.farm_load.specs.Loads.{failed_in, fails}

-- ---- tests of two

both_true_left : (b : Bool) → (b && true) ≡ b
both_true_left true = refl
both_true_left false = refl

and_then_and : (a b c : Bool) → ((a && b) && c) ≡ (a && (b && c))
and_then_and true b c = refl
and_then_and false b c = refl

-- neither the one nor the other
not_either : (a b c : Bool) → ((a && not b) && not c) ≡ (a && not (b || (c || false)))
not_either true true c = refl
not_either true false true = refl
not_either true false false = refl
not_either false b c = refl

-- a test that fails where the other one holds
not_where : (a b : Bool) → (b ≡ true → a ≡ false) → (a && not b) ≡ a
not_where true true fails = absurd (false≢true (sym (fails refl)))
not_where true false fails = refl
not_where false b fails = refl

-- ---- completions that stand for the first time

-- a completion of the attempt stands there
abbrev pub stands : Attempt → List DoneItem → Bool
stands a done = list_any (λ (item : DoneItem). is_same a item.attempt) done

stands_more : (a : Attempt) (before : List DoneItem) (d : DoneItem) → stands a (before ++ d ∷ []) ≡ (stands a before || (is_same a d.attempt || false))
stands_more a before d = list_any-append (λ (item : DoneItem). is_same a item.attempt) before (d ∷ [])

-- so many of the completions are of attempts that pass the test and stand nowhere before
abbrev pub first_ones : (Attempt → Bool) → List DoneItem → List DoneItem → ℕ
first_ones test before [] = 0
first_ones test before (d ∷ ds) = cond (test d.attempt && not (stands d.attempt before)) 1 0 + first_ones test (before ++ d ∷ []) ds

weight_is : (test first stood live : Bool) → live ≡ (first && not stood) → (let one : ℕ = 1 in cond ((test && first) && not stood) one 0 ≡ cond (test && live) one 0)
weight_is test first stood live is = ap (λ (b : Bool). cond b 1 0) (and_then_and test first (not stood) ∙ ap (λ (b : Bool). test && b) (sym is))

counted_step : (test : Attempt → Bool) (a : Attempt) (live first stood : Bool) (ended left : List Attempt) (rest : ℕ) → live ≡ (first && not stood)
    → (live ≡ true → count_by test ended ≡ rest) → (live ≡ false → count_by test left ≡ rest)
    → count_by test (cond live (a ∷ ended) left) ≡ cond ((test a && first) && not stood) 1 0 + rest
counted_step test a true first stood ended left rest is goes stays =
    sum_by-cons (λ (b : Attempt). cond (test b) 1 0) a ended ∙ ap (λ (k : ℕ). cond (test a) 1 0 + k) (goes refl)
    ∙ ap (λ (b : Bool). cond b 1 0 + rest) (sym (both_true_left (test a)))
    ∙ ap (λ (k : ℕ). k + rest) (sym (weight_is (test a) first stood true is))
counted_step test a false first stood ended left rest is goes stays =
    let none : rest ≡ 0 + rest = omega arith in
    stays refl ∙ none ∙ ap (λ (b : Bool). cond b 1 0 + rest) (sym (and_right (test a) false refl))
    ∙ ap (λ (k : ℕ). k + rest) (sym (weight_is (test a) first stood false is))

-- ---- one live attempt a slot

one_attempt : (host boot : ℕ) (o : Option ProcRow) (v w : ℕ) → for_some o (is_attempt host boot v) ≡ true → for_some o (is_attempt host boot w) ≡ true → v ≡ w
one_attempt host boot None v w one other = absurd (false≢true one)
one_attempt host boot (Some p) v w one other =
    let first = and_both (eqb p.version v) (eqb p.host host) (and_both (eqb p.version v && eqb p.host host) (eqb p.boot boot) one).0 in
    let second = and_both (eqb p.version w) (eqb p.host host) (and_both (eqb p.version w && eqb p.host host) (eqb p.boot boot) other).0 in
    sym (eqb-true p.version v first.0) ∙ eqb-true p.version w second.0

one_in_slot : (host boot : ℕ) (o : Option SlotRow) (v w : ℕ) → for_some o (λ (s : SlotRow). for_some s.proc (is_attempt host boot v)) ≡ true
    → for_some o (λ (s : SlotRow). for_some s.proc (is_attempt host boot w)) ≡ true → v ≡ w
one_in_slot host boot None v w one other = absurd (false≢true one)
one_in_slot host boot (Some s) v w one other = one_attempt host boot s.proc v w one other

-- ---- what is live after a completion

module _ (host boot : ℕ) where
  -- the attempt is live there
  abbrev lives : Farm → Attempt → Bool
  lives f a = is_live f host boot a.slot a.version

  -- of the same slot, live attempts are the same
  slot_alone : (f : Farm) (a d : Attempt) (live same_slot same_version : Bool) → lives f a ≡ live → lives f d ≡ true → eqb a.slot d.slot ≡ same_slot
      → eqb a.version d.version ≡ same_version → (live && not same_slot) ≡ (live && not (same_slot && same_version))
  slot_alone f a d false same_slot same_version is there slot version = refl
  slot_alone f a d true false same_version is there slot version = refl
  slot_alone f a d true true true is there slot version = refl
  slot_alone f a d true true false is there slot version =
      let at : a.slot ≡ d.slot = eqb-true a.slot d.slot slot in
      let same : a.version ≡ d.version =
      one_in_slot host boot (slice_get f.slots d.slot) a.version d.version (subst (λ (k : ℕ). is_live f host boot k a.version ≡ true) at is) there in
      absurd (false≢true (sym version ∙ eq-eqb a.version d.version same))

  ended_same : (f : Farm) (d : DoneItem) (slot version : ℕ) → lives f d.attempt ≡ true → slot ≡ d.attempt.slot → is_live (end_attempt f host boot d) host boot slot version ≡ false
  ended_same f d slot version live at =
      let s = for_some_true (slice_get f.slots d.attempt.slot) (λ (s : SlotRow). for_some s.proc (is_attempt host boot d.attempt.version)) live in
      rw (live, at, changed_at_same f.slots d.attempt.slot (ended_row f d.exit) s.0 s.1) refl

  ended_other : (f : Farm) (d : DoneItem) (slot version : ℕ) → lives f d.attempt ≡ true → slot ≢ d.attempt.slot
      → is_live (end_attempt f host boot d) host boot slot version ≡ is_live f host boot slot version
  ended_other f d slot version live apart = rw (live, changed_at_other f.slots d.attempt.slot slot (ended_row f d.exit) apart) refl

  -- none of the completed attempt's slot
  ended_lives : (f : Farm) (d : DoneItem) (a : Attempt) → lives f d.attempt ≡ true → lives (end_attempt f host boot d) a ≡ (lives f a && not (eqb a.slot d.attempt.slot))
  ended_lives f d a live = by_slot (places a.slot d.attempt.slot)
    where
      by_slot : (a.slot ≡ d.attempt.slot) ⊎ (a.slot ≢ d.attempt.slot) → lives (end_attempt f host boot d) a ≡ (lives f a && not (eqb a.slot d.attempt.slot))
      by_slot (inl at) =
          let same : eqb a.slot d.attempt.slot ≡ true = eq-eqb a.slot d.attempt.slot at in
          rw same (ended_same f d a.slot a.version live at ∙ sym (and_right (lives f a) false refl))
      by_slot (inr apart) =
          let other : eqb a.slot d.attempt.slot ≡ false = ne_eqb a.slot d.attempt.slot apart in
          rw other (ended_other f d a.slot a.version live apart ∙ sym (both_true_left (lives f a)))

  -- ---- which completions count

  -- of what lives in the first farm, what has completed doesn't live in the second
  abbrev HaveEnded : Farm → Farm → List DoneItem → Type 0
  HaveEnded f g before = (a : Attempt) → lives g a ≡ (lives f a && not (stands a before))

  more_ended : (f g : Farm) (before : List DoneItem) (d : DoneItem) (h : Farm) → HaveEnded f g before → ((a : Attempt) → lives h a ≡ (lives g a && not (is_same a d.attempt)))
      → HaveEnded f h (before ++ d ∷ [])
  more_ended f g before d h ended next a =
      next a ∙ ap (λ (b : Bool). b && not (is_same a d.attempt)) (ended a) ∙ not_either (lives f a) (stands a before) (is_same a d.attempt)
      ∙ ap (λ (b : Bool). lives f a && not b) (sym (stands_more a before d))

  live_ends : (g : Farm) (d : DoneItem) → lives g d.attempt ≡ true → (a : Attempt) → lives (end_attempt g host boot d) a ≡ (lives g a && not (is_same a d.attempt))
  live_ends g d live a =
      ended_lives g d a live ∙ slot_alone g a d.attempt (lives g a) (eqb a.slot d.attempt.slot) (eqb a.version d.attempt.version) refl live refl refl

  dead_stays : (g : Farm) (d : DoneItem) → lives g d.attempt ≡ false → (a : Attempt) → lives g a ≡ (lives g a && not (is_same a d.attempt))
  dead_stays g d dead a = sym (not_where (lives g a) (is_same a d.attempt) same)
    where
      same : is_same a d.attempt ≡ true → lives g a ≡ false
      same is =
          let parts = and_both (eqb a.slot d.attempt.slot) (eqb a.version d.attempt.version) is in
          ap (λ (k : ℕ). is_live g host boot k a.version) (eqb-true a.slot d.attempt.slot parts.0)
          ∙ ap (λ (v : ℕ). is_live g host boot d.attempt.slot v) (eqb-true a.version d.attempt.version parts.1)
          ∙ dead

  counted_is : (test : Attempt → Bool) (f g : Farm) (before done : List DoneItem) → HaveEnded f g before
      → count_by test (counted_in g host boot done) ≡ first_ones (λ (a : Attempt). test a && lives f a) before done
  counted_is test f g before [] ended = refl
  counted_is test f g before (d ∷ ds) ended =
      counted_step test d.attempt (lives g d.attempt) (lives f d.attempt) (stands d.attempt before) (counted_in (end_attempt g host boot d) host boot ds)
      (counted_in g host boot ds) (first_ones (λ (a : Attempt). test a && lives f a) (before ++ d ∷ []) ds) (ended d.attempt)
      (λ live. counted_is test f (end_attempt g host boot d) (before ++ d ∷ []) ds (more_ended f g before d (end_attempt g host boot d) ended (live_ends g d live)))
      (λ dead. counted_is test f g (before ++ d ∷ []) ds (more_ended f g before d g ended (dead_stays g d dead)))

  -- the ones that change a farm are those of attempts that live in it, each for the first time
  pub counted_first : (test : Attempt → Bool) (f : Farm) (done : List DoneItem)
      → count_by test (counted_in f host boot done) ≡ first_ones (λ (a : Attempt). test a && lives f a) [] done
  counted_first test f done = counted_is test f f [] done (λ a. sym (both_true_left (lives f a)))

  -- as many where the same attempts live
  counted_alike : (test : Attempt → Bool) (f g : Farm) (done : List DoneItem) → ((a : Attempt) → lives g a ≡ lives f a)
      → count_by test (counted_in g host boot done) ≡ count_by test (counted_in f host boot done)
  counted_alike test f g done same =
      counted_is test f g [] done (λ a. same a ∙ sym (both_true_left (lives f a))) ∙ sym (counted_first test f done)

  -- none where no attempt lives
  counted_none : (g : Farm) (done : List DoneItem) → ((a : Attempt) → lives g a ≡ false) → counted_in g host boot done ≡ []
  counted_none g [] none = refl
  counted_none g (d ∷ ds) none =
      let dead : lives g d.attempt ≡ false = none d.attempt in
      rw dead (counted_none g ds none)

  -- ---- hosts that are silent

  not_here : (version : ℕ) (p : ProcRow) → p.host ≢ host → is_attempt host boot version p ≡ false
  not_here version p apart = and_left (eqb p.version version && eqb p.host host) (eqb p.boot boot) (and_right (eqb p.version version) (eqb p.host host) (ne_eqb p.host host apart))

  module _ (silent : ℕ → Bool) (version : ℕ) where
    abbrev lives_in : Option ProcRow → Bool
    lives_in o = for_some o (is_attempt host boot version)

    -- on a silent host no attempt is left
    gone : silent host ≡ true → (s : SlotRow) (o : Option ProcRow) (b : Bool) → s.proc ≡ o → for_some o (λ (p : ProcRow). silent p.host) ≡ b
        → (let new : SlotRow = cond b (lost_row s) s in lives_in new.proc ≡ false)
    gone here s o true is lost = refl
    gone here s None false is lost = ap lives_in is
    gone here s (Some p) false is lost = ap lives_in is ∙ not_here version p (λ at. false≢true (sym lost ∙ ap silent at ∙ here))

    -- on another one each is
    left : silent host ≡ false → (s : SlotRow) (o : Option ProcRow) (b : Bool) → s.proc ≡ o → for_some o (λ (p : ProcRow). silent p.host) ≡ b
        → (let new : SlotRow = cond b (lost_row s) s in lives_in new.proc ≡ lives_in s.proc)
    left here s None true is lost = absurd (false≢true lost)
    left here s (Some p) true is lost = sym (ap lives_in is ∙ not_here version p (λ at. false≢true (sym here ∙ ap silent (sym at) ∙ lost)))
    left here s o false is lost = refl

    all_gone : silent host ≡ true → (o : Option SlotRow)
        → for_some (option_map (λ (s : SlotRow). cond (runs_on silent s) (lost_row s) s) o) (λ (s : SlotRow). lives_in s.proc) ≡ false
    all_gone here None = refl
    all_gone here (Some s) = gone here s s.proc (runs_on silent s) refl refl

    all_left : silent host ≡ false → (o : Option SlotRow)
        → for_some (option_map (λ (s : SlotRow). cond (runs_on silent s) (lost_row s) s) o) (λ (s : SlotRow). lives_in s.proc)
        ≡ for_some o (λ (s : SlotRow). lives_in s.proc)
    all_left here None = refl
    all_left here (Some s) = left here s s.proc (runs_on silent s) refl refl

  at_slot : (f : Farm) (moment : ℕ) (a : Attempt)
      → lives (expire f moment) a
      ≡ for_some (option_map (λ (s : SlotRow). cond (runs_on (is_silent f moment) s) (lost_row s) s) (slice_get f.slots a.slot))
      (λ (s : SlotRow). for_some s.proc (is_attempt host boot a.version))
  at_slot f moment a =
      ap (λ (o : Option SlotRow). for_some o (λ (s : SlotRow). for_some s.proc (is_attempt host boot a.version)))
      (slice_get-map (λ (s : SlotRow). cond (runs_on (is_silent f moment) s) (lost_row s) s) f.slots a.slot)

  -- the completions of a host that is silent by then change nothing
  pub silent_none : (test : Attempt → Bool) (f : Farm) (moment : ℕ) (done : List DoneItem) → is_silent f moment host ≡ true
      → count_by test (counted_in (expire f moment) host boot done) ≡ 0
  silent_none test f moment done here =
      ap (count_by test) (counted_none (expire f moment) done
      (λ a. at_slot f moment a ∙ all_gone (is_silent f moment) a.version here (slice_get f.slots a.slot)))

  -- those of another one change what they did before
  pub heard_same : (test : Attempt → Bool) (f : Farm) (moment : ℕ) (done : List DoneItem) → is_silent f moment host ≡ false
      → count_by test (counted_in (expire f moment) host boot done) ≡ count_by test (counted_in f host boot done)
  heard_same test f moment done here =
      counted_alike test f (expire f moment) done
      (λ a. at_slot f moment a ∙ all_left (is_silent f moment) a.version here (slice_get f.slots a.slot))

-- ---- the entry of a report

abbrev heard_at : Farm → HeardAct → ℕ → ℕ → Farm
heard_at f heard moment host =
    record (expire (at_moment f moment) moment) { hosts = changed_at (silenced moment f.hosts) host (heard_row heard.seq moment) }

-- of a host that is there
pub failed_on : (n : ℕ) (f : Farm) (heard : HeardAct) (moment host : ℕ) → host_named f heard.host ≡ Some host
    → failed_in n f (entry_at moment (act.Heard heard) ∷ []) ≡ count_by (fails n) (counted_in (expire f (moment_of f moment)) host heard.boot heard.done)
failed_on n f heard moment host named =
    rw named
    (ap (count_by (fails n)) (append-nil (counted_in (heard_at f heard (moment_of f moment) host) host heard.boot heard.done))
    ∙ counted_alike host heard.boot (fails n) (expire f (moment_of f moment)) (heard_at f heard (moment_of f moment) host) heard.done (λ a. refl))

-- of none
pub failed_nowhere : (n : ℕ) (f : Farm) (heard : HeardAct) (moment : ℕ) → host_named f heard.host ≡ None → failed_in n f (entry_at moment (act.Heard heard) ∷ []) ≡ 0
failed_nowhere n f heard moment named = rw named refl

-- ---- the walk

pub first_step : (test : Attempt → Bool) (done : List DoneItem) (place : ℕ) (d : DoneItem) → place < length done → d ≡ get_or done place d
    → first_ones test (take place done) (drop place done)
    ≡ cond (test d.attempt && not (stands d.attempt (take place done))) 1 0 + first_ones test (take (place + 1) done) (drop (place + 1) done)
first_step test done place d within is =
    let taken : take (place + 1) done ≡ take place done ++ d ∷ [] = take_more done place d within ∙ ap (λ (x : DoneItem). take place done ++ x ∷ []) (sym is) in
    let dropped : drop place done ≡ d ∷ drop (place + 1) done = drop_more done place d within ∙ ap (λ (x : DoneItem). x ∷ drop (place + 1) done) (sym is) in
    ap (first_ones test (take place done)) dropped
    ∙ ap (λ (before : List DoneItem). cond (test d.attempt && not (stands d.attempt (take place done))) 1 0 + first_ones test before (drop (place + 1) done)) (sym taken)

-- past the last one none is left
pub no_more : (test : Attempt → Bool) (done : List DoneItem) (place so_far all : ℕ) → length done ≤ place
    → so_far + first_ones test (take place done) (drop place done) ≡ all → so_far ≡ all
no_more test done place so_far all past counted =
    let none : first_ones test (take place done) (drop place done) ≡ 0 = ap (first_ones test (take place done)) (drop_all place done past) in
    omega (arith, none, counted)
