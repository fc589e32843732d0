-- What is kept of a table reads only the words that it has.
use Rattle.std.proofs.Common.{Bool, if◌then◌else◌, refl, ◌≡◌, ◌≢◌, ◌⊎◌, ℕ, ◌+◌, ◌<◌, true, false, ◌==◌, List, length, set, slice_index, sym, ap, ◌∙◌}
use Rattle.std.proofs.Common.{subst, arith, get_or-set_same, get_or-set_other, length-set}
use Rattle.std.specs.Prelude.{Option}
use Rattle.std.proofs.lemmas.List.{set-get_or}
use mathlib.Core.Logic.{dite}
use native.Mathlib.Decide.{ℕ_discrete}
use Rattle.farm_types.specs.Farm.{Farm}
use Rattle.farm_types.specs.Limits.{IsBetween}
use Rattle.farm_types.specs.declared.limits.TheConstants.{LEAST_CORES, MOST_CORES, LEAST_MEMORY, MOST_MEMORY}
use Rattle.frame_words.specs.declared.frame_word.FrameWord.{FrameWord}
use Rattle.frame_words.specs.declared.amount_word.AmountWord.{AmountWord}
use Rattle.frame_words.specs.declared.host_word.HostWord.{HostWord}
use Rattle.frame_words.specs.declared.sub_word.SubWord.{SubWord}
use Rattle.frame_words.specs.declared.limit_word.LimitWord.{LimitWord}
use Rattle.frame_words.specs.Bits.{frame_of, amount_of, host_of, sub_of, limit_of}
use Rattle.booking_rule.specs.declared.view.View.{View}
use Rattle.booking_rule.specs.declared.noted.Noted.{Noted}
use Rattle.booking_rule.specs.Totals.{total}
use Rattle.booking_rule.specs.Words.{Words, put, with_frame, with_host, with_sub, with_limit, frame_place, host_place, sub_place, limit_place, all_words}
use Rattle.booking_rule.specs.Words.{words_of}
use Rattle.booking_rule.specs.Recorded.{Recorded}
use Rattle.booking_rule.specs.Rule.{Account, weight, sum_of, cores_of, memory_of, booked_of, granted_of, running_of, counted_of, Shows, RunsAhead}
use Rattle.booking_rule.specs.Rule.{is_pending, is_claimed, claim_in, claims_like, claims_at, Claims, Rule}
use Rattle.booking_rule.specs.Amounts.{IsWritten, last_amount, Written}
use Rattle.booking_rule.specs.Ranges.{IsFoundUsed, Ranged}
use Rattle.booking_rule.specs.Resizing.{Resizing}
use Rattle.booking_rule.specs.Kept.{Kept, Holds}
use Rattle.booking_rule.proofs.Sums.{sum_to-same}
use Rattle.booking_rule.proofs.Moves.{put_here, put_else}
use Rattle.booking_core.specs.Machine.{Table}

-- the words are the same at the numbers that a table has
pub record Agrees (W X : Words) : Type 0 where
  pub frame : (k : ℕ) → k < 65536 → X.frame k ≡ W.frame k
  pub amount : (k : ℕ) → k < 65536 → X.amount k ≡ W.amount k
  pub host : (k : ℕ) → k < 4096 → X.host k ≡ W.host k
  pub sub : (k : ℕ) → k < 1024 → X.sub k ≡ W.sub k
  pub limit : (k : ℕ) → k < 255 → X.limit k ≡ W.limit k

module _ (W X : Words) (same : Agrees W X) where
  sum_agrees : (a : Account) (R : Recorded) (views : List View) → sum_of a R X views ≡ sum_of a R W views
  sum_agrees a R views =
      let each : (j : ℕ) → j < 65536 → weight a R X j ≡ weight a R W j = λ j lt i.
      a.weigh (same.frame j lt i) (same.amount j lt i) + a.lend (R.roomed j) (R.billed j) (R.counted j) in
      let s = sum_to-same 65536 (weight a R W) (weight a R X) each in
      omega arith

  -- what is said of a slot's two words
  of_slot : (P : FrameWord × AmountWord → Type 0) (slot : ℕ) → slot < 65536 → P (W.frame slot, W.amount slot) → P (X.frame slot, X.amount slot)
  of_slot P slot lt = subst P (λ i. (sym (same.frame slot lt) i, sym (same.amount slot lt) i))

  claims_agree : (alloc : ℕ → ℕ) (p : Option ℕ) (views : List View) → Claims alloc p W.frame W.amount views → Claims alloc p X.frame X.amount views
  claims_agree alloc p views C = record {
    one = C.one;
    claimed = λ slot lt.
        of_slot (λ x. is_claimed (is_pending p slot) x.0 ≡ true → total (claims_like (claim_in alloc slot x.0 x.1)) views ≡ 1) slot lt (C.claimed slot lt);
    not_later = λ slot version lt. of_slot (λ x. x.0.version < version → total (claims_at slot version) views ≡ 0) slot lt (C.not_later slot version lt);
  }

  rule_agrees : (R : Recorded) (p : Option ℕ) (views : List View) → Rule R p W views → Rule R p X views
  rule_agrees R p views K = record {
    shows = λ slot lt. of_slot (λ x. Shows (is_pending p slot) (R.slot slot) x.0 x.1) slot lt (K.shows slot lt);
    pend = λ slot lt is. of_slot (λ x. RunsAhead (R.slot slot) x.0) slot lt (K.pend slot lt is);
    claims = claims_agree R.alloc p views K.claims;
    cores = λ h lt. (let o = K.cores h lt in let s = sum_agrees (cores_of h) R views in
        let e : (X.host h).cores ≡ (W.host h).cores = ap (λ (x : HostWord). x.cores) (same.host h lt) in omega arith);
    memory = λ h lt. (let o = K.memory h lt in let s = sum_agrees (memory_of h) R views in
        let e : (X.host h).memory ≡ (W.host h).memory = ap (λ (x : HostWord). x.memory) (same.host h lt) in omega arith);
    booked = λ j lt. (let o = K.booked j lt in let s = sum_agrees (booked_of R.alloc j) R views in
        let e : (X.sub j).booked ≡ (W.sub j).booked = ap (λ (x : SubWord). x.booked) (same.sub j lt) in omega arith);
    burst = λ j lt. ap (λ (x : SubWord). x.burst) (same.sub j lt) ∙ K.burst j lt;
    within = λ j lt. (let o = K.within j lt in let s = sum_agrees (granted_of R.alloc j) R views in omega arith);
    running = λ j lt. (let o = K.running j lt in let s = sum_agrees (running_of j) R views in
        let e : (X.limit j).running ≡ (W.limit j).running = ap (λ (x : LimitWord). x.running) (same.limit j lt) in omega arith);
    most = λ j lt. ap (λ (x : LimitWord). x.most) (same.limit j lt) ∙ K.most j lt;
    few = λ j lt. (let o = K.few j lt in let s = sum_agrees (counted_of j) R views in omega arith);
  }

  ranged_agrees : (views : List View) → Ranged W.frame W.amount views → Ranged X.frame X.amount views
  ranged_agrees views r = record {
    cores = λ slot lt. of_slot (λ x. (x.0.phase == 0) ≡ false → IsBetween LEAST_CORES MOST_CORES x.0.cores) slot lt (r.cores slot lt);
    memory = λ slot lt.
        of_slot (λ x. ((x.0.phase == 0) ≡ false) ⊎ IsFoundUsed slot views → IsBetween LEAST_MEMORY MOST_MEMORY x.1.memory) slot lt (r.memory slot lt);
  }

  written_agrees : (trail : List Noted) → Written W.amount trail → Written X.amount trail
  written_agrees trail w = record { each = λ slot lt. of_slot (λ x. IsWritten x.1 (last_amount slot trail)) slot lt (w.each slot lt) }

  resizing_agrees : (cores memory : ℕ → ℕ) (f : Farm) (views : List View) → Resizing cores memory f W.host W.frame views → Resizing cores memory f X.host X.frame views
  resizing_agrees cores memory f views r = record {
    each = λ host lt is. (let e = r.each host lt is in record {
      cores = ap (λ (x : HostWord). x.cores) (same.host host lt) ∙ e.cores;
      memory = ap (λ (x : HostWord). x.memory) (same.host host lt) ∙ e.memory;
      unclaimed = λ slot l. subst (λ (x : FrameWord). x.host ≡ host → x.phase ≢ 3) (sym (same.frame slot l)) (e.unclaimed slot l);
      others = e.others;
    });
  }

  pub kept_agrees : (n : ℕ) (views : List View) → Kept n W views → Kept n X views
  kept_agrees n views K =
      let A = K.own in
      record {
        seat = K.seat;
        opening = K.opening;
        desk = K.desk;
        log = K.log;
        trail = K.trail;
        own = record {
          journal = A.journal;
          begins = A.begins;
          legal = A.legal;
          before = A.before;
          alone = A.alone;
          ahead = record { each = λ slot lt is. ap (λ (x : FrameWord). x.host) (same.frame slot lt) ∙ A.ahead.each slot lt is };
          rule = rule_agrees _ K.desk.pending views A.rule;
          suited = A.suited;
          looks = A.looks;
          ranged = ranged_agrees views A.ranged;
          written = written_agrees K.trail A.written;
          resizing = resizing_agrees _ _ _ views A.resizing;
          seats = A.seats;
        };
      }

-- ---- one word of the list is another

module _ (ws : List ℕ) (k m : ℕ) where
  else_at : (i j : ℕ) → j ≢ i → slice_index (set ws i m) j ≡ slice_index ws j
  else_at i j ne = get_or-set_other ws i j m 0 ne

  -- the words of one kind, by where they stand
  put_at : {A : Type 0} (unpack : ℕ → A) (base : ℕ) → k + base < length ws → (j : ℕ)
      → unpack (slice_index (set ws (k + base) m) (j + base)) ≡ put (λ x. unpack (slice_index ws (x + base))) k (unpack m) j
  put_at {A = A} unpack base lt j =
      let old : ℕ → A = λ x. unpack (slice_index ws (x + base)) in
      let P : ℕ → Type 0 = λ x. unpack (slice_index (set ws (k + base) m) (x + base)) ≡ put old k (unpack m) x in
      dite (ℕ_discrete j k)
      (λ e. subst P (sym e) (ap unpack (get_or-set_same ws (k + base) m 0 lt) ∙ sym (put_here old k (unpack m))))
      (λ ne. ap unpack (else_at (k + base) (j + base) (λ x. ne (omega arith))) ∙ sym (put_else old k (unpack m) j ne))

  pub frame_word : length ws ≡ all_words → k < 65536 → Agrees (with_frame (words_of ws) k (frame_of m)) (words_of (set ws (frame_place k) m))
  frame_word len small = record {
    frame = λ j lt. put_at frame_of 1 (omega arith) j;
    amount = λ j lt. ap amount_of (else_at (k + 1) (j + 65537) (λ x. absurd (omega arith)));
    host = λ j lt. ap host_of (else_at (k + 1) (j + 131073) (λ x. absurd (omega arith)));
    sub = λ j lt. ap sub_of (else_at (k + 1) (j + 135169) (λ x. absurd (omega arith)));
    limit = λ j lt. ap limit_of (else_at (k + 1) (j + 136193) (λ x. absurd (omega arith)));
  }

  pub host_word : length ws ≡ all_words → k < 4096 → Agrees (with_host (words_of ws) k (host_of m)) (words_of (set ws (host_place k) m))
  host_word len small = record {
    frame = λ j lt. ap frame_of (else_at (k + 131073) (j + 1) (λ x. absurd (omega arith)));
    amount = λ j lt. ap amount_of (else_at (k + 131073) (j + 65537) (λ x. absurd (omega arith)));
    host = λ j lt. put_at host_of 131073 (omega arith) j;
    sub = λ j lt. ap sub_of (else_at (k + 131073) (j + 135169) (λ x. absurd (omega arith)));
    limit = λ j lt. ap limit_of (else_at (k + 131073) (j + 136193) (λ x. absurd (omega arith)));
  }

  pub sub_word : length ws ≡ all_words → k < 1024 → Agrees (with_sub (words_of ws) k (sub_of m)) (words_of (set ws (sub_place k) m))
  sub_word len small = record {
    frame = λ j lt. ap frame_of (else_at (k + 135169) (j + 1) (λ x. absurd (omega arith)));
    amount = λ j lt. ap amount_of (else_at (k + 135169) (j + 65537) (λ x. absurd (omega arith)));
    host = λ j lt. ap host_of (else_at (k + 135169) (j + 131073) (λ x. absurd (omega arith)));
    sub = λ j lt. put_at sub_of 135169 (omega arith) j;
    limit = λ j lt. ap limit_of (else_at (k + 135169) (j + 136193) (λ x. absurd (omega arith)));
  }

  pub limit_word : length ws ≡ all_words → k < 255 → Agrees (with_limit (words_of ws) k (limit_of m)) (words_of (set ws (limit_place k) m))
  limit_word len small = record {
    frame = λ j lt. ap frame_of (else_at (k + 136193) (j + 1) (λ x. absurd (omega arith)));
    amount = λ j lt. ap amount_of (else_at (k + 136193) (j + 65537) (λ x. absurd (omega arith)));
    host = λ j lt. ap host_of (else_at (k + 136193) (j + 131073) (λ x. absurd (omega arith)));
    sub = λ j lt. ap sub_of (else_at (k + 136193) (j + 135169) (λ x. absurd (omega arith)));
    limit = λ j lt. put_at limit_of 136193 (omega arith) j;
  }

-- ---- the table, where the word i becomes m and the view of the seat w

abbrev pub after_step : Table → ℕ → ℕ → ℕ → View → Table
after_step s id i m w = record { words = set s.words i m; homes = s.homes; views = set s.views id w }

-- what is kept of the words with one changed, unpacked, holds of the table with the changed list
holds_with : (s : Table) (i m : ℕ) (X : Words) (views : List View)
    → length s.words ≡ all_words → i ≢ 0 → Agrees X (words_of (set s.words i m)) → Kept (slice_index s.words 0) X views
    → Holds (record { words = set s.words i m; homes = s.homes; views = views })
holds_with s i m X views len apart same K =
    let zeroth : slice_index (set s.words i m) 0 ≡ slice_index s.words 0 = get_or-set_other s.words i 0 m 0 (λ e. apart (sym e)) in
    let kept = kept_agrees X (words_of (set s.words i m)) same (slice_index s.words 0) views K in
    (length-set s.words i m ∙ len, subst (λ (n : ℕ). Kept n (words_of (set s.words i m)) views) (sym zeroth) kept)

module _ (s : Table) (id k m : ℕ) (w : View) (len : length s.words ≡ all_words) where
  pub frame_holds : (x : FrameWord) → k < 65536 → frame_of m ≡ x → Kept (slice_index s.words 0) (with_frame (words_of s.words) k x) (set s.views id w)
      → Holds (after_step s id (frame_place k) m w)
  frame_holds x lt is K =
      let kept = subst (λ (y : FrameWord). Kept (slice_index s.words 0) (with_frame (words_of s.words) k y) (set s.views id w)) (sym is) K in
      holds_with s (frame_place k) m (with_frame (words_of s.words) k (frame_of m)) (set s.views id w) len
      (λ e. absurd (omega (arith, e))) (frame_word s.words k m len lt) kept

  pub host_holds : (x : HostWord) → k < 4096 → host_of m ≡ x → Kept (slice_index s.words 0) (with_host (words_of s.words) k x) (set s.views id w)
      → Holds (after_step s id (host_place k) m w)
  host_holds x lt is K =
      let kept = subst (λ (y : HostWord). Kept (slice_index s.words 0) (with_host (words_of s.words) k y) (set s.views id w)) (sym is) K in
      holds_with s (host_place k) m (with_host (words_of s.words) k (host_of m)) (set s.views id w) len
      (λ e. absurd (omega (arith, e))) (host_word s.words k m len lt) kept

  pub sub_holds : (x : SubWord) → k < 1024 → sub_of m ≡ x → Kept (slice_index s.words 0) (with_sub (words_of s.words) k x) (set s.views id w)
      → Holds (after_step s id (sub_place k) m w)
  sub_holds x lt is K =
      let kept = subst (λ (y : SubWord). Kept (slice_index s.words 0) (with_sub (words_of s.words) k y) (set s.views id w)) (sym is) K in
      holds_with s (sub_place k) m (with_sub (words_of s.words) k (sub_of m)) (set s.views id w) len
      (λ e. absurd (omega (arith, e))) (sub_word s.words k m len lt) kept

  pub limit_holds : (x : LimitWord) → k < 255 → limit_of m ≡ x → Kept (slice_index s.words 0) (with_limit (words_of s.words) k x) (set s.views id w)
      → Holds (after_step s id (limit_place k) m w)
  limit_holds x lt is K =
      let kept = subst (λ (y : LimitWord). Kept (slice_index s.words 0) (with_limit (words_of s.words) k y) (set s.views id w)) (sym is) K in
      holds_with s (limit_place k) m (with_limit (words_of s.words) k (limit_of m)) (set s.views id w) len
      (λ e. absurd (omega (arith, e))) (limit_word s.words k m len lt) kept

module _ (s : Table) (id i : ℕ) where
  -- a step that leaves its word as it is
  pub same_holds : (w : View) → length s.words ≡ all_words → Kept (slice_index s.words 0) (words_of s.words) (set s.views id w)
      → Holds (after_step s id i (slice_index s.words i) w)
  same_holds w len K =
      subst (λ (l : List ℕ). (length l ≡ all_words) × Kept (slice_index l 0) (words_of l) (set s.views id w)) (sym (set-get_or s.words i 0)) (len, K)

  -- a step after which the seat knows the one or the other
  pub either_holds : (m : ℕ) (b : Bool) (x y : View) → (b ≡ true → Holds (after_step s id i m x)) → (b ≡ false → Holds (after_step s id i m y))
      → Holds (after_step s id i m (if b then x else y))
  either_holds m true x y first second = first refl
  either_holds m false x y first second = second refl

  -- an exchange, which wins or loses
  pub exchange_holds : (b : Bool) (m n : ℕ) (x y : View) → (b ≡ true → Holds (after_step s id i m x)) → (b ≡ false → Holds (after_step s id i n y))
      → Holds (after_step s id i (if b then m else n) (if b then x else y))
  exchange_holds true m n x y won lost = won refl
  exchange_holds false m n x y won lost = lost refl
