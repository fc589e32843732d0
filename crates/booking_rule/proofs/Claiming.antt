-- Steps on frame words: a claim that wins, a claim that is dropped, and a word that becomes the recorded one.
use Rattle.std.proofs.Common.{◌≡◌, ◌≢◌, ℕ, zero, suc, ◌+◌, ◌-◌, ◌<◌, ◌≤◌, Bool, true, false, if◌then◌else◌, ◌==◌, ◌&&◌, ◌||◌, List, [], ◌∷◌, set, sym, refl, ap, ◌∙◌, subst, arith, inl, inr}
use Rattle.std.specs.Prelude.{Option}
use mathlib.Core.Option.{some, some-injective, some-ne-none}
use mathlib.Core.Logic.{dite}
use native.Mathlib.Decide.{ℕ_discrete}
use lib.ListN.{get_elem?}
use Rattle.farm_types.specs.Farm.{sub_of}
use Rattle.frame_words.specs.declared.frame_word.FrameWord.{FrameWord}
use Rattle.frame_words.specs.declared.amount_word.AmountWord.{AmountWord}
use Rattle.booking_rule.specs.declared.view.View.{View}
use Rattle.booking_rule.specs.declared.hold.Claim.{Claim}
use Rattle.booking_rule.specs.Totals.{total}
use Rattle.booking_rule.specs.Words.{Words, put, with_frame}
use Rattle.booking_rule.specs.Recorded.{Recorded, Stand}
use Rattle.booking_rule.specs.Views.{same_claim, holds, without}
use Rattle.booking_rule.specs.Rule.{is_booked, word_of, ShowsFrame, ShowsAmount, Shows, is_at, claims_at, is_like, claims_like, claim_in, is_pending, is_claimed, Claims, Rule}
use Rattle.booking_rule.proofs.Sums.{total_set}
use Rattle.booking_rule.proofs.Moves.{put_here, put_else, HoldsAlike, cores_held, memory_held, granted_held, flight_held, limit_held, limit_flight_held}
use Rattle.booking_rule.proofs.Steps.{total_without, claim_same, at_here, at_else, at_small, like_here, like_le, likes_le}
use Rattle.booking_rule.proofs.Weighing.{WeighAlike, frame_rule, shows_put, pend_put, not_pending, stands, setup_stands, shows_exact, unclaimed, cores_free, memory_free, sub_free, limit_free, Uses, Leaves, uses_alike, leaves_alike}

-- ---- claims

-- claims stay, where the views' claims are as many and the new word is of no claim and of a version that isn't before
pub claims_turn : (alloc : ℕ → ℕ) (p : Option ℕ) (frame : ℕ → FrameWord) (amount : ℕ → AmountWord) (views : List View) (id : ℕ) (v w : View) (slot : ℕ) (f : FrameWord)
    → Claims alloc p frame amount views → get_elem? views id ≡ some v → w.claims ≡ v.claims → (frame slot).version ≤ f.version → is_claimed (is_pending p slot) f ≡ false
    → Claims alloc p (put frame slot f) amount (set views id w)
claims_turn alloc p frame amount views id v w slot f K at claims rises free =
    let here : put frame slot f slot ≡ f = put_here frame slot f in
    let apart : (j : ℕ) → j ≢ slot → put frame slot f j ≡ frame j = put_else frame slot f in
    let same_at : (k n : ℕ) → total (claims_at k n) (set views id w) ≡ total (claims_at k n) views = (λ k n.
    let m = total_set (claims_at k n) views id v w at in let q : claims_at k n w ≡ claims_at k n v = ap (total (is_at k n)) claims in omega arith) in
    let same_like : (d : Claim) → total (claims_like d) (set views id w) ≡ total (claims_like d) views = (λ d.
    let m = total_set (claims_like d) views id v w at in let q : claims_like d w ≡ claims_like d v = ap (total (is_like d)) claims in omega arith) in
    record {
      one = λ k n l. (let m = same_at k n in let o = K.one k n l in omega arith);
      claimed = λ k l is. dite (ℕ_discrete k slot)
          (λ e. let P : ℕ → Type 0 = λ x. is_claimed (is_pending p x) (put frame slot f x) ≡ true in
          let q : is_claimed (is_pending p slot) f ≡ true = subst (λ (x : FrameWord). is_claimed (is_pending p slot) x ≡ true) here (subst P e is) in
          absurd (clash (sym q ∙ free)))
          (λ ne. let same = apart k ne in
          subst (λ (x : FrameWord). total (claims_like (claim_in alloc k x (amount k))) (set views id w) ≡ 1) (sym same)
          (same_like (claim_in alloc k (frame k) (amount k)) ∙ K.claimed k l (ap (is_claimed (is_pending p k)) (sym same) ∙ is)));
      not_later = λ k n l later. same_at k n ∙ dite (ℕ_discrete k slot)
          (λ e. let P : ℕ → Type 0 = λ x. (put frame slot f x).version < n in let Q : ℕ → Type 0 = λ x. (frame x).version < n in
          let gt : (put frame slot f slot).version < n = subst P e later in let now : (put frame slot f slot).version ≡ f.version = ap (λ (x : FrameWord). x.version) here in
          K.not_later k n l (subst Q (sym e) (omega arith)))
          (λ ne. K.not_later k n l (subst (λ (x : FrameWord). x.version < n) (apart k ne) later));
    }
  where
    clash : true ≡ false → ⊥
    clash e = cc

-- a claim more, of the next version
pub claims_win : (alloc : ℕ → ℕ) (p : Option ℕ) (frame : ℕ → FrameWord) (amount : ℕ → AmountWord) (views : List View) (id : ℕ) (v w : View) (c : Claim) (f : FrameWord)
    → Claims alloc p frame amount views → get_elem? views id ≡ some v → c.slot < 65536 → w.claims ≡ c ∷ v.claims → (frame c.slot).version < c.version → f.version ≡ c.version
    → claim_in alloc c.slot f (amount c.slot) ≡ c
    → Claims alloc p (put frame c.slot f) amount (set views id w)
claims_win alloc p frame amount views id v w c f K at lt claims rises version is_c =
    let slot = c.slot in
    let here : put frame slot f slot ≡ f = put_here frame slot f in
    let apart : (j : ℕ) → j ≢ slot → put frame slot f j ≡ frame j = put_else frame slot f in
    let more_at : (s n : ℕ) → total (claims_at s n) (set views id w) ≡ total (claims_at s n) views + is_at s n c = (λ s n.
    let t = total_set (claims_at s n) views id v w at in let q : claims_at s n w ≡ is_at s n c + claims_at s n v = ap (total (is_at s n)) claims in omega arith) in
    let more_like : (d : Claim) → total (claims_like d) (set views id w) ≡ total (claims_like d) views + is_like d c = (λ d.
    let t = total_set (claims_like d) views id v w at in let q : claims_like d w ≡ is_like d c + claims_like d v = ap (total (is_like d)) claims in omega arith) in
    let none_later : total (claims_at slot c.version) views ≡ 0 = K.not_later slot c.version lt rises in
    record {
      one = λ s n l. (let m = more_at s n in let o = K.one s n l in dite (ℕ_discrete s slot)
          (λ e. dite (ℕ_discrete n c.version)
          (λ q. let z : total (claims_at s n) views ≡ 0 = (let P : ℕ × ℕ → Type 0 = λ x. total (claims_at x.0 x.1) views ≡ 0 in subst P (λ i. (sym e i, sym q i)) none_later) in let k = at_small s n c in omega arith)
          (λ q. let z = at_else s n c (inr q) in omega arith))
          (λ ne. let z = at_else s n c (inl ne) in omega arith));
      claimed = λ s l is. dite (ℕ_discrete s slot)
          (λ e. let P : ℕ → Type 0 = λ x. total (claims_like (claim_in alloc x (put frame slot f x) (amount x))) (set views id w) ≡ 1 in
          subst P (sym e) (subst (λ (x : FrameWord). total (claims_like (claim_in alloc slot x (amount slot))) (set views id w) ≡ 1) (sym here)
          (subst (λ (x : Claim). total (claims_like x) (set views id w) ≡ 1) (sym is_c) (let m = more_like c in let z = likes_le c views in let h = like_here c in omega arith))))
          (λ ne. let same = apart s ne in let d = claim_in alloc s (frame s) (amount s) in
          let o = K.claimed s l (ap (is_claimed (is_pending p s)) (sym same) ∙ is) in
          subst (λ (x : FrameWord). total (claims_like (claim_in alloc s x (amount s))) (set views id w) ≡ 1) (sym same)
          (let m = more_like d in let z = like_le d c in let y = at_else s (frame s).version c (inl ne) in omega arith));
      not_later = λ s n l later. (let m = more_at s n in dite (ℕ_discrete s slot)
          (λ e. let P : ℕ → Type 0 = λ x. (put frame slot f x).version < n in let Q : ℕ → Type 0 = λ x. (frame x).version < n in
          let gt : (put frame slot f slot).version < n = subst P e later in let now : (put frame slot f slot).version ≡ f.version = ap (λ (x : FrameWord). x.version) here in
          let z = K.not_later s n l (subst Q (sym e) (omega arith)) in let k = at_else s n c (inr (λ q. absurd (omega arith))) in omega arith)
          (λ ne. let z = K.not_later s n l (subst (λ (x : FrameWord). x.version < n) (apart s ne) later) in let k = at_else s n c (inl ne) in omega arith));
    }

-- ---- what a view's claim has to do with the word that it names

-- a claim in the list is counted
counted_in : (d c : Claim) (cs : List Claim) → d.slot ≡ c.slot → d.version ≡ c.version → holds same_claim c cs ≡ true → total (is_like d) cs + 1 ≤ total (is_at d.slot d.version) cs + is_like d c
counted_in d c [] slot version h = absurd cc
counted_in d c (x ∷ xs) slot version h = go (counted_in d c xs slot version) (same_claim c x) refl h
  where
    of_list : (ys : List Claim) → total (is_like d) ys ≤ total (is_at d.slot d.version) ys
    of_list [] = omega arith
    of_list (y ∷ ys) = let r = of_list ys in let one = like_le d y in omega arith

    go : (holds same_claim c xs ≡ true → total (is_like d) xs + 1 ≤ total (is_at d.slot d.version) xs + is_like d c)
        → (b : Bool) → same_claim c x ≡ b → (b || holds same_claim c xs) ≡ true → total (is_like d) (x ∷ xs) + 1 ≤ total (is_at d.slot d.version) (x ∷ xs) + is_like d c
    go rest true is _ =
        let e = claim_same c x is in
        let here : is_at d.slot d.version x ≡ 1 = (λ i. is_at (slot i) (version i) (sym e i)) ∙ at_here c in
        let like : is_like d x ≡ is_like d c = ap (is_like d) (sym e) in
        let r = of_list xs in
        omega arith
    go rest false is q = let r = rest q in let one = like_le d x in omega arith

-- .. and in the views
counted_views : (d : Claim) (views : List View) (id : ℕ) (v : View) → get_elem? views id ≡ some v
    → total (claims_like d) views + claims_at d.slot d.version v ≤ total (claims_at d.slot d.version) views + claims_like d v
counted_views d [] id v e = absurd (some-ne-none v (sym e))
counted_views d (x ∷ xs) zero v e =
    let l = likes_le d xs in
    let a : claims_like d x ≡ claims_like d v = ap (claims_like d) (some-injective x v e) in
    let b : claims_at d.slot d.version x ≡ claims_at d.slot d.version v = ap (claims_at d.slot d.version) (some-injective x v e) in
    omega arith
counted_views d (x ∷ xs) (suc id) v e = let r = counted_views d xs id v e in let one = likes_le d (x ∷ []) in omega arith

-- a claim of a claimed word's slot and version has the words' amounts
pub claim_is : (alloc : ℕ → ℕ) (p : Option ℕ) (frame : ℕ → FrameWord) (amount : ℕ → AmountWord) (views : List View) (id : ℕ) (v : View) (c : Claim)
    → Claims alloc p frame amount views → get_elem? views id ≡ some v → c.slot < 65536 → holds same_claim c v.claims ≡ true
    → is_claimed (is_pending p c.slot) (frame c.slot) ≡ true → (frame c.slot).version ≡ c.version → claim_in alloc c.slot (frame c.slot) (amount c.slot) ≡ c
claim_is alloc p frame amount views id v c K at lt has is version =
    let d = claim_in alloc c.slot (frame c.slot) (amount c.slot) in
    let o = K.claimed c.slot lt is in
    let n = K.one c.slot (frame c.slot).version lt in
    let a = counted_in d c v.claims refl version has in
    let b = counted_views d views id v at in
    claim_same d c (go (same_claim d c) refl (omega arith))
  where
    go : (b : Bool) → same_claim (claim_in alloc c.slot (frame c.slot) (amount c.slot)) c ≡ b → 1 ≤ (if b then 1 else 0) → b ≡ true
    go true e h = refl
    go false e h = absurd (omega (arith, h))

-- the claim that stands alone: without it, none of its slot and version
claims_gone : (alloc : ℕ → ℕ) (p : Option ℕ) (frame : ℕ → FrameWord) (amount : ℕ → AmountWord) (views : List View) (id : ℕ) (v w : View) (c : Claim) (f : FrameWord)
    → Claims alloc p frame amount views → get_elem? views id ≡ some v → c.slot < 65536 → holds same_claim c v.claims ≡ true → w.claims ≡ without same_claim c v.claims
    → (frame c.slot).version ≡ c.version → c.version ≡ f.version + 1 → is_claimed (is_pending p c.slot) f ≡ false
    → Claims alloc p (put frame c.slot f) amount (set views id w)
claims_gone alloc p frame amount views id v w c f K at lt has claims version next free =
    let slot = c.slot in
    let here : put frame slot f slot ≡ f = put_here frame slot f in
    let apart : (j : ℕ) → j ≢ slot → put frame slot f j ≡ frame j = put_else frame slot f in
    let less_at : (s n : ℕ) → total (claims_at s n) (set views id w) + is_at s n c ≡ total (claims_at s n) views = (λ s n.
    let t = total_set (claims_at s n) views id v w at in let q : claims_at s n w ≡ total (is_at s n) (without same_claim c v.claims) = ap (total (is_at s n)) claims in
    let r = total_without same_claim (is_at s n) c v.claims (claim_same c) has in omega arith) in
    let less_like : (d : Claim) → total (claims_like d) (set views id w) + is_like d c ≡ total (claims_like d) views = (λ d.
    let t = total_set (claims_like d) views id v w at in let q : claims_like d w ≡ total (is_like d) (without same_claim c v.claims) = ap (total (is_like d)) claims in
    let r = total_without same_claim (is_like d) c v.claims (claim_same c) has in omega arith) in
    record {
      one = λ s n l. (let m = less_at s n in let o = K.one s n l in omega arith);
      claimed = λ s l is. dite (ℕ_discrete s slot)
          (λ e. let P : ℕ → Type 0 = λ x. is_claimed (is_pending p x) (put frame slot f x) ≡ true in
          let q : is_claimed (is_pending p slot) f ≡ true = subst (λ (x : FrameWord). is_claimed (is_pending p slot) x ≡ true) here (subst P e is) in
          absurd (clash (sym q ∙ free)))
          (λ ne. let same = apart s ne in let d = claim_in alloc s (frame s) (amount s) in
          let o = K.claimed s l (ap (is_claimed (is_pending p s)) (sym same) ∙ is) in
          subst (λ (x : FrameWord). total (claims_like (claim_in alloc s x (amount s))) (set views id w) ≡ 1) (sym same)
          (let m = less_like d in let z = like_le d c in let y = at_else s (frame s).version c (inl ne) in omega arith));
      not_later = λ s n l later. (let m = less_at s n in dite (ℕ_discrete s slot)
          (λ e. let P : ℕ → Type 0 = λ x. (put frame slot f x).version < n in
          let gt : (put frame slot f slot).version < n = subst P e later in let now : (put frame slot f slot).version ≡ f.version = ap (λ (x : FrameWord). x.version) here in
          dite (ℕ_discrete n c.version)
          (λ q. let one : total (claims_at s n) (set views id w) + 1 ≤ 1 = (let P : ℕ × ℕ → Type 0 = λ x. total (claims_at x.0 x.1) (set views id w) + 1 ≤ 1 in
          subst P (λ i. (sym e i, sym q i)) (let a = at_here c in let b = less_at slot c.version in let o = K.one slot c.version lt in omega arith)) in omega arith)
          (λ q. let Q : ℕ → Type 0 = λ x. (frame x).version < n in let z = K.not_later s n l (subst Q (sym e) (omega arith)) in omega arith))
          (λ ne. let z = K.not_later s n l (subst (λ (x : FrameWord). x.version < n) (apart s ne) later) in omega arith));
    }
  where
    clash : true ≡ false → ⊥
    clash e = cc

-- ---- the steps

module _ (R : Recorded) (p : Option ℕ) (W : Words) (views : List View) (id : ℕ) (v w : View) (K : Rule R p W views) (at : get_elem? views id ≡ some v) where
  -- a claim wins a waiting frame's word
  pub wins : (c : Claim) (version : ℕ) → c.slot < 65536 → c.version ≡ version + 1 → c.version < 16777216
      → W.frame c.slot ≡ record { phase = 1; version = version; host = 0; cores = c.cores }
      → sub_of (W.amount c.slot).show (R.alloc c.host) ≡ c.sub → (W.amount c.slot).limit ≡ c.limit → (W.amount c.slot).memory ≡ c.memory
      → Uses c v w → w.claims ≡ c ∷ v.claims
      → Rule R p (with_frame W c.slot (record { phase = 3; version = c.version; host = c.host; cores = c.cores })) (set views id w)
  wins c version lt next below was bills limit memory uses claims =
      let slot = c.slot in
      let f : FrameWord = record { phase = 3; version = c.version; host = c.host; cores = c.cores } in
      let is_c : claim_in R.alloc slot f (W.amount slot) ≡ c = (λ i. record { slot = slot; version = c.version; host = c.host; sub = bills i; cores = c.cores; limit = limit i; memory = memory i }) in
      let waiting : (W.frame slot).phase ≡ 1 = ap (λ (x : FrameWord). x.phase) was in
      let free = not_pending R p W views slot K lt (λ e. absurd (omega (arith, waiting, e))) in
      let waits = stands (R.slot slot) (is_pending p slot) (W.frame slot) waiting (K.shows slot lt).frame in
      let was_version : (W.frame slot).version ≡ version = ap (λ (x : FrameWord). x.version) was in
      let was_cores : (W.frame slot).cores ≡ c.cores = ap (λ (x : FrameWord). x.cores) was in
      let over : is_booked (W.frame slot).phase ≡ false = ap is_booked waiting in
      frame_rule R R.slot p p W views id v w slot f K at lt
      (uses_alike R slot (W.frame slot) f (W.amount slot) v w over refl (subst (λ (x : Claim). Uses x v w) (sym is_c) uses))
      (shows_put R R.slot p W views slot f K (λ j ne. refl) (record {
        frame = (let is_one : true ≡ ((R.slot slot).phase == 1) = sym (ap (λ (n : ℕ). n == 1) waits.0) in
            subst (λ (b : Bool). ShowsFrame b (is_pending p slot) (R.slot slot) f) is_one
            (inr (record { phase = ap (λ (b : Bool). if b then 4 else 3) (sym free); version = (let a = waits.1 in omega arith); below = below; cores = (let a = waits.2 in omega arith) })));
        amount = (K.shows slot lt).amount;
      }))
      (pend_put R R.slot p W views slot f K (λ j ne. refl) free)
      (claims_win R.alloc p W.frame W.amount views id v w c f K.claims at lt claims (omega arith) refl is_c)

  -- a claim that still has its word is dropped, and the frame waits again
  pub drops : (c : Claim) → c.slot < 65536 → W.frame c.slot ≡ record { phase = 3; version = c.version; host = c.host; cores = c.cores }
      → (R.slot c.slot).phase ≢ 3 → ((R.slot c.slot).phase ≡ 1 → (R.slot c.slot).host ≡ 0)
      → holds same_claim c v.claims ≡ true → Leaves c v w → w.claims ≡ without same_claim c v.claims
      → Rule R p (with_frame W c.slot (record { phase = 1; version = c.version - 1; host = 0; cores = c.cores })) (set views id w)
  drops c lt was never nowhere has leaves claims =
      let slot = c.slot in
      let s = R.slot slot in
      let f : FrameWord = record { phase = 1; version = c.version - 1; host = 0; cores = c.cores } in
      let setup : (W.frame slot).phase ≡ 3 = ap (λ (x : FrameWord). x.phase) was in
      let version : (W.frame slot).version ≡ c.version = ap (λ (x : FrameWord). x.version) was in
      let cores : (W.frame slot).cores ≡ c.cores = ap (λ (x : FrameWord). x.cores) was in
      let stood = setup_stands s (is_pending p slot) (W.frame slot) setup never (K.shows slot lt).frame in
      let free = not_pending R p W views slot K lt (λ e. absurd (omega (arith, setup, e))) in
      let is_c = claim_is R.alloc p W.frame W.amount views id v c K.claims at lt has (ap (λ (n : ℕ). n == 3 || (is_pending p slot && (n == 4))) setup) version in
      let booked : is_booked (W.frame slot).phase ≡ true = ap is_booked setup in
      let one : 1 ≡ s.phase = sym stood.0 in
      let down : c.version - 1 ≡ s.version = (let a = stood.1 in omega arith) in
      let same_cores : c.cores ≡ s.cores = (let a = stood.2 in omega arith) in
      let word : word_of s ≡ f = (λ i. record { phase = sym one i; version = sym down i; host = nowhere stood.0 i; cores = sym same_cores i }) in
      frame_rule R R.slot p p W views id v w slot f K at lt
      (leaves_alike R slot (W.frame slot) f (W.amount slot) v w booked refl (subst (λ (x : Claim). Leaves x v w) (sym is_c) leaves))
      (shows_put R R.slot p W views slot f K (λ j ne. refl)
      (record { frame = subst (λ (x : FrameWord). ShowsFrame (s.phase == 1) (is_pending p slot) s x) word (shows_exact (s.phase == 1) (is_pending p slot) s); amount = (K.shows slot lt).amount }))
      (pend_put R R.slot p W views slot f K (λ j ne. refl) free)
      (claims_gone R.alloc p W.frame W.amount views id v w c f K.claims at lt has claims version (let a = stood.1 in omega arith) (unclaimed (is_pending p slot) f refl))

  -- a word becomes the recorded one, which is booked no more
  module _ (slot : ℕ) (s : Stand) (lt : slot < 65536) (free : is_pending p slot ≡ false) (over : is_booked s.phase ≡ false) (rises : (W.frame slot).version ≤ s.version) (amount : ShowsAmount s (W.amount slot)) (claims : w.claims ≡ v.claims) where
    pub frees_alike : WeighAlike R.alloc (W.frame slot) (word_of s) (W.amount slot) v w → Rule (record R { slot = put R.slot slot s }) p (with_frame W slot (word_of s)) (set views id w)
    frees_alike alike =
        frame_rule R (put R.slot slot s) p p W views id v w slot (word_of s) K at lt alike
        (shows_put R (put R.slot slot s) p W views slot (word_of s) K (put_else R.slot slot s)
        (subst (λ (x : Stand). Shows (is_pending p slot) x (word_of s) (W.amount slot)) (sym (put_here R.slot slot s)) (record { frame = shows_exact (s.phase == 1) (is_pending p slot) s; amount = amount })))
        (pend_put R (put R.slot slot s) p W views slot (word_of s) K (put_else R.slot slot s) free)
        (claims_turn R.alloc p W.frame W.amount views id v w slot (word_of s) K.claims at claims rises (unclaimed (is_pending p slot) (word_of s) over))

    -- .. from a booked one, whose take, limit take and room are held
    pub frees : is_booked (W.frame slot).phase ≡ true → Leaves (claim_in R.alloc slot (W.frame slot) (W.amount slot)) v w
        → Rule (record R { slot = put R.slot slot s }) p (with_frame W slot (word_of s)) (set views id w)
    frees booked leaves = frees_alike (leaves_alike R slot (W.frame slot) (word_of s) (W.amount slot) v w booked over leaves)

    -- .. from one that wasn't booked
    pub turns : is_booked (W.frame slot).phase ≡ false → HoldsAlike v w → Rule (record R { slot = put R.slot slot s }) p (with_frame W slot (word_of s)) (set views id w)
    turns idle same = frees_alike (record {
      cores = λ h. (let a = cores_free R (W.frame slot) (W.amount slot) idle h in let b = cores_free R (word_of s) (W.amount slot) over h in let c = cores_held v w h same.rooms in omega arith);
      memory = λ h. (let a = memory_free R (W.frame slot) (W.amount slot) idle h in let b = memory_free R (word_of s) (W.amount slot) over h in let c = memory_held v w h same.rooms in omega arith);
      granted = λ j. (let a = sub_free R (W.frame slot) (W.amount slot) idle j in let b = sub_free R (word_of s) (W.amount slot) over j in let c = granted_held v w j same.takes in omega arith);
      flight = λ j. flight_held v w j same.takes;
      counted = λ l. (let a = limit_free R (W.frame slot) (W.amount slot) idle l in let b = limit_free R (word_of s) (W.amount slot) over l in let c = limit_held v w l same.limits in omega arith);
      limit_flight = λ l. limit_flight_held v w l same.limits;
    })
