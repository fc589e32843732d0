-- What seats saw and what their claims suit, where a view changes or comes.
use Rattle.std.proofs.Common.{◌≡◌, ◌≢◌, ◌⊎◌, ℕ, ◌+◌, ◌<◌, Bool, true, false, if◌then◌else◌, ◌==◌, ◌&&◌, ◌||◌, List, [], ◌∷◌, ◌++◌, length, set, sym, refl, ap, ◌∙◌, subst, arith, inl, inr, ⊎_elim}
use Rattle.std.specs.Prelude.{not, Option, Some, None}
use mathlib.Core.Option.{some}
use mathlib.Core.Logic.{dite}
use native.Mathlib.Decide.{ℕ_discrete}
use lib.ListN.{get_elem?}
use Rattle.std.proofs.lemmas.Bool.Decides.{nat_tests}
use Rattle.atomic_table.proofs.Lists.{at_set}
use Rattle.farm_types.specs.declared.entry.Entry.{Entry}
use Rattle.farm_types.specs.Farm.{Farm}
use Rattle.farm_types.specs.Limits.{IsBetween}
use Rattle.farm_types.specs.declared.limits.TheConstants.{LEAST_CORES, LEAST_MEMORY, MOST_CORES, MOST_MEMORY}
use Rattle.frame_words.specs.declared.frame_word.FrameWord.{FrameWord}
use Rattle.frame_words.specs.declared.amount_word.AmountWord.{AmountWord}
use Rattle.frame_words.specs.Bits.{frame_of}
use Rattle.booking_rule.specs.declared.view.View.{View}
use Rattle.booking_rule.specs.declared.hold.Claim.{Claim}
use Rattle.booking_rule.specs.declared.noted.Noted.{Noted}
use Rattle.booking_rule.specs.Recorded.{Stand}
use Rattle.booking_rule.specs.Views.{same_claim, without}
use Rattle.booking_rule.specs.Amounts.{later_of, last_amount, IsWritten, Written}
use Rattle.booking_rule.specs.Looks.{AllStand, Looks}
use Rattle.booking_rule.specs.Ranges.{found_used, IsFoundUsed, Ranged}
use Rattle.booking_rule.specs.Suits.{AllSuit, Suited}
use Rattle.booking_rule.proofs.Sums.{at_more}

-- ---- claims that suit

module _ (f : Farm) (log : List Entry) (views : List View) where
  pub suited_set : (id : ℕ) (w : View) → Suited f log views → AllSuit f log w.claims → Suited f log (set views id w)
  suited_set id w s mine = record {
    each = λ j x e. ⊎_elim
        (λ (h : (j ≡ id) × (w ≡ x)). subst (λ (y : View). AllSuit f log y.claims) h.1 mine)
        (λ (h : (j ≢ id) × (get_elem? views j ≡ some x)). s.each j x h.1)
        (at_set views id j w x e);
  }

  pub suited_more : (u : View) → Suited f log views → AllSuit f log u.claims → Suited f log (views ++ u ∷ [])
  suited_more u s mine = record {
    each = λ j x e. ⊎_elim
        (λ (h : get_elem? views j ≡ some x). s.each j x h)
        (λ (h : (j ≡ length views) × (u ≡ x)). subst (λ (y : View). AllSuit f log y.claims) h.1 mine)
        (at_more views u x j e);
  }

-- one claim less
pub suited_without : (f : Farm) (log : List Entry) (c : Claim) (cs : List Claim) → AllSuit f log cs → AllSuit f log (without same_claim c cs)
suited_without f log c [] h = tt
suited_without f log c (x ∷ xs) h = go (suited_without f log c xs h.1) (same_claim c x)
  where
    go : AllSuit f log (without same_claim c xs) → (b : Bool) → AllSuit f log (if b then xs else x ∷ without same_claim c xs)
    go rest true = h.1
    go rest false = (h.0, rest)

-- ---- what was seen

module _ (stand : ℕ → Stand) (views : List View) where
  pub looks_set : (id : ℕ) (w : View) → Looks stand views → AllStand stand w.trail → Looks stand (set views id w)
  looks_set id w s mine = record {
    each = λ j x e. ⊎_elim
        (λ (h : (j ≡ id) × (w ≡ x)). subst (λ (y : View). AllStand stand y.trail) h.1 mine)
        (λ (h : (j ≢ id) × (get_elem? views j ≡ some x)). s.each j x h.1)
        (at_set views id j w x e);
  }

  pub looks_more : (u : View) → Looks stand views → AllStand stand u.trail → Looks stand (views ++ u ∷ [])
  looks_more u s mine = record {
    each = λ j x e. ⊎_elim
        (λ (h : get_elem? views j ≡ some x). s.each j x h)
        (λ (h : (j ≡ length views) × (u ≡ x)). subst (λ (y : View). AllStand stand y.trail) h.1 mine)
        (at_more views u x j e);
  }

-- ---- amounts

-- the item found the slot's frame word, which wasn't FREE
abbrev pub finds_used : ℕ → Noted → Bool
finds_used slot n = n.word == slot + 1 && not ((frame_of n.found).phase == 0)

-- the journal's word is no frame word
pub journal_unused : (slot found : ℕ) → (0 == slot + 1 && not ((frame_of found).phase == 0)) ≡ true → ⊥
journal_unused slot found e = go (0 == slot + 1) ((frame_of found).phase == 0) (grind (arith, nat_tests)) e
  where
    go : (a b : Bool) → a ≡ false → (a && not b) ≡ true → ⊥
    go true b h e = cc
    go false b h e = cc

found_last : (slot : ℕ) (ns : List Noted) (item : Noted) → found_used slot (ns ++ item ∷ []) ≡ true → (found_used slot ns ≡ true) ⊎ (finds_used slot item ≡ true)
found_last slot [] item e = go (finds_used slot item) e
  where
    go : (b : Bool) → (b || false) ≡ true → (false ≡ true) ⊎ (b ≡ true)
    go true e = inr refl
    go false e = inl e
found_last slot (n ∷ ns) item e = go (finds_used slot n) (found_last slot ns item) e
  where
    go : (b : Bool) → (found_used slot (ns ++ item ∷ []) ≡ true → (found_used slot ns ≡ true) ⊎ (finds_used slot item ≡ true)) → (b || found_used slot (ns ++ item ∷ [])) ≡ true
        → ((b || found_used slot ns) ≡ true) ⊎ (finds_used slot item ≡ true)
    go true rest e = inl refl
    go false rest e = rest e

module _ (F : ℕ → FrameWord) (A : ℕ → AmountWord) (views : List View) where
  -- a view whose trail says no more
  pub ranged_by : (G : ℕ → FrameWord) (id : ℕ) (w : View) → Ranged F A views → ((slot : ℕ) → slot < 65536 → found_used slot w.trail ≡ true → (((F slot).phase == 0) ≡ false) ⊎ IsFoundUsed slot views)
      → ((slot : ℕ) → ((G slot).phase == 0) ≡ ((F slot).phase == 0)) → ((slot : ℕ) → (G slot).cores ≡ (F slot).cores) → Ranged G A (set views id w)
  ranged_by G id w r found phase cores = record {
    cores = λ slot lt used. subst (IsBetween LEAST_CORES MOST_CORES) (sym (cores slot)) (r.cores slot lt (sym (phase slot) ∙ used));
    memory = λ slot lt used. r.memory slot lt (⊎_elim
        (λ (h : ((G slot).phase == 0) ≡ false). inl (sym (phase slot) ∙ h))
        (λ (h : IsFoundUsed slot (set views id w)). ⊎_elim
        (λ (y : (h.0 ≡ id) × (w ≡ h.1)). found slot lt (ap (λ (x : View). found_used slot x.trail) y.1 ∙ h.3))
        (λ (y : (h.0 ≢ id) × (get_elem? views h.0 ≡ some h.1)). inr (h.0, h.1, y.1, h.3))
        (at_set views id h.0 w h.1 h.2))
        used);
  }

  -- a step that finds a word; words stay free or not, with their cores
  pub ranged_step : (G : ℕ → FrameWord) (id : ℕ) (v w : View) (item : Noted) → Ranged F A views → get_elem? views id ≡ some v → w.trail ≡ v.trail ++ item ∷ []
      → ((slot : ℕ) → slot < 65536 → finds_used slot item ≡ true → ((F slot).phase == 0) ≡ false)
      → ((slot : ℕ) → ((G slot).phase == 0) ≡ ((F slot).phase == 0)) → ((slot : ℕ) → (G slot).cores ≡ (F slot).cores) → Ranged G A (set views id w)
  ranged_step G id v w item r at own finds phase cores =
      ranged_by G id w r
      (λ slot lt e. ⊎_elim (λ (h : found_used slot v.trail ≡ true). inr (id, v, at, h)) (λ (h : finds_used slot item ≡ true). inl (finds slot lt h))
      (found_last slot v.trail item (ap (λ (l : List Noted). found_used slot l) (sym own) ∙ e)))
      phase cores

  -- one slot's word becomes any, of a layer's amounts unless it is FREE
  pub ranged_turn : (G : ℕ → FrameWord) (id : ℕ) (v w : View) (item : Noted) (slot : ℕ) → Ranged F A views → get_elem? views id ≡ some v → w.trail ≡ v.trail ++ item ∷ []
      → ((j : ℕ) → j < 65536 → finds_used j item ≡ true → ((F j).phase == 0) ≡ false)
      → ((j : ℕ) → j ≢ slot → G j ≡ F j) → (((G slot).phase == 0) ≡ false → IsBetween LEAST_CORES MOST_CORES (G slot).cores × IsBetween LEAST_MEMORY MOST_MEMORY (A slot).memory)
      → Ranged G A (set views id w)
  ranged_turn G id v w item slot r at own finds apart mine = record {
    cores = λ j lt used. dite (ℕ_discrete j slot)
        (λ e. let P : ℕ → Type 0 = λ x. IsBetween LEAST_CORES MOST_CORES (G x).cores in let Q : ℕ → Type 0 = λ x. ((G x).phase == 0) ≡ false in subst P (sym e) (mine (subst Q e used)).0)
        (λ ne. subst (λ (x : FrameWord). IsBetween LEAST_CORES MOST_CORES x.cores) (sym (apart j ne)) (r.cores j lt (ap (λ (x : FrameWord). x.phase == 0) (sym (apart j ne)) ∙ used)));
    memory = λ j lt used. ⊎_elim
        (λ (h : ((G j).phase == 0) ≡ false). dite (ℕ_discrete j slot)
        (λ e. let P : ℕ → Type 0 = λ x. IsBetween LEAST_MEMORY MOST_MEMORY (A x).memory in let Q : ℕ → Type 0 = λ x. ((G x).phase == 0) ≡ false in subst P (sym e) (mine (subst Q e h)).1)
        (λ ne. r.memory j lt (inl (ap (λ (x : FrameWord). x.phase == 0) (sym (apart j ne)) ∙ h))))
        (λ (h : IsFoundUsed j (set views id w)). r.memory j lt (⊎_elim
        (λ (y : (h.0 ≡ id) × (w ≡ h.1)). ⊎_elim (λ (z : found_used j v.trail ≡ true). inr (id, v, at, z)) (λ (z : finds_used j item ≡ true). inl (finds j lt z))
        (found_last j v.trail item (ap (λ (l : List Noted). found_used j l) (sym own) ∙ (ap (λ (x : View). found_used j x.trail) y.1 ∙ h.3))))
        (λ (y : (h.0 ≢ id) × (get_elem? views h.0 ≡ some h.1)). inr (h.0, h.1, y.1, h.3))
        (at_set views id h.0 w h.1 h.2)))
        used;
  }

  pub ranged_same : (id : ℕ) (v w : View) → Ranged F A views → get_elem? views id ≡ some v → w.trail ≡ v.trail → Ranged F A (set views id w)
  ranged_same id v w r at own = ranged_by F id w r (λ slot lt e. inr (id, v, at, ap (λ (l : List Noted). found_used slot l) (sym own) ∙ e)) (λ slot. refl) (λ slot. refl)

  -- a view with no trail
  pub ranged_none : (id : ℕ) (w : View) → Ranged F A views → w.trail ≡ [] → Ranged F A (set views id w)
  ranged_none id w r own = ranged_by F id w r (λ slot lt e. absurd (off (sym (ap (λ (l : List Noted). found_used slot l) own) ∙ e))) (λ slot. refl) (λ slot. refl)
    where
      off : false ≡ true → ⊥
      off e = cc

  pub ranged_more : (u : View) → u.trail ≡ [] → Ranged F A views → Ranged F A (views ++ u ∷ [])
  ranged_more u own r = record {
    cores = r.cores;
    memory = λ slot lt used. r.memory slot lt (⊎_elim
        (λ (h : ((F slot).phase == 0) ≡ false). inl h)
        (λ (h : IsFoundUsed slot (views ++ u ∷ [])). ⊎_elim
        (λ (y : get_elem? views h.0 ≡ some h.1). inr (h.0, h.1, y, h.3))
        (λ (y : (h.0 ≡ length views) × (u ≡ h.1)). absurd (off (sym (ap (λ (l : List Noted). found_used slot l) own) ∙ (ap (λ (x : View). found_used slot x.trail) y.1 ∙ h.3))))
        (at_more views u h.1 h.0 h.2))
        used);
  }
    where
      off : false ≡ true → ⊥
      off e = cc

-- ---- amount words that were written

-- a step that writes no amount word
last_more : (slot : ℕ) (ns : List Noted) (item : Noted) → (item.did == 14) ≡ false → last_amount slot (ns ++ item ∷ []) ≡ last_amount slot ns
last_more slot [] item other = ap (λ (b : Bool). if b && (item.word == slot + 65537) then Some item.wrote else None) other
last_more slot (n ∷ ns) item other = ap (λ (x : Option ℕ). later_of x (if n.did == 14 && (n.word == slot + 65537) then Some n.wrote else None)) (last_more slot ns item other)

pub written_more : (amount : ℕ → AmountWord) (trail : List Noted) (item : Noted) → Written amount trail → (item.did == 14) ≡ false → Written amount (trail ++ item ∷ [])
written_more amount trail item w other = record { each = λ slot lt. subst (IsWritten (amount slot)) (sym (last_more slot trail item other)) (w.each slot lt) }
