-- What was seen stays true.
use Rattle.std.proofs.Common.{◌≡◌, ◌⊎◌, ℕ, ◌+◌, ◌-◌, ◌<◌, ◌≤◌, Bool, true, false, if◌then◌else◌, ◌==◌, ◌&&◌, List, [], ◌∷◌, ◌++◌, refl, sym, ap, ◌∙◌, subst, arith, ⊎_elim}
use Rattle.std.specs.Prelude.{Option, Some, None}
use Rattle.std.proofs.lemmas.Bool.Decides.{nat_tests}
use mathlib.Core.Logic.{dite}
use native.Mathlib.Decide.{ℕ_discrete}
use Rattle.frame_words.specs.declared.frame_word.FrameWord.{FrameWord}
use Rattle.frame_words.specs.declared.amount_word.AmountWord.{AmountWord}
use Rattle.booking_rule.specs.Words.{put}
use Rattle.booking_rule.specs.Recorded.{Stand}
use Rattle.booking_rule.specs.Rule.{Shows}
use Rattle.frame_words.specs.Bits.{frame_of, amount_of}
use Rattle.booking_rule.specs.declared.noted.Noted.{Noted}
use Rattle.booking_rule.specs.Looks.{Look, AgreesWith, StillStands, Stands, is_look, amount_after, look_of, first_of, Saw, AllStand, HasLook}
use Rattle.booking_rule.proofs.Moves.{put_here, put_else}
use Rattle.booking_rule.proofs.Weighing.{stands}

-- a frame word that is found WAITING
pub found : (stand : ℕ → Stand) (pending : Bool) (slot : ℕ) (f : FrameWord) (a : AmountWord) → Shows pending (stand slot) f a → f.phase ≡ 1 → Stands stand (record { slot = slot; version = f.version; cores = f.cores; amount = None })
found stand pending slot f a shows waits =
    let s = stands (stand slot) pending f waits shows.frame in
    record { not_later = (let v = s.1 in omega arith); still = λ same. record { waits = s.0; cores = s.2; amount = tt } }

-- the amount word that is loaded next, whatever happened in between
pub paired : (stand : ℕ → Stand) (pending : Bool) (slot version cores : ℕ) (f : FrameWord) (a : AmountWord) → Shows pending (stand slot) f a
    → Stands stand (record { slot = slot; version = version; cores = cores; amount = None }) → Stands stand (record { slot = slot; version = version; cores = cores; amount = Some a })
paired stand pending slot version cores f a shows l = record {
  not_later = l.not_later;
  still = λ same. (let s = l.still same in record { waits = s.waits; cores = s.cores; amount = shows.amount (ap (λ (n : ℕ). n == 0) s.waits) });
}

-- A recorded slot changes: its version doesn't fall, and where it waited below the last version it is the same or of a later version.
pub stays : (stand : ℕ → Stand) (slot : ℕ) (s : Stand) (l : Look) → (stand slot).version ≤ s.version
    → ((stand slot).phase ≡ 1 → (stand slot).version < 16777215 → (stand slot ≡ s) ⊎ ((stand slot).version < s.version))
    → l.version < 16777215 → Stands stand l → Stands (put stand slot s) l
stays stand slot s l rises change below old = dite (ℕ_discrete l.slot slot)
    (λ e. let is : put stand slot s l.slot ≡ s = ap (put stand slot s) e ∙ put_here stand slot s in
    let was : stand l.slot ≡ stand slot = ap stand e in
    let u : (stand l.slot).version ≡ (stand slot).version = ap (λ (x : Stand). x.version) was in
    let v : (put stand slot s l.slot).version ≡ s.version = ap (λ (x : Stand). x.version) is in
    let o = old.not_later in
    record {
      not_later = omega arith;
      still = λ same.
          let at : (stand l.slot).version ≡ l.version = omega arith in
          let here = old.still at in
          ⊎_elim
          (λ (eq : stand slot ≡ s). subst (λ (x : Stand). StillStands x l) (was ∙ eq ∙ sym is) here)
          (λ (later : (stand slot).version < s.version). absurd (omega arith))
          (change (ap (λ (x : Stand). x.phase) (sym was) ∙ here.waits) (omega arith));
    })
    (λ ne. let eq : stand l.slot ≡ put stand slot s l.slot = sym (put_else stand slot s l.slot ne) in
    record { not_later = subst (λ (x : Stand). l.version ≤ x.version) eq old.not_later; still = subst (λ (x : Stand). x.version ≡ l.version → StillStands x l) eq old.still })

-- a claim that finds the word WAITING at the version that was seen has the word's amounts
pub saw_amounts : (stand : ℕ → Stand) (pending : Bool) (l : Look) (seen : AmountWord) (f : FrameWord) (a : AmountWord) → Shows pending (stand l.slot) f a → Stands stand l → l.amount ≡ Some seen → f.phase ≡ 1 → f.version ≡ l.version
    → (f.cores ≡ l.cores) × ((a.show ≡ seen.show) × ((a.limit ≡ seen.limit) × (a.memory ≡ seen.memory)))
saw_amounts stand pending l seen f a shows l_stands is waits same =
    let s = stands (stand l.slot) pending f waits shows.frame in
    let still = l_stands.still (s.1 ∙ same) in
    let amount = shows.amount (ap (λ (n : ℕ). n == 0) s.0) in
    let agrees : AgreesWith (stand l.slot) (Some seen) = subst (AgreesWith (stand l.slot)) is still.amount in
    (sym s.2 ∙ still.cores, (amount.0 ∙ sym agrees.0, (amount.1.0 ∙ sym agrees.1.0, amount.1.1 ∙ sym agrees.1.1)))

-- ---- a trail

pub look_stands : (stand : ℕ → Stand) (ns : List Noted) (l : Look) → AllStand stand ns → HasLook ns l → Stands stand l
look_stands stand [] l all has = absurd has
look_stands stand (n ∷ ns) l all has =
    ⊎_elim (λ (h : (is_look n ≡ true) × (look_of n (first_of ns) ≡ l)). subst (Stands stand) h.1 (all.0 h.0)) (λ (h : HasLook ns l). look_stands stand ns l all.1 h) has

-- ---- one item more in a trail

-- what an item shows by itself, and with the item before it
pub record Tells (stand : ℕ → Stand) (item : Noted) : Type 0 where
  pub alone : Saw stand item None
  pub pairs : (n : Noted) → Saw stand n None → Saw stand n (Some item)

pub all_stand : (stand : ℕ → Stand) (ns : List Noted) (item : Noted) → AllStand stand ns → Tells stand item → AllStand stand (ns ++ item ∷ [])
all_stand stand [] item h t = (t.alone, tt)
all_stand stand (n ∷ []) item h t = (t.pairs n h.0, (t.alone, tt))
all_stand stand (n ∷ m ∷ ns) item h t = (h.0, all_stand stand (m ∷ ns) item h.1 t)

-- an item that no look is paired with
pairs_none : (stand : ℕ → Stand) (item : Noted) → ((word : ℕ) → 1 ≤ word → word ≤ 65536 → (item.did == 1 && (item.word == word + 65536)) ≡ false) → (n : Noted) → Saw stand n None → Saw stand n (Some item)
pairs_none stand item apart n saw is =
    let low : 1 ≤ n.word = grind (arith, nat_tests) in
    let high : n.word ≤ 65536 = grind (arith, nat_tests) in
    let none : amount_after n.word (Some item) ≡ None = ap (λ (b : Bool). if b then Some (amount_of item.found) else None) (apart n.word low high) in
    subst (λ (x : Option AmountWord). Stands stand (record { slot = n.word - 1; version = (frame_of n.found).version; cores = (frame_of n.found).cores; amount = x })) (sym none) (saw is)

-- the journal's word, and those of hosts, subscriptions and limits, tell nothing of frames
pub tells_nothing : (stand : ℕ → Stand) (item : Noted) → (item.word ≡ 0) ⊎ (131073 ≤ item.word) → Tells stand item
tells_nothing stand item where_is = record {
  alone = λ is. absurd (off is);
  pairs = pairs_none stand item (λ word low high. grind (arith, nat_tests));
}
  where
    off : is_look item ≡ true → ⊥
    off is =
        let low : 1 ≤ item.word = grind (arith, nat_tests) in
        let high : item.word ≤ 65536 = grind (arith, nat_tests) in
        ⊎_elim (λ (e : item.word ≡ 0). absurd (omega arith)) (λ (e : 131073 ≤ item.word). absurd (omega arith)) where_is

-- a frame word, whatever was done to it, tells the word that was found
pub tells_frame : (stand : ℕ → Stand) (pending : Bool) (slot : ℕ) (f : FrameWord) (a : AmountWord) (item : Noted) → Shows pending (stand slot) f a → slot < 65536 → item.word ≡ slot + 1 → frame_of item.found ≡ f → Tells stand item
tells_frame stand pending slot f a item shows lt at is = record {
  alone = λ look.
      let waits : (frame_of item.found).phase ≡ 1 = grind (arith, nat_tests) in
      let here : item.word - 1 ≡ slot = omega arith in
      let s = found stand pending slot f a shows (ap (λ (x : FrameWord). x.phase) (sym is) ∙ waits) in
      subst (λ (x : FrameWord × ℕ). Stands stand (record { slot = x.1; version = x.0.version; cores = x.0.cores; amount = None })) (λ i. (sym is i, sym here i)) s;
  pairs = pairs_none stand item (λ word low high. grind (arith, nat_tests));
}

-- an amount word that was loaded tells of the look before it
pub tells_amount : (stand : ℕ → Stand) (pending : Bool) (slot : ℕ) (f : FrameWord) (a : AmountWord) (item : Noted) → Shows pending (stand slot) f a → slot < 65536 → item.word ≡ slot + 65537 → amount_of item.found ≡ a → Tells stand item
tells_amount stand pending slot f a item shows lt at is = record {
  alone = λ look. absurd (off look);
  pairs = λ n saw look. pair n look (saw look) (item.did == 1 && (item.word == n.word + 65536)) refl;
}
  where
    off : is_look item ≡ true → ⊥
    off look = let high : item.word ≤ 65536 = grind (arith, nat_tests) in absurd (omega arith)

    pair : (n : Noted) → is_look n ≡ true → Stands stand (look_of n None) → (b : Bool) → (item.did == 1 && (item.word == n.word + 65536)) ≡ b
        → Stands stand (record { slot = n.word - 1; version = (frame_of n.found).version; cores = (frame_of n.found).cores; amount = if b then Some (amount_of item.found) else None })
    pair n look s false e = s
    pair n look s true e =
        let low : 1 ≤ n.word = grind (arith, nat_tests) in
        let same : item.word ≡ n.word + 65536 = grind (arith, nat_tests) in
        let here : n.word - 1 ≡ slot = omega arith in
        let s' = subst (λ (x : ℕ). Stands stand (record { slot = x; version = (frame_of n.found).version; cores = (frame_of n.found).cores; amount = None })) here s in
        let p = paired stand pending slot (frame_of n.found).version (frame_of n.found).cores f a shows s' in
        subst (λ (x : AmountWord × ℕ). Stands stand (record { slot = x.1; version = (frame_of n.found).version; cores = (frame_of n.found).cores; amount = Some x.0 })) (λ i. (sym is i, sym here i)) p

-- an amount word that was written tells nothing
pub tells_written : (stand : ℕ → Stand) (item : Noted) → (item.did == 1) ≡ false → 65537 ≤ item.word → Tells stand item
tells_written stand item other far = record {
  alone = λ look. absurd (off look);
  pairs = pairs_none stand item (λ word low high. ap (λ (b : Bool). b && (item.word == word + 65536)) other);
}
  where
    off : is_look item ≡ true → ⊥
    off look = let high : item.word ≤ 65536 = grind (arith, nat_tests) in absurd (omega arith)
