-- What a look at a slot's two words leaves in the trail.
use Rattle.std.proofs.Common.{◌≡◌, ℕ, zero, suc, ◌+◌, ◌-◌, ◌<◌, ◌==◌, ◌&&◌, ◌||◌, Bool, true, false, not, if◌then◌else◌, List, [], ◌∷◌, ◌++◌, inl, inr, ⊎_elim, refl, ap, ◌∙◌, subst, arith}
use Rattle.std.specs.Prelude.{Some, None}
use Rattle.std.proofs.lemmas.Bool.Decides.{nat_tests}
use Rattle.frame_words.specs.declared.amount_word.AmountWord.{AmountWord}
use Rattle.frame_words.specs.Bits.{frame_of, amount_of}
use Rattle.booking_rule.specs.declared.noted.Noted.{Noted}
use Rattle.booking_rule.specs.Words.{frame_place, amount_place}
use Rattle.booking_rule.specs.Link.{limit_code}
use Rattle.booking_rule.specs.Looks.{HasLook, Look, first_of, is_look, look_of}
use Rattle.booking_rule.specs.Ranges.{found_used}
use Rattle.booking_rule.specs.Splits.{look_at}
use Rattle.booking_core.specs.Machine.{look_for}
use Rattle.booking_table.specs.declared.seen.Seen.{Seen}
use Rattle.booking_table.specs.declared.holds.Hold.{Hold}
use Rattle.booking_table.specs.Holds.{claim_at}
use Rattle.booking_table.specs.Calls.{seen_of, limit_in, look_by}

none_some : {a : AmountWord} → None ≡ Some a → ⊥
none_some e = cc

or_true : (b : Bool) → (b || true) ≡ true
or_true true = refl
or_true false = refl

-- a slot that was just found used
pub found_last : (slot : ℕ) (ns : List Noted) (n : Noted) → n.word ≡ frame_place slot → ((frame_of n.found).phase == 0) ≡ false
    → found_used slot (ns ++ n ∷ []) ≡ true
found_last slot [] n here used = grind (arith, nat_tests)
found_last slot (m ∷ ns) n here used =
    ap (λ (b : Bool). (m.word == frame_place slot && not ((frame_of m.found).phase == 0)) || b) (found_last slot ns n here used)
    ∙ or_true (m.word == frame_place slot && not ((frame_of m.found).phase == 0))

pub look_last : (ns : List Noted) (a b : Noted) → is_look a ≡ true → HasLook ((ns ++ a ∷ []) ++ b ∷ []) (look_of a (Some b))
look_last [] a b is = inl (is, refl)
look_last (n ∷ ns) a b is = inr (look_last ns a b is)

code_back : (code : ℕ) → code ≡ limit_code (limit_in code)
code_back zero = refl
code_back (suc n) = omega arith

pub looks_at : (ns : List Noted) (slot frame amount : ℕ) → slot < 65536 → (frame_of frame).phase ≡ 1 → (frame_of frame).version < 16777215
    → HasLook ((ns ++ look_at (frame_place slot) frame ∷ []) ++ look_at (amount_place slot) amount ∷ []) (look_by (seen_of slot frame amount))
looks_at ns slot frame amount lt waits below =
    let a = look_at (frame_place slot) frame in
    let b = look_at (amount_place slot) amount in
    let is : is_look a ≡ true = grind (arith, nat_tests) in
    let s : frame_place slot - 1 ≡ slot = omega arith in
    let p : (amount_place slot == frame_place slot + 65536) ≡ true = grind (arith, nat_tests) in
    let e : look_of a (Some b) ≡ look_by (seen_of slot frame amount) =
    (λ i. record {
      slot = s i;
      version = (frame_of frame).version;
      cores = (frame_of frame).cores;
      amount = if p i then Some (record { show = (amount_of amount).show; limit = code_back (amount_of amount).limit i; memory = (amount_of amount).memory }) else None;
    }) in
    subst (HasLook ((ns ++ a ∷ []) ++ b ∷ [])) e (look_last ns a b is)

-- what was seen is the look that a claim asks for
pub seen_for : (ns : List Noted) (seen : Seen) (slot version : ℕ) (h : Hold) → seen.slot ≡ slot → seen.version ≡ version → HasLook ns (look_by seen)
    → seen.cores ≡ h.burst.cores → seen.limit ≡ h.burst.limit → seen.memory ≡ h.memory
    → (a : AmountWord) × HasLook ns (look_for (claim_at slot (version + 1) h) a) × (a.limit ≡ limit_code h.burst.limit) × (a.memory ≡ h.memory)
seen_for ns seen slot version h at from look cores limit memory =
    let a : AmountWord = record { show = seen.show; limit = limit_code seen.limit; memory = seen.memory } in
    let before : version ≡ version + 1 - 1 = omega arith in
    let same : look_by seen ≡ look_for (claim_at slot (version + 1) h) a = (λ i. record { slot = at i; version = (from ∙ before) i; cores = cores i; amount = Some a }) in
    (a, subst (HasLook ns) same look, ap limit_code limit, memory)

-- more steps leave a look in the trail, the amount word's load right behind the frame word's
pub looks_stay : (ns ms : List Noted) (seen : Seen) → HasLook ns (look_by seen) → HasLook (ns ++ ms) (look_by seen)
looks_stay [] ms seen h = absurd h
looks_stay (n ∷ ns) ms seen h = ⊎_elim
    (λ (x : (is_look n ≡ true) × (look_of n (first_of ns) ≡ look_by seen)). inl (x.0, here ns x.1))
    (λ (x : HasLook ns (look_by seen)). inr (looks_stay ns ms seen x))
    h
  where
    here : (us : List Noted) → look_of n (first_of us) ≡ look_by seen → look_of n (first_of (us ++ ms)) ≡ look_by seen
    here [] e = absurd (none_some (ap (λ (l : Look). l.amount) e))
    here (m ∷ us) e = e
