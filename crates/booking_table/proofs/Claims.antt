-- .. and of a slot: a look at its words, a claim, and the end of one.
use Rattle.std.proofs.Common.{◌≡◌, ℕ, ◌<◌, ◌==◌, if◌then◌else◌, [], ◌∷◌, refl, ◌∙◌, inr}
use prog.Atomic.{either}
use Rattle.std.specs.Prelude.{Option}
use Rattle.frame_words.specs.Bits.{frame_bits}
use Rattle.booking_rule.specs.declared.view.View.{View}
use Rattle.booking_rule.specs.Words.{frame_place, amount_place, words_of}
use Rattle.booking_rule.proofs.Alone.{amount_shown, claim_shown, slot_shown, unnumbered}
use Rattle.booking_core.specs.Kinds.{loaded, tried_claim, tried_drop, waiting_for, setup_for}
use Rattle.booking_core.specs.Kinds.Kind.{loads, claims, drops}
use Rattle.booking_core.specs.Machine.{Table, word, Asks}
use Rattle.booking_table.specs.declared.doing.Doing.TheVariants as doing
use Rattle.booking_table.specs.Holds.{claim_with}
use Rattle.booking_table.specs.Steps.{MayStep, tells_of}
use Rattle.booking_table.proofs.Stepping.{KeepsRule, either_if, on_kind}

module _ (law : KeepsRule) (v : View) (id : ℕ) where
  pub may_load_frame : (slot : ℕ) → slot < 65536 → ((s : Table) → Asks s id v (loads (frame_place slot)))
      → MayStep (tells_of (doing.LoadFrame slot)) v id (frame_place slot) (λ n. n)
  may_load_frame slot lt asks s h at fits =
      let n = word s (frame_place slot) in (
        loaded v (frame_place slot) n,
        on_kind law s id v h at (loads (frame_place slot)) (loaded v (frame_place slot) n) n (asks s) refl refl,
        (
          refl,
          λ used. h.1.own.ranged.cores slot lt used,
          λ alone. (
            slot_shown (word s 0) (words_of s.words) s.views id v [] h.1 at alone refl slot lt,
            unnumbered (word s 0) (words_of s.words) s.views id v [] h.1 at alone,
          ),
        ),
      )

  pub may_load_amount : (slot : ℕ) → slot < 65536 → ((s : Table) → Asks s id v (loads (amount_place slot)))
      → MayStep (tells_of (doing.LoadAmount slot)) v id (amount_place slot) (λ n. n)
  may_load_amount slot lt asks s h at fits =
      let n = word s (amount_place slot) in (
        loaded v (amount_place slot) n,
        on_kind law s id v h at (loads (amount_place slot)) (loaded v (amount_place slot) n) n (asks s) refl refl,
        (
          refl,
          λ used. h.1.own.ranged.memory slot lt (inr (id, v, at, used)),
          λ alone. amount_shown (word s 0) (words_of s.words) s.views id v [] h.1 at alone slot lt,
        ),
      )

  pub may_claim : (slot version host sub cores : ℕ) (limit : Option ℕ) (memory old new : ℕ)
      → old ≡ frame_bits (waiting_for (claim_with slot version host sub cores limit memory))
      → new ≡ frame_bits (setup_for (claim_with slot version host sub cores limit memory))
      → ((s : Table) → Asks s id v (claims (claim_with slot version host sub cores limit memory)))
      → MayStep (tells_of (doing.Claims slot version host sub cores limit memory)) v id (frame_place slot) (λ n. either (n == old) new n)
  may_claim slot version host sub cores limit memory old new was is asks s h at fits =
      let c = claim_with slot version host sub cores limit memory in
      let n = word s (frame_place slot) in
      let w = tried_claim v c n in (
        w,
        on_kind law s id v h at (claims c) w (either (n == old) new n) (asks s) refl
            (either_if (n == old) new n ∙ λ i. if n == was i then is i else n),
        (refl, λ alone. slot_shown (word s 0) (words_of s.words) s.views id v [] h.1 at alone refl slot (asks s).2.0),
      )

  pub may_drop : (slot version host sub cores : ℕ) (limit : Option ℕ) (memory old new : ℕ)
      → old ≡ frame_bits (setup_for (claim_with slot version host sub cores limit memory))
      → new ≡ frame_bits (waiting_for (claim_with slot version host sub cores limit memory))
      → ((s : Table) → Asks s id v (drops (claim_with slot version host sub cores limit memory)))
      → MayStep (tells_of (doing.Drops slot version host sub cores limit memory)) v id (frame_place slot) (λ n. either (n == old) new n)
  may_drop slot version host sub cores limit memory old new was is asks s h at fits =
      let c = claim_with slot version host sub cores limit memory in
      let n = word s (frame_place slot) in
      let w = tried_drop v c n in (
        w,
        on_kind law s id v h at (drops c) w (either (n == old) new n) (asks s) refl
            (either_if (n == old) new n ∙ λ i. if n == was i then is i else n),
        (
          refl,
          λ alone next. claim_shown (word s 0) (words_of s.words) s.views id v (c ∷ []) h.1 at alone c refl (asks s).1.0 next,
        ),
      )
