-- What a step writes is a word of 64 bits.
use Rattle.std.proofs.Common.{◌≡◌, ℕ, ◌%◌, ◌<◌, ◌^◌, ◌==◌, Bool, true, false, if◌then◌else◌, refl, subst, arith}
use mathlib.Core.Option.{some}
use lib.ListN.{get_elem?}
use Rattle.std.proofs.lemmas.Bool.Decides.{nat_tests}
use Rattle.frame_words.specs.declared.frame_word.FrameWord.{FrameWord}
use Rattle.frame_words.specs.Bits.{FitsFrame, frame_bits}
use Rattle.booking_rule.specs.declared.view.View.{View}
use Rattle.booking_rule.specs.Words.{host_place, frame_place}
use Rattle.booking_rule.specs.Kept.{Holds}
use Rattle.booking_core.specs.Kinds.{Kind, place, wrote, host_less, waiting_for, setup_for}
use Rattle.booking_core.specs.Kinds.Kind.{loads, takes_burst, gives_burst, retracts_burst, takes_limit, gives_limit, retracts_limit, takes_host}
use Rattle.booking_core.specs.Kinds.Kind.{gives_host, claims, drops, settles, splits, notes, joins}
use Rattle.booking_core.specs.Machine.{Table, word, Asks}
use Rattle.booking_core.proofs.Wrapping.{takes_burst_writes, gives_burst_writes, retracts_burst_writes, takes_limit_writes, gives_limit_writes}
use Rattle.booking_core.proofs.Wrapping.{retracts_limit_writes, gives_host_writes}
use Rattle.booking_core.proofs.Claiming.{waiting_fits}

below : (m n : ℕ) → m % 2 ^ 64 ≡ n → n < 2 ^ 64
below m n e = omega (arith, e)

frame_below : (w : FrameWord) → FitsFrame w → frame_bits w < 2 ^ 64
frame_below w fits = omega (arith, fits.0, fits.1, fits.2, fits.3)

host_below : (n cores memory : ℕ) → n < 2 ^ 64 → host_less n cores memory < 2 ^ 64
host_below n cores memory small = omega (arith, small)

-- an exchange: the wanted word, or the one that was found
exchanged : (n expected wanted : ℕ) → n < 2 ^ 64 → (n ≡ expected → wanted < 2 ^ 64) → (if n == expected then wanted else n) < 2 ^ 64
exchanged n expected wanted small won = go (n == expected) refl
  where
    go : (b : Bool) → (n == expected) ≡ b → (if b then wanted else n) < 2 ^ 64
    go true hit = won (grind (arith, nat_tests))
    go false miss = small

pub step_fits : (s : Table) (id : ℕ) (v : View) (k : Kind) → Holds s → get_elem? s.views id ≡ some v → Asks s id v k
    → word s (place k) < 2 ^ 64 → wrote k (word s (place k)) < 2 ^ 64
step_fits s id v (loads i) h at asks small = small
step_fits s id v (takes_burst sub cores) h at asks small = below _ _ (takes_burst_writes s id v h at sub cores asks small)
step_fits s id v (gives_burst sub cores) h at asks small = below _ _ (gives_burst_writes s id v h at sub cores asks small)
step_fits s id v (retracts_burst sub cores) h at asks small = below _ _ (retracts_burst_writes s id v h at sub cores asks small)
step_fits s id v (takes_limit limit) h at asks small = below _ _ (takes_limit_writes s id v h at limit asks small)
step_fits s id v (gives_limit limit) h at asks small = below _ _ (gives_limit_writes s id v h at limit asks small)
step_fits s id v (retracts_limit limit) h at asks small = below _ _ (retracts_limit_writes s id v h at limit asks small)
step_fits s id v (takes_host host cores memory expected) h at asks small =
    exchanged (word s (host_place host)) expected (host_less expected cores memory) small
    (λ e. subst (λ (x : ℕ). host_less x cores memory < 2 ^ 64) e (host_below (word s (host_place host)) cores memory small))
step_fits s id v (gives_host host cores memory) h at asks small = below _ _ (gives_host_writes s id v h at host cores memory asks small)
step_fits s id v (claims c) h at asks small =
    exchanged (word s (frame_place c.slot)) (frame_bits (waiting_for c)) (frame_bits (setup_for c)) small (λ _. frame_below (setup_for c) asks.2.2)
step_fits s id v (drops c) h at asks small =
    exchanged (word s (frame_place c.slot)) (frame_bits (setup_for c)) (frame_bits (waiting_for c)) small
    (λ _. frame_below (waiting_for c) (waiting_fits c asks.1))
step_fits s id v settles h at asks small = small
step_fits s id v splits h at asks small = small
step_fits s id v notes h at asks small = small
step_fits s id v (joins other) h at asks small = small
