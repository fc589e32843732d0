-- A seat that may step is one that the table allows to.
use Rattle.std.proofs.Common.{◌≡◌, ℕ, sym, refl, subst}
use Rattle.atomic_table.specs.Table.{Me, step, keeps, Allows}
use mathlib.Core.Option.{none}
use Rattle.booking_rule.specs.declared.view.View.{View}
use Rattle.booking_rule.specs.Kept.{Holds}
use Rattle.booking_table.specs.Steps.{told, MayStep}

pub allows : (tells : View → ℕ → View → Type 0) (slots id : ℕ) (me : Me (Unit {0}) View) (i a b : ℕ) (f : ℕ → ℕ) → MayStep tells me.0 id i f
    → Allows Holds slots id me i f (told tells (step slots i a b none) me)
allows tells slots id me i a b f may s h len at fits64 = let m = may s h at fits64 in (m.0, keeps, tt, m.1, (refl, m.2))

-- the same at a word and with an amount that are equal
pub moved : (tells : View → ℕ → View → Type 0) (v : View) (id : ℕ) (f : ℕ → ℕ → ℕ) (i j a b : ℕ) → i ≡ j → a ≡ b
    → MayStep tells v id j (f b) → MayStep tells v id i (f a)
moved tells v id f i j a b p q may = subst (λ (x : ℕ × ℕ). MayStep tells v id x.0 (f x.1)) (λ t. (sym p t, sym q t)) may
