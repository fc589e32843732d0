-- A step that its seat may take, and that writes what its kind writes, is one that the table allows.
use Rattle.std.proofs.Common.{◌≡◌, ℕ, [], ◌∷◌, List, slice_set, sym, refl, subst}
use mathlib.Core.Option.{none}
use Rattle.atomic_table.specs.Table.{Me, step, keeps, Allows}
use Rattle.booking_rule.specs.declared.view.View.{View}
use Rattle.booking_rule.specs.Kept.{Holds}
use Rattle.booking_core.specs.Machine.{Table, word}
use Rattle.recording_core.specs.Records.{RecorderKind, place, knows}
use Rattle.recording_core.specs.Machine.{Move, Runs, acts}
use Rattle.recording_core.specs.Machine.AnyKind.{of_recorder}
use Rattle.recording_table.specs.Steps.{MayTake, Writes, told}
use Rattle.recording_table.proofs.Finding.{finds}

-- what the law of steps says
abbrev pub KeepsRule : Type 0
KeepsRule = (ms : List Move) (s t : Table) → Holds s → Runs s ms t → Holds t

module _ (law : KeepsRule) (k : RecorderKind) (slots id : ℕ) (me : Me (Unit {0}) View) (a b : ℕ) (f : ℕ → ℕ) where
  allows_there : MayTake me.0 k → Writes me.0 k f → Allows Holds slots id me (place k) f (told k (step slots (place k) a b none) me)
  allows_there may writes s h len at fits =
      let v = me.0 in
      let n = word s (place k) in
      let w = knows v k n in
      let asks = may s in
      let kept = law ((id, of_recorder k) ∷ []) s (acts s id v k) h (v, at, asks, refl) in
      let table : ℕ → Table = λ x. record { words = slice_set s.words (place k) x; homes = s.homes; views = slice_set s.views id w } in
      (w, keeps, tt, subst (λ (x : ℕ). Holds (table x)) (sym (writes s id h at fits)) kept, (refl, refl, finds s id v h at k asks fits))

  pub allows : (i : ℕ) → i ≡ place k → MayTake me.0 k → Writes me.0 k f → Allows Holds slots id me i f (told k (step slots i a b none) me)
  allows i is may writes = subst (λ (x : ℕ). Allows Holds slots id me x f (told k (step slots x a b none) me)) (sym is) (allows_there may writes)
