-- Seats more, notes, and the journal's word.
use Rattle.std.proofs.Common.{◌≡◌, ℕ, set, slice_index, sym, ◌∙◌, subst}
use mathlib.Core.Option.{Option, some}
use lib.ListN.{get_elem?}
use Rattle.atomic_table.proofs.Lists.{set_else}
use Rattle.booking_rule.specs.declared.view.View.{View}
use Rattle.booking_rule.specs.Words.{words_of}
use Rattle.booking_rule.specs.Splits.{informed, blank, settled}
use Rattle.booking_rule.specs.Kept.{Holds}
use Rattle.booking_rule.proofs.Splitting.{allows_split}
use Rattle.booking_rule.proofs.Notes.{allows_note, allows_join}
use Rattle.booking_rule.proofs.Settling.{settles_kept}
use Rattle.booking_core.specs.Kinds.Kind.{settles, splits, notes, joins}
use Rattle.booking_core.specs.Machine.{Table, word, told_by, Asks, acts}
use Rattle.booking_core.proofs.Agreeing.{same_holds}

module _ (s : Table) (id : ℕ) (v : View) (h : Holds s) (at : get_elem? s.views id ≡ some v) where
  pub settles_holds : Holds (acts s id v settles)
  settles_holds = same_holds s id 0 (settled v (word s 0)) h.0 (settles_kept (slice_index s.words 0) (words_of s.words) s.views id v (word s 0) h.1 at).0

  pub splits_holds : Asks s id v splits → Holds (acts s id v splits)
  splits_holds asks = allows_split id v asks s h at

  pub notes_holds : Holds (acts s id v notes)
  notes_holds = allows_note id v s h at

  pub joins_holds : (other : ℕ) → Asks s id v (joins other) → Holds (acts s id v (joins other))
  joins_holds other asks =
      subst (λ (x : Option View). Holds (record { words = s.words; homes = s.homes; views = set (set s.views id (told_by v x)) other blank })) (sym asks.1)
      (allows_join id v other asks.0 asks.3 s h at asks.2 (set_else s.views id other (informed v asks.0) asks.2 ∙ asks.1))
