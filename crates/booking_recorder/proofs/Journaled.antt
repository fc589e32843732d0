-- What a journal gained, entry by entry.
use Rattle.std.proofs.Common.{refl, List, [], ◌∷◌, ◌++◌, append_assoc, append-nil, ap, sym, ◌∙◌}
use Rattle.farm_types.specs.declared.entry.Entry.{Entry}
use Rattle.booking_rule.specs.declared.view.View.{View}
use Rattle.booking_recorder.specs.Going.{Journals}
use Rattle.booking_recorder.specs.Views.{Entered, Stays}

-- nothing was recorded
pub journals_none : (v : View) → Journals v v []
journals_none v = record { journal = sym (append-nil v.journal); opening = refl; split = refl }

pub journals_stays : (v w : View) → Stays v w → Journals v w []
journals_stays v w stays =
    record {
      journal = ap (λ (x : View). x.journal) stays.like ∙ sym (append-nil v.journal);
      opening = ap (λ (x : View). x.opening) stays.like;
      split = stays.split;
    }

-- one entry was
pub journals_entered : (v : View) (e : Entry) (w : View) → Entered v e w → Journals v w (e ∷ [])
journals_entered v e w entered =
    record {
      journal = ap (λ (x : View). x.journal) entered.like;
      opening = ap (λ (x : View). x.opening) entered.like;
      split = entered.split;
    }

-- some were, and then others
pub journals_then : (v u w : View) (done more : List Entry) → Journals v u done → Journals u w more → Journals v w (done ++ more)
journals_then v u w done more first next =
    record {
      journal = next.journal ∙ (ap (λ (es : List Entry). es ++ more) first.journal ∙ append_assoc v.journal done more);
      opening = next.opening ∙ first.opening;
      split = next.split ∙ first.split;
    }
