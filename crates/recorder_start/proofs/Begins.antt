-- The recorder's seat of a new table, on which a farm may be placed.
use Rattle.std.proofs.Common.{◌≡◌, refl, sym, subst}
use Rattle.booking_rule.specs.declared.view.View.{View}
use Rattle.booking_rule.specs.Kept.{first_view, no_desk}
use Rattle.booking_recorder.specs.recording_turns.specs.Resting.{IsUnplaced}

unplaced : IsUnplaced first_view
unplaced =
    record {
      desk = no_desk;
      first = refl;
      pending = refl;
      split = refl;
      done = record { slot = λ n. refl; cores = λ n. refl; memory = λ n. refl; alloc = λ n. refl; burst = λ n. refl; most = λ n. refl };
      journal = refl;
      opening = refl;
      free = record { takes = refl; limits = refl; rooms = refl; claims = refl; burst = refl; place = refl };
    }

pub begins : (v : View) → v ≡ first_view → IsUnplaced v
begins v is = subst IsUnplaced (sym is) unplaced
