-- A recorder on a new table, which no other shares.
use Rattle.std.proofs.Common.{◌≡◌, ◌∙◌, ◌+◌, ◌<◌, ◌^◌, List, [], length, refl, sym, ap, subst, arith}
use Rattle.std.proofs.lemmas.Bool.{eqb-true}
use Rattle.farm_types.specs.declared.entry.Entry.{Entry}
use Rattle.farm_types.specs.Farm.{Farm}
use Rattle.booking_rule.specs.declared.view.View.{View}
use Rattle.booking_rule.specs.Kept.{first_view, no_desk}
use Rattle.line_answers.specs.booking_recorder.specs.Recording.{most_entries}
use Rattle.line_answers.specs.recording_turns.specs.Resting.{IsPlaced, IsUnplaced, split_in}
use Rattle.line_answers.specs.declared.hindered.Hindered.{Hindered}
use Rattle.line_answers.specs.declared.hindered.Hindered.TheVariants as hindered
use Rattle.line_answers.specs.declared.limits.TheConstants.{ENTRIES_EACH}
use Rattle.line_answers.specs.Entering.{Hinders}

unplaced : IsUnplaced first_view
unplaced =
    record {
      desk = no_desk;
      first = refl;
      pending = refl;
      split = refl;
      done = record { slot = λ n. refl; cores = λ n. refl; memory = λ n. refl; alloc = λ n. refl; burst = λ n. refl; most = λ n. refl };
      journal = refl;
      opening = refl;
      free = record { takes = refl; limits = refl; rooms = refl; claims = refl; burst = refl; place = refl };
    }

pub begins : (v : View) → v ≡ first_view → IsUnplaced v
begins v is = subst IsUnplaced (sym is) unplaced

module _ (v : View) (f : Farm) (w : View) (first : v ≡ first_view) (placed : IsPlaced v f w) where
  pub no_entries : w.journal ≡ []
  no_entries = ap (λ (u : View). u.journal) placed.like ∙ ap (λ (u : View). u.journal) first

  pub is_alone : split_in w.desk ≡ 0
  is_alone = placed.split

module _ (w : View) (alone : split_in w.desk ≡ 0) (fresh : w.journal ≡ []) where
  pub has_room : length w.journal + ENTRIES_EACH < 2 ^ 64
  has_room = let none : length w.journal ≡ 0 = ap (λ (es : List Entry). length es) fresh in omega (arith, none)

  -- nothing hinders an entry
  pub unhindered : (g : Farm) (e : Entry) (why : Hindered) (u : View) → Hinders g e w why u → ⊥
  unhindered g e (hindered.Held cores memory) u hinders = hinders.0 alone
  unhindered g e hindered.Spent u hinders =
      let none : length w.journal ≡ 0 = ap (λ (es : List Entry). length es) fresh in
      let full : length w.journal ≡ most_entries = eqb-true (length w.journal) most_entries hinders in
      absurd (omega (arith, none, full))
