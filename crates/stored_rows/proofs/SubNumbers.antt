-- The numbers of subscriptions: what is known of them after a row of a show or of a subscription.
use Rattle.std.proofs.Common.{◌≡◌, ◌/◌, ℕ, true, eqb, ltb, [], ◌∷◌, ◌++◌, length, arith}
use Rattle.std.proofs.lemmas.Bool.{eqb-true, lt-ltb, ltb-true}
use Rattle.std.proofs.lemmas.List.{length-append}
use Rattle.farm_types.specs.declared.limits.TheConstants.{MOST_ALLOCS, MOST_SHOWS, SUB_NUMBERS}
use Rattle.farm_types.specs.declared.rows.ShowRow.{ShowRow}
use Rattle.farm_types.specs.declared.rows.SubRow.{SubRow}
use Rattle.farm_types.specs.Farm.{Farm}
use Rattle.farm_types.proofs.Lists.{and_both}
use Rattle.farm_rows.specs.Recovery.{show_fits, sub_fits}
use Rattle.row_index.specs.Index.{is_numbered_sub}
use Rattle.stored_rows.specs.Known.{KnowsSubs}
use Rattle.stored_rows.proofs.Kept.{all_push}

pub show_numbered : (f : Farm) (n : ℕ) (r : ShowRow) → show_fits f n r ≡ true → KnowsSubs f.shows f.subs → KnowsSubs (f.shows ++ r ∷ []) f.subs
show_numbered f n r fits k =
    let number = and_both (eqb n (length f.shows)) _ fits in
    let below = and_both (ltb n MOST_SHOWS) _ number.1 in
    record {
      few = omega (arith, eqb-true n (length f.shows) number.0, ltb-true n MOST_SHOWS below.0, length-append f.shows (r ∷ []));
      numbered = k.numbered;
    }

pub sub_numbered : (f : Farm) (r : SubRow) → sub_fits f r ≡ true → KnowsSubs f.shows f.subs → KnowsSubs f.shows (f.subs ++ r ∷ [])
sub_numbered f r fits k =
    let show = and_both (ltb (r.sub / MOST_ALLOCS) (length f.shows)) _ fits in
    record {
      few = k.few;
      numbered = all_push is_numbered_sub f.subs r k.numbered (lt-ltb r.sub SUB_NUMBERS (omega (arith, k.few, ltb-true (r.sub / MOST_ALLOCS) (length f.shows) show.0)));
    }
