-- What a life says of the row that it is read from.
use Rattle.std.proofs.Common.{◌≡◌, ℕ, false, cond, List, Option, Some, sym, ap, subst, ◌∙◌, option_map}
use Rattle.std.specs.Prelude.{◌==◌}
use Rattle.std.specs.List.{slice_get}
use Rattle.std.proofs.lemmas.Option.{same_Some}
use Rattle.farm_types.specs.declared.rows.HostRow.{HostRow}
use Rattle.farm_types.specs.Booking.{is_up}
use Rattle.farm_types.specs.Farm.{Farm, changed_at, for_some}
use Rattle.farm_types.specs.Hosts.{down_row, is_unheard, reopened_row, silenced_row}
use Rattle.farm_types.specs.Lost.{lose_on}
use Rattle.farm_types.specs.Step.{is_silent}
use Rattle.host_book.specs.Life.{is_unheard_life, life_of}
use Rattle.host_book.specs.declared.life.HostLife.{HostLife}
use Rattle.farm_types.proofs.ChangedLists.{changed_at_kept}
use Rattle.farm_types.proofs.Passes.{option_map-from}
use Rattle.farm_draft.specs.Lost.{expired_one}

-- a host that is down isn't opened again
pub stays_down : (moment host : ℕ) (hosts : List HostRow) (life : HostLife) → option_map life_of (slice_get hosts host) ≡ Some life → is_up life.state ≡ false → changed_at hosts host (reopened_row moment) ≡ hosts
stays_down moment host hosts life at down =
    changed_at_kept hosts host (reopened_row moment)
    (λ row here.
    let same : life_of row ≡ life = same_Some (life_of row) life (sym (ap (option_map life_of) here) ∙ at) in
    let off : is_up row.state ≡ false = ap (λ (l : HostLife). is_up l.state) same ∙ down in
    ap (λ b. cond b (record row { heard = moment }) row) off)

-- a host that was heard stays up, and keeps its attempts
pub stays_heard : (f : Farm) (moment host : ℕ) (life : HostLife) → option_map life_of (slice_get f.hosts host) ≡ Some life → is_unheard_life moment life ≡ false → expired_one f moment host ≡ f
stays_heard f moment host life at heard =
    let row = option_map-from life_of (slice_get f.hosts host) life at in
    let off : is_unheard moment row.0 ≡ false = ap (is_unheard_life moment) row.2 ∙ heard in
    let silent : is_silent f moment host ≡ false = ap (λ (o : Option HostRow). for_some o (is_unheard moment)) row.1 ∙ off in
    let kept =
    changed_at_kept f.hosts host (silenced_row moment)
    (λ x here. subst (λ (y : HostRow). silenced_row moment y ≡ y) (same_Some row.0 x (sym row.1 ∙ here)) (ap (λ b. cond b (down_row row.0) row.0) off)) in
    ap (λ b. record f { hosts = changed_at f.hosts host (silenced_row moment); slots = cond b (lose_on (λ n. n == host) f.slots) f.slots }) silent
    ∙ ap (λ (hs : List HostRow). record f { hosts = hs }) kept
