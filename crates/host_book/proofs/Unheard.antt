-- A host is unheard exactly where what is watched of it is past, and so many are.
use Rattle.std.proofs.Common.{◌≡◌, ℕ, suc, ◌≤◌, List, [], ◌∷◌, map, length, filter, Bool, true, false, cond, ◌&&◌, refl, ap, ◌∙◌, arith}
use Rattle.std.proofs.lemmas.Bool.Decides.{nat_tests}
use Rattle.farm_types.specs.declared.rows.HostRow.{HostRow}
use Rattle.farm_types.specs.declared.states.HostState.{HostState}
use Rattle.farm_types.specs.declared.states.HostState.TheVariants.{Up, Down}
use Rattle.farm_types.specs.Booking.{is_up}
use Rattle.farm_types.specs.Hosts.{is_unheard}
use Rattle.host_book.specs.Inside.{is_past, watched_of, never_past}

past_by : (moment heard : ℕ) (s : HostState) → moment ≤ never_past → is_past moment (cond (is_up s) heard never_past) ≡ (is_up s && is_past moment heard)
past_by moment heard Up within = refl
past_by moment heard Down within = grind (arith, nat_tests)

-- a host is unheard exactly where what is watched of it is past
pub past_is_unheard : (moment : ℕ) (row : HostRow) → moment ≤ never_past → is_past moment (watched_of row) ≡ is_unheard moment row
past_is_unheard moment row within = past_by moment row.heard row.state within

length-cond : {X Y : Type 0} (b : Bool) (x : X) (y : Y) (xs : List X) (ys : List Y) → length xs ≡ length ys → length (cond b (x ∷ xs) xs) ≡ length (cond b (y ∷ ys) ys)
length-cond true x y xs ys same = ap suc same
length-cond false x y xs ys same = same

-- as many numbers are past as hosts are unheard
pub past_count : (moment : ℕ) (hosts : List HostRow) → moment ≤ never_past → length (filter (is_past moment) (map watched_of hosts)) ≡ length (filter (is_unheard moment) hosts)
past_count moment [] within = refl
past_count moment (row ∷ rows) within =
    let rest = past_count moment rows within in
    let others = filter (is_past moment) (map watched_of rows) in
    ap (λ (b : Bool). length (cond b (watched_of row ∷ others) others)) (past_is_unheard moment row within) ∙ length-cond (is_unheard moment row) (watched_of row) row others (filter (is_unheard moment) rows) rest
