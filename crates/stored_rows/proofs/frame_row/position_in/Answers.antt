use Rattle.std.proofs.Common.{rules, ◌≡◌, ◌≤◌, ◌∙◌, sym, subst, ℕ, ℤ, List, length}
use Rattle.farm_types.specs.declared.limits.TheConstants.{MOST_FRAMES}
use Rattle.frame_range.specs.Places.{place_of}
use Rattle.stored_rows.specs.Known.{place_or}
use Rattle.stored_rows.proofs.Numbers.{place_or_len, place_within, places}
use Rattle.stored_rows.proofs.frame_row.position_in.Goals as goal

pub returns-clause-value : goal.returns-clause-value
returns-clause-value c =
    let ns = c.args.known.now.numbers in
    let z = c.args.frame.now.number in
    let is : c.position_or.result ≡ place_or (length ns) (place_of z ns) = search rules in
    is ∙ place_or_len z ns (place_of z ns) (places z ns)

pub returns-clause-within : goal.returns-clause-within
returns-clause-within c =
    let ns = c.args.known.now.numbers in
    let z = c.args.frame.now.number in
    let is : c.position_or.result ≡ place_or (length ns) (place_of z ns) = search rules in
    let few : length ns ≤ MOST_FRAMES = subst (λ (ms : List ℤ). length ms ≤ MOST_FRAMES) c.numbers.ensures.value c.numbers.ensures.few in
    subst (λ (n : ℕ). n ≤ MOST_FRAMES) (sym is) (place_within MOST_FRAMES z ns (place_of z ns) (places z ns) few)
