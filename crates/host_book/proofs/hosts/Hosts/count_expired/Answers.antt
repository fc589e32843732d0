use Rattle.std.proofs.Common.{◌∙◌, ◌≤◌, ℕ, List, length, filter, ap, arith}
use Rattle.std.proofs.lemmas.List.Sums.{length-filter, count_by-le-length}
use Rattle.farm_types.specs.Hosts.{count_unheard, is_unheard}
use Rattle.host_book.specs.Inside.{is_past, never_past}
use Rattle.host_book.proofs.Unheard.{past_count}
use Rattle.host_book.proofs.hosts.Hosts.count_expired.Goals as goal

pub overflow_cast-result : goal.overflow_cast-result
overflow_cast-result c =
    let within : c.args.now ≤ never_past = omega arith in
    let rows = c.self.inside.rows.items in
    let these = c.as_slice.ensures.value ∙ c.self.invariant.watched_are in
    let count = c.count_past.ensures ∙ ap (λ (ns : List ℕ). length (filter (is_past c.args.now) ns)) these ∙ past_count c.args.now rows within in
    omega (arith, count, length-filter (is_unheard c.args.now) rows, count_by-le-length (is_unheard c.args.now) rows, c.self.invariant.count)

pub returns : goal.returns
returns c =
    let within : c.args.now ≤ never_past = omega arith in
    let rows = c.self.inside.rows.items in
    let these = c.as_slice.ensures.value ∙ c.self.invariant.watched_are in
    c.count_past.ensures ∙ ap (λ (ns : List ℕ). length (filter (is_past c.args.now) ns)) these ∙ past_count c.args.now rows within ∙ ap (count_unheard c.args.now) c.self.view_is
