use Rattle.std.proofs.Common.{◌∙◌, ℕ, List, ap, arith}
use Rattle.farm_types.specs.Sums.{total_at}
use Rattle.attempt_book.proofs.KeptSums.{memory_small}
use Rattle.attempt_book.proofs.attempts.Attempts.memory.Goals as goal

pub returns-clause-within : goal.returns-clause-within
returns-clause-within c =
    let known = c.self.invariant.known in
    let read = c.memory_at.ensures ∙ ap (λ (totals : List ℕ). total_at totals c.args.host) c.as_slice.ensures.value ∙ c.self.invariant.sums.memory_kept c.args.host in
    omega (arith, read, memory_small c.self.inside.procs.items c.args.host known.count_within (λ i p at. (known.attempts_known i p at).memory_within))
