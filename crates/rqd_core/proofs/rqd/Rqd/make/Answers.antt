use Rattle.std.proofs.Common.{List, length, sym, ap, subst, ◌∙◌, arith}
use Rattle.farm_types.specs.declared.attempt.DoneItem.{DoneItem}
use Rattle.rqd_core.specs.declared.running.Running.{Running}
use Rattle.rqd_core.specs.Keeping.{IsWithin}
use Rattle.rqd_core.specs.Life.{attempts_of}
use Rattle.rqd_core.proofs.Kept.{new_within}
use Rattle.rqd_core.proofs.rqd.Rqd.make.Goals as goal

pub invariant_of-result : goal.invariant_of-result
invariant_of-result c = record {
  within = subst (λ (rs : List Running). IsWithin rs c.args.config.cores) (sym c.new.ensures.items) (new_within c.args.config.cores);
  attempts = c.new-2.ensures ∙ ap attempts_of (sym c.new.ensures.items);
  room = omega (arith, ap (λ (ds : List DoneItem). length ds) c.new-3.ensures.items, ap (λ (rs : List Running). length rs) c.new.ensures.items);
}
