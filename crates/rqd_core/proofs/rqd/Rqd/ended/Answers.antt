use Rattle.std.proofs.Common.{◌≡◌, true, not, rules, List, [], ◌∷◌, length, length-append, sym, ap, subst, ◌∙◌, arith}
use Rattle.std.specs.List.{filter}
use Rattle.farm_types.specs.declared.attempt.Attempt.{Attempt}
use Rattle.farm_types.specs.declared.attempt.DoneItem.{DoneItem}
use Rattle.farm_types.specs.Run.{is_same}
use Rattle.rqd_core.specs.declared.running.Running.{Running}
use Rattle.rqd_core.specs.Keeping.{IsWithin}
use Rattle.rqd_core.specs.Life.{attempts_of, is_run}
use Rattle.rqd_core.proofs.Kept.{attempts_left, fewer_left, within_left}
use Rattle.rqd_core.proofs.rqd.Rqd.ended.Goals as goal

pub invariant_of-self : goal.invariant_of-self
invariant_of-self c =
    let a = c.args.attempt in
    let running = c.self.inside.running.items in
    let left = c.take_out.ensures.items in
    let runs : is_run a running ≡ true = search rules in
    record {
      within = subst (λ (rs : List Running). IsWithin rs c.self.inside.config.cores) (sym left) (within_left a running c.self.inside.config.cores c.self.invariant.within);
      attempts =
          c.others.ensures ∙ (ap (filter (λ (b : Attempt). not (is_same b a))) (c.replace-attempts.ensures.value ∙ c.self.invariant.attempts) ∙ (sym (attempts_left a running) ∙ ap attempts_of (sym left)));
      room =
          omega (
            arith,
            ap (λ (ds : List DoneItem). length ds) c.push_reserved.ensures.items,
            length-append c.self.inside.finished.items (c.done_item.result ∷ []),
            ap (λ (rs : List Running). length rs) left,
            fewer_left a running runs,
            c.self.invariant.room,
            c.push_reserved.ensures.capacity,
          );
    }
