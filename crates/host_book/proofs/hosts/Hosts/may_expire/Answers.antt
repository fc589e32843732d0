use Rattle.std.proofs.Common.{◌≡◌, ◌∙◌, ◌≤◌, List, sym, subst, arith}
use Rattle.farm_types.specs.declared.rows.HostRow.{HostRow}
use Rattle.farm_types.specs.Hosts.{count_unheard}
use Rattle.host_book.specs.Inside.{never_past}
use Rattle.host_book.proofs.Oldest.{count_unheard-since}
use Rattle.host_book.proofs.hosts.Hosts.may_expire.Goals as goal

pub returns : goal.returns
returns c =
    let within : c.args.now ≤ never_past = omega arith in
    let kept = c.self.invariant in
    record {
      quiet = λ soon. subst (λ (rows : List HostRow). count_unheard c.args.now rows ≡ 0) c.self.view_is
          (count_unheard-since c.args.now c.self.inside.oldest within (sym c.is_past.ensures ∙ soon) _ _ kept.watched_are kept.since_oldest);
    }
