use Rattle.std.proofs.Common.{◌≡◌, ◌∙◌, ◌+◌, ◌∷◌, drop, ap, sym, arith}
use Rattle.std.proofs.lemmas.List.{drop_more}
use Rattle.farm_keeper.specs.declared.row.Row.{Row}
use Rattle.recovery.specs.Recovered.{recovered, recovered_from}
use Rattle.recovery.proofs.Taken.{stopped}
use Rattle.recovery.proofs.recovering.recover.Goals as goal

pub returns-in-Err : goal.returns-in-Err
returns-in-Err c =
    let rows = c.args.rows.now in
    let i = c.loop-row.row-index in
    let r = c.row-item.result in
    let rest = drop (i + 1) rows in
    let here : drop i rows ≡ r ∷ rest = drop_more rows i r (omega arith) ∙ ap (λ (x : Row). x ∷ rest) (sym c.row-item.is) in
    stopped c.loop-row.draft c.take.new.draft r rest (recovered rows) c.in-Err.fault c.in-Err.ensures (ap (recovered_from c.loop-row.draft) (sym here) ∙ c.loop-row.invariant)
