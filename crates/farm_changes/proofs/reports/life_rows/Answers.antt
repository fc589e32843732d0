use Rattle.std.proofs.Common.{◌≡◌, ◌∙◌, ◌∷◌, [], sym}
use Rattle.farm_types.specs.Farm.{changed_at}
use Rattle.farm_types.specs.Hosts.{heard_row}
use Rattle.farm_types.specs.Step.{at_moment}
use Rattle.farm_draft.specs.declared.rows.Rows.{Rows}
use Rattle.farm_draft.specs.Rows.{AreReady, installed}
use Rattle.farm_changes.proofs.HeardAlone.{both_ok, life_heard, life_ready, none_heard}
use Rattle.farm_changes.proofs.MadeChanges.{bare_ready}
use Rattle.farm_changes.proofs.reports.life_rows.Goals as goal

pub returns-in_default-clause-farm : goal.returns-in_default-clause-farm
returns-in_default-clause-farm c =
    none_heard c.args.books.now.farm c.args.moment c.args.host c.args.seq c.none.result (sym c.life.ensures ∙ c.in_default.is) c.none.ensures.hosts c.none.ensures.slots

pub returns-in_default-clause-ready : goal.returns-in_default-clause-ready
returns-in_default-clause-ready c = bare_ready c.args.books.now.farm c.none.result record { hosts = c.none.ensures.hosts; slots = c.none.ensures.slots }

pub returns-clause-farm : goal.returns-clause-farm
returns-clause-farm c =
    let f = c.args.books.now.farm in
    let m = c.args.moment in
    let host = c.args.host in
    let old = c.in-Some.life in
    let life = c.heard_life.result in
    both_ok c.one_life.result (λ (rows : Rows). rows.hosts.items ≡ (host, life) ∷ []) (λ (rows : Rows). rows.slots.items ≡ [])
    (λ (rows : Rows). installed (at_moment f m) rows ≡ record (at_moment f m) { hosts = changed_at f.hosts host (heard_row c.args.seq m) })
    (λ rows hosts slots. life_heard f m host c.args.seq rows old life (sym c.life.ensures ∙ c.in-Some.is) hosts slots c.heard_life.ensures)
    c.one_life.ensures.hosts c.one_life.ensures.slots

pub returns-clause-ready : goal.returns-clause-ready
returns-clause-ready c =
    let f = c.args.books.now.farm in
    let host = c.args.host in
    let life = c.heard_life.result in
    both_ok c.one_life.result (λ (rows : Rows). rows.hosts.items ≡ (host, life) ∷ []) (λ (rows : Rows). rows.slots.items ≡ []) (AreReady f)
    (λ rows hosts slots. life_ready f c.args.moment host c.args.seq rows c.in-Some.life life (sym c.life.ensures ∙ c.in-Some.is) hosts slots)
    c.one_life.ensures.hosts c.one_life.ensures.slots
