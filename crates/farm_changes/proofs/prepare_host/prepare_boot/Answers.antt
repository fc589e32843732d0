use Rattle.std.proofs.Common.{◌≡◌, ℕ, List, Some, sym, subst, ◌∙◌}
use Rattle.farm_types.specs.Farm.{alloc_named}
use Rattle.farm_changes.proofs.MadeChanges.{boot_makes, boot_refuses}
use Rattle.farm_changes.proofs.PlannedBoots.{boot_refused}
use Rattle.farm_changes.proofs.prepare_host.prepare_boot.Goals as goal

pub returns-in-Err : goal.returns-in-Err
returns-in-Err c =
    let f = c.args.books.now.farm in
    let line = c.args.line.now in
    let alloc = c.in-Some.allocation in
    let alloc_is = subst (λ (name : List ℕ). alloc_named f name ≡ Some alloc) c.as_str.ensures (sym c.alloc_named.ensures ∙ c.in-Some.is) in
    boot_refuses f line c.args.moment alloc c.boot_fault.result alloc_is (boot_refused f line alloc c.in-Err.refusal c.boot_fault.result (sym c.check_boot.ensures ∙ c.in-Err.is) c.boot_fault.ensures)

pub returns : goal.returns
returns c =
    let f = c.args.books.now.farm in
    let line = c.args.line.now in
    let alloc = c.in-Some.allocation in
    let alloc_is = subst (λ (name : List ℕ). alloc_named f name ≡ Some alloc) c.as_str.ensures (sym c.alloc_named.ensures ∙ c.in-Some.is) in
    boot_makes f line c.in_ok-line.line c.args.moment alloc c.boot_of.result c.in-Ok.plan c.in_ok-rows.rows c.change_of.result c.requires.ahead alloc_is (sym c.check_boot.ensures ∙ c.in-Ok.is) c.in_ok-rows.ensures.ready
    c.in_ok-rows.ensures.farm c.boot_of.ensures c.in_ok-line.ensures c.change_of.ensures
