use Rattle.std.proofs.Common.{◌≡◌, ◌∙◌, List, subst}
use Rattle.std.proofs.lemmas.Result.{IfOk-weaker}
use Rattle.farm_types.specs.declared.depend.Group.{Group}
use Rattle.farm_types.specs.Depends.{groups_of, shape_in, shape_of}
use Rattle.farm_types.specs.Groups.{groups_by, part_of}
use Rattle.farm_types.specs.Jobs.{JobLists}
use Rattle.farm_places.specs.Ends.{ShowsPart}
use Rattle.farm_places.proofs.ShownParts.{row_groups_shown}
use Rattle.farm_depends.proofs.restored.rows.groups_of.Goals as goal

pub returns : goal.returns
returns c =
    let f = c.args.books.now.farm in
    let row = c.args.row.now in
    let waiter = c.in_ok-waiter.waiter in
    let target = c.in_ok-target.target in
    let spec = c.in_ok-spec.spec in
    let told = c.in_ok-spec.ensures in
    let waits : ShowsPart (shape_of f row.waiter.job) waiter row.waiter.layer =
    subst (λ (b : JobLists). ShowsPart (shape_in b.layers b.slots row.waiter.job) waiter row.waiter.layer) c.jobs.ensures c.in_ok-waiter.ensures in
    let waited : ShowsPart (shape_of f row.target.job) target row.target.layer =
    subst (λ (b : JobLists). ShowsPart (shape_in b.layers b.slots row.target.job) target row.target.layer) c.jobs-2.ensures c.in_ok-target.ensures in
    let same : groups_by spec.kind spec.any (part_of spec.waiter) (part_of spec.target) waiter target ≡ groups_of f row =
    (λ i. groups_by (told.kind i) (told.any i) (told.waiter i) (told.target i) waiter target) ∙ row_groups_shown f row waiter target waits waited in
    IfOk-weaker c.groups.result _ (λ (gs : List Group). gs ≡ groups_of f row) (λ gs is. is ∙ same) c.groups.ensures
