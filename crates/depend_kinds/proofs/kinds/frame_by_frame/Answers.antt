use Rattle.std.proofs.Common.{◌∙◌, []}
use Rattle.std.specs.Ordering.{int_eq}
use Rattle.std.proofs.lemmas.Result.{IfOk-weaker}
use Rattle.indexmap.specs.IndexMap.{get}
use Rattle.farm_types.specs.Groups.{layer_named_by, part_of}
use Rattle.depend_kinds.specs.Found.{found_or}
use Rattle.depend_kinds.proofs.FoundGroups.{found_in_layers}
use Rattle.depend_kinds.proofs.kinds.frame_by_frame.Goals as goal

pub returns : goal.returns
returns c =
    let same = found_in_layers (λ number. found_or (get int_eq c.in_ok-targets.targets number) []) (layer_named_by c.args.target.now (part_of c.args.depend.now.target)) _ _
    c.layer_numbers.ensures c.layer_slots.ensures c.in_ok-targets.ensures c.args.depend.now.any _ _ _ _ c.layer_numbers-2.ensures c.layer_slots-2.ensures in
    IfOk-weaker c.groups_found.result _ _ (λ groups is. is ∙ same) c.groups_found.ensures
