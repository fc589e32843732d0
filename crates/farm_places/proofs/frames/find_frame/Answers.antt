use Rattle.std.proofs.Common.{◌≡◌, ◌∙◌, Bool, List, None, Some, Option, ℕ, ℤ, option_map, sym, ap, subst, rules}
use mir.Val.{SFits, of_z, to_z}
use mir.Syntax.{w32}
use Rattle.std.proofs.lemmas.Int.{to_z-of_z}
use Rattle.std.specs.List.{find}
use Rattle.std.specs.Str.{bytes_eq}
use Rattle.farm_types.specs.declared.refusal.Refusal.TheVariants.{Unknown}
use Rattle.farm_types.specs.declared.rows.JobRow.{JobRow}
use Rattle.farm_types.specs.declared.rows.LayerRow.{LayerRow}
use Rattle.farm_types.specs.DependActs.{layer_of_name, pending_named}
use Rattle.farm_types.specs.Depends.{layer_shape}
use Rattle.farm_types.specs.Farm.{layers_of}
use Rattle.farm_types.specs.Faults.{IsRefusal}
use Rattle.farm_types.specs.Groups.{slots_of_part}
use Rattle.farm_types.specs.Jobs.{JobLists, is_pending_named}
use Rattle.farm_types.specs.Names.{frame_name}
use Rattle.farm_types.specs.Operators.{first_of}
use Rattle.farm_places.proofs.FoundFrames.{frame_found, frame_unknown, layer_unknown, refused_finds, slot_holds}
use Rattle.farm_places.proofs.ShownParts.{found_there}
use Rattle.farm_places.proofs.frames.find_frame.Goals as goal

abbrev number : Option JobRow → Option ℕ
number o = option_map (λ (j : JobRow). j.job) o

abbrev is_layer_named : List ℕ → LayerRow → Bool
is_layer_named name l = bytes_eq l.name name

pub returns-in_default-layer_named-clause-found : goal.returns-in_default-layer_named-clause-found
returns-in_default-layer_named-clause-found c =
    let f = c.args.books.now.farm in
    let p = c.args.place.now in
    let job = c.in-Some.job in
    let pending : Some job ≡ number (pending_named f p.job) =
    c.in-Some.ensures ∙ (ap (λ (b : JobLists). number (find (is_pending_named c.as_str.result.now) b.jobs)) c.jobs-jobs.ensures ∙ ap (λ (name : List ℕ). number (find (is_pending_named name) f.jobs)) c.as_str.ensures) in
    let named : find (is_layer_named p.layer) c.layers_of.result.now ≡ layer_of_name f job p.layer =
    ap (find (is_layer_named p.layer)) (c.layers_of.ensures ∙ ap (λ (b : JobLists). layers_of b.layers job) c.jobs-jobs.ensures) in
    refused_finds f p (Unknown p.layer) c.unknown.result (layer_unknown f p job pending (sym named ∙ sym c.in_default-layer_named.ensures)) c.unknown.ensures

pub slot_in_layer-requires-clause-there : goal.slot_in_layer-requires-clause-there
slot_in_layer-requires-clause-there c =
    found_there c.jobs-jobs.result.now c.in-Some.job c.args.place.now.layer c.in-Some-layer_named.layer.now
    (ap (find (is_layer_named c.args.place.now.layer)) (sym c.layers_of.ensures) ∙ sym c.in-Some-layer_named.ensures)

pub returns-in_default-slot_in_layer-clause-found : goal.returns-in_default-slot_in_layer-clause-found
returns-in_default-slot_in_layer-clause-found c =
    let f = c.args.books.now.farm in
    let p = c.args.place.now in
    let job = c.in-Some.job in
    let pending : Some job ≡ number (pending_named f p.job) =
    c.in-Some.ensures ∙ (ap (λ (b : JobLists). number (find (is_pending_named c.as_str.result.now) b.jobs)) c.jobs-jobs.ensures ∙ ap (λ (name : List ℕ). number (find (is_pending_named name) f.jobs)) c.as_str.ensures) in
    let named : find (is_layer_named p.layer) c.layers_of.result.now ≡ layer_of_name f job p.layer =
    ap (find (is_layer_named p.layer)) (c.layers_of.ensures ∙ ap (λ (b : JobLists). layers_of b.layers job) c.jobs-jobs.ensures) in
    let fits : SFits w32 p.frame = search rules in
    let same : to_z w32 (of_z w32 p.frame) ≡ p.frame = to_z-of_z w32 p.frame fits in
    let l = c.in-Some-layer_named.layer.now in
    let none : first_of (slots_of_part (layer_shape f.slots l) (Some p.frame)) ≡ None =
    ap (λ (n : ℤ). first_of (slots_of_part (layer_shape f.slots l) (Some n))) (sym same)
    ∙ (ap (λ (b : JobLists). first_of (slots_of_part (layer_shape b.slots l) (Some (to_z w32 (of_z w32 p.frame))))) (sym c.jobs-jobs.ensures) ∙ sym c.in_default-slot_in_layer.ensures) in
    refused_finds f p (Unknown (frame_name p.frame l.name)) c.unknown_frame.result (frame_unknown f p job pending l (sym named ∙ sym c.in-Some-layer_named.ensures) none)
    (subst (λ (n : ℤ). IsRefusal (Unknown (frame_name n l.name)) c.unknown_frame.result) same c.unknown_frame.ensures)

pub returns-clause-found : goal.returns-clause-found
returns-clause-found c =
    let f = c.args.books.now.farm in
    let p = c.args.place.now in
    let job = c.in-Some.job in
    let pending : Some job ≡ number (pending_named f p.job) =
    c.in-Some.ensures ∙ (ap (λ (b : JobLists). number (find (is_pending_named c.as_str.result.now) b.jobs)) c.jobs-jobs.ensures ∙ ap (λ (name : List ℕ). number (find (is_pending_named name) f.jobs)) c.as_str.ensures) in
    let named : find (is_layer_named p.layer) c.layers_of.result.now ≡ layer_of_name f job p.layer =
    ap (find (is_layer_named p.layer)) (c.layers_of.ensures ∙ ap (λ (b : JobLists). layers_of b.layers job) c.jobs-jobs.ensures) in
    let fits : SFits w32 p.frame = search rules in
    let same : to_z w32 (of_z w32 p.frame) ≡ p.frame = to_z-of_z w32 p.frame fits in
    let l = c.in-Some-layer_named.layer.now in
    let slot = c.in-Some-slot_in_layer.slot in
    let is : first_of (slots_of_part (layer_shape f.slots l) (Some p.frame)) ≡ Some slot =
    ap (λ (n : ℤ). first_of (slots_of_part (layer_shape f.slots l) (Some n))) (sym same)
    ∙ (ap (λ (b : JobLists). first_of (slots_of_part (layer_shape b.slots l) (Some (to_z w32 (of_z w32 p.frame))))) (sym c.jobs-jobs.ensures) ∙ sym c.in-Some-slot_in_layer.ensures) in
    frame_found f p job pending l slot (sym named ∙ sym c.in-Some-layer_named.ensures) is

pub returns-clause-frame : goal.returns-clause-frame
returns-clause-frame c =
    let f = c.args.books.now.farm in
    let p = c.args.place.now in
    let job = c.in-Some.job in
    let pending : Some job ≡ number (pending_named f p.job) =
    c.in-Some.ensures ∙ (ap (λ (b : JobLists). number (find (is_pending_named c.as_str.result.now) b.jobs)) c.jobs-jobs.ensures ∙ ap (λ (name : List ℕ). number (find (is_pending_named name) f.jobs)) c.as_str.ensures) in
    let named : find (is_layer_named p.layer) c.layers_of.result.now ≡ layer_of_name f job p.layer =
    ap (find (is_layer_named p.layer)) (c.layers_of.ensures ∙ ap (λ (b : JobLists). layers_of b.layers job) c.jobs-jobs.ensures) in
    let fits : SFits w32 p.frame = search rules in
    let same : to_z w32 (of_z w32 p.frame) ≡ p.frame = to_z-of_z w32 p.frame fits in
    let l = c.in-Some-layer_named.layer.now in
    let slot = c.in-Some-slot_in_layer.slot in
    let is : first_of (slots_of_part (layer_shape f.slots l) (Some p.frame)) ≡ Some slot =
    ap (λ (n : ℤ). first_of (slots_of_part (layer_shape f.slots l) (Some n))) (sym same)
    ∙ (ap (λ (b : JobLists). first_of (slots_of_part (layer_shape b.slots l) (Some (to_z w32 (of_z w32 p.frame))))) (sym c.jobs-jobs.ensures) ∙ sym c.in-Some-slot_in_layer.ensures) in
    slot_holds f p slot c.requires (frame_found f p job pending l slot (sym named ∙ sym c.in-Some-layer_named.ensures) is).1
