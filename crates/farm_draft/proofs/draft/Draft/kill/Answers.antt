use Rattle.std.proofs.Common.{◌≡◌, ◌∙◌, ℕ, ◌≤◌, List, length, map, Some, arith, refl, sym, ap, subst}
use Rattle.std.specs.List.{slice_get}
use Rattle.std.proofs.lemmas.Option.{slice_get_read}
use Rattle.farm_types.specs.declared.rows.LayerRow.{LayerRow}
use Rattle.farm_types.specs.declared.slot_row.SlotRow.{SlotRow}
use Rattle.farm_types.specs.Farm.{Farm, is_placed, layers_of, slot_from}
use Rattle.farm_types.specs.Jobs.{JobLists}
use Rattle.farm_types.specs.Operators.{killed_row}
use Rattle.farm_draft.specs.Drafted.{Drafted, with_slots}
use Rattle.farm_draft.specs.InTurn.{changed_each}
use Rattle.farm_draft.proofs.KilledJobs.{KillsBelow, kills_all, kills_next, kills_none}
use Rattle.farm_draft.proofs.draft.Draft.kill.Goals as goal

pub loop-layer-init : goal.loop-layer-init
loop-layer-init c =
    let d = c.args.self.now in (
      d.farm.slots,
      refl,
      subst (KillsBelow d.base c.args.job 0) (sym c.requires.begins) (kills_none d.base c.args.job),
    )

pub loop-layer-preserved : goal.loop-layer-preserved
loop-layer-preserved c =
    let d = c.args.self.now in
    let job = c.args.job in
    let index = c.loop-layer.layer-index in
    let so_far = c.loop-layer.invariant in
    let l = c.layer-item.result in
    let shown = c.layers_of-layer-items.result.now in
    let places = c.layer_slots.result.now in
    let base : c.self.inside.books.now.farm ≡ d.base = ap (λ (x : Drafted). x.base) c.self.view_is in
    let layers : shown ≡ layers_of d.base.layers job =
    c.layers_of-layer-items.ensures ∙ (ap (λ (b : JobLists). layers_of b.layers job) c.jobs.ensures ∙ ap (λ (f : Farm). layers_of f.layers job) base) in
    let there : slice_get (layers_of d.base.layers job) index ≡ Some l =
    ap (λ (ls : List LayerRow). slice_get ls index) (sym layers) ∙ slice_get_read shown (length shown) index l refl (omega (arith, c.loop-layer-test.true)) c.layer-item.is in
    let stand : (position : ℕ) → slot_from 0 (is_placed job l.place position) d.base.slots ≡ slice_get places position = λ position.
    ap (λ (f : Farm). slot_from 0 (is_placed job l.place position) f.slots) (sym base)
    ∙ (ap (λ (b : JobLists). slot_from 0 (is_placed job l.place position) b.slots) (sym c.jobs-in-loop-layer.ensures) ∙ c.layer_slots.ensures position) in (
      changed_each (killed_row job) so_far.0 places,
      c.in_ok-kill_among.ensures ∙ ap (λ (x : Drafted). with_slots x (changed_each (killed_row job) x.farm.slots places)) so_far.1,
      kills_next d.base job index so_far.0 so_far.2 l there places stand,
    )

pub returns : goal.returns
returns c =
    let d = c.args.self.now in
    let job = c.args.job in
    let so_far = c.loop-layer.invariant in
    let base : c.self.inside.books.now.farm ≡ d.base = ap (λ (x : Drafted). x.base) c.self.view_is in
    let layers : c.layers_of-layer-items.result.now ≡ layers_of d.base.layers job =
    c.layers_of-layer-items.ensures ∙ (ap (λ (b : JobLists). layers_of b.layers job) c.jobs.ensures ∙ ap (λ (f : Farm). layers_of f.layers job) base) in
    let all = subst (λ (ls : List LayerRow). length ls ≤ c.loop-layer.layer-index) layers c.loop-layer-test.false in
    let killed = kills_all d.base c.requires.kept job c.loop-layer.layer-index so_far.0 all so_far.2 in
    so_far.1 ∙ ap (λ (ss : List SlotRow). with_slots d ss) (killed ∙ ap (λ (ss : List SlotRow). map (killed_row job) ss) (sym c.requires.begins))
