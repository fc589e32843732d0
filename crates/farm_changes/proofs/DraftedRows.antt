-- What the drafts of silence, reports and boots come to, and that attempts only end in them.
use Rattle.std.proofs.Common.{◌≡◌, ℕ, List, map, Option, Some, None, sym, ap, subst, ◌∙◌, eqb}
use Rattle.farm_types.specs.declared.attempt.DoneItem.{DoneItem}
use Rattle.farm_types.specs.declared.boot.BootLine.{BootLine}
use Rattle.farm_types.specs.declared.slot_row.SlotRow.{SlotRow}
use Rattle.farm_types.specs.Farm.{Farm, changed_at, host_named}
use Rattle.farm_types.specs.Hosts.{heard_row}
use Rattle.farm_types.specs.Kept.{KeepsRows}
use Rattle.farm_types.specs.Operators.{killed_row}
use Rattle.farm_types.specs.Step.{at_moment, end_all, expire, is_silent}
use Rattle.farm_draft.specs.Drafted.{Drafted, with_farm, with_hosts, with_slots}
use Rattle.farm_draft.specs.Ends.{AreFramed, OnlyEnds}
use Rattle.farm_draft.proofs.EndsLemmas.{ends_all, ends_lose, ends_lost, framed_sound}
use Rattle.farm_draft.proofs.KilledEnds.{ends_killed}
use Rattle.farm_changes.specs.RowsOf.{ending_life, lives_ended}
use Rattle.farm_changes.proofs.LostLives.{boot_slots, slots_ended}

-- the draft in which nothing but the moment has changed
abbrev pub begun : Farm → ℕ → Drafted
begun f moment = record { base = f; moment = moment; farm = at_moment f moment }

-- the draft in which silent hosts went down
abbrev pub silenced_draft : Farm → ℕ → Drafted
silenced_draft f moment = with_farm (begun f moment) (expire (at_moment f moment) moment)

pub framed_begun : (f : Farm) (moment : ℕ) (d : Drafted) → KeepsRows f → d ≡ begun f moment → AreFramed d.base.slots
framed_begun f moment d kept is = subst (λ (x : Drafted). AreFramed x.base.slots) (sym is) (framed_sound f kept.sound)

pub silenced_is : (f : Farm) (moment : ℕ) (d e : Drafted) → d ≡ begun f moment → e ≡ with_farm d (expire d.farm d.moment) → e ≡ silenced_draft f moment
silenced_is f moment d e is next = next ∙ ap (λ (x : Drafted). with_farm x (expire x.farm x.moment)) is

silenced_lost : (f : Farm) (moment : ℕ) → KeepsRows f → OnlyEnds f.slots (expire (at_moment f moment) moment).slots
silenced_lost f moment kept = ends_lost (is_silent (at_moment f moment) moment) f.slots (framed_sound f kept.sound)

pub silenced_ends : (f : Farm) (moment : ℕ) (d : Drafted) → KeepsRows f → d ≡ silenced_draft f moment → OnlyEnds d.base.slots d.farm.slots
silenced_ends f moment d kept is = subst (λ (x : Drafted). OnlyEnds x.base.slots x.farm.slots) (sym is) (silenced_lost f moment kept)

pub heard_ends : (f : Farm) (moment host boot seq : ℕ) (done : List DoneItem) (d e g : Drafted) → KeepsRows f → d ≡ silenced_draft f moment
    → e ≡ with_hosts d (changed_at d.farm.hosts host (heard_row seq d.moment)) → g ≡ with_farm e (end_all e.farm host boot done) → OnlyEnds g.base.slots g.farm.slots
heard_ends f moment host boot seq done d e g kept is heard ended =
    let heard_is = heard ∙ ap (λ (x : Drafted). with_hosts x (changed_at x.farm.hosts host (heard_row seq x.moment))) is in
    let all = ended ∙ ap (λ (x : Drafted). with_farm x (end_all x.farm host boot done)) heard_is in
    let hosts = changed_at (expire (at_moment f moment) moment).hosts host (heard_row seq moment) in
    subst (λ (x : Drafted). OnlyEnds x.base.slots x.farm.slots) (sym all)
    (ends_all f.slots (record (expire (at_moment f moment) moment) { hosts = hosts }) host boot done (framed_sound f kept.sound) (silenced_lost f moment kept))

ended_ends : (base slots : List SlotRow) (o : Option ℕ) → AreFramed base → OnlyEnds base slots → OnlyEnds base (slots_ended o slots)
ended_ends base slots None framed ends = ends
ended_ends base slots (Some host) framed ends = ends_lose (λ n. eqb n host) base slots framed ends

pub lost_ends : (f : Farm) (moment : ℕ) (o : Option ℕ) (d e : Drafted) → KeepsRows f → d ≡ silenced_draft f moment → e ≡ with_slots d (slots_ended o d.farm.slots) → OnlyEnds e.base.slots e.farm.slots
lost_ends f moment o d e kept is next =
    let all = next ∙ ap (λ (x : Drafted). with_slots x (slots_ended o x.farm.slots)) is in
    subst (λ (x : Drafted). OnlyEnds x.base.slots x.farm.slots) (sym all) (ended_ends f.slots (expire (at_moment f moment) moment).slots o (framed_sound f kept.sound) (silenced_lost f moment kept))

-- the draft in which silent hosts went down, and the life that the boot ends was lost
pub boot_is : (f : Farm) (moment : ℕ) (line : BootLine) (o : Option ℕ) (d e : Drafted) → d ≡ silenced_draft f moment → o ≡ ending_life f line (host_named f line.host)
    → e ≡ with_slots d (slots_ended o d.farm.slots) → e ≡ with_farm (begun f moment) (lives_ended (expire (at_moment f moment) moment) line)
boot_is f moment line o d e is ending next =
    let g = expire (at_moment f moment) moment in
    let slots = ap (λ (p : Option ℕ). slots_ended p g.slots) ending ∙ sym (boot_slots (at_moment f moment) moment line) in
    next ∙ (ap (λ (x : Drafted). with_slots x (slots_ended o x.farm.slots)) is ∙ ap (λ (ss : List SlotRow). with_farm (begun f moment) (record g { slots = ss })) slots)

-- the draft that begins has the farm's slots
pub slots_begun : (f : Farm) (moment : ℕ) (d : Drafted) → d ≡ begun f moment → d.farm.slots ≡ d.base.slots
slots_begun f moment d is = ap (λ (x : Drafted). x.farm.slots) is ∙ sym (ap (λ (x : Drafted). x.base.slots) is)

pub kept_begun : (f : Farm) (moment : ℕ) (d : Drafted) → KeepsRows f → d ≡ begun f moment → KeepsRows d.base
kept_begun f moment d kept is = subst (λ (x : Drafted). KeepsRows x.base) (sym is) kept

pub killed_ends : (f : Farm) (moment job : ℕ) (d e : Drafted) → KeepsRows f → d ≡ begun f moment → e ≡ with_slots d (map (killed_row job) d.farm.slots) → OnlyEnds e.base.slots e.farm.slots
killed_ends f moment job d e kept is next =
    let all = next ∙ ap (λ (x : Drafted). with_slots x (map (killed_row job) x.farm.slots)) is in
    subst (λ (x : Drafted). OnlyEnds x.base.slots x.farm.slots) (sym all) (ends_killed job f.slots (framed_sound f kept.sound))
