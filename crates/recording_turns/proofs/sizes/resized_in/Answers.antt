use Rattle.std.proofs.Common.{sym, subst}
use Rattle.std.specs.Prelude.{ℕ, Option}
use Rattle.farm_types.specs.Step.{after}
use Rattle.recording_turns.specs.Owing.{Resizes}
use Rattle.recording_turns.proofs.SizesResized.{resizes}
use Rattle.recording_turns.proofs.sizes.resized_in.Goals as goal

pub returns : goal.returns
returns c e legal exact =
    let f = c.args.farm.now in
    let g = after f e in
    subst (λ (o : Option ℕ). Resizes f g o) (sym c.first_resized.ensures)
    (resizes f g e c.args.changes.now exact c.kept.ensures
    (λ host r at. let n = c.hosts_grow.ensures f e host r c.kept.ensures legal at in (n.0, n.1))
    (λ host same. let s = c.hosts_stay.ensures f g host same in (s.0, s.1))
    (λ host r at. c.sizes_change_by_boots.ensures f e host c.kept.ensures legal r at))
