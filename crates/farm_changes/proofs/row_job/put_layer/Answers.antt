use Rattle.std.proofs.Common.{◌≡◌, ◌∙◌, ◌∷◌, [], ◌++◌, ◌+◌, ◌<◌, ℕ, List, drop, length, get_or, pos, sym, ap, arith, append_assoc, append-nil, rules}
use mir.Val.{SFits}
use mir.Syntax.{w32}
use Rattle.std.proofs.lemmas.Int.{to_z-of_z}
use Rattle.std.proofs.lemmas.List.{drop_all, drop_more}
use Rattle.std.specs.List.{slice_get}
use Rattle.farm_types.specs.declared.slot_row.Frame.{Frame}
use Rattle.farm_types.specs.Jobs.{frames_from, new_frame}
use Rattle.farm_rows.specs.declared.row_change.RowChange.{RowChange}
use Rattle.job_book.specs.Lowest.{slot_for}
use Rattle.farm_changes.specs.RowChanges.{frame_put, rows_put}
use Rattle.farm_changes.proofs.row_job.put_layer.Goals as goal

pub loop-position-preserved : goal.loop-position-preserved
loop-position-preserved c =
    let slots = c.args.slots.now in
    let places = c.args.places.now in
    let numbers = c.args.numbers.now in
    let job = c.args.job in
    let layer = c.args.layer in
    let i = c.loop-position.position in
    let slot = c.index-places-position.result in
    let old = c.loop-position.into.items in
    let within : i < length places = omega (arith, c.requires.count) in
    let split : drop i places ≡ slot ∷ drop (i + 1) places = drop_more places i slot within ∙ ap (λ (n : ℕ). n ∷ drop (i + 1) places) (sym c.index-places-position.is) in
    let number = get_or numbers i (pos 0) in
    let fits : SFits w32 number = search rules in
    let numbered : drop i numbers ≡ number ∷ drop (i + 1) numbers = drop_more numbers i (pos 0) (omega arith) in
    let frame : c.new_frame-frame.result ≡ new_frame job layer i number = c.new_frame-frame.ensures ∙ ap (new_frame job layer i) (to_z-of_z w32 number fits) in
    let rest = rows_put slots (drop (i + 1) places) (frames_from job layer (i + 1) (drop (i + 1) numbers)) in
    let put = frame_put slot (slot_for (new_frame job layer i number) (slice_get slots slot)) in
    let new : c.put_frame.new.into.items ≡ old ++ put ∷ [] = c.in_ok-put_frame.ensures ∙ ap (λ (x : Frame). old ++ frame_put slot (slot_for x (slice_get slots slot)) ∷ []) frame in
    ap (λ (cs : List RowChange). cs ++ rest) new ∙ append_assoc old (put ∷ []) rest
    ∙ sym (λ j. old ++ rows_put slots (split j) (frames_from job layer i (numbered j))) ∙ c.loop-position.invariant

pub returns : goal.returns
returns c =
    let i = c.loop-position.position in
    let places = c.args.places.now in
    let none = drop_all i places (omega (arith, c.requires.count)) in
    sym (append-nil c.loop-position.into.items)
    ∙ sym (ap (λ (ns : List ℕ). c.loop-position.into.items ++ rows_put c.args.slots.now ns (frames_from c.args.job c.args.layer i (drop i c.args.numbers.now))) none) ∙ c.loop-position.invariant
