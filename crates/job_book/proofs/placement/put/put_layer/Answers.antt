use Rattle.std.proofs.Common.{◌≡◌, ◌∙◌, ◌∷◌, [], ◌++◌, ◌+◌, ◌<◌, ℕ, List, drop, length, take, get_or, pos, sym, ap, subst, arith, rules}
use mir.Val.{SFits}
use mir.Syntax.{w32}
use Rattle.std.proofs.lemmas.Int.{to_z-of_z}
use Rattle.std.proofs.lemmas.List.{drop_all, drop_more, take_all, take_more, take_more_set}
use Rattle.std.proofs.Math.ListN.{length-set}
use Rattle.std.specs.List.{slice_set}
use Rattle.farm_types.specs.declared.slot_row.Frame.{Frame}
use Rattle.farm_types.specs.declared.slot_row.SlotRow.{SlotRow}
use Rattle.farm_types.specs.Jobs.{new_frame, frames_from}
use Rattle.job_book.specs.Layers.{marks_of, slots_of}
use Rattle.job_book.specs.Lowest.{AreNext, filled, with_frame}
use Rattle.job_book.proofs.PlacementLemmas.FreeSlots.{length-with_frame}
use Rattle.job_book.proofs.placement.put.put_layer.Goals as goal

pub put-requires-clause-within : goal.put-requires-clause-within
put-requires-clause-within c =
    let places = c.args.places.now in
    let i = c.loop-position.position in
    let slot = c.index-places-position.result in
    let within : i < length places = omega (arith, c.requires.count) in
    let split : drop i places ≡ slot ∷ drop (i + 1) places = drop_more places i slot within ∙ ap (λ (n : ℕ). n ∷ drop (i + 1) places) (sym c.index-places-position.is) in
    (subst (λ (ns : List ℕ). AreNext ns (length c.loop-position.slots.items)) split c.loop-position.invariant.next).0

pub put-requires-clause-limit : goal.put-requires-clause-limit
put-requires-clause-limit c =
    let places = c.args.places.now in
    let i = c.loop-position.position in
    let slot = c.index-places-position.result in
    let within : i < length places = omega (arith, c.requires.count) in
    let split : drop i places ≡ slot ∷ drop (i + 1) places = drop_more places i slot within ∙ ap (λ (n : ℕ). n ∷ drop (i + 1) places) (sym c.index-places-position.is) in
    (subst (λ (ns : List ℕ). AreNext ns (length c.loop-position.slots.items)) split c.loop-position.invariant.next).1

pub loop-position-preserved : goal.loop-position-preserved
loop-position-preserved c =
    let places = c.args.places.now in
    let numbers = c.args.numbers.now in
    let job = c.args.job in
    let layer = c.args.layer in
    let i = c.loop-position.position in
    let slot = c.index-places-position.result in
    let slots = c.loop-position.slots.items in
    let frames = c.loop-position.frames in
    let within : i < length places = omega (arith, c.requires.count) in
    let split : drop i places ≡ slot ∷ drop (i + 1) places = drop_more places i slot within ∙ ap (λ (n : ℕ). n ∷ drop (i + 1) places) (sym c.index-places-position.is) in
    let number = get_or numbers i (pos 0) in
    let fits : SFits w32 number = search rules in
    let numbered : drop i numbers ≡ number ∷ drop (i + 1) numbers = drop_more numbers i (pos 0) (omega arith) in
    let frame : c.new_frame.result ≡ new_frame job layer i number = c.new_frame.ensures ∙ ap (new_frame job layer i) (to_z-of_z w32 number fits) in
    let new : c.put.new.slots.items ≡ with_frame slot (new_frame job layer i number) slots = c.put.ensures.slots ∙ ap (λ (x : Frame). with_frame slot x slots) frame in
    let next = subst (λ (ns : List ℕ). AreNext ns (length slots)) split c.loop-position.invariant.next in
    let long : length c.put.new.slots.items ≡ _ = ap length new ∙ length-with_frame slot (new_frame job layer i number) slots next.0 in
    let set : c.set.new.self.slots ≡ slice_set frames.slots i slot = ap slots_of c.set.ensures in
    record {
      filled = ap (λ (ss : List SlotRow). filled (drop (i + 1) places) (frames_from job layer (i + 1) (drop (i + 1) numbers)) ss) new
          ∙ sym (λ j. filled (split j) (frames_from job layer i (numbered j)) slots) ∙ c.loop-position.invariant.filled;
      next = subst (AreNext (drop (i + 1) places)) (sym long) next.2;
      places = ap (take (i + 1)) set ∙ take_more_set frames.slots i slot (omega (arith, c.loop-position.invariant.long)) ∙ ap (λ (ns : List ℕ). ns ++ slot ∷ []) c.loop-position.invariant.places
          ∙ sym (take_more places i slot within ∙ ap (λ (n : ℕ). take i places ++ n ∷ []) (sym c.index-places-position.is));
      long = ap length set ∙ length-set frames.slots i slot ∙ c.loop-position.invariant.long;
      marks = ap marks_of c.set.ensures ∙ c.loop-position.invariant.marks;
      capacity = c.put.ensures.capacity ∙ c.loop-position.invariant.capacity;
    }

pub returns-clause-slots : goal.returns-clause-slots
returns-clause-slots c =
    let places = c.args.places.now in
    let i = c.loop-position.position in
    let none = drop_all i places (omega (arith, c.requires.count)) in
    sym (ap (λ (ns : List ℕ). filled ns (frames_from c.args.job c.args.layer i (drop i c.args.numbers.now)) c.loop-position.slots.items) none) ∙ c.loop-position.invariant.filled

pub returns-clause-places : goal.returns-clause-places
returns-clause-places c =
    let places = c.args.places.now in
    let i = c.loop-position.position in
    let frames = c.loop-position.frames in
    sym (take_all i frames.slots (omega (arith, c.loop-position.invariant.long))) ∙ c.loop-position.invariant.places ∙ take_all i places (omega (arith, c.requires.count))
