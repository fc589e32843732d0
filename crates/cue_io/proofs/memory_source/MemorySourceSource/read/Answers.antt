use Rattle.std.proofs.Common.{◌≡◌, ◌+◌, ◌-◌, length, take, drop, ◌++◌, sym, ◌∙◌, ap, arith, length-take, length-drop}
use Rattle.std.proofs.lemmas.List.{take_at, take-append-drop, drop-drop}
use Rattle.cue_io.specs.Memory.{Supply}
use Rattle.cue_io.proofs.memory_source.MemorySourceSource.read.Goals as goal

pub returns-clause-takes : goal.returns-clause-takes
returns-clause-takes c =
    let bytes = c.self.inside.bytes.items in
    let at = c.self.inside.at in
    let n = c.min-count.result in
    let copied = c.copy_from_slice.new.self in
    let cut : at + n - at ≡ n = omega arith in
    let is : copied ≡ take n (drop at bytes) =
    c.copy_from_slice.ensures.after ∙ ap (λ k. take k (drop at c.deref.result.now)) cut ∙ ap (λ all. take n (drop at all)) c.deref.ensures.value in
    let count : length copied ≡ n =
    ap length is ∙ omega (arith, length-take n (drop at bytes), length-drop at bytes, c.min-count.ensures, c.min.ensures) in
    sym (ap (λ (supply : Supply). supply.left) c.self.view_is)
    ∙ sym (take-append-drop n (drop at bytes))
    ∙ ap (λ front. front ++ drop n (drop at bytes)) (sym is ∙ sym (take_at copied (drop n c.args.into.now) n count))
    ∙ ap (λ rest. take n (copied ++ drop n c.args.into.now) ++ rest) (drop-drop n at bytes)
