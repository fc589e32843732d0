use Rattle.std.proofs.Common.{◌∙◌, ap, sym, arith, [], refl}
use Rattle.std.proofs.lemmas.Result.{err_from_is_err_and}
use Rattle.frame_range.specs.Sets.{numbers_of, pieces, sections_from, set_of}
use Rattle.frame_range.proofs.PieceLemmas.{numbers_none, set_none, set_of_is, sections_ok, sections_fault, Gives_exit}
use Rattle.frame_range.proofs.frame_set.parse_set.Goals as goal

pub loop-piece-init : goal.loop-piece-init
loop-piece-init c = record {
  listed = c.new-listing.ensures ∙ sym (ap numbers_of c.new-sections.ensures.items ∙ numbers_none);
  few = rw c.new-listing.ensures (omega arith);
  faultless = rw c.new-sections.ensures.items set_none;
  so_far = rw (c.new-sections.ensures.items, c.as_bytes-rest.ensures.value) refl;
}

pub returns-in_err-add_section : goal.returns-in_err-add_section
returns-in_err-add_section c =
    let p = err_from_is_err_and c.from_residual.result c.from_residual.ensures.1 in
    Gives_exit _ _ (λ set. set) c.from_residual.result (set_of c.args.text.now) _ _ p.1 p.2
    (sections_fault c.in_err-add_section.field-0.0 c.loop-piece.sections.items c.in-Some.piece.now (pieces c.in-Some.others.now) (set_of c.args.text.now)
    (set_of_is c.args.text.now ∙ sym c.loop-piece.invariant.so_far ∙ ap (sections_from c.loop-piece.sections.items) c.in-Some.ensures.first)
    c.in_err-add_section.ensures.gives)

pub returns-in_err-add_section-2 : goal.returns-in_err-add_section-2
returns-in_err-add_section-2 c =
    let p = err_from_is_err_and c.from_residual-in_err-add_section-2.result c.from_residual-in_err-add_section-2.ensures.1 in
    Gives_exit _ _ (λ set. set) c.from_residual-in_err-add_section-2.result (set_of c.args.text.now) _ _ p.1 p.2
    (sections_fault c.in_err-add_section-2.field-0.0 c.loop-piece.sections.items c.loop-piece.rest.now [] (set_of c.args.text.now)
    (set_of_is c.args.text.now ∙ sym c.loop-piece.invariant.so_far ∙ ap (sections_from c.loop-piece.sections.items) c.in_default.ensures.last)
    c.in_err-add_section-2.ensures.gives)

pub returns : goal.returns
returns c =
    set_of_is c.args.text.now ∙ sym c.loop-piece.invariant.so_far ∙ ap (sections_from c.loop-piece.sections.items) c.in_default.ensures.last
    ∙ sections_ok c.loop-piece.sections.items c.add_section-2.new.sections.items c.loop-piece.rest.now [] c.in_ok-add_section-2.ensures.gives
