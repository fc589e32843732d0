use Rattle.std.proofs.Common.{◌≡◌, ◌∙◌, ◌+◌, ◌≤◌, sym, rules, length, subst, List, ℤ}
use Rattle.frame_range.specs.Sets.{numbers_of}
use Rattle.frame_range.proofs.AddLemmas.{add_none, add_past, add_fault, add_done, fault_zero, fault_wrong, fault_empty, fault_many, fault_none, numbers_push, set_push}
use Rattle.frame_range.specs.declared.limits.TheConstants.{MOST_NUMBERS}
use Rattle.frame_range.proofs.frame_set.add_section.Goals as goal

pub returns-in_default-clause-gives : goal.returns-in_default-clause-gives
returns-in_default-clause-gives c =
    let at : c.len-place.result + 1 ≡ length c.args.sections.now.items + 1 = search rules in
    add_none c.args.sections.now.items c.args.text.now (c.len-place.result + 1) at c.in_default.ensures

pub returns-then-has_past-clause-gives : goal.returns-then-has_past-clause-gives
returns-then-has_past-clause-gives c =
    let at : c.len-place.result + 1 ≡ length c.args.sections.now.items + 1 = search rules in
    add_past c.args.sections.now.items c.args.text.now (c.len-place.result + 1) c.in-Some.section at c.in-Some.ensures (sym c.if-has_past.ensures)

pub returns-then-has_zero_step-clause-gives : goal.returns-then-has_zero_step-clause-gives
returns-then-has_zero_step-clause-gives c =
    let at : c.len-place.result + 1 ≡ length c.args.sections.now.items + 1 = search rules in
    add_fault c.args.sections.now.items c.args.text.now (c.len-place.result + 1) c.in-Some.section _ at c.in-Some.ensures (sym c.if-has_past.ensures)
    (fault_zero (c.len-place.result + 1) (numbers_of c.args.sections.now.items) c.in-Some.section (sym c.if-has_past.ensures) (sym c.if-has_zero_step.ensures))

pub returns-then-goes_wrong_way-clause-gives : goal.returns-then-goes_wrong_way-clause-gives
returns-then-goes_wrong_way-clause-gives c =
    let at : c.len-place.result + 1 ≡ length c.args.sections.now.items + 1 = search rules in
    add_fault c.args.sections.now.items c.args.text.now (c.len-place.result + 1) c.in-Some.section _ at c.in-Some.ensures (sym c.if-has_past.ensures)
    (fault_wrong (c.len-place.result + 1) (numbers_of c.args.sections.now.items) c.in-Some.section (sym c.if-has_past.ensures) (sym c.if-has_zero_step.ensures) (sym c.if-goes_wrong_way.ensures))

pub returns-then-is_empty-clause-gives : goal.returns-then-is_empty-clause-gives
returns-then-is_empty-clause-gives c =
    let at : c.len-place.result + 1 ≡ length c.args.sections.now.items + 1 = search rules in
    add_fault c.args.sections.now.items c.args.text.now (c.len-place.result + 1) c.in-Some.section _ at c.in-Some.ensures (sym c.if-has_past.ensures)
    (fault_empty (c.len-place.result + 1) (numbers_of c.args.sections.now.items) c.in-Some.section (sym c.if-has_past.ensures) (sym c.if-has_zero_step.ensures) (sym c.if-goes_wrong_way.ensures) (sym c.if-is_empty.ensures))

pub returns-in-Err-TooMany-clause-gives : goal.returns-in-Err-TooMany-clause-gives
returns-in-Err-TooMany-clause-gives c =
    let at : c.len-place.result + 1 ≡ length c.args.sections.now.items + 1 = search rules in
    let many = rw (c.in-Err-TooMany.field-0-is, c.requires.listed) at c.in-Err-TooMany.ensures in
    add_fault c.args.sections.now.items c.args.text.now (c.len-place.result + 1) c.in-Some.section _ at c.in-Some.ensures (sym c.if-has_past.ensures)
    (fault_many (c.len-place.result + 1) (numbers_of c.args.sections.now.items) c.in-Some.section (sym c.if-has_past.ensures) (sym c.if-has_zero_step.ensures) (sym c.if-goes_wrong_way.ensures) (sym c.if-is_empty.ensures) many)

pub returns-in_ok-push-in-Ok-clause-gives : goal.returns-in_ok-push-in-Ok-clause-gives
returns-in_ok-push-in-Ok-clause-gives c =
    let at : c.len-place.result + 1 ≡ length c.args.sections.now.items + 1 = search rules in
    let done = rw c.requires.listed at c.in-Ok.ensures in
    let few = subst (λ (l : List ℤ). length l ≤ MOST_NUMBERS) done.0 done.1 in
    rw c.in_ok-push-in-Ok.ensures.items
    (add_done c.args.sections.now.items c.args.text.now (c.len-place.result + 1) c.in-Some.section at c.in-Some.ensures (sym c.if-has_past.ensures)
    (fault_none (c.len-place.result + 1) (numbers_of c.args.sections.now.items) c.in-Some.section (sym c.if-has_past.ensures) (sym c.if-has_zero_step.ensures) (sym c.if-goes_wrong_way.ensures) (sym c.if-is_empty.ensures) few))

pub returns-in_ok-push-in-Ok-clause-listed : goal.returns-in_ok-push-in-Ok-clause-listed
returns-in_ok-push-in-Ok-clause-listed c =
    let done = rw c.requires.listed at c.in-Ok.ensures in
    rw c.in_ok-push-in-Ok.ensures.items (done.0 ∙ sym (numbers_push c.args.sections.now.items c.in-Some.section))

pub returns-in_ok-push-in-Ok-clause-faultless : goal.returns-in_ok-push-in-Ok-clause-faultless
returns-in_ok-push-in-Ok-clause-faultless c =
    let at : c.len-place.result + 1 ≡ length c.args.sections.now.items + 1 = search rules in
    let done = rw c.requires.listed at c.in-Ok.ensures in
    let few = subst (λ (l : List ℤ). length l ≤ MOST_NUMBERS) done.0 done.1 in
    rw c.in_ok-push-in-Ok.ensures.items
    (set_push c.args.sections.now.items c.in-Some.section (c.len-place.result + 1) at c.requires.faultless
    (fault_none (c.len-place.result + 1) (numbers_of c.args.sections.now.items) c.in-Some.section (sym c.if-has_past.ensures) (sym c.if-has_zero_step.ensures) (sym c.if-goes_wrong_way.ensures) (sym c.if-is_empty.ensures) few))
