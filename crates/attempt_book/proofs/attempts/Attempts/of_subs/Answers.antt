use Rattle.std.proofs.Common.{ℕ, ◌≡◌, ◌+◌, ◌∙◌, suc, [], length, take, refl, ap, arith}
use Rattle.std.proofs.lemmas.Option.{slice_get_read}
use Rattle.farm_types.specs.declared.limits.TheConstants.{SUB_NUMBERS}
use Rattle.farm_types.specs.Subs.{with_sub}
use Rattle.attempt_book.specs.Book.{AttemptLists}
use Rattle.attempt_book.proofs.Restored.{rising_below, set_next}
use Rattle.attempt_book.proofs.attempts.Attempts.of_subs.Goals as goal

pub set_sub-requires : goal.set_sub-requires
set_sub-requires c =
    let subs = c.args.subs.now in
    let at = slice_get_read subs (length subs) c.loop-row.row-index c.row-item.result refl c.loop-row-test.true c.row-item.is in
    rising_below 0 SUB_NUMBERS subs c.loop-row.row-index c.row-item.result c.requires at

pub loop-row-preserved : goal.loop-row-preserved
loop-row-preserved c =
    let subs = c.args.subs.now in
    let i = c.loop-row.row-index in
    let row = c.row-item.result in
    let at = slice_get_read subs (length subs) i row refl c.loop-row-test.true c.row-item.is in
    let one : suc i ≡ i + 1 = omega arith in
    let last : with_sub row (take i subs) ≡ take (i + 1) subs = set_next 0 SUB_NUMBERS subs i row c.requires at ∙ ap (λ (n : ℕ). take n subs) one in
    c.set_sub.ensures
    ∙ ap (λ (b : AttemptLists). record b { subs = with_sub row b.subs }) c.loop-row.invariant
    ∙ (λ j. record { subs = last j; procs = [] })
