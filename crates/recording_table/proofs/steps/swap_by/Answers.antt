use Rattle.std.proofs.Common.{◌≡◌, ℕ, ◌<◌, sym, ◌∙◌, subst}
use Rattle.atomic_table.specs.Seated.{TableId}
use Rattle.booking_rule.specs.Words.{all_words}
use Rattle.recording_table.proofs.Allowed.{allows}
use Rattle.recording_table.proofs.steps.swap_by.Goals as goal

pub swap-requires : goal.swap-requires
swap-requires g c =
    let same : c.words.result.now.table_id ≡ c.args.table.now = c.words.ensures.table in
    let size : c.args.table.now.words ≡ all_words = c.words.ensures.size.0 in (
      c.requires.table.0 ∙ sym same,
      subst (λ (t : TableId). c.args.word < t.words) (sym same) (subst (λ (n : ℕ). c.args.word < n) (sym size) c.requires.word.0),
      allows c.steps_keep_the_rule.ensures g.E.Stepping.kind _ _ _ c.args.new 0 (λ (n : ℕ). c.args.new) c.args.word c.requires.word.1 c.requires.may c.requires.writes,
    )
