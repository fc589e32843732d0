use Rattle.std.proofs.Common.{◌≡◌, ◌∙◌, ℕ, ap, sym, subst}
use Rattle.depend_book.specs.Book.{DependLists}
use Rattle.farm_types.specs.declared.answer.Answer.{Answer}
use Rattle.farm_types.specs.Step.{moment_of}
use Rattle.farm_changes.specs.declared.act_answer.ActAnswer.{ActAnswer}
use Rattle.farm_core.specs.Answers.{HasNumber, answer_by}
use Rattle.farm_core.specs.Change.{Plans}
use Rattle.farm_core.proofs.Numbers.{has_number}
use Rattle.farm_core.proofs.Prepared.{made}
use Rattle.farm_core.proofs.following.with_follow.Goals as goal

pub answer_by-answer-requires : goal.answer_by-answer-requires
answer_by-answer-requires c =
    let f = c.args.books.now.farm in
    let e = c.args.entry.now in
    let next : c.next_number-next.result ≡ f.next_depend = c.next_number-next.ensures ∙ ap (λ (b : DependLists). b.next) c.depends.ensures in
    let left : HasNumber f.next_depend c.args.act.answer =
    has_number f (moment_of f e.moment) e.act c.args.act.answer c.requires.made.answer c.requires.whole.kept.rows c.in_ok-follow.ensures.prepares.accepted in
    subst (λ (said : ActAnswer). HasNumber c.next_number-next.result said) (sym c.answer.ensures) (subst (λ (n : ℕ). HasNumber n c.args.act.answer) (sym next) left)

pub returns-clause-prepared : goal.returns-clause-prepared
returns-clause-prepared c =
    let f = c.args.books.now.farm in
    let e = c.args.entry.now in
    let w = c.in_ok-follow.follow in
    let next : c.next_number-next.result ≡ f.next_depend = c.next_number-next.ensures ∙ ap (λ (b : DependLists). b.next) c.depends.ensures in
    let answer : c.answer_by-answer.result ≡ answer_by f.next_depend w.count c.args.act.answer =
    c.answer_by-answer.ensures ∙ (ap (answer_by c.next_number-next.result w.count) c.answer.ensures ∙ ap (λ (n : ℕ). answer_by n w.count c.args.act.answer) next) in
    subst (λ (said : Answer). Plans f e (record { act = c.args.act; follow = w; finish = c.in_ok-finish.finish; rows = c.new.result; answer = said })) (sym answer)
    (made f e c.args.act c.requires.made c.requires.whole.kept c.requires.formed c.requires.condition w c.in_ok-follow.ensures.prepares c.in_ok-finish.finish c.in_ok-finish.ensures c.new.result)
