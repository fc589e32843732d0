use Rattle.std.proofs.Common.{◌≡◌, ◌+◌, ◌∙◌, ◌++◌, ◌∷◌, [], ℕ, List, Some, cond, length, take, string_bytes, sym, ap, subst, arith}
use Rattle.std.specs.List.{slice_get}
use Rattle.std.specs.Str.{bytes_eq}
use Rattle.std.proofs.lemmas.List.{take_more}
use Rattle.std.proofs.lemmas.Option.{slice_get_read}
use Rattle.farm_types.specs.declared.rows.JobRow.{JobRow}
use Rattle.job_book.specs.Names.{KeepsNames}
use Rattle.job_index.specs.Names.{number_of}
use Rattle.job_book.proofs.NamedJobs.{keeps_more, unnamed}
use Rattle.job_book.proofs.RestoringLemmas.RestoredNames.{new_name}
use Rattle.job_book.proofs.restoring.keys.names_of.Goals as goal

pub add-requires-clause-new : goal.add-requires-clause-new
add-requires-clause-new c =
    let rows = c.args.rows.now in
    let i = c.loop-row.row-index in
    let row = c.row-item.result in
    let at : slice_get rows i ≡ Some row = slice_get_read rows (length rows) i row (omega arith) (omega arith) c.row-item.is in
    let name : string_bytes c.in_ok-from_str.field-0 ≡ row.name = c.in_ok-from_str.ensures.ok ∙ c.as_str.ensures in
    ap (λ (ns : List ℕ). number_of ns c.reserve.new.self.pairs) name
    ∙ ap (number_of row.name) c.reserve.ensures.pairs
    ∙ unnamed c.loop-row.names.pairs (take i rows) row.name c.loop-row.invariant (new_name rows i row c.requires.differ at)

pub loop-row-preserved : goal.loop-row-preserved
loop-row-preserved c =
    let rows = c.args.rows.now in
    let i = c.loop-row.row-index in
    let row = c.row-item.result in
    let at : slice_get rows i ≡ Some row = slice_get_read rows (length rows) i row (omega arith) (omega arith) c.row-item.is in
    let name : string_bytes c.in_ok-from_str.field-0 ≡ row.name = c.in_ok-from_str.ensures.ok ∙ c.as_str.ensures in
    let more : take (i + 1) rows ≡ take i rows ++ row ∷ [] = take_more rows i row (omega arith) ∙ ap (λ (j : JobRow). take i rows ++ j ∷ []) (sym c.row-item.is) in
    let found = λ (other : List ℕ). c.add.ensures.others other ∙ ap (λ (n : List ℕ). cond (bytes_eq n other) (Some row.job) (number_of other c.reserve.new.self.pairs)) name
    ∙ ap (λ ns. cond (bytes_eq row.name other) (Some row.job) (number_of other ns)) c.reserve.ensures.pairs in
    let count : length c.add.new.self.pairs ≡ length c.loop-row.names.pairs + 1 = c.add.ensures.count ∙ ap (λ (ns : List (List ℕ × ℕ)). length ns + 1) c.reserve.ensures.pairs in
    subst (KeepsNames c.add.new.self.pairs) (sym more) (keeps_more c.loop-row.names.pairs c.add.new.self.pairs (take i rows) row (new_name rows i row c.requires.differ at) found count c.loop-row.invariant)
