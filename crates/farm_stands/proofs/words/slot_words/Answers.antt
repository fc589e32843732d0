use Rattle.std.proofs.Common.{sym, subst}
use Rattle.farm_types.specs.Kept.{IsKeptFarm}
use Rattle.frame_words.specs.Bits.{FitsAmount, FitsFrame}
use Rattle.farm_stands.specs.declared.words.SlotWords.{SlotWords}
use Rattle.farm_stands.proofs.Fitting.{amounts_read, frame_read}
use Rattle.farm_stands.proofs.words.slot_words.Goals as goal

pub words_of-requires : goal.words_of-requires
words_of-requires c = record { kept = subst IsKeptFarm (sym c.books-books.ensures.farm) c.kept.ensures }

pub returns-in-Some-clause-fits : goal.returns-in-Some-clause-fits
returns-in-Some-clause-fits c =
    let row = c.in-Some.row.now in
    subst (λ (w : SlotWords). FitsFrame w.frame × FitsAmount w.amount) (sym c.words_of.ensures) (
      frame_read c.args.farm.now _ c.args.slot row c.kept.ensures c.books-books.ensures.farm c.in-Some.ensures,
      amounts_read c.args.farm.now _ row c.kept.ensures c.books-books.ensures.farm,
    )
