use Rattle.std.proofs.Common.{sym}
use Rattle.farm_stands.proofs.Fitting.{limit_within}
use Rattle.farm_stands.proofs.words.layer_amounts.Goals as goal

pub limit_code-requires : goal.limit_code-requires
limit_code-requires c =
    record {
      within =
          limit_within c.args.books.now.farm c.args.frame.now.job c.args.frame.now.layer c.in-Some.layer.now c.requires.kept (sym c.in-Some.ensures);
    }
