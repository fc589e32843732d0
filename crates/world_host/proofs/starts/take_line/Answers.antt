use Rattle.std.proofs.Common.{ap, arith, length}
use Rattle.std.specs.Prelude.{List}
use Rattle.farm_types.specs.declared.attempt.Attempt.{Attempt}
use Rattle.world_host.proofs.FewStarts.{line_few}
use Rattle.world_host.proofs.starts.take_line.Goals as goal

pub push_starts-requires : goal.push_starts-requires
push_starts-requires c =
    omega (
      arith,
      c.in_ok-reserve.ensures.ok,
      c.in_ok-reserve.ensures.len,
      ap (λ (xs : List Attempt). length xs) c.in_ok-reserve.ensures.items,
      line_few c.args.rqd.now c.args.line.now c.in-Ok.orders c.in-Ok.ensures.taken.0,
      c.in_ok-count.ensures,
    )
