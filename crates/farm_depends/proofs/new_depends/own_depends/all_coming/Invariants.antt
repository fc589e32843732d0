use Rattle.std.proofs.Common.{◌≡◌, ◌≤◌, drop, take}
use Rattle.farm_types.specs.declared.limits.TheConstants.{MOST_GROUPS}
use Rattle.farm_depends.specs.Coming.{each_coming, refusal_with_all}
use Rattle.farm_depends.specs.Placed.{placed}
use Rattle.farm_depends.proofs.new_depends.own_depends.all_coming.Given as goal

abbrev pub invariant-loop-spec : goal.invariant-loop-spec
invariant-loop-spec l = record {
  left : refusal_with_all (placed l.books.farm l.job) l.counts (drop l.spec-index l.job.depends) ≡ refusal_with_all (placed l.books.farm l.job) l.fn.counts l.job.depends;
  all : l.all ≡ each_coming (placed l.books.farm l.job) (take l.spec-index l.job.depends);
  within : l.counts.groups ≤ MOST_GROUPS;
}
