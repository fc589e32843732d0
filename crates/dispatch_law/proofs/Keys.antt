-- What decides where a frame stands in the order: the rows that its rank is read of.
use Rattle.std.proofs.Common.{◌≡◌, ℕ, ◌<◌, Some, refl, sym, ap, subst, ◌∙◌, arith}
use Rattle.std.specs.Cmp.Lexicographic.{slice_cmp}
use Rattle.std.specs.List.{slice_get}
use Rattle.std.specs.declared.cmp.Ordering.{Ordering}
use Rattle.std.specs.declared.cmp.Ordering.TheVariants.{Less, Equal, Greater}
use Rattle.std.specs.Ordering.{nat_cmp, ordering_then}
use Rattle.std.proofs.lemmas.Bool.Decides.{nat_tests}
use Rattle.std.proofs.lemmas.Cmp.{tied_itself, nat_cmp_total, nat_list_cmp_total}
use Rattle.std.proofs.lemmas.Option.{same_Some}
use Rattle.farm_types.specs.declared.dispatch.Rank.{Rank}
use Rattle.farm_types.specs.declared.rows.HostRow.{HostRow}
use Rattle.farm_types.specs.declared.rows.JobRow.{JobRow}
use Rattle.farm_types.specs.declared.rows.SubRow.{SubRow}
use Rattle.farm_types.specs.declared.slot_row.SlotRow.{SlotRow}
use Rattle.farm_types.specs.Dispatch.{by_ratio, rank_cmp, show_name}
use Rattle.farm_types.specs.Farm.{Farm, sub_at, job_at, sub_of}
use Rattle.farm_types.specs.Sums.{booked_in}
use Rattle.dispatch_law.proofs.RankFacts.{IsRanked}
use Rattle.dispatch_law.proofs.RankOrder.{ratio_total}

-- the job and the subscription of a rank for a host
pub record HasKeys (f : Farm) (host : ℕ) (r : Rank) : Type 0 where
  pub job : JobRow
  pub row : HostRow
  pub sub : SubRow
  pub job_is : job_at f r.job ≡ Some job
  pub row_is : slice_get f.hosts host ≡ Some row
  pub sub_is : sub_at f (sub_of job.show row.alloc) ≡ Some sub
  pub booked_is : r.booked ≡ booked_in f sub.sub
  pub size_is : r.size ≡ sub.size
  pub show_is : r.show ≡ job.show
  pub priority_is : r.priority ≡ job.priority

pub keys_of : (f : Farm) (host slot : ℕ) (s : SlotRow) (r : Rank) → IsRanked f host slot s r → HasKeys f host r
keys_of f host slot s r ranked =
    record {
      job = ranked.job;
      row = ranked.row;
      sub = ranked.sub;
      job_is = ap (λ (x : Rank). job_at f x.job) ranked.rank_is ∙ ranked.job_is;
      row_is = ranked.row_is;
      sub_is = ranked.sub_is;
      booked_is = ap (λ (x : Rank). x.booked) ranked.rank_is;
      size_is = ap (λ (x : Rank). x.size) ranked.rank_is;
      show_is = ap (λ (x : Rank). x.show) ranked.rank_is;
      priority_is = ap (λ (x : Rank). x.priority) ranked.rank_is;
    }

-- ---- orders, one after another

tie_then : (o p : Ordering) → o ≡ Equal → ordering_then o p ≡ p
tie_then Less p e = cc
tie_then Equal p e = refl
tie_then Greater p e = cc

less_then : (o p : Ordering) → o ≡ Less → ordering_then o p ≡ Less
less_then Less p e = refl
less_then Equal p e = cc
less_then Greater p e = cc

-- less by the first two, whatever comes after them
both_less : (o p q : Ordering) → ordering_then o p ≡ Less → ordering_then o (ordering_then p q) ≡ Less
both_less Less p q e = refl
both_less Equal p q e = less_then p q e
both_less Greater p q e = e

pub less_is : (x y : ℕ) → x < y → nat_cmp x y ≡ Less
less_is x y h = grind (arith, nat_tests)

-- ---- two ranks of one subscription

-- two ranks of one subscription, and of one job
pub record OfOneSub (a b : Rank) : Type 0 where
  pub booked_is : a.booked ≡ b.booked
  pub size_is : a.size ≡ b.size
  pub show_is : a.show ≡ b.show

pub record OfOneJob (a b : Rank) : Type 0 where
  pub sub : OfOneSub a b
  pub priority_is : a.priority ≡ b.priority
  pub job_is : a.job ≡ b.job

ratio_ties : (a b : Rank) → OfOneSub a b → by_ratio a.booked a.size b.booked b.size ≡ Equal
ratio_ties a b one =
    subst (λ n. by_ratio a.booked a.size n b.size ≡ Equal) one.booked_is
    (subst (λ n. by_ratio a.booked a.size a.booked n ≡ Equal) one.size_is (tied_itself ratio_total a))

name_ties : (f : Farm) (a b : Rank) → OfOneSub a b → slice_cmp nat_cmp (show_name f a.show) (show_name f b.show) ≡ Equal
name_ties f a b one =
    subst (λ n. slice_cmp nat_cmp (show_name f a.show) (show_name f n) ≡ Equal) one.show_is (tied_itself nat_list_cmp_total (show_name f a.show))

number_ties : (m n : ℕ) → m ≡ n → nat_cmp m n ≡ Equal
number_ties m n e = subst (λ k. nat_cmp m k ≡ Equal) e (tied_itself nat_cmp_total m)

-- what is left to compare of ranks of one subscription, and of one job
abbrev by_job : Rank → Rank → Ordering
by_job a b =
    ordering_then (nat_cmp b.priority a.priority) (ordering_then (nat_cmp a.job b.job) (ordering_then (nat_cmp a.layer b.layer) (nat_cmp a.position b.position)))

abbrev by_frame : Rank → Rank → Ordering
by_frame a b = ordering_then (nat_cmp a.layer b.layer) (nat_cmp a.position b.position)

sub_front : (f : Farm) (a b : Rank) → OfOneSub a b → rank_cmp f a b ≡ by_job a b
sub_front f a b one =
    tie_then (by_ratio a.booked a.size b.booked b.size) (ordering_then (slice_cmp nat_cmp (show_name f a.show) (show_name f b.show)) (by_job a b)) (ratio_ties a b one)
    ∙ tie_then (slice_cmp nat_cmp (show_name f a.show) (show_name f b.show)) (by_job a b) (name_ties f a b one)

job_front : (f : Farm) (a b : Rank) → OfOneJob a b → rank_cmp f a b ≡ by_frame a b
job_front f a b one =
    sub_front f a b one.sub
    ∙ (tie_then (nat_cmp b.priority a.priority) (ordering_then (nat_cmp a.job b.job) (by_frame a b)) (number_ties b.priority a.priority (sym one.priority_is))
    ∙ tie_then (nat_cmp a.job b.job) (by_frame a b) (number_ties a.job b.job one.job_is))

-- the frames of one layer come by position
pub positions_less : (f : Farm) (a b : Rank) → OfOneJob a b → a.layer ≡ b.layer → a.position < b.position → rank_cmp f a b ≡ Less
positions_less f a b one same h =
    job_front f a b one ∙ (tie_then (nat_cmp a.layer b.layer) (nat_cmp a.position b.position) (number_ties a.layer b.layer same) ∙ less_is a.position b.position h)

-- those of one job by layer
pub layers_less : (f : Farm) (a b : Rank) → OfOneJob a b → a.layer < b.layer → rank_cmp f a b ≡ Less
layers_less f a b one h = job_front f a b one ∙ less_then (nat_cmp a.layer b.layer) (nat_cmp a.position b.position) (less_is a.layer b.layer h)

-- those of one subscription by job
pub jobs_less : (f : Farm) (a b : Rank) → OfOneSub a b → ordering_then (nat_cmp b.priority a.priority) (nat_cmp a.job b.job) ≡ Less → rank_cmp f a b ≡ Less
jobs_less f a b one h = sub_front f a b one ∙ both_less (nat_cmp b.priority a.priority) (nat_cmp a.job b.job) (by_frame a b) h

-- and others by subscription
pub subs_less : (f : Farm) (a b : Rank) → ordering_then (by_ratio a.booked a.size b.booked b.size) (slice_cmp nat_cmp (show_name f a.show) (show_name f b.show)) ≡ Less → rank_cmp f a b ≡ Less
subs_less f a b h = both_less (by_ratio a.booked a.size b.booked b.size) (slice_cmp nat_cmp (show_name f a.show) (show_name f b.show)) (by_job a b) h

-- ---- rows of two ranks

-- ranks for one host whose jobs have one show are of one subscription
pub one_sub : (f : Farm) (host : ℕ) (a b : Rank) (k : HasKeys f host a) (m : HasKeys f host b) → k.job.show ≡ m.job.show → OfOneSub a b
one_sub f host a b k m same =
    let rows : k.row ≡ m.row = same_Some k.row m.row (sym k.row_is ∙ m.row_is) in
    let numbers : sub_of k.job.show k.row.alloc ≡ sub_of m.job.show m.row.alloc = ap (λ n. sub_of n k.row.alloc) same ∙ ap (λ (h : HostRow). sub_of m.job.show h.alloc) rows in
    let subs : k.sub ≡ m.sub = same_Some k.sub m.sub (sym k.sub_is ∙ (ap (sub_at f) numbers ∙ m.sub_is)) in
    record {
      booked_is = k.booked_is ∙ (ap (λ (s : SubRow). booked_in f s.sub) subs ∙ sym m.booked_is);
      size_is = k.size_is ∙ (ap (λ (s : SubRow). s.size) subs ∙ sym m.size_is);
      show_is = k.show_is ∙ (same ∙ sym m.show_is);
    }

-- ranks for one host of one job
pub one_job : (f : Farm) (host : ℕ) (a b : Rank) → HasKeys f host a → HasKeys f host b → a.job ≡ b.job → OfOneJob a b
one_job f host a b k m same =
    let jobs : k.job ≡ m.job = same_Some k.job m.job (sym k.job_is ∙ (ap (job_at f) same ∙ m.job_is)) in
    record {
      sub = one_sub f host a b k m (ap (λ (j : JobRow). j.show) jobs);
      priority_is = k.priority_is ∙ (ap (λ (j : JobRow). j.priority) jobs ∙ sym m.priority_is);
      job_is = same;
    }
