-- What a job's row has to keep, part by part.
use Rattle.std.proofs.Common.{◌≡◌, ℕ, ◌<◌, ◌≤◌, Bool, true, ◌&&◌, leb, ltb, List, arith}
use Rattle.std.specs.List.{list_all}
use Rattle.std.specs.Cmp.Derive.{both_true}
use Rattle.std.proofs.lemmas.Bool.{leb-true, le-leb, ltb-true, lt-ltb}
use Rattle.farm_types.specs.declared.rows.JobRow.{JobRow}
use Rattle.farm_types.specs.declared.limits.TheConstants.{MOST_FRAMES, MOST_PRIORITY, MOST_RETRIES}
use Rattle.farm_types.specs.Forms.{is_between, is_name_or_empty, is_name_text, is_tag_text}
use Rattle.farm_types.specs.Kept.{is_formed_job}
use Rattle.farm_types.proofs.Lists.{and_both, list_all-at, list_all-from_at}

-- the parts of a formed job of so many shows
pub record JobFormed (shows : ℕ) (j : JobRow) : Type 0 where
  pub name : is_name_text j.name ≡ true
  pub show : j.show < shows
  pub facility : is_tag_text j.facility ≡ true
  pub shot : is_name_or_empty j.shot ≡ true
  pub user : is_name_or_empty j.user ≡ true
  pub priority : is_between 1 MOST_PRIORITY j.priority ≡ true
  pub retries : j.max_retries ≤ MOST_RETRIES
  pub frames : is_between 1 MOST_FRAMES j.frames ≡ true

-- what is tested from each part on
abbrev from_retries : JobRow → Bool
from_retries j = leb j.max_retries MOST_RETRIES && is_between 1 MOST_FRAMES j.frames

abbrev from_priority : JobRow → Bool
from_priority j = is_between 1 MOST_PRIORITY j.priority && from_retries j

abbrev from_user : JobRow → Bool
from_user j = is_name_or_empty j.user && from_priority j

abbrev from_shot : JobRow → Bool
from_shot j = is_name_or_empty j.shot && from_user j

abbrev from_facility : JobRow → Bool
from_facility j = is_tag_text j.facility && from_shot j

-- the parts of the test
pub job_formed : (shows : ℕ) (j : JobRow) → is_formed_job shows j ≡ true → JobFormed shows j
job_formed shows j h =
    let name = and_both (is_name_text j.name) (ltb j.show shows && from_facility j) h in
    let show = and_both (ltb j.show shows) (from_facility j) name.1 in
    let facility = and_both (is_tag_text j.facility) (from_shot j) show.1 in
    let shot = and_both (is_name_or_empty j.shot) (from_user j) facility.1 in
    let user = and_both (is_name_or_empty j.user) (from_priority j) shot.1 in
    let priority = and_both (is_between 1 MOST_PRIORITY j.priority) (from_retries j) user.1 in
    let retries = and_both (leb j.max_retries MOST_RETRIES) (is_between 1 MOST_FRAMES j.frames) priority.1 in
    record {
      name = name.0;
      show = ltb-true j.show shows show.0;
      facility = facility.0;
      shot = shot.0;
      user = user.0;
      priority = priority.0;
      retries = leb-true j.max_retries MOST_RETRIES retries.0;
      frames = retries.1;
    }

pub formed_job : (shows : ℕ) (j : JobRow) → JobFormed shows j → is_formed_job shows j ≡ true
formed_job shows j h =
    both_true h.name (both_true (lt-ltb j.show shows h.show) (both_true h.facility (both_true h.shot (both_true h.user (both_true h.priority (both_true (le-leb j.max_retries MOST_RETRIES h.retries) h.frames))))))

-- a show that is there is among more
more_formed : (shows more : ℕ) → shows ≤ more → (j : JobRow) → is_formed_job shows j ≡ true → is_formed_job more j ≡ true
more_formed shows more le j h =
    let had = job_formed shows j h in
    formed_job more j
    (record {
      name = had.name;
      show = omega (arith, had.show);
      facility = had.facility;
      shot = had.shot;
      user = had.user;
      priority = had.priority;
      retries = had.retries;
      frames = had.frames;
    })

-- jobs stay formed where there are more shows
pub jobs_formed_more : (shows more : ℕ) (jobs : List JobRow) → shows ≤ more → list_all (is_formed_job shows) jobs ≡ true → list_all (is_formed_job more) jobs ≡ true
jobs_formed_more shows more jobs le all =
    list_all-from_at (is_formed_job more) jobs (λ n j at. more_formed shows more le j (list_all-at (is_formed_job shows) jobs n j all at))
