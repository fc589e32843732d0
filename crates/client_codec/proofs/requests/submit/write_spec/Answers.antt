-- The steps from the first to the last, each with the members after it.
use Rattle.std.specs.Prelude.{codes, map}
use Rattle.std.proofs.lemmas.Result.{on_ok_weaker}
use Rattle.serde_json.specs.Data.{Members, array, boolean, member, no_members, string}
use Rattle.serde_json.specs.View.{items_of}
use Rattle.farm_lines.specs.RequestText.{layer_data, own_depend_data, spec_data}
use Rattle.farm_lines.specs.Words.{whole}
use Rattle.client_codec.proofs.AskedLemmas.RequestTokens.{and_as, and_then, of_object}
use Rattle.client_codec.proofs.requests.submit.write_spec.Goals as goal

pub returns : goal.returns
unfolding spec_data
returns c =
    let r = c.args.spec.now in
    let user : Members = member (codes "user") (string r.user) no_members in
    let show : Members = member (codes "show") (string r.show) user in
    let shot : Members = member (codes "shot") (string r.shot) show in
    let priority : Members = member (codes "priority") (whole r.priority) shot in
    let paused : Members = member (codes "paused") (boolean r.paused) priority in
    let name : Members = member (codes "name") (string r.name) paused in
    let max_retries : Members = member (codes "max_retries") (whole r.max_retries) name in
    let layers : Members = member (codes "layers") (array (items_of (map layer_data r.layers))) max_retries in
    let facility : Members = member (codes "facility") (string r.facility) layers in
    let depends : Members = member (codes "depends") (array (items_of (map own_depend_data r.depends))) facility in
    let auto_eat : Members = member (codes "auto_eat") (boolean r.auto_eat) depends in
    on_ok_weaker c.end_object.result
    (λ done.
    of_object _ _ _ auto_eat c.in_ok-begin_object.ensures
    (and_then _ _ _ (codes "auto_eat") (boolean r.auto_eat) depends c.in_ok-truth.ensures
    (and_as (λ xs. array (items_of (map own_depend_data xs))) _ _ _ _ _ (codes "depends") facility c.as_slice.ensures c.in_ok-write_depends.ensures
    (and_as string _ _ _ _ _ (codes "facility") layers c.as_str.ensures c.in_ok-text.ensures
    (and_as (λ xs. array (items_of (map layer_data xs))) _ _ _ _ _ (codes "layers") max_retries c.as_slice-2.ensures c.in_ok-write_layers.ensures
    (and_as whole _ _ _ _ _ (codes "max_retries") name c.from.ensures c.in_ok-whole.ensures
    (and_as string _ _ _ _ _ (codes "name") paused c.as_str-2.ensures c.in_ok-text-2.ensures
    (and_then _ _ _ (codes "paused") (boolean r.paused) priority c.in_ok-truth-2.ensures
    (and_as whole _ _ _ _ _ (codes "priority") shot c.from-2.ensures c.in_ok-whole-2.ensures
    (and_as string _ _ _ _ _ (codes "shot") show c.as_str-3.ensures c.in_ok-text-3.ensures
    (and_as string _ _ _ _ _ (codes "show") user c.as_str-4.ensures c.in_ok-text-4.ensures
    (and_as string _ _ _ _ _ (codes "user") no_members c.as_str-5.ensures c.in_ok-text-5.ensures done))))))))))))
    c.end_object.ensures
