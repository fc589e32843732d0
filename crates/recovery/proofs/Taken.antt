-- A row of bytes that is taken, or not.
use Rattle.std.proofs.Common.{◌≡◌, ◌∙◌, Bool, true, false, cond, eqb, ◌&&◌, List, ◌∷◌, Option, Some, None, refl, sym, ap}
use Rattle.std.specs.Prelude.{Result, Ok, Err}
use Rattle.std.proofs.lemmas.Bool.{eqb-true, false≢true}
use Rattle.farm_keeper.specs.declared.row.Row.{Row}
use Rattle.farm_types.proofs.Lists.{and_both}
use Rattle.farm_rows.specs.declared.farm_row.FarmRow.{FarmRow}
use Rattle.farm_rows.specs.Recovery.{Said, StoredKey, comes_after, format_after, key_of, row_fits, with_stored}
use Rattle.farm_rows.specs.Rows.{row_id, row_kind}
use Rattle.stored_rows.specs.Told.{Told}
use Rattle.recovery.specs.declared.fault.RecoverFault.{RecoverFault}
use Rattle.recovery.specs.declared.fault.RecoverFault.TheVariants.{BadBytes, BreaksFarm, NoMemory}
use Rattle.recovery.specs.Recovered.{IsJoined, IsRead, IsRecovered, IsAccepted, breaks_farm, given_key, may_follow, read_with, recovered_from, recovered_with, row_given}

may_then : (last : Option StoredKey) (key : StoredKey) → may_follow last key ≡ true → comes_after last key ≡ true
may_then None key h = refl
may_then (Some last) key h = h

second_false : (a b : Bool) → a ≡ true → (a && b) ≡ false → b ≡ false
second_false true b h e = e
second_false false b h e = absurd (false≢true h)

module _ (old : Told) (r : Row) (may : may_follow old.last (given_key r) ≡ true) where
  abbrev rest_of : List Row → FarmRow → Result Said RecoverFault
  rest_of rest x = recovered_with (format_after old.format x) (Some (given_key r)) (with_stored old.farm x) rest

  in_order : (rest : List Row) → recovered_from old (r ∷ rest) ≡ read_with (row_given old.format r) old.format old.farm (given_key r) (rest_of rest)
  in_order rest = ap (λ (b : Bool). cond b (read_with (row_given old.format r) old.format old.farm (given_key r) (rest_of rest)) (Err (breaks_farm (given_key r)))) may

  pub bad_taken : (fault : RecoverFault) → IsRead old.format r (Err fault) → IsAccepted old r old (Err fault)
  bad_taken (BadBytes kind id) h = λ rest. in_order rest ∙ (ap (λ (o : Option FarmRow). read_with o old.format old.farm (given_key r) (rest_of rest)) h.0 ∙ (λ i. Err (BadBytes (sym h.1 i) (sym h.2 i))))
  bad_taken (BreaksFarm kind id) h = absurd h
  bad_taken NoMemory h = tt

  module _ (x : FarmRow) (read : row_given old.format r ≡ Some x) where
    found : (rest : List Row) → recovered_from old (r ∷ rest) ≡ cond (eqb (row_id x) r.id && row_fits old.format old.farm x) (rest_of rest x) (Err (breaks_farm (given_key r)))
    found rest = in_order rest ∙ ap (λ (o : Option FarmRow). read_with o old.format old.farm (given_key r) (rest_of rest)) read

    pub id_differs : eqb (row_id x) r.id ≡ false → IsAccepted old r old (Err (BreaksFarm r.kind r.id))
    id_differs differ = λ rest. found rest ∙ ap (λ (b : Bool). cond (b && row_fits old.format old.farm x) (rest_of rest x) (Err (breaks_farm (given_key r)))) differ

  module _ (new : Told) (x : FarmRow) (read : row_given old.format r ≡ Some x) (kind : row_kind x ≡ r.kind) (same : eqb (row_id x) r.id ≡ true) where
    key : key_of x ≡ given_key r
    key = λ i. (kind i, eqb-true (row_id x) r.id same i)

    was_read : (rest : List Row) → recovered_from old (r ∷ rest) ≡ cond (row_fits old.format old.farm x) (rest_of rest x) (Err (breaks_farm (given_key r)))
    was_read rest = found x read rest ∙ ap (λ (b : Bool). cond (b && row_fits old.format old.farm x) (rest_of rest x) (Err (breaks_farm (given_key r)))) same

    pub take_joined : (result : Result (Unit {0}) RecoverFault) → IsJoined old x new result → IsAccepted old r new result
    take_joined (Ok done) took =
        λ rest. was_read rest
        ∙ (ap (λ (b : Bool). cond b (rest_of rest x) (Err (breaks_farm (given_key r)))) (and_both (comes_after old.last (key_of x)) (row_fits old.format old.farm x) took.0).1
        ∙ (ap (λ (k : StoredKey). recovered_with (format_after old.format x) (Some k) (with_stored old.farm x) rest) (sym key) ∙ ap (λ (t : Told). recovered_from t rest) (sym took.1)))
    take_joined (Err (BreaksFarm kind id)) left =
        let after = ap (comes_after old.last) key ∙ may_then old.last (given_key r) may in
        let misfit = second_false (comes_after old.last (key_of x)) (row_fits old.format old.farm x) after left.0.0 in
        λ rest. was_read rest ∙ (ap (λ (b : Bool). cond b (rest_of rest x) (Err (breaks_farm (given_key r)))) misfit ∙ ap (λ (k : StoredKey). Err (breaks_farm k)) (sym (left.1 ∙ key)))
    take_joined (Err (BadBytes kind id)) wrong = absurd wrong
    take_joined (Err NoMemory) h = tt

-- a row that stops the walk
pub stopped : (old new : Told) (r : Row) (rest : List Row) (all : Result Said RecoverFault) (fault : RecoverFault) → IsAccepted old r new (Err fault) → recovered_from old (r ∷ rest) ≡ all → IsRecovered all (Err fault)
stopped old new r rest all (BadBytes kind id) h e = sym e ∙ h rest
stopped old new r rest all (BreaksFarm kind id) h e = sym e ∙ h rest
stopped old new r rest all NoMemory h e = tt
