-- How one step of a transaction follows another.
use Rattle.std.proofs.Common.{◌≡◌, ◌+◌, ◌<◌, inl, inr, ℕ, List, [], ◌∷◌, ◌++◌, length, take, get_or, refl, sym, ap, ◌∙◌, IsTrue, arith}
use Rattle.std.specs.FinMap.{insert, remove}
use Rattle.std.proofs.lemmas.Bool.{cases_lt}
use Rattle.std.proofs.lemmas.List.{take_more}
use Rattle.sqlite_trees.specs.Tree.{Trees}
use Rattle.sqlite.specs.State.{State, IsRolledBack, IsUnchanged, KeepsCommit, Survives}
use Rattle.farm_keeper.specs.declared.row.Row.{Row}
use Rattle.farm_keeper.specs.Rows.{Key, Rows, delete_all, key_of, put_all}
use Rattle.keeper_sqlite.specs.Told.{HasChanged, Within, told_in}

pub within_then : (a b c : State) (f g : Rows → Rows) → Within a b f → Within b c g → Within a c (λ rows. g (f rows))
within_then a b c f g p q = record {
  shown = record {
    was_open = p.shown.was_open;
    is_open = q.shown.is_open;
    now_is = refl;
    committed_is = q.shown.committed_is ∙ p.shown.committed_is;
    mode = q.shown.mode;
  };
  kept = λ has. let one = p.kept has in let two = q.kept one.0 in (two.0, two.1 ∙ ap g one.1);
}

pub kept_then : (a b c : State) → KeepsCommit a b → KeepsCommit b c → KeepsCommit a c
kept_then a b c p q = record {
  was_open = λ h. p.was_open (q.was_open h);
  committed = λ h. q.committed h ∙ p.committed (q.was_open h);
}

pub kept_same : (s : State) → KeepsCommit s s
kept_same s = record { was_open = λ h. h; committed = λ _. refl }

pub survives_same : (s : State) (P : Trees → Type 0) → Survives s s P
survives_same s P = record {
  clean = omega arith;
  shield = λ h. h;
  counts = omega arith;
  limit = refl;
  closes = λ _ h. inl h;
  crash = λ _ db h. inl h;
}

pub changed_none : (s : State) → IsTrue s.in_transaction → HasChanged s s 0 (λ rows. rows)
changed_none s mode = record {
  opened = λ none. absurd (omega (arith, none));
  back = λ h. h;
  mode = mode;
  made = λ is_open. record {
    shown = record { was_open = is_open; is_open = is_open; now_is = refl; committed_is = refl; mode = mode };
    kept = λ has. (has, refl);
  };
}

pub changed_then : (a b c : State) (n : ℕ) (f g : Rows → Rows) → HasChanged a b n f → Within b c g → HasChanged a c (n + 1) (λ rows. g (f rows))
changed_then a b c n f g p q = record {
  opened = λ _. p.back q.shown.was_open;
  back = λ _. p.back q.shown.was_open;
  mode = q.shown.mode;
  made = λ h. within_then a b c f g (p.made h) q;
}

pub changed_both : (a b c : State) (n m : ℕ) (f g : Rows → Rows) → HasChanged a b n f → HasChanged b c m g → HasChanged a c (n + m) (λ rows. g (f rows))
changed_both a b c n m f g p q = record {
  opened = λ some. elim (cases_lt 0 n) [ inl first ↦ p.opened first | inr none ↦ p.back (q.opened (omega (arith, some, none))) ];
  back = λ h. p.back (q.back h);
  mode = q.mode;
  made = λ h. let one = p.made h in within_then a b c f g one (q.made one.shown.is_open);
}

put_all-push : (xs : List Row) (x : Row) (rows : Rows) → put_all (xs ++ x ∷ []) rows ≡ insert (put_all xs rows) (key_of x) x.bytes
put_all-push [] x rows = refl
put_all-push (y ∷ xs) x rows = put_all-push xs x (insert rows (key_of y) y.bytes)

delete_all-push : (xs : List Key) (x : Key) (rows : Rows) → delete_all (xs ++ x ∷ []) rows ≡ remove (delete_all xs rows) x
delete_all-push [] x rows = refl
delete_all-push (y ∷ xs) x rows = delete_all-push xs x (remove rows y)

-- a change that comes to the same
changed_as : (a b : State) (n : ℕ) (f g : Rows → Rows) → ((rows : Rows) → f rows ≡ g rows) → HasChanged a b n f → HasChanged a b n g
changed_as a b n f g same p = record {
  opened = p.opened;
  back = p.back;
  mode = p.mode;
  made = λ h. let one = p.made h in record { shown = one.shown; kept = λ has. let k = one.kept has in (k.0, k.1 ∙ same (told_in a)) };
}

pub put_next : (a b c : State) (xs : List Row) (at : ℕ) (x : Row) → at < length xs → x ≡ get_or xs at x → HasChanged a b at (put_all (take at xs))
    → Within b c (λ rows. insert rows (key_of x) x.bytes) → HasChanged a c (at + 1) (put_all (take (at + 1) xs))
put_next a b c xs at x within is p q =
    changed_as a c (at + 1) (λ rows. insert (put_all (take at xs) rows) (key_of x) x.bytes) (put_all (take (at + 1) xs))
    (λ rows. sym (ap (λ l. put_all l rows) (take_more xs at x within ∙ ap (λ y. take at xs ++ y ∷ []) (sym is)) ∙ put_all-push (take at xs) x rows))
    (changed_then a b c at (put_all (take at xs)) (λ rows. insert rows (key_of x) x.bytes) p q)

pub delete_next : (a b c : State) (xs : List Key) (at : ℕ) (x d : Key) → at < length xs → x ≡ get_or xs at d → HasChanged a b at (delete_all (take at xs))
    → Within b c (λ rows. remove rows x) → HasChanged a c (at + 1) (delete_all (take (at + 1) xs))
delete_next a b c xs at x d within is p q =
    changed_as a c (at + 1) (λ rows. remove (delete_all (take at xs) rows) x) (delete_all (take (at + 1) xs))
    (λ rows. sym (ap (λ l. delete_all l rows) (take_more xs at d within ∙ ap (λ y. take at xs ++ y ∷ []) (sym is)) ∙ delete_all-push (take at xs) x rows))
    (changed_then a b c at (delete_all (take at xs)) (λ rows. remove rows x) p q)

-- ---- a whole call

pub kept_unchanged : (a b : State) → IsUnchanged a b → KeepsCommit a b
kept_unchanged a b same = record { was_open = λ _. same.0.was_open; committed = λ _. same.0.committed_is }

pub kept_rolled : (a b : State) → IsRolledBack a b → KeepsCommit a b
kept_rolled a b back = record { was_open = back.was_open; committed = λ h. (back.undone h).1 }
