-- The journal's word and amount words in the table's list of words.
use Rattle.std.proofs.Common.{◌≡◌, ◌≢◌, ℕ, ◌+◌, ◌<◌, List, length, set, slice_index, sym, ap, ◌∙◌, subst, arith, get_or-set_same, get_or-set_other, length-set}
use mathlib.Core.Logic.{dite}
use native.Mathlib.Decide.{ℕ_discrete}
use Rattle.frame_words.specs.declared.amount_word.AmountWord.{AmountWord}
use Rattle.frame_words.specs.Bits.{frame_of, amount_of, host_of, sub_of, limit_of}
use Rattle.booking_rule.specs.declared.view.View.{View}
use Rattle.booking_rule.specs.Words.{put, with_amount, frame_place, amount_place, host_place, sub_place, limit_place, all_words, words_of}
use Rattle.booking_rule.specs.Kept.{Kept, Holds}
use Rattle.booking_rule.proofs.Moves.{put_here, put_else}
use Rattle.booking_core.specs.Machine.{Table}
use Rattle.booking_core.proofs.Agreeing.{Agrees, kept_agrees, after_step}

module _ (ws : List ℕ) (m : ℕ) where
  else_at : (i j : ℕ) → j ≢ i → slice_index (set ws i m) j ≡ slice_index ws j
  else_at i j ne = get_or-set_other ws i j m 0 ne

  -- no other word is the journal's
  journal_word : Agrees (words_of ws) (words_of (set ws 0 m))
  journal_word = record {
    frame = λ j lt. ap frame_of (else_at 0 (frame_place j) (λ x. absurd (omega arith)));
    amount = λ j lt. ap amount_of (else_at 0 (amount_place j) (λ x. absurd (omega arith)));
    host = λ j lt. ap host_of (else_at 0 (host_place j) (λ x. absurd (omega arith)));
    sub = λ j lt. ap sub_of (else_at 0 (sub_place j) (λ x. absurd (omega arith)));
    limit = λ j lt. ap limit_of (else_at 0 (limit_place j) (λ x. absurd (omega arith)));
  }

  put_at : (k : ℕ) → k + 65537 < length ws → (j : ℕ) → amount_of (slice_index (set ws (k + 65537) m) (j + 65537)) ≡ put (words_of ws).amount k (amount_of m) j
  put_at k lt j =
      let old = (words_of ws).amount in
      let P : ℕ → Type 0 = λ x. amount_of (slice_index (set ws (k + 65537) m) (x + 65537)) ≡ put old k (amount_of m) x in
      dite (ℕ_discrete j k)
      (λ e. subst P (sym e) (ap amount_of (get_or-set_same ws (k + 65537) m 0 lt) ∙ sym (put_here old k (amount_of m))))
      (λ ne. ap amount_of (else_at (k + 65537) (j + 65537) (λ x. ne (omega arith))) ∙ sym (put_else old k (amount_of m) j ne))

  amount_word : (k : ℕ) → length ws ≡ all_words → k < 65536 → Agrees (with_amount (words_of ws) k (amount_of m)) (words_of (set ws (amount_place k) m))
  amount_word k len small = record {
    frame = λ j lt. ap frame_of (else_at (k + 65537) (j + 1) (λ x. absurd (omega arith)));
    amount = λ j lt. put_at k (omega arith) j;
    host = λ j lt. ap host_of (else_at (k + 65537) (j + 131073) (λ x. absurd (omega arith)));
    sub = λ j lt. ap sub_of (else_at (k + 65537) (j + 135169) (λ x. absurd (omega arith)));
    limit = λ j lt. ap limit_of (else_at (k + 65537) (j + 136193) (λ x. absurd (omega arith)));
  }

module _ (s : Table) (id m : ℕ) (w : View) (len : length s.words ≡ all_words) where
  pub journal_holds : Kept m (words_of s.words) (set s.views id w) → Holds (after_step s id 0 m w)
  journal_holds K =
      let now : slice_index (set s.words 0 m) 0 ≡ m = get_or-set_same s.words 0 m 0 (omega (arith, len)) in
      let kept = kept_agrees (words_of s.words) (words_of (set s.words 0 m)) (journal_word s.words m) m (set s.views id w) K in
      (length-set s.words 0 m ∙ len, subst (λ (k : ℕ). Kept k (words_of (set s.words 0 m)) (set s.views id w)) (sym now) kept)

  pub amount_holds : (k : ℕ) (x : AmountWord) → k < 65536 → amount_of m ≡ x → Kept (slice_index s.words 0) (with_amount (words_of s.words) k x) (set s.views id w)
      → Holds (after_step s id (amount_place k) m w)
  amount_holds k x lt is K =
      let i = amount_place k in
      let kept = subst (λ (y : AmountWord). Kept (slice_index s.words 0) (with_amount (words_of s.words) k y) (set s.views id w)) (sym is) K in
      let zeroth : slice_index (set s.words i m) 0 ≡ slice_index s.words 0 = else_at s.words m i 0 (λ e. absurd (omega (arith, e))) in
      let agreed = kept_agrees (with_amount (words_of s.words) k (amount_of m)) (words_of (set s.words i m)) (amount_word s.words m k len lt) (slice_index s.words 0)
      (set s.views id w) kept in
      (length-set s.words i m ∙ len, subst (λ (n : ℕ). Kept n (words_of (set s.words i m)) (set s.views id w)) (sym zeroth) agreed)
