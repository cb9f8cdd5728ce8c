-- All that stands before the rows, question after question. Assumes nothing.
use mathlib.Core.Path.{◌≡◌, sym, ◌∙◌}
use mathlib.Core.Bool.{Bool, true, false}
use mathlib.Core.List.{List}
use Prim.Native.Nat.{ℕ, ◌≤◌, ◌<◌}
use native.Mathlib.Omega.{arith}
use borrow.Author.Tests.{lt-ltb, le-ltb}
use lib.ListN.{length}
use Rattle.sets.specs.Answers.{is_done, then_ask, first_refusal}
use Rattle.sets.specs.declared.answer.Answer.{Answer}
use Rattle.sets.specs.declared.answer.Answer.TheVariants.{TooShort}
use Rattle.sets.proofs.Asking.{refused, passed}
use Rattle.engine.specs.Relations.{relation_count}
use Rattle.graphfile.specs.Layout.{head_length}
use Rattle.octets.specs.Editions.{wide_in}
use Rattle.graphfile.proofs.Accepted.{narrow-head}
use Rattle.graphfile.specs.Refusals.{judged_head, judged_entry, judged_end, judged_before_rows}

pub front-short : (bytes : List ℕ) (n : ℕ) → n ≡ head_length false → length bytes < n → TooShort ≡ judged_before_rows bytes
unfolding judged_before_rows
front-short bytes n hn l = rw (lt-ltb (length bytes) (head_length false) (omega arith))

pub front : (bytes : List ℕ) → head_length false ≤ length bytes
    → judged_before_rows bytes ≡ then_ask (judged_head bytes) (then_ask (first_refusal relation_count (judged_entry bytes)) (judged_end bytes))
unfolding judged_before_rows
front bytes long = rw (le-ltb (length bytes) (head_length false) long)

module _ (bytes : List ℕ) (there : head_length (wide_in bytes) ≤ length bytes) (head : Answer) (d : Bool) (e : head ≡ judged_head bytes) (t : d
    ≡ is_done head) where
  pub front-head : d ≡ false → head ≡ judged_before_rows bytes
  front-head f = refused head _ d e t _ f ∙ sym (front bytes (narrow-head bytes there))

  module _ (f : d ≡ true) (entries : Answer) (d' : Bool) (e' : entries ≡ first_refusal relation_count (judged_entry bytes)) (t' : d'
      ≡ is_done entries) where
    after-head : judged_before_rows bytes ≡ then_ask (first_refusal relation_count (judged_entry bytes)) (judged_end bytes)
    after-head = front bytes (narrow-head bytes there) ∙ passed head _ d e t _ f

    pub front-entries : d' ≡ false → entries ≡ judged_before_rows bytes
    front-entries f' = refused entries _ d' e' t' _ f' ∙ sym after-head

    pub front-end : d' ≡ true → (a : Answer) → a ≡ judged_end bytes → a ≡ judged_before_rows bytes
    front-end f' a h = h ∙ sym (after-head ∙ passed entries _ d' e' t' _ f')
