-- What refuses bytes before they are a file that is opened: a head that is not there, or opens otherwise. Assumes nothing.
use mathlib.Core.Path.{◌≡◌, refl, sym, ◌∙◌}
use mathlib.Core.Bool.{Bool, true, false}
use mathlib.Core.List.{List}
use Prim.Native.Nat.{ℕ, ◌≤◌, ◌<◌}
use native.Mathlib.Omega.{arith}
use lib.ListN.{length}
use Rattle.sets.specs.Answers.{is_done}
use Rattle.sets.specs.declared.answer.Answer.{Answer}
use Rattle.sets.specs.declared.answer.Answer.TheVariants.{TooShort, WrongLetters}
use Rattle.sets.proofs.Asking.{refused}
use Rattle.octets.specs.Editions.{opens_file, wide_in}
use Rattle.graphfile.specs.Layout.{letters, head_length}
use Rattle.graphfile.specs.Refusals.{judged_head, judged_before_rows, judged_file}
use Rattle.graphfile.proofs.Asking.{front-short, front}
use Rattle.graphfile.proofs.Judging.{head-letters, head-short}
use Rattle.graphfile.proofs.Filling.{front-stops}

module _ (bytes : List ℕ) (n : ℕ) (hn : n ≡ head_length false) where
  front-refused : (a : Answer) → is_done a ≡ false → a ≡ judged_before_rows bytes → a ≡ judged_file bytes
  front-refused a q e = front-stops bytes a (is_done a) e refl q

  pub open-short : length bytes < n → TooShort ≡ judged_file bytes
  open-short l = front-refused TooShort refl (front-short bytes n hn l)

  module _ (long : n ≤ length bytes) (l : Bool) (hl : l ≡ opens_file letters bytes) where
    head-refused : (a : Answer) → is_done a ≡ false → a ≡ judged_head bytes → a ≡ judged_file bytes
    head-refused a q e = front-refused a q (refused a (judged_head bytes) (is_done a) e refl _ q ∙ sym (front bytes (omega arith)))

    pub open-letters : l ≡ false → WrongLetters ≡ judged_file bytes
    open-letters q = head-refused WrongLetters refl (head-letters bytes l hl q)

    pub open-head : l ≡ true → (wide : Bool) → wide ≡ wide_in bytes → (m : ℕ) → m ≡ head_length wide → length bytes < m
        → TooShort ≡ judged_file bytes
    open-head nl wide hw m hm s = head-refused TooShort refl (head-short bytes l hl nl wide hw m hm s)

pub ruleset opening = (open-short, open-letters, open-head)
