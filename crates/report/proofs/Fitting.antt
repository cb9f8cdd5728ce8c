-- A text in a lent buffer: 7 and no byte changed where the buffer is smaller than what is asked for, else the text and then what was
-- there. Assumes nothing.
use mathlib.Core.Path.{◌≡◌, sym, ap, ◌∙◌}
use mathlib.Core.Bool.{Bool}
use mathlib.Core.List.{List, ◌++◌}
use Prim.Native.Nat.{ℕ, ◌+◌, ◌≤◌, ◌<◌}
use native.Mathlib.Nat.{zero-add}
use native.Mathlib.Omega.{arith}
use borrow.Author.Tests.{lt-ltb, le-ltb}
use lib.Dec.{ltb}
use lib.ListN.{length, drop}
use lib.Seq.{sets-eq}
use Rattle.sets.specs.Tests.{when◌then◌else◌}
use Rattle.sets.specs.declared.answer.Answer.{Answer}
use Rattle.sets.specs.declared.answer.Answer.TheVariants.{BufferTooSmall}
use Rattle.report.specs.declared.writer.Listed.{Listed}
use Rattle.report.specs.Puts.{Put}

module _ (asked : ℕ) (a : Answer) (text out : List ℕ) where
  -- by whether the buffer is smaller
  abbrev pub given : Bool → Listed
  given small = when small then record { answer = BufferTooSmall; length = 0 } else record { answer = a; length = length text }

  abbrev pub held : Bool → List ℕ
  held small = when small then out else text ++ drop (length text) out

  module _ (small : length out < asked) where
    pub small-given : ◌≡◌ {A = Listed} (record { answer = BufferTooSmall; length = 0 }) (given (ltb (length out) asked))
    small-given = sym (ap given (lt-ltb (length out) asked small))

    pub small-held : out ≡ held (ltb (length out) asked)
    small-held = sym (ap held (lt-ltb (length out) asked small))

  module _ (big : asked ≤ length out) (most : length text ≤ asked) where
    pub fits : (t : List ℕ) → t ≡ text → 0 + length t ≤ length out
    fits t e = omega (arith, ap length e)

    module _ (t out' : List ℕ) (n : ℕ) (e : t ≡ text) (put : Put out 0 t out' n) where
      pub put-given : (x : Answer) → x ≡ a → ◌≡◌ {A = Listed} (record { answer = x; length = n }) (given (ltb (length out) asked))
      put-given x ha =
          let size : n ≡ length text = put.place ∙ zero-add (length t) ∙ ap length e in
          (λ i. record { answer = ha i; length = size i }) ∙ sym (ap given (le-ltb (length out) asked big))

      pub put-held : out' ≡ held (ltb (length out) asked)
      put-held =
          put.bytes
          ∙ sets-eq t out 0 (fits t e)
          ∙ ap (λ (k : ℕ). t ++ drop k out) (zero-add (length t))
          ∙ ap (λ (x : List ℕ). x ++ drop (length x) out) e
          ∙ sym (ap held (le-ltb (length out) asked big))
