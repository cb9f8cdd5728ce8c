-- The ways of `choose`, and those of `write_refused`. Assumes nothing.
use mathlib.Core.Path.{◌≡◌, refl, sym, ap, ◌∙◌}
use mathlib.Core.Bool.{Bool, true, false}
use mathlib.Core.List.{List, ◌++◌}
use Prim.Native.Nat.{ℕ, ◌+◌, ◌≤◌, ◌<◌}
use native.Mathlib.Nat.{zero-add}
use native.Mathlib.Omega.{arith}
use borrow.Author.Tests.{eq-eqb, ne_eqb, lt-ltb, le-ltb}
use lib.Dec.{ltb}
use lib.ListN.{length, drop}
use lib.Seq.{sets-eq}
use Rattle.sets.specs.Tests.{◌and◌, when◌then◌else◌}
use Rattle.octets.specs.Opens.{opens_with}
use Rattle.sets.specs.declared.answer.Answer.{Answer}
use Rattle.sets.specs.declared.answer.Answer.TheVariants.{WrongArgument}
use Rattle.rules.specs.declared.Profile.TheVariants.{Full, Light}
use Rattle.report.specs.declared.choice.Choice.{Choice}
use Rattle.report.specs.declared.choice.Choice.TheVariants.{Listing, Refused}
use Rattle.report.specs.Listing.{refused_line, longest_refused}
use Rattle.report.specs.Choice.{full_word, light_word, says, choice_of, refused_length, refused_after}
use Rattle.report.specs.Puts.{Put}
use Rattle.report.proofs.Longest.{refused-most}

-- ---- a word

pub other_length : (word bytes : List ℕ) → (length bytes ≡ length word → ⊥) → false ≡ says word bytes
unfolding ◌and◌
other_length word bytes n = sym (ap (λ (b : Bool). b and opens_with word bytes) (ne_eqb (length bytes) (length word) n))

pub same-length-says : (word bytes : List ℕ) (r : Bool) → length bytes ≡ length word → r ≡ opens_with word bytes → r ≡ says word bytes
unfolding ◌and◌
same-length-says word bytes r e h = h ∙ sym (ap (λ (b : Bool). b and opens_with word bytes) (eq-eqb (length bytes) (length word) e))

-- ---- the ways of the choice

module _ (argument : List ℕ) where
  abbrev by_words : Bool → Bool → Choice
  by_words full light = when full then Listing Full else when light then Listing Light else Refused WrongArgument

  one-is : choice_of 1 argument ≡ by_words (says full_word argument) (says light_word argument)
  unfolding choice_of
  one-is = refl

  module _ (full : Bool) (hf : full ≡ says full_word argument) where
    pub chose-full : full ≡ true → Listing Full ≡ choice_of 1 argument
    chose-full e = sym (one-is ∙ ap (λ (b : Bool). by_words b (says light_word argument)) (sym hf ∙ e))

    module _ (light : Bool) (hl : light ≡ says light_word argument) (no : full ≡ false) where
      not_full : choice_of 1 argument ≡ by_words false light
      not_full = one-is ∙ (λ i. by_words ((sym hf ∙ no) i) (sym hl i))

      pub chose-light : light ≡ true → Listing Light ≡ choice_of 1 argument
      chose-light e = sym (not_full ∙ ap (by_words false) e)

      pub chose-neither : light ≡ false → Refused WrongArgument ≡ choice_of 1 argument
      chose-neither e = sym (not_full ∙ ap (by_words false) e)

  module _ (count : ℕ) where
    pub chose_none : count ≡ 0 → Listing Light ≡ choice_of count argument
    unfolding choice_of
    chose_none e = sym (ap (λ (n : ℕ). choice_of n argument) e)

    pub chose-many : (count ≡ 0 → ⊥) → 1 < count → Refused WrongArgument ≡ choice_of count argument
    unfolding choice_of
    chose-many z m =
        sym (λ i. when ne_eqb count 0 z i then Listing Light else when lt-ltb 1 count m i then Refused WrongArgument
        else by_words (says full_word argument) (says light_word argument))

    pub chose-one : (c : Choice) → (count ≡ 0 → ⊥) → count ≤ 1 → c ≡ choice_of 1 argument → c ≡ choice_of count argument
    chose-one c z m h = let one : 1 ≡ count = omega arith in h ∙ ap (λ (n : ℕ). choice_of n argument) one

pub ruleset choosing = (other_length, same-length-says, chose-full, chose-light, chose-neither, chose_none, chose-many, chose-one)

-- ---- the line of a refusal

module _ (a : Answer) (out : List ℕ) where
  line-length : (b : Bool) → ltb (length out) longest_refused ≡ b → refused_length a (length out) ≡ when b then 0 else length (refused_line a)
  unfolding refused_length
  line-length b e = ap (λ (t : Bool). when t then 0 else length (refused_line a)) e

  line_after : (b : Bool) → ltb (length out) longest_refused ≡ b
      → refused_after a out ≡ when b then out else refused_line a ++ drop (length (refused_line a)) out
  unfolding refused_after
  line_after b e = ap (λ (t : Bool). when t then out else refused_line a ++ drop (length (refused_line a)) out) e

  module _ (small : length out < longest_refused) where
    pub no_line : 0 ≡ refused_length a (length out)
    no_line = sym (line-length true (lt-ltb (length out) longest_refused small))

    pub no_byte : out ≡ refused_after a out
    no_byte = sym (line_after true (lt-ltb (length out) longest_refused small))

  module _ (big : longest_refused ≤ length out) where
    pub line-fits : 0 + length (refused_line a) ≤ length out
    line-fits = omega (arith, refused-most a)

    module _ (out' : List ℕ) (n : ℕ) (put : Put out 0 (refused_line a) out' n) where
      pub line-put : n ≡ refused_length a (length out)
      line-put = put.place ∙ zero-add (length (refused_line a)) ∙ sym (line-length false (le-ltb (length out) longest_refused big))

      pub line-held : out' ≡ refused_after a out
      line-held =
          put.bytes
          ∙ sets-eq (refused_line a) out 0 line-fits
          ∙ ap (λ (k : ℕ). refused_line a ++ drop k out) (zero-add (length (refused_line a)))
          ∙ sym (line_after false (le-ltb (length out) longest_refused big))

pub ruleset refusing = (no_line, no_byte, line-fits, line-put, line-held)
