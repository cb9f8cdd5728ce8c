-- LIGHT BY DEFAULT (02, 11/12), as theorems about the public functions. `ChooseGives argument count r` says that `choose` may give r for so many
-- arguments, the first of these bytes, and `AskedFor` that `write_listing` was called with the profile that `choose` gave: both by their own
-- contracts. Assumes nothing.
--
-- 1. What the listing program's arguments mean: none is light (`no-argument`), each word its profile (`the-word-full`, `the-word-light`), anything
--    else 12 (`another-word`, `many-arguments`).
-- 2. Nothing else moved: with any argument the choice is what 3/12 made it (`arguments-as-before`), and `full` asks for what no argument asked for
--    until now (`full-for-none`).
-- 3. For every log: what is written for `full` is the listing of the full graph (`full-listing`), what is written without an argument the listing
--    of the light one (`default-listing`), and so the same as for `light`, in every buffer (`default-is-light`).
-- 4. Both listings of L, byte by byte (`full-of-L`, `default-of-L`).
use mathlib.Core.Path.{◌≡◌, refl, sym, ap, ◌∙◌}
use mathlib.Core.Bool.{Bool, false}
use mathlib.Core.List.{List, ◌++◌}
use Prim.Native.Nat.{ℕ, ◌≤◌, ◌<◌}
use native.Mathlib.Omega.{arith}
use borrow.Author.Tests.{ne_eqb, le-ltb}
use lib.Dec.{T, eqb, ltb, eqb→eq}
use lib.ListN.{length, take, drop}
use lib.Seq.{take_all, take-append_seam}
use Rattle.sets.specs.Tests.{when◌then◌else◌, ◌and◌}
use Rattle.octets.specs.Opens.{opens_with}
use Rattle.sets.specs.declared.answer.Answer.TheVariants.{WrongArgument, BufferTooSmall}
use Rattle.sets.proofs.Tests.{and_l, and_r, F→false}
use Rattle.octets.proofs.Opens.{opens-is}
use Rattle.calllog.specs.Logs.{log_of}
use Rattle.rules.specs.declared.Profile.{Profile}
use Rattle.rules.specs.declared.Profile.TheVariants.{Full, Light}
use Rattle.report.specs.Choice.{full_word, light_word, says, choice_of}
use Rattle.report.specs.Listing.{listing_of, longest_listing, listed_of, listing_after}
use Rattle.report.specs.declared.choice.Choice.{Choice}
use Rattle.report.specs.declared.choice.Choice.TheVariants.{Listing, Refused}
use Rattle.report.specs.declared.writer.Listed.{Listed}
use Rattle.report.proofs.Choosing.{chose-many}
use Rattle.report.proofs.Examples.{file, printed, printed_light, listing-of-L}
use Rattle.promises.proofs.Contracts.{ChooseGives, choose-said, WriteListingGives, write-listing-said}

-- ================ THE ARGUMENTS: `choose` is given how many there are, and the bytes of the first

-- bytes that say a word are the word
word-is : (word bytes : List ℕ) → length bytes ≡ length word → T (opens_with word bytes) → bytes ≡ word
word-is word bytes l h = sym (take_all (length word) bytes (omega (arith, l))) ∙ opens-is word bytes h

says-not : (word bytes : List ℕ) → (bytes ≡ word → ⊥) → says word bytes ≡ false
says-not word bytes n = F→false _ (λ h. n (word-is word bytes (eqb→eq _ _ (and_l _ _ h)) (and_r _ _ h)))

module _ (argument : List ℕ) (r : Choice) where
  -- none: light
  pub no-argument : ChooseGives argument 0 r → r ≡ Listing Light
  unfolding choice_of
  no-argument c = choose-said argument 0 r c

  -- one that is neither word: 12
  pub another-word : ChooseGives argument 1 r → (argument ≡ full_word → ⊥) → (argument ≡ light_word → ⊥) → r ≡ Refused WrongArgument
  unfolding choice_of
  another-word c f l =
      choose-said argument 1 r c
      ∙ (λ i. when says-not full_word argument f i then Listing Full else when says-not light_word argument l i then Listing Light
      else Refused WrongArgument)

  -- more than one: 12
  pub many-arguments : (count : ℕ) → 1 < count → ChooseGives argument count r → r ≡ Refused WrongArgument
  many-arguments count more c =
      choose-said argument count r c ∙ sym (chose-many argument count (λ none. omega (arith, none, more)) more)

-- the two words
pub the-word-full : (r : Choice) → ChooseGives full_word 1 r → r ≡ Listing Full
unfolding choice_of opens_with ◌and◌
the-word-full r c = choose-said full_word 1 r c

pub the-word-light : (r : Choice) → ChooseGives light_word 1 r → r ≡ Listing Light
unfolding choice_of opens_with ◌and◌
the-word-light r c = choose-said light_word 1 r c

-- ================ NOTHING ELSE MOVED

-- what the arguments meant before, in the words of 3/12: full if there is none
unfoldable pub choice_before : ℕ → List ℕ → Choice
choice_before count argument =
    when eqb count 0 then Listing Full
    else when ltb 1 count then Refused WrongArgument
    else when says full_word argument then Listing Full
    else when says light_word argument then Listing Light
    else Refused WrongArgument

module _ (argument : List ℕ) (r : Choice) where
  -- with one argument or more, the same as before
  pub arguments-as-before : (count : ℕ) → (count ≡ 0 → ⊥) → ChooseGives argument count r → r ≡ choice_before count argument
  unfolding choice_of choice_before
  arguments-as-before count some c =
      choose-said argument count r c
      ∙ ap (λ (b : Bool). when b then Listing Light else others) (ne_eqb count 0 some)
      ∙ sym (ap (λ (b : Bool). when b then Listing Full else others) (ne_eqb count 0 some))
    where
      others : Choice
      others =
          when ltb 1 count then Refused WrongArgument
          else when says full_word argument then Listing Full
          else when says light_word argument then Listing Light
          else Refused WrongArgument

  -- whoever relied on none gets the same by naming `full`
  pub full-for-none : ChooseGives full_word 1 r → r ≡ choice_before 0 argument
  unfolding choice_before
  full-for-none c = the-word-full r c

-- ================ THE LISTINGS, for every log

-- what `write_listing` may give and leave, called as the program calls it: with the profile that `choose` gives for the arguments
abbrev pub AskedFor : ℕ → List ℕ → List ℕ → List ℕ → Listed → List ℕ → Type 0
AskedFor count argument log before r after =
    (p : Profile) × ChooseGives argument count (Listing p) × WriteListingGives log p before r after

-- a choice has one profile
same-profile : (p q : Profile) → Listing p ≡ Listing q → p ≡ q
same-profile p q e = cc

module _ (log before : List ℕ) (r : Listed) (after : List ℕ) where
  -- the listing in a profile, whole: what is given, and what the buffer holds
  abbrev ListedIn : Profile → Type 0
  ListedIn p = (r ≡ listed_of log p (length before)) × (after ≡ listing_after log p before)

  listed_in : (count : ℕ) (argument : List ℕ) (q : Profile) → choice_of count argument ≡ Listing q
      → AskedFor count argument log before r after → ListedIn q
  listed_in count argument q e c =
      let same : c.0 ≡ q = same-profile c.0 q (choose-said argument count (Listing c.0) c.1 ∙ e) in
      let h = write-listing-said log c.0 before r after c.2 in (
        h.0 ∙ ap (λ (p : Profile). listed_of log p (length before)) same,
        h.1 ∙ ap (λ (p : Profile). listing_after log p before) same,
      )

  in-full : AskedFor 1 full_word log before r after → ListedIn Full
  unfolding choice_of opens_with ◌and◌
  in-full = listed_in 1 full_word Full refl

  in-light : AskedFor 1 light_word log before r after → ListedIn Light
  unfolding choice_of opens_with ◌and◌
  in-light = listed_in 1 light_word Light refl

  in-default : (argument : List ℕ) → AskedFor 0 argument log before r after → ListedIn Light
  unfolding choice_of
  in-default argument = listed_in 0 argument Light refl

  -- the program's buffer has room for any listing, and it writes out as many bytes as it is given
  module _ (room : longest_listing log ≤ length before) where
    written : (p : Profile) → ListedIn p → take r.length after ≡ listing_of log p
    unfolding listed_of listing_after
    written p h =
        let enough = le-ltb (length before) (longest_listing log) room in
        let given : r.length ≡ length (listing_of log p) =
        ap (λ (x : Listed). x.length) h.0 ∙ ap (λ (b : Bool). (when b then too_small else whole p).length) enough in
        let held : after ≡ listing_of log p ++ drop (length (listing_of log p)) before =
        h.1 ∙ ap (λ (b : Bool). when b then before else listing_of log p ++ drop (length (listing_of log p)) before) enough in
        (λ i. take (given i) (held i)) ∙ take-append_seam (listing_of log p) (drop (length (listing_of log p)) before)
      where
        too_small : Listed
        too_small = record { answer = BufferTooSmall; length = 0 }

        whole : Profile → Listed
        whole q = record { answer = (log_of log).answer; length = length (listing_of log q) }

    pub full-listing : AskedFor 1 full_word log before r after → take r.length after ≡ listing_of log Full
    full-listing c = written Full (in-full c)

    pub default-listing : (argument : List ℕ) → AskedFor 0 argument log before r after → take r.length after ≡ listing_of log Light
    default-listing argument c = written Light (in-default argument c)

-- in every buffer, without an argument and with `light`
pub default-is-light : (log before : List ℕ) (r s : Listed) (after left : List ℕ) (argument : List ℕ)
    → AskedFor 0 argument log before r after → AskedFor 1 light_word log before s left → (r ≡ s) × (after ≡ left)
default-is-light log before r s after left argument c d =
    let h = in-default log before r after argument c in
    let k = in-light log before s left d in (h.0 ∙ sym k.0, h.1 ∙ sym k.1)

-- ================ THE LOG L

module _ (before : List ℕ) (room : longest_listing file ≤ length before) (r : Listed) (after : List ℕ) where
  pub full-of-L : AskedFor 1 full_word file before r after → take r.length after ≡ printed
  full-of-L c = full-listing file before r after room c ∙ listing-of-L.0

  pub default-of-L : (argument : List ℕ) → AskedFor 0 argument file before r after → take r.length after ≡ printed_light
  default-of-L argument c = default-listing file before r after room argument c ∙ listing-of-L.1
