-- What a tally gives, as bytes: row by row, and the ways out. Assumes nothing.
use mathlib.Core.Path.{◌≡◌, refl, sym, ap, ap₂, ◌∙◌}
use mathlib.Core.Bool.{Bool, true, false}
use mathlib.Core.List.{List, ◌∷◌, ◌++◌, append-nil}
use Prim.Native.Nat.{ℕ, ◌+◌, ◌*◌, ◌≤◌, ◌<◌}
use native.Mathlib.Omega.{arith}
use borrow.Author.Tests.{lt-ltb, le-ltb, eqb-true}
use lib.Dec.{ltb}
use lib.ListN.{length, take, drop, set, length-set, length-append, length-drop, take-append-drop}
use lib.Seq.{sets-eq, length-take-le, take_at, drop_at, drop-drop, drop-set-lt, take-suc-set}
use Rattle.sets.specs.Tests.{when◌then◌else◌}
use Rattle.sets.specs.Answers.{number_of, is_done, then_ask}
use Rattle.sets.specs.declared.set.Set.{Set}
use Rattle.sets.specs.declared.answer.Answer.{Answer}
use Rattle.sets.specs.declared.answer.Answer.TheVariants.{Done, BufferTooSmall}
use Rattle.octets.specs.Sets.{set_length, set_bytes, set_put}
use Rattle.octets.proofs.SetLaws.{length-put, put-there, length-set as set_long}
use Rattle.engine.specs.Relations.{relation_count}
use Rattle.rules.specs.declared.Profile.{Profile}
use Rattle.months.specs.declared.reading.Known.{Known}
use Rattle.months.specs.Layout.{tally_width, sets_from}
use Rattle.months.specs.Months.{known_of}
use Rattle.months.proofs.Packed.{put-after, length_from}
use Rattle.port.specs.Tallies.{known_length, row_of_all, rows_bytes, known_bytes, relations_answer, relations_number, relations_buffer}

-- ---- the rows, one after another, behind A and the events

abbrev pub rows_to : List ℕ → List ℕ → ℕ → List ℕ
rows_to tables out i = take 9 out ++ sets_from i 0 (row_of_all tables) ++ drop (9 + set_length false * i) out

module _ (tables out : List ℕ) where
  pub rows-begin : out ≡ rows_to tables out 0
  unfolding sets_from
  rows-begin = sym (ap (λ (l : List ℕ). l ++ drop 9 out) (append-nil (take 9 out)) ∙ take-append-drop 9 out)

  pub rows_next : (i : ℕ) (s : Set) (held held' : List ℕ) → known_length ≤ length out → i < relation_count * tally_width → s ≡ row_of_all tables i
      → held ≡ rows_to tables out i → held' ≡ set_put false held (9 + set_length false * i) s → held' ≡ rows_to tables out (i + 1)
  rows_next i s held held' long l hs h p =
      put-after (take 9 out) 9 i (row_of_all tables) held held' out (length-take-le 9 out (omega arith)) (omega arith) h
      (p ∙ ap (set_put false held (9 + set_length false * i)) hs)

  pub rows_long : (i : ℕ) (s : Set) (held held' : List ℕ) → held' ≡ set_put false held (9 + set_length false * i) s → length held ≡ length out
      → length held' ≡ length out
  rows_long i s held held' p e = ap length p ∙ length-put false held (9 + set_length false * i) s ∙ e

  pub rows-finish : (i : ℕ) (held : List ℕ) → relation_count * tally_width ≤ i → i ≤ relation_count * tally_width → held ≡ rows_to tables out i
      → held ≡ take 9 out ++ rows_bytes tables ++ drop known_length out
  rows-finish i held g l h = let same : i ≡ relation_count * tally_width = omega arith in h ∙ ap (rows_to tables out) same

-- ---- A and the events before them

pub known-put : (k : Known) (t t₁ t₂ t₃ : List ℕ) → known_length ≤ length t → t₁ ≡ set t 0 k.activities → t₂ ≡ set_put false t₁ 1 k.events
    → t₃ ≡ take 9 t₂ ++ rows_bytes k.relations ++ drop known_length t₂ → t₃ ≡ known_bytes k ++ drop known_length t
unfolding known_bytes
known-put k t t₁ t₂ t₃ long h₁ h₂ h₃ =
    let first : List ℕ = k.activities ∷ set_bytes false k.events in
    let nine : length first ≡ 9 = omega (arith, set_long false k.events) in
    let long₁ = length-set t 0 k.activities in
    let stored : t₂ ≡ first ++ drop 9 (set t 0 k.activities) =
    h₂ ∙ ap (λ (l : List ℕ). set_put false l 1 k.events) h₁
    ∙ put-there false (set t 0 k.activities) 1 k.events (omega arith)
    ∙ sets-eq (set_bytes false k.events) (set t 0 k.activities) 1 (omega (arith, set_long false k.events))
    ∙ ap₂ (λ (x : List ℕ) (n : ℕ). x ++ set_bytes false k.events ++ drop (1 + n) (set t 0 k.activities))
    (take-suc-set t 0 k.activities (omega arith)) (set_long false k.events) in
    h₃
    ∙ ap₂ (λ (x y : List ℕ). x ++ rows_bytes k.relations ++ y)
    (ap (take 9) stored ∙ take_at first (drop 9 (set t 0 k.activities)) 9 nine)
    (sym (drop-drop 2048 9 t₂) ∙ ap (λ (l : List ℕ). drop 2048 (drop 9 l)) stored
    ∙ ap (drop 2048) (drop_at first (drop 9 (set t 0 k.activities)) 9 nine)
    ∙ drop-drop 2048 9 (set t 0 k.activities)
    ∙ drop-set-lt known_length t 0 k.activities (omega arith))

known-long : (t t₂ : List ℕ) (A : ℕ) (s : Set) → t₂ ≡ set_put false (set t 0 A) 1 s → length t₂ ≡ length t
known-long t t₂ A s h = ap length h ∙ length-put false (set t 0 A) 1 s ∙ length-set t 0 A

pub known-room : (t t₂ : List ℕ) (A : ℕ) (s : Set) → known_length ≤ length t → t₂ ≡ set_put false (set t 0 A) 1 s → known_length ≤ length t₂
known-room t t₂ A s l h = omega (arith, known-long t t₂ A s h)

pub known_same : (k : Known) (t out : List ℕ) → known_length ≤ length t → out ≡ known_bytes k ++ drop known_length t → length out ≡ length t
unfolding known_bytes
known_same k t out l h =
    ap length h
    ∙ length-append (k.activities ∷ (set_bytes false k.events ++ rows_bytes k.relations)) (drop known_length t)
    ∙ omega (
      arith,
      length-append (set_bytes false k.events) (rows_bytes k.relations),
      set_long false k.events,
      length_from (relation_count * tally_width) 0 (row_of_all k.relations),
      length-drop known_length t,
    )

-- ---- the ways out

module _ (t out : List ℕ) (p : Profile) (k : Known) (hk : k ≡ known_of t p) (r : Bool) (hr : r ≡ is_done k.answer) where
  stays : (a : Answer) (n : ℕ) → relations_answer t p (length out) ≡ a → is_done a ≡ false → n ≡ number_of a
      → (n ≡ relations_number t (length out) p) × (out ≡ relations_buffer t p out)
  unfolding relations_buffer
  stays a n h k e = (
    e ∙ ap number_of (sym h),
    sym (ap (λ (b : Bool). when b then known_bytes (known_of t p) ++ drop known_length out else out) (ap is_done h ∙ k)),
  )

  pub read-refused : (n : ℕ) → r ≡ false → n ≡ number_of k.answer
      → (n ≡ relations_number t (length out) p) × (out ≡ relations_buffer t p out)
  unfolding relations_answer
  read-refused n y e =
      let no : is_done k.answer ≡ false = sym hr ∙ y in
      stays k.answer n
      (ap (λ (x : Known). then_ask x.answer (when ltb (length out) known_length then BufferTooSmall else Done)) (sym hk)
      ∙ ap (λ (b : Bool). when b then (when ltb (length out) known_length then BufferTooSmall else Done) else k.answer) no) no e

  module _ (y : r ≡ true) where
    then-room : relations_answer t p (length out) ≡ (when ltb (length out) known_length then BufferTooSmall else Done)
    unfolding relations_answer
    then-room =
        ap (λ (x : Known). then_ask x.answer (when ltb (length out) known_length then BufferTooSmall else Done)) (sym hk)
        ∙ ap (λ (b : Bool). when b then (when ltb (length out) known_length then BufferTooSmall else Done) else k.answer) (sym hr ∙ y)

    pub read-few : (n : ℕ) → length out < known_length → n ≡ number_of BufferTooSmall
        → (n ≡ relations_number t (length out) p) × (out ≡ relations_buffer t p out)
    read-few n l e =
        stays BufferTooSmall n (then-room ∙ ap (λ (b : Bool). when b then BufferTooSmall else Done) (lt-ltb (length out) known_length l)) refl e

    pub read_done : (n : ℕ) (out' : List ℕ) → known_length ≤ length out → n ≡ number_of k.answer → out' ≡ known_bytes k ++ drop known_length out
        → (n ≡ relations_number t (length out) p) × (out' ≡ relations_buffer t p out)
    unfolding relations_buffer
    read_done n out' l e h =
        let answer = then-room ∙ ap (λ (b : Bool). when b then BufferTooSmall else Done) (le-ltb (length out) known_length l) in
        let zero : number_of k.answer ≡ 0 = eqb-true (number_of k.answer) 0 (sym hr ∙ y) in (
          e ∙ zero ∙ ap number_of (sym answer),
          h ∙ ap (λ (x : Known). known_bytes x ++ drop known_length out) hk
              ∙ sym (ap (λ (b : Bool). when b then known_bytes (known_of t p) ++ drop known_length out else out) (ap is_done answer)),
        )
