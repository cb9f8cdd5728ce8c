-- Runs of stores: a part of the file, then the next, is both parts. Assumes nothing.
use mathlib.Core.Path.{◌≡◌, refl, sym, ap, ◌∙◌}
use mathlib.Core.Bool.{Bool, true, false}
use mathlib.Core.List.{List, [], ◌∷◌, ◌++◌}
use Prim.Native.Nat.{ℕ, zero, suc, ◌+◌, ◌*◌, ◌≤◌, ◌<◌}
use native.Mathlib.Nat.{zero-add}
use native.Mathlib.Numerals.{add-one}
use native.Mathlib.Omega.{arith}
use lib.ListN.{length, length-append}
use lib.Seq.{sets, length-sets}
use Rattle.sets.specs.Tests.{when◌then◌else◌}
use Rattle.sets.specs.Members.{is_empty}
use Rattle.sets.specs.Rows.{row_at}
use Rattle.sets.specs.Tables.{table_at}
use Rattle.sets.specs.declared.set.Set.{Set}
use Rattle.engine.specs.declared.marking.State.{State}
use Rattle.engine.specs.declared.graph.Head.{Head}
use Rattle.engine.specs.declared.graph.Graph.{Graph}
use Rattle.engine.specs.Relations.{relation_count}
use Rattle.octets.specs.Numbers.{little_endian, number_length, number_put}
use Rattle.octets.specs.Sets.{set_length, set_bytes, set_put}
use Rattle.octets.proofs.Codec.{length-number}
use Rattle.octets.proofs.Parts.{follow}
use Rattle.octets.proofs.NumberLaws.{number-stored, number-kept}
use Rattle.octets.proofs.SetLaws.{length-set, set-stored, set-kept}
use Rattle.graphfile.specs.Layout.{letters, events_place, state_length, entries_place, entry_length, head_length, rows_length, sum_of}
use Rattle.graphfile.specs.Refusals.{most_rows}
use Rattle.graphfile.specs.Writing.{row_of, rows_for, rows_from, count_from, row_count, AreCounts, total_of, rows_before, entry_bytes, entries_for, entries_bytes}
use Rattle.graphfile.specs.declared.counts.Counts.{Counts}
use Rattle.graphfile.specs.Writing.{state_bytes, head_bytes, relation_bytes, relations_bytes, bytes_by}
use Rattle.octets.specs.Editions.{edition_for}
use Rattle.graphfile.proofs.RowLengths.{rows_none, rows-one, rows-add, rows-le}
use Rattle.graphfile.proofs.Places.{sum_room}

-- ---- how long each part is

pub length-state : (wide : Bool) (m : State) → length (state_bytes wide m) ≡ state_length wide
unfolding state_bytes
length-state wide m = simp length-append (omega (arith, length-set wide m.executed, length-set wide m.pending, length-set wide m.included))

pub length-head : (wide : Bool) (h : Head) → length (head_bytes wide h) ≡ entries_place wide
unfolding head_bytes
length-head wide h = simp length-append (omega (arith, length-set wide h.events, length-state wide h.opening.state))

length-entry : (wide : Bool) (earlier count : ℕ) → length (entry_bytes wide earlier count) ≡ entry_length
unfolding little_endian
length-entry wide earlier count = refl

pub length-entries : (wide : Bool) (tables : List ℕ) (r : ℕ) → length (entries_bytes wide tables r) ≡ entry_length * r
unfolding entries_bytes
length-entries wide tables zero = refl
length-entries wide tables (suc r) =
    length-append (entries_bytes wide tables r) (entry_bytes wide (rows_before wide tables r) (row_count wide (table_at tables r)))
    ∙ omega (arith, length-entries wide tables r, length-entry wide (rows_before wide tables r) (row_count wide (table_at tables r)))

pub length-row : (wide : Bool) (a : ℕ) (s : Set) → length (row_of wide a s) ≡ rows_length wide (rows_for s)
unfolding row_of rows_for
length-row wide a s = by (is_empty s)
  where
    by : (b : Bool) → length (when b then [] else a ∷ set_bytes wide s) ≡ rows_length wide (when b then 0 else 1)
    by true = sym (rows_none wide)
    by false = omega (arith, length-set wide s, rows-one wide)

pub length-rows : (wide : Bool) (rows : List ℕ) (n a : ℕ) → length (rows_from wide rows n a) ≡ rows_length wide (count_from rows n a)
unfolding rows_from count_from
length-rows wide rows zero a = sym (rows_none wide)
length-rows wide rows (suc n) a =
    length-append (row_of wide a (row_at rows a)) (rows_from wide rows n (suc a))
    ∙ omega (arith, length-row wide a (row_at rows a), length-rows wide rows n (suc a), rows-add wide (rows_for (row_at rows a)) (count_from rows n (suc a)))

pub length-relations : (wide : Bool) (tables : List ℕ) (r : ℕ) → length (relations_bytes wide tables r) ≡ rows_length wide (rows_before wide tables r)
unfolding relations_bytes sum_of
length-relations wide tables zero = sym (rows_none wide)
length-relations wide tables (suc r) =
    length-append (relations_bytes wide tables r) (relation_bytes wide (table_at tables r))
    ∙ omega (
      arith,
      length-relations wide tables r,
      length-rows wide (table_at tables r) (most_rows wide) 0,
      rows-add wide (rows_before wide tables r) (row_count wide (table_at tables r)),
    )

pub length-file : (wide : Bool) (g : Graph) → length (bytes_by wide g) ≡ head_length wide + rows_length wide (rows_before wide g.relations relation_count)
unfolding bytes_by
length-file wide g =
    simp length-append
    (omega (
      arith,
      length-head wide g.head,
      length-entries wide g.relations relation_count,
      length-relations wide g.relations relation_count,
    ))

-- ---- part after part

pub entry-stored : (wide : Bool) (out mid end : List ℕ) (at earlier count long : ℕ) → at + entry_length ≤ length out → long ≡ rows_length wide earlier
    → mid ≡ number_put out at long → end ≡ number_put mid (at + number_length) count → end ≡ sets out at (entry_bytes wide earlier count)
entry-stored wide out mid end at earlier count long room hl e f =
    let kept = number-kept out mid at long e in
    follow out mid end (little_endian number_length long) _ at (at + number_length)
    (ap (λ (n : ℕ). at + n) (sym (length-number number_length long)))
    (number-stored out mid at long e (omega arith)) (number-stored mid end (at + number_length) count f (omega arith))
    ∙ ap (λ (n : ℕ). sets out at (little_endian number_length n ++ little_endian number_length count)) hl

-- three parts, each from the place where the one before it ends
module _ (o o₁ o₂ o₃ a b c : List ℕ) (p p₁ p₂ : ℕ) (e₁ : p₁ ≡ p + length a) (e₂ : p₂ ≡ p₁ + length b)
    (h₁ : o₁ ≡ sets o p a) (h₂ : o₂ ≡ sets o₁ p₁ b) (h₃ : o₃ ≡ sets o₂ p₂ c) where
  three : o₃ ≡ sets o p (a ++ b ++ c)
  three = follow o o₂ o₃ (a ++ b) c p p₂ (simp length-append (omega arith)) (follow o o₁ o₂ a b p p₁ e₁ h₁ h₂) h₃

module _ (wide : Bool) (o o₁ o₂ o₃ : List ℕ) where
  pub state-stored : (m : State) (at n : ℕ) → n ≡ set_length wide → at + state_length wide ≤ length o → o₁ ≡ set_put wide o at m.executed
      → o₂ ≡ set_put wide o₁ (at + n) m.pending → o₃ ≡ set_put wide o₂ (at + 2 * n) m.included → o₃ ≡ sets o at (state_bytes wide m)
  unfolding state_bytes
  state-stored m at n hn room h₁ h₂ h₃ =
      let kept = set-kept wide o o₁ at m.executed h₁ in
      let kept₂ = set-kept wide o₁ o₂ (at + n) m.pending h₂ in
      three o o₁ o₂ o₃ (set_bytes wide m.executed) (set_bytes wide m.pending) (set_bytes wide m.included) at (at + n) (at + 2 * n)
      (omega (arith, length-set wide m.executed)) (omega (arith, length-set wide m.pending))
      (set-stored wide o o₁ at m.executed h₁ (omega arith)) (set-stored wide o₁ o₂ (at + n) m.pending h₂ (omega arith))
      (set-stored wide o₂ o₃ (at + 2 * n) m.included h₃ (omega arith))

  pub head-stored : (h : Head) (n : ℕ) → n ≡ set_length wide → head_length wide ≤ length o
      → o₁ ≡ sets o 0 (letters ++ (edition_for h.activities ∷ h.activities ∷ [])) → o₂ ≡ set_put wide o₁ events_place h.events
      → o₃ ≡ sets o₂ (events_place + n) (state_bytes wide h.opening.state) → o₃ ≡ sets o 0 (head_bytes wide h)
  unfolding head_bytes
  head-stored h n hn room h₁ h₂ h₃ =
      let kept = ap length h₁ ∙ length-sets o 0 (letters ++ (edition_for h.activities ∷ h.activities ∷ [])) in
      three o o₁ o₂ o₃ (letters ++ (edition_for h.activities ∷ h.activities ∷ [])) (set_bytes wide h.events) (state_bytes wide h.opening.state)
      0 events_place (events_place + n)
      refl (omega (arith, length-set wide h.events)) h₁ (set-stored wide o₁ o₂ events_place h.events h₂ (omega arith)) h₃

  pub file-stored : (g : Graph) → o₁ ≡ sets o 0 (head_bytes wide g.head)
      → o₂ ≡ sets o₁ (entries_place wide) (entries_bytes wide g.relations relation_count)
      → o₃ ≡ sets o₂ (head_length wide) (relations_bytes wide g.relations relation_count) → o₃ ≡ sets o 0 (bytes_by wide g)
  unfolding bytes_by
  file-stored g h₁ h₂ h₃ =
      three o o₁ o₂ o₃ (head_bytes wide g.head) (entries_bytes wide g.relations relation_count) (relations_bytes wide g.relations relation_count)
      0 (entries_place wide) (head_length wide) (omega (arith, length-head wide g.head)) (omega (arith, length-entries wide g.relations relation_count))
      h₁ h₂ h₃

-- ---- the four entries

-- what is added up relation by relation is what the code counted
module _ (wide : Bool) (tables : List ℕ) (c : Counts) (are : AreCounts wide tables c) where
  abbrev first : ℕ
  first = row_count wide (table_at tables 0)

  -- the sum begins with nothing
  pub total-by : (n : ℕ) → n ≡ total_of c → n ≡ rows_before wide tables relation_count
  unfolding sum_of
  total-by n h =
      h ∙ (λ i. are.conditions i + are.responses i + are.includes i + are.excludes i)
      ∙ ap (λ (x : ℕ). x + row_count wide (table_at tables 1) + row_count wide (table_at tables 2) + row_count wide (table_at tables 3)) (sym (zero-add first))

  pub entries_by : (out out' : List ℕ) (at : ℕ) → out' ≡ sets out at (entries_for wide c) → out' ≡ sets out at (entries_bytes wide tables relation_count)
  unfolding entries_bytes sum_of
  entries_by out out' at h =
      h
      ∙ (λ i.
      sets out at
      (entry_bytes wide 0 (are.conditions i) ++ entry_bytes wide (are.conditions i) (are.responses i)
      ++ entry_bytes wide (are.conditions i + are.responses i) (are.includes i)
      ++ entry_bytes wide (are.conditions i + are.responses i + are.includes i) (are.excludes i)))
      ∙ ap
      (λ (x : ℕ).
      sets out at
      (entry_bytes wide 0 first ++ entry_bytes wide x (row_count wide (table_at tables 1))
      ++ entry_bytes wide (x + row_count wide (table_at tables 1)) (row_count wide (table_at tables 2))
      ++ entry_bytes wide (x + row_count wide (table_at tables 1) + row_count wide (table_at tables 2)) (row_count wide (table_at tables 3))))
      (sym (zero-add first))

pub entries-stored : (wide : Bool) (c : Counts) (o o₁ o₂ o₃ o₄ : List ℕ) (at : ℕ) → at ≡ entries_place wide
    → o₁ ≡ sets o at (entry_bytes wide 0 c.conditions)
    → o₂ ≡ sets o₁ (at + 4) (entry_bytes wide c.conditions c.responses)
    → o₃ ≡ sets o₂ (at + 8) (entry_bytes wide (c.conditions + c.responses) c.includes)
    → o₄ ≡ sets o₃ (at + 12) (entry_bytes wide (c.conditions + c.responses + c.includes) c.excludes)
    → o₄ ≡ sets o (entries_place wide) (entries_for wide c)
entries-stored wide c o o₁ o₂ o₃ o₄ at hp h₁ h₂ h₃ h₄ =
    let first = entry_bytes wide 0 c.conditions in
    let second = entry_bytes wide c.conditions c.responses in
    let third = entry_bytes wide (c.conditions + c.responses) c.includes in
    follow o o₃ o₄ (first ++ second ++ third) _ at (at + 12) (simp (length-append, length-number) (omega arith))
    (three o o₁ o₂ o₃ first second third at (at + 4) (at + 8) (omega (arith, length-entry wide 0 c.conditions))
    (omega (arith, length-entry wide c.conditions c.responses)) h₁ h₂ h₃) h₄
    ∙ ap (λ (p : ℕ). sets o p (entries_for wide c)) hp

-- ---- relation after relation

module _ (wide : Bool) (tables : List ℕ) (out₀ : List ℕ) where
  pub relations-none : out₀ ≡ sets out₀ (head_length wide) (relations_bytes wide tables 0)
  unfolding relations_bytes
  relations-none = refl

  module _ (out : List ℕ) (r : ℕ) where
    module _ (next : ℕ) (place : next ≡ head_length wide + rows_length wide (rows_before wide tables r)) where
      pub relation-room : r < relation_count → head_length wide + rows_length wide (rows_before wide tables relation_count) ≤ length out₀
          → length out ≡ length out₀ → next + rows_length wide (row_count wide (table_at tables r)) ≤ length out
      relation-room l room same =
          let all = sum_room (λ k. row_count wide (table_at tables k)) r relation_count l in
          omega (
            arith,
            rows-add wide (rows_before wide tables r) (row_count wide (table_at tables r)),
            rows-le wide (rows_before wide tables r + row_count wide (table_at tables r)) (rows_before wide tables relation_count) all,
          )

      pub place-turn : (next' : ℕ) → next' ≡ next + rows_length wide (row_count wide (table_at tables r))
          → next' ≡ head_length wide + rows_length wide (rows_before wide tables (r + 1))
      unfolding sum_of
      place-turn next' e =
          let more : next' ≡ head_length wide + rows_length wide (rows_before wide tables (suc r)) =
          omega (arith, rows-add wide (rows_before wide tables r) (row_count wide (table_at tables r))) in
          more ∙ ap (λ (n : ℕ). head_length wide + rows_length wide (rows_before wide tables n)) (sym (add-one r))

      pub relations-turn : (out' : List ℕ) → out ≡ sets out₀ (head_length wide) (relations_bytes wide tables r)
          → out' ≡ sets out next (relation_bytes wide (table_at tables r)) → out' ≡ sets out₀ (head_length wide) (relations_bytes wide tables (r + 1))
      unfolding relations_bytes
      relations-turn out' h s =
          follow out₀ out out' (relations_bytes wide tables r) _ (head_length wide) next
          (place ∙ ap (λ (n : ℕ). head_length wide + n) (sym (length-relations wide tables r))) h s
          ∙ ap (λ (n : ℕ). sets out₀ (head_length wide) (relations_bytes wide tables n)) (sym (add-one r))

    pub relations-all : r ≤ relation_count → relation_count ≤ r → out ≡ sets out₀ (head_length wide) (relations_bytes wide tables r)
        → out ≡ sets out₀ (head_length wide) (relations_bytes wide tables relation_count)
    relations-all a b h =
        let same : r ≡ relation_count = omega arith in h ∙ ap (λ (n : ℕ). sets out₀ (head_length wide) (relations_bytes wide tables n)) same

pub first-place : (wide : Bool) (tables : List ℕ) (n : ℕ) → n ≡ head_length wide → n ≡ head_length wide + rows_length wide (rows_before wide tables 0)
unfolding sum_of
first-place wide tables n e = omega (arith, rows_none wide)

pub ruleset each-relation = (first-place, relations-none, relation-room, place-turn, relations-turn, relations-all)
