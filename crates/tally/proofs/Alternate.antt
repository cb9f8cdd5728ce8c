-- One place of the pass for alternate precedence: at a repeat it looks back, at a first e of a trace it goes by what was seen. Assumes
-- nothing.
use mathlib.Core.Path.{◌≡◌, refl, sym, ap, ◌∙◌}
use mathlib.Core.Bool.{Bool, true, false}
use mathlib.Core.List.{List, [], reverse_aux}
use Prim.Native.Nat.{ℕ, ◌<◌}
use lib.Dec.{T}
use Rattle.sets.specs.Tests.{◌and◌, ◌or◌, non, when◌then◌else◌}
use Rattle.sets.specs.Members.{width, mem, those, is_empty}
use Rattle.sets.specs.Rows.{row_at}
use Rattle.sets.specs.Tables.{table_at, with_row_in, gained_in}
use Rattle.sets.specs.declared.set.Set.{Set}
use Rattle.sets.proofs.Tests.{true→T, T-eq, true-and}
use Rattle.sets.proofs.Tautologies.{by3}
use Rattle.sets.proofs.Ways.{taken, passed-by}
use Rattle.sets.proofs.Members.{those-ext, empty-e}
use Rattle.sets.proofs.MadeSets.{is-those}
use Rattle.sets.proofs.TableLaws.{put_back}
use Rattle.rules.specs.Traces.{◌has◌}
use Rattle.tally.specs.Passes.{noted_in, not_since, reaches, cut}
use Rattle.tally.specs.Tallies.{unalternated_table, note_past_in, past_by, since_by, place_by}
use Rattle.tally.proofs.Turns.{held_in, last_in, not-held, noted-where, noted-by, held_of, where-held, past_is}
use Rattle.tally.proofs.LookBack.{since, since-all}

-- a row that has all gains nothing
gains-none : (a g b : Bool) → (T (g and non a) → ⊥) → (a or (g and b)) ≡ a
unfolding ◌and◌ ◌or◌ non
gains-none true g b h = refl
gains-none false true b h = absurd (h tt)
gains-none false false b h = refl

module _ (wide : Bool) (tables : List ℕ) (e : ℕ) (σ : List ℕ) (seen : Set) where
  abbrev old : ℕ → Bool
  old x = mem (row_at (table_at tables unalternated_table) e) x

  abbrev unmet : ℕ → Bool
  unmet x = not_since e (reverse_aux σ []) [] x

  abbrev choice : Bool → ℕ → Bool
  choice again x = reaches wide x and (when again then unmet x else non (mem seen x))

  -- what the form holds of what the row lacks
  module _ (row lacked wanted : Set) (hrow : row ≡ row_at (table_at tables unalternated_table) e) (hk : lacked ≡ those (λ x. non (mem row x)))
      (hw : wanted ≡ those (λ x. reaches wide x and mem lacked x)) where
    wanted-is : (x : ℕ) → x < width → mem wanted x ≡ (reaches wide x and non (old x))
    wanted-is x l = held_of wide lacked wanted _ (is-those lacked _ hk) hw x l ∙ ap (λ (s : Set). reaches wide x and non (mem s x)) hrow

    pub note-full : (r : Bool) → those (mem row) ≡ row → r ≡ is_empty wanted → r ≡ true → tables ≡ since_by wide tables e σ seen
    unfolding since_by noted_in
    note-full r whole hr ht =
        sym (ap (with_row_in tables unalternated_table e) (those-ext _ old
        (λ x l. gains-none (old x) (reaches wide x) _ (λ t. empty-e wanted (true→T (sym hr ∙ ht)) x l (T-eq (sym (wanted-is x l)) t)))
        ∙ (rw hrow at whole)) ∙ put_back tables unalternated_table e)

    -- a repeat
    pub note-repeat : (r : Bool) (left : Set) (out : List ℕ) → r ≡ mem seen e → r ≡ true → left ≡ those (λ x. mem wanted x and unmet x)
        → out ≡ gained_in tables unalternated_table e left → out ≡ since_by wide tables e σ seen
    unfolding since_by noted_in
    note-repeat r left out hr ht hl h =
        h
        ∙ ap (with_row_in tables unalternated_table e) (those-ext _ _ (λ x l.
        ap (λ (b : Bool). old x or b) (is-those left _ hl x l ∙ ap (λ (b : Bool). b and unmet x) (wanted-is x l))
        ∙ by3 (λ a r n. a or (r and non a and n)) (λ a r n. a or (r and n)) (unfold ◌and◌ ◌or◌ non in tt) (old x) (reaches wide x) (unmet x)
        ∙ ap (λ (t : Bool). old x or choice t x) (sym ht ∙ hr)))

  -- the first in its trace
  pub note-first : (r : Bool) (unseen others : Set) (out : List ℕ) → r ≡ mem seen e → r ≡ false → unseen ≡ those (λ x. non (mem seen x))
      → others ≡ those (λ x. reaches wide x and mem unseen x) → out ≡ gained_in tables unalternated_table e others → out ≡ since_by wide tables e σ seen
  unfolding since_by
  note-first r unseen others out hr ht hu ho h =
      noted-by tables unalternated_table e others _ out
      (λ x l. held_of wide unseen others _ (is-those unseen _ hu) ho x l ∙ ap (λ (t : Bool). choice t x) (sym ht ∙ hr)) h

-- either way the row gains the fact of the place
module _ (wide : Bool) (tables : List ℕ) (e : ℕ) (σ rest : List ℕ) (seen : Set) (hs : seen ≡ held_in wide (reverse_aux σ [])) where
  abbrev past : List ℕ
  past = reverse_aux σ []

  member : (x : ℕ) → x < width → mem seen x ≡ (reaches wide x and past has x)
  member = is-those seen (λ y. reaches wide y and past has y) hs

  module _ (he : reaches wide e ≡ true) where
    pick : (x : ℕ) → x < width → e < width → (t : Bool) → mem seen e ≡ t
        → (reaches wide x and (when t then non (since e x [] past) else non (mem seen x))) ≡ (reaches wide x and non (since e x [] past))
    pick x lx l true q = refl
    pick x lx l false q =
        let first : past has e ≡ false = sym (true-and _) ∙ ap (λ (t : Bool). t and past has e) (sym he) ∙ sym (member e l) ∙ q in
        ap (λ (t : Bool). reaches wide x and non t) (member x lx)
        ∙ not-held (reaches wide x) (past has x)
        ∙ ap (λ (t : Bool). reaches wide x and non t) (sym (since-all e x past first))

    since-is : (t : List ℕ) → since_by wide t e σ seen ≡ noted_in t unalternated_table e (cut wide not_since e past rest)
    unfolding since_by cut not_since
    since-is t = noted-where t unalternated_table e _ _ (λ l x lx. pick x lx l (mem seen e) refl)

  pub place_is : (last : Set) → last ≡ last_in past → place_by wide tables e σ seen last ≡ note_past_in wide tables e past rest
  unfolding place_by note_past_in
  place_is last hl =
      where-held _ _ tables (reaches wide e)
      (λ he. since-is he (past_by wide tables e seen last)
      ∙ ap (λ (t : List ℕ). noted_in t unalternated_table e (cut wide not_since e past rest)) (past_is wide tables e past rest seen last hs hl))

-- what a place puts down, one after the other; nothing where the form does not hold it
module _ (wide : Bool) (t : List ℕ) (e : ℕ) (past : List ℕ) (seen last : Set) where
  pub place-put : (one out : List ℕ) → reaches wide e ≡ true → one ≡ past_by wide t e seen last → out ≡ since_by wide one e past seen
      → out ≡ place_by wide t e past seen last
  unfolding place_by
  place-put one out h h1 h2 = taken (reaches wide e) _ t out (sym h) (h2 ∙ ap (λ (x : List ℕ). since_by wide x e past seen) h1)

  pub place-left : reaches wide e ≡ false → t ≡ place_by wide t e past seen last
  unfolding place_by
  place-left h = passed-by (reaches wide e) _ t t (sym h) refl
