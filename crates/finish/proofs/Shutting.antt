-- What shut a step out, one event further. Assumes nothing.
use mathlib.Core.Path.{◌≡◌, sym, ap, ap₂, ◌∙◌}
use mathlib.Core.Bool.{Bool, true, false}
use mathlib.Core.List.{List}
use Prim.Native.Nat.{ℕ, suc, ◌+◌, ◌≤◌, ◌<◌}
use native.Mathlib.Numerals.{add-one}
use lib.ListN.{length, get_or, drop, drop_of_length-le}
use lib.Seq.{drop-cons}
use Rattle.sets.specs.Tests.{when◌then◌else◌}
use Rattle.sets.specs.Members.{mem}
use Rattle.sets.specs.Rows.{row_at, in_row}
use Rattle.sets.specs.Tables.{table_at}
use Rattle.sets.specs.declared.set.Set.{Set}
use Rattle.engine.specs.Relations.{Relations, in_tables}
use Rattle.finish.specs.Shut.{nothing, shut_after, shut_from}

-- ---- one event

pub pair-of_lem : (tables : List ℕ) (k e a : ℕ) (s : Set) (t : Bool) → s ≡ row_at (table_at tables k) e → t ≡ mem s a
    → t ≡ in_row (table_at tables k) e a
unfolding in_row
pair-of_lem tables k e a s t hs ht = ht ∙ ap (λ (u : Set). mem u a) hs

module _ (tables : List ℕ) (a last e : ℕ) (t : Bool) (lets : t ≡ in_row (table_at tables 2) e a) where
  abbrev told : Bool → Bool → ℕ
  told l s = when l then nothing else when s then e else last

  pub let-in_lem : t ≡ true → nothing ≡ shut_after (in_tables tables) a last e
  unfolding shut_after
  let-in_lem y = ap (λ (b : Bool). told b (in_row (table_at tables 3) e a)) (sym y ∙ lets)

  module _ (v : Bool) (n : t ≡ false) (shuts : v ≡ in_row (table_at tables 3) e a) where
    both : (x : Bool) → v ≡ x → told false x ≡ shut_after (in_tables tables) a last e
    unfolding shut_after
    both x h = ap₂ told (sym n ∙ lets) (sym h ∙ shuts)

    pub shut_out : v ≡ true → e ≡ shut_after (in_tables tables) a last e
    shut_out y = both true y

    pub as_it_was : v ≡ false → last ≡ shut_after (in_tables tables) a last e
    as_it_was y = both false y

pub ruleset shutting = (let-in_lem, shut_out, as_it_was)

-- ---- the walk

module _ (r : Relations) (a last n : ℕ) (trace : List ℕ) (R : ℕ) where
  pub shut-next : (last' : ℕ) → n < length trace → last' ≡ shut_after r a last (get_or trace n 0) → shut_from r a last (drop n trace) ≡ R
      → shut_from r a last' (drop (n + 1) trace) ≡ R
  unfolding shut_from
  shut-next last' l h inv =
      ap (λ (k : ℕ). shut_from r a last' (drop k trace)) (add-one n)
      ∙ ap (λ (k : ℕ). shut_from r a k (drop (suc n) trace)) h
      ∙ ap (shut_from r a last) (sym (drop-cons trace n 0 l))
      ∙ inv

  pub shut-end : length trace ≤ n → shut_from r a last (drop n trace) ≡ R → last ≡ R
  unfolding shut_from
  shut-end l inv = ap (shut_from r a last) (sym (drop_of_length-le trace l)) ∙ inv
