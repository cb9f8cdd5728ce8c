-- The call at a place of a table that is held, and how what is asked of it goes. Assumes nothing.
use mathlib.Core.Path.{◌≡◌, refl, sym, ap, subst, ◌∙◌}
use mathlib.Core.Bool.{Bool, true, false}
use mathlib.Core.List.{List}
use Prim.Native.Nat.{ℕ, ◌≤◌, ◌<◌}
use borrow.Author.Tests.{lt-ltb, le-ltb, ltb-true}
use lib.Dec.{ltb}
use lib.ListN.{length}
use Rattle.std.specs.Prelude.{Option, None, Some}
use Rattle.std.specs.Bool.{then_some}
use Rattle.sets.specs.Tests.{non, when◌then◌else◌}
use Rattle.sets.specs.Answers.{is_done}
use Rattle.sets.specs.declared.answer.Answer.{Answer}
use Rattle.sets.specs.declared.answer.Answer.TheVariants.{Done, BufferTooSmall, NoPlaceFree, NotOpen}
use Rattle.sets.proofs.Tests.{true→T}
use Rattle.sets.proofs.Asking.{done-is, refused, passed}
use Rattle.engine.specs.Judged.{judged}
use Rattle.engine.specs.declared.marking.Marking.{Marking}
use Rattle.engine.specs.declared.graph.Graph.{Graph}
use Rattle.desk.specs.Places.{place_count, table_length, is_open, marking_at_place, lowest_free, free_place}
use Rattle.desk.specs.Desk.{on_table, at_place, opening}
use Rattle.desk.proofs.Placing.{open-below, all-taken}

none-then : {A : Type 0} (t : Bool) (x : A) → None ≡ then_some t x → t ≡ false
none-then true x e = cc
none-then false x e = refl

some-then : {A : Type 0} (t : Bool) (x y : A) → Some y ≡ then_some t x → (t ≡ true) × (y ≡ x)
some-then true x y e = (refl, cc)
some-then false x y e = cc

-- ---- too few bytes, a place with no call, a call; of answers and of what else has such a shape

module _ {A : Type 0} (wide : Bool) (table : List ℕ) (short : A) where
  pub too-short : (y : A) → length table < table_length wide → short ≡ when ltb (length table) (table_length wide) then short else y
  too-short y l = ap (λ (t : Bool). when t then short else y) (sym (lt-ltb (length table) (table_length wide) l))

  pub long-enough : (y z : A) → table_length wide ≤ length table → z ≡ y → z ≡ when ltb (length table) (table_length wide) then short else y
  long-enough y z l e = e ∙ ap (λ (t : Bool). when t then short else y) (sym (le-ltb (length table) (table_length wide) l))

  module _ (free x : A) (p : ℕ) (long : table_length wide ≤ length table) where
    pub no-call : is_open wide table p ≡ false
        → free ≡ when ltb (length table) (table_length wide) then short else when non (is_open wide table p) then free else x
    unfolding non
    no-call e = long-enough _ free long (ap (λ (t : Bool). when non t then free else x) (sym e))

    pub a-call : (z : A) → is_open wide table p ≡ true → z ≡ x
        → z ≡ when ltb (length table) (table_length wide) then short else when non (is_open wide table p) then free else x
    unfolding non
    a-call z e h = long-enough _ z long (h ∙ ap (λ (t : Bool). when non t then free else x) (sym e))

-- ---- a table that is held, over the bytes l in the form w: those that were lent

module _ (l : List ℕ) (w : Bool) (long : table_length w ≤ length l) (table : List ℕ) (wide : Bool) (same : (l ≡ table) × (w ≡ wide)) where
  pub held-long : table_length wide ≤ length table
  held-long = subst (λ (v : Bool). table_length v ≤ length table) same.1 (subst (λ (k : List ℕ). table_length w ≤ length k) same.0 long)

  module _ (p : ℕ) (r : Bool) (hr : r ≡ is_open w l p) where
    pub held-open : r ≡ is_open wide table p
    held-open = hr ∙ (λ i. is_open (same.1 i) (same.0 i) p)

    pub place-free : (x : Answer) → r ≡ false → NotOpen ≡ at_place wide table p x
    place-free x f = no-call wide table BufferTooSmall NotOpen x p held-long (sym held-open ∙ f)

    pub place-taken : (x : Answer) → r ≡ true → x ≡ at_place wide table p x
    place-taken x t = a-call wide table BufferTooSmall NotOpen x p held-long x (sym held-open ∙ t) refl

  module _ (p : ℕ) (o : Option Marking) (ho : o ≡ then_some (is_open w l p) (marking_at_place w l p)) where
    seen : o ≡ then_some (is_open wide table p) (marking_at_place wide table p)
    seen = ho ∙ (λ i. then_some (is_open (same.1 i) (same.0 i) p) (marking_at_place (same.1 i) (same.0 i) p))

    pub call-closed : o ≡ None → is_open wide table p ≡ false
    call-closed e = none-then _ _ (sym e ∙ seen)

    pub call-none : (x : Answer) → o ≡ None → NotOpen ≡ at_place wide table p x
    call-none x e = no-call wide table BufferTooSmall NotOpen x p held-long (call-closed e)

    module _ (m : Marking) (e : o ≡ Some m) where
      found : (is_open wide table p ≡ true) × (m ≡ marking_at_place wide table p)
      found = some-then _ _ _ (sym e ∙ seen)

      pub call-open : is_open wide table p ≡ true
      call-open = found.0

      pub call-marking : m ≡ marking_at_place wide table p
      call-marking = found.1

      pub call-there : p < place_count
      call-there = open-below wide table p (true→T call-open)

      pub call-asked : (x z : Answer) → z ≡ x → z ≡ at_place wide table p x
      call-asked x z h = a-call wide table BufferTooSmall NotOpen x p held-long z call-open h

  -- ---- the lowest free place, on an accepted graph

  module _ (g : Graph) (a : Answer) (d : Bool) (ha : a ≡ judged g) (hd : d ≡ is_done a) where
    taken : ℕ → Bool
    taken = is_open wide table

    pub open-refused : d ≡ false → a ≡ on_table wide table (opening g (is_open wide table))
    unfolding opening
    open-refused n = long-enough wide table BufferTooSmall _ a held-long (refused a (judged g) d ha hd _ n)

    module _ (n : d ≡ true) (o : Option ℕ) (ho : o ≡ free_place (is_open w l)) where
      seen-free : o ≡ free_place (is_open wide table)
      seen-free = ho ∙ (λ i. free_place (is_open (same.1 i) (same.0 i)))

      pub open-full : o ≡ None → NoPlaceFree ≡ on_table wide table (opening g (is_open wide table))
      unfolding opening non
      open-full e =
          let full : ltb (lowest_free (is_open wide table)) place_count ≡ false = none-then _ _ (sym e ∙ seen-free) in
          long-enough wide table BufferTooSmall _ NoPlaceFree held-long
          (ap (λ (t : Bool). when t then NoPlaceFree else Done) (sym (all-taken (is_open wide table) ∙ ap non full))
          ∙ sym (passed a (judged g) d ha hd _ n))

      module _ (p : ℕ) (e : o ≡ Some p) where
        left : (ltb (lowest_free (is_open wide table)) place_count ≡ true) × (p ≡ lowest_free (is_open wide table))
        left = some-then _ _ _ (sym e ∙ seen-free)

        pub open-lowest : p ≡ lowest_free (is_open wide table)
        open-lowest = left.1

        pub open-there : p < place_count
        open-there = subst (λ (q : ℕ). q < place_count) (sym left.1) (ltb-true (lowest_free (is_open wide table)) place_count left.0)

        pub open-done : a ≡ on_table wide table (opening g (is_open wide table))
        unfolding opening non
        open-done =
            long-enough wide table BufferTooSmall _ a held-long
            (done-is a (sym hd ∙ n)
            ∙ ap (λ (t : Bool). when t then NoPlaceFree else Done) (sym (all-taken (is_open wide table) ∙ ap non left.0))
            ∙ sym (passed a (judged g) d ha hd _ n))
