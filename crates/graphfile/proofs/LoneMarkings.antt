-- A marking by itself in bytes, from a place on: what the code reads and stores there; that what is stored is read again, and does not show
-- elsewhere. Assumes nothing.
use mathlib.Core.Path.{◌≡◌, refl, sym, ap, ◌∙◌}
use mathlib.Core.Bool.{Bool, true, false}
use mathlib.Core.Logic.{inl, inr}
use mathlib.Core.List.{List, ◌++◌}
use Prim.Native.Nat.{ℕ, ◌+◌, ◌*◌, ◌≤◌}
use native.Mathlib.Omega.{arith}
use borrow.Author.Tests.{le-ltb, ltb-false}
use lib.Dec.{ltb}
use lib.ListN.{length, take, drop, length-append}
use lib.Seq.{sets, length-sets, drop-drop}
use Rattle.sets.specs.Tests.{when◌then◌else◌}
use Rattle.octets.specs.Numbers.{little_endian}
use Rattle.sets.proofs.Members.{Whole}
use Rattle.octets.specs.Sets.{set_length, set_bytes, set_at, set_put}
use Rattle.octets.proofs.SetLaws.{Holds}
use Rattle.octets.proofs.Parts.{part, follow, Apart, drop-stored}
use Rattle.octets.proofs.SetLaws.{length-set, set-stored, set-read, set_apart}
use Rattle.engine.specs.Markings.{empty_marking, state_of, marking_of}
use Rattle.engine.specs.declared.marking.Marking.{Marking}
use Rattle.graphfile.specs.Layout.{state_length, marking_at}
use Rattle.graphfile.specs.Writing.{state_bytes}
use Rattle.graphfile.specs.Markings.{marking_length, marking_bytes, marking_held, marking_put}
use Rattle.graphfile.proofs.Stores.{length-state}

-- ---- ways through the code

module _ (wide : Bool) (bytes : List ℕ) (at : ℕ) (few : Bool) (n : ℕ) (hn : n ≡ marking_length wide) (e₀ : few ≡ ltb (length bytes) (at + n)) where
  e : few ≡ ltb (length bytes) (at + marking_length wide)
  e = e₀ ∙ ap (λ (k : ℕ). ltb (length bytes) (at + k)) hn

  pub marking-room : few ≡ false → at + marking_length wide ≤ length bytes
  marking-room h = ltb-false (length bytes) (at + marking_length wide) (sym e ∙ h)

  pub marking-room-not : few ≡ false → at + marking_length wide ≤ length bytes
  marking-room-not h = marking-room (h)

  pub held_none : few ≡ true → empty_marking ≡ marking_held wide bytes at
  unfolding marking_held
  held_none h = ap (λ (t : Bool). when t then empty_marking else marking_at wide bytes at) (sym h ∙ e)

  pub held-some : (m : Marking) → few ≡ false → m ≡ marking_at wide bytes at → m ≡ marking_held wide bytes at
  unfolding marking_held
  held-some m h k = k ∙ ap (λ (t : Bool). when t then empty_marking else marking_at wide bytes at) (sym h ∙ e)

  pub put-nothing : (m : Marking) → few ≡ true → bytes ≡ marking_put wide m bytes at
  unfolding marking_put
  put-nothing m h =
      ap (λ (t : Bool). when t then bytes else sets bytes at (marking_bytes wide m)) (sym (h) ∙ e)

  pub put_some : (m : Marking) (bytes' : List ℕ) → few ≡ false → bytes' ≡ sets bytes at (marking_bytes wide m) → bytes' ≡ marking_put wide m bytes at
  unfolding marking_put
  put_some m bytes' h k = k ∙ ap (λ (t : Bool). when t then bytes else sets bytes at (marking_bytes wide m)) (sym (h) ∙ e)

pub ruleset lone = (marking-room, marking-room-not, held_none, held-some, put-nothing, put_some)

pub length-marking : (wide : Bool) (m : Marking) → length (marking_bytes wide m) ≡ marking_length wide
unfolding marking_bytes
length-marking wide m = simp length-append (omega (arith, length-state wide m.state, length-set wide m.enabled))

-- what a file holds of a marking, then the set
pub marking-stored : (wide : Bool) (o o₁ o₂ : List ℕ) (m : Marking) (at n : ℕ) → n ≡ set_length wide → at + marking_length wide ≤ length o
    → o₁ ≡ sets o at (state_bytes wide m.state) → o₂ ≡ set_put wide o₁ (at + 3 * n) m.enabled → o₂ ≡ sets o at (marking_bytes wide m)
unfolding marking_bytes
marking-stored wide o o₁ o₂ m at n hn room h₁ h₂ =
    let kept = ap length h₁ ∙ length-sets o at (state_bytes wide m.state) in
    follow o o₁ o₂ (state_bytes wide m.state) (set_bytes wide m.enabled) at (at + 3 * n) (omega (arith, length-state wide m.state)) h₁
    (set-stored wide o₁ o₂ (at + 3 * n) m.enabled h₂ (omega arith))

-- ---- where there is room, the marking is read and stored

pub held-there : (wide : Bool) (bytes : List ℕ) (at : ℕ) → at + marking_length wide ≤ length bytes → marking_held wide bytes at ≡ marking_at wide bytes at
held-there wide bytes at h =
    sym (held-some wide bytes at false _ refl (sym (le-ltb (length bytes) (at + marking_length wide) h)) (marking_at wide bytes at) refl refl)

pub put-there : (wide : Bool) (m : Marking) (bytes : List ℕ) (at : ℕ) → at + marking_length wide ≤ length bytes
    → marking_put wide m bytes at ≡ sets bytes at (marking_bytes wide m)
put-there wide m bytes at h = sym (put_some wide bytes at false _ refl (sym (le-ltb (length bytes) (at + marking_length wide) h)) m _ refl refl)

-- ---- what is stored does not show elsewhere

pub marking-apart : (wide : Bool) (l : List ℕ) (at i : ℕ) (vs : List ℕ) → Apart at (marking_length wide) i (length vs)
    → marking_at wide (sets l i vs) at ≡ marking_at wide l at
marking-apart wide l at i vs h j =
    marking_of (state_of (kept at (omega arith) (omega arith) h j) (kept (at + set_length wide) (omega arith) (omega arith) h j)
    (kept (at + 2 * set_length wide) (omega arith) (omega arith) h j)) (kept (at + state_length wide) (omega arith) (omega arith) h j)
  where
    kept : (k : ℕ) → at ≤ k → k + set_length wide ≤ at + marking_length wide → Apart at (marking_length wide) i (length vs) → set_at wide (sets l i vs) k ≡ set_at wide l k
    kept k a b (inl c) = set_apart wide l k i vs (inl (omega arith))
    kept k a b (inr c) = set_apart wide l k i vs (inr (omega arith))

-- ---- what is stored is read again

-- a marking as every marking of the code is
pub record WholeMarking (m : Marking) : Type 0 where
  pub executed : Whole m.state.executed
  pub pending : Whole m.state.pending
  pub included : Whole m.state.included
  pub enabled : Whole m.enabled

-- and whose sets the form can hold
pub record HeldMarking (wide : Bool) (m : Marking) : Type 0 where
  pub executed : Holds wide m.state.executed
  pub pending : Holds wide m.state.pending
  pub included : Holds wide m.state.included
  pub enabled : Holds wide m.enabled

-- the four sets stand one after the other in a marking's bytes
marking-parts : (wide : Bool) (m : Marking) (rest : List ℕ)
    → (take (set_length wide) (marking_bytes wide m ++ rest) ≡ set_bytes wide m.state.executed)
    × (take (set_length wide) (drop (set_length wide) (marking_bytes wide m ++ rest)) ≡ set_bytes wide m.state.pending)
    × (take (set_length wide) (drop (2 * set_length wide) (marking_bytes wide m ++ rest)) ≡ set_bytes wide m.state.included)
    × (take (set_length wide) (drop (state_length wide) (marking_bytes wide m ++ rest)) ≡ set_bytes wide m.enabled)
unfolding marking_bytes state_bytes set_bytes little_endian
marking-parts true m rest = (refl, refl, refl, refl)
marking-parts false m rest = (refl, refl, refl, refl)

pub marking-back : (wide : Bool) (l : List ℕ) (at : ℕ) (m : Marking) → at + marking_length wide ≤ length l → WholeMarking m → HeldMarking wide m
    → marking_at wide (sets l at (marking_bytes wide m)) at ≡ m
marking-back wide l at m h w k j =
    let parts = marking-parts wide m (drop (at + length (marking_bytes wide m)) l) in
    marking_of
    (state_of
    (set-read wide stored at m.state.executed (ap (take (set_length wide)) begun ∙ parts.0) w.executed k.executed j)
    (set-read wide stored (at + set_length wide) m.state.pending (further (set_length wide) ∙ parts.1) w.pending k.pending j)
    (set-read wide stored (at + 2 * set_length wide) m.state.included (further (2 * set_length wide) ∙ parts.2) w.included k.included j))
    (set-read wide stored (at + state_length wide) m.enabled (further (state_length wide) ∙ parts.3) w.enabled k.enabled j)
  where
    stored : List ℕ
    stored = sets l at (marking_bytes wide m)

    begun : drop at stored ≡ marking_bytes wide m ++ drop (at + length (marking_bytes wide m)) l
    begun = drop-stored l at (marking_bytes wide m) (omega (arith, length-marking wide m))

    further : (n : ℕ) → part stored (at + n) (set_length wide) ≡ take (set_length wide) (drop n (marking_bytes wide m ++ drop (at + length (marking_bytes wide m)) l))
    further n = ap (take (set_length wide)) (sym (drop-drop n at stored) ∙ ap (drop n) begun)
