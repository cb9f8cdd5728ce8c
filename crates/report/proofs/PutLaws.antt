-- Putting text into a buffer: one text after another is both, one after the other. Assumes nothing.
use mathlib.Core.Path.{◌≡◌, refl, sym, ap, subst, ◌∙◌}
use mathlib.Core.List.{List, [], ◌∷◌, ◌++◌}
use Prim.Native.Nat.{ℕ, suc, ◌+◌, ◌≤◌, ◌<◌}
use native.Mathlib.Nat.{add-zero, add-suc, suc-add}
use native.Mathlib.Numerals.{add-one}
use native.Mathlib.Omega.{arith}
use lib.ListN.{length, get_or, drop, set, length-append, drop_of_length-le}
use lib.Seq.{sets, length-sets, drop-cons}
use Rattle.report.specs.Lines.{space, decimal}
use Rattle.report.specs.Puts.{Put, Room, Wrote, named, three, four}
use Rattle.report.specs.declared.text.Page.{Page}

sets-append : (v w l : List ℕ) (i : ℕ) → sets (sets l i v) (i + length v) w ≡ sets l i (v ++ w)
sets-append [] w l i = ap (λ (k : ℕ). sets l k w) (add-zero i)
sets-append (a ∷ v) w l i =
    ap (λ (k : ℕ). sets (sets (set l i a) (suc i) v) k w) (add-suc i (length v) ∙ sym (suc-add i (length v)))
    ∙ sets-append v w (set l i a) (suc i)

-- the same of bytes at a place that is no page's
pub put-long : {o o₁ v : List ℕ} {a a₁ : ℕ} → Put o a v o₁ a₁ → length o₁ ≡ length o
put-long {o} {o₁} {v} {a} p = ap length p.bytes ∙ length-sets o a v

pub nothing-put : (o : List ℕ) (a : ℕ) → Put o a [] o a
nothing-put o a = record { place = sym (add-zero a); bytes = refl }

pub put_same : {o o₁ v w : List ℕ} {a a₁ : ℕ} → v ≡ w → Put o a v o₁ a₁ → Put o a w o₁ a₁
put_same {o} {o₁} {v} {w} {a} {a₁} e p = subst (λ (x : List ℕ). Put o a x o₁ a₁) e p

pub put_on : {o o₁ o₂ v w : List ℕ} {a a₁ a₂ : ℕ} → Put o a v o₁ a₁ → Put o₁ a₁ w o₂ a₂ → Put o a (v ++ w) o₂ a₂
put_on {o} {o₁} {o₂} {v} {w} {a} {a₁} {a₂} p q =
    let p₁ = p.place in
    let p₂ = q.place in
    record {
      place = omega (arith, length-append v w);
      bytes = q.bytes ∙ (λ i. sets (p.bytes i) (p.place i) w) ∙ sets-append v w o a;
    }

pub put-length : {p q : Page} {v : List ℕ} → Wrote p v q → length q.out.now ≡ length p.out.now
put-length f = put-long f.put

-- the same text in other words
pub put_as : {p q : Page} {v w : List ℕ} → v ≡ w → Wrote p v q → Wrote p w q
put_as {p} {q} e f = subst (λ (x : List ℕ). Wrote p x q) e f

-- one text, then another
pub put_then : {p q r : Page} {v w : List ℕ} → Wrote p v q → Wrote q w r → Wrote p (v ++ w) r
put_then f g = record { same = g.same ∙ f.same; put = put_on f.put g.put }

-- where both have room, so has the first, and after it the second
pub room-first : (p : Page) (v w : List ℕ) → Room p (v ++ w) → Room p v
room-first p v w r = omega (arith, length-append v w)

pub room-second : {p q : Page} {v : List ℕ} (w : List ℕ) → Wrote p v q → Room p (v ++ w) → Room q w
room-second {p} {q} {v} w f r = let p₁ = f.put.place in omega (arith, length-append v w, put-length f)

pub room-byte : {p q : Page} {v : List ℕ} (b : ℕ) → Wrote p v q → Room p (v ++ (b ∷ [])) → Room q (b ∷ [])
room-byte b f r = room-second (b ∷ []) f r

-- three texts, one after the other
module _ (u v w : List ℕ) (p : Page) where
  module _ (room : Room p (three u v w)) where
    pub of-three-1 : Room p u
    unfolding three
    of-three-1 = room-first p u v (room-first p (u ++ v) w room)

    pub of-three-2 : (q : Page) → Wrote p u q → Room q v
    unfolding three
    of-three-2 q f = room-second v f (room-first p (u ++ v) w room)

    pub of-three-3 : (q r : Page) → Wrote p u q → Wrote q v r → Room r w
    unfolding three
    of-three-3 q r f g = room-second w (put_then f g) room

  pub put_three : (q r s : Page) → Wrote p u q → Wrote q v r → Wrote r w s → Wrote p (three u v w) s
  unfolding three
  put_three q r s f g h = put_then (put_then f g) h

-- four
module _ (u v w x : List ℕ) (p : Page) where
  module _ (room : Room p (four u v w x)) where
    first_three : Room p (three u v w)
    unfolding three four
    first_three = room-first p (u ++ v ++ w) x room

    pub of-four-1 : Room p u
    of-four-1 = of-three-1 u v w p first_three

    pub of-four-2 : (q : Page) → Wrote p u q → Room q v
    of-four-2 q f = of-three-2 u v w p first_three q f

    pub of-four-3 : (q r : Page) → Wrote p u q → Wrote q v r → Room r w
    of-four-3 q r f g = of-three-3 u v w p first_three q r f g

    pub of-four-4 : (q r s : Page) → Wrote p u q → Wrote q v r → Wrote r w s → Room s x
    unfolding four
    of-four-4 q r s f g h = room-second x (put_then (put_then f g) h) room

  pub put_four : (q r s t : Page) → Wrote p u q → Wrote q v r → Wrote r w s → Wrote s x t → Wrote p (four u v w x) t
  unfolding four
  put_four q r s t f g h k = put_then (put_then (put_then f g) h) k

pub ruleset putting = (put_then, room-first, room-second, room-byte)

-- ---- a page of a lent buffer

-- a new page is the buffer, at its first byte
pub new-room : (o text : List ℕ) (p : Page) → p.out.now ≡ o → p.at ≡ 0 → 0 + length text ≤ length o → Room p text
new-room o text p e z r = let h = ap length e in omega arith

-- what was put into it stands in the buffer
pub new-put : (o text : List ℕ) (p q : Page) (o' : List ℕ) → p.out.now ≡ o → p.at ≡ 0 → Wrote p text q → o' ≡ q.out.now → Put o 0 text o' q.at
new-put o text p q o' e z f g =
    record {
      place = f.put.place ∙ ap (λ (k : ℕ). k + length text) z;
      bytes = g ∙ f.put.bytes ∙ (λ i. sets (e i) (z i) text);
    }

-- ---- a loop that puts a text part by part: with what is left put from here on, the whole text is put

pub record Left (p : Page) (whole : List ℕ) (q : Page) (left : List ℕ) : Type 0 where
  pub same : q.out.ghost_name ≡ p.out.ghost_name
  pub long : length q.out.now ≡ length p.out.now
  pub place : q.at + length left ≡ p.at + length whole
  pub bytes : sets q.out.now q.at left ≡ sets p.out.now p.at whole

pub left-all : (p : Page) (whole : List ℕ) → Left p whole p whole
left-all p whole = record { same = refl; long = refl; place = refl; bytes = refl }

module _ {p : Page} {whole : List ℕ} {q : Page} {left : List ℕ} (l : Left p whole q left) where
  pub left_as : {left' : List ℕ} → left ≡ left' → Left p whole q left'
  left_as e = subst (λ (x : List ℕ). Left p whole q x) e l

  pub left-none : left ≡ [] → Wrote p whole q
  left-none e =
      record {
        same = l.same;
        put = record {
          place = sym (add-zero q.at) ∙ ap (λ (x : List ℕ). q.at + length x) (sym e) ∙ l.place;
          bytes = ap (sets q.out.now q.at) (sym e) ∙ l.bytes;
        };
      }

  pub left-room : (v rest : List ℕ) → left ≡ v ++ rest → Room p whole → Room q v
  left-room v rest e r =
      let a = l.place in
      let n = l.long in
      let f = ap length e in
      omega (arith, length-append v rest)

  pub left-next : {v : List ℕ} {r : Page} (rest : List ℕ) → left ≡ v ++ rest → Wrote q v r → Left p whole r rest
  left-next {v} {r} rest e f =
      let b = f.put.place in
      let n = ap length e in
      let here = l.place in
      record {
        same = f.same ∙ l.same;
        long = put-length f ∙ l.long;
        place = omega (arith, length-append v rest);
        bytes = (λ i. sets (f.put.bytes i) (f.put.place i) rest) ∙ sets-append v rest q.out.now q.at ∙ ap (sets q.out.now q.at) (sym e) ∙ l.bytes;
      }

-- ---- one byte after another of a word

module _ (p : Page) (word : List ℕ) (q : Page) (i : ℕ) (l : Left p word q (drop i word)) where
  one-byte : i < length word → drop i word ≡ (get_or word i 0 ∷ []) ++ drop (i + 1) word
  one-byte h = drop-cons word i 0 h ∙ ap (λ (k : ℕ). get_or word i 0 ∷ drop k word) (sym (add-one i))

  pub byte-room : i < length word → Room p word → Room q (get_or word i 0 ∷ [])
  byte-room h r = left-room l (get_or word i 0 ∷ []) (drop (i + 1) word) (one-byte h) r

  pub byte_next : (r : Page) → i < length word → Wrote q (get_or word i 0 ∷ []) r → Left p word r (drop (i + 1) word)
  byte_next r h f = left-next l (drop (i + 1) word) (one-byte h) f

  pub byte_last : length word ≤ i → Wrote p word q
  byte_last h = left-none l (drop_of_length-le word h)

-- ---- a word and a number

pub named-room : (p : Page) (word : List ℕ) (n end : ℕ) → Room p (named word n end) → Room p (word ++ (space ∷ []))
unfolding named
named-room p word n end r = room-first p (word ++ (space ∷ [])) _ r

module _ (p q : Page) (word : List ℕ) (n end : ℕ) (f : Wrote p (word ++ (space ∷ [])) q) where
  pub named-second : Room p (named word n end) → Room q (decimal n ++ (end ∷ []))
  unfolding named
  named-second r = room-second (decimal n ++ (end ∷ [])) f r

  pub put_both : (r : Page) → Wrote q (decimal n ++ (end ∷ [])) r → Wrote p (named word n end) r
  unfolding named
  put_both r g = put_then f g

pub ruleset naming = (named-room, named-second, put_both)
